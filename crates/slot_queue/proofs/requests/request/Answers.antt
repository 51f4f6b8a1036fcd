-- `slot_queue::requests::request` meets its contract: refused, or the tram joins or holds. Assumes nothing.
use Rattle.std.proofs.Common.{sym, Err}
use Rattle.model.specs.RequestTrack.{request_served, request_answer}
use Rattle.code_theory.proofs.RefusalRows.{served_if_none}
use Rattle.yard_theory.proofs.PassedRows.{request_passed}
use Rattle.slot_queue.proofs.Checked.{refused_as, not_refused}
use Rattle.slot_queue.proofs.requests.request.Goals as goal

pub returns-in-Err : goal.returns-in-Err
unfolding request_answer
returns-in-Err c = refused_as _ tt c.in-Err.refusal (λ e. record { answer = Err e; yard = c.args.yard }) _ c.in-Err.ensures

pub join-requires : goal.join-requires
join-requires c =
    let passed = request_passed c.args.yard c.args.tram c.args.track (not_refused _ _ _ c.in_default.ensures) in
    (passed.on_yard, passed.room (sym c.if-is_held.ensures))

pub returns-then-is_held : goal.returns-then-is_held
unfolding request_answer request_served
returns-then-is_held c =
    rw (served_if_none _ _ _ (not_refused _ _ _ c.in_default.ensures), ← c.if-is_held.ensures, c.join.ensures)

pub hold-requires : goal.hold-requires
hold-requires c = (request_passed c.args.yard c.args.tram c.args.track (not_refused _ _ _ c.in_default.ensures)).on_yard

pub returns : goal.returns
unfolding request_answer request_served
returns c =
    rw (served_if_none _ _ _ (not_refused _ _ _ c.in_default.ensures), ← c.if-is_held.ensures, c.hold.ensures)
