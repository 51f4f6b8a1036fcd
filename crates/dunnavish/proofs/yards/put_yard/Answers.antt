use Rattle.std.proofs.Common.{◌≡◌, refl, ◌∙◌, ◌+◌, ◌-◌, arith, below_none, length-set}
use mathlib.Core.Logic.{inl, inr}
use Rattle.dunnavish.specs.YardNumbers.{holders_at, count_at, trams_at, tracks_at, yard_count, number_at, yard_numbers}
use Rattle.dunnavish.proofs.StoredRuns.{run_kept, run_more, run_joined, run_of_all}
use Rattle.dunnavish.proofs.YardNumbers.{flag_number, holder_number, count_number, tram_number, track_number}
use Rattle.dunnavish.proofs.yards.put_yard.Goals as goal

pub loop-track-preserved : goal.loop-track-preserved
loop-track-preserved c =
    let yard = c.args.yard in
    let f = number_at yard in
    let t = c.loop-track.track in
    let numbers = c.loop-track.numbers in
    let back : holders_at + t - holders_at ≡ t = omega arith in
    let holder = holder_number yard (holders_at + t) (omega arith) (omega arith) in
    record {
      flags = run_kept f 0 (t + 1) (holders_at + t) _ _ (inr (omega arith))
          (run_more f 0 t t _ numbers (omega arith) (omega arith) (c.slot_numbers-flag.ensures.0 ∙ flag_number yard t (omega arith)) c.loop-track.invariant.flags);
      holders = run_more f holders_at t (holders_at + t) _ _ refl (rw length-set (omega arith)) (c.slot_numbers-flag.ensures.1 ∙ rw back at holder)
          (run_kept f holders_at t t _ numbers (inl (omega arith)) c.loop-track.invariant.holders);
    }

pub loop-i-init : goal.loop-i-init
loop-i-init c =
    let yard = c.args.yard in
    let f = number_at yard in
    let numbers = c.loop-track.numbers in
    let t : c.loop-track.track ≡ holders_at = omega arith in
    let two = run_joined f 0 holders_at holders_at holders_at numbers (omega arith) (rw t at c.loop-track.invariant.flags) (rw t at c.loop-track.invariant.holders) in
    record {
      size = length-set numbers _ _ ∙ c.loop-track.auto.numbers ∙ c.requires.1;
      before = run_more f 0 count_at count_at _ numbers (omega arith) (omega arith) (count_number yard count_at (omega arith) (omega arith) (omega arith)) two;
      trams = below_none _;
      tracks = below_none _;
    }

pub loop-i-preserved : goal.loop-i-preserved
loop-i-preserved c =
    let yard = c.args.yard in
    let f = number_at yard in
    let i = c.loop-i.i in
    let numbers = c.loop-i.numbers in
    let tram_back : trams_at + i - trams_at ≡ i = omega arith in
    let track_back : tracks_at + i - tracks_at ≡ i = omega arith in
    let tram = tram_number yard (trams_at + i) (omega arith) (omega arith) (omega arith) (omega arith) in
    let track = track_number yard (tracks_at + i) (omega arith) (omega arith) (omega arith) (omega arith) in
    record {
      size = length-set _ _ _ ∙ length-set numbers _ _ ∙ c.loop-i.invariant.size;
      before = run_kept f 0 trams_at (tracks_at + i) _ _ (inr (omega arith)) (run_kept f 0 trams_at (trams_at + i) _ _ (inr (omega arith)) c.loop-i.invariant.before);
      trams = run_kept f trams_at (i + 1) (tracks_at + i) _ _ (inr (omega arith))
          (run_more f trams_at i (trams_at + i) _ numbers refl (omega arith) (rw tram_back at tram) c.loop-i.invariant.trams);
      tracks = run_more f tracks_at i (tracks_at + i) _ _ refl (rw length-set (omega arith)) (rw track_back at track)
          (run_kept f tracks_at i (trams_at + i) _ numbers (inl (omega arith)) c.loop-i.invariant.tracks);
    }

pub returns : goal.returns
unfolding yard_numbers
returns c =
    let yard = c.args.yard in
    let f = number_at yard in
    let numbers = c.loop-i.numbers in
    let all : c.loop-i.i ≡ 32 = omega arith in
    run_of_all f yard_count numbers c.loop-i.invariant.size
    (run_joined f 0 tracks_at tracks_at 32 numbers (omega arith)
    (run_joined f 0 trams_at trams_at 32 numbers (omega arith) c.loop-i.invariant.before (rw all at c.loop-i.invariant.trams))
    (rw all at c.loop-i.invariant.tracks))
