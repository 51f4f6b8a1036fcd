use native.Mathlib.Omega.{arith}
use borrow.Author.Rules.{rules}
use lib.ListN.{length-set}
use Rattle.position.proofs.FilledByte.{left_whole, left_behind, nothing_left, none_filled, byte_filled, all_filled}
use Rattle.position.proofs.words.put_chunk.Goals as goal

pub loop-j-init : goal.loop-j-init
loop-j-init c =
    (search rules, left_whole c.args.at c.args.value c.ranges.value.fits, none_filled c.args.at c.args.value c.args.before)

pub loop-j-preserved : goal.loop-j-preserved
loop-j-preserved c =
    let args = c.args in
    let loop = c.loop-j in
    let (long, left, filled) = loop.invariant in (
      simp length-set long,
      left_behind args.at args.value loop.j loop.rest left,
      byte_filled args.at args.value args.before loop.word loop.j loop.rest (omega arith) left filled,
    )

pub returns-then-rest-eq0 : goal.returns-then-rest-eq0
returns-then-rest-eq0 c =
    let args = c.args in
    let loop = c.loop-j in
    let (long, left, filled) = loop.invariant in
    let none = nothing_left args.at args.value loop.j (rw c.if-rest-eq0.true at left) in
    all_filled args.at args.value args.before loop.word loop.j args.len (λ p h l. none p h) c.requires.2 c.requires.3 filled

pub returns-after-loop-j : goal.returns-after-loop-j
returns-after-loop-j c =
    let args = c.args in
    let loop = c.loop-j in
    all_filled args.at args.value args.before loop.word loop.j args.len (λ p h l. absurd (omega arith)) c.requires.2 c.requires.3
    loop.invariant.2
