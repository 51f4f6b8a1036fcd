-- `dunnavish::words::dunnavish_read_word` meets its contract: the count of the lent numbers, then the library's answer. Assumes nothing.
use mathlib.Core.Path.{refl}
use Rattle.model.specs.ReadWord.{read_values, read_expected}
use Rattle.dunnavish.specs.Decoding.{read_left}
use Rattle.dunnavish.proofs.Inherited.{wrong_count_lem, refused, served}
use Rattle.dunnavish.proofs.ReadsDecode.{read_decodes}
use Rattle.dunnavish.proofs.ReadsCross.{PromisedOfRead, read_crosses}
use Rattle.dunnavish.proofs.words.dunnavish_read_word.Goals as goal
use Rattle.model.specs.Refusals.{Refused, status_of}
use Rattle.model.specs.Refusals.{values_by}

pub returns-then-values-ne5 : goal.returns-then-values-ne5
returns-then-values-ne5 c =
    let all = read_crosses _ _ _ _ _ (wrong_count_lem status_of read_values Refused read_left (PromisedOfRead _ _) _ _ c.if-values-ne5.true) in
    record {
      status = all.0;
      left = all.1.0;
      unchanged = all.1.1.0;
      bounded = all.1.1.1.0;
      sharper = all.1.1.1.1.0;
      promises = all.1.1.1.1.1;
    }

pub returns-in-Err : goal.returns-in-Err
unfolding status_of values_by read_expected read_left
returns-in-Err c =
    let met = c.read_word.ensures in
    let all = read_crosses _ _ _ _ _
    (refused status_of read_values Refused read_left (PromisedOfRead _ _) _ _ c.if-values-ne5.false _ (
      met.answer,
      (
        met.status,
        (
          met.values,
          (met.bounded, (met.sharper, met.promises)),
        ),
      ),
    ) refl _
    c.in-Err.is refl refl _ refl) in
    record {
      status = all.0;
      left = all.1.0;
      unchanged = all.1.1.0;
      bounded = all.1.1.1.0;
      sharper = all.1.1.1.1.0;
      promises = all.1.1.1.1.1;
    }

pub returns-in-Ok : goal.returns-in-Ok
unfolding status_of values_by
returns-in-Ok c =
    let met = c.read_word.ensures in
    let all = let given = c.in-Ok.is in
    let is = met.answer in
    read_crosses _ _ _ _ _
    (served status_of read_values Refused read_left (PromisedOfRead _ _) _ _ c.if-values-ne5.false _ (
      met.answer,
      (
        met.status,
        (
          met.values,
          (met.bounded, (met.sharper, met.promises)),
        ),
      ),
    ) _ _
    given refl c.put_reading.ensures (read_decodes _ _ given _ is met.promises.bits)) in
    record {
      status = all.0;
      left = all.1.0;
      unchanged = all.1.1.0;
      bounded = all.1.1.1.0;
      sharper = all.1.1.1.1.0;
      promises = all.1.1.1.1.1;
    }
