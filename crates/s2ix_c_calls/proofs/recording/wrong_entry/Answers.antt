-- The tests of the rows are those of the entries that they give.
use Rattle.std.proofs.Common.{◌∙◌, refl}
use Rattle.s2ix_c_calls.proofs.OfEntries.{are_change, equal_lacks, first_equal}
use Rattle.s2ix_c_calls.proofs.recording.wrong_entry.Goals as goal

pub returns-clause-right : goal.returns-clause-right
returns-clause-right c _ =
    let rows = c.args.rows.now in
    let right = c.in_default.ensures.right refl in (
      are_change rows right.0 (λ entries given. c.in_default-unsorted_place.ensures entries given)
          (λ entries given. c.in_default-equal_place.ensures ∙ first_equal rows entries given),
      right.1,
    )

pub returns-in-Some-equal_place-clause-wrong : goal.returns-in-Some-equal_place-clause-wrong
returns-in-Some-equal_place-clause-wrong c =
    let rows = c.args.rows.now in
    equal_lacks rows c.in-Some-equal_place.place (c.in_default.ensures.right refl).0
    (λ entries given. c.in_default-unsorted_place.ensures entries given)
    (λ entries given. c.in-Some-equal_place.ensures ∙ first_equal rows entries given)
