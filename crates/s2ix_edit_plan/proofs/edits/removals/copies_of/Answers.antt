use Rattle.std.proofs.Common.{◌≡◌, Err, true, ap, subst}
use Rattle.s2ix_bag_pairs.specs.Collection.{LimitedCollection}
use Rattle.s2ix_edit_plan.specs.Refusals.{has_count_above_every_limit}
use Rattle.s2ix_edit_plan.specs.Rows.{with_rows}
use Rattle.s2ix_edit_plan.proofs.Removals.{lacks_many}
use Rattle.s2ix_edit_plan.proofs.edits.removals.copies_of.Goals as goal

pub returns-in-Err-TooManyCopies : goal.returns-in-Err-TooManyCopies
returns-in-Err-TooManyCopies c =
    let High : LimitedCollection → Type 0 = λ bag. has_count_above_every_limit (with_rows c.args.rows.now bag.held) ≡ true in
    lacks_many c.args.bag.now c.args.rows.now c.requires
    (subst High c.empty.ensures
    (c.in-Err-TooManyCopies.ensures.copies (ap Err c.in-Err-TooManyCopies.field-0-is)))
