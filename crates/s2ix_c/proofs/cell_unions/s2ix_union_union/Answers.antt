-- No leaf is one of no cells'.
use Rattle.std.proofs.Common.{◌∙◌, length, sym, refl}
use Rattle.std.specs.Prelude.{◌||◌}
use Rattle.std.proofs.lemmas.Bool.{eqb-true}
use Rattle.s2ix_c.proofs.OfNone.{none_of_either, two_checked, two_want}
use Rattle.s2ix_c.specs.CellUnions.{numbers_by}
use Rattle.s2ix_c.proofs.cell_unions.s2ix_union_union.Goals as goal

pub returns-then-is_empty-2-clause-list : goal.returns-then-is_empty-2-clause-list
returns-then-is_empty-2-clause-list c =
    let none = eqb-true (length c.args.first.now) 0 (sym c.is_empty.ensures ∙ c.if-is_empty.true) in
    let no_more = eqb-true (length c.args.second.now) 0 (sym c.is_empty-then-is_empty.ensures ∙ c.if-is_empty-2.true) in
    two_checked (numbers_by (λ a b. a || b)) c.args.first.now c.args.second.now c.args.out.now c.check_both.result c.check_both.new.number
    c.check_both.ensures.right c.check_both.ensures.wrong (λ a b first second. none_of_either a b (first none) (second no_more))

pub returns-in-Ok-clause-list : goal.returns-in-Ok-clause-list
returns-in-Ok-clause-list c =
    two_want (numbers_by (λ a b. a || b)) c.args.first.now c.args.second.now c.args.out.now _ c.normals_of.new.number refl c.in-Ok.ensures.right
    c.in-Ok.ensures.first.0 c.in-Ok.ensures.second.0 c.in-Ok.ensures.first.1 c.in-Ok.ensures.second.1
