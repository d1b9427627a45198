-- No cells have no leaf.
use Rattle.std.proofs.Common.{◌∙◌, length, sym}
use Rattle.std.proofs.lemmas.Bool.{eqb-true}
use Rattle.s2ix_c.proofs.OfNone.{are_some, counts_none, counts_refused}
use Rattle.s2ix_c.proofs.cell_unions.s2ix_union_leaf_count.Goals as goal

pub returns-then-is_empty : goal.returns-then-is_empty
returns-then-is_empty c = counts_none c.args.ids.now (eqb-true (length c.args.ids.now) 0 (sym c.is_empty.ensures ∙ c.if-is_empty.true))

pub returns-in-Err : goal.returns-in-Err
returns-in-Err c =
    counts_refused c.args.ids.now c.in-Err.why c.normal_of.new.number (are_some c.args.ids.now (sym c.is_empty.ensures ∙ c.if-is_empty.false))
    c.in-Err.ensures.refused
