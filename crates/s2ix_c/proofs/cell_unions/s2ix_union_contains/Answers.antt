-- The answer is that of the cell that has the number; no leaf is one of no cells'.
use Rattle.std.proofs.Common.{◌∙◌, length, subst, sym}
use Rattle.std.proofs.lemmas.Bool.{eqb-true}
use Rattle.s2id_core.specs.Cell.{IsCellNumber}
use Rattle.s2id_union.specs.Region.{HasAllOf}
use Rattle.s2ix_c.proofs.OfCells.{decided}
use Rattle.s2ix_c.proofs.OfNone.{are_some, decides_none, decides_refused, has_none}
use Rattle.s2ix_c.proofs.cell_unions.s2ix_union_contains.Goals as goal

pub returns : goal.returns
returns c =
    decided HasAllOf c.args.ids.now c.args.cell c.in-Ok.union c.in-Some.cell c.contains.result c.in-Some.ensures.number c.in-Ok.ensures.union c.contains.ensures

pub returns-then-is_empty : goal.returns-then-is_empty
returns-then-is_empty c =
    let valid = subst IsCellNumber c.in-Some.ensures.number c.in-Some.cell.valid in
    decides_none HasAllOf c.args.ids.now c.args.cell valid (eqb-true (length c.args.ids.now) 0 (sym c.is_empty.ensures ∙ c.if-is_empty.true))
    (has_none c.args.cell valid)

pub returns-in-Err : goal.returns-in-Err
returns-in-Err c =
    let valid = subst IsCellNumber c.in-Some.ensures.number c.in-Some.cell.valid in
    decides_refused HasAllOf c.args.ids.now c.args.cell c.in-Err.why c.normal_of.new.number valid
    (are_some c.args.ids.now (sym c.is_empty.ensures ∙ c.if-is_empty.false)) c.in-Err.ensures.refused
