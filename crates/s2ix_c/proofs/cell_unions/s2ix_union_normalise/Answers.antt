-- No cells have no leaf.
use Rattle.std.proofs.Common.{◌∙◌, ap, length, map, sym}
use Rattle.std.proofs.lemmas.Bool.{eqb-true}
use Rattle.s2id_core.specs.CellId.{raw_of}
use Rattle.s2ix_c_calls.proofs.NoCells.{lists_nothing, no_normal}
use Rattle.s2ix_c.specs.CellUnions.{normal_numbers}
use Rattle.s2ix_c.proofs.cell_unions.s2ix_union_normalise.Goals as goal

pub returns-then-is_empty-clause-list : goal.returns-then-is_empty-clause-list
returns-then-is_empty-clause-list c =
    lists_nothing c.args.out.now normal_numbers c.args.ids.now (eqb-true (length c.args.ids.now) 0 (sym c.is_empty.ensures ∙ c.if-is_empty.true))
    (ap (map raw_of) no_normal)
