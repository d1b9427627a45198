-- Each odd number below the end is that of a leaf.
use Rattle.std.proofs.Common.{Option, false, refl, subst}
use Rattle.std.proofs.lemmas.Bool.{both_ways}
use Rattle.std.specs.Option.{IsSome}
use Rattle.s2id_core.specs.declared.cell_id.CellId.{CellId}
use Rattle.s2id_core.proofs.Nested.{leaf_of_odd}
use Rattle.s2ix_table_heavy.proofs.heavy_table.leaf_numbered.Goals as goal

pub unreachable-requires : goal.unreachable-requires
unreachable-requires c =
    let some = c.from_raw.ensures.found.1 (leaf_of_odd c.args.number c.requires.odd c.requires.ends).0 in
    both_ways false refl (subst (λ (o : Option CellId). IsSome o) c.in-None.is some)
