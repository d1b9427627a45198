use Rattle.std.proofs.Common.{arith}
use Rattle.s2id_core.proofs.Bits.{places_fit, shifted_place, cell_at_place, level_at_place, place_at_place}
use Rattle.s2id_core.proofs.cell_id.CellId.at_place.Goals as goal

pub overflow_mul-result : goal.overflow_mul-result
overflow_mul-result c = let fits = places_fit c.args.level c.args.place c.requires.fine c.requires.within in omega arith

pub overflow_add-result : goal.overflow_add-result
overflow_add-result c = let fits = places_fit c.args.level c.args.place c.requires.fine c.requires.within in omega arith

pub invariant_of-result : goal.invariant_of-result
invariant_of-result c = record {
  valid = cell_at_place c.args.level c.args.place _ c.requires.fine c.requires.within (shifted_place c.args.level c.args.place c.requires.fine c.requires.within);
}

pub returns-clause-level : goal.returns-clause-level
returns-clause-level c =
    level_at_place c.args.level c.args.place _ c.requires.fine (shifted_place c.args.level c.args.place c.requires.fine c.requires.within)

pub returns-clause-place : goal.returns-clause-place
returns-clause-place c =
    place_at_place c.args.level c.args.place _ c.requires.fine (shifted_place c.args.level c.args.place c.requires.fine c.requires.within)
