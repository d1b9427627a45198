use Rattle.std.proofs.Common.{ℕ, ◌+◌, ◌<◌, length, arith, refl, subst, sym}
use Rattle.s2id_core.specs.CellId.{raw_of}
use Rattle.s2ix_table_walk.specs.Table.{IsFound}
use Rattle.s2ix_table_parts.specs.FaceSpans.{spans_of, table_of}
use Rattle.s2ix_table_faced.specs.Layout.{ranges_of}
use Rattle.s2ix_table_faced.proofs.FirstParts.{length_starts}
use Rattle.s2ix_table_faced.proofs.Reading.{found_in, place_of}
use Rattle.s2ix_table_faced.proofs.faced_table.FacedTable.own_found.Goals as goal

pub returns-clause-found : goal.returns-clause-found
returns-clause-found c =
    let t = c.args.self.now in
    let part = c.part_with-part.result in
    let within : part < length (spans_of t.parts.items) = omega (arith, c.part_with-part.ensures.within, length_starts t.joined) in
    subst (λ (place : ℕ). IsFound (ranges_of t.parts.items t.heavy) (place + c.found_in.result) (raw_of c.args.leaf))
    (sym (place_of part 0 t.joined within))
    (found_in part c.found_in.result (raw_of c.args.leaf) (table_of (spans_of t.parts.items) part) t.joined within refl c.found_in.ensures)
