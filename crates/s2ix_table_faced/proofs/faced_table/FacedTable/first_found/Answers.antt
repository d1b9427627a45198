use Rattle.std.proofs.Common.{◌≡◌, ◌%◌, ℕ, ◌+◌, ◌<◌, length, refl, sym, arith, subst}
use Rattle.s2id_core.specs.CellId.{raw_of}
use Rattle.s2id_core.proofs.Nested.{leaf_span, span}
use Rattle.s2ix_bag_pairs.specs.Collection.{Collection}
use Rattle.s2ix_table_walk.specs.Places.{LeadsTo}
use Rattle.s2ix_table_walk.specs.Table.{IsFound}
use Rattle.s2ix_table_parts.specs.FaceSpans.{spans_of, table_of}
use Rattle.s2ix_table_faced.specs.Layout.{ranges_of}
use Rattle.s2ix_table_faced.specs.Offsets.{place_on}
use Rattle.s2ix_table_faced.specs.PartPlaces.{faced_chain}
use Rattle.s2ix_table_faced.proofs.FirstParts.{length_starts}
use Rattle.s2ix_table_faced.proofs.Reading.{found_in, place_of}
use Rattle.s2ix_table_faced.proofs.faced_table.FacedTable.first_found.Goals as goal

pub returns : goal.returns
returns c =
    let t = c.args.self.now in
    let leaf = c.args.leaf in
    let part = c.args.part in
    let within : part < length (spans_of t.parts.items) = omega (arith, c.requires.part.within, length_starts t.joined) in
    let own = (leaf_span (raw_of leaf) leaf.valid c.requires.leaf).0 in
    let begins = (span (raw_of leaf) leaf.valid).odd in
    let odd : raw_of leaf % 2 ≡ 1 = omega arith in
    let place = place_on t.offsets.items part c.args.found in
    let found : IsFound (ranges_of t.parts.items t.heavy) place (raw_of leaf) =
    subst (λ (p : ℕ). IsFound (ranges_of t.parts.items t.heavy) (p + c.args.found) (raw_of leaf))
    (sym (place_of part 0 t.joined within))
    (found_in part c.args.found (raw_of leaf) (table_of (spans_of t.parts.items) part) t.joined within refl c.requires.found) in
    let shared = t.table.shared place (raw_of leaf) found.within odd found.start found.limit in
    subst (λ (hs : Collection). LeadsTo (faced_chain (spans_of t.parts.items) t.heavy) c.first_at.result hs) (sym shared) c.first_at.ensures
