-- With the changed chunk the same parts lie under the same chunks.
use Rattle.std.proofs.Common.{◌≡◌, ◌≤◌, Contains, length, set, rules}
use Rattle.s2ix_bag_lists.specs.Faces.{all_of}
use Rattle.s2ix_bag_pairs.specs.Change.{changed}
use Rattle.s2ix_bag_pairs.specs.declared.pair.Entry.{Entry}
use Rattle.s2ix_table_spans.specs.Blocks.{HoldsCell}
use Rattle.s2ix_table_heavy.specs.ChangedChunk.{FitsChunk, LieAlike}
use Rattle.s2ix_table_parts.specs.FaceSpans.{heavy_places_of, spans_of}
use Rattle.s2ix_table_parts.proofs.Within.{few_within, face_within}
use Rattle.s2ix_table_parts.proofs.change.face_after.Face.chunk_after.Goals as goal

pub returns-clause-fits : goal.returns-clause-fits
returns-clause-fits c =
    let f = c.args.self in
    let heavy = f.heavy.now in
    let es = c.args.entries.now in
    let chunk = c.in-Some.chunk in
    let cells : (e : Entry) → Contains es e → HoldsCell (all_of heavy) e.pair.cell = search rules in
    let fits : length (changed (all_of heavy) es) ≤ 1000000 → FitsChunk heavy chunk.number chunk.held = search rules in
    fits (few_within f.face (spans_of f.parts.now) (heavy_places_of f.parts.now) heavy es c.requires.layered c.requires.entries_rise c.requires.within_limit cells)

pub returns-clause-new_face : goal.returns-clause-new_face
returns-clause-new_face c =
    let f = c.args.self in
    let heavy = f.heavy.now in
    let es = c.args.entries.now in
    let chunk = c.in-Some.chunk in
    let cells : (e : Entry) → Contains es e → HoldsCell (all_of heavy) e.pair.cell = search rules in
    let fits : length (changed (all_of heavy) es) ≤ 1000000 → FitsChunk heavy chunk.number chunk.held = search rules in
    let alike : length (changed (all_of heavy) es) ≤ 1000000 → LieAlike heavy (set heavy chunk.number chunk.held) = search rules in
    let pairs : all_of (set heavy chunk.number chunk.held) ≡ changed (all_of heavy) es = search rules in
    let few = few_within f.face (spans_of f.parts.now) (heavy_places_of f.parts.now) heavy es c.requires.layered c.requires.entries_rise c.requires.within_limit cells in
    face_within f.face chunk.number (spans_of f.parts.now) (heavy_places_of f.parts.now) heavy chunk.held es c.requires.layered c.requires.entries_rise cells pairs
    (fits few) (alike few)
