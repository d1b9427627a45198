-- The face has the changed chunk in its place, and the other faces stay.
use Rattle.std.proofs.Common.{ℕ, [], length, set, ap, ◌∙◌, arith, rules}
use Rattle.s2ix_bag_pairs.specs.Change.{changed}
use Rattle.s2ix_table_kept.specs.Faces.{entries_on}
use Rattle.s2ix_table_parts.specs.FaceSpans.{heavy_places_of, spans_of}
use Rattle.s2ix_table_parts.specs.Layered.{IsFaceWith, face_pairs}
use Rattle.s2ix_table_faced.specs.Layout.{chunks_on, pairs_of}
use Rattle.s2ix_table_faced.proofs.AllFaces.{held_few}
use Rattle.s2ix_table_faced.proofs.LayersMade.{AreAllMade}
use Rattle.s2ix_table_faced.proofs.TableWithin.{changed_there, table_within}
use Rattle.s2ix_table_faced.proofs.faced_table.FacedTable.chunk_after.Goals.{In-Some-2}
use Rattle.s2ix_table_faced.proofs.faced_table.FacedTable.chunk_after.Goals as goal

pub chunk_after-requires-clause-within_limit : goal.chunk_after-requires-clause-within_limit
chunk_after-requires-clause-within_limit c =
    let t = c.args.self.now in
    let change = c.args.change.now in
    let face : ℕ = c.args.face in
    let old = pairs_of t.parts.items t.heavy in
    let entries = c.entries_on-entries.ensures.entries ∙ ap (entries_on face) c.entries.ensures.list in
    let same = ap length (changed_there face old _ change c.entries_on-entries.result.now t.rises c.face-before.ensures.pairs entries) in
    let own = held_few face (changed old change) in
    let few = c.requires.within_limit in
    omega arith

-- the table with the chunk in its place
made_in : (c : In-Some-2)
    → AreAllMade (changed (pairs_of c.args.self.now.parts.items c.args.self.now.heavy) c.args.change.now)
    (set c.args.self.now.heavy c.args.face (set (chunks_on c.args.self.now.heavy c.args.face) c.in-Some-2.chunk.number c.in-Some-2.chunk.held))
    (spans_of c.args.self.now.parts.items) (heavy_places_of c.args.self.now.parts.items)
made_in c =
    let t = c.args.self.now in
    let change = c.args.change.now in
    let face : ℕ = c.args.face in
    let old = pairs_of t.parts.items t.heavy in
    let chunk = c.in-Some-2.chunk in
    let before = c.face-before.result in
    let es = c.entries_on-entries.result.now in
    let is = c.face-before.ensures in
    let entries = c.entries_on-entries.ensures.entries ∙ ap (entries_on face) c.entries.ensures.list in
    let hs = changed (face_pairs before.parts.now before.heavy.now) es in
    let with : IsFaceWith before.face hs (spans_of before.parts.now) (heavy_places_of before.parts.now) 0 0 [] [] (set before.heavy.now chunk.number chunk.held) =
    search rules in
    table_within change face before.face hs (spans_of before.parts.now) (heavy_places_of before.parts.now) (set (chunks_on t.heavy face) chunk.number chunk.held)
    (set before.heavy.now chunk.number chunk.held) t.joined t.begins.firsts t.layered c.all_are_chunks.ensures c.requires.six c.requires.only c.requires.rises
    c.requires.within_limit is.face is.parts is.heavy_places (ap (λ cs. set cs chunk.number chunk.held) is.heavy)
    (changed_there face old _ change es t.rises is.pairs entries) with

pub returns-clause-layout : goal.returns-clause-layout
returns-clause-layout c = (made_in c).layout

pub returns-clause-pairs : goal.returns-clause-pairs
returns-clause-pairs c = (made_in c).pairs
