use Rattle.std.proofs.Common.{◌≡◌, ℕ, ◌+◌, List, ◌++◌, set, take, drop, ap, ap₂, ◌∙◌, arith}
use Rattle.s2ix_bag_pairs.specs.Change.{changed}
use Rattle.s2ix_bag_pairs.specs.Collection.{Collection}
use Rattle.s2ix_table_spans.specs.SpanTable.{SpanRanges}
use Rattle.s2ix_table_parts.specs.FaceSpans.{heavy_places_of, spans_of}
use Rattle.s2ix_table_parts.specs.Neighbours.{held_in}
use Rattle.s2ix_table_faced.specs.Layout.{heavy_in, pairs_of}
use Rattle.s2ix_table_parts.specs.Layers.{joined_layers}
use Rattle.s2ix_table_parts.specs.Parts.{with_parts}
use Rattle.s2ix_table_faced.proofs.FacePut.{face_end, face_put_in, same_put}
use Rattle.s2ix_table_faced.proofs.FirstParts.{first_of_face}
use Rattle.s2ix_table_faced.proofs.Kept.{back_kept, front_kept, same_back, same_front}
use Rattle.s2ix_table_faced.proofs.LayersMade.{AreAllMade}
use Rattle.s2ix_table_parts.proofs.Shared.{many_shared}
use Rattle.s2ix_table_faced.proofs.faced_table.FacedTable.change_face.Goals.{After-shifted_by}
use Rattle.s2ix_table_faced.proofs.faced_table.FacedTable.change_face.Goals as goal

-- what the table is with the face in its place, by the face's own numbers
face_in : (c : After-shifted_by)
    → AreAllMade (changed (pairs_of c.args.self.now.parts.items c.args.self.now.heavy) c.args.change.now)
    (set c.args.self.now.heavy c.args.face c.in_ok-new.new.heavy)
    (with_parts (spans_of c.args.self.now.parts.items) (first_of_face c.args.self.now.begins.faces c.args.face + c.in_ok-new.new.first)
    (first_of_face c.args.self.now.begins.faces c.args.face + c.in_ok-new.new.end) (spans_of c.in_ok-new.new.parts.items))
    (take (first_of_face c.args.self.now.begins.faces c.args.face + c.in_ok-new.new.first) (heavy_places_of c.args.self.now.parts.items)
    ++ (heavy_places_of c.in_ok-new.new.parts.items
    ++ drop (first_of_face c.args.self.now.begins.faces c.args.face + c.in_ok-new.new.end) (heavy_places_of c.args.self.now.parts.items)))
face_in c =
    let t = c.args.self.now in
    let new = c.in_ok-new.new in
    face_put_in c.args.change.now c.args.face new.first new.end (spans_of new.parts.items) (heavy_places_of new.parts.items) new.heavy t.joined t.begins.firsts t.layered
    c.all_are_chunks.ensures c.requires.six c.requires.only c.requires.rises c.requires.within_limit c.in_ok-new.ensures.new_face

-- the place of what gives way among all parts
first_in : (c : After-shifted_by) → c.shifted_by.result.first ≡ first_of_face c.args.self.now.begins.faces c.args.face + c.in_ok-new.new.first
first_in c =
    c.shifted_by.ensures.first ∙ ap (λ k. first_of_face c.args.self.now.begins.faces k + c.in_ok-new.new.first) c.from.ensures

end_in : (c : After-shifted_by) → c.shifted_by.result.end ≡ first_of_face c.args.self.now.begins.faces c.args.face + c.in_ok-new.new.end
end_in c =
    c.shifted_by.ensures.end ∙ ap (λ k. first_of_face c.args.self.now.begins.faces k + c.in_ok-new.new.end) c.from.ensures

-- the same by the numbers that are put in
put_in : (c : After-shifted_by)
    → AreAllMade (changed (pairs_of c.args.self.now.parts.items c.args.self.now.heavy) c.args.change.now)
    (set c.args.self.now.heavy c.shifted_by.result.face c.shifted_by.result.heavy)
    (with_parts (spans_of c.args.self.now.parts.items) c.shifted_by.result.first c.shifted_by.result.end (spans_of c.shifted_by.result.parts.items))
    (take c.shifted_by.result.first (heavy_places_of c.args.self.now.parts.items)
    ++ (heavy_places_of c.shifted_by.result.parts.items ++ drop c.shifted_by.result.end (heavy_places_of c.args.self.now.parts.items)))
put_in c =
    let t = c.args.self.now in
    let face : ℕ = c.args.face in
    let new = c.in_ok-new.new in
    let put = c.shifted_by.result in
    let is = c.shifted_by.ensures in
    let first = first_of_face t.begins.faces face in
    same_put (changed (pairs_of t.parts.items t.heavy) c.args.change.now) t.heavy (spans_of t.parts.items)
    (spans_of new.parts.items) (spans_of put.parts.items) (heavy_places_of t.parts.items) (heavy_places_of new.parts.items) (heavy_places_of put.parts.items) face
    (first + new.first) (first + new.end) put.face put.first put.end new.heavy put.heavy
    (is.face ∙ c.in_ok-new.ensures.face) (first_in c) (end_in c)
    (ap (λ v. spans_of v.items) is.parts) (ap (λ v. heavy_places_of v.items) is.parts) is.heavy (face_in c)

pub put-requires-clause-within : goal.put-requires-clause-within
put-requires-clause-within c =
    let a = (goal.at-put-requires-clause-within c).After-shifted_by in
    let t = c.args.self.now in
    let new = c.in_ok-new in
    let by = face_end c.args.face new.new.end t.joined t.begins.firsts c.requires.six new.ensures.new_face.within in
    let last = end_in a in
    let many = many_shared t.parts.items in
    omega (arith, by, last, many)

pub put-requires-clause-layout : goal.put-requires-clause-layout
put-requires-clause-layout c = (put_in (goal.at-put-requires-clause-layout c).After-shifted_by).layout

pub put-requires-clause-faces : goal.put-requires-clause-faces
put-requires-clause-faces c = (put_in (goal.at-put-requires-clause-faces c).After-shifted_by).faces

pub put-requires-clause-front : goal.put-requires-clause-front
put-requires-clause-front c =
    let a = (goal.at-put-requires-clause-front c).After-shifted_by in
    let t = c.args.self.now in
    let new = c.in_ok-new.new in
    let put = c.shifted_by.result in
    let is = c.shifted_by.ensures in
    same_front t.heavy (spans_of t.parts.items) c.args.face put.face put.first _ new.heavy put.heavy (is.face ∙ c.in_ok-new.ensures.face) (first_in a)
    is.heavy
    (front_kept t.heavy c.args.face new.first new.heavy t.joined t.begins.firsts c.requires.six t.layered.six t.layered.on_faces (face_in a).layout.layered.on_faces
    c.in_ok-new.ensures.before)

pub put-requires-clause-back : goal.put-requires-clause-back
put-requires-clause-back c =
    let a = (goal.at-put-requires-clause-back c).After-shifted_by in
    let t = c.args.self.now in
    let new = c.in_ok-new.new in
    let put = c.shifted_by.result in
    let is = c.shifted_by.ensures in
    same_back t.heavy (spans_of t.parts.items) c.args.face put.face put.end _ new.heavy put.heavy (is.face ∙ c.in_ok-new.ensures.face) (end_in a)
    is.heavy
    (back_kept t.heavy c.args.face new.end new.heavy t.joined t.begins.firsts c.requires.six t.layered.six t.layered.on_faces (face_in a).layout.layered.on_faces
    c.in_ok-new.ensures.new_face.within c.in_ok-new.ensures.behind)

pub returns-clause-pairs : goal.returns-clause-pairs
returns-clause-pairs c =
    ap₂ (λ (ts : List SpanRanges) (cs : List (List Collection)). joined_layers (held_in ts) (heavy_in cs)) c.in_ok-put.ensures.put c.in_ok-put.ensures.heavy
    ∙ (put_in (goal.at-returns-clause-pairs c).After-shifted_by).pairs
