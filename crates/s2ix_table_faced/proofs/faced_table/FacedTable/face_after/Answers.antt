use Rattle.std.proofs.Common.{ℕ, IfOk, length, subst, sym, ap, ◌∙◌, arith}
use Rattle.s2ix_bag_pairs.specs.Change.{changed}
use Rattle.s2ix_bag_pairs.specs.Collection.{Collection, IsCollection}
use Rattle.s2ix_bag_pairs.proofs.Changes.{changed_keeps}
use Rattle.s2ix_table_kept.specs.Faces.{entries_on, held_on}
use Rattle.s2ix_table_parts.specs.FaceSpans.{AreOnFace, heavy_places_of, spans_of}
use Rattle.s2ix_table_faced.specs.FirstParts.{parts_of_face}
use Rattle.s2ix_table_parts.specs.Layered.{IsFaceWith, face_pairs}
use Rattle.s2ix_table_faced.specs.Layout.{pairs_of}
use Rattle.s2ix_table_faced.proofs.AllFaces.{held_few, held_rises, lie_on}
use Rattle.s2ix_table_faced.proofs.ChangedOnFaces.{changed_on_face}
use Rattle.s2ix_table_faced.proofs.FaceLists.{list_none, list_some}
use Rattle.s2ix_table_faced.proofs.Unchanged.{unchanged_stay}
use Rattle.s2ix_table_faced.proofs.faced_table.FacedTable.face_after.Goals as goal

pub after-requires-clause-made : goal.after-requires-clause-made
after-requires-clause-made c =
    let t = c.args.self.now in
    let change = c.args.change.now in
    let face : ℕ = c.args.face in
    let old = pairs_of t.parts.items t.heavy in
    let list = list_some c.args.lists.now change (changed old change) face c.from.result c.index-lists-from.result c.in-Some.list c.requires.lists
    c.from.ensures c.requires.six c.in-Some.is in
    let entries = c.entries_on.ensures.entries ∙ ap (entries_on face) c.entries.ensures.list in
    ap (λ (hs : Collection). changed hs c.entries_on.result.now) c.face-before.ensures.pairs
    ∙ ap (changed (held_on face old)) entries
    ∙ sym (changed_on_face face old change t.rises)
    ∙ sym list

pub after-requires-clause-rises : goal.after-requires-clause-rises
after-requires-clause-rises c =
    let t = c.args.self.now in
    let change = c.args.change.now in
    let face : ℕ = c.args.face in
    let old = pairs_of t.parts.items t.heavy in
    let list = list_some c.args.lists.now change (changed old change) face c.from.result c.index-lists-from.result c.in-Some.list c.requires.lists
    c.from.ensures c.requires.six c.in-Some.is in
    subst IsCollection (sym list) (held_rises face 0 (changed old change) (changed_keeps old change t.rises c.entries.ensures.rises))

pub after-requires-clause-within_limit : goal.after-requires-clause-within_limit
after-requires-clause-within_limit c =
    let t = c.args.self.now in
    let change = c.args.change.now in
    let face : ℕ = c.args.face in
    let old = pairs_of t.parts.items t.heavy in
    let list = list_some c.args.lists.now change (changed old change) face c.from.result c.index-lists-from.result c.in-Some.list c.requires.lists
    c.from.ensures c.requires.six c.in-Some.is in
    let within_limit = c.requires.within_limit in
    let own = held_few face (changed old change) in
    let same = ap length list in
    omega (arith, within_limit, own, same)

pub after-requires-clause-on_face : goal.after-requires-clause-on_face
after-requires-clause-on_face c =
    let t = c.args.self.now in
    let change = c.args.change.now in
    let face : ℕ = c.args.face in
    let old = pairs_of t.parts.items t.heavy in
    let list = list_some c.args.lists.now change (changed old change) face c.from.result c.index-lists-from.result c.in-Some.list c.requires.lists
    c.from.ensures c.requires.six c.in-Some.is in
    subst (λ n. AreOnFace n c.in-Some.list) (sym c.face-before.ensures.face) (subst (AreOnFace face) (sym list) (lie_on face (changed old change)))

pub returns-in-None-clause-new_face : goal.returns-in-None-clause-new_face
returns-in-None-clause-new_face c =
    let t = c.args.self.now in
    let change = c.args.change.now in
    let face : ℕ = c.args.face in
    let old = pairs_of t.parts.items t.heavy in
    let none = list_none c.args.lists.now change (changed old change) face c.from.result c.index-lists-from.result c.requires.lists
    c.from.ensures c.requires.six c.in-None.is in
    let before = c.face-before.result in
    let is = c.face-before.ensures in
    let pairs = is.pairs ∙ sym (unchanged_stay old change face none) in
    let r = c.unchanged.result in
    let hs = face_pairs before.parts.now before.heavy.now in
    let one = subst (λ n. IfOk r (λ new. IsFaceWith n hs (spans_of before.parts.now) (heavy_places_of before.parts.now) new.first new.end (spans_of new.parts.items) (heavy_places_of new.parts.items) new.heavy))
    is.face c.unchanged.ensures.new_face in
    let two = subst (λ ks. IfOk r (λ new. IsFaceWith face ks (spans_of before.parts.now) (heavy_places_of before.parts.now) new.first new.end (spans_of new.parts.items) (heavy_places_of new.parts.items) new.heavy))
    pairs one in
    let three = subst (λ ts. IfOk r (λ new. IsFaceWith face (held_on face (changed old change)) ts (heavy_places_of before.parts.now) new.first new.end (spans_of new.parts.items) (heavy_places_of new.parts.items) new.heavy))
    is.parts two in
    subst (λ os. IfOk r (λ new. IsFaceWith face (held_on face (changed old change)) (parts_of_face (spans_of t.parts.items) t.begins.faces face) os new.first new.end (spans_of new.parts.items) (heavy_places_of new.parts.items) new.heavy))
    is.heavy_places three
