-- One face of a table is put in after a change.
use Rattle.std.proofs.Common.{◌≡◌, ◌≢◌, ℕ, ◌+◌, ◌<◌, ◌≤◌, false, Option, List, [], ◌++◌, length, set, take, drop, sym, ◌∙◌, ap, arith, subst}
use Rattle.std.proofs.lemmas.List.{get_or-set_same, get_or-set_other, length-set}
use Rattle.s2ix_bag_lists.specs.Faces.{all_of}
use Rattle.s2ix_bag_pairs.specs.Change.{changed}
use Rattle.s2ix_bag_pairs.specs.Collection.{Collection, IsCollection}
use Rattle.s2ix_bag_pairs.specs.declared.pair.Entry.{Entry}
use Rattle.s2ix_table_spans.specs.SpanTable.{SpanRanges}
use Rattle.s2ix_table_heavy.specs.Chunks.{AreChunks}
use Rattle.s2ix_table_heavy.specs.declared.heavy_place.HeavyPlace.{HeavyPlace}
use Rattle.s2ix_table_faced.specs.declared.offset.Offset.{Offset}
use Rattle.s2ix_table_kept.specs.Faces.{has_entry_on, held_on}
use Rattle.s2ix_table_faced.specs.FirstParts.{AreFirstParts, of_face, parts_of_face}
use Rattle.s2ix_table_parts.specs.Neighbours.{held_in}
use Rattle.s2ix_table_faced.specs.Layout.{AreLayered, chunks_on, heavy_in}
use Rattle.s2ix_table_parts.specs.Layered.{IsFaceLayered, IsFaceWith}
use Rattle.s2ix_table_parts.specs.Layers.{joined_layers}
use Rattle.s2ix_table_parts.specs.Parts.{with_parts}
use Rattle.s2ix_table_faced.specs.Whole.{AreJoined}
use Rattle.s2ix_table_faced.proofs.FirstParts.{face_parts, first_of_face}
use Rattle.s2ix_table_faced.proofs.LayersMade.{AreAllMade, AreLayersMade, layers_keep, layers_more}
use Rattle.s2ix_table_faced.proofs.OneFace.{between_length}
use Rattle.s2ix_table_faced.proofs.TableFaces.{faces_of_table, one_face_put}
use Rattle.s2ix_table_faced.proofs.Unchanged.{unchanged_stay}

-- what gives way of a face lies among all parts
pub face_end : {parts : List SpanRanges} {heavy : Collection} {starts : List ℕ} {offsets : List Offset} {faces : List ℕ} {count : ℕ} (face end : ℕ)
    → AreJoined parts heavy starts offsets count → AreFirstParts starts faces → face < 6 → end ≤ length (parts_of_face parts faces face)
    → first_of_face faces face + end ≤ length parts
face_end {parts} {heavy} {starts} {offsets} {faces} {count} face end joined firsts lt within =
    let own = face_parts face joined firsts lt in
    let rise = own.rise in
    let by = own.within in
    let long = between_length (first_of_face faces face) (first_of_face faces (face + 1)) parts in
    omega arith

pub face_put_in : {parts : List SpanRanges} {heavy : List (List Collection)} {heavy_places : List (Option HeavyPlace)} {starts : List ℕ} {offsets : List Offset}
    {faces : List ℕ} {count : ℕ} (change : List Entry) (face first end : ℕ) (made : List SpanRanges) (made_heavy_places : List (Option HeavyPlace)) (chunks : List Collection)
    → AreJoined parts (heavy_in heavy) starts offsets count → AreFirstParts starts faces → AreLayered heavy parts heavy_places
    → ((f : ℕ) → f < 6 → AreChunks (chunks_on heavy f)) → face < 6
    → ((other : ℕ) → other < 6 → other ≢ face → has_entry_on change other ≡ false)
    → IsCollection (changed (joined_layers (held_in parts) (heavy_in heavy)) change) → length (changed (joined_layers (held_in parts) (heavy_in heavy)) change) ≤ 1000000
    → IsFaceWith face (held_on face (changed (joined_layers (held_in parts) (heavy_in heavy)) change)) (parts_of_face parts faces face) (of_face heavy_places faces face)
    first end made made_heavy_places chunks
    → AreAllMade (changed (joined_layers (held_in parts) (heavy_in heavy)) change) (set heavy face chunks)
    (with_parts parts (first_of_face faces face + first) (first_of_face faces face + end) made)
    (take (first_of_face faces face + first) heavy_places ++ (made_heavy_places ++ drop (first_of_face faces face + end) heavy_places))
face_put_in {parts} {heavy} {heavy_places} {starts} {offsets} {faces} {count} change face first end made made_heavy_places chunks joined firsts layered are six only rises within_limit new =
    let old = joined_layers (held_in parts) (heavy_in heavy) in
    let hs = changed old change in
    let now = set heavy face chunks in
    let many = layered.six in
    let there : chunks_on now face ≡ chunks = get_or-set_same heavy face chunks [] (omega arith) in
    let own = face_parts face joined firsts six in
    let within = new.within in
    let long = between_length (first_of_face faces face) (first_of_face faces (face + 1)) parts in
    one_face_put old hs heavy now parts made heavy_places made_heavy_places faces face first end (faces_of_table joined firsts layered are)
    (record {
      stay = λ n lt ne. sym (unchanged_stay old change n (only n lt ne));
      heavy_stay = λ n lt ne. get_or-set_other heavy face n chunks [] ne;
    })
    six (length-set heavy face chunks ∙ many) rises within_limit
    (subst (λ cs. IsFaceWith face (held_on face hs) (parts_of_face parts faces face) (of_face heavy_places faces face) first end made made_heavy_places cs) (sym there) new)
    own.within (omega arith)

-- the same, by what the face is then
pub same_put : (hs : Collection) (heavy : List (List Collection)) (parts made other : List SpanRanges) (heavy_places made_heavy_places other_heavy_places : List (Option HeavyPlace))
    (face first end f m n : ℕ) (chunks others : List Collection) → f ≡ face → m ≡ first → n ≡ end → other ≡ made → other_heavy_places ≡ made_heavy_places → others ≡ chunks
    → AreAllMade hs (set heavy face chunks) (with_parts parts first end made) (take first heavy_places ++ (made_heavy_places ++ drop end heavy_places))
    → AreAllMade hs (set heavy f others) (with_parts parts m n other) (take m heavy_places ++ (other_heavy_places ++ drop n heavy_places))
same_put hs heavy parts made other heavy_places made_heavy_places other_heavy_places face first end f m n chunks others a b c d e g is =
    subst (λ k. AreAllMade hs (set heavy k others) (with_parts parts m n other) (take m heavy_places ++ (other_heavy_places ++ drop n heavy_places))) (sym a)
    (subst (λ k. AreAllMade hs (set heavy face others) (with_parts parts k n other) (take k heavy_places ++ (other_heavy_places ++ drop n heavy_places))) (sym b)
    (subst (λ k. AreAllMade hs (set heavy face others) (with_parts parts first k other) (take first heavy_places ++ (other_heavy_places ++ drop k heavy_places))) (sym c)
    (subst (λ ts. AreAllMade hs (set heavy face others) (with_parts parts first end ts) (take first heavy_places ++ (other_heavy_places ++ drop end heavy_places))) (sym d)
    (subst (λ os. AreAllMade hs (set heavy face others) (with_parts parts first end made) (take first heavy_places ++ (os ++ drop end heavy_places))) (sym e)
    (subst (λ cs. AreAllMade hs (set heavy face cs) (with_parts parts first end made) (take first heavy_places ++ (made_heavy_places ++ drop end heavy_places))) (sym g) is)))))

-- ---- the next of six faces

pub layers_push : (hs : Collection) (heavy now : List (List Collection)) (parts own made : List SpanRanges) (heavy_places own_heavy_places made_heavy_places : List (Option HeavyPlace))
    (face place first end : ℕ) (chunks : List Collection) → AreLayersMade hs heavy parts heavy_places face → face < 6 → length heavy ≡ 6 → place ≡ face
    → now ≡ set heavy place chunks → IsFaceWith face (held_on face hs) own own_heavy_places first end made made_heavy_places chunks
    → AreLayersMade hs now (parts ++ with_parts own first end made) (heavy_places ++ (take first own_heavy_places ++ (made_heavy_places ++ drop end own_heavy_places))) (face + 1)
layers_push hs heavy now parts own made heavy_places own_heavy_places made_heavy_places face place first end chunks was lt six here put new =
    let set_here = put ∙ ap (λ k. set heavy k chunks) here in
    let there : chunks_on now face ≡ chunks = ap (λ cs. chunks_on cs face) set_here ∙ get_or-set_same heavy face chunks [] (omega (arith, six, lt)) in
    let kept = layers_keep hs heavy now parts heavy_places face was (λ f less.
    ap (λ cs. chunks_on cs f) set_here ∙ get_or-set_other heavy face f chunks [] (λ e. absurd (omega (arith, e, less)))) in
    layers_more hs now parts (with_parts own first end made) heavy_places (take first own_heavy_places ++ (made_heavy_places ++ drop end own_heavy_places)) face kept
    (subst (λ cs. IsFaceLayered face cs (with_parts own first end made) (take first own_heavy_places ++ (made_heavy_places ++ drop end own_heavy_places))) (sym there) new.layered)
    (ap (λ cs. joined_layers (held_in (with_parts own first end made)) (all_of cs)) there ∙ new.pairs)
