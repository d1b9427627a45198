-- A table after a change within one chunk of the heavy pairs of a face: its parts stay.
use Rattle.std.proofs.Common.{◌≡◌, ◌≢◌, ℕ, ◌+◌, ◌<◌, ◌≤◌, false, Option, List, [], ◌++◌, length, take, drop, set, sym, ap, ◌∙◌, subst}
use Rattle.std.proofs.lemmas.List.{take-append-drop}
use Rattle.s2ix_bag_pairs.specs.Change.{changed}
use Rattle.s2ix_bag_pairs.specs.Collection.{Collection, IsCollection}
use Rattle.s2ix_bag_pairs.specs.declared.pair.Entry.{Entry}
use Rattle.s2ix_table_spans.specs.SpanTable.{SpanRanges}
use Rattle.s2ix_table_heavy.specs.Chunks.{AreChunks}
use Rattle.s2ix_table_heavy.specs.declared.heavy_place.HeavyPlace.{HeavyPlace}
use Rattle.s2ix_table_faced.specs.declared.offset.Offset.{Offset}
use Rattle.s2ix_table_kept.specs.Faces.{entries_on, has_entry_on, held_on}
use Rattle.s2ix_table_faced.specs.FirstParts.{AreFirstParts, of_face, parts_of_face}
use Rattle.s2ix_table_parts.specs.Neighbours.{held_in}
use Rattle.s2ix_table_faced.specs.Layout.{AreLayered, chunks_on, heavy_in}
use Rattle.s2ix_table_parts.specs.Layered.{IsFaceWith}
use Rattle.s2ix_table_parts.specs.Layers.{joined_layers}
use Rattle.s2ix_table_faced.specs.Whole.{AreJoined}
use Rattle.s2ix_table_faced.proofs.ChangedOnFaces.{changed_on_face}
use Rattle.s2ix_table_faced.proofs.FacePut.{face_put_in}
use Rattle.s2ix_table_faced.proofs.FirstParts.{first_of_face}
use Rattle.s2ix_table_faced.proofs.LayersMade.{AreAllMade}

-- a list of which nothing gives way to nothing
none_gives_way : {X : Type 0} (k : ℕ) (xs : List X) → take k xs ++ ([] ++ drop k xs) ≡ xs
none_gives_way k xs = take-append-drop k xs

-- what the entries on a face make of its pairs
pub changed_there : (face : ℕ) (old pairs : Collection) (change es : List Entry) → IsCollection old → pairs ≡ held_on face old
    → es ≡ entries_on face change → changed pairs es ≡ held_on face (changed old change)
changed_there face old pairs change es rises own own_entries =
    ap (λ hs. changed hs es) own ∙ ap (changed (held_on face old)) own_entries ∙ sym (changed_on_face face old change rises)

pub table_within : {parts : List SpanRanges} {heavy : List (List Collection)} {heavy_places : List (Option HeavyPlace)} {starts : List ℕ} {offsets : List Offset}
    {faces : List ℕ} {count : ℕ} (change : List Entry) (face own : ℕ) (hs : Collection) (ts : List SpanRanges) (os : List (Option HeavyPlace))
    (now chunks : List Collection)
    → AreJoined parts (heavy_in heavy) starts offsets count → AreFirstParts starts faces → AreLayered heavy parts heavy_places
    → ((f : ℕ) → f < 6 → AreChunks (chunks_on heavy f)) → face < 6
    → ((other : ℕ) → other < 6 → other ≢ face → has_entry_on change other ≡ false)
    → IsCollection (changed (joined_layers (held_in parts) (heavy_in heavy)) change) → length (changed (joined_layers (held_in parts) (heavy_in heavy)) change) ≤ 1000000
    → own ≡ face → ts ≡ parts_of_face parts faces face → os ≡ of_face heavy_places faces face → chunks ≡ now
    → hs ≡ held_on face (changed (joined_layers (held_in parts) (heavy_in heavy)) change) → IsFaceWith own hs ts os 0 0 [] [] chunks
    → AreAllMade (changed (joined_layers (held_in parts) (heavy_in heavy)) change) (set heavy face now) parts heavy_places
table_within {parts} {heavy} {heavy_places} {starts} {offsets} {faces} {count} change face own hs ts os now chunks joined firsts layered are six only rises within_limit
    own_is ts_are os_are chunks_are hs_are with =
    let all = changed (joined_layers (held_in parts) (heavy_in heavy)) change in
    let k : ℕ = first_of_face faces face + 0 in
    let there = subst (λ n. IsFaceWith n (held_on face all) (parts_of_face parts faces face) (of_face heavy_places faces face) 0 0 [] [] now) own_is
    (subst (λ xs. IsFaceWith own xs (parts_of_face parts faces face) (of_face heavy_places faces face) 0 0 [] [] now) hs_are
    (subst (λ xs. IsFaceWith own hs xs (of_face heavy_places faces face) 0 0 [] [] now) ts_are
    (subst (λ xs. IsFaceWith own hs ts xs 0 0 [] [] now) os_are
    (subst (λ cs. IsFaceWith own hs ts os 0 0 [] [] cs) chunks_are with)))) in
    let made = face_put_in change face 0 0 [] [] now joined firsts layered are six only rises within_limit there in
    subst (λ xs. AreAllMade all (set heavy face now) xs heavy_places) (none_gives_way k parts)
    (subst (λ xs. AreAllMade all (set heavy face now) (take k parts ++ ([] ++ drop k parts)) xs) (none_gives_way k heavy_places) made)
