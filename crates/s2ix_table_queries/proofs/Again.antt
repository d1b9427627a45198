-- The last items of a list, put again behind it.
use Rattle.std.proofs.Common.{◌≡◌, ◌<◌, ◌≤◌, ◌+◌, ◌++◌, ◌∷◌, [], ◌∙◌, ℕ, List, length, take, drop, ap, subst, sym, map, Option, get_or, slice_set, arith}
use Rattle.std.proofs.Math.Seq.{drop-append_seam}
use Rattle.std.proofs.lemmas.List.{take_more, take_more_set, append_assoc, get_or-take, get_or-drop, get_or_append_left, length-drop, length-take-le}
use Rattle.s2id_core.specs.declared.cell_id.CellId.{CellId}
use Rattle.s2id_core.specs.CellId.{raw_of, level_of}
use Rattle.s2ix_bag_pairs.specs.Collection.{Collection}
use Rattle.s2ix_bag_pairs.specs.declared.pair.Held.{Held}
use Rattle.s2ix_table_walk.specs.Contents.{contents_at}
use Rattle.s2ix_table_queries.specs.LeafContents.{AreContents}
use Rattle.s2ix_table_queries.specs.ManyLeaves.{AreOver}
use Rattle.s2ix_table_queries.proofs.Linking.{over_leaf}

-- an item before a place is that of the list that stands there
same_item : {R : Type 0} (out before more : List R) (at i : ℕ) (d : R) → i < length before → length before ≤ at → take at out ≡ before ++ more
    → get_or out i d ≡ get_or before i d
same_item out before more at i d lt within is =
    sym (get_or-take at out i d (omega arith)) ∙ ap (λ l. get_or l i d) is ∙ get_or_append_left before more d i lt

-- one more item is put again
pub again_more : {R : Type 0} (out before : List R) (from k : ℕ) (v : R) → from + k < length before → length before + k < length out
    → v ≡ get_or out (from + k) v → take (length before + k) out ≡ before ++ take k (drop from before)
    → take (length before + (k + 1)) (slice_set out (length before + k) v) ≡ before ++ take (k + 1) (drop from before)
again_more out before from k v lt room is put =
    let item = is ∙ same_item out before _ (length before + k) (from + k) v lt (omega arith) put ∙ sym (get_or-drop from before k v) in
    let at : length before + (k + 1) ≡ length before + k + 1 = omega arith in
    ap (λ n. take n (slice_set out (length before + k) v)) at
    ∙ take_more_set out (length before + k) v room
    ∙ ap (λ l. l ++ (v ∷ [])) put
    ∙ append_assoc before (take k (drop from before)) (v ∷ [])
    ∙ ap (λ l. before ++ l) (ap (λ x. take k (drop from before) ++ (x ∷ [])) item
    ∙ sym (take_more (drop from before) k v (omega (arith, length-drop from before))))

-- ---- what lies over each leaf of a span

last_items : {R : Type 0} (n : ℕ) (out items : List R) → n ≤ length out → drop n (take n out ++ items) ≡ items
last_items n out items le =
    ap (λ m. drop m (take n out ++ items)) (sym (length-take-le n out le)) ∙ drop-append_seam (take n out) items

-- what is put for one leaf of contents is kept of the pairs over each
pub over_each_leaf : {P R : Type 0} {chain : P → Collection} {pairs : Collection} {start limit : ℕ} {held : Collection} {outer : List ℕ} {first : ℕ}
    {behind : Option P} (of : Held → R) (leaf : CellId) (are : AreContents chain pairs start limit held outer first behind) → level_of leaf ≡ 30
    → start ≤ raw_of leaf → raw_of leaf < limit → (out new : List R) (from end : ℕ) → from ≤ length out
    → take end new ≡ take from out ++ map of (contents_at (raw_of leaf) pairs) → AreOver of pairs start limit (drop from (take end new))
over_each_leaf of leaf are level above below out new from end within put = record {
  each = λ other odd ge lt.
      ap (drop from) put ∙ last_items from out (map of (contents_at (raw_of leaf) _)) within
      ∙ ap (map of) (over_leaf leaf are level above below ∙ sym (are.over other odd ge lt));
}

-- what is put again is so too
pub over_again : {R : Type 0} (of : Held → R) (pairs : Collection) (start limit : ℕ) (items out new : List R) (from end : ℕ) → from ≤ length out
    → take end new ≡ take from out ++ items → AreOver of pairs start limit items → AreOver of pairs start limit (drop from (take end new))
over_again of pairs start limit items out new from end within put are =
    subst (AreOver of pairs start limit) (sym (ap (drop from) put ∙ last_items from out items within)) are
