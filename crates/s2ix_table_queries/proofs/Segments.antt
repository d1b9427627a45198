-- What is put for one of the leaves that are answered.
use Rattle.std.proofs.Common.{◌≡◌, ◌≢◌, inl, inr, ◌<◌, ◌≤◌, ◌+◌, ◌-◌, ◌∙◌, ℕ, List, [], ◌∷◌, ◌++◌, length, map, take, drop, ap, sym, refl, Option, Some, None, get_or, slice_set, slice_index_or, arith}
use Rattle.std.proofs.Math.Seq.{drop-append_seam, take-append_seam}
use Rattle.std.proofs.lemmas.Bool.{cases_eq}
use Rattle.std.proofs.lemmas.List.{append_assoc, get_or-take, length-append, length-map, length-take, length-take-le, map-append, take-append-drop, take_more, take_more_set}
use Rattle.std.proofs.lemmas.Grind.{flat_map-append}
use Rattle.std.proofs.Common.{take-take}
use Rattle.s2id_core.specs.declared.cell_id.CellId.{CellId}
use Rattle.s2ix_bag_pairs.specs.Collection.{Collection}
use Rattle.s2ix_bag_pairs.specs.declared.pair.Held.{Held}
use Rattle.s2ix_table_walk.specs.Contents.{contents_at}
use Rattle.s2ix_table_queries.specs.Leaf.{leaf_numbered}
use Rattle.s2ix_table_queries.specs.ManyLeaves.{AreAnswered, over_each, over_first, leaf_in}
use Rattle.s2ix_table_queries.proofs.LeafByLeaf.{answered_more, leaf_known, over_more}

-- what lies over leaves is what lies over the first ones, then over one, then over the rest
over_split : (leaves : List ℕ) (n place : ℕ) (held : Collection) → n ≤ length leaves → place < n
    → over_first n leaves held ≡ over_first place leaves held
    ++ (contents_at (slice_index_or leaves place 0) held ++ over_each (drop (place + 1) (take n leaves)) held)
over_split leaves n place held within less =
    let rest = over_each (drop (place + 1) (take n leaves)) held in
    ap (λ l. over_each l held) (sym (take-append-drop (place + 1) (take n leaves)))
    ∙ flat_map-append (λ leaf. contents_at leaf held) (take (place + 1) (take n leaves)) (drop (place + 1) (take n leaves))
    ∙ ap (λ l. over_each l held ++ rest) (take-take (place + 1) n leaves (omega (arith, less)))
    ∙ ap (λ l. l ++ rest) (over_more leaves place held (omega (arith, less, within)))
    ∙ append_assoc (over_first place leaves held) (contents_at (slice_index_or leaves place 0) held) rest

-- the items between two places of a list
between : {R : Type 0} (before among behind : List R) (start end : ℕ) → start ≡ length before → end ≡ start + length among
    → take (end - start) (drop start (before ++ (among ++ behind))) ≡ among
between before among behind start end start_is end_is =
    ap (λ n. take (end - start) (drop n (before ++ (among ++ behind)))) start_is
    ∙ ap (take (end - start)) (drop-append_seam before (among ++ behind))
    ∙ ap (λ n. take n (among ++ behind)) (omega (arith, end_is))
    ∙ take-append_seam among behind

-- where what is put for the leaves before one ends
pub start_is : {R : Type 0} (of : Held → R) (held : Collection) (leaves : List ℕ) (n place start : ℕ) (ends : List ℕ) (items : List R)
    → AreAnswered of held leaves n ends items → place ≤ n → (place ≡ 0 → start ≡ 0) → (0 < place → start ≡ slice_index_or ends (place - 1) 0)
    → start ≡ length (over_first place leaves held)
start_is of held leaves n place start ends items are less first before =
    elim (cases_eq place 0) [
      | inl e ↦ first e ∙ ap (λ p. length (over_first p leaves held)) (sym e)
      | inr ne ↦
          before (omega (arith, ne)) ∙ are.each_end (place - 1) (omega (arith, less))
          ∙ ap (λ p. length (over_first p leaves held)) (omega (arith, ne))
    ]

pub segment : {R : Type 0} (of : Held → R) (held : Collection) (leaves : List ℕ) (n place start : ℕ) (ends : List ℕ) (items : List R)
    → AreAnswered of held leaves n ends items → place < n → (place ≡ 0 → start ≡ 0) → (0 < place → start ≡ slice_index_or ends (place - 1) 0)
    → take (slice_index_or ends place 0 - start) (drop start items) ≡ map of (contents_at (slice_index_or leaves place 0) held)
segment of held leaves n place start ends items are less first before =
    let chain = contents_at (slice_index_or leaves place 0) held in
    let front = over_first place leaves held in
    let rest = over_each (drop (place + 1) (take n leaves)) held in
    let total = length (over_first n leaves held) in
    let begins = start_is of held leaves n place start ends items are (omega (arith, less)) first before in
    let split = over_split leaves n place held are.within less in
    let mapped : map of (over_first n leaves held) ≡ map of front ++ (map of chain ++ map of rest) =
    ap (map of) split ∙ map-append of front (chain ++ rest) ∙ ap (λ l. map of front ++ l) (map-append of chain rest) in
    let whole : items ≡ map of front ++ (map of chain ++ (map of rest ++ drop total items)) =
    sym (take-append-drop total items) ∙ ap (λ l. l ++ drop total items) (are.put ∙ mapped)
    ∙ append_assoc (map of front) (map of chain ++ map of rest) (drop total items)
    ∙ ap (λ l. map of front ++ l) (append_assoc (map of chain) (map of rest) (drop total items)) in
    let end_is : slice_index_or ends place 0 ≡ start + length (map of chain) =
    omega (
      arith,
      are.each_end place less,
      ap length (over_more leaves place held (omega (arith, less, are.within))),
      length-append front chain,
      begins,
      length-map chain of,
    ) in
    ap (λ l. take (slice_index_or ends place 0 - start) (drop start l)) whole
    ∙ between (map of front) (map of chain) (map of rest ++ drop total items) start (slice_index_or ends place 0)
    (omega (arith, begins, length-map front of)) end_is

-- one more item is put
pub put_more : {R : Type 0} (out new items : List R) (from k : ℕ) (v : R) → k < length items → from + k < length new → v ≡ get_or items k v
    → take (from + k) new ≡ take from out ++ take k items
    → take (from + (k + 1)) (slice_set new (from + k) v) ≡ take from out ++ take (k + 1) items
put_more out new items from k v less room is put =
    let at : from + (k + 1) ≡ from + k + 1 = omega arith in
    ap (λ n. take n (slice_set new (from + k) v)) at
    ∙ take_more_set new (from + k) v room
    ∙ ap (λ l. l ++ (v ∷ [])) put
    ∙ append_assoc (take from out) (take k items) (v ∷ [])
    ∙ ap (λ l. take from out ++ l) (ap (λ x. take k items ++ (x ∷ [])) is ∙ sym (take_more items k v less))

-- a number that is a leaf's
leaf_some : (o : Option CellId) → o ≢ None → (leaf : CellId) × (o ≡ Some leaf)
leaf_some (Some leaf) some = (leaf, refl)
leaf_some None some = absurd (some refl)

-- one more leaf is answered by items that are known to be those over its number
pub answered_by : {R : Type 0} (of : Held → R) (held : Collection) (leaves : List ℕ) (k count end : ℕ) (ends : List ℕ) (out new items : List R)
    → AreAnswered of held leaves k ends out → k < length leaves → k < length ends → leaf_in leaves k ≢ None
    → count ≡ length (over_first k leaves held) → items ≡ map of (contents_at (slice_index_or leaves k 0) held) → end ≡ count + length items
    → take end new ≡ take count out ++ items
    → AreAnswered of held leaves (k + 1) (slice_set ends k end) new × (end ≡ length (over_first (k + 1) leaves held))
answered_by of held leaves k count end ends out new items are less listed some count_is is end_is put =
    let there = leaf_some (leaf_in leaves k) some in
    let raw = (leaf_known (slice_index_or leaves k 0) there.0 there.1).1 in
    let chain = contents_at (slice_index_or leaves k 0) held in
    answered_more of held leaves k count end ends out new there.0 chain are less listed there.1 count_is (ap (λ n. contents_at n held) raw)
    (omega (arith, end_is, ap length is, length-map chain of)) (put ∙ ap (λ l. take count out ++ l) is)

-- ---- the first leaves of a list

first_over : (leaves : List ℕ) (m k : ℕ) (held : Collection) → k ≤ m → over_first k (take m leaves) held ≡ over_first k leaves held
first_over leaves m k held within = ap (λ l. over_each l held) (take-take k m leaves within)

-- what is answered of a list's first leaves is answered of the list
pub answered_first : {R : Type 0} (of : Held → R) (held : Collection) (leaves : List ℕ) (m n : ℕ) (ends : List ℕ) (out : List R)
    → m ≤ length leaves → AreAnswered of held (take m leaves) n ends out → AreAnswered of held leaves n ends out
answered_first of held leaves m n ends out listed are =
    let long = length-take-le m leaves listed in
    let within : n ≤ m = omega (arith, are.within, long) in
    let alike = first_over leaves m n held within in
    record {
      within = omega (arith, within, listed);
      are_leaves = λ k less none. are.are_leaves k less (ap leaf_numbered (get_or-take m leaves k 0 (omega (arith, less, within))) ∙ none);
      listed = are.listed;
      each_end = λ k less.
          are.each_end k less ∙ ap length (first_over leaves m (k + 1) held (omega (arith, less, within)));
      put =
          ap (λ l. take (length l) out) (sym alike) ∙ are.put ∙ ap (map of) alike;
    }

-- what is answered has its room
pub has_room : {R : Type 0} (of : Held → R) (held : Collection) (leaves : List ℕ) (n : ℕ) (ends : List ℕ) (out : List R)
    → AreAnswered of held leaves n ends out → length (over_first n leaves held) ≤ length out
has_room of held leaves n ends out are =
    let over = over_first n leaves held in
    omega (arith, ap length are.put, length-map over of, length-take (length over) out)
