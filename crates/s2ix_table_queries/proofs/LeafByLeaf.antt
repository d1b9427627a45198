-- What lies over each of many leaves, leaf by leaf.
use Rattle.std.proofs.Common.{◌≡◌, inl, inr, ◌<◌, ◌+◌, ◌∙◌, ℕ, List, [], ◌∷◌, ◌++◌, length, map, take, ap, sym, subst, refl, Option, Some, None, slice_set, slice_index_or, get_or, arith, rules}
use Rattle.std.proofs.lemmas.Bool.{cases_eq}
use Rattle.std.proofs.lemmas.List.{take_more, map-append, append-nil, length-append, length-set, get_or-set_same, get_or-set_other}
use Rattle.std.proofs.lemmas.Option.{slice_get_read}
use Rattle.std.proofs.lemmas.Grind.{flat_map-append}
use Rattle.s2id_core.specs.declared.cell_id.CellId.{CellId}
use Rattle.s2id_core.specs.CellId.{raw_of, level_of}
use Rattle.s2id_core.specs.Spelled.{cell_numbered}
use Rattle.s2id_core.proofs.Spelled.{numbered-raw}
use Rattle.s2ix_bag_pairs.specs.Collection.{Collection}
use Rattle.s2ix_bag_pairs.specs.declared.pair.Held.{Held}
use Rattle.s2ix_table_walk.specs.Contents.{contents_at}
use Rattle.s2ix_table_queries.specs.Leaf.{leaf_if, leaf_numbered}
use Rattle.s2ix_table_queries.specs.ManyLeaves.{AreAnswered, IsBatchAt, LacksRoom, over_each, over_first, leaf_in}

-- ---- the leaf of a number

leaf_from : (o : Option CellId) (leaf : CellId) → leaf_if o ≡ Some leaf → (level_of leaf ≡ 30) × (o ≡ Some leaf)
leaf_from (Some cell) leaf is = search rules
leaf_from None leaf is = search rules

pub leaf_known : (n : ℕ) (leaf : CellId) → leaf_numbered n ≡ Some leaf → (level_of leaf ≡ 30) × (n ≡ raw_of leaf)
leaf_known n leaf is = let from = leaf_from (cell_numbered n) leaf is in (from.0, numbered-raw n leaf from.1)

-- ---- the leaves of a batch

pub leaf_at : (numbers : List ℕ) (from : ℕ) (leaves : List CellId) (count k n : ℕ) (leaf : CellId) → IsBatchAt numbers from leaves count → k < count
    → n ≡ from + k → leaf ≡ get_or leaves k leaf → (leaf_in numbers n ≡ Some leaf) × (n < length numbers)
leaf_at numbers from leaves count k n leaf block less at is =
    let listed = block.listed in
    let within = block.within in
    let there = sym (block.each k less) ∙ slice_get_read leaves (length leaves) k leaf refl (omega arith) is in
    (subst (λ m. leaf_in numbers m ≡ Some leaf) (sym at) there, omega (arith, at))

pub level_at : (numbers : List ℕ) (from : ℕ) (leaves : List CellId) (count k n : ℕ) (leaf : CellId) → IsBatchAt numbers from leaves count → k < count
    → n ≡ from + k → leaf ≡ get_or leaves k leaf → level_of (get_or leaves k leaf) ≡ 30
level_at numbers from leaves count k n leaf block less at is =
    let there = (leaf_at numbers from leaves count k n leaf block less at is).0 in
    subst (λ (l : CellId). level_of l ≡ 30) is (leaf_known (slice_index_or numbers n 0) leaf there).0

-- ---- one more leaf

pub over_more : (leaves : List ℕ) (k : ℕ) (held : Collection) → k < length leaves
    → over_first (k + 1) leaves held ≡ over_first k leaves held ++ contents_at (slice_index_or leaves k 0) held
over_more leaves k held less =
    ap (λ l. over_each l held) (take_more leaves k 0 less)
    ∙ flat_map-append (λ leaf. contents_at leaf held) (take k leaves) (slice_index_or leaves k 0 ∷ [])
    ∙ ap (λ l. over_first k leaves held ++ l) (append-nil (contents_at (slice_index_or leaves k 0) held))

-- with a leaf more there are so many pairs more
pub over_next : (leaves : List ℕ) (k : ℕ) (held : Collection) (leaf : CellId) (chain : Collection) → k < length leaves → leaf_in leaves k ≡ Some leaf
    → chain ≡ contents_at (raw_of leaf) held → over_first (k + 1) leaves held ≡ over_first k leaves held ++ chain
over_next leaves k held leaf chain less there is =
    let raw = (leaf_known (slice_index_or leaves k 0) leaf there).1 in
    over_more leaves k held less ∙ ap (λ c. over_first k leaves held ++ c) (ap (λ n. contents_at n held) raw ∙ sym is)

pub answered_more : {R : Type 0} (of : Held → R) (held : Collection) (leaves : List ℕ) (k count end : ℕ) (ends : List ℕ) (out new : List R) (leaf : CellId)
    (chain : Collection) → AreAnswered of held leaves k ends out → k < length leaves → k < length ends → leaf_in leaves k ≡ Some leaf
    → count ≡ length (over_first k leaves held) → chain ≡ contents_at (raw_of leaf) held → end ≡ count + length chain
    → take end new ≡ take count out ++ map of chain
    → AreAnswered of held leaves (k + 1) (slice_set ends k end) new × (end ≡ length (over_first (k + 1) leaves held))
answered_more of held leaves k count end ends out new leaf chain are less listed there count_is is end_is put =
    let all = over_next leaves k held leaf chain less there is in
    let long : end ≡ length (over_first (k + 1) leaves held) =
    omega (arith, ap length all, length-append (over_first k leaves held) chain) in (
      record {
        within = omega arith;
        are_leaves = λ j lt none.
            elim (cases_eq j k) [
              | inl e ↦ absurd (let none_there = ap (leaf_in leaves) (sym e) ∙ none in cc)
              | inr ne ↦ are.are_leaves j (omega (arith, ne)) none
            ];
        listed = omega (arith, length-set ends k end);
        each_end = λ j lt.
            elim (cases_eq j k) [
              | inl e ↦
                  subst (λ i. slice_index_or (slice_set ends k end) i 0 ≡ length (over_first (i + 1) leaves held)) (sym e)
                  (get_or-set_same ends k end 0 listed ∙ long)
              | inr ne ↦ get_or-set_other ends k j end 0 ne ∙ are.each_end j (omega (arith, ne))
            ];
        put =
            ap (λ n. take n new) (sym long) ∙ put
            ∙ ap (λ l. l ++ map of chain) (ap (λ n. take n out) count_is ∙ are.put)
            ∙ sym (map-append of (over_first k leaves held) chain)
            ∙ ap (map of) (sym all);
      },
      long,
    )

-- there is no room for what lies over the next leaf
pub no_room : {R : Type 0} (held : Collection) (leaves : List ℕ) (k count : ℕ) (ends : List ℕ) (out : List R) (leaf : CellId) (chain : Collection)
    → k < length leaves → leaf_in leaves k ≡ Some leaf → count ≡ length (over_first k leaves held) → chain ≡ contents_at (raw_of leaf) held
    → length out < count + length chain → LacksRoom held leaves k ends out
no_room held leaves k count ends out leaf chain less there count_is is short =
    let all = over_next leaves k held leaf chain less there is in
    record {
      within = less;
      is_leaf = λ none. let e = sym there ∙ none in cc;
      short = inr (omega (arith, ap length all, length-append (over_first k leaves held) chain));
    }
