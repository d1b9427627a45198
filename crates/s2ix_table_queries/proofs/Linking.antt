-- Chains in lists, put pair by pair, and what lies over a leaf.
use Rattle.std.proofs.Common.{◌≡◌, ℕ, ◌+◌, ◌%◌, ◌<◌, ◌≤◌, Option, Some, None, IfSome, List, [], ◌∷◌, ◌++◌, length, map, take, get_or, slice_index_or, slice_set, refl, sym, ◌∙◌, ap, arith}
use Rattle.std.proofs.lemmas.List.{append_assoc, get_or_default, length-append, map-append, take_more_set}
use Rattle.std.proofs.lemmas.Option.{slice_get-get_or, slice_get_read}
use Rattle.s2id_core.specs.declared.cell_id.CellId.{CellId}
use Rattle.s2id_core.specs.CellId.{level_of, raw_of}
use Rattle.s2id_core.proofs.Nested.{leaf_span, span}
use Rattle.s2ix_bag_pairs.specs.Collection.{Collection}
use Rattle.s2ix_bag_pairs.specs.declared.pair.Held.{Held}
use Rattle.s2ix_table_walk.specs.Contents.{contents_at}
use Rattle.s2ix_table_walk.specs.Links.{AreLinked}
use Rattle.s2ix_table_walk.specs.Places.{from_place}
use Rattle.s2ix_table_queries.specs.LeafContents.{AreContents}

-- the pair at a place, and the rest of its chain
pub linked_at : {held : Collection} {outer : List ℕ} {chain : ℕ → Collection} (place : ℕ) (h : Held) → AreLinked held outer chain → place < length held
    → h ≡ get_or held place h → chain place ≡ h ∷ chain (slice_index_or outer place 0)
linked_at {held} {outer} {chain} place h linked lt is =
    let size = linked.size in
    linked.goes_on place (slice_index_or outer place 0) h (slice_get_read held (length held) place h refl lt is)
    (slice_get-get_or outer place 0 (omega arith))

pub some_linked : {held : Collection} {outer : List ℕ} {chain : ℕ → Collection} (place : ℕ) → AreLinked held outer chain → place < length held
    → 0 < length (chain place)
some_linked {held = []} place linked lt = absurd (omega (arith, lt))
some_linked {held = h ∷ hs} {outer} {chain} place linked lt =
    let there : Held = get_or (h ∷ hs) place h in
    let long = ap length (linked_at place there linked lt (get_or_default (h ∷ hs) place h there lt)) in
    omega (arith, long)

pub leaf_odd : (leaf : CellId) → level_of leaf ≡ 30 → raw_of leaf % 2 ≡ 1
leaf_odd leaf level =
    let own = (leaf_span (raw_of leaf) leaf.valid level).0 in
    let begins = (span (raw_of leaf) leaf.valid).odd in
    omega arith

-- what lies over a leaf, by what lies over those beside it
pub over_leaf : {P : Type 0} {chain : P → Collection} {pairs : Collection} {start limit : ℕ} {held : Collection} {outer : List ℕ} {first : ℕ}
    {behind : Option P} (leaf : CellId) (are : AreContents chain pairs start limit held outer first behind) → level_of leaf ≡ 30
    → start ≤ raw_of leaf → raw_of leaf < limit → contents_at (raw_of leaf) pairs ≡ are.listed first ++ from_place chain behind
over_leaf leaf are level from to = are.over (raw_of leaf) (leaf_odd leaf level) from to

-- a pair is put, and the rest of its chain is left
pub put_more : {R : Type 0} (of : Held → R) (out : List R) (at : ℕ) (h : Held) (rest chain : Collection) (all : List R) → at < length out
    → chain ≡ h ∷ rest → take at out ++ map of chain ≡ all → take (at + 1) (slice_set out at (of h)) ++ map of rest ≡ all
put_more of out at h rest chain all lt is put =
    ap (λ l. l ++ map of rest) (take_more_set out at (of h) lt)
    ∙ append_assoc (take at out) (of h ∷ []) (map of rest)
    ∙ ap (λ c. take at out ++ map of c) (sym is) ∙ put

-- ---- a chain in lists, and the rest behind it

pub ends_behind : (end : Option ℕ) (at from : ℕ) (listed rest all : Collection) → all ≡ listed ++ rest → at ≡ from + length listed
    → IfSome end (λ e. e ≡ at + length rest) → IfSome end (λ e. e ≡ from + length all)
ends_behind None at from listed rest all is at_is ends = ends
ends_behind (Some end) at from listed rest all is at_is ends = omega (arith, ap length is, length-append listed rest, at_is, ends)

pub put_behind : {R : Type 0} (of : Held → R) (end : Option ℕ) (before at new : List R) (listed rest all : Collection) → all ≡ listed ++ rest
    → at ≡ before ++ map of listed → IfSome end (λ e. take e new ≡ at ++ map of rest) → IfSome end (λ e. take e new ≡ before ++ map of all)
put_behind of None before at new listed rest all is at_is put = put
put_behind of (Some end) before at new listed rest all is at_is put =
    put ∙ ap (λ l. l ++ map of rest) at_is ∙ append_assoc before (map of listed) (map of rest)
    ∙ ap (λ l. before ++ l) (sym (map-append of listed rest) ∙ ap (map of) (sym is))
