-- Chains that are kept in lists.
use Rattle.std.proofs.Common.{◌≡◌, ◌<◌, ◌≤◌, ◌+◌, ℕ, Option, List, [], ◌∷◌, length, drop, get_or, slice_index_or, ap, sym, arith, length-append}
use Rattle.std.proofs.lemmas.List.{get_or_default}
use Rattle.s2id_core.specs.declared.cell_id.CellId.{CellId}
use Rattle.s2id_core.specs.CellId.{level_of, raw_of}
use Rattle.s2ix_bag_pairs.specs.Collection.{Collection}
use Rattle.s2ix_bag_pairs.specs.declared.pair.Held.{Held}
use Rattle.s2ix_table_walk.specs.Links.{AreLinked}
use Rattle.s2ix_table_walk.specs.Places.{from_place}
use Rattle.s2ix_table_walk.proofs.Over.{length_contents}
use Rattle.s2ix_table_queries.specs.LeafContents.{AreContents}
use Rattle.s2ix_table_queries.proofs.Linking.{linked_at, over_leaf}
use Rattle.s2ix_c_calls.proofs.Filling.{passed_one}

-- a chain has one pair more than what goes on behind its first
pub one_more_linked : {held : Collection} {outers : List ℕ} {chain : ℕ → Collection} (place : ℕ) → AreLinked held outers chain
    → place < length held → length (chain place) ≡ 1 + length (chain (slice_index_or outers place 0))
one_more_linked {held = []} place linked lt = absurd (omega (arith, lt))
one_more_linked {held = h ∷ hs} place linked lt =
    let there : Held = get_or (h ∷ hs) place h in
    omega (arith, ap length (linked_at place there linked lt (get_or_default (h ∷ hs) place h there lt)))

-- one pair more of a chain is passed
pub passed_linked : {held : Collection} {outers : List ℕ} {chain : ℕ → Collection} (place k : ℕ) (whole : Collection) → AreLinked held outers chain
    → place < length held → chain place ≡ drop k whole → chain (slice_index_or outers place 0) ≡ drop (k + 1) whole
passed_linked {held = []} place k whole linked lt is = absurd (omega (arith, lt))
passed_linked {held = h ∷ hs} {outers} {chain} place k whole linked lt is =
    let there : Held = get_or (h ∷ hs) place h in
    sym (passed_one whole k there (chain place) (chain (slice_index_or outers place 0)) is
    (linked_at place there linked lt (get_or_default (h ∷ hs) place h there lt)))

-- a chain in lists and the one behind it have no more pairs than a collection
pub both_short : {P : Type 0} {chain : P → Collection} {pairs : Collection} {start limit : ℕ} {held : Collection} {outers : List ℕ} {first : ℕ}
    {rest : Option P} (leaf : CellId) (are : AreContents chain pairs start limit held outers first rest) → level_of leaf ≡ 30 → start ≤ raw_of leaf
    → raw_of leaf < limit → length pairs ≤ 1000000 → length (are.listed first) + length (from_place chain rest) ≤ 1000000
both_short {chain = chain} {pairs} {first = first} {rest} leaf are deep from to within_limit =
    omega (
      arith,
      ap length (over_leaf leaf are deep from to),
      length-append (are.listed first) (from_place chain rest),
      length_contents (raw_of leaf) pairs,
      within_limit,
    )
