-- Two collections compared side by side.
use Rattle.std.proofs.Common.{◌≡◌, ℕ, ◌+◌, ◌<◌, List, [], ◌∷◌, ◌++◌, map, take, drop, get_or, length, refl, sym, ap, ap₂, ◌∙◌, subst, ⊎_elim, arith, eq-eqb, ne_eqb}
use Rattle.std.proofs.lemmas.Bool.{cases_eq, cond-true, cond-false}
use Rattle.std.proofs.lemmas.List.{drop_more, drop_all, append_assoc, take-append-drop}
use Rattle.s2ix_bag_pairs.specs.Collection.{Collection, IsCollection, IsCollectionFrom, AreBelow, count_at, count_in, past}
use Rattle.s2ix_bag_pairs.specs.Change.{counts_at, difference_of, change_between, entry_with, removal_of}
use Rattle.s2ix_bag_pairs.specs.Pair.{rank_of}
use Rattle.s2ix_bag_pairs.specs.declared.pair.Pair.{Pair}
use Rattle.s2ix_bag_pairs.specs.declared.pair.Held.{Held}
use Rattle.s2ix_bag_pairs.specs.declared.pair.Entry.{Entry}
use Rattle.s2ix_bag_pairs.proofs.Counts.{count_head, count_tail, count_below, from_lower}
use Rattle.s2ix_bag_pairs.proofs.Changes.{counts_head, counts_tail, counts_below, change_lower}
use Rattle.s2ix_bag_pairs.proofs.Differences.{no_difference, some_difference, between_is_change_from, counts_between_at, only_change}
use Rattle.s2ix_bag_pairs.proofs.CutAtRank.{past_rises, count_past, collection_drop}

-- the pair of an entry may be left out if its counts are the same
pub entry_none : (p : Pair) (before after : ℕ) (es : List Entry) → before ≡ after → entry_with p before after es ≡ es
entry_none p before after es same = cond-true _ _ _ (eq-eqb _ _ same)

pub entry_some : (p : Pair) (before after : ℕ) (es : List Entry) → (before ≡ after → ⊥)
    → entry_with p before after es ≡ record { pair = p; before = before; after = after } ∷ es
entry_some p before after es ne = cond-false _ _ _ (ne_eqb _ _ ne)

entry_with_append : (p : Pair) (before after : ℕ) (es : List Entry) → entry_with p before after es ≡ entry_with p before after [] ++ es
entry_with_append p before after es =
    ⊎_elim
    (λ same. entry_none p before after es same ∙ ap (λ x. x ++ es) (sym (entry_none p before after [] same)))
    (λ ne. entry_some p before after es ne ∙ ap (λ x. x ++ es) (sym (entry_some p before after [] ne)))
    (cases_eq before after)

-- a first entry before those of two collections, whose counts are those of two greater ones
first_entry : (p : Pair) (before after : ℕ) (old new hs ks : Collection) → IsCollection old → IsCollection new
    → IsCollectionFrom (rank_of p + 1) hs → IsCollectionFrom (rank_of p + 1) ks → count_in old p ≡ before → count_in new p ≡ after
    → ((k : ℕ) → (rank_of p ≡ k → ⊥) → count_at old k ≡ count_at hs k) → ((k : ℕ) → (rank_of p ≡ k → ⊥) → count_at new k ≡ count_at ks k)
    → change_between old new ≡ entry_with p before after (change_between hs ks)
first_entry p before after old new hs ks old_is new_is hs_is ks_is old_p new_p old_others new_others =
    let rest = change_between hs ks in
    let rest_is = between_is_change_from (rank_of p + 1) hs ks hs_is ks_is in
    let hs_all = from_lower 0 (rank_of p + 1) hs (omega arith) hs_is in
    let ks_all = from_lower 0 (rank_of p + 1) ks (omega arith) ks_is in
    let others : (k : ℕ) → (rank_of p ≡ k → ⊥) → counts_at rest k ≡ difference_of (count_at old k) (count_at new k) =
    λ k ne.
    counts_between_at hs ks k hs_all ks_all ∙ ap₂ (λ (m n : ℕ). difference_of m n) (sym (old_others k ne)) (sym (new_others k ne)) in
    ⊎_elim
    (λ same.
    let own : (k : ℕ) → rank_of p ≡ k → counts_at rest k ≡ difference_of (count_at old k) (count_at new k) =
    λ k here.
    counts_below (rank_of p + 1) rest k rest_is (omega (arith, here))
    ∙ sym (no_difference (count_in old p) (count_in new p) (old_p ∙ same ∙ sym new_p))
    ∙ ap (λ i. difference_of (count_at old i) (count_at new i)) here in
    sym (entry_none p before after rest same
    ∙ only_change old new rest old_is new_is (change_lower 0 (rank_of p + 1) rest (omega arith) rest_is)
    (λ q. ⊎_elim (own (rank_of q)) (others (rank_of q)) (cases_eq (rank_of p) (rank_of q)))))
    (λ ne.
    let e : Entry = record { pair = p; before = before; after = after } in
    let own : (k : ℕ) → rank_of p ≡ k → counts_at (e ∷ rest) k ≡ difference_of (count_at old k) (count_at new k) =
    λ k here. counts_head e rest k here ∙ sym (some_difference before after ne)
    ∙ ap₂ (λ (m n : ℕ). difference_of m n) (sym old_p) (sym new_p) ∙ ap (λ i. difference_of (count_at old i) (count_at new i)) here in
    sym (entry_some p before after rest ne
    ∙ only_change old new (e ∷ rest) old_is new_is (omega arith, ne, rest_is)
    (λ q.
    ⊎_elim (own (rank_of q)) (λ other. counts_tail e rest (rank_of q) other ∙ others (rank_of q) other) (cases_eq (rank_of p) (rank_of q)))))
    (cases_eq before after)

-- a first pair that is held no more
between_removal : (h : Held) (hs ks : Collection) → IsCollection (h ∷ hs) → IsCollectionFrom (rank_of h.pair + 1) ks
    → change_between (h ∷ hs) ks ≡ removal_of h ∷ change_between hs ks
between_removal h hs ks hs_is ks_is =
    first_entry h.pair h.count 0 (h ∷ hs) ks hs ks hs_is (from_lower 0 (rank_of h.pair + 1) ks (omega arith) ks_is) hs_is.2 ks_is
    (count_head h hs (rank_of h.pair) refl) (count_below (rank_of h.pair + 1) ks (rank_of h.pair) ks_is (omega arith))
    (λ k ne. count_tail h hs k ne) (λ k ne. refl)
    ∙ entry_some h.pair h.count 0 (change_between hs ks) (λ none. omega (arith, none, hs_is.1))

between_removal_all : (fs hs ks : Collection) (m n : ℕ) → AreBelow n fs → IsCollectionFrom m (fs ++ hs) → IsCollectionFrom n ks
    → change_between (fs ++ hs) ks ≡ map removal_of fs ++ change_between hs ks
between_removal_all [] hs ks m n below all_is ks_is = refl
between_removal_all (f ∷ fs) hs ks m n below all_is ks_is =
    between_removal f (fs ++ hs) ks (omega arith, all_is.1, all_is.2) (from_lower (rank_of f.pair + 1) n ks (omega (arith, below.0)) ks_is)
    ∙ ap (λ x. removal_of f ∷ x) (between_removal_all fs hs ks (rank_of f.pair + 1) n below.1 all_is.2 ks_is)

-- the first pair of the new collection, with the old one from it on
between_first : (hs : Collection) (k : Held) (ks : Collection) → IsCollectionFrom (rank_of k.pair) hs → IsCollection (k ∷ ks)
    → change_between hs (k ∷ ks) ≡ entry_with k.pair (count_in hs k.pair) k.count (change_between (past hs (rank_of k.pair)) ks)
between_first hs k ks hs_is ks_is =
    first_entry k.pair (count_in hs k.pair) k.count hs (k ∷ ks) (past hs (rank_of k.pair)) ks
    (from_lower 0 (rank_of k.pair) hs (omega arith) hs_is) ks_is (past_rises (rank_of k.pair) hs hs_is) ks_is.2 refl
    (count_head k ks (rank_of k.pair) refl) (λ i ne. sym (count_past (rank_of k.pair) i hs ne)) (λ i ne. count_tail k ks i ne)

-- ---- the walk

-- the entries so far, and what is left to compare
pub record Comparing (old new : Collection) (out : List Entry) (rest : Collection) (i : ℕ) : Type 0 where
  pub rises : IsCollection rest
  pub made : out ++ change_between rest (drop i new) ≡ change_between old new

pub comparing_step : (old new : Collection) (out : List Entry) (rest : Collection) (i n : ℕ) (k : Held) → i < length new
    → k ≡ get_or new i k → IsCollection new → Comparing old new out rest i → AreBelow (rank_of k.pair) (take n rest)
    → IsCollectionFrom (rank_of k.pair) (drop n rest)
    → Comparing old new ((out ++ map removal_of (take n rest)) ++ entry_with k.pair (count_in (drop n rest) k.pair) k.count [])
    (past (drop n rest) (rank_of k.pair)) (i + 1)
comparing_step old new out rest i n k within is new_is was below from_pair =
    let split : drop i new ≡ k ∷ drop (i + 1) new = drop_more new i k within ∙ ap (λ x. x ∷ drop (i + 1) new) (sym is) in
    let Rises : Collection → Type 0 = λ xs. IsCollection xs in
    let left_is = subst Rises split (collection_drop i 0 new new_is) in
    let left = drop (i + 1) new in
    let front = take n rest in
    let tail = past (drop n rest) (rank_of k.pair) in
    let put = entry_with k.pair (count_in (drop n rest) k.pair) k.count [] in
    let own_rises : IsCollectionFrom (rank_of k.pair) (k ∷ left) = (omega arith, left_is.1, left_is.2) in
    let this : change_between rest (k ∷ left) ≡ map removal_of front ++ (put ++ change_between tail left) =
    ap (λ x. change_between x (k ∷ left)) (sym (take-append-drop n rest))
    ∙ between_removal_all front (drop n rest) (k ∷ left) 0 (rank_of k.pair) below (subst Rises (sym (take-append-drop n rest)) was.rises)
    own_rises
    ∙ ap (λ x. map removal_of front ++ x) (between_first (drop n rest) k left from_pair left_is
    ∙ entry_with_append k.pair (count_in (drop n rest) k.pair) k.count (change_between tail left)) in
    record {
      rises = from_lower 0 (rank_of k.pair + 1) tail (omega arith) (past_rises (rank_of k.pair) (drop n rest) from_pair);
      made = append_assoc (out ++ map removal_of front) put (change_between tail left)
          ∙ append_assoc out (map removal_of front) (put ++ change_between tail left)
          ∙ ap (λ x. out ++ x) (sym this) ∙ ap (λ xs. out ++ change_between rest xs) (sym split) ∙ was.made;
    }

between_nothing : (hs : Collection) (m : ℕ) → IsCollectionFrom m hs → change_between hs [] ≡ map removal_of hs
between_nothing [] m hs_is = refl
between_nothing (h ∷ hs) m hs_is =
    between_removal h hs [] (omega arith, hs_is.1, hs_is.2) tt
    ∙ ap (λ x. removal_of h ∷ x) (between_nothing hs (rank_of h.pair + 1) hs_is.2)

pub comparing_end : (old new : Collection) (out : List Entry) (rest : Collection) (i : ℕ) → i ≡ length new → Comparing old new out rest i
    → out ++ map removal_of rest ≡ change_between old new
comparing_end old new out rest i all was =
    let none : drop i new ≡ [] = drop_all i new (omega (arith, all)) in
    ap (λ x. out ++ x) (sym (between_nothing rest 0 was.rises)) ∙ ap (λ xs. out ++ change_between rest xs) (sym none) ∙ was.made
