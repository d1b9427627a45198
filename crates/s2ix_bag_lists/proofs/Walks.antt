-- Walks along a collection and a change side by side.
use Rattle.std.proofs.Common.{◌≡◌, ℕ, zero, suc, ◌+◌, ◌<◌, ◌≤◌, not, List, [], ◌∷◌, ◌++◌, take, drop, get_or, length, Some, position, refl, sym, ap, ◌∙◌, subst, arith, eq-eqb, ne_eqb}
use Rattle.std.specs.List.{position_or_len}
use Rattle.std.proofs.lemmas.Bool.{cond-true, cond-false}
use Rattle.std.proofs.lemmas.List.{drop_more, append_assoc, take-append-drop}
use Rattle.s2ix_bag_pairs.specs.Collection.{Collection, IsCollection, IsCollectionFrom, AreBelow, count_in, held_with, past}
use Rattle.s2ix_bag_pairs.specs.Change.{IsChangeList, IsChangeListFrom, changed}
use Rattle.s2ix_bag_pairs.specs.Pair.{rank_of}
use Rattle.s2ix_bag_pairs.specs.declared.pair.Entry.{Entry}
use Rattle.s2ix_bag_pairs.proofs.Counts.{from_lower}
use Rattle.s2ix_bag_pairs.proofs.Changes.{change_lower, changed-append}
use Rattle.s2ix_bag_pairs.proofs.CutAtRank.{collection_drop, count_past_below, past_rises, changed_first, held_with_append}
use Rattle.s2ix_bag_lists.proofs.Refusals.{is_mismatch, position_is}

pub change_drop : (m i : ℕ) (es : List Entry) → IsChangeListFrom m es → IsChangeList (drop i es)
change_drop m zero es es_is = change_lower 0 m es (omega arith) es_is
change_drop m (suc i) [] es_is = tt
change_drop m (suc i) (e ∷ es) es_is = change_drop (rank_of e.pair + 1) i es es_is.2

-- ---- the first mismatch

-- what is left of a collection has the same counts for the pairs of the entries
abbrev pub StillCounts : Collection → Collection → List Entry → Type 0
StillCounts rest hs [] = Unit {0}
StillCounts rest hs (e ∷ es) = (count_in rest e.pair ≡ count_in hs e.pair) × StillCounts rest hs es

still_start : (hs : Collection) (es : List Entry) → StillCounts hs hs es
still_start hs [] = tt
still_start hs (e ∷ es) = (refl, still_start hs es)

still_moves : (rank n m : ℕ) (rest hs : Collection) (es : List Entry) → rank ≤ m → IsChangeListFrom m es → AreBelow rank (take n rest)
    → StillCounts rest hs es → StillCounts (drop n rest) hs es
still_moves rank n m rest hs [] le es_is below still = tt
still_moves rank n m rest hs (e ∷ es) le es_is below still = (
  sym (count_past_below rank n (rank_of e.pair) rest below (omega (arith, le, es_is.0))) ∙ still.0,
  still_moves rank n (rank_of e.pair + 1) rest hs es (omega (arith, le, es_is.0)) es_is.2 below still.1,
)

-- the first i entries have the right counts before
pub record Compared (hs : Collection) (es : List Entry) (rest : Collection) (i : ℕ) : Type 0 where
  pub rises : IsCollection rest
  pub still : StillCounts rest hs (drop i es)
  pub none : position_or_len (is_mismatch hs) es ≡ i + position_or_len (is_mismatch hs) (drop i es)

pub compared_start : (hs : Collection) (es : List Entry) → IsCollection hs → Compared hs es hs 0
compared_start hs es hs_is = record { rises = hs_is; still = still_start hs es; none = omega arith }

at_entry : (hs : Collection) (es : List Entry) (rest : Collection) (i n : ℕ) (e : Entry) → i < length es → e ≡ get_or es i e
    → IsChangeList es → Compared hs es rest i → AreBelow (rank_of e.pair) (take n rest) → StillCounts (drop n rest) hs (e ∷ drop (i + 1) es)
at_entry hs es rest i n e within is es_is was below =
    let split : drop i es ≡ e ∷ drop (i + 1) es = drop_more es i e within ∙ ap (λ x. x ∷ drop (i + 1) es) (sym is) in
    let Rises : List Entry → Type 0 = λ xs. IsChangeList xs in
    let rises = subst Rises split (change_drop 0 i es es_is) in
    let Still : List Entry → Type 0 = λ xs. StillCounts rest hs xs in
    still_moves (rank_of e.pair) n (rank_of e.pair) rest hs (e ∷ drop (i + 1) es) (omega arith) (omega arith, rises.1, rises.2) below
    (subst Still split was.still)

pub compared_step : (hs : Collection) (es : List Entry) (rest : Collection) (i n : ℕ) (e : Entry) → i < length es → e ≡ get_or es i e
    → IsChangeList es → Compared hs es rest i → AreBelow (rank_of e.pair) (take n rest) → count_in (drop n rest) e.pair ≡ e.before
    → Compared hs es (drop n rest) (i + 1)
compared_step hs es rest i n e within is es_is was below same =
    let still = at_entry hs es rest i n e within is es_is was below in
    let split : drop i es ≡ e ∷ drop (i + 1) es = drop_more es i e within ∙ ap (λ x. x ∷ drop (i + 1) es) (sym is) in
    let fits = ap (λ t. not (not t)) (eq-eqb _ _ (sym same ∙ still.0)) in
    let next =
    ap (λ xs. position_or_len (is_mismatch hs) xs) split
    ∙ cond-true (not (is_mismatch hs e)) (1 + position_or_len (is_mismatch hs) (drop (i + 1) es)) 0 fits in
    record {
      rises = collection_drop n 0 rest was.rises;
      still = still.1;
      none = omega (arith, was.none, next);
    }

pub compared_found : (hs : Collection) (es : List Entry) (rest : Collection) (i n : ℕ) (e : Entry) → i < length es → e ≡ get_or es i e
    → IsChangeList es → Compared hs es rest i → AreBelow (rank_of e.pair) (take n rest) → (count_in (drop n rest) e.pair ≡ e.before → ⊥)
    → position (is_mismatch hs) es ≡ Some i
compared_found hs es rest i n e within is es_is was below ne =
    let still = at_entry hs es rest i n e within is es_is was below in
    let split : drop i es ≡ e ∷ drop (i + 1) es = drop_more es i e within ∙ ap (λ x. x ∷ drop (i + 1) es) (sym is) in
    let differs = ap (λ t. not (not t)) (ne_eqb e.before (count_in hs e.pair) (λ eq. ne (still.0 ∙ sym eq))) in
    let next =
    ap (λ xs. position_or_len (is_mismatch hs) xs) split
    ∙ cond-false (not (is_mismatch hs e)) (1 + position_or_len (is_mismatch hs) (drop (i + 1) es)) 0 differs in
    let here : position_or_len (is_mismatch hs) es ≡ i = omega (arith, was.none, next) in
    position_is hs es (omega (arith, here, within)) ∙ ap (λ k. Some k) here

-- ---- a merge

-- what came out so far, and what the entries that are left make of the rest
pub record Merging (hs : Collection) (es : List Entry) (out rest : Collection) (i : ℕ) : Type 0 where
  pub rises : IsCollection rest
  pub made : out ++ changed rest (drop i es) ≡ changed hs es

pub merging_step : (hs : Collection) (es : List Entry) (out rest : Collection) (i n : ℕ) (e : Entry) → i < length es → e ≡ get_or es i e
    → IsChangeList es → Merging hs es out rest i → AreBelow (rank_of e.pair) (take n rest) → IsCollectionFrom (rank_of e.pair) (drop n rest)
    → Merging hs es ((out ++ take n rest) ++ held_with e.pair e.after []) (past (drop n rest) (rank_of e.pair)) (i + 1)
merging_step hs es out rest i n e within is es_is was below from_pair =
    let split : drop i es ≡ e ∷ drop (i + 1) es = drop_more es i e within ∙ ap (λ x. x ∷ drop (i + 1) es) (sym is) in
    let Rises : List Entry → Type 0 = λ xs. IsChangeList xs in
    let rises = subst Rises split (change_drop 0 i es es_is) in
    let left = drop (i + 1) es in
    let front = take n rest in
    let tail = past (drop n rest) (rank_of e.pair) in
    let put = held_with e.pair e.after [] in
    let this : changed rest (e ∷ left) ≡ front ++ (put ++ changed tail left) =
    ap (λ x. changed x (e ∷ left)) (sym (take-append-drop n rest))
    ∙ changed-append front (drop n rest) (rank_of e.pair) (e ∷ left) below (omega arith, rises.1, rises.2)
    ∙ ap (λ x. front ++ x) (changed_first (drop n rest) e left from_pair rises.2 ∙ held_with_append e.pair e.after (changed tail left)) in
    record {
      rises = from_lower 0 (rank_of e.pair + 1) tail (omega arith) (past_rises (rank_of e.pair) (drop n rest) from_pair);
      made = append_assoc (out ++ front) put (changed tail left) ∙ append_assoc out front (put ++ changed tail left)
          ∙ ap (λ x. out ++ x) (sym this) ∙ ap (λ xs. out ++ changed rest xs) (sym split) ∙ was.made;
    }
