-- Changes that follow each other, as one.
use Rattle.std.proofs.Common.{◌≡◌, ◌≢◌, ◌⊎◌, ℕ, ◌+◌, ◌<◌, ◌≤◌, List, [], ◌∷◌, ◌++◌, drop, get_or, length, take, Option, Some, None, refl, sym, ap, ap₂, ◌∙◌, subst, ⊎_elim, arith, eq-eqb, ne_eqb, lt-ltb, le-ltb}
use Rattle.std.proofs.lemmas.Bool.{cases_eq, cases_order, cond-true, cond-false}
use Rattle.std.proofs.lemmas.List.{append-nil, append_assoc, drop_all, take-append-drop}
use Rattle.std.proofs.lemmas.Option.{some_pair_parts}
use Rattle.s2ix_bag_lists.specs.Apply.{AreBefore}
use Rattle.s2ix_bag_lists.proofs.Applied.{before_from_counts, before_rest, change_between-changed}
use Rattle.s2ix_bag_lists.proofs.Comparing.{entry_none, entry_some}
use Rattle.s2ix_bag_lists.proofs.Unsorted.{split_at}
use Rattle.s2ix_bag_lists.proofs.Walks.{change_drop}
use Rattle.s2ix_bag_pairs.specs.declared.pair.Entry.{Entry}
use Rattle.s2ix_bag_pairs.specs.declared.pair.Pair.{Pair}
use Rattle.s2ix_bag_pairs.specs.Change.{IsChangeList, IsChangeListFrom, change_between, changed, counts_at, difference_of, entry_with}
use Rattle.s2ix_bag_pairs.specs.Collection.{Collection, IsCollection, count_at, count_in, set_count}
use Rattle.s2ix_bag_pairs.specs.Pair.{rank_of}
use Rattle.s2ix_bag_pairs.proofs.Changes.{change_lower, changed_keeps, counts_below, counts_head, counts_tail}
use Rattle.s2ix_bag_pairs.proofs.Collections.{count_set_other, count_set_same, set_keeps}
use Rattle.s2ix_bag_pairs.proofs.Differences.{between_is_change, changed_between, counts_between_at, no_difference, only_change, some_difference}
use Rattle.s2ix_edit_store.specs.Joining.{CanFollow, DoesAll, after_all, followed_by, with_entry}

-- ---- a later entry and the first of a change

with_entry_before : (f e : Entry) (es : List Entry) → rank_of f.pair < rank_of e.pair → with_entry f (e ∷ es) ≡ f ∷ e ∷ es
with_entry_before f e es lt = cond-true _ _ _ (lt-ltb _ _ lt)

with_entry_at : (f e : Entry) (es : List Entry) → rank_of f.pair ≡ rank_of e.pair
    → with_entry f (e ∷ es) ≡ entry_with f.pair e.before f.after es
with_entry_at f e es same =
    cond-false _ _ _ (le-ltb (rank_of f.pair) (rank_of e.pair) (omega (arith, same))) ∙ cond-true _ _ _ (eq-eqb _ _ same)

with_entry_past : (f e : Entry) (es : List Entry) → rank_of e.pair < rank_of f.pair → with_entry f (e ∷ es) ≡ e ∷ with_entry f es
with_entry_past f e es lt =
    cond-false _ _ _ (le-ltb (rank_of f.pair) (rank_of e.pair) (omega (arith, lt)))
    ∙ cond-false _ _ _ (ne_eqb (rank_of f.pair) (rank_of e.pair) (λ same. omega (arith, same, lt)))

-- ---- two changes side by side

-- an entry before all later ones stays in front
followed_past : (e : Entry) (es fs : List Entry) → IsChangeListFrom (rank_of e.pair + 1) fs → followed_by (e ∷ es) fs ≡ e ∷ followed_by es fs
followed_past e es [] fs_is = refl
followed_past e es (f ∷ fs) fs_is =
    ap (λ x. followed_by x fs) (with_entry_past f e es (omega (arith, fs_is.0)))
    ∙ followed_past e (with_entry f es) fs (change_lower (rank_of e.pair + 1) (rank_of f.pair + 1) fs (omega (arith, fs_is.0)) fs_is.2)

pub followed_older : (e f : Entry) (es fs : List Entry) → rank_of e.pair < rank_of f.pair → IsChangeList (f ∷ fs)
    → followed_by (e ∷ es) (f ∷ fs) ≡ e ∷ followed_by es (f ∷ fs)
followed_older e f es fs lt fs_is = followed_past e es (f ∷ fs) (omega (arith, lt), fs_is.1, fs_is.2)

pub followed_newer : (e f : Entry) (es fs : List Entry) → rank_of f.pair < rank_of e.pair → IsChangeList (f ∷ fs)
    → followed_by (e ∷ es) (f ∷ fs) ≡ f ∷ followed_by (e ∷ es) fs
followed_newer e f es fs lt fs_is =
    ap (λ x. followed_by x fs) (with_entry_before f e es lt) ∙ followed_past f (e ∷ es) fs fs_is.2

pub followed_both : (e f : Entry) (es fs : List Entry) → rank_of f.pair ≡ rank_of e.pair → IsChangeList (f ∷ fs)
    → followed_by (e ∷ es) (f ∷ fs) ≡ entry_with f.pair e.before f.after [] ++ followed_by es fs
followed_both e f es fs same fs_is =
    ap (λ x. followed_by x fs) (with_entry_at f e es same)
    ∙ ⊎_elim
    (λ equal.
    ap (λ x. followed_by x fs) (entry_none f.pair e.before f.after es equal)
    ∙ ap (λ x. x ++ followed_by es fs) (sym (entry_none f.pair e.before f.after [] equal)))
    (λ differ.
    ap (λ x. followed_by x fs) (entry_some f.pair e.before f.after es differ)
    ∙ followed_past (record { pair = f.pair; before = e.before; after = f.after }) es fs fs_is.2
    ∙ ap (λ x. x ++ followed_by es fs) (sym (entry_some f.pair e.before f.after [] differ)))
    (cases_eq e.before f.after)

pub nothing_followed : (m : ℕ) (fs : List Entry) → IsChangeListFrom m fs → followed_by [] fs ≡ fs
nothing_followed m [] fs_is = refl
nothing_followed m (f ∷ fs) fs_is =
    followed_past f [] fs fs_is.2 ∙ ap (λ x. f ∷ x) (nothing_followed (rank_of f.pair + 1) fs fs_is.2)

-- ---- the walk

-- what came out so far, and what the entries that are left make
pub record Merging (es fs out : List Entry) (i k : ℕ) : Type 0 where
  pub older : i ≤ length es
  pub newer : k ≤ length fs
  pub made : out ++ followed_by (drop i es) (drop k fs) ≡ followed_by es fs

rest_rises : (fs : List Entry) (k : ℕ) (f : Entry) → drop k fs ≡ f ∷ drop (k + 1) fs → IsChangeList fs → IsChangeList (f ∷ drop (k + 1) fs)
rest_rises fs k f split fs_is = let Rises : List Entry → Type 0 = λ xs. IsChangeList xs in subst Rises split (change_drop 0 k fs fs_is)

more_out : (es fs out put left : List Entry) (i k : ℕ) → Merging es fs out i k → followed_by (drop i es) (drop k fs) ≡ put ++ left
    → (out ++ put) ++ left ≡ followed_by es fs
more_out es fs out put left i k was this = append_assoc out put left ∙ ap (λ x. out ++ x) (sym this) ∙ was.made

pub older_out : (es fs out : List Entry) (i k : ℕ) (e f : Entry) → IsChangeList fs → Merging es fs out i k → i < length es → k < length fs
    → e ≡ get_or es i e → f ≡ get_or fs k f → rank_of e.pair < rank_of f.pair → Merging es fs (out ++ e ∷ []) (i + 1) k
older_out es fs out i k e f fs_is was here there e_is f_is lt =
    let old = split_at es i e here e_is in
    let new = split_at fs k f there f_is in
    record {
      older = omega (arith, here);
      newer = was.newer;
      made = more_out es fs out (e ∷ []) (followed_by (drop (i + 1) es) (drop k fs)) i k was
          (ap₂ followed_by old new
          ∙ followed_older e f (drop (i + 1) es) (drop (k + 1) fs) lt (rest_rises fs k f new fs_is)
          ∙ ap (λ xs. e ∷ followed_by (drop (i + 1) es) xs) (sym new));
    }

pub newer_out : (es fs out : List Entry) (i k : ℕ) (e f : Entry) → IsChangeList fs → Merging es fs out i k → i < length es → k < length fs
    → e ≡ get_or es i e → f ≡ get_or fs k f → rank_of f.pair < rank_of e.pair → Merging es fs (out ++ f ∷ []) i (k + 1)
newer_out es fs out i k e f fs_is was here there e_is f_is lt =
    let old = split_at es i e here e_is in
    let new = split_at fs k f there f_is in
    record {
      older = was.older;
      newer = omega (arith, there);
      made = more_out es fs out (f ∷ []) (followed_by (drop i es) (drop (k + 1) fs)) i k was
          (ap₂ followed_by old new
          ∙ followed_newer e f (drop (i + 1) es) (drop (k + 1) fs) lt (rest_rises fs k f new fs_is)
          ∙ ap (λ xs. f ∷ followed_by xs (drop (k + 1) fs)) (sym old));
    }

pub both_out : (es fs out : List Entry) (i k : ℕ) (e f : Entry) → IsChangeList fs → Merging es fs out i k → i < length es → k < length fs
    → e ≡ get_or es i e → f ≡ get_or fs k f → rank_of f.pair ≡ rank_of e.pair
    → Merging es fs (out ++ entry_with f.pair e.before f.after []) (i + 1) (k + 1)
both_out es fs out i k e f fs_is was here there e_is f_is same =
    let old = split_at es i e here e_is in
    let new = split_at fs k f there f_is in
    record {
      older = omega (arith, here);
      newer = omega (arith, there);
      made = more_out es fs out (entry_with f.pair e.before f.after []) (followed_by (drop (i + 1) es) (drop (k + 1) fs)) i k was
          (ap₂ followed_by old new ∙ followed_both e f (drop (i + 1) es) (drop (k + 1) fs) same (rest_rises fs k f new fs_is));
    }

-- where one change has ended, the rest of the other comes last
pub all_out : (es fs out : List Entry) (i k : ℕ) → IsChangeList fs → Merging es fs out i k → (length es ≤ i) ⊎ (length fs ≤ k)
    → (out ++ drop i es) ++ drop k fs ≡ followed_by es fs
all_out es fs out i k fs_is was past =
    ⊎_elim
    (λ le.
    let none = drop_all i es le in
    ap (λ xs. (out ++ xs) ++ drop k fs) none
    ∙ ap (λ xs. xs ++ drop k fs) (append-nil out)
    ∙ ap (λ xs. out ++ xs) (sym (nothing_followed 0 (drop k fs) (change_drop 0 k fs fs_is)))
    ∙ ap (λ xs. out ++ followed_by xs (drop k fs)) (sym none)
    ∙ was.made)
    (λ le.
    let none = drop_all k fs le in
    ap (λ xs. (out ++ drop i es) ++ xs) none
    ∙ append-nil (out ++ drop i es)
    ∙ ap (λ xs. out ++ followed_by (drop i es) xs) (sym none)
    ∙ was.made)
    past

-- ---- the pairs rise

entry_with_rises : (n : ℕ) (p : Pair) (before after : ℕ) (es : List Entry) → n ≤ rank_of p → IsChangeListFrom (rank_of p + 1) es
    → IsChangeListFrom n (entry_with p before after es)
entry_with_rises n p before after es le es_is =
    let Rises : List Entry → Type 0 = λ xs. IsChangeListFrom n xs in
    ⊎_elim
    (λ equal.
    subst Rises (sym (entry_none p before after es equal)) (change_lower n (rank_of p + 1) es (omega (arith, le)) es_is))
    (λ differ. subst Rises (sym (entry_some p before after es differ)) (le, differ, es_is))
    (cases_eq before after)

with_entry_rises : (n : ℕ) (f : Entry) (es : List Entry) → n ≤ rank_of f.pair → f.before ≢ f.after → IsChangeListFrom n es
    → IsChangeListFrom n (with_entry f es)
with_entry_rises n f [] le differ es_is = (le, differ, tt)
with_entry_rises n f (e ∷ es) le differ es_is =
    let Rises : List Entry → Type 0 = λ xs. IsChangeListFrom n xs in
    ⊎_elim
    (λ same.
    let above : IsChangeListFrom (rank_of f.pair + 1) es =
    change_lower (rank_of f.pair + 1) (rank_of e.pair + 1) es (omega (arith, same)) es_is.2 in
    subst Rises (sym (with_entry_at f e es same)) (entry_with_rises n f.pair e.before f.after es le above))
    (λ order. ⊎_elim
    (λ lt. subst Rises (sym (with_entry_before f e es lt)) (le, differ, (omega (arith, lt), es_is.1, es_is.2)))
    (λ gt.
    subst Rises (sym (with_entry_past f e es gt))
    (es_is.0, es_is.1, with_entry_rises (rank_of e.pair + 1) f es (omega (arith, gt)) differ es_is.2))
    order)
    (cases_order (rank_of f.pair) (rank_of e.pair))

pub followed_rises : (m : ℕ) (es fs : List Entry) → IsChangeList es → IsChangeListFrom m fs → IsChangeList (followed_by es fs)
followed_rises m es [] es_is fs_is = es_is
followed_rises m es (f ∷ fs) es_is fs_is =
    followed_rises (rank_of f.pair + 1) (with_entry f es) fs (with_entry_rises 0 f es (omega arith) fs_is.1 es_is) fs_is.2

-- ---- the counts

counts_entry_with : (p : Pair) (before after : ℕ) (es : List Entry) → IsChangeListFrom (rank_of p + 1) es
    → counts_at (entry_with p before after es) (rank_of p) ≡ difference_of before after
counts_entry_with p before after es es_is =
    ⊎_elim
    (λ equal.
    ap (λ xs. counts_at xs (rank_of p)) (entry_none p before after es equal)
    ∙ counts_below (rank_of p + 1) es (rank_of p) es_is (omega arith)
    ∙ sym (no_difference before after equal))
    (λ differ.
    ap (λ xs. counts_at xs (rank_of p)) (entry_some p before after es differ)
    ∙ counts_head (record { pair = p; before = before; after = after }) es (rank_of p) refl
    ∙ sym (some_difference before after differ))
    (cases_eq before after)

counts_entry_with_other : (p : Pair) (before after : ℕ) (es : List Entry) (k : ℕ) → (rank_of p ≡ k → ⊥)
    → counts_at (entry_with p before after es) k ≡ counts_at es k
counts_entry_with_other p before after es k other =
    ⊎_elim
    (λ equal. ap (λ xs. counts_at xs k) (entry_none p before after es equal))
    (λ differ.
    ap (λ xs. counts_at xs k) (entry_some p before after es differ)
    ∙ counts_tail (record { pair = p; before = before; after = after }) es k other)
    (cases_eq before after)

-- two counts without a difference are equal
same_counts : (m n : ℕ) → None ≡ difference_of m n → m ≡ n
same_counts m n none =
    ⊎_elim
    (λ same. same)
    (λ ne. let clash : ◌≡◌ {A = Option (ℕ × ℕ)} None (Some (m, n)) = none ∙ some_difference m n ne in cc)
    (cases_eq m n)

-- and those with one are told by it
told_counts : (b a m n : ℕ) → Some (b, a) ≡ difference_of m n → b ≡ m
told_counts b a m n some =
    ⊎_elim
    (λ same. let clash : ◌≡◌ {A = Option (ℕ × ℕ)} (Some (b, a)) None = some ∙ no_difference m n same in cc)
    (λ ne. (some_pair_parts b m a n (some ∙ some_difference m n ne)).0)
    (cases_eq m n)

-- no other pair's counts differ from before
with_entry_other : (f : Entry) (es : List Entry) (k : ℕ) → (rank_of f.pair ≡ k → ⊥) → counts_at (with_entry f es) k ≡ counts_at es k
with_entry_other f [] k other = counts_tail f [] k other
with_entry_other f (e ∷ es) k other =
    ⊎_elim
    (λ same.
    ap (λ xs. counts_at xs k) (with_entry_at f e es same)
    ∙ counts_entry_with_other f.pair e.before f.after es k other
    ∙ sym (counts_tail e es k (λ here. other (same ∙ here))))
    (λ order. ⊎_elim
    (λ lt. ap (λ xs. counts_at xs k) (with_entry_before f e es lt) ∙ counts_tail f (e ∷ es) k other)
    (λ gt.
    ap (λ xs. counts_at xs k) (with_entry_past f e es gt)
    ∙ ⊎_elim
    (λ here. counts_head e (with_entry f es) k here ∙ sym (counts_head e es k here))
    (λ there. counts_tail e (with_entry f es) k there ∙ with_entry_other f es k other ∙ sym (counts_tail e es k there))
    (cases_eq (rank_of e.pair) k))
    order)
    (cases_order (rank_of f.pair) (rank_of e.pair))

-- an entry in front, of a pair that had no other
alone_counts : (f : Entry) (es : List Entry) (before : ℕ) → f.before ≢ f.after → before ≡ f.before
    → counts_at (f ∷ es) (rank_of f.pair) ≡ difference_of before f.after
alone_counts f es before differ same =
    counts_head f es (rank_of f.pair) refl
    ∙ sym (some_difference f.before f.after differ)
    ∙ ap (λ n. difference_of n f.after) (sym same)

-- the entry's pair differs from what it was before the change
with_entry_own : (n : ℕ) (f : Entry) (es : List Entry) (before : ℕ) → IsChangeListFrom n es → f.before ≢ f.after
    → counts_at es (rank_of f.pair) ≡ difference_of before f.before
    → counts_at (with_entry f es) (rank_of f.pair) ≡ difference_of before f.after
with_entry_own n f [] before es_is differ was = alone_counts f [] before differ (same_counts before f.before was)
with_entry_own n f (e ∷ es) before es_is differ was =
    ⊎_elim
    (λ same.
    let above : IsChangeListFrom (rank_of f.pair + 1) es =
    change_lower (rank_of f.pair + 1) (rank_of e.pair + 1) es (omega (arith, same)) es_is.2 in
    let told = told_counts e.before e.after before f.before (sym (counts_head e es (rank_of f.pair) (sym same)) ∙ was) in
    ap (λ xs. counts_at xs (rank_of f.pair)) (with_entry_at f e es same)
    ∙ counts_entry_with f.pair e.before f.after es above
    ∙ ap (λ b. difference_of b f.after) told)
    (λ order. ⊎_elim
    (λ lt.
    let none = counts_below (rank_of e.pair) (e ∷ es) (rank_of f.pair) (omega arith, es_is.1, es_is.2) lt in
    ap (λ xs. counts_at xs (rank_of f.pair)) (with_entry_before f e es lt)
    ∙ alone_counts f (e ∷ es) before differ (same_counts before f.before (sym none ∙ was)))
    (λ gt.
    let there : rank_of e.pair ≡ rank_of f.pair → ⊥ = λ here. omega (arith, here, gt) in
    ap (λ xs. counts_at xs (rank_of f.pair)) (with_entry_past f e es gt)
    ∙ counts_tail e (with_entry f es) (rank_of f.pair) there
    ∙ with_entry_own (rank_of e.pair + 1) f es before es_is.2 differ (sym (counts_tail e es (rank_of f.pair) there) ∙ was))
    order)
    (cases_order (rank_of f.pair) (rank_of e.pair))

-- ---- changes between collections

-- an entry that fits the second collection leads on from there
with_entry_between : (hs ks : Collection) (f : Entry) → IsCollection hs → IsCollection ks → f.before ≡ count_in ks f.pair → f.before ≢ f.after
    → with_entry f (change_between hs ks) ≡ change_between hs (set_count f.pair f.after ks)
with_entry_between hs ks f hs_is ks_is fits differ =
    let es = change_between hs ks in
    let next = set_count f.pair f.after ks in
    let es_is = between_is_change hs ks hs_is in
    let own : (k : ℕ) → rank_of f.pair ≡ k → counts_at (with_entry f es) k ≡ difference_of (count_at hs k) (count_at next k) =
    λ k here.
    ap (λ i. counts_at (with_entry f es) i) (sym here)
    ∙ with_entry_own 0 f es (count_in hs f.pair) es_is differ
    (counts_between_at hs ks (rank_of f.pair) hs_is ks_is ∙ ap (λ c. difference_of (count_in hs f.pair) c) (sym fits))
    ∙ ap (λ c. difference_of (count_in hs f.pair) c) (sym (count_set_same 0 f.pair f.after ks ks_is))
    ∙ ap (λ i. difference_of (count_at hs i) (count_at next i)) here in
    let others : (k : ℕ) → (rank_of f.pair ≡ k → ⊥) → counts_at (with_entry f es) k ≡ difference_of (count_at hs k) (count_at next k) =
    λ k other.
    with_entry_other f es k other
    ∙ counts_between_at hs ks k hs_is ks_is
    ∙ ap (λ c. difference_of (count_at hs k) c) (sym (count_set_other f.pair f.after ks k other)) in
    only_change hs next (with_entry f es) hs_is (set_keeps f.pair f.after ks ks_is) (with_entry_rises 0 f es (omega arith) differ es_is)
    (λ p. ⊎_elim (own (rank_of p)) (others (rank_of p)) (cases_eq (rank_of f.pair) (rank_of p)))

-- and so does a change
followed_between : (m : ℕ) (hs ks : Collection) (fs : List Entry) → IsCollection hs → IsCollection ks → IsChangeListFrom m fs
    → AreBefore ks fs → followed_by (change_between hs ks) fs ≡ change_between hs (changed ks fs)
followed_between m hs ks [] hs_is ks_is fs_is before = refl
followed_between m hs ks (f ∷ fs) hs_is ks_is fs_is before =
    ap (λ x. followed_by x fs) (with_entry_between hs ks f hs_is ks_is before.0 fs_is.1)
    ∙ followed_between (rank_of f.pair + 1) hs (set_count f.pair f.after ks) fs hs_is (set_keeps f.pair f.after ks ks_is) fs_is.2
    (before_rest m ks f fs fs_is before)

-- so the changes to one collection and on to another make the change between the first and the last
between_followed : (hs ks ls : Collection) → IsCollection hs → IsCollection ks → IsCollection ls
    → followed_by (change_between hs ks) (change_between ks ls) ≡ change_between hs ls
between_followed hs ks ls hs_is ks_is ls_is =
    let fs = change_between ks ls in
    let fs_is = between_is_change ks ls ks_is in
    followed_between 0 hs ks fs hs_is ks_is fs_is
    (before_from_counts 0 ks ls fs fs_is (λ k le. counts_between_at ks ls k ks_is ls_is))
    ∙ ap (change_between hs) (changed_between ks ls ks_is ls_is)

-- ---- many changes

follow_front : (hs : Collection) (older newer : List (List Entry)) → CanFollow hs (older ++ newer) → CanFollow hs older
follow_front hs [] newer can = tt
follow_front hs (es ∷ older) newer can = (can.0, can.1, follow_front (changed hs es) older newer can.2)

follow_back : (hs : Collection) (older newer : List (List Entry)) → CanFollow hs (older ++ newer) → CanFollow (after_all hs older) newer
follow_back hs [] newer can = can
follow_back hs (es ∷ older) newer can = follow_back (changed hs es) older newer can.2

after_all-append : (hs : Collection) (older newer : List (List Entry)) → after_all hs (older ++ newer) ≡ after_all (after_all hs older) newer
after_all-append hs [] newer = refl
after_all-append hs (es ∷ older) newer = after_all-append (changed hs es) older newer

after_all_keeps : (hs : Collection) (changes : List (List Entry)) → IsCollection hs → CanFollow hs changes → IsCollection (after_all hs changes)
after_all_keeps hs [] hs_is can = hs_is
after_all_keeps hs (es ∷ rest) hs_is can = after_all_keeps (changed hs es) rest (changed_keeps hs es hs_is can.0) can.2

-- one change does what it does alone
does_one : (es : List Entry) → DoesAll (es ∷ []) es
does_one es = λ hs hs_is can. sym (change_between-changed hs es hs_is can.0 can.1)

pub does_only : (changes : List (List Entry)) (es : List Entry) → length changes ≡ 1 → es ≡ get_or changes 0 es → DoesAll changes es
does_only [] es one is = absurd (omega (arith, one))
does_only (x ∷ y ∷ rest) es one is = absurd (omega (arith, one))
does_only (x ∷ []) es one is =
    let Does : List (List Entry) → Type 0 = λ ess. DoesAll ess es in
    subst Does (ap (λ (y : List Entry). y ∷ []) is) (does_one es)

-- what two halves do, one after the other
does_both : (older newer : List (List Entry)) (es fs : List Entry) → DoesAll older es → DoesAll newer fs
    → DoesAll (older ++ newer) (followed_by es fs)
does_both older newer es fs older_done newer_done =
    λ hs hs_is can.
    let middle = after_all hs older in
    let front = follow_front hs older newer can in
    let back = follow_back hs older newer can in
    let middle_is = after_all_keeps hs older hs_is front in
    let last_is = after_all_keeps middle newer middle_is back in
    ap (λ x. followed_by x fs) (older_done hs hs_is front)
    ∙ ap (followed_by (change_between hs middle)) (newer_done middle middle_is back)
    ∙ between_followed hs middle (after_all middle newer) hs_is middle_is last_is
    ∙ ap (change_between hs) (sym (after_all-append hs older newer))

pub does_halves : (changes : List (List Entry)) (k : ℕ) (es fs : List Entry) → DoesAll (take k changes) es → DoesAll (drop k changes) fs
    → DoesAll changes (followed_by es fs)
does_halves changes k es fs older_done newer_done =
    let Does : List (List Entry) → Type 0 = λ ess. DoesAll ess (followed_by es fs) in
    subst Does (take-append-drop k changes) (does_both (take k changes) (drop k changes) es fs older_done newer_done)
