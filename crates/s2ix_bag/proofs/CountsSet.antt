-- Counts set beside a collection.
use Rattle.std.proofs.Common.{◌≡◌, ℕ, ◌+◌, ◌<◌, ◌≤◌, cond, false, List, [], ◌∷◌, drop, get_or, length, Option, Some, refl, sym, ap, ap₂, ◌∙◌, subst, ⊎_elim, arith, eq-eqb, ne_eqb, lt-ltb, le-ltb}
use Rattle.std.specs.BTreeMap.{BTreeMap, get, is_at}
use Rattle.std.specs.List.Sorted.{IsStrictlySortedBy}
use Rattle.std.specs.Map.{keys_of, lookup}
use Rattle.std.specs.Option.{unwrap_or}
use Rattle.std.specs.Ordering.{is_eq, nat_cmp}
use Rattle.std.specs.declared.cmp.Ordering.{Ordering}
use Rattle.std.specs.declared.cmp.Ordering.TheVariants.{Less, Equal}
use Rattle.std.proofs.lemmas.Bool.{cases_eq, cases_order, cond-true, cond-false}
use Rattle.std.proofs.lemmas.Bool.Decides.{nat_tests}
use Rattle.std.proofs.lemmas.Cmp.{ranked}
use Rattle.std.proofs.lemmas.List.{drop_more}
use Rattle.std.proofs.lemmas.Map.Keys.{Less-from_sorted, sorted_tail}
use Rattle.s2ix_bag_pairs.specs.Change.{IsChangeList, IsChangeListFrom, change_between, changed, counts_at, difference_of, entry_with}
use Rattle.s2ix_bag_pairs.specs.Collection.{Collection, LimitedCollection, IsBag, IsCollection, count_at, count_in, set_count}
use Rattle.s2ix_bag_pairs.specs.Pair.{rank_of}
use Rattle.s2ix_bag_pairs.specs.contracts.pair.PairOrd.TheImpl.{cmp-value as pair_order}
use Rattle.s2ix_bag_pairs.specs.declared.limits.Limits.{Limits}
use Rattle.s2ix_bag_pairs.specs.declared.pair.Entry.{Entry}
use Rattle.s2ix_bag_pairs.specs.declared.pair.Pair.{Pair}
use Rattle.s2ix_bag_pairs.proofs.Changes.{change_lower, counts_below, counts_head, counts_tail}
use Rattle.s2ix_bag_pairs.proofs.Collections.{count_set_other, count_set_same, same_collection, set_keeps}
use Rattle.s2ix_bag_pairs.proofs.Differences.{changed_between, no_difference, only_change, some_difference}
use Rattle.s2ix_bag_lists.proofs.Comparing.{entry_none, entry_some}
use Rattle.s2ix_bag_lists.proofs.Refusals.{IsTaken, made_is_bag}
use Rattle.s2ix_bag.specs.Reached.{IsReached, with_counts}

-- ---- the order of pairs

-- pairs are compared by their ranks
abbrev pub ComparesRanks : (Pair → Pair → Ordering) → Type 0
ComparesRanks cmp = (p q : Pair) → cmp p q ≡ nat_cmp (rank_of p) (rank_of q)

-- as the order of pairs does
pub pairs_by_rank : ComparesRanks pair_order.it
pairs_by_rank p q = grind (arith, nat_tests)

cmp_equal : (a b : ℕ) → a ≡ b → nat_cmp a b ≡ Equal
cmp_equal a b e =
    let le : b ≤ a = omega arith in
    cond-false _ _ _ (le-ltb _ _ le) ∙ cond-true _ _ _ (eq-eqb _ _ e)

is_apart : (a b : ℕ) → (a ≡ b → ⊥) → is_eq (nat_cmp a b) ≡ false
is_apart a b ne =
    ⊎_elim
    (λ e. absurd (ne e))
    (λ order. ⊎_elim
    (λ lt. ap is_eq (cond-true _ _ _ (lt-ltb _ _ lt)))
    (λ lt.
    let le : b ≤ a = omega arith in
    ap is_eq (cond-false _ _ _ (le-ltb _ _ le) ∙ cond-false _ _ _ (ne_eqb _ _ ne)))
    order)
    (cases_order a b)

-- ---- what is counted

pub with_keeps : (hs : Collection) (cs : List (Pair × ℕ)) → IsCollection hs → IsCollection (with_counts hs cs)
with_keeps hs [] hs_is = hs_is
with_keeps hs (c ∷ cs) hs_is = set_keeps c.0 c.1 (with_counts hs cs) (with_keeps hs cs hs_is)

count_set_at : (p : Pair) (n : ℕ) (hs : Collection) (k : ℕ) → IsCollection hs → rank_of p ≡ k → count_at (set_count p n hs) k ≡ n
count_set_at p n hs k hs_is here = ap (λ i. count_at (set_count p n hs) i) (sym here) ∙ count_set_same 0 p n hs hs_is

-- the count that is set for the pair, else the collection's
pub count_with : (cmp : Pair → Pair → Ordering) → ComparesRanks cmp → (hs : Collection) (cs : List (Pair × ℕ)) (p : Pair) → IsCollection hs
    → count_in (with_counts hs cs) p ≡ unwrap_or (lookup (is_at (cmp p)) cs) (count_in hs p)
count_with cmp order hs [] p hs_is = refl
count_with cmp order hs (c ∷ cs) p hs_is =
    let own : Option ℕ → ℕ = λ o. unwrap_or o (count_in hs p) in
    ⊎_elim
    (λ same.
    count_set_at c.0 c.1 (with_counts hs cs) (rank_of p) (with_keeps hs cs hs_is) same
    ∙ ap own (sym (cond-true _ (Some c.1) (lookup (is_at (cmp p)) cs)
    (ap is_eq (order p c.0 ∙ cmp_equal (rank_of p) (rank_of c.0) (sym same))))))
    (λ ne.
    count_set_other c.0 c.1 (with_counts hs cs) (rank_of p) ne ∙ count_with cmp order hs cs p hs_is
    ∙ ap own (sym (cond-false _ (Some c.1) (lookup (is_at (cmp p)) cs)
    (ap is_eq (order p c.0) ∙ is_apart (rank_of p) (rank_of c.0) (λ e. ne (sym e))))))
    (cases_eq (rank_of c.0) (rank_of p))

-- the count that is found, and the bag's if none is
pub count_found : (cmp : Pair → Pair → Ordering) → ComparesRanks cmp → (hs : Collection) (cs : List (Pair × ℕ)) (p : Pair) (found : Option ℕ)
    → IsCollection hs → found ≡ lookup (is_at (cmp p)) cs → unwrap_or found (count_in hs p) ≡ count_in (with_counts hs cs) p
count_found cmp order hs cs p found hs_is is =
    ap (λ (o : Option ℕ). unwrap_or o (count_in hs p)) is ∙ sym (count_with cmp order hs cs p hs_is)

-- ---- one more count

pub count_put : (cmp : Pair → Pair → Ordering) → ComparesRanks cmp → (hs : Collection) (m n : BTreeMap Pair ℕ) (p : Pair) (count : ℕ)
    → IsCollection hs → ((q : Pair) → get cmp n q ≡ cond (is_at (cmp p) q) (Some count) (get cmp m q))
    → with_counts hs n.entries ≡ set_count p count (with_counts hs m.entries)
count_put cmp order hs m n p count hs_is puts =
    let was = with_counts hs m.entries in
    let was_is = with_keeps hs m.entries hs_is in
    same_collection (with_counts hs n.entries) (set_count p count was) (with_keeps hs n.entries hs_is) (set_keeps p count was was_is)
    (λ q.
    let own : Option ℕ → ℕ = λ o. unwrap_or o (count_in hs q) in
    count_with cmp order hs n.entries q hs_is ∙ ap own (puts q)
    ∙ ⊎_elim
    (λ same.
    ap own (cond-true (is_at (cmp p) q) (Some count) (get cmp m q) (ap is_eq (order p q ∙ cmp_equal (rank_of p) (rank_of q) same)))
    ∙ sym (count_set_at p count was (rank_of q) was_is same))
    (λ ne.
    ap own (cond-false (is_at (cmp p) q) (Some count) (get cmp m q) (ap is_eq (order p q) ∙ is_apart (rank_of p) (rank_of q) ne))
    ∙ sym (count_with cmp order hs m.entries q hs_is) ∙ sym (count_set_other p count was (rank_of q) ne))
    (cases_eq (rank_of p) (rank_of q)))

-- the counts of the entries so far are set: the others make the same of it as all do of what was there
abbrev pub AreSet : List (Pair × ℕ) → List Entry → List (Pair × ℕ) → ℕ → Type 0
AreSet before es cs i = (hs : Collection) → IsCollection hs → changed (with_counts hs cs) (drop i es) ≡ changed (with_counts hs before) es

pub set_more : (cmp : Pair → Pair → Ordering) → ComparesRanks cmp → (before : List (Pair × ℕ)) (es : List Entry) (m n : BTreeMap Pair ℕ) (i : ℕ)
    (e : Entry) → i < length es → e ≡ get_or es i e → ((q : Pair) → get cmp n q ≡ cond (is_at (cmp e.pair) q) (Some e.after) (get cmp m q))
    → AreSet before es m.entries i → AreSet before es n.entries (i + 1)
set_more cmp order before es m n i e within is puts was =
    λ hs hs_is.
    let split : drop i es ≡ e ∷ drop (i + 1) es = drop_more es i e within ∙ ap (λ x. x ∷ drop (i + 1) es) (sym is) in
    ap (λ ks. changed ks (drop (i + 1) es)) (count_put cmp order hs m n e.pair e.after hs_is puts)
    ∙ ap (λ xs. changed (with_counts hs m.entries) xs) (sym split) ∙ was hs hs_is

-- ---- what differs

-- the entries of the counts that are not the collection's
abbrev pub entries_of : Collection → List (Pair × ℕ) → List Entry
entries_of hs [] = []
entries_of hs (c ∷ cs) = entry_with c.0 (count_in hs c.0) c.1 (entries_of hs cs)

-- pairs strictly rising from the rank n on
Rises : ℕ → List (Pair × ℕ) → Type 0
Rises n [] = Unit {0}
Rises n (c ∷ cs) = (n ≤ rank_of c.0) × Rises (rank_of c.0 + 1) cs

rises_from : (cmp : Pair → Pair → Ordering) → ComparesRanks cmp → (n : ℕ) (c : Pair × ℕ) (cs : List (Pair × ℕ)) → n ≤ rank_of c.0
    → IsStrictlySortedBy cmp (keys_of (c ∷ cs)) → Rises n (c ∷ cs)
unfolding Rises
rises_from cmp order n c [] le sorted = (le, tt)
rises_from cmp order n c (d ∷ cs) le sorted =
    let less = Less-from_sorted cmp (keys_of (c ∷ d ∷ cs)) 0 1 c.0 sorted (omega arith) (omega arith) in
    let lt : rank_of c.0 < rank_of d.0 = ranked (rank_of c.0) (rank_of d.0) Less (sym less ∙ order c.0 d.0) in
    let above : rank_of c.0 + 1 ≤ rank_of d.0 = omega arith in
    (le, rises_from cmp order (rank_of c.0 + 1) d cs above (sorted_tail cmp c.0 (keys_of (d ∷ cs)) sorted))

rises : (cmp : Pair → Pair → Ordering) → ComparesRanks cmp → (cs : List (Pair × ℕ)) → IsStrictlySortedBy cmp (keys_of cs) → Rises 0 cs
unfolding Rises
rises cmp order [] sorted = tt
rises cmp order (c ∷ cs) sorted = rises_from cmp order 0 c cs (omega arith) sorted

entries_are_change : (n : ℕ) (hs : Collection) (cs : List (Pair × ℕ)) → Rises n cs → IsChangeListFrom n (entries_of hs cs)
unfolding Rises
entries_are_change n hs [] cs_rise = tt
entries_are_change n hs (c ∷ cs) cs_rise =
    let rest = entries_of hs cs in
    let rest_is = entries_are_change (rank_of c.0 + 1) hs cs cs_rise.1 in
    let le = cs_rise.0 in
    let Is : List Entry → Type 0 = λ es. IsChangeListFrom n es in
    ⊎_elim
    (λ same. subst Is (sym (entry_none c.0 (count_in hs c.0) c.1 rest same)) (change_lower n (rank_of c.0 + 1) rest (omega arith) rest_is))
    (λ ne. subst Is (sym (entry_some c.0 (count_in hs c.0) c.1 rest ne)) (le, ne, rest_is))
    (cases_eq (count_in hs c.0) c.1)

counts_of_entries : (n : ℕ) (hs : Collection) (cs : List (Pair × ℕ)) (k : ℕ) → IsCollection hs → Rises n cs
    → counts_at (entries_of hs cs) k ≡ difference_of (count_at hs k) (count_at (with_counts hs cs) k)
unfolding Rises
counts_of_entries n hs [] k hs_is cs_rise = sym (no_difference (count_at hs k) (count_at hs k) refl)
counts_of_entries n hs (c ∷ cs) k hs_is cs_rise =
    let before = count_in hs c.0 in
    let rest = entries_of hs cs in
    let rest_is = entries_are_change (rank_of c.0 + 1) hs cs cs_rise.1 in
    let ks = with_counts hs cs in
    let e : Entry = record { pair = c.0; before = before; after = c.1 } in
    let past = counts_of_entries (rank_of c.0 + 1) hs cs k hs_is cs_rise.1 in
    ⊎_elim
    (λ here.
    let counted : difference_of before c.1 ≡ difference_of (count_at hs k) (count_at (set_count c.0 c.1 ks) k) =
    ap (λ b. difference_of b c.1) (ap (λ i. count_at hs i) here)
    ∙ ap (λ a. difference_of (count_at hs k) a) (sym (count_set_at c.0 c.1 ks k (with_keeps hs cs hs_is) here)) in
    ⊎_elim
    (λ same.
    ap (λ es. counts_at es k) (entry_none c.0 before c.1 rest same) ∙ counts_below (rank_of c.0 + 1) rest k rest_is (omega (arith, here))
    ∙ sym (no_difference before c.1 same) ∙ counted)
    (λ ne.
    ap (λ es. counts_at es k) (entry_some c.0 before c.1 rest ne) ∙ counts_head e rest k here ∙ sym (some_difference before c.1 ne) ∙ counted)
    (cases_eq before c.1))
    (λ other.
    let counted = ap (λ a. difference_of (count_at hs k) a) (sym (count_set_other c.0 c.1 ks k other)) in
    ⊎_elim
    (λ same. ap (λ es. counts_at es k) (entry_none c.0 before c.1 rest same) ∙ past ∙ counted)
    (λ ne. ap (λ es. counts_at es k) (entry_some c.0 before c.1 rest ne) ∙ counts_tail e rest k other ∙ past ∙ counted)
    (cases_eq before c.1))
    (cases_eq (rank_of c.0) k)

-- they are the change to what the counts make of the collection
pub entries_between : (cmp : Pair → Pair → Ordering) → ComparesRanks cmp → (hs : Collection) (cs : List (Pair × ℕ)) → IsCollection hs
    → IsStrictlySortedBy cmp (keys_of cs) → entries_of hs cs ≡ change_between hs (with_counts hs cs)
entries_between cmp order hs cs hs_is sorted =
    let cs_rise = rises cmp order cs sorted in
    only_change hs (with_counts hs cs) (entries_of hs cs) hs_is (with_keeps hs cs hs_is) (entries_are_change 0 hs cs cs_rise)
    (λ p. counts_of_entries 0 hs cs (rank_of p) hs_is cs_rise)

-- ---- their walk

-- ---- the bag itself

-- the bag that the change makes
pub reached_is : (base bag : LimitedCollection) (cs : List (Pair × ℕ)) (es : List Entry) → IsCollection base.held
    → es ≡ change_between base.held (with_counts base.held cs) → bag.limits ≡ base.limits → bag.held ≡ changed base.held es
    → bag ≡ record { limits = base.limits; held = with_counts base.held cs }
reached_is base bag cs es base_is es_are limits held =
    ap₂ (λ (l : Limits) (hs : Collection). let made : LimitedCollection = record { limits = l; held = hs } in made) limits
    (held ∙ ap (λ xs. changed base.held xs) es_are
    ∙ changed_between base.held (with_counts base.held cs) base_is (with_keeps base.held cs base_is))

-- one more change that the bag takes
pub reached_more : (base now : LimitedCollection) (before after : List (Pair × ℕ)) (es : List Entry) (len : ℕ) → IsBag base
    → IsBag (record { limits = base.limits; held = with_counts base.held before })
    → record { limits = base.limits; held = with_counts base.held before } ≡ now → IsChangeList es → IsTaken now es
    → with_counts base.held after ≡ changed (with_counts base.held before) es → len ≡ length (changed now.held es)
    → IsReached base (record { limits = base.limits; held = with_counts base.held after }) len
reached_more base now before after es len base_is is_bag view rises taken set counted =
    let was : LimitedCollection = record { limits = base.limits; held = with_counts base.held before } in
    let Takes : LimitedCollection → Type 0 = λ b. IsTaken b es in
    let Bags : Collection → Type 0 = λ hs. IsBag (record { limits = base.limits; held = hs }) in
    record {
      from = base_is;
      is_bag = subst Bags (sym set) (made_is_bag was es is_bag rises (subst Takes (sym view) taken));
      counted = counted ∙ ap (λ (b : LimitedCollection). length (changed b.held es)) (sym view) ∙ ap (λ (hs : Collection). length hs) (sym set);
    }
