-- The pairs of a label, and the collection without them.
use Rattle.std.proofs.Common.{◌≡◌, ◌≢◌, ℕ, ◌+◌, Bool, true, false, not, [], ◌∷◌, map, refl, sym, ap, ◌∙◌, subst, ⊎_elim, arith, eq-eqb, ne_eqb}
use Rattle.std.specs.List.{filter}
use Rattle.std.proofs.lemmas.Bool.{cases_Bool, cases_eq, cond-true, cond-false}
use Rattle.s2ix_bag_pairs.specs.declared.label.Label.{Label}
use Rattle.s2ix_bag_pairs.specs.declared.pair.Pair.{Pair}
use Rattle.s2ix_bag_pairs.specs.declared.pair.Held.{Held}
use Rattle.s2ix_bag_lists.specs.Apply.{AreBefore}
use Rattle.s2ix_bag_pairs.specs.Change.{changed, removal_of, IsChangeListFrom}
use Rattle.s2ix_bag_pairs.specs.Collection.{Collection, LimitedCollection, IsCollection, IsCollectionFrom, count_at, count_in}
use Rattle.s2ix_bag_pairs.specs.Label.{value_of}
use Rattle.s2ix_bag_pairs.specs.OfLabel.{held_of}
use Rattle.s2ix_bag_pairs.specs.Pair.{rank_of}
use Rattle.s2ix_bag_lists.proofs.Applied.{before_moves}
use Rattle.s2ix_bag_pairs.proofs.Changes.{changed_at, changed_passes}
use Rattle.s2ix_bag_pairs.proofs.Counts.{count_head, count_tail, from_lower}
use Rattle.s2ix_bag_pairs.proofs.OfLabel.{same_label_at}
use Rattle.s2ix_bag_lists.proofs.Refusals.{no_mismatch}
use Rattle.s2ix_edit_plan.specs.Edit.{is_of, without_label}
use Rattle.s2ix_edit_plan.proofs.Plans.{Makes}

-- ---- a part of a collection

pub filter_keeps : (test : Held → Bool) (n : ℕ) (hs : Collection) → IsCollectionFrom n hs → IsCollectionFrom n (filter test hs)
filter_keeps test n [] is = tt
filter_keeps test n (h ∷ hs) is =
    let Rises : Collection → Type 0 = λ ks. IsCollectionFrom n ks in
    let rest = filter_keeps test (rank_of h.pair + 1) hs is.2 in
    ⊎_elim
    (λ yes. subst Rises (sym (cond-true (test h) (h ∷ filter test hs) (filter test hs) yes)) (is.0, is.1, rest))
    (λ no.
    subst Rises (sym (cond-false (test h) (h ∷ filter test hs) (filter test hs) no))
    (from_lower n (rank_of h.pair + 1) (filter test hs) (omega (arith, is.0)) rest))
    (cases_Bool (test h))

-- a pair that is held has its count in the part exactly if it passes the test
pub filter_counts : (test : Held → Bool) (n : ℕ) (hs : Collection) (k : ℕ) → IsCollectionFrom n hs
    → ((h : Held) → rank_of h.pair ≡ k → test h ≡ true) → count_at (filter test hs) k ≡ count_at hs k
filter_counts test n [] k is passes = refl
filter_counts test n (h ∷ hs) k is passes =
    let rest = filter_counts test (rank_of h.pair + 1) hs k is.2 passes in
    ⊎_elim
    (λ yes. ap (λ ks. count_at ks k) (cond-true (test h) (h ∷ filter test hs) (filter test hs) yes)
    ∙ ⊎_elim
    (λ here. count_head h (filter test hs) k here ∙ sym (count_head h hs k here))
    (λ other. count_tail h (filter test hs) k other ∙ rest ∙ sym (count_tail h hs k other))
    (cases_eq (rank_of h.pair) k))
    (λ no. ap (λ ks. count_at ks k) (cond-false (test h) (h ∷ filter test hs) (filter test hs) no)
    ∙ ⊎_elim
    (λ here. let clash : true ≡ false = sym (passes h here) ∙ no in cc)
    (λ other. rest ∙ sym (count_tail h hs k other))
    (cases_eq (rank_of h.pair) k))
    (cases_Bool (test h))

pub filter_drops : (test : Held → Bool) (hs : Collection) (k : ℕ) → ((h : Held) → rank_of h.pair ≡ k → test h ≡ false)
    → count_at (filter test hs) k ≡ 0
filter_drops test [] k fails = refl
filter_drops test (h ∷ hs) k fails =
    let rest = filter_drops test hs k fails in
    ⊎_elim
    (λ yes. ap (λ ks. count_at ks k) (cond-true (test h) (h ∷ filter test hs) (filter test hs) yes)
    ∙ ⊎_elim
    (λ here. let clash : true ≡ false = sym yes ∙ fails h here in cc)
    (λ other. count_tail h (filter test hs) k other ∙ rest)
    (cases_eq (rank_of h.pair) k))
    (λ no. ap (λ ks. count_at ks k) (cond-false (test h) (h ∷ filter test hs) (filter test hs) no) ∙ rest)
    (cases_Bool (test h))

-- ---- pairs of one label

pub is_of_yes : (label : Label) (h : Held) → value_of h.pair.label ≡ value_of label → is_of label h ≡ true
is_of_yes label h e = eq-eqb _ _ e

pub is_of_no : (label : Label) (h : Held) → value_of h.pair.label ≢ value_of label → is_of label h ≡ false
is_of_no label h ne = ne_eqb _ _ ne

-- the collection without a label's pairs has none of them
pub without_own : (label : Label) (hs : Collection) (p : Pair) → value_of p.label ≡ value_of label → count_in (without_label label hs) p ≡ 0
without_own label hs p e =
    filter_drops (λ h. not (is_of label h)) hs (rank_of p) (λ h at. ap not (is_of_yes label h (same_label_at h.pair p at ∙ e)))

-- and every other count
pub without_other : (label : Label) (hs : Collection) (p : Pair) → IsCollection hs → value_of p.label ≢ value_of label
    → count_in (without_label label hs) p ≡ count_in hs p
without_other label hs p is ne =
    filter_counts (λ h. not (is_of label h)) 0 hs (rank_of p) is
    (λ h at. ap not (is_of_no label h (λ e. ne (sym (same_label_at h.pair p at) ∙ e))))

pub without_keeps : (label : Label) (hs : Collection) → IsCollection hs → IsCollection (without_label label hs)
without_keeps label hs is = filter_keeps (λ h. not (is_of label h)) 0 hs is

-- ---- the entries that take the pairs away

removals_rise : (n : ℕ) (hs : Collection) → IsCollectionFrom n hs → IsChangeListFrom n (map removal_of hs)
removals_rise n [] is = tt
removals_rise n (h ∷ hs) is = (is.0, (λ e. omega (arith, e, is.1)), removals_rise (rank_of h.pair + 1) hs is.2)

part_rises : (test : Held → Bool) (n : ℕ) (hs : Collection) → IsCollectionFrom n hs → IsChangeListFrom n (map removal_of (filter test hs))
part_rises test n hs is = removals_rise n (filter test hs) (filter_keeps test n hs is)

removals_before : (test : Held → Bool) (n : ℕ) (hs : Collection) → IsCollectionFrom n hs → AreBefore hs (map removal_of (filter test hs))
removals_before test n [] is = tt
removals_before test n (h ∷ hs) is =
    let Right : Collection → Type 0 = λ ks. AreBefore (h ∷ hs) (map removal_of ks) in
    let later = before_moves (rank_of h.pair + 1) hs (h ∷ hs) (map removal_of (filter test hs))
    (part_rises test (rank_of h.pair + 1) hs is.2)
    (λ k le. sym (count_tail h hs k (λ e. omega (arith, e, le)))) (removals_before test (rank_of h.pair + 1) hs is.2) in
    ⊎_elim
    (λ yes.
    subst Right (sym (cond-true (test h) (h ∷ filter test hs) (filter test hs) yes)) (sym (count_head h hs (rank_of h.pair) refl), later))
    (λ no. subst Right (sym (cond-false (test h) (h ∷ filter test hs) (filter test hs) no)) later)
    (cases_Bool (test h))

removals_change : (test : Held → Bool) (n : ℕ) (hs : Collection) → IsCollectionFrom n hs
    → changed hs (map removal_of (filter test hs)) ≡ filter (λ h. not (test h)) hs
removals_change test n [] is = refl
removals_change test n (h ∷ hs) is =
    let rest = removals_change test (rank_of h.pair + 1) hs is.2 in
    let rises = part_rises test (rank_of h.pair + 1) hs is.2 in
    ⊎_elim
    (λ yes. ap (λ ks. changed (h ∷ hs) (map removal_of ks)) (cond-true (test h) (h ∷ filter test hs) (filter test hs) yes)
    ∙ changed_at h hs (removal_of h) (map removal_of (filter test hs)) refl rises
    ∙ rest
    ∙ sym (cond-false (not (test h)) (h ∷ filter (λ x. not (test x)) hs) (filter (λ x. not (test x)) hs) (ap not yes)))
    (λ no. ap (λ ks. changed (h ∷ hs) (map removal_of ks)) (cond-false (test h) (h ∷ filter test hs) (filter test hs) no)
    ∙ changed_passes h hs (map removal_of (filter test hs)) rises
    ∙ ap (λ ks. h ∷ ks) rest
    ∙ sym (cond-true (not (test h)) (h ∷ filter (λ x. not (test x)) hs) (filter (λ x. not (test x)) hs) (ap not no)))
    (cases_Bool (test h))

-- the entries that take a label's pairs away make the collection without them
pub removals_make : (bag : LimitedCollection) (label : Label) → IsCollection bag.held
    → Makes bag (without_label label bag.held) (map removal_of (held_of label bag.held))
removals_make bag label is = record {
  rises = part_rises (is_of label) 0 bag.held is;
  matches = no_mismatch bag.held (map removal_of (held_of label bag.held)) (removals_before (is_of label) 0 bag.held is);
  result = removals_change (is_of label) 0 bag.held is;
}
