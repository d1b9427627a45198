-- Changes whose counts before are those of a collection.
use Rattle.std.proofs.Common.{◌≡◌, ℕ, ◌+◌, ◌≤◌, List, [], ◌∷◌, Option, Some, None, refl, sym, ap, ◌∙◌, ⊎_elim, arith}
use Rattle.std.proofs.lemmas.Bool.{cases_eq}
use Rattle.std.proofs.lemmas.Option.{some_pair_parts}
use Rattle.s2ix_bag_lists.specs.Apply.{AreBefore}
use Rattle.s2ix_bag_pairs.specs.Collection.{Collection, IsCollection, count_at, count_in, set_count}
use Rattle.s2ix_bag_pairs.specs.Change.{IsChangeList, IsChangeListFrom, counts_at, difference_of, count_after, changed, change_between, inverse_of}
use Rattle.s2ix_bag_pairs.specs.Pair.{rank_of}
use Rattle.s2ix_bag_pairs.specs.declared.pair.Entry.{Entry}
use Rattle.s2ix_bag_pairs.proofs.Collections.{count_set_other}
use Rattle.s2ix_bag_pairs.proofs.Changes.{counts_head, counts_tail, counts_differ, changed_keeps, count_changed}
use Rattle.s2ix_bag_pairs.proofs.Differences.{no_difference, some_difference, only_change}
use Rattle.s2ix_bag_pairs.proofs.Inverse.{changed_inverse_between}

-- counts before stay right if no count of their pairs differs
pub before_moves : (n : ℕ) (hs ks : Collection) (es : List Entry) → IsChangeListFrom n es
    → ((k : ℕ) → n ≤ k → count_at hs k ≡ count_at ks k) → AreBefore hs es → AreBefore ks es
before_moves n hs ks [] es_is same before = tt
before_moves n hs ks (e ∷ es) es_is same before = (
  before.0 ∙ same (rank_of e.pair) es_is.0,
  before_moves (rank_of e.pair + 1) hs ks es es_is.2 (λ k le. same k (omega (arith, le, es_is.0))) before.1,
)

-- after the first entry is applied, the counts before of the others are right still
pub before_rest : (n : ℕ) (hs : Collection) (e : Entry) (es : List Entry) → IsChangeListFrom n (e ∷ es) → AreBefore hs (e ∷ es)
    → AreBefore (set_count e.pair e.after hs) es
before_rest n hs e es es_is before =
    before_moves (rank_of e.pair + 1) hs (set_count e.pair e.after hs) es es_is.2
    (λ k le. sym (count_set_other e.pair e.after hs k (λ same. omega (arith, same, le))))
    before.1

-- the count before of an entry
pub count_before : (hs : Collection) (es : List Entry) (k before after : ℕ) → AreBefore hs es → counts_at es k ≡ Some (before, after)
    → before ≡ count_at hs k
count_before hs [] k before after befores found = cc
count_before hs (e ∷ es) k before after befores found =
    ⊎_elim
    (λ here.
    let parts = some_pair_parts e.before before e.after after (sym (counts_head e es k here) ∙ found) in
    sym parts.0 ∙ befores.0 ∙ ap (λ i. count_at hs i) here)
    (λ other. count_before hs es k before after befores.1 (sym (counts_tail e es k other) ∙ found))
    (cases_eq (rank_of e.pair) k)

has_counts : (n : ℕ) (hs : Collection) (es : List Entry) (k : ℕ) (found : Option (ℕ × ℕ)) → IsChangeListFrom n es → AreBefore hs es
    → counts_at es k ≡ found → found ≡ difference_of (count_at hs k) (count_after found (count_at hs k))
has_counts n hs es k None es_is befores is = sym (no_difference (count_at hs k) (count_at hs k) refl)
has_counts n hs es k (Some counts) es_is befores is =
    let right = count_before hs es k counts.0 counts.1 befores is in
    let differ = counts_differ n es k counts.0 counts.1 es_is is in
    ap (λ b. Some (b, counts.1)) right ∙ sym (some_difference (count_at hs k) counts.1 (λ same. differ (right ∙ same)))

-- a change that a collection takes is the change to what it makes
pub change_between-changed : (hs : Collection) (es : List Entry) → IsCollection hs → IsChangeList es → AreBefore hs es
    → change_between hs (changed hs es) ≡ es
change_between-changed hs es hs_is es_is befores =
    sym (only_change hs (changed hs es) es hs_is (changed_keeps hs es hs_is es_is) es_is
    (λ p.
    has_counts 0 hs es (rank_of p) (counts_at es (rank_of p)) es_is befores refl
    ∙ ap (λ c. difference_of (count_in hs p) c) (sym (count_changed 0 hs es (rank_of p) hs_is es_is))))

-- a change that a collection takes, and then its inverse, give the first collection
pub changed_inverse : (hs : Collection) (es : List Entry) → IsCollection hs → IsChangeList es → AreBefore hs es
    → changed (changed hs es) (inverse_of es) ≡ hs
changed_inverse hs es hs_is es_is befores =
    ap (λ fs. changed (changed hs es) (inverse_of fs)) (sym (change_between-changed hs es hs_is es_is befores))
    ∙ changed_inverse_between hs (changed hs es) hs_is (changed_keeps hs es hs_is es_is)

-- the change between two collections is one that the first takes
pub before_from_counts : (n : ℕ) (hs ks : Collection) (es : List Entry) → IsChangeListFrom n es
    → ((k : ℕ) → n ≤ k → counts_at es k ≡ difference_of (count_at hs k) (count_at ks k)) → AreBefore hs es
before_from_counts n hs ks [] es_is has = tt
before_from_counts n hs ks (e ∷ es) es_is has =
    let own = sym (counts_head e es (rank_of e.pair) refl) ∙ has (rank_of e.pair) es_is.0 in (
      ⊎_elim
          (λ same.
          let clash : ◌≡◌ {A = Option (ℕ × ℕ)} (Some (e.before, e.after)) None =
          own ∙ no_difference (count_at hs (rank_of e.pair)) (count_at ks (rank_of e.pair)) same in
          cc)
          (λ ne.
          (some_pair_parts e.before (count_in hs e.pair) e.after (count_in ks e.pair)
          (own ∙ some_difference (count_at hs (rank_of e.pair)) (count_at ks (rank_of e.pair)) ne)).0)
          (cases_eq (count_at hs (rank_of e.pair)) (count_at ks (rank_of e.pair))),
      before_from_counts (rank_of e.pair + 1) hs ks es es_is.2
          (λ k le. sym (counts_tail e es k (λ same. omega (arith, same, le))) ∙ has k (omega (arith, le, es_is.0))),
    )
