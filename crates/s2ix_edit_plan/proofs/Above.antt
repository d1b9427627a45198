-- A count above a limit, and when a change makes one.
use Rattle.std.proofs.Common.{◌≡◌, ℕ, ◌+◌, ◌≤◌, ◌||◌, ◌<◌, ltb, true, false, List, [], ◌∷◌, Some, All, refl, sym, ap, ◌∙◌, ⊎_elim, arith, le-ltb, ltb-false}
use Rattle.std.specs.List.{list_any}
use Rattle.std.proofs.lemmas.Bool.{cases_Bool, cases_eq, or_parts}
use Rattle.std.proofs.lemmas.List.Elements.{All-head, All-tail}
use Rattle.s2ix_bag_pairs.specs.declared.pair.Held.{Held}
use Rattle.s2ix_bag_pairs.specs.declared.pair.Entry.{Entry}
use Rattle.s2ix_bag_pairs.specs.Change.{changed, counts_at, count_after, IsChangeList, IsChangeListFrom}
use Rattle.s2ix_bag_pairs.specs.Collection.{Collection, LimitedCollection, IsCollection, count_at}
use Rattle.s2ix_bag_pairs.specs.Limits.{count_limit}
use Rattle.s2ix_bag_pairs.specs.Pair.{rank_of}
use Rattle.s2ix_bag_pairs.proofs.Changes.{count_changed, counts_head, counts_tail, counts_below}
use Rattle.s2ix_bag_pairs.proofs.Counts.{count_head, count_tail}
use Rattle.s2ix_bag_lists.proofs.Lengths.{AreAfterWithin, small_changed}
use Rattle.s2ix_edit_plan.specs.Refusals.{has_count_above, has_count_above_every_limit}
use Rattle.s2ix_bag_lists.proofs.Refusals.{none_from_within, within_from_none}

-- if no count that a change has for a pair passes the limit, none after does
within_from_counts : (c n : ℕ) (es : List Entry) → IsChangeListFrom n es
    → ((k before after : ℕ) → counts_at es k ≡ Some (before, after) → after ≤ c) → AreAfterWithin c es
within_from_counts c n [] rises found = tt
within_from_counts c n (e ∷ es) rises found = (
  found (rank_of e.pair) e.before e.after (counts_head e es (rank_of e.pair) refl),
  within_from_counts c (rank_of e.pair + 1) es rises.2
      (λ k before after is.
      ⊎_elim
      (λ here. let clash = sym (counts_below (rank_of e.pair + 1) es k rises.2 (omega (arith, here))) ∙ is in cc)
      (λ other. found k before after (counts_tail e es k other ∙ is))
      (cases_eq (rank_of e.pair) k)),
)

pub count_within : (c : ℕ) (hs : Collection) (k : ℕ) → has_count_above c hs ≡ false → count_at hs k ≤ c
count_within c [] k none = omega arith
count_within c (h ∷ hs) k none =
    let parts = or_parts (ltb c h.count) (has_count_above c hs) none in
    ⊎_elim
    (λ here. let own = ltb-false c h.count parts.0 in omega (arith, own, count_head h hs k here))
    (λ other. let rest = count_within c hs k parts.1 in omega (arith, rest, count_tail h hs k other))
    (cases_eq (rank_of h.pair) k)

-- if no count of a collection passes the limit, the test finds none
pub none_above : (c : ℕ) (hs : Collection) → All (λ (h : Held). h.count ≤ c) hs → has_count_above c hs ≡ false
none_above c [] small = refl
none_above c (h ∷ hs) small =
    ap (λ t. t || has_count_above c hs) (le-ltb c h.count (All-head (λ (x : Held). x.count ≤ c) h hs small))
    ∙ none_above c hs (All-tail (λ (x : Held). x.count ≤ c) h hs small)

-- a count above the limit is found
pub above_from_count : (c : ℕ) (hs : Collection) (k : ℕ) → c < count_at hs k → has_count_above c hs ≡ true
above_from_count c hs k above =
    ⊎_elim
    (λ has. has)
    (λ none. let small = count_within c hs k none in absurd (omega (arith, small, above)))
    (cases_Bool (has_count_above c hs))

-- a count above a limit is above each lower one
above_lower : (c d : ℕ) (hs : Collection) → c ≤ d → has_count_above d hs ≡ true → has_count_above c hs ≡ true
above_lower c d [] le above = cc
above_lower c d (h ∷ hs) le above =
    ⊎_elim
    (λ high. ap (λ t. t || has_count_above c hs) high)
    (λ low.
    let small = ltb-false c h.count low in
    let own : ltb d h.count ≡ false = le-ltb d h.count (omega (arith, le, small)) in
    let rest : has_count_above d hs ≡ true = sym (ap (λ t. t || has_count_above d hs) own) ∙ above in
    ap (λ t. t || has_count_above c hs) low ∙ above_lower c d hs le rest)
    (cases_Bool (ltb c h.count))

-- so a count above every limit is above a bag's
pub above_own : (bag : LimitedCollection) (hs : Collection) → has_count_above_every_limit hs ≡ true
    → has_count_above (count_limit bag.limits) hs ≡ true
above_own bag hs above =
    let range = bag.limits.in_range in
    above_lower (count_limit bag.limits) 4294967295 hs (omega (arith, range)) above

-- if no count of a changed collection passes the limit, no count after does
within_from_changed : (c : ℕ) (hs : Collection) (es : List Entry) → IsCollection hs → IsChangeList es
    → has_count_above c (changed hs es) ≡ false → AreAfterWithin c es
within_from_changed c hs es is rises none =
    within_from_counts c 0 es rises
    (λ k before after found.
    let small = count_within c (changed hs es) k none in
    let counted = count_changed 0 hs es k is rises ∙ ap (λ o. count_after o (count_at hs k)) found in
    omega (arith, small, counted))

-- if the counts were within a limit, one passes it if a count after does
pub any_above_changed : (limit : ℕ) (hs : Collection) (es : List Entry) → IsCollection hs → IsChangeList es → All (λ h. h.count ≤ limit) hs
    → has_count_above limit (changed hs es) ≡ list_any (λ e. ltb limit e.after) es
any_above_changed limit hs es is rises small =
    ⊎_elim
    (λ above. ⊎_elim
    (λ has. has ∙ sym above)
    (λ none. let clash = sym above ∙ none_from_within limit es (within_from_changed limit hs es is rises none) in cc)
    (cases_Bool (has_count_above limit (changed hs es))))
    (λ within. none_above limit (changed hs es) (small_changed limit hs es (within_from_none limit es within) small) ∙ sym within)
    (cases_Bool (list_any (λ e. ltb limit e.after) es))
