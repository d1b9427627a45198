-- A bag takes the change to another bag within its limits, and it is one change at most.
use Rattle.std.proofs.Common.{◌≡◌, ◌≤◌, ◌==◌, ℕ, List, [], ◌∷◌, All, Bool, true, false, cond, length, None, refl, ap, ⊎_elim, arith}
use Rattle.std.proofs.lemmas.Bool.{cases_eq}
use Rattle.std.proofs.lemmas.List.Elements.{All-head, All-tail}
use Rattle.s2ix_bag_pairs.specs.declared.pair.Entry.{Entry}
use Rattle.s2ix_bag_pairs.specs.declared.pair.Held.{Held}
use Rattle.s2ix_bag_pairs.specs.Change.{change_between, differences, joined}
use Rattle.s2ix_bag_pairs.specs.Collection.{Collection, IsBag, LimitedCollection, count_at, count_in}
use Rattle.s2ix_bag_pairs.specs.Limits.{count_limit}
use Rattle.s2ix_bag_pairs.specs.Pair.{rank_of}
use Rattle.s2ix_bag_pairs.proofs.Counts.{count_head, count_tail}
use Rattle.s2ix_bag_lists.specs.Apply.{apply_refusal}
use Rattle.s2ix_bag_lists.proofs.Lengths.{AreAfterWithin}
use Rattle.s2ix_bag_lists.proofs.Refusals.{before_from_no_mismatch, refusal_of_taken}
use Rattle.s2ix_edit_plan.proofs.Plans.{makes_between}
use Rattle.s2ix_edit_store.specs.Steps.{recorded_alone, with_held}

abbrev IsSmall : ℕ → Held → Type 0
IsSmall c h = h.count ≤ c

count_small : (c : ℕ) (hs : Collection) (k : ℕ) → All (IsSmall c) hs → count_at hs k ≤ c
count_small c [] k small = omega arith
count_small c (h ∷ hs) k small =
    ⊎_elim
    (λ here. omega (arith, count_head h hs k here, All-head (IsSmall c) h hs small))
    (λ other. omega (arith, count_tail h hs k other, count_small c hs k (All-tail (IsSmall c) h hs small)))
    (cases_eq (rank_of h.pair) k)

within_by : (c : ℕ) (same : Bool) (e : Entry) (es : List Entry) → e.after ≤ c → AreAfterWithin c es
    → AreAfterWithin c (cond same es (e ∷ es))
within_by c true e es small rest = rest
within_by c false e es small rest = (small, rest)

-- the counts after are those of the second collection
within_second : (c : ℕ) (old new hs : Collection) → All (IsSmall c) new → AreAfterWithin c (differences old new hs)
within_second c old new [] small = tt
within_second c old new (h ∷ hs) small =
    within_by c (count_in old h.pair == count_in new h.pair)
    (record { pair = h.pair; before = count_in old h.pair; after = count_in new h.pair }) (differences old new hs)
    (count_small c new (rank_of h.pair) small) (within_second c old new hs small)

pub between_taken : (bag : LimitedCollection) (new : Collection) → IsBag bag → IsBag (with_held bag new)
    → apply_refusal bag (change_between bag.held new) ≡ None
between_taken bag new b new_is =
    let es = change_between bag.held new in
    let makes = makes_between bag new es b.rises new_is.rises refl in
    let within_limit = new_is.within_limit in
    refusal_of_taken bag es (record {
      before = before_from_no_mismatch bag.held es makes.matches;
      within = within_second (count_limit bag.limits) bag.held new (joined bag.held new) new_is.small;
      within_limit = omega (arith, within_limit, ap length makes.result);
    })

-- a change alone is one, or none if it has no entries
pub alone_few : (es : List Entry) → length (recorded_alone es) ≤ 1
alone_few [] = omega arith
alone_few (e ∷ es) = omega arith
