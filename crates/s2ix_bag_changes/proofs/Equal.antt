-- What is equal is one: bags by their limits and what they hold, changes by their entries.
use Rattle.std.proofs.Common.{◌≡◌, ◌&&◌, List, ap, ap₂}
use Rattle.std.specs.Bool.{Decides}
use Rattle.std.specs.Cmp.{first_so, second_so}
use Rattle.std.specs.Cmp.Lexicographic.{pointwise, pointwise_decides}
use Rattle.s2ix_bag_pairs.specs.Collection.{Collection, LimitedCollection}
use Rattle.s2ix_bag_pairs.specs.declared.limits.Limits.{Limits}
use Rattle.s2ix_bag_pairs.specs.declared.pair.Entry.{Entry}
use Rattle.s2ix_bag_pairs.specs.contracts.limits.LimitsPartialEq.TheImpl.{eq-value as limits_test}
use Rattle.s2ix_bag_pairs.specs.contracts.pair.HeldPartialEq.TheImpl.{eq-value as held_test}
use Rattle.s2ix_bag_pairs.specs.contracts.pair.EntryPartialEq.TheImpl.{eq-value as entry_test}
use Rattle.s2ix_bag_pairs.proofs.Equal.{limits_decided, held_decided, entries_decided}

pub changes_decided : (es fs : List Entry) → Decides (pointwise entry_test.it es fs) (es ≡ fs)
changes_decided = pointwise_decides entries_decided

pub bags_decided : (a b : LimitedCollection) → Decides (limits_test.it a.limits b.limits && pointwise held_test.it a.held b.held) (a ≡ b)
bags_decided a b =
    let limits = limits_decided a.limits b.limits in
    let held = pointwise_decides held_decided a.held b.held in (
      λ h.
          ap₂ (λ (l : Limits) (hs : Collection). let made : LimitedCollection = record { limits = l; held = hs } in made)
          (limits.0 (first_so _ _ h)) (held.0 (second_so _ _ h)),
      λ e.
          let l = limits.1 (ap (λ (x : LimitedCollection). x.limits) e) in
          let hs = held.1 (ap (λ (x : LimitedCollection). x.held) e) in λ i. l i && hs i,
    )
