-- The change that takes another one back, done.
use Rattle.std.proofs.Common.{◌≡◌, None, List, sym, subst}
use Rattle.s2ix_bag_pairs.specs.Change.{IsChangeList, changed}
use Rattle.s2ix_bag_pairs.specs.Collection.{Collection, LimitedCollection, IsBag}
use Rattle.s2ix_bag_pairs.specs.TakenBack.{change_back}
use Rattle.s2ix_bag_pairs.specs.declared.pair.Entry.{Entry}
use Rattle.s2ix_bag_lists.specs.Revert.{revert_refusal}
use Rattle.s2ix_bag_lists.proofs.Refusals.{IsTaken, made_is_bag}
use Rattle.s2ix_bag_lists.proofs.Reverts.{taken_back_from_none}

-- a bag takes it
pub back_taken : (bag now : LimitedCollection) (es back : List Entry) → bag ≡ now → back ≡ change_back now.held es
    → revert_refusal now es ≡ None → IsTaken bag back
back_taken bag now es back view is none =
    let TakenBy : LimitedCollection → Type 0 = λ b. IsTaken b back in
    let Takes : List Entry → Type 0 = λ fs. IsTaken now fs in
    subst TakenBy (sym view) (subst Takes (sym is) (taken_back_from_none now es none).taken)

-- and it makes a bag
pub back_is_bag : (bag : LimitedCollection) (back : List Entry) (held : Collection) → IsBag bag → IsChangeList back → IsTaken bag back
    → held ≡ changed bag.held back → IsBag (record { limits = bag.limits; held = held })
back_is_bag bag back held is_bag rises taken is =
    let Bags : Collection → Type 0 = λ hs. IsBag (record { limits = bag.limits; held = hs }) in
    subst Bags (sym is) (made_is_bag bag back is_bag rises taken)
