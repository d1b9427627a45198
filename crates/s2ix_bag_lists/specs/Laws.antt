-- What the definitions say, in other words: each of these is proved, and told in a sentence, by the function of `laws` of its name.
use Rattle.std.specs.Prelude.{◌≡◌, ◌↔◌, None, List}
use Rattle.s2ix_bag_lists.specs.Apply.{apply_refusal}
use Rattle.s2ix_bag_lists.specs.Entries.{change_fault}
use Rattle.s2ix_bag_pairs.specs.Change.{IsChangeList, changed, inverse_of}
use Rattle.s2ix_bag_pairs.specs.Collection.{LimitedCollection, IsBag}
use Rattle.s2ix_bag_pairs.specs.TakenBack.{change_back}
use Rattle.s2ix_bag_pairs.specs.declared.pair.Entry.{Entry}

abbrev pub ChangesHaveNoFault : Type 0
ChangesHaveNoFault = (es : List Entry) → IsChangeList es ↔ (change_fault es ≡ None)

abbrev pub InverseTakesBack : Type 0
InverseTakesBack =
    (bag : LimitedCollection) (es : List Entry) → IsBag bag → IsChangeList es → apply_refusal bag es ≡ None →
    (apply_refusal (record { limits = bag.limits; held = changed bag.held es }) (inverse_of es) ≡ None)
    × (changed (changed bag.held es) (inverse_of es) ≡ bag.held)

abbrev pub InverseTakesBackAtOnce : Type 0
InverseTakesBackAtOnce =
    (bag : LimitedCollection) (es : List Entry) → IsBag bag → IsChangeList es → apply_refusal bag es ≡ None →
    change_back (changed bag.held es) es ≡ inverse_of es
