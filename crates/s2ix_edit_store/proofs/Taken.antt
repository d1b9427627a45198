-- Changes that a bag takes.
use Rattle.std.proofs.Common.{◌≡◌, List, None}
use Rattle.s2ix_bag_pairs.specs.declared.pair.Entry.{Entry}
use Rattle.s2ix_bag_lists.specs.Apply.{apply_refusal, first_mismatch}
use Rattle.s2ix_bag_pairs.specs.Change.{changed, inverse_of, IsChangeList}
use Rattle.s2ix_bag_pairs.specs.Collection.{LimitedCollection, IsBag, IsCollection}
use Rattle.s2ix_bag_lists.proofs.Applied.{changed_inverse}
use Rattle.s2ix_bag_lists.proofs.Refusals.{before_from_no_mismatch, inverse_taken, no_mismatch, refusal_of_taken, taken_from_none}

-- a change and then its inverse gives the first collection
pub changed_back : (bag : LimitedCollection) (es : List Entry) → IsCollection bag.held → IsChangeList es → first_mismatch bag es ≡ None
    → changed (changed bag.held es) (inverse_of es) ≡ bag.held
changed_back bag es c rises matches =
    changed_inverse bag.held es c rises (before_from_no_mismatch bag.held es matches)

-- the inverse of a change that a bag takes is taken by the bag that it makes
pub takes_back : (bag : LimitedCollection) (es : List Entry) → IsBag bag → IsChangeList es → apply_refusal bag es ≡ None
    → apply_refusal (record { limits = bag.limits; held = changed bag.held es }) (inverse_of es) ≡ None
takes_back bag es b rises taken =
    refusal_of_taken (record { limits = bag.limits; held = changed bag.held es }) (inverse_of es)
    (inverse_taken bag es b rises (taken_from_none bag es taken))

-- a change that is taken has the counts before that are held
pub not_mismatched : (bag : LimitedCollection) (es : List Entry) → apply_refusal bag es ≡ None → first_mismatch bag es ≡ None
not_mismatched bag es taken = no_mismatch bag.held es (taken_from_none bag es taken).before
