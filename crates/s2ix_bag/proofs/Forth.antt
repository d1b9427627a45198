-- Changes done one after the other.
use Rattle.std.proofs.Common.{◌≡◌, ℕ, ◌+◌, nat_lt, Bool, true, false, cond, List, [], ◌∷◌, ◌++◌, length, Option, Some, None, refl, sym, ap, ◌∙◌}
use Rattle.std.specs.List.{list_any}
use Rattle.std.specs.Option.{option_map, option_or}
use Rattle.s2ix_bag_lists.specs.declared.errors.ApplyError.{ApplyError}
use Rattle.s2ix_bag_lists.specs.declared.errors.ApplyError.TheVariants.{Mismatch, TooManyCopies, TooManyPairs, OutOfMemory}
use Rattle.s2ix_bag_pairs.specs.declared.pair.Entry.{Entry}
use Rattle.s2ix_bag_lists.specs.Apply.{apply_refusal, first_mismatch}
use Rattle.s2ix_bag_pairs.specs.Change.{changed}
use Rattle.s2ix_bag_pairs.specs.Collection.{LimitedCollection}
use Rattle.s2ix_bag_pairs.specs.Limits.{count_limit, pairs_limit}
use Rattle.s2ix_bag.specs.declared.replay_error.ReplayError.{ReplayError}
use Rattle.s2ix_bag.specs.declared.replay_error.ReplayError.TheVariants as told
use Rattle.s2ix_bag.specs.Replay.{IsReplayError, Numbered, after_change, after_changes, first_refusal, refusal_numbered}

-- ---- the bag

-- the limits stay
pub limits_stay : (bag : LimitedCollection) (cs : List Numbered) → (after_changes bag cs).limits ≡ bag.limits
limits_stay bag [] = refl
limits_stay bag (c ∷ rest) = limits_stay (after_change bag c.change) rest

pub after_changes-append : (bag : LimitedCollection) (cs ds : List Numbered)
    → after_changes bag (cs ++ ds) ≡ after_changes (after_changes bag cs) ds
after_changes-append bag [] ds = refl
after_changes-append bag (c ∷ rest) ds = after_changes-append (after_change bag c.change) rest ds

-- ---- the first refusal

-- a change that is taken leaves it to those after
pub refusal_after : (bag : LimitedCollection) (c : Numbered) (rest : List Numbered) → apply_refusal bag c.change ≡ None
    → first_refusal bag (c ∷ rest) ≡ first_refusal (after_change bag c.change) rest
refusal_after bag c rest taken =
    ap (λ (r : Option ApplyError). option_or (option_map (refusal_numbered c.number) r) (first_refusal (after_change bag c.change) rest))
    taken

-- one that is refused decides
pub refusal_here : (bag : LimitedCollection) (c : Numbered) (rest : List Numbered) (refusal : ReplayError)
    → option_map (refusal_numbered c.number) (apply_refusal bag c.change) ≡ Some refusal → first_refusal bag (c ∷ rest) ≡ Some refusal
refusal_here bag c rest refusal is =
    ap (λ (r : Option ReplayError). option_or r (first_refusal (after_change bag c.change) rest)) is

-- an error that tells it
pub refused_here : (bag : LimitedCollection) (c : Numbered) (rest : List Numbered) (error : ReplayError)
    → IsReplayError error (option_map (refusal_numbered c.number) (apply_refusal bag c.change))
    → IsReplayError error (first_refusal bag (c ∷ rest))
refused_here bag c rest (told.Mismatch change entry) is = refusal_here bag c rest (told.Mismatch change entry) is
refused_here bag c rest (told.TooManyCopies change) is = refusal_here bag c rest (told.TooManyCopies change) is
refused_here bag c rest (told.TooManyPairs change) is = refusal_here bag c rest (told.TooManyPairs change) is
refused_here bag c rest told.OutOfMemory is = tt

taken_at : (bag : LimitedCollection) (c : Numbered) (rest : List Numbered) (refusal : Option ApplyError)
    → apply_refusal bag c.change ≡ refusal → first_refusal bag (c ∷ rest) ≡ None → apply_refusal bag c.change ≡ None
taken_at bag c rest (Some e) is none =
    let clash : Some (refusal_numbered c.number e) ≡ None =
    sym (refusal_here bag c rest (refusal_numbered c.number e) (ap (option_map (refusal_numbered c.number)) is)) ∙ none in
    cc
taken_at bag c rest None is none = is

-- if none is refused, the first is taken
pub first_taken : (bag : LimitedCollection) (c : Numbered) (rest : List Numbered) → first_refusal bag (c ∷ rest) ≡ None
    → apply_refusal bag c.change ≡ None
first_taken bag c rest none = taken_at bag c rest (apply_refusal bag c.change) refl none

-- and so are those after
pub rest_taken : (bag : LimitedCollection) (c : Numbered) (rest : List Numbered) → first_refusal bag (c ∷ rest) ≡ None
    → first_refusal (after_change bag c.change) rest ≡ None
rest_taken bag c rest none = sym (refusal_after bag c rest (first_taken bag c rest none)) ∙ none

-- changes that are taken leave it to more after them
pub first_refusal-append : (bag : LimitedCollection) (cs ds : List Numbered) → first_refusal bag cs ≡ None
    → first_refusal bag (cs ++ ds) ≡ first_refusal (after_changes bag cs) ds
first_refusal-append bag [] ds none = refl
first_refusal-append bag (c ∷ rest) ds none =
    refusal_after bag c (rest ++ ds) (first_taken bag c rest none)
    ∙ first_refusal-append (after_change bag c.change) rest ds (rest_taken bag c rest none)

-- ---- no refusal is want of memory

-- the refusal, by the first mismatch
abbrev refusal_by : LimitedCollection → List Entry → Option ℕ → Option ApplyError
refusal_by bag es (Some place) = Some (Mismatch place)
refusal_by bag es None =
    cond (list_any (λ e. nat_lt (count_limit bag.limits) e.after) es) (Some TooManyCopies)
    (cond (nat_lt (pairs_limit bag.limits) (length (changed bag.held es))) (Some TooManyPairs) None)

no_memory_told : (within_limit many : Bool) → cond within_limit (Some TooManyCopies) (cond many (Some TooManyPairs) None) ≡ Some OutOfMemory → ⊥
no_memory_told true many is = cc
no_memory_told false true is = cc
no_memory_told false false is = cc

never_told : (bag : LimitedCollection) (es : List Entry) (mismatch : Option ℕ) → refusal_by bag es mismatch ≡ Some OutOfMemory → ⊥
never_told bag es (Some k) is = cc
never_told bag es None is =
    no_memory_told (list_any (λ e. nat_lt (count_limit bag.limits) e.after) es)
    (nat_lt (pairs_limit bag.limits) (length (changed bag.held es))) is

never_here : (bag : LimitedCollection) (c : Numbered) (rest : List Numbered) (refusal : Option ApplyError)
    → apply_refusal bag c.change ≡ refusal → (first_refusal (after_change bag c.change) rest ≡ Some told.OutOfMemory → ⊥)
    → first_refusal bag (c ∷ rest) ≡ Some told.OutOfMemory → ⊥
never_here bag c rest None is past so = past (sym (refusal_after bag c rest is) ∙ so)
never_here bag c rest (Some (Mismatch place)) is past so =
    let here = refusal_here bag c rest (told.Mismatch c.number (place + 1)) (ap (option_map (refusal_numbered c.number)) is) in
    let clash : Some (told.Mismatch c.number (place + 1)) ≡ Some told.OutOfMemory = sym here ∙ so in cc
never_here bag c rest (Some TooManyCopies) is past so =
    let here = refusal_here bag c rest (told.TooManyCopies c.number) (ap (option_map (refusal_numbered c.number)) is) in
    let clash : Some (told.TooManyCopies c.number) ≡ Some told.OutOfMemory = sym here ∙ so in cc
never_here bag c rest (Some TooManyPairs) is past so =
    let here = refusal_here bag c rest (told.TooManyPairs c.number) (ap (option_map (refusal_numbered c.number)) is) in
    let clash : Some (told.TooManyPairs c.number) ≡ Some told.OutOfMemory = sym here ∙ so in cc
never_here bag c rest (Some OutOfMemory) is past so = absurd (never_told bag c.change (first_mismatch bag c.change) is)

pub never_memory : (bag : LimitedCollection) (cs : List Numbered) → first_refusal bag cs ≡ Some told.OutOfMemory → ⊥
never_memory bag [] is = cc
never_memory bag (c ∷ rest) is = never_here bag c rest (apply_refusal bag c.change) refl (never_memory (after_change bag c.change) rest) is
