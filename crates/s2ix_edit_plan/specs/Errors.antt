-- Which error answers a refusal.
use Rattle.std.specs.Prelude.{◌≡◌, Option, Some, None}
use Rattle.s2ix_bag_lists.specs.declared.errors.RevertError.{RevertError}
use Rattle.s2ix_bag_lists.specs.declared.errors.RevertError.TheVariants as revert
use Rattle.s2ix_edit_plan.specs.declared.errors.EditError.{EditError}
use Rattle.s2ix_edit_plan.specs.declared.errors.EditError.TheVariants.{JournalFull, NoSuchLabel, NotHeld, TooFine, NoSuchChange, BelowZero, NoChange, TooManyCopies, TooManyPairs, OutOfMemory}

-- want of memory may come if the edit is accepted, and in place of what is found while the change is made
abbrev pub MayWantMemory : Option EditError → Type 0
MayWantMemory None = Unit {0}
MayWantMemory (Some JournalFull) = ⊥
MayWantMemory (Some NoSuchLabel) = ⊥
MayWantMemory (Some NotHeld) = ⊥
MayWantMemory (Some TooFine) = ⊥
MayWantMemory (Some NoSuchChange) = ⊥
MayWantMemory (Some BelowZero) = ⊥
MayWantMemory (Some NoChange) = Unit {0}
MayWantMemory (Some TooManyCopies) = Unit {0}
MayWantMemory (Some TooManyPairs) = Unit {0}
MayWantMemory (Some OutOfMemory) = ⊥

-- the error is the refusal, or memory was wanted if it may be
abbrev pub IsEditRefusal : EditError → Option EditError → Type 0
IsEditRefusal JournalFull refusal = refusal ≡ Some JournalFull
IsEditRefusal NoSuchLabel refusal = refusal ≡ Some NoSuchLabel
IsEditRefusal NotHeld refusal = refusal ≡ Some NotHeld
IsEditRefusal TooFine refusal = refusal ≡ Some TooFine
IsEditRefusal NoSuchChange refusal = refusal ≡ Some NoSuchChange
IsEditRefusal BelowZero refusal = refusal ≡ Some BelowZero
IsEditRefusal NoChange refusal = refusal ≡ Some NoChange
IsEditRefusal TooManyCopies refusal = refusal ≡ Some TooManyCopies
IsEditRefusal TooManyPairs refusal = refusal ≡ Some TooManyPairs
IsEditRefusal OutOfMemory refusal = MayWantMemory refusal

-- why an edit has no plan if a bag refuses to take the change back
abbrev pub revert_error : RevertError → EditError
revert_error (revert.BelowZero place) = BelowZero
revert_error revert.TooManyCopies = TooManyCopies
revert_error revert.TooManyPairs = TooManyPairs
revert_error revert.OutOfMemory = OutOfMemory
