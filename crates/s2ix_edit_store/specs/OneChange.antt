-- A change that is given to a store alone, and when the store refuses it.
use Rattle.std.specs.Prelude.{◌≡◌, ◌==◌, nat_le, if◌then◌else◌, Option, Some, None, List, length}
use Rattle.std.specs.Option.{option_map}
use Rattle.s2ix_bag_lists.specs.Apply.{apply_refusal}
use Rattle.s2ix_bag_lists.specs.declared.errors.ApplyError.{ApplyError}
use Rattle.s2ix_bag_lists.specs.declared.errors.ApplyError.TheVariants as apply
use Rattle.s2ix_bag_pairs.specs.declared.pair.Entry.{Entry}
use Rattle.s2ix_bag_pairs.specs.Limits.{changes_limit}
use Rattle.s2ix_edit_plan.specs.State.{State}
use Rattle.s2ix_edit_store.specs.declared.record_error.RecordError.{RecordError}
use Rattle.s2ix_edit_store.specs.declared.record_error.RecordError.TheVariants.{JournalFull, NoChange, Mismatch, TooManyCopies, TooManyPairs, OutOfMemory}

-- the error that tells what a bag tells of a change
abbrev pub record_error : ApplyError → RecordError
record_error (apply.Mismatch place) = Mismatch place
record_error apply.TooManyCopies = TooManyCopies
record_error apply.TooManyPairs = TooManyPairs
record_error apply.OutOfMemory = OutOfMemory

-- why a store doesn't do a change, memory aside: a full journal, else no entries, else why its bag doesn't take the change
abbrev pub change_refusal : State → List Entry → Option RecordError
change_refusal s es =
    if nat_le (changes_limit s.bag.limits) (length s.done) then Some JournalFull
    else (if length es == 0 then Some NoChange else option_map record_error (apply_refusal s.bag es))

-- the error is the refusal that is due, or memory was wanted and none is
abbrev pub IsRecordRefusal : RecordError → Option RecordError → Type 0
IsRecordRefusal JournalFull refusal = refusal ≡ Some JournalFull
IsRecordRefusal NoChange refusal = refusal ≡ Some NoChange
IsRecordRefusal (Mismatch place) refusal = refusal ≡ Some (Mismatch place)
IsRecordRefusal TooManyCopies refusal = refusal ≡ Some TooManyCopies
IsRecordRefusal TooManyPairs refusal = refusal ≡ Some TooManyPairs
IsRecordRefusal OutOfMemory refusal = refusal ≡ None
