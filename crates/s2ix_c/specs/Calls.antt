-- What calls on a handle make of its store.
use Rattle.std.specs.Prelude.{◌≡◌, ◌≢◌, ◌⊎◌, ℕ, Option, Some, None, Result, Ok, Err, List}
use Rattle.s2ix_bag_pairs.specs.declared.limits.Limits.{Limits}
use Rattle.s2ix_bag_pairs.specs.Limits.{pairs_limit, count_limit, changes_limit}
use Rattle.s2ix_edit_plan.specs.declared.edit.Edit.{Edit}
use Rattle.s2ix_edit_plan.specs.State.{State, starting_at}
use Rattle.s2ix_bag_pairs.specs.Collection.{Collection}
use Rattle.s2ix_text_write.specs.Dump.{IsDump}
use Rattle.s2ix_text.specs.declared.dump_error.DumpError.TheVariants.{OutOfMemory}
use Rattle.s2ix_text.specs.declared.dump_error.DumpFault.{DumpFault}
use Rattle.s2ix_text.specs.DumpFaults.{IsDumpError, dump_fault}
use Rattle.s2ix_c_calls.specs.declared.changes.EntryRow.{EntryRow}
use Rattle.s2ix_c_calls.specs.declared.rows.Row.{Row}
use Rattle.s2ix_c_calls.specs.Recording.{RecordsRows, RefusesChange}
use Rattle.s2ix_c_calls.specs.Removing.{RemovesRows}
use Rattle.s2ix_c_calls.specs.Replaying.{OfLimits}
use Rattle.s2ix_c_calls.specs.Status.{done, closed, out_of_memory}
use Rattle.s2ix_c_calls.specs.Stores.{AddsRows, AddsUnion, IsEdited, RefusesRows, RefusesUnion}

-- a call on a handle: a closed one stays closed, and C holds; an open one stays open, and P holds of its store's states before and after
abbrev pub Through : (State → State → Type 0) → Type 0 → Option State → Option State → Type 0
Through P C None new = (new ≡ None) × C
Through P C (Some s) new = (t : State) × (new ≡ Some t) × P s t

-- a call that tells a number of the store of a handle, and leaves it; a closed one has none
abbrev pub Tells : (State → ℕ) → ℕ → ℕ → Option State → Option State → Type 0
Tells number_of status number old new =
    Through (λ s t. (t ≡ s) × (status ≡ done) × (number ≡ number_of s)) ((status ≡ closed) × (number ≡ 0)) old new

-- a call that is refused before it looks at the store
abbrev pub Refuses : ℕ → ℕ → ℕ → Option State → Option State → Type 0
Refuses why status number old new = (status ≡ why) × (number ≡ 0) × (new ≡ old)

-- what is asked for, carried out on a handle: an edit, or the status of what is wrong with its numbers
abbrev pub DoesEdit : Result Edit ℕ → ℕ → ℕ → Option State → Option State → Type 0
DoesEdit (Ok edit) status number old new = Through (IsEdited edit status number) ((status ≡ closed) × (number ≡ 0)) old new
DoesEdit (Err why) status number old new = Refuses why status number old new

-- the handle is open, and its store is in the state that the limits with these numbers have
abbrev pub Opens : ℕ → ℕ → ℕ → (Limits → State) → Option State → Type 0
Opens pairs copies changes state new =
    (limits : Limits) × (pairs_limit limits ≡ pairs) × (count_limit limits ≡ copies) × (changes_limit limits ≡ changes) × (new ≡ Some (state limits))

-- a union of cells under a label, added to the counts of the store of a handle
abbrev pub DoesUnion : List ℕ → ℕ → ℕ → ℕ → Option State → Option State → Type 0
DoesUnion ids label status number old new =
    Through (AddsUnion ids label status number) (RefusesUnion ids label status number) old new

-- the handle is open, and its store starts from the collection that the text is a dump of
abbrev pub Loads : List ℕ → ℕ → ℕ → ℕ → Option State → Type 0
Loads text pairs copies changes new =
    (hs : Collection) × IsDump text hs × Opens pairs copies changes (λ limits. starting_at (record { limits = limits; held = hs })) new

-- under the limits with these numbers the text is no dump, and the first of its lines that has a fault is this
abbrev pub HasFaultIn : List ℕ → ℕ → ℕ → ℕ → ℕ → Type 0
HasFaultIn text pairs copies changes line =
    (limits : Limits) × (pairs_limit limits ≡ pairs) × (count_limit limits ≡ copies) × (changes_limit limits ≡ changes)
    × (fault : DumpFault) × (dump_fault limits text ≡ Some (line, fault))

-- reading the text as a dump under the limits with these numbers may want memory: its first line has no fault
abbrev pub MayWantMemory : List ℕ → ℕ → ℕ → ℕ → Type 0
MayWantMemory text pairs copies changes = OfLimits pairs copies changes (λ limits. IsDumpError OutOfMemory (dump_fault limits text))

-- another handle is open, and its store starts from what a store holds; or memory is wanted, and it is as it was
pub record IsCopied (s : State) (status : ℕ) (old new : Option State) : Type 0 where
  pub accepted : status ≡ done → new ≡ Some (starting_at s.bag)
  pub refused : status ≢ done → (status ≡ out_of_memory) × (new ≡ old)

-- rows, added to the counts of the store of a handle
abbrev pub DoesRows : List Row → ℕ → ℕ → Option State → Option State → Type 0
DoesRows rows status number old new = Through (AddsRows rows status number) (RefusesRows rows status number) old new

-- rows, removed from the counts of the store of a handle
abbrev pub DoesRemoval : List Row → ℕ → ℕ → Option State → Option State → Type 0
DoesRemoval rows status number old new = Through (RemovesRows rows status number) (RefusesRows rows status number) old new

-- the change that rows give, done by the store of a handle
abbrev pub DoesChange : List EntryRow → ℕ → ℕ → Option State → Option State → Type 0
DoesChange rows status number old new = Through (RecordsRows rows status number) (RefusesChange rows status number) old new
