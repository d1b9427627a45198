-- The journal of the changes that can be undone, from one of them on.
use Rattle.std.specs.Prelude.{ℕ, zero, suc, nat_le, if◌then◌else◌, Option, Some, None, Result, Ok, Err, List, length, drop}
use Rattle.s2ix_bag_pairs.specs.declared.pair.Entry.{Entry}
use Rattle.s2ix_edit_plan.specs.State.{State}
use Rattle.s2ix_text_write.specs.Journal.{journal_text}
use Rattle.s2ix_c_calls.specs.Status.{no_such_change}

-- the changes from the one with a number on, counted from 1; none come from the number after the last on
abbrev pub numbered_on : ℕ → List (List Entry) → Option (List (List Entry))
numbered_on zero changes = None
numbered_on (suc place) changes = if nat_le place (length changes) then Some (drop place changes) else None

-- the journal of changes, if they are there
abbrev pub journal_of : Option (List (List Entry)) → Result (List ℕ) ℕ
journal_of (Some changes) = Ok (journal_text changes)
journal_of None = Err no_such_change

-- the journal of the changes that can be undone, from the one with a number on
abbrev pub journal_from : ℕ → State → Result (List ℕ) ℕ
journal_from change s = journal_of (numbered_on change s.done)
