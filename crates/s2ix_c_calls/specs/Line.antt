-- What a line of a script makes of a store and of a buffer of the caller.
use Rattle.std.specs.Prelude.{◌≡◌, ◌≢◌, ◌⊎◌, ℕ, ◌<◌, ◌≤◌, List, length}
use Rattle.s2ix_edit_plan.specs.State.{State}
use Rattle.s2ix_cli_script.specs.Meaning.{meaning_of}
use Rattle.s2ix_cli_run.specs.Step.{step_of}
use Rattle.s2ix_c_calls.specs.InBuffer.{AnswerWants, IsAtFront, room_for}
use Rattle.s2ix_c_calls.specs.Status.{done, no_room, out_of_memory}

-- why a line is not carried out: the room is less than it wants, which the number tells; or memory is wanted, as with so much room it may
abbrev pub IsTurnedAway : List ℕ → ℕ → ℕ → ℕ → State → Type 0
IsTurnedAway line status number room s =
    ((status ≡ no_room) × (number ≡ room_for s line) × (room < number))
    ⊎ ((status ≡ out_of_memory) × (number ≡ 0) × AnswerWants s room (meaning_of line))

-- a line on a store: if it is done, the store is the one after it, and its answer is at the front of the buffer, which had the room that
-- the line wants; else store and buffer are as they were, and the status says why
pub record IsCarriedOut (line : List ℕ) (status number : ℕ) (before written : List ℕ) (s t : State) : Type 0 where
  pub after : status ≡ done → t ≡ (step_of s line).after
  pub answer : status ≡ done → IsAtFront (step_of s line).answer number before written
  pub room : status ≡ done → room_for s line ≤ length before
  pub unchanged : status ≢ done → (t ≡ s) × (written ≡ before)
  pub refused : status ≢ done → IsTurnedAway line status number (length before) s
