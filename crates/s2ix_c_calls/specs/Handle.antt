-- What a handle holds.
use Rattle.std.specs.Prelude.{Option}
use Rattle.s2ix_edit_plan.specs.State.{State}
use Rattle.s2ix_c_calls.specs.declared.handle.Handle.{Handle}

-- the state of its store, or `None` if it is closed
abbrev pub held_of : Handle → Option State
held_of handle = handle.address.state
