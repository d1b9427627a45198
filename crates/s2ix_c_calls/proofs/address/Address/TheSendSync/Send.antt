-- An address may go to another thread: a box of a store may, and what lies at an address is what such a box owns.
use Rattle.std.specs.Prelude.{Option, Some, None, []}
use base.Shift.{Keyless}
use denote.RawPtr.{Ptr}
use denote.Builtin.{RawPtr}
use denote.Param.Send.{IsSend, owning_send, sendable}
use Rattle.std.proofs.Crossing.{Box-send}
use Rattle.std.proofs.alloc.Global.TheSendSync as heap
use Rattle.std.specs.Global.{Global}
use Rattle.s2ix_table_faced.specs.contracts.faced_table.FacedTable as table
use Rattle.s2ix_table_faced.specs.contracts.faced_table.FacedTableDebug.TheImpl as shown
use Rattle.s2ix_table_faced.specs.contracts.faced_table.FacedTableRangeTable.TheImpl as ranges
use Rattle.s2ix_table_faced.specs.contracts.part_place.FacedPlace as place
use Rattle.s2ix_table_faced.proofs.faced_table.FacedTable.TheSendSync as crossing
use Rattle.s2ix_edit_store.proofs.store.Store.TheSendSync as store
use Rattle.s2ix_edit_plan.specs.State.{State}
use Rattle.s2ix_c_calls.proofs.AddressSteps.{Stored}
use Rattle.s2ix_c_calls.specs.Address.{owned_at}
use Rattle.s2ix_c_calls.specs.contracts.address.Address.{the_row, the_type}

stored_send : IsSend Stored
stored_send = store.the_send table.the_row place.the_row ranges.ghosts shown.ghosts crossing.the_send crossing.the_sync

pointer_send : IsSend RawPtr
pointer_send = search sendable

-- what lies at an address names no thread
owned_keyless : (o : Option State) (alloc : Global) (at : Ptr) → Keyless (owned_at o alloc at)
owned_keyless (Some state) alloc at = ((Box-send Stored stored_send).owned (record { ptr = at; alloc = alloc; value = state }) []).1
owned_keyless None alloc at = tt

pub send : IsSend the_row
send = owning_send the_type (pointer_send, (heap.the_field_send, tt)) (λ a. owned_keyless a.state a.alloc a.start) (λ k a w. tt)
