-- What lies at an address.
use Rattle.std.specs.Prelude.{Option, Some, None}
use Rattle.std.specs.Coded.{Coded, coded_option}
use Rattle.std.specs.Box.Ownership.{box_owns}
use Rattle.std.specs.Global.{Global}
use Rattle.std.specs.contracts.impls.GlobalAllocator.TheImpl.{ghosts}
use Rattle.s2ix_table_faced.specs.contracts.faced_table.FacedTable as table
use Rattle.s2ix_table_faced.specs.contracts.faced_table.FacedTableDebug.TheImpl as shown
use Rattle.s2ix_table_faced.specs.contracts.faced_table.FacedTableRangeTable.TheImpl as ranges
use Rattle.s2ix_table_faced.specs.contracts.part_place.FacedPlace as place
use Rattle.s2ix_edit_store.specs.contracts.store.Store as store
use Rattle.s2ix_edit_plan.specs.State.{State}
use base.Fml.{Fml, ftrue}
use denote.RattleType.{RattleType}
use denote.RawPtr.{Ptr}

-- the type of a store, with its table
abbrev pub Stored : RattleType
Stored = store.the_row table.the_row place.the_row ranges.ghosts shown.ghosts

-- the logic's code of a state that may be there
abbrev pub code_of_state : Coded (Option State)
code_of_state = coded_option Stored.coded

-- a store in this state with the right to free its block, or nothing
abbrev pub owned_at : Option State → Global → Ptr → Fml
owned_at (Some state) alloc at = box_owns (ghosts.dealloc_token alloc) Stored at state
owned_at None alloc at = ftrue
