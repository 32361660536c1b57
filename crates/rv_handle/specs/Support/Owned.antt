-- Not to audit: how a handle points to its state, for one proof by hand. No contract of a call cites this.
-- What a handle owns: what a box of the page's state does.
use base.Fml.{Fml, ftrue}
use base.Stored.{Coded}
use denote.RawPtr.{Ptr}
use Rattle.std.specs.Box.Ownership.{box_owns}
use Rattle.std.specs.Coded.{coded_option}
use Rattle.std.specs.Global.{Global}
use Rattle.std.specs.Prelude.{Option, None, Some}
use Rattle.std_heap.specs.contracts.GlobalAllocator.TheImpl.{ghosts}
use Rattle.rv_handle.specs.contracts.state.State.{the_row}

abbrev pub handle_owns : Global → Ptr → the_row.Denot → Fml
handle_owns alloc = box_owns (ghosts.dealloc_token alloc) the_row

-- what there is where a handle is made: nothing yet, or what a handle owns
abbrev pub made_owns : Global → Ptr → Option the_row.Denot → Fml
made_owns alloc ptr None = ftrue
made_owns alloc ptr (Some s) = handle_owns alloc ptr s

-- how the logic stores the two states
abbrev pub state_coded : Coded the_row.Denot
state_coded = the_row.coded

abbrev pub made_coded : Coded (Option the_row.Denot)
made_coded = coded_option state_coded
