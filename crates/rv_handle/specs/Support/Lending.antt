-- Not to audit: how a handle points to its state, for one proof by hand. No contract of a call cites this.
-- The state that a handle lends.
use base.Fml.{Fml}
use denote.Ref.{MutBor}
use denote.Follow.{follows}
use Rattle.rv_handle.specs.declared.handle.Handle.{Handle}
use Rattle.rv_handle.specs.declared.state.State.{State}
use Rattle.rv_handle.specs.contracts.handle.Handle.{the_row as handle_row}
use Rattle.rv_handle.specs.contracts.state.State.{the_row as state_row}

-- the handle h with the state s
abbrev pub with_state : Handle → State → Handle
with_state h s = record { ptr = h.ptr; alloc = h.alloc; value = s }

-- once the borrow r ends, the handle behind h has the last state that was written through r
abbrev pub state_follows : MutBor Handle → MutBor State → Fml
state_follows h r = follows handle_row state_row h.ghost_name r.ghost_name (with_state h.now)
