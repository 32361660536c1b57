-- The page's state in a box, and the parts of that.
use mir.Syntax.{impl, tnil, dnil}
use mathlib.Core.List.{[]}
use denote.Signature.{Slot, plain}
use Rattle.std_alloc.proofs.BoxSteps.Form.{Bx}
use Rattle.std_heap.specs.contracts.Global as Heap
use Rattle.std_heap.specs.contracts.GlobalAllocator.TheImpl.{ghosts, dict}
use Rattle.std_heap.proofs.Global.TheLaws as heap
use Rattle.rv_handle.specs.contracts.state.State as Home
use Rattle.rv_handle.proofs.state.State.TheLaws as home
use Rattle.rv_handle.specs.contracts.handle.parts.Parts as Parts

abbrev pub E : Bx
E = record { row = Home.the_row; laws = home.the_row_laws; al = record { row = Heap.the_row; laws = heap.the_row_laws; g = ghosts; d = dict; drops = impl [] tnil dnil } }

abbrev pub FromParts : Slot 0
FromParts = plain (λ _. Parts.the_row Home.the_row Heap.the_row ghosts)
