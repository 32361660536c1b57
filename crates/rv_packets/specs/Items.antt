-- The packets of gdb's remote protocol, in a stream of bytes that may come in any pieces.
-- To audit: public contracts cite this.
-- Debugging with GDB, appendix "GDB Remote Serial Protocol": "Overview", "Packet Acknowledgment" and "Interrupts".
use Rattle.std.specs.Prelude.{ℕ, ◌+◌, ◌*◌, ◌%◌, ◌==◌, ◌||◌, Bool, List, [], ◌∷◌, ◌++◌, bit_xor, Option, Some, None, option_to_list, if◌then◌else◌}
use Rattle.std.specs.List.{flat_map, sum}
use Rattle.rv_base.specs.Digits.{hex, digit_value}
use Rattle.rv_packets.specs.declared.item.Item.{Item}
use Rattle.rv_packets.specs.declared.item.Item.TheVariants.{Packet, BadSum, Ack, Again, Interrupt}
use Rattle.rv_packets.specs.declared.receiver.Phase.{Phase}
use Rattle.rv_packets.specs.declared.receiver.Phase.TheVariants.{Outside, Inside, Escape, First, Last}

-- where a stream stands: outside of a packet, in its contents, after a `}` in them, or at one of the two digits of its
-- checksum, the last one after the first; with the contents so far, and the sum of their bytes as they came
pub record State : Type 0 where
  pub phase : Phase
  pub contents : List ℕ
  pub sum : ℕ

abbrev pub outside : State
outside = record { phase = Outside; contents = []; sum = 0 }

abbrev pub begun : State
begun = record { phase = Inside; contents = []; sum = 0 }

-- where a stream stands after a byte, and what the byte ends
pub record Step : Type 0 where
  pub state : State
  pub item : Option Item

abbrev pub silent : State → Step
silent s = record { state = s; item = None }

abbrev pub says : Item → State → Step
says item s = record { state = s; item = Some item }

-- `}` and a byte stand for that byte with bit 5 changed
abbrev pub changed : ℕ → ℕ
changed b = bit_xor b 0x20

-- a byte of the contents in a phase: `#` ends them, and `$` begins anew
abbrev pub inner : State → ℕ → State → Step
inner s b other =
    if b == 0x23 then silent (record s { phase = First })
    else if b == 0x24 then silent begun
    else silent other

-- a byte that stands for one of the contents
abbrev pub more : State → ℕ → ℕ → State
more s b content = record { phase = Inside; contents = s.contents ++ content ∷ []; sum = (s.sum + b) % 256 }

-- whether two digits are a sum
abbrev pub is_sum : ℕ → ℕ → ℕ → Bool
is_sum high low sum = 16 * digit_value high + digit_value low == sum

-- a byte by the phase. Outside `+` acknowledges the last packet, `-` asks for it again, and byte 3 interrupts; other
-- bytes say nothing.
unfoldable pub step : Phase → State → ℕ → Step
step Outside s b =
    if b == 0x24 then silent begun
    else if b == 0x2b then says Ack s
    else if b == 0x2d then says Again s
    else if b == 3 then says Interrupt s
    else silent s
step Inside s b = inner s b (
    if b == 0x7d then record s { phase = Escape; sum = (s.sum + b) % 256 }
    else more s b b)
step Escape s b = inner s b (more s b (changed b))
step First s b = silent (record s { phase = Last b })
step (Last high) s b = says (if is_sum high b s.sum then Packet s.contents else BadSum) outside

-- what a stream says from a state on, and where it stands then
abbrev pub items : State → List ℕ → List Item
items s [] = []
items s (b ∷ bs) = option_to_list (step s.phase s b).item ++ items (step s.phase s b).state bs

abbrev pub after : State → List ℕ → State
after s [] = s
after s (b ∷ bs) = after (step s.phase s b).state bs

-- ---- packets as they are sent

-- `#`, `$`, `}` and `*` don't stand for themselves
abbrev pub is_special : ℕ → Bool
is_special b = (b == 0x23) || (b == 0x24) || (b == 0x7d) || (b == 0x2a)

abbrev pub escaped : List ℕ → List ℕ
escaped = flat_map (λ b. if is_special b then 0x7d ∷ changed b ∷ [] else b ∷ [])

-- contents with their frame
abbrev pub framed : List ℕ → List ℕ
framed contents = 0x24 ∷ (escaped contents ++ 0x23 ∷ hex 2 (sum (escaped contents) % 256))
