-- To audit: public contracts cite this.
-- Watched bytes, and what accesses them. A watch is asked before the step: of what the instruction at pc loads or stores,
-- whether or not it will be let to, as debug triggers are (RISC-V Debug Specification 1.0, section 5.7: a match before).
use Rattle.std.specs.Prelude.{◌+◌, ◌==◌, ◌&&◌, Bool, true, false, List, [], ◌∷◌, ◌++◌, if◌then◌else◌, is_some, nat_lt, Option, Some, None}
use Rattle.std.specs.Bool.{beq}
use Rattle.std.specs.List.{position, remove}
use Rattle.std.specs.Option.{option_and_then, option_map_or}
use Rattle.rv_isa.specs.declared.kind.Kind.{Kind}
use Rattle.rv_isa.specs.declared.kind.Kind.TheVariants.{Load, Store}
use Rattle.rv_isa.specs.Support.Meaning.{means}
use Rattle.rv_isa.specs.Alu.{load_of}
use Rattle.rv_isa.specs.Width.{bytes_of}
use Rattle.rv_hart.specs.Effect.{plus, reg}
use Rattle.rv_board.specs.BoardState.{BoardState}
use Rattle.rv_monitor.specs.Views.{word_at}
use Rattle.rv_moves.specs.declared.watch.Access.{Access}
use Rattle.rv_moves.specs.declared.watch.Watch.{Watch}

-- what an instruction accesses: whether it stores, the first byte, and how many
unfoldable pub access_by : BoardState → Kind → Option Access
access_by b (Load op rd base offset) =
    Some (record { stores = false; address = plus (reg b.machine base) offset; size = bytes_of (load_of op).0 })
access_by b (Store width source base offset) =
    Some (record { stores = true; address = plus (reg b.machine base) offset; size = bytes_of width })
access_by b kind = None

-- what the next instruction accesses
abbrev pub next_access : BoardState → Option Access
next_access b = option_and_then (access_by b) (option_and_then means (word_at b b.machine.pc))

-- whether a watch looks for an access: it is of a kind that is looked for, and has one of the bytes
abbrev pub sees : Watch → Access → Bool
sees w a = (if a.stores then w.stores else w.loads)
    && nat_lt a.address (w.address + w.size) && nat_lt w.address (a.address + a.size)

-- the first watch that does
abbrev pub first_seeing : Access → List Watch → Option Watch
first_seeing a [] = None
first_seeing a (w ∷ ws) = if sees w a then Some w else first_seeing a ws

-- the watch that the next instruction of a board meets; one that has halted has no next instruction
abbrev pub met : List Watch → BoardState → Option Watch
met ws b = if is_some b.machine.bus.halt then None else option_and_then (λ a. first_seeing a ws) (next_access b)

abbrev pub are_none : List Watch → Bool
are_none [] = true
are_none (w ∷ ws) = false

-- whether two watches look for the same
abbrev pub are_same : Watch → Watch → Bool
are_same v w = beq v.stores w.stores && beq v.loads w.loads && (v.address == w.address) && (v.size == w.size)

-- watches with one more, unless it is there, and with one less, if it is
abbrev pub with_watch : Watch → List Watch → List Watch
with_watch w ws = if is_some (position (are_same w) ws) then ws else ws ++ w ∷ []

abbrev pub without_watch : Watch → List Watch → List Watch
without_watch w ws = option_map_or (λ n. remove ws n) (position (are_same w) ws) ws
