-- To audit: public contracts cite this.
-- Where the value of a register or of a word of memory came from: the last step that wrote it. Which instruction
-- writes and reads what is that of RISC-V Unprivileged ISA 20191213, chapters 2 (RV32I), 7 (M) and 9 (Zicsr).
use Rattle.std.specs.Prelude.{ℕ, zero, suc, ◌+◌, ◌==◌, ◌&&◌, Bool, false, if◌then◌else◌, min, nat_lt, Option, Some, None}
use Rattle.std.specs.Option.{option_and_then, option_map, option_map_or}
use Rattle.rv_isa.specs.declared.kind.Kind.{Kind}
use Rattle.rv_isa.specs.declared.kind.Kind.TheVariants.{Lui, Auipc, Jal, Jalr, Load, Store, OpImm, Shift, Op, Csr, CsrImm}
use Rattle.rv_isa.specs.Support.Meaning.{means}
use Rattle.rv_isa.specs.Width.{bytes_of}
use Rattle.rv_hart.specs.Effect.{plus, reg}
use Rattle.rv_hart.specs.Step.{step}
use Rattle.rv_board.specs.BoardState.{BoardState}
use Rattle.rv_monitor.specs.State.{TimedState, after, with_due}
use Rattle.rv_monitor.specs.Views.{word_at}
use Rattle.rv_recording.specs.Recording.{RecordingState}
use Rattle.rv_recording.specs.Until.{holds, watched_value}
use Rattle.rv_recording.specs.declared.until.Watched.{Watched}
use Rattle.rv_recording.specs.declared.until.Watched.TheVariants.{Register, Word}
use Rattle.rv_answers.specs.declared.moves.Target.{Target}
use Rattle.rv_answers.specs.declared.moves.Target.TheVariants as target
use Rattle.rv_answers.specs.declared.values.RegisterValue.{RegisterValue}
use Rattle.rv_answers.specs.declared.explained.Origin.{Origin}
use Rattle.rv_answers.specs.declared.explained.Write.{Write}
use Rattle.rv_why.specs.declared.writes.Sought.{Sought}
use Rattle.rv_why.specs.declared.writes.Sought.TheVariants as sought
use Rattle.rv_why.specs.Taken.{board_at, first_state, is_trap}

-- ---- what an instruction writes and reads

-- the register that it writes; 0 if it writes none, as x0 keeps its 0
unfoldable pub destination : Kind → ℕ
destination (Lui rd imm) = rd
destination (Auipc rd imm) = rd
destination (Jal rd offset) = rd
destination (Jalr rd base offset) = rd
destination (Load op rd base offset) = rd
destination (OpImm op rd rs1 imm) = rd
destination (Shift op rd rs1 amount) = rd
destination (Op op rd rs1 rs2) = rd
destination (Csr op rd rs1 csr) = rd
destination (CsrImm op rd imm csr) = rd
destination k = 0

-- the registers that it reads: the first and the second
unfoldable pub sources : Kind → Option ℕ × Option ℕ
sources (Jalr rd base offset) = (Some base, None)
sources (Load op rd base offset) = (Some base, None)
sources (Store w source base offset) = (Some source, Some base)
sources (OpImm op rd rs1 imm) = (Some rs1, None)
sources (Shift op rd rs1 amount) = (Some rs1, None)
sources (Op op rd rs1 rs2) = (Some rs1, Some rs2)
sources (Csr op rd rs1 csr) = (Some rs1, None)
sources k = (None, None)

-- the address of a load or a store
unfoldable pub accessed : BoardState → Kind → Option ℕ
accessed b (Load op rd base offset) = Some (plus (reg b.machine base) offset)
accessed b (Store w source base offset) = Some (plus (reg b.machine base) offset)
accessed b k = None

-- whether it writes what is watched: any of the four bytes of a word
unfoldable pub is_written : Watched → BoardState → Kind → Bool
is_written (Register r) b k = nat_lt 0 r && (destination k == r)
is_written (Word a) b (Store w source base offset) =
    let addr = plus (reg b.machine base) offset in nat_lt addr (a + 4) && nat_lt a (addr + bytes_of w)
is_written (Word a) b k = false

-- ---- which step

abbrev pub instruction : BoardState → Option Kind
instruction b = option_and_then means (word_at b b.machine.pc)

-- whether the next step of a state is what is sought: its instruction retires and writes what is watched, or a
-- condition holds after it. The inputs of the step change only devices
unfoldable pub is_sought : Sought → TimedState → Bool
is_sought (sought.Write w) s =
    if is_trap (step (with_due s).board.machine).1 then false
    else option_map_or (is_written w s.board) (instruction s.board) false
is_sought (sought.Met c) s = holds c (step (with_due s).board.machine).1 (after s 1).board

-- of the first n steps, the last one that is sought: how many steps come before it
unfoldable pub last_sought : Sought → TimedState → ℕ → Option ℕ
last_sought x s zero = None
last_sought x s (suc n) = if is_sought x (after s n) then Some n else last_sought x s n

-- ---- what is told of it

abbrev pub target_of : Watched → Target
target_of (Register r) = target.Register r
target_of (Word a) = target.Word a

abbrev pub value_in : BoardState → ℕ → RegisterValue
value_in b r = record { register = r; value = reg b.machine r }

-- of a write by the step that follows n steps, by the board before it
unfoldable pub write_of : Watched → BoardState → ℕ → Write
write_of w b n = let k = instruction b in record {
  step = n + 1;
  address = b.machine.pc;
  word = word_at b b.machine.pc;
  before = watched_value b w;
  first = option_map (value_in b) (option_and_then (λ i. (sources i).0) k);
  second = option_map (value_in b) (option_and_then (λ i. (sources i).1) k);
  accessed = option_and_then (accessed b) k;
}

-- the last write among the first n steps of a state
abbrev pub last_write : Watched → TimedState → ℕ → Option Write
last_write w s n = option_map (λ i. write_of w (board_at s i) i) (last_sought (sought.Write w) s n)

-- among the first n steps of a recording
unfoldable pub origin : RecordingState → Watched → ℕ → Origin
origin r w n =
    let s = first_state r in
    let most = min n r.session.timed.taken in
    record {
      target = target_of w;
      steps = most;
      value = watched_value (board_at s most) w;
      write = last_write w s most;
    }
