-- To audit: public contracts cite this.
-- Which trap is explained, and why it came: the checks of `fetch_result` and `execute` in their order (rv_hart), on
-- the board before its step. The inputs of the step change only devices, so they change nothing that is read here.
use Rattle.std.specs.Prelude.{ℕ, ℤ, zero, suc, ◌+◌, ◌-◌, ◌/◌, ◌%◌, ◌^◌, ◌==◌, ◌&&◌, Bool, true, false, if◌then◌else◌, find, is_some, is_none, min, nat_eq, nat_le, nat_lt, Option, Some, None, Result, Ok, Err}
use Rattle.std.specs.List.{range_with_len}
use Rattle.std.specs.Result.{result_err}
use Rattle.std.specs.Option.{option_and_then, option_eq, option_map, option_map_or}
use Rattle.rv_base.specs.Limits.{ram_base}
use Rattle.rv_isa.specs.declared.kind.Kind.{Kind}
use Rattle.rv_isa.specs.declared.kind.Kind.TheVariants.{Load, Store, Jalr, Csr, CsrImm, Ecall, Ebreak, Mret, Wfi}
use Rattle.rv_isa.specs.Support.Meaning.{means}
use Rattle.rv_isa.specs.Alu.{load_of}
use Rattle.rv_isa.specs.Width.{bytes_of}
use Rattle.rv_pmp.specs.Mode.{level}
use Rattle.rv_pmp.specs.Pmp.{PmpState, grants, matches}
use Rattle.rv_pmp.specs.declared.access.Access.{Access}
use Rattle.rv_pmp.specs.declared.access.Access.TheVariants.{Read, Write, Execute}
use Rattle.rv_pmp.specs.declared.mode.Mode.{Mode}
use Rattle.rv_csr.specs.Traps.{data_mode}
use Rattle.rv_hart.specs.Effect.{plus, reg}
use Rattle.rv_hart.specs.Laws.{interrupt_taken}
use Rattle.rv_hart.specs.declared.trap.Outcome.{Outcome}
use Rattle.rv_hart.specs.declared.trap.Outcome.TheVariants.{Trapped}
use Rattle.rv_board.specs.BoardState.{BoardState, csr_of}
use Rattle.rv_monitor.specs.State.{TimedState}
use Rattle.rv_monitor.specs.Views.{word_at}
use Rattle.rv_recording.specs.Recording.{RecordingState}
use Rattle.rv_recording.specs.declared.until.Watched.TheVariants.{Word}
use Rattle.rv_answers.specs.States.{region_of}
use Rattle.rv_answers.specs.declared.explained.Write as written
use Rattle.rv_answers.specs.declared.explained.Area.{Area}
use Rattle.rv_answers.specs.declared.explained.Area.TheVariants as area
use Rattle.rv_answers.specs.declared.explained.Barrier.{Barrier}
use Rattle.rv_answers.specs.declared.explained.Barrier.TheVariants.{Protection, Absent}
use Rattle.rv_answers.specs.declared.explained.Unfetched.{Unfetched}
use Rattle.rv_answers.specs.declared.explained.Unfetched.TheVariants as fetch
use Rattle.rv_answers.specs.declared.explained.Sum.{Sum}
use Rattle.rv_answers.specs.declared.explained.Reason.{Reason}
use Rattle.rv_answers.specs.declared.explained.Reason.TheVariants as why
use Rattle.rv_answers.specs.declared.explained.Before.{Before}
use Rattle.rv_answers.specs.declared.explained.Handler.{Handler}
use Rattle.rv_answers.specs.declared.explained.Explained.{Explained}
use Rattle.rv_answers.specs.declared.explained.Explanation.{Explanation}
use Rattle.rv_why.specs.Origins.{last_write}
use Rattle.rv_why.specs.Repeats.{last_repeated}
use Rattle.rv_why.specs.Taken.{board_at, first_state, is_trap, outcome_at}

-- ---- what lets no access through

-- what is at an address that isn't in the memory (docs/BOARD.md)
unfoldable pub area_of : ℕ → Area
area_of a =
    if nat_le ram_base a then area.PastEnd
    else (if nat_le 0x10000000 a && nat_lt a 0x1000000c then area.Serial
    else (if nat_le 0x0c000000 a && nat_lt a 0x10000000 then area.Controller
    else (if nat_le 0x02000000 a && nat_lt a 0x02010000 then area.Timer
    else (if nat_le 0x00100000 a && nat_lt a 0x00100004 then area.Halt else area.Nothing))))

-- what refuses an access of a mode to `size` bytes at an address: protection, or else that nothing there takes it
unfoldable pub barrier_of : PmpState → Mode → Access → (addr size : ℕ) → Barrier
barrier_of pmp mode access addr size =
    if grants pmp mode access addr size then Absent (area_of addr)
    else Protection mode (option_map (region_of pmp) (find (λ n. matches pmp n addr) (range_with_len 0 16)))

-- ---- the fetch

-- the word that is fetched from pc. A word lies in the memory whole or not at all
abbrev pub fetched_word : BoardState → Option ℕ
fetched_word b =
    if grants b.machine.csrs.pmp b.machine.mode Execute b.machine.pc 4 then word_at b b.machine.pc else None

-- the instruction at pc, or why none is fetched from there: what refuses the fetch, or the word
unfoldable pub fetched : BoardState → Result Kind Unfetched
fetched b = option_map_or (λ w. option_map_or Ok (means w) (Err (fetch.NoInstruction w))) (fetched_word b)
    (Err (fetch.Refused (barrier_of b.machine.csrs.pmp b.machine.mode Execute b.machine.pc 4)))

-- ---- the instruction

abbrev pub sum : BoardState → ℕ → ℤ → Sum
sum b base offset = record { base = base; value = reg b.machine base; offset = offset }

-- of a load or store: its address is no multiple of its size, or it is refused. MPRV may give it another mode
unfoldable pub why_accessed : BoardState → Access → (size base : ℕ) → ℤ → Reason
why_accessed b access size base offset =
    let m = b.machine in
    let addr = plus (reg m base) offset in
    if addr % size == 0
    then why.Refused (sum b base offset) (barrier_of m.csrs.pmp (data_mode m.csrs m.mode) access addr size)
    else why.Misaligned size (sum b base offset)

-- of an instruction on a control register: there is none, it is for machine mode, or it can't be written
unfoldable pub why_exchanged : BoardState → ℕ → Reason
why_exchanged b csr =
    if is_none (csr_of b csr) then why.NoRegister csr
    else (if nat_le (csr / 2 ^ 8 % 4) (level b.machine.mode) then why.ReadOnly csr else why.MachineOnly)

-- of an instruction that trapped: no other ones do than these, JAL and the branches
unfoldable pub why_executed : BoardState → Kind → Reason
why_executed b (Load op rd base offset) = why_accessed b Read (bytes_of (load_of op).0) base offset
why_executed b (Store w source base offset) = why_accessed b Write (bytes_of w) base offset
why_executed b (Csr op rd rs1 csr) = why_exchanged b csr
why_executed b (CsrImm op rd imm csr) = why_exchanged b csr
why_executed b Ecall = why.Call
why_executed b Ebreak = why.Break
why_executed b Mret = why.MachineOnly
why_executed b Wfi = why.MachineOnly
why_executed b (Jalr rd base offset) = why.Target (Some (sum b base offset))
why_executed b k = why.Target None

abbrev pub why_tried : BoardState → Result Kind Unfetched → Reason
why_tried b (Ok k) = why_executed b k
why_tried b (Err e) = why.NotFetched e

-- of a step that trapped
unfoldable pub why_trapped : BoardState → Outcome → Reason
why_trapped b did = option_map_or why.Interrupt (interrupt_taken did) (why_tried b (fetched b))

-- ---- the trap of a step

abbrev pub handler_of : BoardState → Handler
handler_of b = record { address = b.machine.pc; mtvec = b.machine.csrs.mtvec; missing = result_err (fetched b) }

-- the register that a jump goes to, with its value and the offset
abbrev pub jump_sum : BoardState → Kind → Option Sum
jump_sum b (Jalr rd base offset) = Some (sum b base offset)
jump_sum b k = None

abbrev pub before_of : BoardState → Before
before_of b = record {
  address = b.machine.pc;
  word = word_at b b.machine.pc;
  sum = option_and_then (jump_sum b) (option_and_then means (word_at b b.machine.pc));
}

-- the instruction before the step that follows n steps
abbrev pub before_step : TimedState → ℕ → Option Before
before_step s n = if n == 0 then None else Some (before_of (board_at s (n - 1)))

-- the word at an address on a board, if it is another one on a later board
abbrev pub overwritten : (first now : BoardState) → ℕ → Option ℕ
overwritten first now addr =
    if option_eq nat_eq (word_at first addr) (word_at now addr) then None else word_at first addr

-- the last of the first n steps that wrote the word at an address, if that is another one than at reset
abbrev pub writer : TimedState → (addr n : ℕ) → Option ℕ → Option written.Write
writer s addr n None = None
writer s addr n (Some word) = last_write (Word addr) s n

-- the trap of the step that follows n steps, by what that step does
unfoldable pub explained : TimedState → ℕ → Outcome → Option Explained
explained s n (Trapped cause epc tval) = Some (record {
  step = n + 1;
  cause = cause;
  value = tval;
  address = epc;
  mode = (board_at s n).machine.mode;
  word = word_at (board_at s n) epc;
  overwritten = overwritten (board_at s 0) (board_at s n) epc;
  writer = writer s epc n (overwritten (board_at s 0) (board_at s n) epc);
  reason = why_trapped (board_at s n) (Trapped cause epc tval);
  before = before_step s n;
  handler = handler_of (board_at s (n + 1));
})
explained s n did = None

-- ---- which trap

-- after the step that follows n steps, no instruction is fetched
abbrev pub is_unhandled : TimedState → ℕ → Bool
is_unhandled s n = is_some (result_err (fetched (board_at s (n + 1))))

-- of the first n steps, the first trap that met no handler, or else the last trap: how many steps came before it
unfoldable pub told : TimedState → ℕ → Option ℕ
told s zero = None
told s (suc n) =
    if option_map_or (is_unhandled s) (told s n) false then told s n
    else (if is_trap (outcome_at s n) then Some n else told s n)

-- what is told of a recording: at most 20,000,000 steps are looked at
unfoldable pub explanation : RecordingState → Explanation
explanation r = record {
  trap = option_and_then (λ n. explained (first_state r) n (outcome_at (first_state r) n))
      (told (first_state r) (min r.session.timed.taken 20000000));
  unseen = r.session.timed.taken - 20000000;
  repeated = last_repeated r.session.timed.board.traps;
}
