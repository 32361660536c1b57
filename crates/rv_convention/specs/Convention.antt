-- To audit: public contracts cite this.
-- Which steps of a run break the calling convention. Which registers a function restores is that of the RISC-V ELF
-- psABI 1.0, chapter 1; which jumps are calls and returns is that of RISC-V Unprivileged ISA 20191213, section 2.5.
use Rattle.std.specs.Prelude.{ℕ, ℤ, zero, suc, ◌+◌, ◌-◌, ◌^◌, ◌==◌, ◌&&◌, ◌||◌, Bool, true, false, List, [], ◌∷◌, ◌++◌, filter, fold, if◌then◌else◌, is_some, length, map, nat_le, nat_lt, not, slice_get, slice_index, take, Option, Some, None, option_and_then}
use Rattle.std.specs.Int.{is_in_range}
use Rattle.std.specs.List.{list_any, range_with_len}
use Rattle.std.specs.Option.{option_map_or}
use Rattle.rv_isa.specs.declared.kind.Kind.{Kind}
use Rattle.rv_isa.specs.declared.kind.Kind.TheVariants.{Jal, Jalr, Load, Store, Mret}
use Rattle.rv_hart.specs.Effect.{plus, reg}
use Rattle.rv_hart.specs.Step.{step}
use Rattle.rv_hart.specs.declared.trap.Outcome.{Outcome}
use Rattle.rv_hart.specs.declared.trap.Outcome.TheVariants.{Trapped}
use Rattle.rv_board.specs.BoardState.{BoardState}
use Rattle.rv_monitor.specs.State.{TimedState, after, with_due}
use Rattle.rv_recording.specs.Recording.{RecordingState}
use Rattle.rv_answers.specs.declared.convention.Breach.{Breach}
use Rattle.rv_answers.specs.declared.convention.Checked.{Checked}
use Rattle.rv_answers.specs.declared.convention.Deviation.TheVariants as deviations
use Rattle.rv_answers.specs.declared.convention.Entry.{Entry}
use Rattle.rv_answers.specs.declared.convention.Entry.TheVariants.{Call, Interrupt, Exception}
use Rattle.rv_answers.specs.declared.convention.Unrestored.{Unrestored}
use Rattle.rv_why.specs.Origins.{instruction}
use Rattle.rv_why.specs.Taken.{first_state}
use Rattle.rv_convention.specs.declared.calls.Open.{Open}
use Rattle.rv_convention.specs.declared.turn.Turn.{Turn}
use Rattle.rv_convention.specs.declared.turn.Turn.TheVariants.{Enters, Returns, Below, Other}

-- the values of x0 to x31
abbrev pub registers_of : BoardState → List ℕ
registers_of b = map (slice_index b.machine.registers) (range_with_len 0 32)

-- ---- what a step means

-- an access by sp (x2): below sp, or not
abbrev pub access_turn : BoardState → ℕ → ℤ → Turn
access_turn b base offset =
    let a = plus (reg b.machine base) offset in
    if (base == 2) && nat_lt a (reg b.machine base) then Below a else Other

-- a jump that writes ra (x1) is a call; one to ra that writes no register returns from it
abbrev pub jump_turn : (rd : ℕ) → Turn
jump_turn rd = if rd == 1 then Enters Call else Other

abbrev pub register_turn : (rd base : ℕ) → Turn
register_turn rd base = if (rd == 0) && (base == 1) then Returns false else jump_turn rd

-- of an instruction that retires: MRET returns from a handler
unfoldable pub kind_turn : BoardState → Kind → Turn
kind_turn b (Jal rd offset) = jump_turn rd
kind_turn b (Jalr rd base offset) = register_turn rd base
kind_turn b Mret = Returns true
kind_turn b (Load op rd base offset) = access_turn b base offset
kind_turn b (Store w source base offset) = access_turn b base offset
kind_turn b k = Other

-- a trap enters its handler
abbrev pub trap_turn : (cause : ℕ) → Turn
trap_turn cause = if nat_le (2 ^ 31) cause then Enters Interrupt else Enters Exception

-- of a step that did that, by what its instruction means if it retires
unfoldable pub turn_by : Outcome → Turn → Turn
turn_by (Trapped cause epc tval) retires = trap_turn cause
turn_by did retires = retires

abbrev pub turn_of : BoardState → Outcome → Turn
turn_of b did = turn_by did (option_map_or (kind_turn b) (instruction b) Other)

-- ---- what is restored

abbrev pub is_handler : Entry → Bool
is_handler Call = false
is_handler entry = true

-- the registers that a return restores: from a call sp and s0 to s11, from an interrupt all. What an exception
-- leaves is for its handler to say
abbrev pub is_restored : Entry → ℕ → Bool
is_restored Call r = (r == 2) || (is_in_range 8 9 r || is_in_range 18 27 r)
is_restored Interrupt r = true
is_restored Exception r = false

-- those that weren't, by their values then
unfoldable pub unrestored : Open → List ℕ → List Unrestored
unrestored c now = map (λ r. record { register = r; entry = slice_index c.registers r; now = slice_index now r })
    (filter (λ r. is_restored c.entry r && not (slice_index now r == slice_index c.registers r)) (range_with_len 0 32))

-- where a return goes on: after a call at what ra was, after an interrupt at the instruction that was interrupted
unfoldable pub wanted : Open → ℕ
wanted c = if is_handler c.entry then c.from else slice_index c.registers 1

abbrev pub goes_on : Entry → (wanted target : ℕ) → Bool
goes_on Exception wanted target = true
goes_on entry wanted target = target == wanted

abbrev pub goes_back : Open → ℕ → Bool
goes_back c target = goes_on c.entry (wanted c) target

-- ---- the open calls

-- the innermost one is the last
abbrev pub innermost : List Open → Option Open
innermost calls = slice_get calls (length calls - 1)

-- a return is one from what was entered so
abbrev pub returns_from : (by_mret : Bool) → Entry → Bool
returns_from by_mret entry = if by_mret then is_handler entry else not (is_handler entry)

-- and goes on where it has to
abbrev pub closes : (by_mret : Bool) → (now : BoardState) → Open → Bool
closes by_mret now c = returns_from by_mret c.entry && goes_back c now.machine.pc

-- how many are known at most: of a program that goes on calling and never returns, one more leaves it alone
abbrev pub most_open : ℕ
most_open = 65536

abbrev pub kept : List Open → List Open
kept calls = if nat_lt (length calls) most_open then calls else []

-- after a step that began at an address. A return that goes elsewhere leaves no call open, since none is known then
unfoldable pub calls_after : List Open → (address : ℕ) → (now : BoardState) → Turn → List Open
calls_after calls address now (Enters entry) =
    kept calls ++ record { entry = entry; from = address; registers = registers_of now } ∷ []
calls_after calls address now (Returns by_mret) =
    if option_map_or (closes by_mret now) (innermost calls) false then take (length calls - 1) calls else []
calls_after calls address now turn = calls

-- ---- breaches

-- of step n, which returned from an open call
unfoldable pub return_breach : (n address : ℕ) → (now : BoardState) → Open → Option Breach
return_breach n address now c =
    let missing = unrestored c (registers_of now) in
    if goes_back c now.machine.pc && (length missing == 0) then None else Some (record {
      step = n;
      address = address;
      deviation = deviations.Return (record {
        entry = c.entry;
        from = c.from;
        wanted = wanted c;
        target = now.machine.pc;
        registers = missing;
      });
    })

-- of step n, which began at an address with some calls open
unfoldable pub breach_of : List Open → (n address : ℕ) → (now : BoardState) → Turn → Option Breach
breach_of calls n address now (Returns by_mret) = option_and_then
    (λ c. if returns_from by_mret c.entry then return_breach n address now c else None) (innermost calls)
breach_of calls n address now (Below a) =
    Some (record { step = n; address = address; deviation = deviations.Below a })
breach_of calls n address now turn = None

-- those that are told: the first at each address
abbrev pub is_noted : List Breach → (address : ℕ) → Bool
is_noted breaches address = list_any (λ (b : Breach). b.address == address) breaches

unfoldable pub noted : List Breach → Option Breach → List Breach
noted breaches None = breaches
noted breaches (Some b) = if is_noted breaches b.address then breaches else breaches ++ b ∷ []

-- ---- a run

-- after some of its steps: the open calls, the breaches, the number of the steps, and whether the board has halted
pub record Progress : Type 0 where
  pub calls : List Open
  pub breaches : List Breach
  pub steps : ℕ
  pub has_halted : Bool

abbrev pub none_yet : Progress
none_yet = record { calls = []; breaches = []; steps = 0; has_halted = false }

-- a step: the board before it, what it did, and the board after it. Its inputs change only devices
pub record Moment : Type 0 where
  pub before : BoardState
  pub did : Outcome
  pub now : BoardState

-- after one more step, which began at an address and meant that
unfoldable pub after_turn : Progress → (address : ℕ) → Turn → (now : BoardState) → Progress
after_turn p address turn now = record {
  calls = calls_after p.calls address now turn;
  breaches = noted p.breaches (breach_of p.calls (p.steps + 1) address now turn);
  steps = p.steps + 1;
  has_halted = is_some now.machine.bus.halt;
}

abbrev pub followed : Progress → Moment → Progress
followed p m = after_turn p m.before.machine.pc (turn_of m.before m.did) m.now

-- the next step of a state
abbrev pub moment : TimedState → Moment
moment s = record { before = s.board; did = (step (with_due s).board.machine).1; now = (after s 1).board }

-- the first n steps of a state, or those up to its halt
unfoldable pub moments : ℕ → TimedState → List Moment
moments zero s = []
moments (suc n) s = if is_some s.board.machine.bus.halt then [] else moment s ∷ moments n (after s 1)

-- what is told of the first n steps of a recording, also of those that weren't taken yet
unfoldable pub checked : RecordingState → ℕ → Checked
checked r n =
    let p = fold followed none_yet (moments n (first_state r)) in
    record { steps = p.steps; has_halted = p.has_halted; breaches = p.breaches }
