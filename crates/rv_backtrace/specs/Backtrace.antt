-- To audit: public contracts cite this.
-- The calls in which a board stands, by rows of frames, each of which says where the caller's sp and the value of ra
-- are (this project's own: docs/LAB.md). That a row is right is no promise.
use Rattle.std.specs.Prelude.{ℕ, zero, suc, ◌-◌, ◌+◌, ◌*◌, ◌/◌, ◌%◌, ◌^◌, ◌==◌, ◌&&◌, Bool, true, false, List, [], ◌∷◌, filter, if◌then◌else◌, nat_eq, nat_le, nat_lt, not, ok_or, Option, Some, None, option_and_then, Result, Ok, Err}
use Rattle.std.specs.List.{last_or}
use Rattle.std.specs.Option.{option_eq, option_map}
use Rattle.rv_base.specs.Limits.{ram_base}
use Rattle.rv_isa.specs.Support.Meaning.{means}
use Rattle.rv_isa.specs.declared.kind.Kind.{Kind}
use Rattle.rv_isa.specs.declared.kind.Kind.TheVariants.{Auipc, Jal, Jalr}
use Rattle.rv_hart.specs.Effect.{plus, reg}
use Rattle.rv_board.specs.BoardState.{BoardState, csr_of}
use Rattle.rv_monitor.specs.Views.{word_at}
use Rattle.rv_asm.specs.Lines.{Listed, end_of}
use Rattle.rv_answers.specs.declared.frames.Backtrace.{Backtrace}
use Rattle.rv_answers.specs.declared.frames.Frame.{Frame}
use Rattle.rv_answers.specs.declared.frames.Outermost.{Outermost}
use Rattle.rv_answers.specs.declared.frames.Outermost.TheVariants as outermost
use Rattle.rv_answers.specs.declared.frames.Reached.{Reached}
use Rattle.rv_answers.specs.declared.frames.Reached.TheVariants as reached
use Rattle.rv_frames.specs.declared.places.Entry.{Entry}
use Rattle.rv_frames.specs.declared.places.Entry.TheVariants.{Start, Called, Handler, Resumed}
use Rattle.rv_frames.specs.declared.row.FrameRow.{FrameRow}
use Rattle.rv_frames.specs.declared.row.Kept.{Kept}
use Rattle.rv_frames.specs.declared.row.Kept.TheVariants.{InRa, In, At, Lost}
use Rattle.rv_frames.specs.declared.state.Stack.{Stack}
use Rattle.rv_frames.specs.declared.state.Stack.TheVariants as stacks
use Rattle.rv_backtrace.specs.declared.level.Level.{Level}

-- what follows from a value, or why there is none
abbrev pub given : {A B : Type 0} → (A → Result B Outermost) → Result A Outermost → Result B Outermost
given f (Ok x) = f x
given f (Err why) = Err why

-- the row of an address: the last that begins there or before it
abbrev pub row_at : List FrameRow → (a : ℕ) → Option FrameRow
row_at rows a = last_or None (filter (λ (r : FrameRow). nat_le r.address a) rows)

-- ---- one level up

-- where the frame of a level begins
abbrev pub base_of : FrameRow → Level → Option ℕ
base_of r v = option_map (λ o. (v.sp + o) % 2 ^ 32) r.offset

-- the value of ra with which the level's function began
unfoldable pub ra_by : BoardState → (base ra : Option ℕ) → Kept → Option ℕ
ra_by b base ra InRa = ra
ra_by b base ra (In r) = Some (reg b.machine (r % 32))
ra_by b base ra (At o) = option_and_then (λ a. word_at b ((a + o) % 2 ^ 32)) base
ra_by b base ra Lost = None

abbrev pub ra_of : BoardState → FrameRow → Level → Option ℕ
ra_of b r v = ra_by b (base_of r v) v.ra r.ra

-- sp of the caller: where the frame begins, or in mscratch if that is on another stack
unfoldable pub sp_by : BoardState → (base : Option ℕ) → Stack → Option ℕ
sp_by b base stacks.Own = base
sp_by b base stacks.Exchanged = csr_of b 0x340
sp_by b base stacks.Lost = None

abbrev pub sp_of : BoardState → FrameRow → Level → Result ℕ Outermost
sp_of b r v = ok_or (sp_by b (base_of r v) r.stack) outermost.NoSp

-- of a call that returns to an address: it stands right before that, and what ra was there isn't known
abbrev pub caller : Level → (to sp : ℕ) → Level
caller v to sp = record { address = to - 4; sp = sp; ra = None; mepc = v.mepc }

-- of what trapped: what mepc was there isn't known
abbrev pub trapped : (ra : Option ℕ) → (at sp : ℕ) → Level
trapped ra at sp = record { address = at; sp = sp; ra = ra; mepc = None }

-- the level above, by why a function begins, if one lies there
unfoldable pub level_by : BoardState → FrameRow → Level → Option Entry → Result Level Outermost
level_by b r v (Some Called) =
    given (λ to. given (λ sp. Ok (caller v to sp)) (sp_of b r v)) (ok_or (ra_of b r v) outermost.NoRa)
level_by b r v (Some Handler) =
    given (λ at. given (λ sp. Ok (trapped (ra_of b r v) at sp)) (sp_of b r v)) (ok_or v.mepc outermost.NoMepc)
level_by b r v (Some Start) = Err outermost.Start
level_by b r v (Some Resumed) = Err outermost.Resumed
level_by b r v None = Err outermost.NoFunction

-- ---- the frame above

abbrev pub instruction_at : BoardState → (a : ℕ) → Option Kind
instruction_at b a = option_and_then means (word_at b a)

-- where the call at an address leads, as far as instructions tell it: a jump to a register that AUIPC set right before
abbrev pub upper : ℕ → (base : ℕ) → Kind → Option ℕ
upper a base (Auipc rd imm) = if rd == base then Some ((a + imm * 2 ^ 12) % 2 ^ 32) else None
upper a base k = None

unfoldable pub leads_to : BoardState → ℕ → Kind → Option ℕ
leads_to b a (Jal rd offset) = if rd == 1 then Some (plus a offset) else None
leads_to b a (Jalr rd base offset) = if rd == 1
    then option_map (λ t. plus t offset / 2 * 2) (option_and_then (upper (a - 4) base) (instruction_at b (a - 4)))
    else None
leads_to b a k = None

-- whether the instruction at an address calls the function that begins at another
abbrev pub is_call : BoardState → (a start : ℕ) → Bool
is_call b a start = option_eq nat_eq (option_and_then (leads_to b a) (instruction_at b a)) (Some start)

-- how a level's function was entered from the one above it. It is a guess unless a call to it stands there, or if the
-- handler has written mepc
unfoldable pub reached_by : BoardState → FrameRow → (above : Level) → Option Entry → Reached
reached_by b r u (Some Handler) = reached.Trap r.wrote_mepc
reached_by b r u entry = reached.Call (not (is_call b u.address r.start))

abbrev pub frame_of : Reached → Level → Frame
frame_of how v = record { address = v.address; sp = v.sp; reached = how }

-- a level is further up than another on the same stack
abbrev pub is_further : (below above : Level) → Bool
is_further v u = if v.sp == u.sp then not (v.address == u.address) else nat_lt v.sp u.sp

abbrev pub is_own : Stack → Bool
is_own stacks.Own = true
is_own stack = false

-- the level above, with its frame, if it lies in the image and is further up
unfoldable pub frame_above : Listed → BoardState → FrameRow → (below above : Level) → Result (Level × Frame) Outermost
frame_above l b r v u =
    if nat_le ram_base u.address && nat_lt u.address (end_of l)
    then (if is_own r.stack && not (is_further v u) then Err (outermost.Below u.sp)
    else Ok (u, frame_of (reached_by b r u r.entry) u))
    else Err (outermost.Outside u.address)

unfoldable pub above : Listed → List FrameRow → BoardState → Level → Result (Level × Frame) Outermost
above l rows b v =
    given (λ r. given (frame_above l b r v) (level_by b r v r.entry)) (ok_or (row_at rows v.address) outermost.NoFunction)

-- ---- the frames

-- the frames above a level, at most n, and why there are no more
abbrev pub Rest : Type 0
Rest = List Frame × Outermost

abbrev pub ended : Result (Level × Frame) Outermost → Rest
ended (Ok u) = ([], outermost.More)
ended (Err why) = ([], why)

abbrev pub joined : (Level → Rest) → Result (Level × Frame) Outermost → Rest
joined rest (Ok u) = (u.1 ∷ (rest u.0).0, (rest u.0).1)
joined rest (Err why) = ([], why)

unfoldable pub frames_above : Listed → List FrameRow → BoardState → (n : ℕ) → Level → Rest
frames_above l rows b zero v = ended (above l rows b v)
frames_above l rows b (suc n) v = joined (frames_above l rows b n) (above l rows b v)

-- where the board stands, and all frames: at most 64
abbrev pub innermost : BoardState → Level
innermost b = record {
  address = b.machine.pc;
  sp = reg b.machine 2;
  ra = Some (reg b.machine 1);
  mepc = csr_of b 0x341;
}

unfoldable pub backtrace : Listed → List FrameRow → BoardState → Backtrace
backtrace l rows b =
    let above = frames_above l rows b 63 (innermost b) in
    record { frames = frame_of reached.Here (innermost b) ∷ above.0; outermost = above.1 }
