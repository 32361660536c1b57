-- To audit: public contracts cite this.
-- What the commands that only look answer, as values (this project's own: docs/LAB.md).
use Rattle.std.specs.Prelude.{ℕ, ◌+◌, ◌-◌, ◌*◌, ◌%◌, ◌^◌, ◌==◌, Bool, List, [], ◌∷◌, filter, if◌then◌else◌, length, map, min, nat_le, slice_get, slice_index, Option, Some, None, option_and_then, unwrap_or}
use Rattle.std.specs.FinSet as set
use Rattle.std.specs.Int.{is_in_range}
use Rattle.std.specs.List.{last_or, position_or_len, range_with_len}
use Rattle.std.specs.Option.{option_map, option_map_or}
use Rattle.rv_base.specs.Tables.{lookup}
use Rattle.rv_base.specs.Words.{words}
use Rattle.rv_isa.specs.Names.{csr_names, register_names}
use Rattle.rv_csr.specs.Traps.{next_interrupt}
use Rattle.rv_bus.specs.Access.{lines_of}
use Rattle.rv_plic.specs.Gateways.{edges_of}
use Rattle.rv_plic.specs.Plic.{is_notified}
use Rattle.rv_plic.specs.Sources.{sources}
use Rattle.rv_board.specs.BoardState.{BoardState, csr_of}
use Rattle.rv_board.specs.declared.event.TrapRecord.{TrapRecord}
use Rattle.rv_monitor.specs.Views.{byte_at_offset, word_at}
use Rattle.rv_operands.specs.Operands.{address, followed, only_of}
use Rattle.rv_asm.specs.Lines.{Listed}
use Rattle.rv_backtrace.specs.Backtrace.{backtrace}
use Rattle.rv_convention.specs.Convention.{checked}
use Rattle.rv_convention.specs.Profile.{profiled}
use Rattle.rv_recording.specs.Until.{watched_value}
use Rattle.rv_recording.specs.declared.until.Watched.{Watched}
use Rattle.rv_why.specs.Repeats.{comes_again}
use Rattle.rv_why.specs.Origins.{target_of}
use Rattle.rv_answers.specs.Memory.{extent}
use Rattle.rv_answers.specs.States.{bits_of, clock_of, port_of, regions, source_of}
use Rattle.rv_answers.specs.declared.answer.Answer.{Answer}
use Rattle.rv_answers.specs.declared.answer.Answer.TheVariants as answers
use Rattle.rv_answers.specs.declared.answer.Why.{Why}
use Rattle.rv_answers.specs.declared.answer.Why.TheVariants as why
use Rattle.rv_answers.specs.declared.extent.Format.{Format}
use Rattle.rv_answers.specs.declared.extent.Format.TheVariants as format
use Rattle.rv_answers.specs.declared.values.Cells.{Cells}
use Rattle.rv_answers.specs.declared.values.Cells.TheVariants as cells
use Rattle.rv_answers.specs.declared.moves.BreakCondition.{BreakCondition}
use Rattle.rv_answers.specs.declared.moves.Watch.{Watch}
use Rattle.rv_answers.specs.declared.values.ControlValue.{ControlValue}
use Rattle.rv_answers.specs.declared.values.Devices.{Devices}
use Rattle.rv_answers.specs.declared.values.Place.{Place}
use Rattle.rv_answers.specs.declared.values.RegisterFile.{RegisterFile}
use Rattle.rv_answers.specs.declared.values.Standing.{Standing}
use Rattle.rv_answers.specs.declared.values.Trap.{Trap}
use Rattle.rv_lab.specs.State.{LabState, board, listing, registers_of, timed}
use Rattle.rv_lab.specs.Lines.{line_at, line_count, row_of}
use Rattle.rv_lab.specs.Words.{count_of, usual_steps}
use Rattle.rv_runs.specs.declared.guard.Guard.{Guard}
use Rattle.rv_lab.specs.declared.source.Excerpt.{Excerpt}
use Rattle.rv_answers.specs.declared.command.Command.{Command}
use Rattle.rv_answers.specs.declared.command.Command.TheVariants as command

-- a command whose operands have no meaning
abbrev pub refused : Command → List ℕ → Why → Answer
refused c text why = answers.Refused (record { command = c; text = text; why = why })

-- ---- places

-- how far the last label at an address of the image or before it lies before it
unfoldable pub distance_at : Listed → ℕ → Option ℕ
distance_at l a = option_and_then (λ line. option_map (λ label. a - label.1)
    (last_or None (filter (λ label. nat_le label.1 a) l.labels))) (line_at l a)

unfoldable pub place_of : LabState → ℕ → Place
place_of l a = record {
  address = a;
  distance = distance_at (listing l) a;
  line = line_at (listing l) a;
  word = word_at (board l) a;
}

-- what is watched, with its value on a board
abbrev pub watch_on : BoardState → Watched → Watch
watch_on b w = record { target = target_of w; value = watched_value b w }

abbrev pub watches_of : LabState → List Watch
watches_of l = map (watch_on (board l)) l.watches

-- ---- `w`, `i` and `b` alone

abbrev pub standing : LabState → Standing
standing l = let m = (board l).machine in
    record { steps = (timed l).taken; mode = m.mode; halted = m.bus.halt; here = place_of l m.pc }

unfoldable pub instruction_answer : LabState → List (List ℕ) → Answer
instruction_answer l [] = answers.Instruction (place_of l (board l).machine.pc)
instruction_answer l (word ∷ more) = option_map_or (λ a. answers.Instruction (place_of l a))
    (address (listing l) (board l) word) (refused command.Instruction word why.NoAddress)

-- the condition of a breakpoint as it was given, if it has one
abbrev pub given_condition : Guard → Option (List ℕ)
given_condition g = option_map (λ c. g.text) g.condition

-- what a breakpoint stops a run on
abbrev pub condition_of : Guard → BreakCondition
condition_of g = record { address = g.address; text = given_condition g; passes = g.passes }

unfoldable pub breakpoints : LabState → List Place
breakpoints l =
    map (place_of l) (filter (set.contains l.recording.session.breakpoints.addresses) (range_with_len 0 (2 ^ 32)))

abbrev pub breakpoints_answer : LabState → Answer
breakpoints_answer l =
    answers.Breakpoints (record { places = breakpoints l; conditions = map condition_of l.guards; watches = watches_of l })

-- ---- `r` and `p`

abbrev pub register_file : LabState → RegisterFile
register_file l = let m = (board l).machine in
    record { before = l.registers; now = registers_of (board l); mode = m.mode; here = place_of l m.pc }

-- a control register as machine mode reads it, and what its bits say
unfoldable pub control_value : BoardState → List ℕ → ℕ → ControlValue
control_value b name csr = record {
  name = name;
  csr = csr;
  value = csr_of b csr;
  bits = option_and_then (bits_of (length b.traps) csr) (csr_of b csr);
}

-- ---- `m`

-- n bytes or words from an address on, or as a text the bytes, of n, before a zero or the end of memory
unfoldable pub cells_of : BoardState → (a n : ℕ) → Format → Cells
cells_of b a n format.Bytes = cells.Bytes (map (byte_at_offset b a) (range_with_len 0 n))
cells_of b a n format.Words = cells.Words (map (λ i. word_at b ((a + 4 * i) % 2 ^ 32)) (range_with_len 0 n))
cells_of b a n format.Text =
    let char : ℕ → ℕ = λ i. unwrap_or (byte_at_offset b a i) 0 in
    cells.Text (map char (range_with_len 0 (position_or_len (λ i. char i == 0) (range_with_len 0 n))))

unfoldable pub memory_answer : LabState → List (List ℕ) → Answer
memory_answer l [] = refused command.Memory [] why.Missing
memory_answer l (word ∷ more) = option_map_or (λ a. option_map_or
    (λ e. answers.Memory (record { address = a; cells = cells_of (board l) a e.count e.format }))
    (extent more) (refused command.Memory [] why.NoExtent))
    (address (listing l) (board l) word) (refused command.Memory word why.NoAddress)

-- ---- `l`

-- the rows of an excerpt, of those lines that the source has: where it begins behind the last, whether it follows those
-- lines that were listed last
unfoldable pub rows_answer : Excerpt → (follows : Bool) → LabState → Answer
rows_answer e follows l = let last = line_count (listing l) in if nat_le last e.after
    then (if follows then answers.WasLast else answers.BehindLast last)
    else answers.List (map (row_of l) (range_with_len (e.after + 1) (min e.count (last - e.after))))

-- ---- `t` and `e`

-- a trap that was taken some times in a row
abbrev pub trap_of : LabState → TrapRecord → (times : ℕ) → Trap
trap_of l t times = record { cause = t.cause; value = t.tval; place = place_of l t.epc; times = times }

-- traps, after some that are the same as the first: one for as many as are the same
unfoldable pub trap_runs : LabState → ℕ → List TrapRecord → List Trap
trap_runs l times [] = []
trap_runs l times (t ∷ ts) =
    if comes_again t (slice_get ts 0) then trap_runs l (times + 1) ts
    else trap_of l t (times + 1) ∷ trap_runs l 0 ts

-- a source that is triggered by edges
unfoldable pub edge_source : List (List ℕ) → Option ℕ
edge_source operands =
    option_and_then (λ s. if is_in_range 24 31 s then Some s else None) (count_of 0 31 operands)

-- ---- `dev`

-- with the mode, mstatus, mie and mip, and the cause of the interrupt that is taken next
unfoldable pub devices_of : BoardState → Devices
devices_of b = let m = b.machine in let csr : ℕ → ℕ = λ n. unwrap_or (csr_of b n) 0 in
    let next = next_interrupt m.csrs m.mode (lines_of m.bus) in record {
      clock = clock_of m.bus.timer;
      port = port_of m.bus.serial;
      interrupts = record { mode = m.mode; mstatus = csr 0x300; mie = csr 0x304; mip = csr 0x344; next = next };
      threshold = m.bus.plic.threshold;
      is_notified = is_notified m.bus.plic;
      sources = map (source_of m.bus.plic) sources;
      regions = regions m.csrs.pmp;
    }

-- ---- `check` and `profile`

-- what is answered of as many steps of a copy as some operands ask for
abbrev pub copy_answer : Command → List ℕ → (ℕ → Answer) → Answer
copy_answer c text answer =
    option_map_or answer (count_of usual_steps 20000000 (words text)) (refused c text why.NoSteps)

-- ---- the answer

-- what a command answers that only looks
unfoldable pub look_answer : Command → List ℕ → LabState → Answer
look_answer command.Where text l = answers.Where (standing l)
look_answer command.Backtrace text l = answers.Backtrace (backtrace (listing l) l.frames (board l))
look_answer command.Registers text l = if length (words text) == 0 then answers.Registers (register_file l)
    else option_map_or (λ r. answers.Register (record { register = r; value = slice_index (board l).machine.registers r }))
    (option_and_then (λ name. lookup name register_names) (only_of (words text)))
    (refused command.Registers text why.NoRegister)
look_answer command.ControlRegister text l = let name = unwrap_or (only_of (words text)) [] in
    option_map_or (λ csr. answers.ControlRegister (control_value (board l) name csr)) (lookup name csr_names)
    (refused command.ControlRegister name why.NoControlRegister)
look_answer command.Memory text l = memory_answer l (words text)
look_answer command.Instruction text l = instruction_answer l (words text)
look_answer command.Traps text l = answers.Traps (trap_runs l 0 (board l).traps)
look_answer command.Edges text l = option_map_or
    (λ s. answers.Edges (record { source = s; pending = edges_of (board l).machine.bus.plic.edges s }))
    (edge_source (words text)) (refused command.Edges [] why.NoEdgeSource)
look_answer command.Devices text l = answers.Devices (devices_of (board l))
look_answer command.Check text l = copy_answer command.Check text (λ n. answers.Checked (checked l.recording n))
look_answer command.Profile text l =
    copy_answer command.Profile text (λ n. answers.Profiled (profiled (listing l) l.recording n))
look_answer command.Display text l = option_map_or (λ word. option_map_or
    (λ w. answers.Display (watch_on (board l) w)) (followed (listing l) (board l) word)
    (refused command.Display word why.NoAddress)) (only_of (words text)) (refused command.Display [] why.NotOne)
look_answer _ text l = answers.Nothing
