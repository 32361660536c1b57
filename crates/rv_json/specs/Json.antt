-- To audit: public contracts cite this.
-- The JSON of an answer (this project's own: docs/JSON.md), by the labels of the source with their addresses.
use Rattle.std.specs.Prelude.{◌≡◌, ℕ, ℤ, ◌-◌, ◌==◌, Bool, List, [], ◌∷◌, codes, encode_utf8_all, filter, map, nat_le, Option, Some, None, option_and_then, option_map}
use Rattle.std.specs.List.{count_by, last_or}
use Prim.Native.String.{String}
use Rattle.serde_json.specs.Data.{Data, Members, null, boolean, number, negative, unsigned, string, array, object, no_members, member}
use Rattle.serde_json.specs.View.{items_of}
use Rattle.serde_json.specs.Written.{compact_text}
use Rattle.rv_pmp.specs.declared.mode.Mode.{Mode}
use Rattle.rv_pmp.specs.declared.mode.Mode.TheVariants.{User, Machine}
use Rattle.rv_asm.specs.AllFaults.{faults_of}
use Rattle.rv_base.specs.Lines.{lines}
use Rattle.rv_program.specs.Faults.{title_of}
use Rattle.rv_program.specs.declared.fault.AsmFault.{AsmFault}
use Rattle.rv_program.specs.declared.fault.FaultKind.{FaultKind}
use Rattle.rv_answers.specs.declared.answer.Answer.{Answer}
use Rattle.rv_answers.specs.declared.answer.Answer.TheVariants as answers
use Rattle.rv_answers.specs.declared.answer.Refusal.{Refusal}
use Rattle.rv_answers.specs.declared.answer.Why.{Why}
use Rattle.rv_answers.specs.declared.answer.Why.TheVariants as why
use Rattle.rv_answers.specs.Commands.{help_word}
use Rattle.rv_answers.specs.declared.command.Command.{Command}
use Rattle.rv_answers.specs.declared.convention.Breach.{Breach}
use Rattle.rv_answers.specs.declared.convention.Checked.{Checked}
use Rattle.rv_answers.specs.Frames.{is_guess}
use Rattle.rv_answers.specs.declared.frames.Backtrace.{Backtrace}
use Rattle.rv_answers.specs.declared.frames.Frame.{Frame}
use Rattle.rv_answers.specs.declared.frames.Outermost.{Outermost}
use Rattle.rv_answers.specs.declared.frames.Outermost.TheVariants as outermost
use Rattle.rv_answers.specs.declared.frames.Reached.{Reached}
use Rattle.rv_answers.specs.declared.frames.Reached.TheVariants as reached
use Rattle.rv_answers.specs.declared.profile.Profiled.{Profiled}
use Rattle.rv_answers.specs.declared.profile.Spent.{Spent}
use Rattle.rv_answers.specs.declared.convention.Deviation.{Deviation}
use Rattle.rv_answers.specs.declared.convention.Deviation.TheVariants as deviations
use Rattle.rv_answers.specs.declared.convention.Entry.{Entry}
use Rattle.rv_answers.specs.declared.convention.Entry.TheVariants as entries
use Rattle.rv_answers.specs.declared.convention.Return.{Return}
use Rattle.rv_answers.specs.declared.convention.Unrestored.{Unrestored}
use Rattle.rv_answers.specs.declared.explained.Area.{Area}
use Rattle.rv_answers.specs.declared.explained.Area.TheVariants as areas
use Rattle.rv_answers.specs.declared.explained.Barrier.{Barrier}
use Rattle.rv_answers.specs.declared.explained.Barrier.TheVariants as barriers
use Rattle.rv_answers.specs.declared.explained.Before.{Before}
use Rattle.rv_answers.specs.declared.explained.Explained.{Explained}
use Rattle.rv_answers.specs.declared.explained.Explanation.{Explanation}
use Rattle.rv_answers.specs.declared.explained.Repeated.{Repeated}
use Rattle.rv_answers.specs.declared.explained.Handler.{Handler}
use Rattle.rv_answers.specs.declared.explained.Reason.{Reason}
use Rattle.rv_answers.specs.declared.explained.Reason.TheVariants as reasons
use Rattle.rv_answers.specs.declared.explained.Sum.{Sum}
use Rattle.rv_answers.specs.declared.explained.Unfetched.{Unfetched}
use Rattle.rv_answers.specs.declared.explained.Unfetched.TheVariants as unfetched
use Rattle.rv_answers.specs.declared.moves.Aim.{Aim}
use Rattle.rv_answers.specs.declared.moves.Aim.TheVariants as aims
use Rattle.rv_answers.specs.declared.moves.BreakCondition.{BreakCondition}
use Rattle.rv_answers.specs.declared.moves.Breakpoint.{Breakpoint}
use Rattle.rv_answers.specs.declared.moves.Breakpoints.{Breakpoints}
use Rattle.rv_answers.specs.declared.moves.Change.{Change}
use Rattle.rv_answers.specs.declared.moves.Cleared.{Cleared}
use Rattle.rv_answers.specs.declared.moves.Ending.{Ending}
use Rattle.rv_answers.specs.declared.moves.Ending.TheVariants as endings
use Rattle.rv_answers.specs.declared.moves.Given.{Given}
use Rattle.rv_answers.specs.declared.moves.Run.{Run}
use Rattle.rv_answers.specs.declared.moves.Saved.{Saved}
use Rattle.rv_answers.specs.declared.moves.Step.{Step}
use Rattle.rv_answers.specs.declared.moves.Stepped.{Stepped}
use Rattle.rv_answers.specs.declared.moves.Target.{Target}
use Rattle.rv_answers.specs.declared.moves.Target.TheVariants as targets
use Rattle.rv_answers.specs.declared.moves.Trace.{Trace}
use Rattle.rv_answers.specs.declared.moves.Watch.{Watch}
use Rattle.rv_answers.specs.declared.explained.Origin.{Origin}
use Rattle.rv_answers.specs.declared.explained.Write.{Write}
use Rattle.rv_answers.specs.declared.values.Row.{Row}
use Rattle.rv_answers.specs.declared.values.Bits.{Bits}
use Rattle.rv_answers.specs.declared.values.Bits.TheVariants as bits
use Rattle.rv_answers.specs.declared.values.Cells.{Cells}
use Rattle.rv_answers.specs.declared.values.Cells.TheVariants as cells
use Rattle.rv_answers.specs.declared.values.Clock.{Clock}
use Rattle.rv_answers.specs.declared.values.ControlValue.{ControlValue}
use Rattle.rv_answers.specs.declared.values.Devices.{Devices}
use Rattle.rv_answers.specs.declared.values.Dump.{Dump}
use Rattle.rv_answers.specs.declared.values.Edges.{Edges}
use Rattle.rv_answers.specs.declared.values.Interrupts.{Interrupts}
use Rattle.rv_answers.specs.declared.values.Place.{Place}
use Rattle.rv_answers.specs.declared.values.Port.{Port}
use Rattle.rv_answers.specs.declared.values.Range.{Range}
use Rattle.rv_answers.specs.declared.values.Region.{Region}
use Rattle.rv_answers.specs.declared.values.RegisterFile.{RegisterFile}
use Rattle.rv_answers.specs.declared.values.RegisterValue.{RegisterValue}
use Rattle.rv_answers.specs.declared.values.Rights.{Rights}
use Rattle.rv_answers.specs.declared.values.SourceState.{SourceState}
use Rattle.rv_answers.specs.declared.values.Standing.{Standing}
use Rattle.rv_answers.specs.declared.values.Trap.{Trap}
use Rattle.rv_diagnosis.specs.Diagnosed.{fault_of}
use Rattle.rv_json.specs.declared.faults.Fault.{Fault}

-- ---- parts

abbrev pub natural : ℕ → Data
natural n = number (unsigned n)

-- a string whose characters are bytes
unfoldable pub text_data : List ℕ → Data
text_data bytes = string (encode_utf8_all bytes)

unfoldable pub option_data : {A : Type 0} → (A → Data) → Option A → Data
option_data f None = null
option_data f (Some x) = f x

unfoldable pub list_data : {A : Type 0} → (A → Data) → List A → Data
list_data f xs = array (items_of (map f xs))

-- members of an object, in their order
abbrev pub members : List (String × Data) → Members
members [] = no_members
members (m ∷ ms) = member (codes m.0) m.1 (members ms)

-- an object of some kind
abbrev pub kind : String → List (String × Data) → Data
kind name ms = object (members (("kind", string (codes name)) ∷ ms))

unfoldable pub mode_data : Mode → Data
mode_data User = string (codes "user")
mode_data Machine = string (codes "machine")

-- the last label at an address or before it, if the address lies in the image
unfoldable pub label_of : List (List ℕ × ℕ) → Place → Option (List ℕ)
label_of ls p = option_and_then
    (λ d. option_map (λ l. l.0) (last_or None (filter (λ l. nat_le l.1 p.address) ls))) p.distance

unfoldable pub place_data : List (List ℕ × ℕ) → Place → Data
place_data ls p = object (members (("address", natural p.address) ∷ ("label", option_data text_data (label_of ls p))
    ∷ ("distance", option_data natural p.distance) ∷ ("line", option_data natural p.line)
    ∷ ("word", option_data natural p.word) ∷ []))

-- ---- `w`, `r`, `p`, `m`, `l`, `t` and `e`

unfoldable pub standing_data : List (List ℕ × ℕ) → Standing → Data
standing_data ls s = kind "where" (("steps", natural s.steps) ∷ ("mode", mode_data s.mode)
    ∷ ("halted", option_data natural s.halted) ∷ ("here", place_data ls s.here) ∷ [])

unfoldable pub file_data : List (List ℕ × ℕ) → RegisterFile → Data
file_data ls f = kind "registers" (("before", list_data natural f.before) ∷ ("now", list_data natural f.now)
    ∷ ("mode", mode_data f.mode) ∷ ("here", place_data ls f.here) ∷ [])

unfoldable pub register_data : RegisterValue → Data
register_data r = kind "register" (("register", natural r.register) ∷ ("value", natural r.value) ∷ [])

unfoldable pub bits_data : Bits → Data
bits_data (bits.Status mie mpie mpp mprv tw) = kind "status" (("mie", boolean mie) ∷ ("mpie", boolean mpie)
    ∷ ("mpp", boolean mpp) ∷ ("mprv", boolean mprv) ∷ ("tw", boolean tw) ∷ [])
bits_data (bits.Lines software timer external) = kind "lines" (("software", boolean software)
    ∷ ("timer", boolean timer) ∷ ("external", boolean external) ∷ [])
bits_data (bits.Cause cause) = kind "cause" (("cause", natural cause) ∷ [])

unfoldable pub control_data : ControlValue → Data
control_data c = kind "csr" (("name", text_data c.name) ∷ ("csr", natural c.csr)
    ∷ ("value", option_data natural c.value) ∷ ("bits", option_data bits_data c.bits) ∷ [])

-- what memory holds, by the way to show it
unfoldable pub cells_data : Cells → Data
cells_data (cells.Bytes bytes) = list_data (option_data natural) bytes
cells_data (cells.Words words) = list_data (option_data natural) words
cells_data (cells.Text bytes) = text_data bytes

unfoldable pub format_data : Cells → Data
format_data (cells.Bytes bytes) = string (codes "bytes")
format_data (cells.Words words) = string (codes "words")
format_data (cells.Text bytes) = string (codes "text")

unfoldable pub dump_data : Dump → Data
dump_data d = kind "memory" (("address", natural d.address) ∷ ("format", format_data d.cells)
    ∷ ("cells", cells_data d.cells) ∷ [])

unfoldable pub row_data : Row → Data
row_data r = object (members (("number", natural r.number) ∷ ("is_here", boolean r.is_here)
    ∷ ("is_marked", boolean r.is_marked) ∷ ("address", option_data natural r.address)
    ∷ ("word", option_data natural r.word) ∷ ("has_more", boolean r.has_more) ∷ []))

unfoldable pub trap_data : List (List ℕ × ℕ) → Trap → Data
trap_data ls t = object (members (("cause", natural t.cause) ∷ ("value", natural t.value)
    ∷ ("place", place_data ls t.place) ∷ ("times", natural t.times) ∷ []))

unfoldable pub edges_data : Edges → Data
edges_data e = kind "edges" (("source", natural e.source) ∷ ("pending", natural e.pending) ∷ [])

-- ---- `dev`

unfoldable pub clock_data : Clock → Data
clock_data c = object (members (("time", natural c.time) ∷ ("compare", natural c.compare)
    ∷ ("is_due", boolean c.is_due) ∷ ("software", boolean c.software) ∷ []))

unfoldable pub port_data : Port → Data
port_data p = object (members (("waiting", natural p.waiting) ∷ ("sent", natural p.sent)
    ∷ ("overrun", boolean p.overrun) ∷ []))

unfoldable pub interrupts_data : Interrupts → Data
interrupts_data i = object (members (("mode", mode_data i.mode) ∷ ("mstatus", natural i.mstatus)
    ∷ ("mie", natural i.mie) ∷ ("mip", natural i.mip) ∷ ("next", option_data natural i.next) ∷ []))

unfoldable pub source_data : SourceState → Data
source_data s = object (members (("source", natural s.source) ∷ ("is_high", boolean s.is_high)
    ∷ ("is_pending", boolean s.is_pending) ∷ ("is_claimed", boolean s.is_claimed)
    ∷ ("is_enabled", boolean s.is_enabled) ∷ ("priority", natural s.priority) ∷ ("edges", natural s.edges) ∷ []))

unfoldable pub rights_data : Rights → Data
rights_data r = object (members (("read", boolean r.read) ∷ ("write", boolean r.write)
    ∷ ("execute", boolean r.execute) ∷ []))

unfoldable pub range_data : Range → Data
range_data r = object (members (("first", natural r.first) ∷ ("last", natural r.last) ∷ []))

unfoldable pub region_data : Region → Data
region_data r = object (members (("entry", natural r.entry) ∷ ("range", option_data range_data r.range)
    ∷ ("user", rights_data r.user) ∷ ("machine", rights_data r.machine) ∷ ("is_locked", boolean r.is_locked) ∷ []))

unfoldable pub devices_data : Devices → Data
devices_data d = kind "devices" (("clock", clock_data d.clock) ∷ ("port", port_data d.port)
    ∷ ("interrupts", interrupts_data d.interrupts) ∷ ("threshold", natural d.threshold)
    ∷ ("is_notified", boolean d.is_notified) ∷ ("sources", list_data source_data d.sources)
    ∷ ("regions", list_data region_data d.regions) ∷ [])

-- ---- runs: `s`, `next`, `c`, `finish`, `until` and `trace`

unfoldable pub ending_data : Ending → Data
ending_data endings.Halted = string (codes "halted")
ending_data endings.Reached = string (codes "reached")
ending_data endings.Breakpoint = string (codes "breakpoint")
ending_data endings.Limit = string (codes "limit")
ending_data endings.Stuck = string (codes "stuck")

unfoldable pub aim_data : Aim → Data
aim_data aims.Steps = string (codes "steps")
aim_data aims.Breakpoint = string (codes "breakpoint")
aim_data aims.Return = string (codes "return")
aim_data aims.Mark = string (codes "mark")
aim_data (aims.Trap t) = string (codes "trap")
aim_data aims.Console = string (codes "console")
aim_data aims.Arrival = string (codes "arrival")
aim_data (aims.Watch w) = string (codes "watch")

-- the trap that was met, and what was watched
unfoldable pub met : Aim → Option Trap
met (aims.Trap t) = t
met _ = None

unfoldable pub watched : Aim → Option Watch
watched (aims.Watch w) = Some w
watched _ = None

unfoldable pub target_data : Target → Data
target_data (targets.Register r) = object (members (("register", natural r) ∷ []))
target_data (targets.Word a) = object (members (("address", natural a) ∷ []))

unfoldable pub watch_data : Watch → Data
watch_data w = object (members (("target", target_data w.target) ∷ ("value", option_data natural w.value) ∷ []))

unfoldable pub change_data : Change → Data
change_data c = object (members (("target", target_data c.target) ∷ ("before", option_data natural c.before)
    ∷ ("value", option_data natural c.value) ∷ []))

unfoldable pub run_data : List (List ℕ × ℕ) → Run → Data
run_data ls r = kind "ended" (("ending", ending_data r.ending) ∷ ("aim", aim_data r.aim)
    ∷ ("trap", option_data (trap_data ls) (met r.aim)) ∷ ("watch", option_data watch_data (watched r.aim))
    ∷ ("steps", natural r.steps) ∷ ("changed", list_data register_data r.changed)
    ∷ ("watched", list_data change_data r.watched) ∷ ("standing", standing_data ls r.standing) ∷ [])

unfoldable pub step_data : List (List ℕ × ℕ) → Step → Data
step_data ls s = object (members (("number", natural s.number) ∷ ("place", place_data ls s.place)
    ∷ ("trap", option_data (trap_data ls) s.trap) ∷ ("changed", list_data register_data s.changed) ∷ []))

unfoldable pub stepped_data : List (List ℕ × ℕ) → Stepped → Data
stepped_data ls s = kind "stepped" (("step", step_data ls s.step) ∷ ("standing", standing_data ls s.standing) ∷ [])

unfoldable pub trace_data : List (List ℕ × ℕ) → Trace → Data
trace_data ls t = kind "traced" (("steps", list_data (step_data ls) t.steps) ∷ ("ending", ending_data t.ending)
    ∷ ("standing", standing_data ls t.standing) ∷ [])

-- ---- `b`, `d`, `rx`, `line` and `save`

unfoldable pub breakpoint_data : List (List ℕ × ℕ) → Breakpoint → Data
breakpoint_data ls b = kind "break" (("place", place_data ls b.place)
    ∷ ("condition", option_data text_data b.condition) ∷ ("passes", natural b.passes) ∷ [])

unfoldable pub break_condition_data : BreakCondition → Data
break_condition_data c = object (members (("address", natural c.address)
    ∷ ("text", option_data text_data c.text) ∷ ("passes", natural c.passes) ∷ []))

unfoldable pub breakpoints_data : List (List ℕ × ℕ) → Breakpoints → Data
breakpoints_data ls b = kind "breakpoints" (("places", list_data (place_data ls) b.places)
    ∷ ("conditions", list_data break_condition_data b.conditions)
    ∷ ("watches", list_data watch_data b.watches) ∷ [])

unfoldable pub cleared_data : List (List ℕ × ℕ) → Cleared → Data
cleared_data ls c = kind "cleared" (("place", place_data ls c.place) ∷ ("was_there", boolean c.was_there) ∷ [])

unfoldable pub given_data : Given → Data
given_data g = kind "given" (("inputs", natural g.inputs) ∷ ("steps", natural g.steps)
    ∷ ("is_halted", boolean g.is_halted) ∷ [])

unfoldable pub saved_data : Saved → Data
saved_data s = kind "saved" (("name", option_data text_data s.name) ∷ ("list", text_data s.list)
    ∷ ("inputs", natural s.inputs) ∷ ("commands", text_data s.commands) ∷ ("steps", natural s.steps)
    ∷ ("limit", natural s.limit) ∷ ("pages", natural s.pages) ∷ [])

-- ---- `why`

unfoldable pub integer : ℤ → Data
integer z = number (negative z)

unfoldable pub area_data : Area → Data
area_data areas.Nothing = string (codes "nothing")
area_data areas.Halt = string (codes "halt")
area_data areas.Timer = string (codes "timer")
area_data areas.Controller = string (codes "controller")
area_data areas.Serial = string (codes "serial")
area_data areas.PastEnd = string (codes "past_end")

unfoldable pub barrier_data : Barrier → Data
barrier_data (barriers.Protection mode entry) =
    kind "protection" (("mode", mode_data mode) ∷ ("entry", option_data region_data entry) ∷ [])
barrier_data (barriers.Absent area) = kind "absent" (("area", area_data area) ∷ [])

unfoldable pub unfetched_data : Unfetched → Data
unfetched_data (unfetched.Refused barrier) = kind "refused" (("barrier", barrier_data barrier) ∷ [])
unfetched_data (unfetched.NoInstruction word) = kind "no_instruction" (("word", natural word) ∷ [])

unfoldable pub sum_data : Sum → Data
sum_data s = object (members (("base", natural s.base) ∷ ("value", natural s.value) ∷ ("offset", integer s.offset) ∷ []))

unfoldable pub reason_data : Reason → Data
reason_data (reasons.Interrupt line) = kind "interrupt" (("line", natural line) ∷ [])
reason_data (reasons.NotFetched why) = kind "not_fetched" (("why", unfetched_data why) ∷ [])
reason_data reasons.Call = kind "call" []
reason_data reasons.Break = kind "break" []
reason_data (reasons.Target sum) = kind "target" (("sum", option_data sum_data sum) ∷ [])
reason_data (reasons.Misaligned size sum) = kind "misaligned" (("size", natural size) ∷ ("sum", sum_data sum) ∷ [])
reason_data (reasons.Refused sum barrier) =
    kind "refused" (("sum", sum_data sum) ∷ ("barrier", barrier_data barrier) ∷ [])
reason_data (reasons.NoRegister csr) = kind "no_register" (("csr", natural csr) ∷ [])
reason_data (reasons.ReadOnly csr) = kind "read_only" (("csr", natural csr) ∷ [])
reason_data reasons.MachineOnly = kind "machine_only" []

unfoldable pub before_data : Before → Data
before_data b = object (members (("address", natural b.address) ∷ ("word", option_data natural b.word)
    ∷ ("sum", option_data sum_data b.sum) ∷ []))

unfoldable pub handler_data : Handler → Data
handler_data h = object (members (("address", natural h.address) ∷ ("mtvec", natural h.mtvec)
    ∷ ("missing", option_data unfetched_data h.missing) ∷ []))

unfoldable pub write_data : Write → Data
write_data w = object (members (("step", natural w.step) ∷ ("address", natural w.address)
    ∷ ("word", option_data natural w.word) ∷ ("before", option_data natural w.before)
    ∷ ("first", option_data register_data w.first) ∷ ("second", option_data register_data w.second)
    ∷ ("accessed", option_data natural w.accessed) ∷ []))

unfoldable pub explained_data : Explained → Data
explained_data e = object (members (("step", natural e.step) ∷ ("cause", natural e.cause) ∷ ("value", natural e.value)
    ∷ ("address", natural e.address) ∷ ("mode", mode_data e.mode) ∷ ("word", option_data natural e.word)
    ∷ ("overwritten", option_data natural e.overwritten) ∷ ("writer", option_data write_data e.writer)
    ∷ ("reason", reason_data e.reason) ∷ ("before", option_data before_data e.before) ∷ ("handler", handler_data e.handler) ∷ []))

-- the last trap, with how often it came in a row
unfoldable pub repeated_data : Repeated → Data
repeated_data r = object (members (("cause", natural r.cause) ∷ ("value", natural r.value)
    ∷ ("address", natural r.address) ∷ ("times", natural r.times) ∷ []))

unfoldable pub explanation_data : Explanation → Data
explanation_data e = kind "why" (("trap", option_data explained_data e.trap) ∷ ("unseen", natural e.unseen)
    ∷ ("repeated", option_data repeated_data e.repeated) ∷ [])

unfoldable pub origin_data : Origin → Data
origin_data o = kind "origin" (("target", target_data o.target) ∷ ("steps", natural o.steps)
    ∷ ("value", option_data natural o.value) ∷ ("write", option_data write_data o.write) ∷ [])

-- ---- `check`

unfoldable pub entry_data : Entry → Data
entry_data entries.Call = string (codes "call")
entry_data entries.Interrupt = string (codes "interrupt")
entry_data entries.Exception = string (codes "exception")

unfoldable pub unrestored_data : Unrestored → Data
unrestored_data u = object (members (("register", natural u.register) ∷ ("entry", natural u.entry)
    ∷ ("now", natural u.now) ∷ []))

unfoldable pub return_data : Return → Data
return_data r = kind "return" (("entry", entry_data r.entry) ∷ ("from", natural r.from) ∷ ("wanted", natural r.wanted)
    ∷ ("target", natural r.target) ∷ ("registers", list_data unrestored_data r.registers) ∷ [])

unfoldable pub deviation_data : Deviation → Data
deviation_data (deviations.Below address) = kind "below" (("address", natural address) ∷ [])
deviation_data (deviations.Return back) = return_data back

unfoldable pub breach_data : Breach → Data
breach_data b = object (members (("step", natural b.step) ∷ ("address", natural b.address)
    ∷ ("deviation", deviation_data b.deviation) ∷ []))

unfoldable pub checked_data : Checked → Data
checked_data c = kind "checked" (("steps", natural c.steps) ∷ ("has_halted", boolean c.has_halted)
    ∷ ("breaches", list_data breach_data c.breaches) ∷ [])

-- ---- `bt`

unfoldable pub reached_data : Reached → Data
reached_data reached.Here = string (codes "here")
reached_data (reached.Call is_guess) = string (codes "call")
reached_data (reached.Trap is_guess) = string (codes "trap")

unfoldable pub frame_data : Frame → Data
frame_data f = object (members (("address", natural f.address) ∷ ("sp", natural f.sp)
    ∷ ("reached", reached_data f.reached) ∷ ("is_guess", boolean (is_guess f.reached)) ∷ []))

unfoldable pub outermost_data : Outermost → Data
outermost_data outermost.Start = kind "start" []
outermost_data outermost.Resumed = kind "resumed" []
outermost_data outermost.NoFunction = kind "no_function" []
outermost_data outermost.NoRa = kind "no_ra" []
outermost_data outermost.NoSp = kind "no_sp" []
outermost_data outermost.NoMepc = kind "no_mepc" []
outermost_data (outermost.Outside address) = kind "outside" (("address", natural address) ∷ [])
outermost_data (outermost.Below sp) = kind "below" (("sp", natural sp) ∷ [])
outermost_data outermost.More = kind "more" []

unfoldable pub backtrace_data : Backtrace → Data
backtrace_data b =
    kind "backtrace" (("frames", list_data frame_data b.frames) ∷ ("outermost", outermost_data b.outermost) ∷ [])

-- ---- `profile`

unfoldable pub spent_data : Spent → Data
spent_data s = object (members (("line", natural s.line) ∷ ("address", natural s.address)
    ∷ ("steps", natural s.steps) ∷ []))

unfoldable pub profiled_data : Profiled → Data
profiled_data p = kind "profiled" (("steps", natural p.steps) ∷ ("has_halted", boolean p.has_halted)
    ∷ ("lines", list_data spent_data p.lines) ∷ ("functions", list_data spent_data p.functions) ∷ [])

-- ---- refusals

unfoldable pub command_data : Command → Data
command_data c = string (help_word c)

unfoldable pub why_data : Why → Data
why_data why.NoAddress = string (codes "no_address")
why_data why.Missing = string (codes "missing")
why_data why.NoExtent = string (codes "no_extent")
why_data (why.NoLine a) = string (codes "no_line")
why_data why.NoCount = string (codes "no_count")
why_data why.NoRegister = string (codes "no_register")
why_data why.NoControlRegister = string (codes "no_control_register")
why_data why.NoEdgeSource = string (codes "no_edge_source")
why_data why.NoSteps = string (codes "no_steps")
why_data why.NoCondition = string (codes "no_condition")
why_data why.NoHits = string (codes "no_hits")
why_data why.NoMarks = string (codes "no_marks")
why_data why.NeverMet = string (codes "never_met")
why_data why.NotOne = string (codes "not_one")
why_data why.NoBytesThere = string (codes "no_bytes_there")
why_data why.NoBytes = string (codes "no_bytes")
why_data why.NoLevel = string (codes "no_level")
why_data why.NoCommand = string (codes "no_command")
why_data why.NotWritten = string (codes "not_written")
why_data why.TooMany = string (codes "too_many")

-- the address at which no line is
unfoldable pub lineless : Why → Option ℕ
lineless (why.NoLine a) = Some a
lineless _ = None

unfoldable pub refusal_data : Refusal → Data
refusal_data r = kind "refused" (("command", command_data r.command) ∷ ("text", text_data r.text)
    ∷ ("why", why_data r.why) ∷ ("address", option_data natural (lineless r.why)) ∷ [])

-- ---- answers

unfoldable pub answer_data : List (List ℕ × ℕ) → Answer → Data
answer_data ls answers.Nothing = kind "nothing" []
answer_data ls (answers.Monitor bytes) = kind "monitor" (("text", text_data bytes) ∷ [])
answer_data ls (answers.Where standing) = standing_data ls standing
answer_data ls (answers.Registers file) = file_data ls file
answer_data ls (answers.Register one) = register_data one
answer_data ls (answers.ControlRegister value) = control_data value
answer_data ls (answers.Memory dump) = dump_data dump
answer_data ls (answers.Instruction place) = kind "instruction" (("place", place_data ls place) ∷ [])
answer_data ls (answers.List rows) = kind "list" (("rows", list_data row_data rows) ∷ [])
answer_data ls (answers.BehindLast count) = kind "behind_last" (("lines", natural count) ∷ [])
answer_data ls answers.WasLast = kind "was_last" []
answer_data ls (answers.Breakpoints breaks) = breakpoints_data ls breaks
answer_data ls (answers.Traps traps) = kind "traps" (("traps", list_data (trap_data ls) traps) ∷ [])
answer_data ls (answers.Edges edges) = edges_data edges
answer_data ls (answers.Devices devices) = devices_data devices
answer_data ls (answers.Running steps) = kind "running" (("steps", natural steps) ∷ [])
answer_data ls (answers.Ended run) = run_data ls run
answer_data ls (answers.Stepped stepped) = stepped_data ls stepped
answer_data ls (answers.Stuck standing) = kind "stuck" (("standing", standing_data ls standing) ∷ [])
answer_data ls (answers.Traced trace) = trace_data ls trace
answer_data ls (answers.Back standing) = kind "back" (("standing", standing_data ls standing) ∷ [])
answer_data ls (answers.Break set) = breakpoint_data ls set
answer_data ls (answers.Cleared cleared) = cleared_data ls cleared
answer_data ls (answers.Given given) = given_data given
answer_data ls (answers.Saved saved) = saved_data saved
answer_data ls (answers.Explained explanation) = explanation_data explanation
answer_data ls (answers.Origin origin) = origin_data origin
answer_data ls (answers.Backtrace backtrace) = backtrace_data backtrace
answer_data ls (answers.Checked checked) = checked_data checked
answer_data ls (answers.Profiled profile) = profiled_data profile
answer_data ls (answers.Display watch) = kind "display" (("watch", watch_data watch) ∷ [])
answer_data ls (answers.Watch watch) = kind "watch" (("watch", watch_data watch) ∷ [])
answer_data ls (answers.Watches watches) = kind "watches" (("watches", list_data watch_data watches) ∷ [])
answer_data ls (answers.Unwatched count) = kind "unwatched" (("ended", natural count) ∷ [])
answer_data ls (answers.Help command) = kind "help" (("command", option_data command_data command) ∷ [])
answer_data ls (answers.NoCommand word) = kind "no_command" (("word", text_data word) ∷ [])
answer_data ls answers.TooLong = kind "too_long" []
answer_data ls (answers.Refused refusal) = refusal_data refusal

-- what a command answers, a word for what follows it, and what the console got meanwhile
unfoldable pub reply_data : List (List ℕ × ℕ) → Answer → List ℕ → List ℕ → Data
reply_data ls answer next console = object (members (("answer", answer_data ls answer) ∷ ("next", string next)
    ∷ ("console", text_data console) ∷ []))

-- ---- a source that is rejected

unfoldable pub fault_number : FaultKind → ℕ
fault_number k = (title_of k).0

unfoldable pub fault_name : FaultKind → Data
fault_name k = string (title_of k).1

unfoldable pub fault_data : Fault → Data
fault_data f = object (members (("line", natural f.diagnosis.line) ∷ ("column", natural f.diagnosis.column)
    ∷ ("length", natural f.diagnosis.length) ∷ ("number", natural (fault_number f.diagnosis.kind))
    ∷ ("name", fault_name f.diagnosis.kind)
    ∷ ("message", text_data f.message) ∷ ("advice", text_data f.advice) ∷ []))

-- an instruction whose address is no multiple of 4: E8 Misplaced
abbrev pub is_misplaced : Fault → Bool
is_misplaced f = fault_number f.diagnosis.kind == 8

-- how many instructions at such addresses follow the first: mostly from it
abbrev pub following : List Fault → ℕ
following faults = count_by is_misplaced faults - 1

unfoldable pub faults_data : List Fault → Data
faults_data faults = kind "faults" (("faults", list_data fault_data faults)
    ∷ ("following", natural (following faults)) ∷ [])

-- the line and the kind of a fault
abbrev pub kind_at : Fault → AsmFault
kind_at f = fault_of f.diagnosis

-- a text is that of the faults of a source, whatever their sentences
abbrev pub TellsFaults : List ℕ → List ℕ → Type 0
TellsFaults source text =
    (fs : List Fault) × (map kind_at fs ≡ faults_of (lines source)) × (text ≡ compact_text (faults_data fs))
