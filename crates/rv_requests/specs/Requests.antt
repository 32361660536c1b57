-- To audit: public contracts cite this.
-- What the contents of a packet ask for, one row a packet (Debugging with GDB, appendix "GDB Remote Serial Protocol":
-- "Packets", "General Query Packets", "Stop Reply Packets", "Host I/O Packets", "The F Reply Packet").
use Rattle.std.specs.Prelude.{ℕ, ◌+◌, ◌-◌, ◌==◌, ◌||◌, Bool, List, [], ◌∷◌, length, take, drop, if◌then◌else◌, nat_le, Option, Some, None, unwrap_or, codes, slice_index}
use Rattle.std.specs.List.{position}
use Rattle.std.specs.Option.{option_map_or}
use Rattle.std.specs.Str.{bytes_eq}
use Rattle.rv_base.specs.Tables.{lookup}
use Rattle.rv_base.specs.Numbers.{hex_byte}
use Rattle.rv_requests.specs.Numbers.{before, behind, number, pair, triple, bytes_of}
use Rattle.rv_requests.specs.declared.names.FileCall.{FileCall}
use Rattle.rv_requests.specs.declared.names.FileCall.TheVariants.{Naming, Opening, Reading, Sizing, Closing}
use Rattle.rv_requests.specs.declared.names.Packet.{Packet}
use Rattle.rv_requests.specs.declared.names.Packet.TheVariants.{ToStepBack, ToContinueBack, ToTellSupport, ToStopAcks, ToTellActions, ToAct, ToTransfer, ToCallFile, ToCommand, ToTellThreads, ToTellMoreThreads, ToTellThread, ToDescribeThread, ToTellAttached, ToOffer, ToRun, ToKill}
use Rattle.rv_requests.specs.declared.request.Extent.{Extent}
use Rattle.rv_requests.specs.declared.request.Part.{Part}
use Rattle.rv_requests.specs.declared.request.Part.TheVariants.{Features, MemoryMap, ProgramPath}
use Rattle.rv_requests.specs.declared.request.Point.{Point}
use Rattle.rv_requests.specs.declared.request.Point.TheVariants.{Break, Store, Load, Access}
use Rattle.rv_requests.specs.declared.request.Request.{Request}
use Rattle.rv_requests.specs.declared.request.Request.TheVariants.{LastStop, Registers, Register, Memory, Step, StepWithin, Continue, StepBack, ContinueBack, Insert, Remove, Write, Supported, StopAcks, Actions, Read, SetFiles, Open, ReadFile, FileSize, Close, Command, Threads, MoreThreads, ThisThread, ThreadText, IsAttached, Agree, Extend, Run, Kill, Detach, End, Answered, Malformed, Unknown}

-- ---- operands

-- what some operands ask for, if they can be read
abbrev pub or_malformed : {A : Type 0} → Option A → (A → Request) → Request
or_malformed read request = option_map_or request read Malformed

-- none
abbrev pub alone : List ℕ → Request → Request
alone [] request = request
alone _ request = Malformed

-- a signal, which is passed over: two digits
abbrev pub signal : List ℕ → Request → Request
signal text request = or_malformed (hex_byte text) (λ s. request)

-- a part of a text: its first byte, and the most bytes
abbrev pub extent : ℕ → ℕ → Extent
extent from most = record { from = from; most = most }

-- the kind of a point
abbrev pub point : ℕ → Option Point
point n =
    if (n == 0) || (n == 1) then Some Break
    else if n == 2 then Some Store
    else if n == 3 then Some Load
    else if n == 4 then Some Access
    else None

-- a point of a kind, with its address and its number of bytes; those of other kinds are unknown
abbrev pub at_point : List ℕ → (Point → ℕ → ℕ → Request) → Request
at_point text request =
    or_malformed (triple text) (λ t. option_map_or (λ p. request p t.1 t.2) (point t.0) Unknown)

-- addresses from one on, below another that isn't lower
abbrev pub range : List ℕ → Request
range text = or_malformed (pair text) (λ r. if nat_le r.0 r.1 then StepWithin r.0 r.1 else Malformed)

abbrev pub register : List ℕ → Request
register text = or_malformed (number text) (λ n. Register n)

abbrev pub memory : List ℕ → Request
memory text = or_malformed (pair text) (λ w. Memory (extent w.0 w.1))

-- whether gdb asks to stop: the last part of its answer is `C`
abbrev pub answered : List ℕ → Request
answered text = Answered (slice_index text (length text - 1) == 0x43)

-- texts as bytes of two digits each
abbrev pub open_file : List ℕ → Request
open_file digits = or_malformed (bytes_of digits) (λ path. Open path)

abbrev pub command : List ℕ → Request
command digits = or_malformed (bytes_of digits) (λ line. Command line)

-- `FILE,MOST,FROM`: the one file that can be open has any number
abbrev pub file_extent : List ℕ → Request
file_extent text = or_malformed (triple text) (λ t. ReadFile (extent t.2 t.1))

-- ---- rows

-- an action of a run, by its letter
unfoldable pub action : (letter more : List ℕ) → Request
action letter more = unwrap_or (lookup letter (
    (codes "s", alone more Step)
    ∷ (codes "S", signal more Step)
    ∷ (codes "c", alone more Continue)
    ∷ (codes "C", signal more Continue)
    ∷ (codes "r", range more)
    ∷ [])) Unknown

-- the first of the actions of `vCont`, without the thread that it is for: there is one thread
abbrev pub actions : List ℕ → Request
actions text = let first = before 0x3a (before 0x3b text) in action (take 1 first) (drop 1 first)

-- a text of `qXfer`, by its name
abbrev pub part : List ℕ → Option Part
part name = lookup name (
    (codes "features", Features)
    ∷ (codes "memory-map", MemoryMap)
    ∷ (codes "exec-file", ProgramPath)
    ∷ [])

-- `NAME:read:ANNEX:FROM,MOST`; what the annex says makes no difference here
unfoldable pub transfer : List ℕ → Request
transfer text =
    let operands = behind 0x3a (behind 0x3a (behind 0x3a text)) in
    if bytes_eq (before 0x3a (behind 0x3a text)) (codes "read")
    then option_map_or (λ p. or_malformed (pair operands) (λ w. Read p (extent w.0 w.1))) (part (before 0x3a text)) Unknown
    else Unknown

-- the calls of `vFile` by their names, and what they ask for
abbrev pub file_calls : List (List ℕ × FileCall)
file_calls =
    (codes "setfs", Naming) ∷ (codes "open", Opening) ∷ (codes "pread", Reading) ∷ (codes "fstat", Sizing)
    ∷ (codes "close", Closing) ∷ []

unfoldable pub by_call : FileCall → List ℕ → Request
by_call Naming operands = SetFiles
by_call Opening operands = open_file (before 0x2c operands)
by_call Reading operands = file_extent operands
by_call Sizing operands = FileSize
by_call Closing operands = Close

abbrev pub file_call : List ℕ → Request
file_call text =
    option_map_or (λ call. by_call call (behind 0x3a text)) (lookup (before 0x3a text) file_calls) Unknown

-- a packet by its letter
unfoldable pub by_letter : (letter more : List ℕ) → Request
by_letter letter more = unwrap_or (lookup letter (
    (codes "?", alone more LastStop)
    ∷ (codes "g", alone more Registers)
    ∷ (codes "p", register more)
    ∷ (codes "m", memory more)
    ∷ (codes "G", Write)
    ∷ (codes "P", Write)
    ∷ (codes "M", Write)
    ∷ (codes "X", Write)
    ∷ (codes "Z", at_point more Insert)
    ∷ (codes "z", at_point more Remove)
    ∷ (codes "H", Agree)
    ∷ (codes "T", Agree)
    ∷ (codes "!", alone more Extend)
    ∷ (codes "D", Detach)
    ∷ (codes "k", End)
    ∷ (codes "F", answered more)
    ∷ [])) (action letter more)

-- the packets whose names are words, and what they ask for
abbrev pub packets : List (List ℕ × Packet)
packets =
    (codes "bs", ToStepBack) ∷ (codes "bc", ToContinueBack) ∷ (codes "qSupported", ToTellSupport)
    ∷ (codes "QStartNoAckMode", ToStopAcks) ∷ (codes "vCont?", ToTellActions) ∷ (codes "vCont", ToAct)
    ∷ (codes "qXfer", ToTransfer) ∷ (codes "vFile", ToCallFile) ∷ (codes "qRcmd", ToCommand)
    ∷ (codes "qfThreadInfo", ToTellThreads) ∷ (codes "qsThreadInfo", ToTellMoreThreads) ∷ (codes "qC", ToTellThread)
    ∷ (codes "qThreadExtraInfo", ToDescribeThread) ∷ (codes "qAttached", ToTellAttached) ∷ (codes "qSymbol", ToOffer)
    ∷ (codes "vRun", ToRun) ∷ (codes "vKill", ToKill) ∷ []

unfoldable pub by_packet : Packet → List ℕ → Request
by_packet ToStepBack more = StepBack
by_packet ToContinueBack more = ContinueBack
by_packet ToTellSupport more = Supported
by_packet ToStopAcks more = StopAcks
by_packet ToTellActions more = Actions
by_packet ToAct more = actions more
by_packet ToTransfer more = transfer more
by_packet ToCallFile more = file_call more
by_packet ToCommand more = command more
by_packet ToTellThreads more = Threads
by_packet ToTellMoreThreads more = MoreThreads
by_packet ToTellThread more = ThisThread
by_packet ToDescribeThread more = ThreadText
by_packet ToTellAttached more = IsAttached
by_packet ToOffer more = Agree
by_packet ToRun more = Run
by_packet ToKill more = Kill

abbrev pub by_word : (word more : List ℕ) → Request
by_word word more = option_map_or (λ p. by_packet p more) (lookup word packets) Unknown

-- ---- packets

-- `q`, `Q`, `v` and `b` begin a word, which `:`, `;` or `,` ends
abbrev pub begins_word : ℕ → Bool
begins_word b = (b == 0x71) || (b == 0x51) || (b == 0x76) || (b == 0x62)

abbrev pub ends_word : ℕ → Bool
ends_word b = (b == 0x3a) || (b == 0x3b) || (b == 0x2c)

unfoldable pub request_of : List ℕ → Request
request_of contents =
    if begins_word (slice_index contents 0)
    then option_map_or (λ n. by_word (take n contents) (drop (n + 1) contents)) (position ends_word contents)
    (by_word contents [])
    else by_letter (take 1 contents) (drop 1 contents)
