-- To audit: public contracts cite this.
-- The replies to requests that leave the board as it stands, one row a request (Debugging with GDB, appendix "GDB Remote
-- Serial Protocol").
use Rattle.std.specs.Prelude.{ℕ, ◌+◌, ◌-◌, ◌/◌, ◌%◌, ◌^◌, List, [], ◌∷◌, ◌++◌, length, take, drop, if◌then◌else◌, nat_lt, Option, Some, None, MatchOption, codes}
use Rattle.std.specs.Option.{option_map_or}
use Rattle.std.specs.Str.{bytes_eq}
use Rattle.rv_base.specs.Digits.{hex}
use Rattle.rv_board.specs.BoardState.{BoardState}
use Rattle.rv_requests.specs.declared.request.Extent.{Extent}
use Rattle.rv_requests.specs.declared.request.Part.{Part}
use Rattle.rv_requests.specs.declared.request.Part.TheVariants.{Features, MemoryMap, ProgramPath}
use Rattle.rv_requests.specs.declared.request.Request.{Request}
use Rattle.rv_requests.specs.declared.request.Request.TheVariants.{LastStop, Registers, Register, Memory, Write, Supported, Actions, Read, SetFiles, Open, ReadFile, FileSize, Close, Threads, MoreThreads, ThisThread, IsAttached, Agree, Malformed, Unknown}
use Rattle.rv_replies.specs.Files.{FilesState}
use Rattle.rv_replies.specs.declared.stops.Reason.TheVariants.{Plain}
use Rattle.rv_replies.specs.Texts.{memory_text, register_text, registers_text, state_text}

-- ---- constants

-- nothing is written: the board is the run of its recorded inputs
abbrev pub refusal : List ℕ
refusal = codes "E.the board is the run of its recorded inputs: nothing is written"

abbrev pub support : List ℕ
support = codes "PacketSize=4000;QStartNoAckMode+;qXfer:features:read+;qXfer:memory-map:read+;qXfer:exec-file:read+;swbreak+;hwbreak+;vContSupported+;ReverseStep+;ReverseContinue+"

unfoldable pub constant : Request → Option (List ℕ)
constant Write = Some refusal
constant Supported = Some support
constant Actions = Some (codes "vCont;c;C;s;S;r")
constant SetFiles = Some (codes "F0")
constant Close = Some (codes "F0")
constant Threads = Some (codes "m1")
constant MoreThreads = Some (codes "l")
constant ThisThread = Some (codes "QC1")
constant IsAttached = Some (codes "1")
constant Agree = Some (codes "OK")
constant Malformed = Some (codes "E01")
constant Unknown = Some []
constant _ = None

-- ---- texts and the program's file

abbrev pub text_of : Part → FilesState → List ℕ
text_of Features t = t.features
text_of MemoryMap t = t.memory_map
text_of ProgramPath t = t.path

abbrev pub in_extent : List ℕ → Extent → List ℕ
in_extent text w = take w.most (drop w.from text)

-- a part of a text: `m` where more follows
unfoldable pub part_text : List ℕ → Extent → List ℕ
part_text text w =
    (if nat_lt (w.from + w.most) (length text) then codes "m" else codes "l") ++ in_extent text w

-- a part of the file, after its length
abbrev pub file_text : List ℕ → Extent → List ℕ
file_text file w = let part = in_extent file w in codes "F" ++ hex 8 (length part) ++ codes ";" ++ part

-- what `struct stat` of the protocol says of it, high bytes first: a file of mode 100644, and its size
abbrev pub zeros4 : List ℕ
zeros4 = 0 ∷ 0 ∷ 0 ∷ 0 ∷ []

abbrev pub size_text : List ℕ → List ℕ
size_text file = let n = length file in codes "F40;" ++ zeros4 ++ zeros4 ++ (0 ∷ 0 ∷ 0x81 ∷ 0xa4 ∷ [])
    ++ zeros4 ++ zeros4 ++ zeros4 ++ zeros4
    ++ zeros4 ++ (n / 2 ^ 24 % 2 ^ 8 ∷ n / 2 ^ 16 % 2 ^ 8 ∷ n / 2 ^ 8 % 2 ^ 8 ∷ n % 2 ^ 8 ∷ [])
    ++ zeros4 ++ zeros4 ++ zeros4 ++ zeros4 ++ zeros4 ++ zeros4 ++ zeros4

-- ---- rows

-- why the target stands still: it has ended, or it waits
abbrev pub last_stop : BoardState → List ℕ
last_stop b = state_text 5 Plain b

-- the number of the program's file, or that there is no such file
abbrev pub opened : List ℕ → FilesState → List ℕ
opened path t = if bytes_eq path t.path then codes "F5" else codes "F-1,2"

unfoldable pub shown : Request → BoardState → FilesState → Option (List ℕ)
shown LastStop b t = Some (last_stop b)
shown Registers b t = Some (registers_text b)
shown (Register n) b t = Some (register_text b n)
shown (Memory w) b t = Some (memory_text b w)
shown (Read part w) b t = Some (part_text (text_of part t) w)
shown (Open path) b t = Some (opened path t)
shown (ReadFile w) b t = Some (file_text t.file w)
shown FileSize b t = Some (size_text t.file)
shown _ b t = None

-- the reply to a request, if it leaves the board as it stands
abbrev pub look_text : Request → BoardState → FilesState → Option (List ℕ)
look_text r b t = option_map_or (λ c. Some c) (constant r) (shown r b t)
