-- To audit: public contracts cite this.
-- What a call of the page leaves, and what it copies.
use Rattle.std.specs.Prelude.{◌≡◌, ◌≢◌, ℕ, false, None, IfSome, Ok, Err, List, [], ◌∷◌, ◌++◌, codes, max, take, drop, option_map, unwrap_or, Option}
use Rattle.std.specs.Option.{option_map_or}
use Rattle.rv_asm.specs.Lines.{listed}
use Rattle.serde_json.specs.Written.{compact_text}
use Rattle.rv_json.specs.Json.{TellsFaults, answer_data, reply_data}
use Rattle.rv_lab.specs.Opening.{OpensLab}
use Rattle.rv_lab.specs.State.{LabState, listing}
use Rattle.rv_lab.specs.declared.fault.LabFault.{LabFault}
use Rattle.rv_lab.specs.declared.lab.Next.{Next}
use Rattle.rv_lab.specs.declared.lab.Next.TheVariants as next
use Rattle.rv_lab.specs.declared.fault.LabFault.TheVariants.{OutOfMemory, Source}
use Rattle.rv_lab.specs.declared.lab.Reply.{Reply}
use Rattle.rv_answers.specs.Printer.{Written}
use Rattle.rv_lab.specs.Orders.{order_of}
use Rattle.rv_lab.specs.Runs.{look_by}
use Rattle.rv_lab.specs.State as lab
use Rattle.rv_handle.specs.declared.state.State.{State}

-- ---- the lab

-- an empty text
abbrev pub blank : Written
blank = record { bytes = []; is_cut = false }

-- a state without a lab and with empty texts
abbrev pub empty : State
empty = record { lab = None; answer = blank; json = blank }

-- the lab before a call and the one after it, where there is one, are in a relation
abbrev pub OfLabs : State → State → (LabState → LabState → Type 0) → Type 0
OfLabs old new R = IfSome old.lab (λ l. IfSome new.lab (R l))

-- a lab whose calls take at most n steps, or one
abbrev pub in_pieces : ℕ → LabState → LabState
in_pieces n l = record l { piece = max n 1 }

-- the steps that the lab's board has taken, and what it has sent; none without a lab
abbrev pub taken : State → ℕ
taken s = option_map_or (λ l. l.recording.session.timed.taken) s.lab 0

abbrev pub sent : State → List ℕ
sent s = option_map_or (λ l. l.recording.session.timed.board.machine.bus.serial.sent) s.lab []

-- ---- a load

-- the lab of a source with a timed list on a board of these sizes, before its first command
pub record IsOpened (source inputs : List ℕ) (pages slots : ℕ) (l : LabState) : Type 0 where
  pub session : OpensLab source inputs pages slots (Ok l.recording.session)
  pub sizes : (l.recording.pages ≡ pages) × (l.recording.slots ≡ slots)
  pub text : l.source ≡ source
  pub listing : listed source ≡ Ok (listing l)
  pub plan : l.plan ≡ None

-- the JSON of a fault: of a source that is rejected that of all its faults, and else none
abbrev pub TellsFault : List ℕ → LabFault → List ℕ → Type 0
TellsFault source (Source why) text = TellsFaults source text
TellsFault source _ text = text ≡ []

-- there is no such lab, for a fault of the source, the timed list or the board, which has this JSON
abbrev pub IsRefused : List ℕ → List ℕ → (pages slots : ℕ) → List ℕ → Type 0
IsRefused source inputs pages slots text = (fault : LabFault)
    × OpensLab source inputs pages slots (Err fault) × (fault ≢ OutOfMemory) × TellsFault source fault text

-- ---- texts

-- the bytes of a text that are copied from a place on: as many as there is room for
abbrev pub copied : List ℕ → ℕ → ℕ → List ℕ
copied text from room = take room (drop from text)

-- ---- looks

-- the JSON of what a command line answers, if it asks for nothing but an answer
unfoldable pub look_text : LabState → List ℕ → Option (List ℕ)
look_text l line = option_map (λ answer. compact_text (answer_data (listing l).labels answer))
    (look_by (order_of line l) l)

-- as a line, which is null for any other
abbrev pub look_line : LabState → List ℕ → List ℕ
look_line l line = unwrap_or (look_text l line) (codes "null") ++ 10 ∷ []

-- what each of some lines answers
unfoldable pub looks : LabState → List (List ℕ) → List ℕ
looks l [] = []
looks l (line ∷ more) = look_line l line ++ looks l more

-- ---- replies

-- what follows a command, as a code and in JSON
abbrev pub told_as : Next → ℕ × List ℕ
told_as next.More = (0, codes "more")
told_as next.Running = (1, codes "running")
told_as next.Save = (2, codes "save")
told_as next.Quit = (3, codes "quit")

-- the JSON of a lab's reply
unfoldable pub reply_text : LabState → Reply → List ℕ
reply_text l r = compact_text (reply_data (listing l).labels r.answer (told_as r.next).1
    (drop r.from (take r.to (lab.board l).machine.bus.serial.sent)))
