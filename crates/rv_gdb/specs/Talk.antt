-- To audit: public contracts cite this.
-- The talk with gdb (Debugging with GDB, appendix "GDB Remote Serial Protocol": "Overview", "Packet Acknowledgment",
-- "Interrupts", "The F Reply Packet"): what each item of the stream leaves and appends, as a fold over the items.
use Rattle.std.specs.Prelude.{◌≡◌, ℕ, ◌&&◌, ◌||◌, ◌++◌, Bool, true, false, not, List, [], ◌∷◌, codes, if◌then◌else◌}
use Rattle.rv_monitor.specs.Stops.{steps_between}
use Rattle.rv_recording.specs.Until.{HasRun}
use Rattle.rv_recording.specs.declared.until.End.{End}
use Rattle.rv_packets.specs.Items.{State, framed}
use Rattle.rv_packets.specs.declared.item.Item.{Item}
use Rattle.rv_packets.specs.declared.item.Item.TheVariants.{Packet, BadSum, Ack, Again, Interrupt}
use Rattle.rv_replies.specs.declared.stops.Reason.TheVariants.{Plain}
use Rattle.rv_requests.specs.Requests.{request_of}
use Rattle.rv_requests.specs.declared.request.Request.{Request}
use Rattle.rv_requests.specs.declared.request.Request.TheVariants.{Answered, StopAcks}
use Rattle.rv_gdb.specs.Moves.{EndSays, after_part, calls_of, ends_of, goes_on, stop_packets, with_session}
use Rattle.rv_gdb.specs.Serves.{Says, Serves, then_of}
use Rattle.rv_gdb.specs.Target.{TargetState, with_console}
use Rattle.rv_gdb.specs.declared.served.Then.{Then}
use Rattle.rv_gdb.specs.declared.served.Then.TheVariants.{Waits, Runs, Ends}
use Rattle.rv_gdb.specs.declared.talk.Next as next

-- a talk: what is debugged, and what was sent last; whether each packet is acknowledged; whether gdb is asked, between
-- parts of a run, if it is to stop; and whether a run isn't over, gdb was asked and didn't answer yet, it asked to stop,
-- and the talk is over
pub record TalkState : Type 0 where
  pub target : TargetState
  pub last : List ℕ
  pub acks : Bool
  pub asks : Bool
  pub is_running : Bool
  pub is_asked : Bool
  pub is_interrupted : Bool
  pub is_over : Bool

abbrev pub opened : TargetState → Bool → TalkState
opened t asks = record {
  target = t;
  last = [];
  acks = true;
  asks = asks;
  is_running = false;
  is_asked = false;
  is_interrupted = false;
  is_over = false;
}

-- a server: a talk, and where the stream of gdb's bytes stands
pub record ServerState : Type 0 where
  pub talk : TalkState
  pub stream : State

-- what a server goes on with: steps of a run, unless gdb has to answer first
abbrev pub next_of : TalkState → next.Next
next_of t =
    if t.is_over then next.TheVariants.End
    else if t.is_running && not t.is_asked then next.TheVariants.Steps
    else next.TheVariants.Bytes

-- ---- requests

-- a run that gdb stops, with signal 2
abbrev pub stopped : TalkState → TalkState
stopped t = record t { target = with_console t.target; is_running = false; is_interrupted = false }

abbrev pub stopped_text : TalkState → List ℕ
stopped_text t = stop_packets 2 Plain t.target

-- gdb's answer to a question, by whether it stops the run
abbrev pub answered : Bool → TalkState → TalkState
answered stops t = let u = record t { is_asked = false } in if stops || t.is_interrupted then stopped u else u

abbrev pub answered_text : Bool → TalkState → List ℕ
answered_text stops t = if stops || t.is_interrupted then stopped_text t else []

-- a talk after a request, by what follows that
abbrev pub after_then : Then → TalkState → TalkState
after_then Waits t = t
after_then Runs t = record t { is_running = true }
after_then Ends t = record t { is_over = true }

-- packets aren't acknowledged from `QStartNoAckMode` on
abbrev pub after_acks : Request → TalkState → TalkState
after_acks StopAcks t = record t { acks = false }
after_acks request t = t

-- what a request leaves, and appends to what is sent: an answer to no question does nothing
unfoldable pub Handles : Request → (old new : TalkState) → (before after : List ℕ) → Type 0
Handles (Answered stops) old new before after =
    (new ≡ (if old.is_asked then answered stops old else old))
    × (after ≡ before ++ (if old.is_asked then answered_text stops old else []))
Handles request old new before after =
    Serves request old.target new.target × Says request old.target new.target before after
    × (new ≡ after_acks request (after_then (then_of request old.target) (record old { target = new.target })))

-- ---- items

-- what is sent where packets are acknowledged
abbrev pub if_acks : TalkState → List ℕ → List ℕ
if_acks t bytes = if t.acks then bytes else []

-- a talk after bytes were sent, and appended to the output
pub record Sends (mid new : TalkState) (sent before after : List ℕ) : Type 0 where
  pub state : new ≡ record mid { last = sent }
  pub text : after ≡ before ++ sent

-- what an item leaves of a talk, and appends to the output: a packet is acknowledged and handled; another one's sum is
-- wrong; gdb wants again what was sent last, or wants a run to stop
unfoldable pub Takes : Item → (old new : TalkState) → (before after : List ℕ) → Type 0
Takes (Packet contents) old new before after = (mid : TalkState) × (sent : List ℕ)
    × Handles (request_of contents) old mid [] sent × Sends mid new sent (before ++ if_acks old (codes "+")) after
Takes BadSum old new before after = (new ≡ old) × (after ≡ before ++ if_acks old (codes "-"))
Takes Again old new before after = (new ≡ old) × (after ≡ before ++ if_acks old old.last)
Takes Interrupt old new before after = (new ≡ record old { is_interrupted = old.is_running }) × (after ≡ before)
Takes Ack old new before after = (new ≡ old) × (after ≡ before)

-- what items leave and append, one after another
unfoldable pub Talks : List Item → (old new : TalkState) → (before after : List ℕ) → Type 0
Talks [] old new before after = (new ≡ old) × (after ≡ before)
Talks (item ∷ items) old new before after = (mid : TalkState) × (between : List ℕ)
    × Takes item old mid before between × Talks items mid new between after

-- ---- runs

-- a target after a part of a run of at most some steps, which ended so
pub record RanPart (most : ℕ) (end : End) (old new : TargetState) : Type 0 where
  pub run : HasRun (ends_of old) most old.lab.recording.session new.lab.recording.session end
  pub calls : new.calls
      ≡ calls_of old (steps_between old.lab.recording.session.timed new.lab.recording.session.timed)
  pub others : new ≡ record (with_session old new.lab.recording.session) { calls = new.calls }

-- gdb is asked if a run is to stop that goes on: whether its file 0 is a terminal, by which no memory is touched
abbrev pub asked : TalkState → TalkState
asked t = if t.asks then record t { is_asked = true } else t

abbrev pub asked_text : TalkState → List ℕ
asked_text t = if t.asks then framed (codes "Fisatty,0") else []

-- a talk after a part of a run, by whether the run goes on
abbrev pub after_run : Bool → TalkState → TalkState
after_run true t = asked t
after_run false t = record t { is_running = false }

abbrev pub run_text : Bool → TalkState → List ℕ
run_text true t = asked_text t
run_text false t = []

-- a part of a run, and what is sent then: what the console got, the stop if there is one, and else the question
unfoldable pub Part : ℕ → (old new : TalkState) → (before after : List ℕ) → Type 0
Part most old new before after = (end : End) × (target : TargetState) × (told : List ℕ)
    × RanPart most end old.target target × EndSays end target before told
    × (new ≡ after_run (goes_on end) (record old { target = after_part end target }))
    × (after ≡ told ++ run_text (goes_on end) (record old { target = after_part end target }))

-- that, or its end where gdb asked to stop
abbrev pub PartOrStop : Bool → ℕ → (old new : TalkState) → (before after : List ℕ) → Type 0
PartOrStop true most old new before after = (new ≡ stopped old) × (after ≡ before ++ stopped_text old)
PartOrStop false most old new before after = Part most old new before after

unfoldable pub GoesOn : ℕ → (old new : TalkState) → (before after : List ℕ) → Type 0
GoesOn most old new before after = (mid : TalkState) × (sent : List ℕ)
    × PartOrStop old.is_interrupted most old mid [] sent × Sends mid new sent before after
