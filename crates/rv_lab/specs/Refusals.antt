-- To audit: public contracts cite this.
-- The lab where memory ran out in a call (this project's own: docs/LAB.md).
use Rattle.std.specs.Prelude.{◌≡◌, ◌⊎◌, ℕ, Option, None}
use Rattle.std.specs.Option.{option_map_or}
use Rattle.rv_timeline.specs.declared.input.Input.{Input}
use Rattle.rv_monitor.specs.State.{TimedState, after, with_due, given}
use Rattle.rv_monitor.specs.Stops.{steps_between}
use Rattle.rv_recording.specs.Recording.{with_timed}
use Rattle.rv_runs.specs.declared.goal.Goal.{Goal}
use Rattle.rv_lab.specs.Commands.{guards_by}
use Rattle.rv_lab.specs.State.{LabState, timed}

-- a state leads to another by steps that are taken, the inputs before the next step, and inputs by hand
pub data Leads (old : TimedState) : TimedState → Type 0 where
  nowhere : Leads old old
  steps : (s : TimedState) (n : ℕ) → Leads old s → Leads old (after s n)
  due : (s : TimedState) → Leads old s → Leads old (with_due s)
  by_hand : (s : TimedState) (input : Input) → Leads old s → Leads old (given s input)

-- a call stopped short, of a run that goes on for something or of no run: it took some of the steps, and gave some of
-- the inputs, that lead to what it does, the hits of these steps are counted, and its run is over
abbrev pub StopsShort : Option Goal → (LabState → LabState → Type 0) → LabState → LabState → Type 0
StopsShort g Does old new =
    (done : LabState) × Does old done × Leads (timed old) (timed new) × Leads (timed new) (timed done)
    × (new ≡ record done {
      recording = with_timed old.recording (timed new);
      guards = option_map_or (λ g. guards_by g old (steps_between (timed old) (timed new))) g old.guards;
      plan = None;
      resumes = new.resumes;
      told = new.told;
    })

-- memory ran out in a call: it did nothing, or all that it does but for the end of its answer, or it stopped
-- short
abbrev pub RunsOut : Option Goal → (LabState → LabState → Type 0) → LabState → LabState → Type 0
RunsOut g Does old new = (new ≡ old) ⊎ (Does old new ⊎ StopsShort g Does old new)
