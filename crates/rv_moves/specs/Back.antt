-- To audit: public contracts cite this.
-- Runs back.
use Rattle.std.specs.Prelude.{ℕ, zero, suc, List, if◌then◌else◌, Option, Some, None, is_some}
use Rattle.std.specs.Option.{option_map_or}
use Rattle.std.specs.FinSet as set
use Rattle.rv_monitor.specs.State.{Addresses, TimedState, after}
use Rattle.rv_recording.specs.Recording.{RecordingState}
pub use Rattle.rv_recording.specs.Recording.{first_state}
use Rattle.rv_moves.specs.Watches.{met}
use Rattle.rv_moves.specs.declared.back.Back.{Back}
use Rattle.rv_moves.specs.declared.watch.Watch.{Watch}

-- how many steps a recording has taken
abbrev pub taken : RecordingState → ℕ
taken r = r.session.timed.taken

-- where a run back from a state's first n steps stops: right after the last of them that meets a watch, since it stops
-- before that is undone; or before the last of them that is at a breakpoint, if that comes later
unfoldable pub last_stop : List Watch → Addresses → TimedState → ℕ → Option Back
last_stop ws breaks s zero = None
last_stop ws breaks s (suc n) =
    let b = (after s n).board in
    if is_some (met ws b) then Some (record { steps = suc n; watch = met ws b })
    else (if set.contains breaks b.machine.pc then Some (record { steps = n; watch = None })
    else last_stop ws breaks s n)

-- how many steps are left of a run back: it goes to the first one if nothing stops it
abbrev pub left_by : Option Back → ℕ
left_by found = option_map_or (λ b. b.steps) found 0
