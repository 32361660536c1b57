-- To audit: public contracts cite this.
-- What gdb debugs, and what it is told of the console (Debugging with GDB, appendix "GDB Remote Serial Protocol", "Stop
-- Reply Packets": `O`).
use Rattle.std.specs.Prelude.{ℕ, ◌∷◌, List, [], length, drop, codes, if◌then◌else◌, ◌==◌}
use Rattle.rv_monitor.specs.State.{with_break}
use Rattle.rv_pmp.specs.declared.mode.Mode.{Mode}
use Rattle.rv_pmp.specs.declared.mode.Mode.TheVariants.{User, Machine}
use Rattle.rv_board.specs.BoardState.{BoardState}
use Rattle.rv_recording.specs.Recording.{RecordingState}
use Rattle.rv_lab.specs.Commands.{with_session}
use Rattle.rv_lab.specs.State.{LabState, board, sent}
use Rattle.rv_packets.specs.Items.{framed}
use Rattle.rv_moves.specs.declared.forward.Aim.{Aim}
use Rattle.rv_moves.specs.declared.forward.Aim.TheVariants.{Stop}
use Rattle.rv_moves.specs.declared.watch.Watch.{Watch}
use Rattle.rv_replies.specs.Files.{FilesState}
use Rattle.rv_replies.specs.Texts.{digits}

-- a lab with the files that gdb reads, the number of bytes of the console that it was told, the watches, and what a run
-- goes on for, with the number of handlers and calls that are open in it
pub record TargetState : Type 0 where
  pub lab : LabState
  pub files : FilesState
  pub told : ℕ
  pub watches : List Watch
  pub aim : Aim
  pub calls : ℕ

-- a target as the talk begins: where a trap without a handler leads, at 0, runs stop
abbrev pub begun : LabState → FilesState → TargetState
begun l files =
    record { lab = with_session l (with_break l.recording.session 0); files = files; told = 0; watches = []; aim = Stop; calls = 0 }

-- a packet with a text for the console
abbrev pub note_packet : List ℕ → List ℕ
note_packet text = framed (0x4f ∷ digits text)

-- the packet with what the console got since it was told, if it got anything
abbrev pub console_text : TargetState → List ℕ
console_text t =
    let untold = drop t.told (board t.lab).machine.bus.serial.sent in
    if length untold == 0 then [] else note_packet untold

-- the target whose console was told
abbrev pub with_console : TargetState → TargetState
with_console t = record t { told = sent t.lab }

-- a target whose lab has another recording
abbrev pub with_recording : TargetState → RecordingState → TargetState
with_recording t r = record t { lab = record t.lab { recording = r } }

-- that, whose console was told
abbrev pub moved : TargetState → RecordingState → TargetState
moved t r = with_console (with_recording t r)

-- what is said of the one thread: the board's mode
abbrev pub mode_text : Mode → List ℕ
mode_text User = codes "user mode"
mode_text Machine = codes "machine mode"

abbrev pub thread_text : BoardState → List ℕ
thread_text b = digits (mode_text b.machine.mode)
