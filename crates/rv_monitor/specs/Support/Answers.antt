-- Not to audit: private contracts alone cite this.
-- The outcome of a command: the session that it leaves, and the text with its answer.
use Rattle.std.specs.Prelude.{◌≡◌, ℕ, List, ◌++◌, Option, Some, Result, Ok, Err}
use Rattle.rv_ram.specs.Room.{RoomRule}
use Rattle.rv_commands.specs.declared.command.Command.{Command}
use Rattle.rv_commands.specs.declared.command.Command.TheVariants.{Quit}
use Rattle.rv_monitor.specs.declared.command.Next.{Next}
use Rattle.rv_monitor.specs.declared.command.Next.TheVariants as next
use Rattle.rv_monitor.specs.State.{SessionState}
use Rattle.rv_monitor.specs.Commands.{Leaves, LeavesRefused, answer}
use Rattle.rv_monitor.specs.Room.{LacksRoom}

-- whether commands follow a command
abbrev pub next_of : Option Command → Next
next_of (Some Quit) = next.Quit
next_of _ = next.More

-- the command was executed and its answer appended to the text; or memory ran out and the text is as it was
abbrev pub AppendsAnswer : {E : Type 0} → RoomRule → Option Command → ℕ → SessionState → SessionState → List ℕ
    → List ℕ → Result Unit E → Type 0
AppendsAnswer rule command room old new before after (Ok u) =
    Leaves command old new × (after ≡ before ++ answer command old new)
AppendsAnswer rule command room old new before after (Err e) =
    LeavesRefused command old new × LacksRoom rule command room old new × (after ≡ before)
