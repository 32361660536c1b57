-- Commands that answer nothing lack no room; and the command after which no other follows.
use Rattle.std.proofs.Common.{rules, ◌≡◌, ℕ, Option, Some, arith}
use Rattle.std.specs.Prelude.{◌≢◌}
use Rattle.rv_ram.specs.Room.{RoomRule}
use Rattle.rv_commands.specs.declared.command.Command.{Command}
use Rattle.rv_commands.specs.declared.command.Command.TheVariants.{Quit, Nothing}
use Rattle.rv_monitor.specs.Support.Answers.{next_of}
use Rattle.rv_monitor.specs.Room.{LacksRoom}
use Rattle.rv_monitor.specs.State.{SessionState}
use Rattle.rv_monitor.specs.declared.command.Next.{Next}
use Rattle.rv_monitor.specs.declared.command.Next.TheVariants as next

pub no_quit : (rule : RoomRule) (c : Option Command) (room : ℕ) (old new : SessionState)
    → LacksRoom rule c room old new → c ≢ Some Quit
no_quit rule c room old new h e = search (rules, arith)

pub no_nothing : (rule : RoomRule) (c : Option Command) (room : ℕ) (old new : SessionState)
    → LacksRoom rule c room old new → c ≢ Some Nothing
no_nothing rule c room old new h e = search (rules, arith)

-- ---- whether commands follow

pub quit_next : (n : Next) (c : Option Command) → c ≡ Some Quit → n ≡ next_of c → n ≡ next.Quit
quit_next n c e is = search (rules, arith)

pub more_next : (n : Next) (c : Option Command) → c ≢ Some Quit → n ≡ next_of c → n ≡ next.More
more_next n c other is = rw is (search (rules, arith))
