-- The run of a session.
-- Not to audit: private contracts alone cite this.
use Rattle.std.specs.Prelude.{◌≡◌, ◌++◌, ℕ, List, Option}
use Rattle.rv_board.specs.Support.State.{halted_of}
use Rattle.rv_monitor.specs.State.{SessionState}
use Rattle.std.specs.Option.{option_map_or}
use Rattle.rv_cli.specs.Output.{Does, printed}
use Rattle.rv_cli.specs.declared.fault.Ending.{Ending}
use Rattle.rv_cli.specs.declared.fault.Ending.TheVariants.{Halted, Running}

-- how a run ends, by the code of the board's halt
abbrev pub ending_of : Option ℕ → Ending
ending_of halted = option_map_or (λ code. Halted code) halted Running

-- the text that a session prints, and how the run ends
pub record IsRunOf (commands : Option (List ℕ)) (first : SessionState) (result : List ℕ × Ending) : Type 0 where
  pub last : SessionState
  pub answers : List ℕ
  pub done : Does commands first last answers
  pub is : result ≡ (answers ++ printed last.timed.board, ending_of (halted_of last.timed.board))
