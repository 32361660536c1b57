-- The exit status where words ask for no run (this project's own: docs/BOARD.md).
-- To audit: public contracts cite this.
use Rattle.std.specs.Prelude.{ℕ}
use Rattle.clap.specs.declared.error.kind.ErrorKind.{ErrorKind}
use Rattle.clap.specs.declared.error.kind.ErrorKind.TheVariants.{DisplayHelp, OutOfMemory}

-- by the kind of clap's error: help was asked for, memory ran out, or the words are refused
abbrev pub status_of_error : ErrorKind → ℕ
status_of_error DisplayHelp = 0
status_of_error OutOfMemory = 4
status_of_error kind = 3
