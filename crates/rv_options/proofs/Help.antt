-- A request for help.
use Rattle.std.proofs.Common.{◌≡◌, List, [], ◌∷◌, refl}
use Rattle.std.specs.Prelude.{codes}
use Rattle.std.specs.Char.{encode_utf8}
use Rattle.std.specs.Str.{chars}
use Rattle.clap.specs.Faults.{flags_fault, walk_fault}
use Rattle.clap.specs.Words.{Text, fault_of}
use Rattle.clap.specs.declared.error.kind.ErrorKind.TheVariants.{DisplayHelp}
use Rattle.rv_options.specs.Board.{board_app}

abbrev pub AsksForHelp : Text → Type 0
AsksForHelp word = (program : Text) (more : List Text) → fault_of board_app (program ∷ word ∷ more) ≡ DisplayHelp ∷ []

pub long_help : AsksForHelp (codes "--help")
unfolding board_app walk_fault
long_help program more = refl

pub short_help : AsksForHelp (codes "-h")
unfolding board_app walk_fault flags_fault chars encode_utf8
short_help program more = refl
