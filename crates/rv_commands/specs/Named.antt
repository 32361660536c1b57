-- The control registers of commands.
-- To audit: public contracts cite this.
use Rattle.std.specs.Prelude.{◌≡◌, ⊤, Some}
use Rattle.rv_base.specs.Tables.{lookup}
use Rattle.rv_isa.specs.Names.{csr_names}
use Rattle.rv_commands.specs.declared.command.Command.{Command}
use Rattle.rv_commands.specs.declared.command.Command.TheVariants.{ControlRegister}

-- the control register of a command is the one with its name
abbrev pub IsNamed : Command → Type 0
IsNamed (ControlRegister name csr) = lookup name csr_names ≡ Some csr
IsNamed _ = ⊤
