-- To audit: public contracts cite this.
-- The widths of accesses. RISC-V Unprivileged ISA 20191213, section 2.6.
use Rattle.std.specs.Prelude.{ℕ}
use Rattle.rv_isa.specs.declared.op.Width.{Width}
use Rattle.rv_isa.specs.declared.op.Width.TheVariants.{One, Two, Four}

-- how many bytes an access has (section 2.6)
abbrev pub bytes_of : Width → ℕ
bytes_of One = 1
bytes_of Two = 2
bytes_of Four = 4
