-- Not to audit: rows of tests alone cite this.
-- What the rows of src/registers.rt and src/protection.rt say of the definitions of control registers.
use Rattle.std.specs.Prelude.{ℕ, Bool, false, ◌+◌, ◌==◌, ◌&&◌, List, fold, slice_index, is_some, option_and_then, unwrap_or}
use Rattle.std.specs.Bool.{beq}
use Rattle.std.specs.List.{range_with_len}
use Rattle.std.specs.Option.{option_map_or}
use Rattle.rv_isa.specs.declared.Lines.{Lines}
use Rattle.rv_isa.specs.declared.op.Width.{Width}
use Rattle.rv_isa.specs.Width.{bytes_of}
use Rattle.rv_pmp.specs.declared.access.Access.{Access}
use Rattle.rv_pmp.specs.declared.mode.Mode.{Mode}
use Rattle.rv_pmp.specs.declared.mode.Mode.TheVariants.{Machine}
use Rattle.rv_pmp.specs.Pmp.{PmpState, grants, write_register}
use Rattle.rv_csr.specs.Registers.{read, write}
use Rattle.rv_csr.specs.State.{csrs_at_reset}

-- all interrupt lines are low
abbrev pub low : Lines
low = record { software = false; timer = false; external = false }

-- machine mode writes a word to a register after a reset, and reads another one
abbrev pub is_kept : ℕ × ℕ × ℕ → Bool
is_kept row =
    option_map_or (λ word. word == row.2)
    (option_and_then (λ s. read s row.0 Machine low) (write csrs_at_reset row.0 Machine row.1)) false

-- whether a mode may read, and whether it may write
abbrev pub is_right : ℕ × Mode × Bool × Bool → Bool
is_right row =
    beq (is_some (read csrs_at_reset row.0 row.1 low)) row.2 && beq (is_some (write csrs_at_reset row.0 row.1 0)) row.3

-- protection after a write to a register that is there
abbrev pub with_register : PmpState → ℕ → ℕ → PmpState
with_register pmp addr word = unwrap_or (write_register pmp addr word) pmp

-- protection with four addresses and their configurations
abbrev pub protection : List ℕ → ℕ → PmpState
protection addresses config =
    with_register (fold (λ pmp n. with_register pmp (0x3b0 + n) (slice_index addresses n)) csrs_at_reset.pmp (range_with_len 0 4))
    0x3a0 config

-- whether such protection grants an access
abbrev pub is_granted : List ℕ × ℕ × Mode × Access × ℕ × Width × Bool → Bool
is_granted row = beq (grants (protection row.0 row.1) row.2 row.3 row.4 (bytes_of row.5)) row.6
