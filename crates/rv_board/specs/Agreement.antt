-- When two boards are the same for user code.
-- To audit: public contracts cite this.
use Rattle.std.specs.Prelude.{◌≡◌, ℕ, Bool, true, ◌&&◌, ◌||◌, not, is_none, length}
use Rattle.rv_pmp.specs.Pmp.{grants}
use Rattle.rv_pmp.specs.declared.access.Access.{Access}
use Rattle.rv_pmp.specs.declared.access.Access.TheVariants.{Read, Execute}
use Rattle.rv_pmp.specs.Mode.{is_machine}
use Rattle.rv_pmp.specs.declared.mode.Mode.TheVariants.{User}
use Rattle.rv_bus.specs.Access.{ram_byte}
use Rattle.rv_board.specs.BoardState.{BoardState, on_bus}

-- whether protection grants user mode an access to the byte at an address
abbrev pub user_may : BoardState → Access → ℕ → Bool
user_may b access addr = grants b.machine.csrs.pmp User access addr 1

-- the boards are equal, except for bytes of the memory that user mode may neither read nor execute
pub record AgreeForUser (one other : BoardState) : Type 0 where
  pub size : length other.machine.bus.ram ≡ length one.machine.bus.ram
  pub seen : (addr : ℕ) → (user_may one Read addr || user_may one Execute addr) ≡ true
      → ram_byte other.machine.bus.ram addr ≡ ram_byte one.machine.bus.ram addr
  pub rest : other ≡ on_bus one (λ bus. record bus { ram = other.machine.bus.ram })

-- whether user code runs: the mode is user mode, and the board isn't halted
unfoldable pub runs_user : BoardState → Bool
runs_user b = not (is_machine b.machine.mode) && is_none b.machine.bus.halt
