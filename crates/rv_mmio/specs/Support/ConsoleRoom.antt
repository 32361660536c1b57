-- Not to audit: private contracts alone cite this.
-- The room of the console.
use Rattle.std.specs.Prelude.{ℕ, ◌+◌, ◌*◌, ◌/◌, ◌≤◌}

-- a console of `len` bytes has room up to the next multiple of 4096
abbrev pub HasConsoleRoom : ℕ → ℕ → Type 0
HasConsoleRoom len capacity = (len + 4095) / 4096 * 4096 ≤ capacity
