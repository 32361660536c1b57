use Rattle.std.proofs.Common.{◌≡◌, ℕ, ◌+◌, ◌-◌, ◌%◌, ◌≤◌, ◌<◌, rules}
use Rattle.rv_base.specs.Limits.{ram_base}
use Rattle.rv_isa.specs.declared.op.Width.{Width}
use Rattle.rv_isa.specs.Width.{bytes_of}

-- an aligned address of the memory has an aligned offset, and all bytes of its access are in the memory
pub memory_within : (w : Width) (a size : ℕ) → size % 4096 ≡ 0 → a % bytes_of w ≡ 0 → ram_base ≤ a → a - ram_base < size
    → ((a - ram_base) + bytes_of w ≤ size) × ((a - ram_base) % bytes_of w ≡ 0) × (a ≡ ram_base + (a - ram_base))
memory_within w a size s h l b = search rules
