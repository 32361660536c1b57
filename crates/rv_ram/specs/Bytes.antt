-- To audit: public contracts cite this.
-- A memory as the list of its bytes. RISC-V Unprivileged ISA 20191213: memory is addressed by bytes (section 1.4),
-- and the bytes of a value stand low byte first, those of an instruction (section 1.5) as those of data (section
-- 2.6).
use Rattle.std.specs.Prelude.{ℕ, zero, suc, ◌+◌, ◌*◌, ◌/◌, ◌%◌, ◌^◌, List, slice_index, slice_set, replicate}

-- the value of n bytes at an offset
unfoldable pub value_at : List ℕ → ℕ → ℕ → ℕ
value_at bs i zero = 0
value_at bs i (suc n) = value_at bs i n + slice_index bs (i + n) * 256 ^ n

-- the bytes after a write of the n low bytes of a value at an offset
unfoldable pub put : List ℕ → ℕ → ℕ → ℕ → List ℕ
put bs i zero v = bs
put bs i (suc n) v = slice_set (put bs i n v) (i + n) (v / 256 ^ n % 256)

-- n zeros. Proofs use lemmas about them, and see no list of 16 million numbers
unfoldable pub zeros : ℕ → List ℕ
zeros n = replicate n 0
