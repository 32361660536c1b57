-- Not to audit: private contracts and invariants alone cite this.
-- A memory as the table of its pages.
use Rattle.std.specs.Prelude.{◌≡◌, ℕ, ◌+◌, ◌-◌, ◌*◌, ◌/◌, ◌%◌, ◌^◌, ◌<◌, ◌≤◌, List, [], ◌∷◌, length, map, take, slice_index, nat_lt, Bool, true, false}
use Rattle.std.specs.List.{range_with_len}
use Rattle.rv_ram.specs.Bytes.{zeros}

-- whether a memory has 1 to 4096 pages of 4096 bytes
pub record HasPages (bs : List ℕ) : Type 0 where
  pub least : 4096 ≤ length bs
  pub most : length bs ≤ 2 ^ 24
  pub whole : length bs % 4096 ≡ 0

-- ---- pages in a block, which begins with a page of zeros: it is that of all pages that don't exist yet. The
-- bias of a page leads from the offsets in the memory to those in the block, modulo 2^32

-- where the byte at an offset lies in the block
abbrev pub place_of : List ℕ → ℕ → ℕ
place_of biases off = (off + slice_index biases (off / 4096)) % 2 ^ 32

-- where page p begins in the block
abbrev pub start_of : List ℕ → ℕ → ℕ
start_of biases p = (4096 * p + slice_index biases p) % 2 ^ 32

-- the bytes of the memory
unfoldable pub bytes_in : List ℕ → List ℕ → List ℕ
bytes_in block biases =
    map (λ off. slice_index block (place_of biases off)) (range_with_len 0 (4096 * length biases))

-- for each page whether it exists: it doesn't begin at the zeros
unfoldable pub made_in : List ℕ → List Bool
made_in biases = map (λ p. nat_lt 0 (start_of biases p)) (range_with_len 0 (length biases))

-- the number of pages that exist
abbrev pub made_count : List Bool → ℕ
made_count [] = 0
made_count (false ∷ made) = made_count made
made_count (true ∷ made) = 1 + made_count made

-- whether pages lie in the block: those that exist each for itself, behind the zeros
pub record IsTable (block biases : List ℕ) : Type 0 where
  pub some : 1 ≤ length biases
  pub most : length biases ≤ 4096
  pub size : length block ≡ 4096 * (1 + made_count (made_in biases))
  pub blank : take 4096 block ≡ zeros 4096
  pub inside : (p : ℕ) → p < length biases → start_of biases p + 4096 ≤ length block
  pub whole : (p : ℕ) → p < length biases → start_of biases p % 4096 ≡ 0
  pub apart : (p q : ℕ) → p < q → q < length biases → start_of biases p ≡ start_of biases q → start_of biases p ≡ 0

-- whether biases lead to pages of the block
unfoldable pub IsPaged : List ℕ → List ℕ → Type 0
IsPaged block biases = IsTable block biases

-- the biases of n pages, of which none exists yet
unfoldable pub blank_biases : ℕ → List ℕ
blank_biases n = map (λ p. (2 ^ 32 - 4096 * p) % 2 ^ 32) (range_with_len 0 n)
