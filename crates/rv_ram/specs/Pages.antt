-- The pages of a memory, each of 4096 bytes (own definition; docs/ARCHITECTURE.md).
-- To audit: public contracts cite this.
use Rattle.std.specs.Prelude.{ℕ, ◌*◌, ◌/◌, ◌%◌, ◌==◌, ◌&&◌, ◌||◌, not, Bool, false, List, take, drop, replicate, slice_index_or, slice_set}
use Rattle.std.specs.List.{list_all}
use Rattle.rv_isa.specs.declared.op.Width.{Width}
use Rattle.rv_isa.specs.declared.op.Width.TheVariants.{One, Two, Four}

-- a memory that is allocated page by page: its bytes, and for each page of 4096 of them whether it exists
pub record PagedBytes : Type 0 where
  pub bytes : List ℕ
  pub made : List Bool

-- none of the pages exists
unfoldable pub none_made : ℕ → List Bool
none_made pages = replicate pages false

-- whether the page at an offset exists
abbrev pub is_made : List Bool → ℕ → Bool
is_made made off = slice_index_or made (off / 4096) false

-- whether the low bytes of a value are all zero
abbrev pub is_zero : Width → ℕ → Bool
is_zero One v = v % 256 == 0
is_zero Two v = v % 65536 == 0
is_zero Four v = v == 0

-- whether all bytes of the page at an offset are zero
unfoldable pub is_zero_page : List ℕ → ℕ → Bool
is_zero_page bs off = list_all (λ byte. byte == 0) (take 4096 (drop (4096 * (off / 4096)) bs))

-- whether a write may have to make room: it stores something other than zeros in a page that has only zeros
abbrev pub wants_page : List ℕ → ℕ → Width → ℕ → Bool
wants_page bs off w v = not (is_zero w v) && is_zero_page bs off

-- whether a write makes its page: it is the first to store something other than zeros there
abbrev pub makes_page : List Bool → ℕ → Width → ℕ → Bool
makes_page made off w v = not (is_zero w v) && not (is_made made off)

-- the pages that exist after a write: those that did before, and its own if it stores something other than
-- zeros
abbrev pub made_after : List Bool → ℕ → Width → ℕ → List Bool
made_after made off w v = slice_set made (off / 4096) (is_made made off || not (is_zero w v))
