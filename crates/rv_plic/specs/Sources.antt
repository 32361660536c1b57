-- To audit: public contracts cite this.
-- Sets of interrupt sources, and their words in registers (PLIC Specification 1.0, "Interrupt Pending Bits"
-- and "Interrupt Enables": bit s of a word is for source s, and there is no source 0).
use Rattle.std.specs.Prelude.{ℕ, ◌^◌, ◌==◌, if◌then◌else◌, List, filter}
use Rattle.std.specs.Ordering.{nat_cmp}
use Rattle.std.specs.FinSet.{FinSet, contains, from_list}
use Rattle.std.specs.Int.{bit_at}
use Rattle.std.specs.List.{range_with_len, sum_by}

-- the 31 sources, 1 to 31
unfoldable pub sources : List ℕ
sources = range_with_len 1 31

-- a set of sources
abbrev pub Sources : Type 0
Sources = FinSet nat_cmp

-- the sources whose bit is 1 in a word
unfoldable pub sources_of : ℕ → Sources
sources_of word = from_list (filter (λ s. bit_at word s == 1) sources)

-- the word whose bit s is 1 for each source s of a set
unfoldable pub word_of : Sources → ℕ
word_of set = sum_by (λ s. if contains set s then 2 ^ s else 0) sources
