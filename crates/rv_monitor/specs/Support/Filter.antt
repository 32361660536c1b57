-- A filter that rules out most addresses as breakpoints.
-- Not to audit: private contracts alone cite this.
use Rattle.std.specs.Prelude.{◌≡◌, ℕ, ◌%◌, Bool, true, false, List, nat_eq}
use Rattle.std.specs.List.{slice_index_or, list_any}
use Rattle.rv_monitor.specs.declared.filter.BreakpointFilter.{BreakpointFilter}

-- whether an address's flag is on: the low byte of the address chooses the flag
abbrev pub may_contain : BreakpointFilter → ℕ → Bool
may_contain filter address = slice_index_or filter.flags (address % 256) false

-- the flag of each address of a list is on
abbrev pub MayContainAll : List ℕ → BreakpointFilter → Type 0
MayContainAll addresses filter =
    (address : ℕ) → list_any (nat_eq address) addresses ≡ true → may_contain filter address ≡ true
