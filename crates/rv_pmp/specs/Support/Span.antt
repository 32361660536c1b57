-- Spans of bytes, and the region of an entry as a span, which the code computes when a register is written.
-- Not to audit: private contracts alone cite this.
use Rattle.std.specs.Prelude.{ℕ, ◌+◌, ◌*◌, ◌/◌, ◌^◌, Bool, ◌&&◌, nat_le, nat_lt, if◌then◌else◌}
use Rattle.rv_pmp.specs.declared.entry.Entry.{Entry}
use Rattle.rv_pmp.specs.declared.entry.Matching.{Matching}
use Rattle.rv_pmp.specs.declared.entry.Matching.TheVariants.{Off, Tor, Na4, Napot}
use Rattle.rv_pmp.specs.declared.span.Span.{Span}
use Rattle.rv_pmp.specs.Entry.{trailing_ones}
pub use Rattle.rv_pmp.specs.Widest.{holds}

-- whether a byte is one of those from `first` up to but not including `end`
abbrev pub is_between : ℕ → ℕ → ℕ → Bool
is_between first end byte = nat_le first byte && nat_lt byte end

abbrev pub no_bytes : Span
no_bytes = record { first = 0; end = 0 }

-- whether any of these bytes is in the span
abbrev pub meets : Span → ℕ → ℕ → Bool
meets span first end = nat_lt span.first end && nat_lt first span.end

-- the region of an entry that matches in this way, where `lower` is the address register of the entry before
abbrev pub span : Matching → ℕ → ℕ → Span
span Off lower address = no_bytes
span Tor lower address =
    if nat_lt lower address then record { first = 4 * lower; end = 4 * address } else no_bytes
span Na4 lower address = record { first = 4 * address; end = 4 * address + 4 }
span Napot lower address =
    let k = trailing_ones address in
    let first = address / 2 ^ (k + 1) * 2 ^ (k + 3) in
    record { first = first; end = first + 2 ^ (k + 3) }

unfoldable pub span_of : ℕ → Entry → Span
span_of lower entry = span entry.matching lower entry.address
