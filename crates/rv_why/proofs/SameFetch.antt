-- What is fetched of a board is what its machine fetches.
use Rattle.std.proofs.lemmas.Bool.Decides.{nat_tests}
use Rattle.std.proofs.Common.{rules, ◌≡◌, ◌∙◌, ℕ, ◌+◌, ◌-◌, ◌%◌, ◌^◌, ◌<◌, ◌≤◌, List, length, refl, ap, arith}
use Rattle.std.specs.Prelude.{slice_get, slice_index, Option, Some, None}
use Rattle.std.specs.Result.{result_ok}
use Rattle.std.proofs.lemmas.Bool.{cases_lt, le-leb, lt-leb}
use Rattle.std.proofs.lemmas.Option.{slice_get-get_or, slice_get_cases}
use Rattle.rv_ram.specs.Bytes.{value_at}
use Rattle.rv_ram.proofs.Value.{word_value}
use Rattle.rv_bus.specs.Access.{fetch, ram_byte}
use Rattle.rv_hart.specs.Fetch.{fetch_result}
use Rattle.rv_board.specs.BoardState.{BoardState}
use Rattle.rv_monitor.specs.Support.Labels.{word_from}
use Rattle.rv_monitor.specs.Views.{byte_at_offset, word_at}
use Rattle.rv_monitor.proofs.Words.{word_is}
use Rattle.rv_why.specs.Why.{fetched}

from_bytes : (ram : List ℕ) (i : ℕ) (p q r s : Option ℕ) → p ≡ Some (slice_index ram i)
    → q ≡ Some (slice_index ram (i + 1)) → r ≡ Some (slice_index ram (i + 2)) → s ≡ Some (slice_index ram (i + 3))
    → word_from p q r s ≡ Some (value_at ram i 4)
from_bytes ram i p q r s e f g h = rw (e, f, g, h) (ap (λ (w : ℕ). Some w) (word_value ram i))

module _ (b : BoardState) (a : ℕ) (even : a % 4 ≡ 0) (small : a < 2 ^ 32) where
  abbrev ram : List ℕ
  ram = b.machine.bus.ram

  module _ (above : 2147483648 ≤ a) (whole : length ram % 4 ≡ 0) (within : a - 2147483648 < length ram) where
    byte_is : (i : ℕ) → i < 4 → byte_at_offset b a i ≡ Some (slice_index ram ((a - 2147483648) + i))
    byte_is i l = search (rules, arith, nat_tests, le-leb, slice_get-get_or)

    first_byte : byte_at_offset b a 0 ≡ Some (slice_index ram (a - 2147483648))
    first_byte = search (rules, arith, nat_tests, le-leb, slice_get-get_or)

    here : ram_byte ram a ≡ Some (slice_index ram (a - 2147483648))
    here = search (rules, arith, nat_tests, le-leb, slice_get-get_or)

    same_inside : word_at b a ≡ fetch ram a
    unfolding fetch
    same_inside = search (rules, arith, nat_tests, word_is, from_bytes, first_byte, byte_is, here)

  module _ (none : ram_byte ram a ≡ None) where
    no_byte : byte_at_offset b a 0 ≡ None
    no_byte = let same : (a + 0) % 2 ^ 32 ≡ a = omega (arith, small) in ap (ram_byte ram) same ∙ none

    same_outside : word_at b a ≡ fetch ram a
    unfolding fetch
    same_outside = word_is b a ∙ rw (no_byte, none) refl

  below : a < 2147483648 → ram_byte ram a ≡ None
  below l = rw (lt-leb 2147483648 a l) refl

  past : 2147483648 ≤ a → slice_get ram (a - 2147483648) ≡ None → ram_byte ram a ≡ None
  past above e = rw (le-leb 2147483648 a above) e

  pub same_word : length ram % 4 ≡ 0 → word_at b a ≡ fetch ram a
  same_word whole = search (rules, arith, nat_tests, same_outside, below, same_inside, past, slice_get_cases, cases_lt)

pub fetches_same : (b : BoardState) → b.machine.pc % 4 ≡ 0 → b.machine.pc < 2 ^ 32 → length b.machine.bus.ram % 4 ≡ 0
    → result_ok (fetched b) ≡ result_ok (fetch_result b.machine)
unfolding fetched fetch_result
fetches_same b even small whole = search (rules, arith, nat_tests, same_word)
