-- The word at an address, by its four bytes.
use Rattle.std.proofs.Common.{◌≡◌, ℕ, arith, rules}
use Rattle.rv_board.specs.Support.State.{BoardState}
use Rattle.rv_ram.specs.Bytes.{value_at}
use Rattle.rv_timeline.specs.Timed.{all_of}
use Rattle.rv_monitor.specs.Support.Labels.{word_from}
use Rattle.rv_monitor.specs.Views.{byte_at_offset, word_at}

pub word_is : (b : BoardState) (addr : ℕ) → word_at b addr
    ≡ word_from (byte_at_offset b addr 0) (byte_at_offset b addr 1) (byte_at_offset b addr 2) (byte_at_offset b addr 3)
unfolding word_at all_of value_at
word_is b addr = search (rules, arith)
