use Rattle.std.proofs.Common.{◌≡◌, length, take}
use Rattle.rv_ram.specs.Support.Table.{blank_biases}
use Rattle.rv_ram.proofs.biases.Biases.new.Given as goal

abbrev pub invariant-loop-page : goal.invariant-loop-page
invariant-loop-page l = (length l.items ≡ 4096) × (take l.page l.items ≡ blank_biases l.page)
