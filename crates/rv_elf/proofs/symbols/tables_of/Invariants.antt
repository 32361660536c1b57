use Rattle.std.proofs.Common.{◌≡◌, ◌++◌, ◌+◌, drop, length}
use Rattle.rv_elf.specs.Support.Tables.{entries, names, table_of, strings_of, AreSmall, Within}
use Rattle.rv_elf.proofs.symbols.tables_of.Given as goal

abbrev pub invariant-loop-symbol : goal.invariant-loop-symbol
invariant-loop-symbol l = record {
  strings : l.out.strings.items ++ names (drop l.symbol-index l.symbols) ≡ strings_of l.symbols;
  table : l.out.table.items ++ entries (length l.out.strings.items) (drop l.symbol-index l.symbols)
      ≡ table_of l.symbols;
  size : length l.out.strings.items + length (names (drop l.symbol-index l.symbols)) ≡ length (strings_of l.symbols);
  small : AreSmall (drop l.symbol-index l.symbols) → AreSmall l.symbols;
  within : Within (length l.out.strings.items) (drop l.symbol-index l.symbols) → Within 1 l.symbols;
}
