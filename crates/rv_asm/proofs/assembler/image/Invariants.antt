use Rattle.std.proofs.Common.{◌≡◌, ◌++◌, [], drop}
use Rattle.std.specs.List.{flat_map}
use Rattle.rv_asm.specs.Support.Steps.{item_faults, item_listed}
use Rattle.rv_asm.proofs.assembler.image.Given as goal

abbrev pub invariant-loop-item : goal.invariant-loop-item
invariant-loop-item l =
    record {
      faults : l.faults.items ++ flat_map (item_faults l.symbols) (drop l.item-index l.items)
          ≡ flat_map (item_faults l.symbols) l.items;
      bytes : l.faults.items ≡ [] → l.out.items ++ flat_map (item_listed l.symbols) (drop l.item-index l.items)
          ≡ flat_map (item_listed l.symbols) l.items;
    }
