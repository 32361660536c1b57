use Rattle.std.proofs.Common.{◌≡◌, fold}
use Rattle.rv_asm.specs.Seen.{seen}
use Rattle.rv_convention.specs.Profile.{placed, told}
use Rattle.rv_convention.proofs.Tallies.{rows_from}
use Rattle.rv_convention.proofs.rows.told.Given as goal

abbrev pub invariant-loop-index : goal.invariant-loop-index
invariant-loop-index l = fold placed l.rows.items (rows_from (seen l.listing) l.lines l.part l.index)
    ≡ told (seen l.listing) l.lines l.part
