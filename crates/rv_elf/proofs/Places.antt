-- Where the bytes of sections lie.
use Rattle.std.proofs.Common.{ℕ, ◌+◌, ◌<◌, ◌≤◌, List, length, take, get_or}
use Rattle.std.proofs.lemmas.List.Folds.{length-flat_map-take}
use Rattle.rv_elf.specs.Elf.{Section, no_section}
use Rattle.rv_elf.specs.Support.Written.{bodies}

pub part_fits : (ss : List Section) (k : ℕ) → k < length ss →
    length (bodies (take k ss)) + length (get_or ss k no_section).contents ≤ length (bodies ss)
part_fits ss k below = length-flat_map-take (λ s. s.contents) ss k no_section below
