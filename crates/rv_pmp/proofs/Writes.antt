-- The entries after a write.
use Rattle.std.proofs.Common.{rules, ◌≡◌, ◌≢◌, ℕ}
use Rattle.std.proofs.lemmas.Option.{slice_get-get_or, slice_get_past}
use Rattle.std.proofs.lemmas.List.Elements.{All-set, All-get_or}
use Rattle.rv_pmp.specs.declared.entry.Matching.TheVariants.{Napot}
use Rattle.rv_pmp.specs.Entry.{matching_of}

-- the way to match of the values from 3 on
pub matching_rest : (code : ℕ) → code ≢ 0 → code ≢ 1 → code ≢ 2 → matching_of code ≡ Napot
unfolding matching_of
matching_rest code a b c = search rules

pub ruleset entry_steps = (slice_get-get_or, slice_get_past, All-set, All-get_or)
