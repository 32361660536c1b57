use Rattle.std.proofs.Common.{rules}
use Rattle.rv_tokens.proofs.Cutting.{place_after}
use Rattle.rv_tokens.proofs.Longest.{longest_found}
use Rattle.rv_tokens.proofs.place.+place_in.Goals as goal

pub returns-clause-value : goal.returns-clause-value
returns-clause-value t c = search (rules, longest_found, place_after)
