use Rattle.std.proofs.Common.{◌≡◌, ◌++◌, length, is_some}
use Rattle.std.specs.Prelude.{IsTrue}
use Rattle.rv_tokens.specs.Support.Partial.{string_bytes}
use Rattle.rv_tokens.proofs.Escapes.{bytes_of}
use Rattle.rv_tokens.proofs.token.Text.append_to.Given as goal

abbrev pub invariant-loop-b : goal.invariant-loop-b
invariant-loop-b l = IsTrue (is_some (string_bytes l.rest))
    × (l.out.items ++ bytes_of l.rest ≡ l.initial.out.items ++ l.self)

abbrev pub decreases-loop-b : goal.decreases-loop-b
decreases-loop-b l = length l.rest
