use Rattle.std.proofs.Common.{◌≡◌, ◌≤◌, ◌+◌, length, is_some}
use Rattle.std.specs.Prelude.{IsTrue}
use Rattle.rv_tokens.specs.Support.Partial.{string_bytes}
use Rattle.rv_tokens.proofs.Escapes.{bytes_of}
use Rattle.rv_tokens.proofs.token.Text.len.Given as goal

abbrev pub invariant-loop-n : goal.invariant-loop-n
invariant-loop-n l = IsTrue (is_some (string_bytes l.rest)) × (l.count + length (bytes_of l.rest) ≡ length l.self)
    × (l.count + length l.rest ≤ length l.initial.rest)

abbrev pub decreases-loop-n : goal.decreases-loop-n
decreases-loop-n l = length l.rest
