-- Pieces that are appended one after another.
use Rattle.std.proofs.Common.{rules, ℕ, List, [], ◌++◌, append-nil, append_assoc}
use Rattle.rv_answers.specs.Printer.{Written, Appended}

pub then : (a b c : Written) (p q : List ℕ) → Appended a b p → Appended b c q → Appended a c (p ++ q)
then a b c p q e f = search (rules, append_assoc)

pub nothing : (a : Written) → Appended a a []
nothing a = search (rules, append-nil)
