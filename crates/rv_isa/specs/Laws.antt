-- To audit: public contracts cite this.
-- The table of instructions read backwards: what `means` is for a word, what `word`, `IsInRange` and `operation_of`
-- are for a kind, and `named` for a mnemonic. So the definitions of these aren't to audit.
use Rattle.std.specs.Prelude.{◌≡◌, ◌↔◌, ℕ, List, Some}
use Rattle.rv_isa.specs.Fields.{kind_of}
use Rattle.rv_isa.specs.Support.Kinds.{operation_of, word, IsInRange}
use Rattle.rv_isa.specs.Support.Mnemonics.{named}
use Rattle.rv_isa.specs.Support.Meaning.{means}
use Rattle.rv_isa.specs.Table.{mnemonic}
use Rattle.rv_isa.specs.Word.{Means}
use Rattle.rv_isa.specs.declared.fields.Fields.{Fields}
use Rattle.rv_isa.specs.declared.kind.Kind.{Kind}
use Rattle.rv_isa.specs.declared.op.Operation.{Operation}

-- a word has the meaning that `means` returns, and by `OneMeaning` it has no other
abbrev pub HasMeaning : Type 0
HasMeaning = (w : ℕ) → Means w (means w)

-- a word means a kind exactly if the kind is in range and has that word
abbrev pub OneWord : Type 0
OneWord = (w : ℕ) (k : Kind) → Means w (Some k) ↔ IsInRange k × (word k ≡ w)

-- the operation of a kind is that of any fields that make it
abbrev pub OneOperation : Type 0
OneOperation = (f : Fields) → operation_of (kind_of f) ≡ f.operation

-- a text names an operation exactly if it is its mnemonic: no two operations share one
abbrev pub OneMnemonic : Type 0
OneMnemonic = (text : List ℕ) (operation : Operation) → (named text ≡ Some operation) ↔ (mnemonic operation ≡ text)
