-- The symbols of a source, and the values of expressions.
-- To audit: public contracts cite this.
-- The language is this project's own: docs/ASSEMBLER.md.
use Rattle.std.specs.Prelude.{ℕ, List, [], ◌∷◌, ◌++◌, ℤ, pos, ◌+ℤ◌, ◌-ℤ◌, filter, Option, Some, None, option_and_then, ◌==◌, nat_le, nat_lt, if◌then◌else◌}
use Rattle.std.specs.List.{find, last_or}
use Rattle.std.specs.Option.{option_map}
use Rattle.rv_base.specs.Tables.{lookup}
use Rattle.rv_source.specs.declared.expression.Atom.{Atom}
use Rattle.rv_source.specs.declared.expression.Atom.TheVariants.{Number, Character, Symbol, Local, Here}
use Rattle.rv_source.specs.declared.expression.Term.{Term}
use Rattle.rv_source.specs.declared.operand.Operand.{Operand}
use Rattle.rv_source.specs.Operands.{terms_of}
use Rattle.rv_tokens.specs.declared.token.Direction.{Direction}
use Rattle.rv_tokens.specs.declared.token.Direction.TheVariants.{Backward, Forward}
use Rattle.rv_asm.specs.declared.locals.LocalLabel.{LocalLabel}

-- the names and local labels of a source with their values, in order of definition
pub record Definitions : Type 0 where
  pub names : List (List ℕ × ℤ)
  pub locals : List LocalLabel

-- definitions, and others after them
abbrev pub followed : Definitions → List (List ℕ × ℤ) → List LocalLabel → Definitions
followed ds names locals = record { names = ds.names ++ names; locals = ds.locals ++ locals }

-- the nearest of the definitions of a number: `b` means the last on this line or a line before it, `f` the first
-- on a line after it
abbrev pub nearest : List LocalLabel → ℕ → Direction → Option LocalLabel
nearest ds line Backward = last_or None (filter (λ d. nat_le d.line line) ds)
nearest ds line Forward = find (λ d. nat_lt line d.line) ds

-- the value of an atom on a line, in a statement at the address `here`
abbrev pub atom_value : Definitions → ℕ → ℕ → Atom → Option ℤ
atom_value ds line here (Number n) = Some (pos n)
atom_value ds line here (Character b) = Some (pos b)
atom_value ds line here (Symbol name) = lookup name ds.names
atom_value ds line here (Local number direction) =
    option_map (λ d. pos d.address) (nearest (filter (λ d. d.number == number) ds.locals) line direction)
atom_value ds line here Here = Some (pos here)

-- the value of an expression: the sum of its terms as whole numbers, if each atom has a value
unfoldable pub sum_value : Definitions → ℕ → ℕ → List Term → Option ℤ
sum_value ds line here [] = Some (pos 0)
sum_value ds line here (t ∷ ts) =
    option_and_then (λ v. option_map (λ w. if t.negative then w -ℤ v else w +ℤ v) (sum_value ds line here ts))
    (atom_value ds line here t.atom)

-- the value of an operand
abbrev pub operand_value : Definitions → ℕ → ℕ → Operand → Option ℤ
operand_value ds line here x = sum_value ds line here (terms_of x)
