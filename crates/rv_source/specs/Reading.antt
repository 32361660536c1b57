-- The labels and the statement of a line, or its fault.
-- To audit: public contracts cite this.
-- The language is this project's own: docs/ASSEMBLER.md.
use Rattle.std.specs.Prelude.{ℕ, ◌-◌, not, List, [], ◌∷◌, length, Option, Some, None, option_and_then, Result, Ok, if◌then◌else◌, codes}
use Rattle.std.specs.List.{list_any}
use Rattle.std.specs.Option.{option_map, ok_or}
use Rattle.std.specs.Str.{bytes_eq}
use Rattle.rv_tokens.specs.declared.fault.LineFault.{LineFault}
use Rattle.rv_tokens.specs.declared.fault.LineFault.TheVariants.{Syntax}
use Rattle.rv_tokens.specs.declared.token.Token.{Token}
use Rattle.rv_tokens.specs.declared.token.Token.TheVariants.{Name, Digits, Colon}
use Rattle.rv_tokens.specs.Faults.{◌>>=◌}
use Rattle.rv_tokens.specs.Support.Cuts.{tokens}
use Rattle.rv_source.specs.declared.line.Label.{Label}
use Rattle.rv_source.specs.declared.line.Label.TheVariants as label
use Rattle.rv_source.specs.declared.line.Body.{Body}
use Rattle.rv_source.specs.declared.line.Body.TheVariants as b
use Rattle.rv_source.specs.declared.statement.Statement.{Statement}
use Rattle.rv_source.specs.declared.statement.Statement.TheVariants as s
use Rattle.rv_source.specs.Operands.{operands_of}
use Rattle.rv_source.specs.Table.{markers, meaning}

-- ---- the form of a line, or E1 to E3

-- the label of a token before a colon: a name other than `.`, or a short number
abbrev pub label_of : Token → Option Label
label_of (Name name) = if not (bytes_eq name (codes ".")) then Some (label.Name name) else None
label_of (Digits n) = Some (label.Local n)
label_of _ = None

-- The form of tokens, the last of the n of a line: labels, and what follows them, which is nothing, or a word
-- and its operands, which may be any tokens if the word is a marker.
unfoldable pub form : ℕ → List Token → Option (List Label × Body)
form n (t ∷ Colon ∷ ts) = option_and_then (λ l. option_map (λ w. (l ∷ w.0, w.1)) (form n ts)) (label_of t)
form n [] = Some ([], b.Nothing)
form n (Name word ∷ ts) =
    if list_any (λ marker. bytes_eq marker word) markers then Some ([], b.Marker)
    else option_map (λ xs. ([], b.Word word xs)) (operands_of (n - length ts) ts)
form n _ = None

-- A fault in cutting the line into tokens takes precedence.
unfoldable pub line_form : List ℕ → Result (List Label × Body) LineFault
line_form line = tokens line >>= λ ts. ok_or (form (length ts) ts) Syntax

-- ---- its statement, or E4 and E5

abbrev pub statement_of : Body → Result (Option Statement) LineFault
statement_of b.Nothing = Ok None
statement_of b.Marker = Ok (Some s.Marker)
statement_of (b.Word word xs) = meaning word xs >>= λ statement. Ok (Some statement)

-- ---- both

-- a line as read: its labels from left to right, and its statement
pub record Parsed : Type 0 where
  pub labels : List Label
  pub statement : Option Statement

unfoldable pub parsed : List ℕ → Result Parsed LineFault
parsed line = line_form line >>= λ w. statement_of w.1 >>= λ s. Ok (record { labels = w.0; statement = s })
