-- The rows of the program's tables; and the form of a line by its parts.
-- Not to audit: private contracts alone cite this.
use Rattle.std.specs.Prelude.{ℕ, ◌-◌, pos, negsuc, Bool, false, not, List, [], ◌∷◌, ◌++◌, ◌==◌, length, map, slice_get, is_none, Option, Some, None, option_and_then, Result, Ok, if◌then◌else◌, codes}
use Rattle.std.specs.List.{filter_map, list_any, slice_split}
use Rattle.std.specs.Option.{option_map, ok_or}
use Rattle.std.specs.Str.{bytes_eq}
use Rattle.std.specs.Borrow.{Bor}
use Rattle.rv_tokens.specs.declared.token.Token.{Token}
use Rattle.rv_tokens.specs.declared.token.Token.TheVariants.{Name, Colon}
use Rattle.rv_tokens.specs.Support.Cuts.{tokens}
use Rattle.rv_tokens.specs.Faults.{◌>>=◌}
use Rattle.rv_tokens.specs.declared.fault.LineFault.{LineFault}
use Rattle.rv_tokens.specs.declared.fault.LineFault.TheVariants.{Syntax, BadOperands}
use Rattle.rv_source.specs.Operands.{is_comma, operands_of}
use Rattle.rv_source.specs.declared.operand.Form.TheVariants as value
use Rattle.rv_source.specs.declared.operand.Part.{Part}
use Rattle.rv_source.specs.declared.operand.Part.TheVariants.{Whole}
use Rattle.rv_source.specs.declared.operand.Operand.{Operand}
use Rattle.rv_source.specs.declared.statement.Statement.{Statement}
use Rattle.rv_source.specs.declared.line.Label.{Label}
use Rattle.rv_source.specs.declared.line.Body.{Body}
use Rattle.rv_source.specs.declared.line.Body.TheVariants as b
use Rattle.rv_source.specs.declared.row.Row.{Row as Written}
use Rattle.rv_source.specs.declared.row.Row.TheVariants as row
use Rattle.rv_source.specs.declared.row.Way.{Way}
use Rattle.rv_source.specs.declared.row.Way.TheVariants as way
use Rattle.rv_source.specs.declared.row.Template.TheVariants as t
use Rattle.rv_source.specs.declared.row.Given.{Given}
use Rattle.rv_source.specs.declared.row.Given.TheVariants as g
use Rattle.rv_isa.specs.declared.op.Operation.{Operation}
use Rattle.rv_source.specs.declared.field.Fields.{Fields}
use Rattle.rv_source.specs.Fields.{unset, atom_alone, name_in}
use Rattle.rv_source.specs.Reading.{label_of}
use Rattle.rv_source.specs.Table.{Row, These, Each, meant, near, far, pseudo_instructions, directives, markers}

-- ---- operands

-- whether a name is a symbol: one other than `.`
abbrev pub is_symbol : List ℕ → Bool
is_symbol name = not (bytes_eq name (codes "."))

-- the name that an operand is
abbrev pub name_alone : Operand → Option (List ℕ)
name_alone x = name_in (atom_alone x)

-- tokens cut at commas
abbrev pub pieces : List Token → List (List Token)
pieces ts = slice_split is_comma ts

-- the part of the value of an operand
abbrev pub part_of : Operand → Part
part_of x = elim x.form as (λ _. Part) [ value.Value part e base ↦ part | value.Text bytes ↦ Whole ]

-- the pieces of what follows a piece: nothing, or a comma and others
abbrev pub pieces_after : List Token → List (List Token)
pieces_after [] = []
pieces_after (_ ∷ ts) = pieces ts

-- ---- rows

-- the fields before operands are read
abbrev pub given : Given → Fields
given g.Zeros = unset
given g.Link = record unset { rd = 1 }
given g.Return = record unset { rs1 = 1 }
given g.Call = record unset { rd = 1; rs1 = 1 }
given g.Tail = record unset { rs1 = 6 }
given g.One = record unset { imm = pos 1 }
given g.Ones = record unset { imm = negsuc 0 }

-- the rows of a word in a table, the statement of the first row that takes the operands, and all rows of
-- words
abbrev pub of_word : List ℕ → List (List ℕ × Row) → List Row
of_word word rows = filter_map (λ row. if bytes_eq row.0 word then Some row.1 else None) rows

abbrev pub first_fit : List Operand → List Row → Option Statement
first_fit xs rows = slice_get (filter_map (λ row. meant row xs) rows) 0

abbrev pub words : List (List ℕ × Row)
words = pseudo_instructions ++ directives

-- a row of the program, as a row of the language
abbrev pub row_of : Written → Row
row_of (row.These roles template fields) = These roles.now template (given fields)
row_of (row.Each role template) = Each role template

-- the row of an operation that is written in a way
abbrev pub row_by : Operation → Way → Row
row_by op (way.Near roles) = near op roles.now
row_by op (way.Link roles) = These roles.now (t.Near op) (record unset { rd = 1 })
row_by op (way.Far roles) = far op roles.now

-- a table of the program, with its words as bytes
abbrev pub rows : List (Bor (List ℕ) × Written) → List (List ℕ × Row)
rows table = map (λ entry. (entry.0.now, row_of entry.1)) table

-- the statement of the first of these rows that takes the operands, or a fault: this one if there are no rows
abbrev pub fitted_or : LineFault → List Operand → List Row → Result Statement LineFault
fitted_or unless xs rows = ok_or (first_fit xs rows) (if is_none (slice_get rows 0) then unless else BadOperands)

-- whether a word begins with `.`
abbrev pub has_dot : List ℕ → Bool
has_dot [] = false
has_dot (b ∷ bs) = b == 46

-- labels in front of others, and the tokens after them all
abbrev pub with_labels : List Label → Option (List Label × List Token) → Option (List Label × List Token)
with_labels labels read = option_map (λ p. (labels ++ p.0, p.1)) read

abbrev pub left_after : List Label → Option (Bor (List Token)) → Option (List Label × List Token)
left_after labels rest = option_map (λ ts. (labels, ts.now)) rest

-- whether a word is a directive without effect
abbrev pub is_marker : List ℕ → Bool
is_marker word = list_any (λ marker. bytes_eq marker word) markers

-- ---- the form of a line

abbrev pub LineForm : Type 0
LineForm = List Label × Body

-- labels, and the tokens after them
unfoldable pub labels_of : List Token → Option (List Label × List Token)
labels_of (t ∷ Colon ∷ ts) =
    option_and_then (λ l. option_map (λ p. (l ∷ p.0, p.1)) (labels_of ts)) (label_of t)
labels_of ts = Some ([], ts)

-- what follows the labels of a line of n tokens
abbrev pub body_of : ℕ → List Token → Option Body
body_of n [] = Some b.Nothing
body_of n (Name word ∷ ts) =
    if list_any (λ marker. bytes_eq marker word) markers then Some b.Marker
    else option_map (λ xs. b.Word word xs) (operands_of (n - length ts) ts)
body_of n _ = None

-- the form of a line, by its labels and then its body
unfoldable pub form_by_parts : List ℕ → Result (List Label × Body) LineFault
form_by_parts line =
    tokens line >>= λ ts. ok_or (labels_of ts) Syntax >>= λ p.
    ok_or (body_of (length ts) p.1) Syntax >>= λ body. Ok (p.0, body)
