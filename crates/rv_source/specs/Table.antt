-- The tables of the language, and the statement of a word with its operands.
-- To audit: public contracts cite this.
-- The language is this project's own: docs/ASSEMBLER.md.
use Rattle.std.specs.Prelude.{ℕ, true, false, ◌&&◌, List, map, slice_get, is_none, is_some, pos, negsuc, [], ◌∷◌, ◌++◌, Option, Some, None, option_and_then, if◌then◌else◌, Result, codes}
use Rattle.std.specs.List.{filter_map, list_all}
use Rattle.std.specs.Option.{option_map, option_map_or, ok_or}
use Rattle.std.specs.Str.{bytes_eq}
use Rattle.rv_isa.specs.Support.Mnemonics.{named, zeroed}
use Rattle.rv_isa.specs.declared.op.Operation.{Operation}
use Rattle.rv_isa.specs.declared.op.Operation.TheVariants as o
use Rattle.rv_isa.specs.declared.kind.Kind.{Kind}
use Rattle.rv_isa.specs.declared.kind.Kind.TheVariants as k
use Rattle.rv_isa.specs.declared.op.Width.TheVariants as width
use Rattle.rv_tokens.specs.declared.fault.LineFault.{LineFault}
use Rattle.rv_tokens.specs.declared.fault.LineFault.TheVariants.{UnknownWord, BadOperands}
use Rattle.rv_source.specs.declared.operand.Operand.{Operand}
use Rattle.rv_source.specs.declared.field.Fields.{Fields}
use Rattle.rv_source.specs.declared.statement.Statement.{Statement}
use Rattle.rv_source.specs.declared.statement.Statement.TheVariants as s
use Rattle.rv_source.specs.declared.row.Role.{Role}
use Rattle.rv_source.specs.declared.row.Role.TheVariants as r
use Rattle.rv_source.specs.declared.row.Template.{Template}
use Rattle.rv_source.specs.declared.row.Template.TheVariants as t
use Rattle.rv_source.specs.Operands.{strings}
use Rattle.rv_source.specs.Fields.{atom_alone, name_in, in_roles, unset, instruction, takes}

-- ---- the meaning of a row

-- the statement of a template with these operands, which gave These fields
unfoldable pub of_template : Template → List Operand → Fields → Option Statement
of_template (t.Near op) xs f =
    let kind = instruction op f in Some (option_map_or (λ x. s.WithValue kind x) f.value (s.Instruction kind))
of_template (t.Far op) xs f = option_map (λ x. s.Far f.rs1 (instruction op f) x) f.value
of_template t.Li xs f = option_map (λ x. s.Li f.rd x) f.value
of_template (t.Data width) xs f = Some (s.Data width xs)
of_template (t.Text terminated) xs f = Some (s.Bytes (strings terminated xs))
of_template t.Space xs f = option_map (λ x. s.Space x f.second) f.value
of_template t.Align xs f = option_map (λ x. s.Align x) f.value
of_template t.Balign xs f = option_map (λ x. s.Balign x) f.value
of_template t.Constant xs f =
    option_and_then (λ n. option_map (s.Constant n) f.second) (name_in (option_and_then atom_alone f.value))

-- a row: as many operands as there are roles, each in its role; or one or more, all of a form that one role takes
pub data Row : Type 0 where
  These : List Role → Template → Fields → Row
  Each : Role → Template → Row

-- the statement of a row with these operands, or None if it doesn't take them
abbrev pub meant : Row → List Operand → Option Statement
meant (These roles template fields) xs = option_and_then (of_template template xs) (in_roles roles xs fields)
meant (Each role template) xs =
    if is_some (slice_get xs 0) && list_all (λ x. takes role x.form) xs
    then of_template template xs unset else None

-- ---- the tables

abbrev pub near : Operation → List Role → Row
near op roles = These roles (t.Near op) unset

abbrev pub far : Operation → List Role → Row
far op roles = These roles (t.Far op) unset

-- the rows of an operation, by its kind
unfoldable pub of_kind : Operation → Kind → List Row
of_kind op (k.Lui _ _) = near op (r.Rd ∷ r.Upper ∷ []) ∷ []
of_kind op (k.Auipc _ _) = near op (r.Rd ∷ r.Value ∷ []) ∷ []
of_kind op (k.Jal _ _) = near op (r.Rd ∷ r.Value ∷ []) ∷ These (r.Value ∷ []) (t.Near op) (record unset { rd = 1 }) ∷ []
of_kind op (k.Jalr _ _ _) =
    near op (r.Rd ∷ r.Rs1 ∷ []) ∷ near op (r.Rd ∷ r.Memory ∷ []) ∷ near op (r.Rd ∷ r.Rs1 ∷ r.Imm ∷ [])
    ∷ These (r.Rs1 ∷ []) (t.Near op) (record unset { rd = 1 }) ∷ []
of_kind op (k.Branch _ _ _ _) = near op (r.Rs1 ∷ r.Rs2 ∷ r.Value ∷ []) ∷ []
of_kind op (k.Load _ _ _ _) = near op (r.Rd ∷ r.Memory ∷ []) ∷ far op (r.Both ∷ r.Value ∷ []) ∷ []
of_kind op (k.Store _ _ _ _) = near op (r.Rs2 ∷ r.Memory ∷ []) ∷ far op (r.Rs2 ∷ r.Value ∷ r.Rs1 ∷ []) ∷ []
of_kind op (k.OpImm _ _ _ _) = near op (r.Rd ∷ r.Rs1 ∷ r.Imm ∷ []) ∷ []
of_kind op (k.Shift _ _ _ _) = near op (r.Rd ∷ r.Rs1 ∷ r.Value ∷ []) ∷ []
of_kind op (k.Op _ _ _ _) = near op (r.Rd ∷ r.Rs1 ∷ r.Rs2 ∷ []) ∷ []
of_kind op (k.Fence _ _ _) = near op [] ∷ near op (r.Before ∷ r.After ∷ []) ∷ []
of_kind op (k.Csr _ _ _ _) = near op (r.Rd ∷ r.Csr ∷ r.Rs1 ∷ []) ∷ []
of_kind op (k.CsrImm _ _ _ _) = near op (r.Rd ∷ r.Csr ∷ r.Value ∷ []) ∷ []
of_kind op _ = near op [] ∷ []

-- the same row for some words
abbrev pub alike : List (List ℕ) → Row → List (List ℕ × Row)
alike names row = map (λ name. (name, row)) names

unfoldable pub pseudo_instructions : List (List ℕ × Row)
pseudo_instructions =
    (codes "nop", near o.Addi [])
    ∷ (codes "mv", near o.Addi (r.Rd ∷ r.Rs1 ∷ []))
    ∷ (codes "not", These (r.Rd ∷ r.Rs1 ∷ []) (t.Near o.Xori) (record unset { imm = negsuc 0 }))
    ∷ (codes "neg", near o.Sub (r.Rd ∷ r.Rs2 ∷ []))
    ∷ (codes "seqz", These (r.Rd ∷ r.Rs1 ∷ []) (t.Near o.Sltiu) (record unset { imm = pos 1 }))
    ∷ (codes "snez", near o.Sltu (r.Rd ∷ r.Rs2 ∷ []))
    ∷ (codes "sltz", near o.Slt (r.Rd ∷ r.Rs1 ∷ []))
    ∷ (codes "sgtz", near o.Slt (r.Rd ∷ r.Rs2 ∷ []))
    ∷ (codes "beqz", near o.Beq (r.Rs1 ∷ r.Value ∷ []))
    ∷ (codes "bnez", near o.Bne (r.Rs1 ∷ r.Value ∷ []))
    ∷ (codes "blez", near o.Bge (r.Rs2 ∷ r.Value ∷ []))
    ∷ (codes "bgez", near o.Bge (r.Rs1 ∷ r.Value ∷ []))
    ∷ (codes "bltz", near o.Blt (r.Rs1 ∷ r.Value ∷ []))
    ∷ (codes "bgtz", near o.Blt (r.Rs2 ∷ r.Value ∷ []))
    ∷ (codes "bgt", near o.Blt (r.Rs2 ∷ r.Rs1 ∷ r.Value ∷ []))
    ∷ (codes "ble", near o.Bge (r.Rs2 ∷ r.Rs1 ∷ r.Value ∷ []))
    ∷ (codes "bgtu", near o.Bltu (r.Rs2 ∷ r.Rs1 ∷ r.Value ∷ []))
    ∷ (codes "bleu", near o.Bgeu (r.Rs2 ∷ r.Rs1 ∷ r.Value ∷ []))
    ∷ (codes "j", near o.Jal (r.Value ∷ []))
    ∷ (codes "jr", near o.Jalr (r.Rs1 ∷ []))
    ∷ (codes "ret", These [] (t.Near o.Jalr) (record unset { rs1 = 1 }))
    ∷ (codes "csrr", near o.Csrrs (r.Rd ∷ r.Csr ∷ []))
    ∷ (codes "csrw", near o.Csrrw (r.Csr ∷ r.Rs1 ∷ []))
    ∷ (codes "csrs", near o.Csrrs (r.Csr ∷ r.Rs1 ∷ []))
    ∷ (codes "csrc", near o.Csrrc (r.Csr ∷ r.Rs1 ∷ []))
    ∷ (codes "csrwi", near o.Csrrwi (r.Csr ∷ r.Value ∷ []))
    ∷ (codes "csrsi", near o.Csrrsi (r.Csr ∷ r.Value ∷ []))
    ∷ (codes "csrci", near o.Csrrci (r.Csr ∷ r.Value ∷ []))
    ∷ (codes "li", These (r.Rd ∷ r.Value ∷ []) t.Li unset)
    ∷ (codes "call", These (r.Value ∷ []) (t.Far o.Jalr) (record unset { rd = 1; rs1 = 1 }))
    ∷ (codes "tail", These (r.Value ∷ []) (t.Far o.Jalr) (record unset { rs1 = 6 }))
    ∷ alike (codes "la" ∷ codes "lla" ∷ []) (far o.Addi (r.Both ∷ r.Value ∷ []))

-- the directives that take operands
unfoldable pub directives : List (List ℕ × Row)
directives =
    alike (codes ".word" ∷ codes ".long" ∷ codes ".4byte" ∷ []) (Each r.Value (t.Data width.Four))
    ++ alike (codes ".half" ∷ codes ".short" ∷ codes ".2byte" ∷ []) (Each r.Value (t.Data width.Two))
    ++ alike (codes ".byte" ∷ []) (Each r.Value (t.Data width.One))
    ++ alike (codes ".ascii" ∷ []) (Each r.Text (t.Text false))
    ++ alike (codes ".asciz" ∷ codes ".string" ∷ []) (Each r.Text (t.Text true))
    ++ alike (codes ".space" ∷ codes ".skip" ∷ codes ".zero" ∷ []) (These (r.Value ∷ []) t.Space unset)
    ++ alike (codes ".space" ∷ codes ".skip" ∷ codes ".zero" ∷ []) (These (r.Value ∷ r.Second ∷ []) t.Space unset)
    ++ alike (codes ".align" ∷ codes ".p2align" ∷ []) (These (r.Value ∷ []) t.Align unset)
    ++ alike (codes ".balign" ∷ []) (These (r.Value ∷ []) t.Balign unset)
    ++ alike (codes ".equ" ∷ codes ".set" ∷ []) (These (r.Symbol ∷ r.Second ∷ []) t.Constant unset)

-- the directives without effect, which any tokens may follow
unfoldable pub markers : List (List ℕ)
markers =
    codes ".text" ∷ codes ".data" ∷ codes ".rodata" ∷ codes ".bss" ∷ codes ".section" ∷ codes ".globl"
    ∷ codes ".global" ∷ codes ".local" ∷ codes ".option" ∷ codes ".type" ∷ codes ".size" ∷ codes ".file"
    ∷ codes ".ident" ∷ codes ".attribute" ∷ []

-- ---- the statement of a word

-- the statement of a word with these operands: that of its first row that takes them; E4 if it has no row,
-- else E5. Its rows are those of an operation, or of a pseudo-instruction or a directive.
unfoldable pub meaning : List ℕ → List Operand → Result Statement LineFault
meaning word xs =
    let rows = option_map_or (λ op. of_kind op (zeroed op)) (named word)
    (filter_map (λ x. if bytes_eq x.0 word then Some x.1 else None) (pseudo_instructions ++ directives)) in
    ok_or (slice_get (filter_map (λ row. meant row xs) rows) 0)
    (if is_none (slice_get rows 0) then UnknownWord else BadOperands)
