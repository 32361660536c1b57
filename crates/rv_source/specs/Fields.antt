-- What the operands of a row give: the fields of an instruction, and the values that it waits for.
-- To audit: public contracts cite this.
-- The language is this project's own: docs/ASSEMBLER.md.
use Rattle.std.specs.Prelude.{ℕ, ℤ, ◌+◌, ◌*◌, Bool, true, false, List, [], ◌∷◌, Option, Some, None, option_and_then, if◌then◌else◌, ◌==◌, nat_lt, slice_get, pos, codes}
use Rattle.std.specs.Option.{option_map}
use Rattle.rv_base.specs.Tables.{lookup}
use Rattle.rv_isa.specs.Names.{register_names, csr_names}
use Rattle.rv_isa.specs.Fields.{kind_of}
use Rattle.rv_isa.specs.Support.Mnemonics.{zeroed, with_fields}
use Rattle.rv_isa.specs.declared.op.Operation.{Operation}
use Rattle.rv_isa.specs.declared.kind.Kind.{Kind}
use Rattle.rv_isa.specs.declared.kind.Kind.TheVariants as k
use Rattle.rv_source.specs.declared.expression.Atom.{Atom}
use Rattle.rv_source.specs.declared.expression.Atom.TheVariants as a
use Rattle.rv_source.specs.declared.operand.Part.TheVariants.{Whole, High, Low}
use Rattle.rv_source.specs.declared.operand.Form.{Form}
use Rattle.rv_source.specs.declared.operand.Form.TheVariants as f
use Rattle.rv_source.specs.declared.operand.Operand.{Operand}
use Rattle.rv_source.specs.declared.field.Fields.{Fields}
use Rattle.rv_source.specs.declared.row.Role.{Role}
use Rattle.rv_source.specs.declared.row.Role.TheVariants as r
use Rattle.rv_source.specs.Operands.{terms_of}

-- ---- operands in their roles

-- the atom that an operand of one token is
abbrev pub atom_alone : Operand → Option Atom
atom_alone x = if x.count == 1 then option_map (λ t. t.atom) (slice_get (terms_of x) 0) else None

-- the name that an atom is
abbrev pub name_in : Option Atom → Option (List ℕ)
name_in (Some (a.Symbol name)) = Some name
name_in _ = None

-- what a table has for the name that an operand is
abbrev pub entry_in : {A : Type 0} → List (List ℕ × A) → Operand → Option A
entry_in table x = option_and_then (λ n. lookup n table) (name_in (atom_alone x))

-- the control register of a name, or of a number of twelve bits
abbrev pub csr_of : Atom → Option ℕ
csr_of (a.Symbol name) = lookup name csr_names
csr_of (a.Number n) = if nat_lt n 4096 then Some n else None
csr_of _ = None

-- the sets of accesses, each with the sum of i 8, o 4, r 2 and w 1
unfoldable pub fence_sets : List (List ℕ × ℕ)
fence_sets =
    (codes "w", 1) ∷ (codes "r", 2) ∷ (codes "rw", 3) ∷ (codes "o", 4) ∷ (codes "ow", 5) ∷ (codes "or", 6)
    ∷ (codes "orw", 7) ∷ (codes "i", 8) ∷ (codes "iw", 9) ∷ (codes "ir", 10) ∷ (codes "irw", 11) ∷ (codes "io", 12)
    ∷ (codes "iow", 13) ∷ (codes "ior", 14) ∷ (codes "iorw", 15) ∷ []

-- whether a role takes a form: a string; or a value without a base, whole or the part that its role also
-- takes
abbrev pub takes : Role → Form → Bool
takes r.Text (f.Text bytes) = true
takes r.Text _ = false
takes r.Imm (f.Value Low e None) = true
takes r.Upper (f.Value High e None) = true
takes role (f.Value Whole e None) = true
takes role _ = false

-- the register of a base
abbrev pub base : Form → Option ℕ
base (f.Value part e (Some name)) = lookup name register_names
base _ = None

-- the fields with an operand in its role; the value of the last roles is waited for
unfoldable pub in_role : Role → Operand → Fields → Option Fields
in_role r.Rd x fields = option_map (λ n. record fields { rd = n }) (entry_in register_names x)
in_role r.Rs1 x fields = option_map (λ n. record fields { rs1 = n }) (entry_in register_names x)
in_role r.Rs2 x fields = option_map (λ n. record fields { rs2 = n }) (entry_in register_names x)
in_role r.Both x fields = option_map (λ n. record fields { rd = n; rs1 = n }) (entry_in register_names x)
in_role r.Csr x fields = option_map (λ n. record fields { csr = n }) (option_and_then csr_of (atom_alone x))
in_role r.Before x fields = option_map (λ n. record fields { before = n }) (entry_in fence_sets x)
in_role r.After x fields = option_map (λ n. record fields { after = n }) (entry_in fence_sets x)
in_role r.Memory x fields = option_map (λ n. record fields { rs1 = n; value = Some x }) (base x.form)
in_role r.Symbol x fields = option_map (λ n. record fields { value = Some x }) (name_in (atom_alone x))
in_role r.Second x fields = if takes r.Second x.form then Some (record fields { second = Some x }) else None
in_role role x fields = if takes role x.form then Some (record fields { value = Some x }) else None

-- the fields with as many operands as there are roles, each in its role
unfoldable pub in_roles : List Role → List Operand → Fields → Option Fields
in_roles [] [] fields = Some fields
in_roles (role ∷ roles) (x ∷ xs) fields = option_and_then (in_roles roles xs) (in_role role x fields)
in_roles _ _ fields = None

-- the fields before operands are read, but for what a row gives; a fence orders all before all after it
abbrev pub unset : Fields
unset = record { rd = 0; rs1 = 0; rs2 = 0; imm = pos 0; csr = 0; before = 15; after = 15; value = None; second = None }

-- ---- instructions

-- the immediate of an instruction of this kind; 0 where it waits for a value
abbrev pub immediate_of : Kind → Fields → ℤ
immediate_of (k.OpImm _ _ _ _) f = f.imm
immediate_of (k.Csr _ _ _ _) f = pos f.csr
immediate_of (k.CsrImm _ _ _ _) f = pos f.csr
immediate_of (k.Fence _ _ _) f = pos (16 * f.before + f.after)
immediate_of _ f = pos 0

-- the instruction of an operation with these fields; the field of a value that it waits for is 0
unfoldable pub instruction : Operation → Fields → Kind
instruction operation f = kind_of (with_fields operation f.rd f.rs1 f.rs2 (immediate_of (zeroed operation) f))
