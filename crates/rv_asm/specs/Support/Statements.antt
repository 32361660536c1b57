-- What a statement stands for by its constant, the value that must be known on its line; what is kept of it until
-- all symbols are known; results whose faults have no line yet; and lists of local labels.
-- The language is this project's own: docs/ASSEMBLER.md.
-- Not to audit: private contracts alone cite this.
use Rattle.std.specs.Prelude.{◌≡◌, ℕ, ◌+◌, ◌%◌, ◌^◌, nat_lt, Bool, not, List, [], ◌∷◌, replicate, ℤ, pos, Option, Some, None, Result, Ok, Err, zero, suc, filter, ◌++◌, negsuc, ◌+ℤ◌, ◌-ℤ◌, ◌≤ℤ◌, ◌==◌, if◌then◌else◌, get_or, slice_get, option_and_then, is_none}
use Rattle.std.specs.Option.{unwrap_or, option_map, ok_or}
use Rattle.rv_base.specs.Limits.{ram_base, image_limit}
use Rattle.rv_isa.specs.Number.{modulo}
use Rattle.rv_source.specs.declared.operand.Operand.{Operand}
use Rattle.rv_source.specs.declared.statement.Statement.{Statement}
use Rattle.rv_source.specs.declared.statement.Statement.TheVariants as s
use Rattle.rv_program.specs.declared.fault.FaultKind.{FaultKind}
use Rattle.rv_asm.specs.Values.{is_word, field, far_distance, hi, lo}
use Rattle.rv_asm.specs.Listing.{◌>>=◌, Emitted, bytes_in, emitted, code}
use Rattle.rv_asm.specs.Layout.{redefines}
use Rattle.std.specs.List.{list_any, flat_map}
use Rattle.rv_source.specs.declared.expression.Term.{Term}
use Rattle.rv_source.specs.declared.operand.Part.{Part}
use Rattle.rv_program.specs.declared.fault.FaultKind.TheVariants.{OutOfMemory, Undefined, OutOfRange, DuplicateSymbol, NotConstant, Misplaced, TooLarge}
use Rattle.rv_asm.specs.declared.locals.LocalLabel.{LocalLabel}
use Rattle.rv_isa.specs.declared.kind.Kind.{Kind}
use Rattle.rv_isa.specs.declared.kind.Kind.TheVariants.{OpImm, Auipc}
use Rattle.rv_isa.specs.declared.op.ImmOp.TheVariants.{Addi}
use Rattle.rv_asm.specs.declared.fixup.Waiting.{Waiting}
use Rattle.rv_asm.specs.declared.fixup.Waiting.TheVariants as w
use Rattle.rv_asm.specs.declared.instructions.Instructions.{Instructions}
use Rattle.rv_asm.specs.declared.instructions.Instructions.TheVariants as i
use Rattle.rv_asm.specs.declared.symbols.Scope.{Scope}
use Rattle.rv_asm.specs.Symbols.{operand_value, sum_value}
use Rattle.rv_source.specs.declared.operand.Part.TheVariants.{Whole, High, Low}

-- ---- results whose fault has no line yet

abbrev pub KindFails : {B : Type 0} → FaultKind → Result B FaultKind → Type 0
KindFails OutOfMemory meaning = Unit {0}
KindFails kind meaning = meaning ≡ Err kind

-- the value that a call leaves is the one meant, unless memory ran out
abbrev pub KindBecomes : {A B : Type 0} → B → Result A FaultKind → Result B FaultKind → Type 0
KindBecomes new (Ok x) meaning = meaning ≡ Ok new
KindBecomes new (Err kind) meaning = KindFails kind meaning

-- ---- the bytes of a statement

-- the value of each operand that has one
abbrev pub Valuation : Type 0
Valuation = Operand → Option ℤ

-- the values of operands in a scope
abbrev pub values_in : Scope → Valuation
values_in s = operand_value s.symbols.now s.line s.here

-- the values of expressions
abbrev pub sums_in : Scope → List Term → Option ℤ
sums_in s = sum_value s.symbols.now s.line s.here

abbrev pub kinds : Instructions → List Kind
kinds (i.One only) = only ∷ []
kinds (i.Two first second) = first ∷ second ∷ []

-- a value added to a sum, or subtracted from it
abbrev pub added : ℤ → Bool → ℤ → ℤ
added sum negative v = if negative then sum -ℤ v else sum +ℤ v

-- a value put in its place; Undefined if there is none, else OutOfRange if it doesn't fit there
abbrev pub wanted : {A : Type 0} → (ℤ → Option A) → Option ℤ → Result A FaultKind
wanted place v = ok_or v Undefined >>= λ v. ok_or (place v) OutOfRange

-- the immediate of a U-type instruction
abbrev pub upper_immediate : ℤ → Option ℕ
upper_immediate v = field (negsuc 524287) (pos 1048575) 20 v

-- a byte, signed or unsigned
abbrev pub byte : ℤ → Option ℕ
byte v = field (negsuc 127) (pos 255) 8 v

-- a shift amount, or the immediate of a control register instruction
abbrev pub five_bits : ℤ → Option ℕ
five_bits v = field (pos 0) (pos 31) 5 v

-- a part of a value that an instruction takes
abbrev pub value_by : Part → ℤ → Option ℤ
value_by Whole v = Some v
value_by High v = if is_word v then Some (pos (hi (modulo v (2 ^ 32)))) else None
value_by Low v = if is_word v then Some (lo (modulo v (2 ^ 32))) else None

-- the bytes of one instruction that takes a part of a value
abbrev pub near : ℕ → Kind → Part → ℤ → Option (List ℕ)
near here kind part v = option_and_then (code here [] kind) (value_by part v)

-- those of two, for the distance to a target
abbrev pub pair : ℕ → ℕ → Kind → ℤ → Option (List ℕ)
pair here scratch kind v = option_and_then (λ d. code here (Auipc scratch (hi d) ∷ []) kind (lo d)) (far_distance here v)

abbrev pub with_value : ℕ → Waiting → ℤ → Option (List ℕ)
with_value here (w.Near kind part) v = near here kind part v
with_value here (w.Far scratch kind) v = pair here scratch kind v
with_value here (w.Data width) v = bytes_in width v
with_value here (w.Fill count) v = option_map (replicate count) (byte v)

-- whether one of some has no value
abbrev pub has_unknown : {X : Type 0} → (X → Option ℤ) → List X → Bool
has_unknown value xs = list_any (λ x. is_none (value x)) xs

-- `placed`, of anything that has a value
abbrev pub placed_by : {X : Type 0} → (ℤ → Option (List ℕ)) → List X → (X → Option ℤ) → Result (List ℕ) FaultKind
placed_by place xs value =
    if has_unknown value xs then Err Undefined
    else (if list_any (λ x. is_none (option_and_then place (value x))) xs then Err OutOfRange
    else Ok (flat_map (λ x. unwrap_or (option_and_then place (value x)) []) xs))

-- n instructions `nop`
abbrev pub nops : ℕ → List Kind
nops n = replicate n (OpImm Addi 0 0 (pos 0))

-- from -n to n
pub record IsNear (n : ℕ) (v : ℤ) : Type 0 where
  pub low : pos 0 ≤ℤ (v +ℤ pos n)
  pub high : v ≤ℤ pos n

-- ---- rows by the value that must be known

-- the address following the largest image
abbrev pub image_end : ℕ
image_end = ram_base + image_limit

-- the operand whose value must be known on the line of the statement
abbrev pub asked : Statement → Option Operand
asked (s.Li rd x) = Some x
asked (s.Space size fill) = Some size
asked (s.Align power) = Some power
asked (s.Balign multiple) = Some multiple
asked (s.Constant name x) = Some x
asked statement = None

-- c is that value; 0 if there is none
unfoldable pub IsKnown : Valuation → ℤ → Statement → Type 0
IsKnown early c statement = elim (asked statement) as (λ _. Type 0) [ None ↦ c ≡ pos 0 | Some x ↦ early x ≡ Some c ]

-- what a statement stands for by it
abbrev pub emitted_by : ℤ → ℕ → Statement → Emitted
emitted_by c here statement = emitted (λ x. Some c) here statement

-- the fault in phase two of what a statement stands for, at an address, by the names that are defined before it
abbrev pub fault_by : List (List ℕ × ℤ) → ℕ → Emitted → Option FaultKind
fault_by known here r =
    if redefines known r.defines then Some DuplicateSymbol
    else (if not r.is_known then Some NotConstant
    else (if not (here % r.alignment == 0) then Some Misplaced
    else (if nat_lt image_end (here + r.size) then Some TooLarge else None)))

-- ---- lists of local labels

-- the definitions of number n
abbrev pub of_number : ℕ → List LocalLabel → List LocalLabel
of_number n = filter (λ d. d.number == n)

-- the last of the first n elements
abbrev pub last_of : {A : Type 0} → List A → ℕ → Option A
last_of xs zero = None
last_of xs (suc k) = slice_get xs k

-- one more definition in the list of its number, or no change if memory ran out
abbrev pub Files : {A E : Type 0} → List (List LocalLabel) → List (List LocalLabel) → LocalLabel →
    Result A E → Type 0
Files old new d (Ok x) =
    (n : ℕ) → get_or new n [] ≡ (if d.number == n then get_or old n [] ++ d ∷ [] else get_or old n [])
Files old new d (Err e) = (n : ℕ) → get_or new n [] ≡ get_or old n []
