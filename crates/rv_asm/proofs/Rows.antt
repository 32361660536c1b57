-- The bytes of operands by their values; what is kept of a statement has the bytes that its row says, as many as it
-- says; and the ranges of its values.
use Rattle.std.proofs.lemmas.Grind.{common_steps}
use Rattle.std.proofs.Common.{◌≡◌, List, [], ◌∷◌, ◌++◌, ℕ, suc, ◌*◌, ◌≤◌, ℤ, Bool, true, false, cond, length, ap, ◌∙◌, refl, arith, append-nil, append_assoc, length-append, get_or, ◌<◌, sym, ◌+◌, ◌^◌, ◌%◌, ◌==◌, replicate, pos, negsuc, rules}
use Rattle.std.specs.Prelude.{◌||◌, map, Option, Some, None, is_none, option_and_then, Ok, Err, min}
use Rattle.std.specs.Option.{unwrap_or}
use Rattle.std.specs.List.{list_any, flat_map}
use Rattle.std.proofs.lemmas.List.Folds.{flat_map-map}
use Rattle.rv_isa.specs.Width.{bytes_of}
use Rattle.rv_isa.specs.declared.op.Width.{Width}
use Rattle.rv_source.specs.declared.operand.Operand.{Operand}
use Rattle.rv_program.specs.declared.fault.FaultKind.{FaultKind}
use Rattle.rv_program.specs.declared.fault.FaultKind.TheVariants.{Undefined, TooLarge}
use Rattle.rv_asm.specs.Listing.{placed, code, Emitted, bytes, padding, space, emitted}
use Rattle.rv_asm.specs.Support.Statements.{Valuation, KindFails, has_unknown, placed_by, wanted, with_value, IsKnown, emitted_by, fault_by, image_end}
use Rattle.rv_asm.specs.Support.Steps.{appended, IsSum, expression_of, kept_bytes, sums_bytes}
use Rattle.rv_isa.specs.declared.kind.Kind.{Kind}
use Rattle.rv_source.specs.Operands.{terms_of}
use Rattle.rv_source.specs.Support.Partial.{part_of}
use Rattle.rv_source.specs.declared.expression.Term.{Term}
use Rattle.rv_asm.specs.Symbols.{Definitions, operand_value, sum_value}
use Rattle.rv_asm.specs.Values.{part_value, is_between}
use Rattle.rv_asm.specs.declared.fixup.Waiting.{Waiting}
use Rattle.rv_asm.specs.declared.fixup.Waiting.TheVariants as w
use Rattle.rv_asm.specs.declared.kept.Kept.{Kept}
use Rattle.rv_asm.specs.declared.kept.Kept.TheVariants as kept
use Rattle.rv_asm.specs.declared.kept.Single.{Single}
use Rattle.std.proofs.Math.Bool.{or-false}
use Rattle.std.proofs.lemmas.List.{length-replicate}
use Rattle.rv_isa.specs.Number.{IsWithin}
use Rattle.rv_source.specs.declared.statement.Statement.{Statement}
use Rattle.rv_asm.specs.Layout.{redefines}
use Rattle.std.proofs.lemmas.Bool.Decides.{nat_tests}

pub width_within : (width : Width) → bytes_of width ≤ 4
width_within width = search rules

-- ---- one operand

pub placed_one : {X : Type 0} (place : ℤ → Option (List ℕ)) (x : X) (value : X → Option ℤ) →
    placed_by place (x ∷ []) value ≡ wanted place (value x)
placed_one place x value = search (rules, append-nil)

-- ---- values by other things that have them

any_map : {X Y : Type 0} (p : Y → Bool) (h : X → Y) (xs : List X) → list_any p (map h xs) ≡ list_any (λ x. p (h x)) xs
any_map p h [] = refl
any_map p h (x ∷ xs) = ap (λ b. p (h x) || b) (any_map p h xs)

-- ---- the first of some operands, before others

module _ {X : Type 0} (place : ℤ → Option (List ℕ)) (value : X → Option ℤ) (x : X) (xs all : List X) (is : x ∷ xs ≡ all)
    (out : List ℕ) where
  pub placed_more : (mid : List ℕ) → appended out (wanted place (value x)) ≡ Ok mid →
      appended out (placed_by place all value) ≡ appended mid (placed_by place xs value)
  placed_more mid h = search (rules, append_assoc)

  pub unknown_later : has_unknown value xs ≡ true → appended out (placed_by place all value) ≡ Err Undefined
  unknown_later h = search rules

  pub first_fails : (kind : FaultKind) → has_unknown value xs ≡ false → KindFails kind (appended out (wanted place (value x)))
      → KindFails kind (appended out (placed_by place all value))
  first_fails kind known h = search rules

-- ---- how many bytes they are

-- each value gives n bytes
abbrev pub Counts : {A : Type 0} → (A → Option (List ℕ)) → ℕ → Type 0
Counts {A} f n = (a : A) (bs : List ℕ) → f a ≡ Some bs → length bs ≡ n

pub then_counted : {A B : Type 0} (f : A → Option (List ℕ)) (g : B → Option A) (n : ℕ) → Counts f n →
    Counts (λ b. option_and_then f (g b)) n
then_counted f g n each b bs h = search rules

module _ (value : Valuation) (place : ℤ → Option (List ℕ)) (n : ℕ) (each : Counts place n) where
  abbrev placed_bytes : Operand → Option (List ℕ)
  placed_bytes x = option_and_then place (value x)

  joined : (xs : List Operand) → list_any (λ x. is_none (placed_bytes x)) xs ≡ false
      → length (flat_map (λ x. unwrap_or (placed_bytes x) []) xs) ≡ n * length xs
  joined [] h = omega arith
  joined (x ∷ xs) h = search (rules, length-append, then_counted place value n each x, joined xs)

  pub placed_counted : (xs : List Operand) (bs : List ℕ) → placed place xs value ≡ Ok bs → length bs ≡ n * length xs
  placed_counted xs bs h = grind (arith, nat_tests, common_steps, joined xs)

-- these bytes are those of operands, each by its value in its place
abbrev pub IsKept : Waiting → List Operand → Kept → Type 0
IsKept waiting xs k = (ds : Definitions) → (line here : ℕ) →
    kept_bytes ds line here k ≡ placed (with_value here waiting) xs (operand_value ds line here)

pub one_kept : (waiting : Waiting) (x : Operand) (xs : List Operand) (s : Single) → IsSum (terms_of x) s →
    x ≡ get_or xs 0 x → 1 ≤ length xs → length xs < 2 → IsKept waiting xs (kept.One waiting s)
unfolding kept_bytes
one_kept waiting x xs s sum is some short ds line here = grind (arith, nat_tests, common_steps, placed_one)

pub many_kept : (waiting : Waiting) (xs : List Operand) (sums : List (List Term)) → sums ≡ map expression_of xs →
    IsKept waiting xs (kept.Many waiting sums)
unfolding kept_bytes sums_bytes sum_value
many_kept waiting xs sums is ds line here = search (rules, any_map, flat_map-map)

pub near_kept : (kind : Kind) (x : Operand) (k : Kept) → IsKept (w.Near kind (part_of x)) (x ∷ []) k →
    (ds : Definitions) → (line here : ℕ) → kept_bytes ds line here k
    ≡ placed (λ v. option_and_then (code here [] kind) (part_value x.form v)) (x ∷ []) (operand_value ds line here)
near_kept kind x k kept ds line here = search rules

-- ---- spaces, with and without the byte that fills them

module _ (n : ℕ) where
  pub space_alignment : (fill : Option Operand) → (space n fill).alignment ≡ 1
  space_alignment fill = search rules

  pub space_defines : (fill : Option Operand) → (space n fill).defines ≡ []
  space_defines fill = search rules

  pub space_size : (fill : Option Operand) → (space n fill).size ≡ n
  space_size fill = search (rules, length-replicate)

pub ruleset row_steps = (space_alignment, space_defines, or-false, append-nil)

-- ---- how many bytes instructions and padding have

pub length_bytes : (kinds : List Kind) → length (bytes kinds) ≡ 4 * length kinds
length_bytes [] = refl
length_bytes (k ∷ ks) = let h = length_bytes ks in omega arith

pub padded : (n m : ℕ) → n ≡ m → n ≤ 0xffffffff → n ≡ min (length (padding m)) 0xffffffff
unfolding padding
padded n m e h = search (rules, length-append, length-replicate, length_bytes)

-- ---- the value that must be known is all that a row takes from the symbols of its line

pub row_is : (early : Valuation) (c : ℤ) (here : ℕ) (statement : Statement) → IsKnown early c statement →
    emitted early here statement ≡ emitted_by c here statement
unfolding IsKnown emitted
row_is early c here statement k = search rules

-- ---- the bytes of a statement are as many as its row says

pub statement_size : (early late : Valuation) (here : ℕ) (bs : List ℕ) (statement : Statement)
    → (emitted early here statement).contents late ≡ Ok bs → length bs ≡ (emitted early here statement).size
unfolding emitted
statement_size early late here bs statement h =
    search (rules, placed_counted, length_bytes, length-append, length-replicate)

-- ---- the last test of a statement in phase two

module _ (known : List (List ℕ × ℤ)) (here : ℕ) (r : Emitted) (is_new : redefines known r.defines ≡ false)
    (is_known : r.is_known ≡ true) (placed : (here % r.alignment == 0) ≡ true) where
  pub past : image_end < here + r.size → Some TooLarge ≡ fault_by known here r
  past h = search rules

  pub within : here + r.size ≤ image_end → None ≡ fault_by known here r
  within h = search rules

-- ---- distances of jumps and branches are within their bounds

pub jump_within : (v : ℤ) → is_between (negsuc 1048575) (pos 1048574) v ≡ true → IsWithin (2 ^ 20) v
jump_within v h = search rules

pub branch_within : (v : ℤ) → is_between (negsuc 4095) (pos 4094) v ≡ true → IsWithin (2 ^ 12) v
branch_within v h = search rules
