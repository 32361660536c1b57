-- Words are decoded by the rows of a program, and so a run of it can be computed.
use Rattle.std.proofs.Common.{rules, ◌≡◌, refl, true, ℕ, List, Bool}
use Rattle.std.specs.Prelude.{ℤ, pos, negsuc, ◌==◌, ◌&&◌, ◌^◌, nat_lt, [], ◌∷◌, Option, Some, None, if◌then◌else◌}
use Rattle.std.proofs.lemmas.Bool.{ltb-true, and_parts, eqb-true}
use Rattle.std.proofs.lemmas.Option.{same_Some}
use Rattle.rv_isa.specs.Number.{to_word, modulo}
use Rattle.rv_isa.specs.Table.{row, Encoding, Amount, I, Number, S, B, U, J}
use Rattle.rv_isa.specs.Fields.{kind_of}
use Rattle.rv_isa.specs.Formats.{in_format}
use Rattle.rv_isa.specs.Word.{encoded, AreInRange, Means}
use Rattle.rv_isa.specs.declared.kind.Kind.{Kind}
use Rattle.rv_isa.specs.declared.fields.Fields.{Fields}
use Rattle.test_definitions.specs.Support.Runs.{Row, fields}

-- ---- fields in range, as a test
abbrev is_within : ℕ → ℤ → Bool
is_within b (pos n) = nat_lt n b
is_within b (negsuc n) = nat_lt n b

abbrev is_distance : ℕ → ℤ → Bool
is_distance b z = is_within b z && (modulo z 2 == 0)

abbrev has_immediate : Encoding → ℤ → Bool
has_immediate (Amount _ _ _ _) imm = nat_lt (to_word imm) (2 ^ 5)
has_immediate (I _ _ _) imm = is_within (2 ^ 11) imm
has_immediate (Number _ _ _) imm = nat_lt (to_word imm) (2 ^ 12)
has_immediate (S _ _ _) imm = is_within (2 ^ 11) imm
has_immediate (B _ _ _) imm = is_distance (2 ^ 12) imm
has_immediate (U _ _) imm = nat_lt (to_word imm) (2 ^ 20)
has_immediate (J _ _) imm = is_distance (2 ^ 20) imm
has_immediate _ imm = true

immediate : (e : Encoding) (f : Fields) → has_immediate e f.imm ≡ true → (in_format e f).HasImmediate
immediate e f h = search (rules, ltb-true, and_parts, eqb-true)

abbrev are_in_range : Fields → Bool
are_in_range f = nat_lt f.rd 32 && (nat_lt f.rs1 32 && (nat_lt f.rs2 32 && has_immediate (row f.operation).1 f.imm))

in_range : (f : Fields) → are_in_range f ≡ true → AreInRange f
in_range f e = search (rules, and_parts, ltb-true, immediate)

-- ---- the kind of a word, by the rows
abbrev pub decoded : List Row → ℕ → Option Kind
decoded [] w = None
decoded (r ∷ rs) w =
    if (encoded (fields r) == w) && are_in_range (fields r) then Some (kind_of (fields r)) else decoded rs w

of_row : (w : ℕ) (f : Fields) → ((encoded f == w) && are_in_range f) ≡ true → Means w (Some (kind_of f))
unfolding Means
of_row w f e = (f, search (rules, and_parts, in_range), refl, search (rules, and_parts, eqb-true))

pub by_rows : (rows : List Row) (w : ℕ) (k : Kind) → decoded rows w ≡ Some k → Means w (Some k)
by_rows [] w k e = absurd cc
by_rows (r ∷ rs) w k e = search (rules, of_row, same_Some, by_rows rs w k)
