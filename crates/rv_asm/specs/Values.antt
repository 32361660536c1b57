-- Conversions of the value of an expression to the field that it fills.
-- To audit: public contracts cite this.
-- The language is this project's own: docs/ASSEMBLER.md.
use Rattle.std.specs.Prelude.{ℕ, ◌+◌, ◌-◌, ◌*◌, ◌/◌, ◌%◌, ◌^◌, Bool, ◌&&◌, List, [], ◌∷◌, ℤ, pos, negsuc, ◌-ℤ◌, int_le, nat_lt, ◌==◌, Option, Some, None, if◌then◌else◌}
pub use Rattle.rv_program.specs.Program.{is_word}
use Rattle.std.specs.Option.{option_map_or}
use Rattle.rv_isa.specs.Number.{modulo}
use Rattle.rv_isa.specs.Width.{bytes_of}
use Rattle.rv_isa.specs.declared.kind.Kind.{Kind}
use Rattle.rv_isa.specs.declared.kind.Kind.TheVariants.{Lui, OpImm}
use Rattle.rv_isa.specs.declared.op.ImmOp.TheVariants.{Addi}
use Rattle.rv_isa.specs.declared.op.Width.{Width}
use Rattle.rv_source.specs.declared.operand.Form.{Form}
use Rattle.rv_source.specs.declared.operand.Form.TheVariants as f
use Rattle.rv_source.specs.declared.operand.Part.TheVariants.{High, Low}

abbrev pub is_between : ℤ → ℤ → ℤ → Bool
is_between low high v = int_le low v && int_le v high

-- whether a value fits into a width, signed or unsigned
abbrev pub fits : Width → ℤ → Bool
fits width = let n = 2 ^ (8 * bytes_of width) in is_between (negsuc (n / 2 - 1)) (pos (n - 1))

-- the immediate of an I-type or S-type instruction: a value from -2048 to 2047 itself,
-- and one from 0xFFFFF800 to 0xFFFFFFFF less 2 ^ 32
abbrev pub immediate : ℤ → Option ℤ
immediate v =
    if is_between (negsuc 2047) (pos 2047) v then Some v
    else (if is_between (pos 0xfffff800) (pos 0xffffffff) v then Some (v -ℤ pos (2 ^ 32)) else None)

-- a value in a range as a field of so many bits, and so modulo 2 ^ bits
abbrev pub field : ℤ → ℤ → ℕ → ℤ → Option ℕ
field low high bits v = if is_between low high v then Some (modulo v (2 ^ bits)) else None

-- the distance from a jump at `here` to its target, if it is even and within the bound
abbrev pub distance : ℕ → ℕ → ℤ → Option ℤ
distance bound here target =
    let d = target -ℤ pos here in
    if is_between (negsuc (bound - 1)) (pos (bound - 2)) d && (modulo d 2 == 0) then Some d else None

-- the high and the low part of a word: it is hi times 2 ^ 12 plus lo, modulo 2 ^ 32, with lo from -2048 to
-- 2047
abbrev pub hi : ℕ → ℕ
hi w = (w + 2048) / 4096 % 2 ^ 20

abbrev pub lo : ℕ → ℤ
lo w = if nat_lt (w % 4096) 2048 then pos (w % 4096) else negsuc (4095 - w % 4096)

-- a part of a value that an instruction takes; the high and the low part are those of a value that fits into
-- 32 bits
abbrev pub part_value : Form → ℤ → Option ℤ
part_value (f.Value High e base) v = if is_word v then Some (pos (hi (modulo v (2 ^ 32)))) else None
part_value (f.Value Low e base) v = if is_word v then Some (lo (modulo v (2 ^ 32))) else None
part_value _ v = Some v

-- the distance from `here` to a target that fits into 32 bits, modulo 2 ^ 32
abbrev pub far_distance : ℕ → ℤ → Option ℕ
far_distance here target = if is_word target then Some (modulo (target -ℤ pos here) (2 ^ 32)) else None

-- the instructions that load the word w: `addi rd,x0,w` if it is an immediate,
-- else `lui rd,hi`, followed by `addi rd,rd,lo` unless lo is 0
unfoldable pub loading : ℕ → ℕ → List Kind
loading rd w =
    option_map_or (λ imm. OpImm Addi rd 0 imm ∷ [])
    (immediate (pos w)) (Lui rd (hi w) ∷ (if w % 4096 == 0 then [] else OpImm Addi rd rd (lo w) ∷ []))

-- the number of bytes from an address to the next multiple
abbrev pub gap : ℕ → ℕ → ℕ
gap here multiple = (multiple - here % multiple) % multiple
