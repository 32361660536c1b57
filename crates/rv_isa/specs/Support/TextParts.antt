-- Not to audit: private contracts alone cite this.
-- The operands of an instruction's text by their parts.
use Rattle.std.specs.Prelude.{ℕ, List, [], ◌∷◌}
use Rattle.std.specs.Fmt.{signed_decimal}
use Rattle.rv_base.specs.Digits.{short_hex}
use Rattle.rv_isa.specs.Text.{register_text, target, address, spelled}
use Rattle.rv_isa.specs.declared.text.TextOperand.{TextOperand}
use Rattle.rv_isa.specs.declared.text.TextOperand.TheVariants.{Register, Hex, Number, Target, Address}
use Rattle.rv_isa.specs.declared.text.TextOperands.{TextOperands}
use Rattle.rv_isa.specs.declared.text.TextOperands.TheVariants as texts

-- the text of an operand
abbrev pub operand : TextOperand → List ℕ
operand (Register n) = register_text n
operand (Hex n) = short_hex n
operand (Number z) = signed_decimal z
operand (Target z) = target z
operand (Address z base) = address z base

-- operands after a mnemonic, as one text
abbrev pub joined : TextOperands → List ℕ
joined texts.None = []
joined (texts.Two a b) = spelled (register_text a ∷ operand b ∷ [])
joined (texts.Three a b c) = spelled (register_text a ∷ operand b ∷ operand c ∷ [])
