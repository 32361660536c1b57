-- The rows of instructions, computed.
use Rattle.std.specs.Prelude.{◌≡◌, true}
use Rattle.std.proofs.Common.{refl}
use Rattle.std.specs.List.{list_all}
use Rattle.std.specs.Fmt.{digits}
use Rattle.rv_isa.specs.Alu.{alu_value, is_taken}
use Rattle.rv_isa.specs.Fields.{kind_of}
use Rattle.rv_isa.specs.Table.{mnemonic}
use Rattle.test_definitions.specs.Support.Instructions.{is_value, is_condition, is_word}
use Rattle.test_definitions.specs.declared.values.TheConstants.{VALUES, BRANCHES}
use Rattle.test_definitions.specs.declared.words.TheConstants.{WORDS}

pub each_value : list_all is_value VALUES ≡ true
unfolding alu_value
each_value = refl

pub each_condition : list_all is_condition BRANCHES ≡ true
unfolding is_taken
each_condition = refl

pub each_word : list_all is_word WORDS ≡ true
unfolding kind_of mnemonic digits
each_word = refl
