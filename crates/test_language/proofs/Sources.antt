-- The rows of src/lib.rt, computed.
use Rattle.std.proofs.Common.{◌≡◌, refl, true}
use Rattle.std.specs.Fmt.{digits}
use Rattle.std.specs.List.{list_all}
use Rattle.rv_base.specs.Lines.{split}
use Rattle.rv_base.specs.Numbers.{number_in}
use Rattle.rv_base.specs.Digits.{hex_digit}
use Rattle.rv_isa.specs.Names.{register_names, csr_names}
use Rattle.rv_isa.specs.Fields.{kind_of, zeroed}
use Rattle.rv_isa.specs.Table.{mnemonic}
use Rattle.rv_tokens.specs.Literals.{longest, number, short_decimal, escape, spelled, bytes_after}
use Rattle.rv_tokens.specs.Tokens.{local, word, token_of, token_in}
use Rattle.rv_tokens.specs.Support.Cuts.{with_tokens, tokens_after, tokens}
use Rattle.rv_source.specs.Fields.{fence_sets, in_role, in_roles, instruction}
use Rattle.rv_source.specs.Operands.{operands, operands_of, strings}
use Rattle.rv_source.specs.Support.Forms.{form_of}
use Rattle.rv_source.specs.Support.Sums.{further, sum, expression}
use Rattle.rv_source.specs.Reading.{form, line_form, parsed}
use Rattle.rv_asm.specs.Symbols.{sum_value}
use Rattle.rv_asm.specs.Values.{loading}
use Rattle.rv_asm.specs.Layout.{known_before, phase_two_fault}
use Rattle.rv_program.specs.Program.{value_of}
use Rattle.rv_asm.specs.Assembly.{assembled}
use Rattle.rv_source.specs.Table as table
use Rattle.rv_asm.specs.Listing as listing
use Rattle.rv_isa.specs.Support.Kinds as kinds
use Rattle.test_language.specs.Support.Sources.{has_fault, has_image}
use Rattle.test_language.specs.declared.TheConstants.{FAULTS, IMAGES}

pub each_image : list_all has_image IMAGES ≡ true
unfolding digits split number_in hex_digit register_names csr_names kind_of zeroed mnemonic longest number short_decimal escape spelled bytes_after local word token_of token_in with_tokens tokens_after tokens fence_sets in_role in_roles instruction form_of operands operands_of strings further sum expression form line_form parsed sum_value loading known_before phase_two_fault value_of assembled table.of_template table.of_kind table.pseudo_instructions table.directives table.markers table.meaning listing.filled listing.padding listing.emitted kinds.word kinds.operations kinds.fields_of
each_image = refl

pub each_fault : list_all has_fault FAULTS ≡ true
unfolding digits split number_in hex_digit register_names csr_names kind_of zeroed mnemonic longest number short_decimal escape spelled bytes_after local word token_of token_in with_tokens tokens_after tokens fence_sets in_role in_roles instruction form_of operands operands_of strings further sum expression form line_form parsed sum_value loading known_before phase_two_fault value_of assembled table.of_template table.of_kind table.pseudo_instructions table.directives table.markers table.meaning listing.filled listing.padding listing.emitted kinds.word kinds.operations kinds.fields_of
each_fault = refl
