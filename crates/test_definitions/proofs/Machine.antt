-- The rows of control registers, protection, the timer and traps, computed.
use Rattle.std.specs.Prelude.{◌≡◌, true}
use Rattle.std.proofs.Common.{refl}
use Rattle.std.specs.List.{list_all}
use Rattle.std.specs.Fmt.{digits}
use Rattle.rv_isa.specs.Names.{csr_names}
use Rattle.rv_pmp.specs.Pmp.{grants, read_register, write_register, is_locked_tor}
use Rattle.rv_pmp.specs.Entry.{config_byte, configured, matching_of, addressed}
use Rattle.rv_csr.specs.Registers.{read, write, table, number_of, row_at, status_word, with_status, lines_word, word_lines}
use Rattle.rv_csr.specs.Traps.{entered, after_return, trap_pc, next_interrupt}
use Rattle.test_definitions.specs.Support.Registers.{is_kept, is_right, is_granted}
use Rattle.test_definitions.specs.Support.Devices.{is_time}
use Rattle.test_definitions.specs.Support.Traps.{is_trap, is_interrupt}
use Rattle.test_definitions.specs.declared.registers.TheConstants.{KEPT, RIGHTS}
use Rattle.test_definitions.specs.declared.protection.TheConstants.{ACCESSES}
use Rattle.test_definitions.specs.declared.timer.TheConstants.{TIMES}
use Rattle.test_definitions.specs.declared.traps.TheConstants.{TRAPS, INTERRUPTS}

pub each_kept : list_all is_kept KEPT ≡ true
unfolding read write table number_of row_at status_word with_status lines_word word_lines csr_names digits read_register write_register is_locked_tor config_byte configured matching_of addressed
each_kept = refl

pub each_right : list_all is_right RIGHTS ≡ true
unfolding read write table number_of row_at status_word with_status lines_word word_lines csr_names digits read_register write_register is_locked_tor config_byte configured matching_of addressed
each_right = refl

pub each_access : list_all is_granted ACCESSES ≡ true
unfolding grants read_register write_register is_locked_tor config_byte configured matching_of addressed
each_access = refl

pub each_time : list_all is_time TIMES ≡ true
each_time = refl

pub each_trap : list_all is_trap TRAPS ≡ true
unfolding read write table number_of row_at status_word with_status csr_names digits read_register write_register entered after_return trap_pc
each_trap = refl

pub each_interrupt : list_all is_interrupt INTERRUPTS ≡ true
unfolding read write table number_of row_at status_word with_status lines_word word_lines csr_names digits read_register write_register next_interrupt
each_interrupt = refl
