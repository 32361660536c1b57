-- The programs of src/runs.rt, run.
use Rattle.std.proofs.Common.{◌≡◌, refl, true, false, ℕ, Bool, List}
use Rattle.std.proofs.lemmas.Bool.{and_from, and_parts}
use Rattle.std.specs.Option.{option_map_or}
use Rattle.std.specs.Prelude.{[], ◌∷◌}
use Rattle.std.specs.Fmt.{digits}
use Rattle.std.specs.List.{list_all}
use Rattle.rv_isa.specs.Alu.{alu_value, is_taken}
use Rattle.rv_isa.specs.Fields.{kind_of}
use Rattle.rv_isa.specs.Names.{csr_names}
use Rattle.rv_isa.specs.Word.{OneMeaning}
use Rattle.rv_pmp.specs.Pmp.{grants, read_register, write_register, is_locked_tor}
use Rattle.rv_pmp.specs.Entry.{config_byte, configured, matching_of, addressed}
use Rattle.rv_csr.specs.Registers.{read, write, table, number_of, row_at, status_word, with_status, lines_word, word_lines}
use Rattle.rv_csr.specs.Traps.{entered, after_return, trap_pc, next_interrupt}
use Rattle.rv_plic.specs.Gateways.{asking_sources}
use Rattle.rv_plic.specs.Sources.{sources}
use Rattle.rv_plic.specs.Plic.{is_notified}
use Rattle.rv_plic.specs.Support.Registers.{reg_at}
use Rattle.rv_ram.specs.Bytes.{value_at, put, zeros}
use Rattle.rv_bus.specs.Access.{load, store, fetch}
use Rattle.rv_bus.specs.Support.Locations.{location_of}
use Rattle.rv_hart.specs.Effect.{execute, csr_written}
use Rattle.rv_hart.specs.Step.{counts, enter}
use Rattle.rv_board.specs.Boot.{board_at_reset}
use Rattle.test_definitions.specs.Support.Runs.{Run, ends, events, image, leaves}
use Rattle.test_definitions.specs.declared.runs.TheConstants.{RUNS}
use Rattle.test_definitions.proofs.Lists.{at_reset}
use Rattle.test_definitions.proofs.Running.{ran, run_is}

-- what a run computes by
computes : ℕ
unfolding alu_value is_taken kind_of csr_names grants read_register write_register is_locked_tor config_byte configured matching_of addressed read write table number_of row_at status_word with_status lines_word word_lines entered after_return trap_pc next_interrupt asking_sources sources is_notified value_at put zeros load store fetch execute csr_written counts enter board_at_reset digits reg_at location_of
computes = 0

-- whether a run is computed, and leaves what it has to
abbrev computed : Run → Bool
computed r =
    option_map_or (leaves r) (ran r.0.now at_reset (events r) (board_at_reset (image r.0.now) 4096)) false

each_ends : (runs : List Run) → OneMeaning → list_all computed runs ≡ true → list_all ends runs ≡ true
unfolding board_at_reset
each_ends [] one is = refl
each_ends (r ∷ rs) one is =
    let p = and_parts (computed r) _ is in
    and_from _ _ (run_is r.0.now at_reset (leaves r) (events r) _ one refl p.0) (each_ends rs one p.1)

pub each_run : OneMeaning → list_all ends RUNS ≡ true
unfolding computes
each_run one = each_ends RUNS one refl
