-- The rows of the registers are the registers by cases.
use Rattle.std.proofs.lemmas.Grind.{common_steps}
use Rattle.std.proofs.Common.{◌≡◌, ◌≢◌, ℕ, zero, suc, ◌+◌, ◌*◌, ◌/◌, ◌%◌, ◌<◌, ◌≤◌, Bool, true, false, cond, List, [], ◌∷◌, ◌++◌, map, Option, Some, None, refl, arith, nat_lt, nat_le, eqb-true, rules}
use Rattle.std.specs.Prelude.{◌==◌, ◌&&◌, find, unwrap_or, slice_set, if◌then◌else◌}
use Rattle.std.specs.List.{range_with_len}
use Rattle.std.specs.Option.{option_map_or}
use Rattle.std.proofs.lemmas.Bool.Decides.{nat_tests}
use Rattle.rv_plic.specs.Sources.{sources, sources_of, word_of}
use Rattle.rv_plic.specs.Gateways.{PlicState}
use Rattle.rv_plic.specs.Plic.{registers, priority_of, best, claimed, completed, plic_register}
use Rattle.rv_base.specs.Registers.{Register, register}
use Rattle.rv_plic.specs.Support.Registers.{reg_at, word_at, with_word, after_reading}
use Rattle.rv_plic.specs.declared.register.PlicReg.{PlicReg}
use Rattle.rv_plic.specs.declared.register.PlicReg.TheVariants.{Pending, Enables, Threshold, Claim}

-- the register of a row, or of no row
abbrev found : Option (ℕ × Register PlicState) → Register PlicState
found row = option_map_or (λ row. row.1) row (register (λ p. 0) (λ p word. p))

-- it is what the cases say of a register, or of none
record Agrees (plic : PlicState) (row : Option (ℕ × Register PlicState)) (reg : Option PlicReg) : Type 0 where
  pub word : (found row).word plic ≡ option_map_or (word_at plic) reg 0
  pub loaded : (found row).loaded plic ≡ option_map_or (after_reading plic) reg plic
  pub stored : (word : ℕ) → (found row).stored plic word ≡ option_map_or (λ r. with_word plic r word) reg plic

more : (plic : PlicState) (b : Bool) (r : ℕ × Register PlicState) (reg : PlicReg)
    (rest : Option (ℕ × Register PlicState)) (others : Option PlicReg)
    → Agrees plic (Some r) (Some reg) → Agrees plic rest others
    → Agrees plic (cond b (Some r) rest) (if b then Some reg else others)
more plic b r reg rest others here later = search rules

-- ---- the rows of the priorities

priority_row : ℕ → ℕ × Register PlicState
priority_row s = (4 * s, register (λ p. priority_of p s) (λ p word. record p { priorities = slice_set p.priorities s (word % 8) }))

found_from : (off s a n : ℕ) (rest : List (ℕ × Register PlicState)) → off ≡ 4 * s → a ≤ s → s < a + n
    → find (λ r. off == r.0) (map priority_row (range_with_len a n) ++ rest) ≡ Some (priority_row s)
unfolding priority_row
found_from off s a zero rest is low high = absurd (omega arith)
found_from off s a (suc n) rest is low high = grind (arith, nat_tests, common_steps, priority_row, eqb-true, found_from off s (a + 1) n rest is)

none_from : (off a n : ℕ) (rest : List (ℕ × Register PlicState)) → ((s : ℕ) → a ≤ s → s < a + n → off ≢ 4 * s)
    → find (λ r. off == r.0) (map priority_row (range_with_len a n) ++ rest) ≡ find (λ r. off == r.0) rest
unfolding priority_row
none_from off a zero rest none = refl
none_from off a (suc n) rest none = grind (arith, nat_tests, common_steps, none a, none_from off (a + 1) n rest (λ s low high. none s (omega arith) (omega arith)))

-- ---- each register

after : List (ℕ × Register PlicState)
after = (0x1000, register (λ p. word_of p.pending) (λ p word. p))
    ∷ (0x2000, register (λ p. word_of p.enabled) (λ p word. record p { enabled = sources_of word }))
    ∷ (0x200000, register (λ p. p.threshold) (λ p word. record p { threshold = word % 8 }))
    ∷ (0x200004, record { word = λ p. unwrap_or (best p) 0; loaded = claimed; stored = completed }) ∷ []

others : (plic : PlicState) (off : ℕ) → Agrees plic (find (λ r. off == r.0) after) (if off == 0x1000 then Some Pending
    else (if off == 0x2000 then Some Enables
    else (if off == 0x200000 then Some Threshold else (if off == 0x200004 then Some Claim else None))))
unfolding after
others plic off = search rules

same : (plic : PlicState) (off : ℕ) → off % 4 ≡ 0 → Agrees plic (find (λ r. off == r.0) registers) (reg_at off)
unfolding registers reg_at sources priority_row after
same plic off aligned = elim (nat_le 4 off && nat_lt off 128) as (λ b. (nat_le 4 off && nat_lt off 128) ≡ b
    → Agrees plic (find (λ r. off == r.0) registers) (reg_at off)) [
      | true ↦ λ within.
          rw (within, found_from off (off / 4) 1 31 after (omega arith) (grind (arith, nat_tests)) (grind (arith, nat_tests)))
          (record { word = refl; loaded = refl; stored = λ word. refl })
      | false ↦ λ out.
          rw (out, none_from off 1 31 after (λ s low high is. absurd (grind (arith, nat_tests)))) (others plic off)
    ] refl

-- ---- loads and stores by the register at the offset

module _ (plic : PlicState) (off : ℕ) (aligned : off % 4 ≡ 0) where
  pub loads : (plic_register off).word plic ≡ option_map_or (word_at plic) (reg_at off) 0
  unfolding plic_register
  loads = (same plic off aligned).word

  pub loaded : (plic_register off).loaded plic ≡ option_map_or (after_reading plic) (reg_at off) plic
  unfolding plic_register
  loaded = (same plic off aligned).loaded

  pub stores : (word : ℕ) → (plic_register off).stored plic word
      ≡ option_map_or (λ r. with_word plic r word) (reg_at off) plic
  unfolding plic_register
  stores word = (same plic off aligned).stored word

pub ruleset accesses = (loads, loaded, stores)
