-- The table of the registers says what the cases by register say.
use Rattle.std.proofs.lemmas.Grind.{common_steps}
use Rattle.std.proofs.Common.{rules, ◌≡◌, ℕ, zero, suc, ◌+◌, ◌==◌, Bool, true, false, List, [], ◌∷◌, ◌++◌, map, Option, Some, None, refl, arith}
use Rattle.std.specs.Prelude.{◌||◌, find, if◌then◌else◌, codes}
use Rattle.std.specs.Fmt.{digits}
use Rattle.std.specs.List.{list_all, list_any}
use Rattle.std.specs.Option.{option_map}
use Rattle.std.proofs.lemmas.Bool.Decides.{nat_tests}
use Rattle.std.proofs.lemmas.Bool.{eqb-true, or_from, or_parts}
use Rattle.std.proofs.lemmas.List.Folds.{list_any-append}
use Rattle.rv_isa.specs.Names.{csr_names, numbered}
use Rattle.rv_isa.specs.declared.Lines.{Lines}
use Rattle.rv_pmp.specs.Pmp as protection
use Rattle.rv_pmp.specs.Pmp.{is_address, is_config, written}
use Rattle.rv_pmp.specs.declared.mode.Mode.{Mode}
use Rattle.rv_csr.specs.State.{CsrState}
use Rattle.rv_csr.specs.Registers.{CsrRow, is_at, may_read, may_write, number_of, read, row_at, table, word_at, write, written_at, wrote_half}
use Rattle.rv_csr.specs.Support.RegisterCases.{is_from_to, is_zero, register_at, value_of, with_value, with_value_at}
use Rattle.rv_csr.specs.Support.RegisterCases as cases
use Rattle.rv_csr.specs.declared.register.Register.{Register}
use Rattle.rv_csr.specs.declared.register.Register.TheVariants.{Mcause, Mcycle, Mcycleh, Mepc, Mie, Minstret, Minstreth, Mip, Misa, Mscratch, Mstatus, Mtval, Mtvec, Zero}

-- a row has the value and the write of a register
pub record Agrees (row : CsrRow) (register : Register) : Type 0 where
  pub value : (s : CsrState) (lines : Lines) → row.value s lines ≡ value_of s lines register
  pub written : (s : CsrState) (word : ℕ) → row.written s word ≡ with_value s register word

abbrev Same : Option CsrRow → Option Register → Type 0
Same None None = Unit {0}
Same (Some row) (Some register) = Agrees row register
Same None (Some register) = ⊥
Same (Some row) None = ⊥

-- ---- the registers that have a name

any-from_to : (addr : ℕ) (prefix suffix : List ℕ) (base first count low high : ℕ) → base + first ≡ low
    → base + first + count ≡ suc high
    → list_any (λ named. addr == named.1) (numbered prefix suffix base first count) ≡ is_from_to low high addr
any-from_to addr prefix suffix base first zero low high begin end = grind (arith, nat_tests)
any-from_to addr prefix suffix base first (suc count) low high begin end =
    grind (arith, nat_tests, any-from_to addr prefix suffix base (first + 1) count (low + 1) high)

joined : (addr : ℕ) (xs ys : List (List ℕ × ℕ)) (a b : Bool)
    → list_any (λ named. addr == named.1) xs ≡ a → list_any (λ named. addr == named.1) ys ≡ b
    → list_any (λ named. addr == named.1) (xs ++ ys) ≡ (a || b)
joined addr xs ys a b p q = search (rules, list_any-append)

-- the names with numbers in them
abbrev more_names : List (List ℕ × ℕ)
more_names = numbered (codes "pmpcfg") [] 0x3a0 0 4 ++ (numbered (codes "pmpaddr") [] 0x3b0 0 16
    ++ (numbered (codes "mhpmevent") [] 0x320 3 29 ++ (numbered (codes "mhpmcounter") [] 0xb00 3 29
    ++ numbered (codes "mhpmcounter") (codes "h") 0xb80 3 29)))

any-more : (addr : ℕ) → list_any (λ named. addr == named.1) more_names
    ≡ (is_from_to 0x3A0 0x3A3 addr || (is_from_to 0x3B0 0x3BF addr || (is_from_to 0x323 0x33F addr
    || (is_from_to 0xB03 0xB1F addr || is_from_to 0xB83 0xB9F addr))))
any-more addr = search (rules, joined, any-from_to)

-- the numbers of the names without, before the rest
abbrev named_before : ℕ → Bool → Bool
named_before addr rest = (addr == 0x300) || ((addr == 0x301) || ((addr == 0x304) || ((addr == 0x305) ||
    ((addr == 0x306) || ((addr == 0x30A) || ((addr == 0x310) || ((addr == 0x31A) ||
    ((addr == 0x320) || ((addr == 0x340) || ((addr == 0x341) || ((addr == 0x342) ||
    ((addr == 0x343) || ((addr == 0x344) || ((addr == 0xB00) || ((addr == 0xB02) ||
    ((addr == 0xB80) || ((addr == 0xB82) || ((addr == 0xF11) || ((addr == 0xF12) ||
    ((addr == 0xF13) || ((addr == 0xF14) || ((addr == 0xF15) || rest))))))))))))))))))))))

any-name : (addr : ℕ) → list_any (λ named. addr == named.1) csr_names
    ≡ named_before addr (list_any (λ named. addr == named.1) more_names)
unfolding csr_names
any-name addr = refl

-- the registers that have a row of their own, by their numbers
abbrev registers : List (ℕ × Register)
registers = (0x300, Mstatus) ∷ (0x301, Misa) ∷ (0x304, Mie) ∷ (0x305, Mtvec) ∷ (0x340, Mscratch) ∷ (0x341, Mepc)
    ∷ (0x342, Mcause) ∷ (0x343, Mtval) ∷ (0x344, Mip) ∷ (0xB00, Mcycle) ∷ (0xB80, Mcycleh) ∷ (0xB02, Minstret)
    ∷ (0xB82, Minstreth) ∷ []

-- a name that is of neither the table nor protection is one of a register that reads 0
named_zero : (addr : ℕ) → list_any (λ r. addr == r.0) registers ≡ false
    → is_config addr ≡ false → is_address addr ≡ false → list_any (λ named. addr == named.1) csr_names ≡ is_zero addr
named_zero addr none config address = search (rules, or_parts, any-name, any-more)

-- ---- the rows

-- the row of a register that reads 0
abbrev zero_row : List ℕ × ℕ → CsrRow
zero_row named = record { name = named.0; value = λ s lines. 0; written = λ s w. s }

-- no two control registers share a name
each_number : list_all (λ named. is_at named.1 named.0) csr_names ≡ true
unfolding number_of csr_names digits
each_number = refl

zero_found : (addr : ℕ) (names : List (List ℕ × ℕ)) (b : Bool) → list_all (λ named. is_at named.1 named.0) names ≡ true
    → list_any (λ named. addr == named.1) names ≡ b
    → Same (find (λ row. is_at addr row.name) (map zero_row names)) (if b then Some Zero else None)
zero_found addr [] true each is = absurd cc
zero_found addr [] false each is = tt
zero_found addr (n ∷ ns) b each is = grind (arith, nat_tests, common_steps, eqb-true, zero_found addr ns b)

-- the halves of the counters
pub half_mcycle : (wrote : Option ℕ) → wrote_half (codes "mcycle") wrote ≡ cases.wrote_half 0xB00 wrote
unfolding number_of csr_names
half_mcycle wrote = search rules

pub half_minstret : (wrote : Option ℕ) → wrote_half (codes "minstret") wrote ≡ cases.wrote_half 0xB02 wrote
unfolding number_of csr_names
half_minstret wrote = search rules

pub ruleset counter_halves = (half_mcycle, half_minstret)

-- these are the rows, with those of the registers that read 0 behind them
abbrev AreRows : List CsrRow → List (ℕ × Register) → Type 0
AreRows rows [] = rows ≡ map zero_row csr_names
AreRows [] (r ∷ rs) = ⊥
AreRows (row ∷ rows) (r ∷ rs) = (number_of row.name ≡ Some r.0) × Agrees row r.1 × AreRows rows rs

-- the register of the first of these numbers that is the address
abbrev by_number : ℕ → List (ℕ × Register) → Option Register
by_number addr [] = if is_zero addr then Some Zero else None
by_number addr (r ∷ rs) = if addr == r.0 then Some r.1 else by_number addr rs

rows_of : (addr : ℕ) (rows : List CsrRow) (rs : List (ℕ × Register)) → AreRows rows rs
    → (list_any (λ r. addr == r.0) rs ≡ false
    → Same (find (λ row. is_at addr row.name) (map zero_row csr_names)) (by_number addr []))
    → Same (find (λ row. is_at addr row.name) rows) (by_number addr rs)
rows_of addr rows [] is last = grind (arith, nat_tests, common_steps)
rows_of addr [] (r ∷ rs) is last = absurd is
rows_of addr (row ∷ rows) (r ∷ rs) is last = grind (arith, nat_tests, common_steps, or_from, rows_of addr rows rs is.2)

are_rows : AreRows table registers
unfolding table number_of csr_names
are_rows = search rules

same : (addr : ℕ) → is_config addr ≡ false → is_address addr ≡ false → Same (row_at addr) (register_at addr)
unfolding register_at row_at
same addr config address = search (rules, rows_of, are_rows, zero_found, each_number, named_zero)

-- ---- what is at an address, by the register there

-- where protection has a register, none of these is at the address
none_there : (addr : ℕ) → (is_config addr || is_address addr) ≡ true → register_at addr ≡ None
unfolding register_at
none_there addr within = search (rules, nat_tests)

loaded : (state : CsrState) (lines : Lines) (addr : ℕ) (found : Option CsrRow) (register : Option Register)
    → Same found register → protection.read_register state.pmp addr ≡ None
    → option_map (λ row. row.value state lines) found ≡ cases.value_at state lines addr register
loaded state lines addr found register same none = search rules

stored : (state : CsrState) (addr word : ℕ) (found : Option CsrRow) (register : Option Register)
    → Same found register → protection.write_register state.pmp addr word ≡ None
    → option_map (λ row. row.written state word) found ≡ with_value_at state addr word register
stored state addr word found register same none = search rules

pub values : (state : CsrState) (lines : Lines) (addr : ℕ)
    → word_at state addr lines ≡ cases.value_at state lines addr (register_at addr)
unfolding protection.read_register
values state lines addr = elim (is_config addr || is_address addr) as (λ b. (is_config addr || is_address addr) ≡ b
    → word_at state addr lines ≡ cases.value_at state lines addr (register_at addr)) [
      | true ↦ λ is. search (rules, nat_tests, none_there)
      | false ↦ λ is. search (rules, or_parts, loaded, same)
    ] refl

pub writes : (state : CsrState) (addr word : ℕ)
    → written_at state addr word ≡ with_value_at state addr word (register_at addr)
unfolding protection.write_register
writes state addr word = elim (is_config addr || is_address addr) as (λ b. (is_config addr || is_address addr) ≡ b
    → written_at state addr word ≡ with_value_at state addr word (register_at addr)) [
      | true ↦ λ is. search (rules, none_there)
      | false ↦ λ is. search (rules, stored, same, or_parts)
    ] refl

-- ---- a read and a write by the register at the address

pub read_by_cases : (state : CsrState) (addr : ℕ) (mode : Mode) (lines : Lines) → read state addr mode lines
    ≡ (if may_read addr mode then cases.value_at state lines addr (register_at addr) else None)
unfolding read row_at
read_by_cases state addr mode lines = search (rules, values)

pub write_by_cases : (state : CsrState) (addr : ℕ) (mode : Mode) (word : ℕ) → write state addr mode word
    ≡ (if may_write addr mode then with_value_at state addr word (register_at addr) else None)
unfolding write row_at
write_by_cases state addr mode word = search (rules, writes)
