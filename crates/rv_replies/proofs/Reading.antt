-- Registers and bytes, one after another.
use Rattle.std.proofs.Common.{◌≡◌, ◌∙◌, ◌<◌, ◌≤◌, ◌+◌, ◌-◌, ◌%◌, ◌^◌, ℕ, zero, suc, List, [], ◌++◌, refl, sym, ap, arith, append_assoc, append-nil}
use Rattle.std.specs.Prelude.{Option, Some, None, slice_index}
use Rattle.rv_base.specs.Digits.{hex}
use Rattle.rv_bus.specs.Access.{ram_byte}
use Rattle.rv_board.specs.BoardState.{BoardState}
use Rattle.rv_replies.specs.Texts.{bytes_from, registers_from, word_text}

pub next_register : (b : BoardState) (out : List ℕ) (r : ℕ) → r < 32 →
    out ++ registers_from b r (32 - r) ≡ (out ++ word_text (slice_index b.machine.registers r)) ++ registers_from b (r + 1) (32 - (r + 1))
unfolding registers_from
next_register b out r h =
    let more : 32 - r ≡ suc (32 - (r + 1)) = omega (arith, h) in
    ap (λ n. out ++ registers_from b r n) more
    ∙ sym (append_assoc out (word_text (slice_index b.machine.registers r)) (registers_from b (r + 1) (32 - (r + 1))))

pub all_registers : (b : BoardState) (old out new pc : List ℕ) (r : ℕ) → 32 ≤ r →
    out ++ registers_from b r (32 - r) ≡ old ++ registers_from b 0 32 → new ≡ out ++ pc →
    new ≡ old ++ (registers_from b 0 32 ++ pc)
unfolding registers_from
all_registers b old out new pc r h stands is =
    let none : 32 - r ≡ 0 = omega (arith, h) in
    let same : out ≡ old ++ registers_from b 0 32 =
    sym (ap (λ n. out ++ registers_from b r n) none ∙ append-nil out) ∙ stands in
    is ∙ (ap (λ l. l ++ pc) same ∙ append_assoc old (registers_from b 0 32) pc)

pub next_byte : (b : BoardState) (out : List ℕ) (addr left byte : ℕ) → 0 < left →
    ram_byte b.machine.bus.ram addr ≡ Some byte →
    out ++ bytes_from b addr left ≡ (out ++ hex 2 byte) ++ bytes_from b ((addr + 1) % 2 ^ 32) (left - 1)
unfolding bytes_from
next_byte b out addr zero byte h e = absurd (omega (arith, h))
next_byte b out addr (suc left) byte h e =
    let one : suc left - 1 ≡ left = omega arith in
    rw (one, e) (sym (append_assoc out (hex 2 byte) (bytes_from b ((addr + 1) % 2 ^ 32) left)))

pub no_byte : (b : BoardState) (out : List ℕ) (addr left : ℕ) → ram_byte b.machine.bus.ram addr ≡ None →
    out ++ bytes_from b addr left ≡ out
unfolding bytes_from
no_byte b out addr zero e = append-nil out
no_byte b out addr (suc left) e = rw e (append-nil out)

pub none_left : (b : BoardState) (out : List ℕ) (addr left : ℕ) → left ≡ 0 → out ++ bytes_from b addr left ≡ out
unfolding bytes_from
none_left b out addr left e = rw e (append-nil out)

pub ruleset register_steps = (next_register, all_registers)

pub ruleset byte_steps = (next_byte, no_byte, none_left)
