-- A packet that is framed is read.
use Rattle.std.proofs.Common.{◌≡◌, ◌∙◌, ℕ, ◌+◌, ◌*◌, ◌/◌, ◌%◌, ◌^◌, ◌<◌, true, cond, List, [], ◌∷◌, ◌++◌, refl, sym, ap, ap₂, subst, arith, append_assoc, append-nil, eq-eqb, ne_eqb, lt-ltb, ⊎_elim}
use Rattle.std.specs.Prelude.{None, option_to_list}
use Rattle.std.specs.List.{sum}
use Rattle.std.proofs.lemmas.Bool.{cases_eq}
use Rattle.std.proofs.lemmas.List.Sums.{sum_by-append}
use Rattle.std.proofs.lemmas.Str.{digit_value-digit_char}
use Rattle.rv_base.specs.Digits.{digit, digit_value, hex, hex_digit}
use Rattle.rv_packets.specs.declared.item.Item.{Item}
use Rattle.rv_packets.specs.declared.item.Item.TheVariants.{Packet}
use Rattle.rv_packets.specs.declared.receiver.Phase.TheVariants.{Inside}
use Rattle.rv_packets.specs.Items.{State, Step, items, after, step, outside, escaped, framed, changed, is_special, is_sum}
use Rattle.rv_packets.proofs.Joining.{joined}

-- ---- the checksum

digit_back : (d : ℕ) → d < 16 → digit_value (digit d) ≡ d
unfolding hex_digit
digit_back d small = rw (digit_value-digit_char d (omega arith), lt-ltb d 16 small) refl

sum_back : (n : ℕ) → n < 256 → is_sum (digit (n / 16 ^ 1 % 16)) (digit (n / 16 ^ 0 % 16)) n ≡ true
sum_back n small = rw (digit_back (n / 16 ^ 1 % 16) (omega arith), digit_back (n / 16 ^ 0 % 16) (omega arith))
    (eq-eqb (16 * (n / 16 ^ 1 % 16) + n / 16 ^ 0 % 16) n (omega arith))

abbrev at : List ℕ → ℕ → State
at contents s = record { phase = Inside; contents = contents; sum = s }

end_read : (contents : List ℕ) (s : ℕ) → s < 256 → items (at contents s) (0x23 ∷ hex 2 s) ≡ Packet contents ∷ []
unfolding step hex
end_read contents s small = rw (sum_back s small) refl

-- ---- the contents

abbrev sent : ℕ → List ℕ
sent b = cond (is_special b) (0x7d ∷ changed b ∷ []) (b ∷ [])

-- where the contents stand after bytes of one of them
record Reads (contents : List ℕ) (s b : ℕ) (bytes : List ℕ) : Type 0 where
  silent : items (at contents s) bytes ≡ []
  state : after (at contents s) bytes ≡ at (contents ++ b ∷ []) ((s + sum bytes) % 256)

-- a byte that is sent as two, if they are read as it
special_reads : (contents : List ℕ) (s b c : ℕ) → items (at contents s) (0x7d ∷ c ∷ []) ≡ [] →
    after (at contents s) (0x7d ∷ c ∷ []) ≡ at (contents ++ b ∷ []) (((s + 0x7d) % 256 + c) % 256) →
    Reads contents s b (0x7d ∷ c ∷ [])
special_reads contents s b c silent state =
    let e : ((s + 0x7d) % 256 + c) % 256 ≡ (s + sum (0x7d ∷ c ∷ [])) % 256 = omega arith in
    record { silent = silent; state = state ∙ ap (λ (n : ℕ). at (contents ++ b ∷ []) n) e }

plain_step : (contents : List ℕ) (s b : ℕ) → (b ≡ 0x23 → ⊥) → (b ≡ 0x24 → ⊥) → (b ≡ 0x7d → ⊥) →
    step Inside (at contents s) b ≡ record { state = at (contents ++ b ∷ []) ((s + b) % 256); item = None }
unfolding step
plain_step contents s b hash dollar brace = rw (ne_eqb b 0x23 hash, ne_eqb b 0x24 dollar, ne_eqb b 0x7d brace) refl

plain_is : (b : ℕ) → (b ≡ 0x23 → ⊥) → (b ≡ 0x24 → ⊥) → (b ≡ 0x7d → ⊥) → (b ≡ 0x2a → ⊥) → b ∷ [] ≡ sent b
plain_is b hash dollar brace star =
    rw (ne_eqb b 0x23 hash, ne_eqb b 0x24 dollar, ne_eqb b 0x7d brace, ne_eqb b 0x2a star) refl

plain_reads : (contents : List ℕ) (s b : ℕ) → (b ≡ 0x23 → ⊥) → (b ≡ 0x24 → ⊥) → (b ≡ 0x7d → ⊥) → (b ≡ 0x2a → ⊥) →
    Reads contents s b (sent b)
plain_reads contents s b hash dollar brace star =
    let e = plain_step contents s b hash dollar brace in
    let f : (s + b) % 256 ≡ (s + sum (b ∷ [])) % 256 = omega arith in
    subst (λ (x : List ℕ). Reads contents s b x) (plain_is b hash dollar brace star) (record {
      silent = ap (λ (t : Step). option_to_list t.item ++ []) e;
      state = ap (λ (t : Step). t.state) e ∙ ap (λ (n : ℕ). at (contents ++ b ∷ []) n) f;
    })

byte_reads : (contents : List ℕ) (s b : ℕ) → Reads contents s b (sent b)
unfolding step
byte_reads contents s b = ⊎_elim
    (λ e. subst (λ (x : ℕ). Reads contents s x (sent x)) (sym e) (special_reads contents s 0x23 3 refl refl))
    (λ hash. ⊎_elim
    (λ e. subst (λ (x : ℕ). Reads contents s x (sent x)) (sym e) (special_reads contents s 0x24 4 refl refl))
    (λ dollar. ⊎_elim
    (λ e. subst (λ (x : ℕ). Reads contents s x (sent x)) (sym e) (special_reads contents s 0x7d 0x5d refl refl))
    (λ brace. ⊎_elim
    (λ e. subst (λ (x : ℕ). Reads contents s x (sent x)) (sym e) (special_reads contents s 0x2a 10 refl refl))
    (λ star. plain_reads contents s b hash dollar brace star)
    (cases_eq b 0x2a))
    (cases_eq b 0x7d))
    (cases_eq b 0x24))
    (cases_eq b 0x23)

all_read : (contents bs rest : List ℕ) (s : ℕ) → s < 256 →
    items (at contents s) (escaped bs ++ rest) ≡ items (at (contents ++ bs) ((s + sum (escaped bs)) % 256)) rest
all_read contents [] rest s small =
    let e : s ≡ (s + 0) % 256 = omega arith in
    ap₂ (λ (c : List ℕ) (n : ℕ). items (at c n) rest) (sym (append-nil contents)) e
all_read contents (b ∷ bs) rest s small =
    let h = byte_reads contents s b in
    let t = (s + sum (sent b)) % 256 in
    let parts = sum_by-append (λ (x : ℕ). x) (sent b) (escaped bs) in
    let e : (t + sum (escaped bs)) % 256 ≡ (s + sum (sent b ++ escaped bs)) % 256 = omega (arith, parts) in
    ap (λ (x : List ℕ). items (at contents s) x) (append_assoc (sent b) (escaped bs) rest)
    ∙ joined (at contents s) (sent b) (escaped bs ++ rest)
    ∙ ap₂ (λ (l : List Item) (z : State). l ++ items z (escaped bs ++ rest)) h.silent h.state
    ∙ all_read (contents ++ b ∷ []) bs rest t (omega arith)
    ∙ ap₂ (λ (c : List ℕ) (n : ℕ). items (at c n) rest) (append_assoc contents (b ∷ []) bs) e

begun_read : (rest : List ℕ) → items outside (0x24 ∷ rest) ≡ items (at [] 0) rest
unfolding step
begun_read rest = refl

pub read_back : (contents : List ℕ) → items outside (framed contents) ≡ Packet contents ∷ []
read_back contents =
    let s = sum (escaped contents) % 256 in
    let e : (0 + sum (escaped contents)) % 256 ≡ s = omega arith in
    begun_read (escaped contents ++ 0x23 ∷ hex 2 s)
    ∙ all_read [] contents (0x23 ∷ hex 2 s) 0 (omega arith)
    ∙ ap (λ (n : ℕ). items (at contents n) (0x23 ∷ hex 2 s)) e
    ∙ end_read contents s (omega arith)
