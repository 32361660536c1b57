-- Writes of values to lists of bytes.
use Rattle.std.proofs.Common.{◌≡◌, ℕ, zero, suc, ◌+◌, ◌/◌, ◌%◌, ◌^◌, ◌≤◌, List, true, length, slice_index, slice_set, ◌<◌, inl, inr, arith, refl, sym, ◌∙◌, rules}
use Rattle.std.proofs.Math.ListN.{set}
use Rattle.std.proofs.lemmas.Bool.{eqb-true, cases_eq}
use Rattle.std.proofs.lemmas.Grind.{get_or-set_at}
use Rattle.std.proofs.lemmas.List.{get_or-set_other, set-get_or, length-set}
use Rattle.rv_isa.specs.declared.op.Width.{Width}
use Rattle.rv_isa.specs.Width.{bytes_of}
use Rattle.rv_ram.specs.Bytes.{put}
use Rattle.rv_ram.specs.Pages.{is_zero}

-- ---- a write of zeros changes nothing among zeros

one_more : (bs : List ℕ) (i k v : ℕ) → v / 256 ^ k % 256 ≡ 0 → slice_index bs (i + k) ≡ 0 → put bs i k v ≡ bs
    → put bs i (suc k) v ≡ bs
unfolding put
one_more bs i k v z h e = search (rules, set-get_or)

none : (bs : List ℕ) (i v : ℕ) → put bs i 0 v ≡ bs
unfolding put
none bs i v = refl

pub put_zeros : (bs : List ℕ) (i v : ℕ) (w : Width)
    → ((k : ℕ) → k < bytes_of w → slice_index bs (i + k) ≡ 0) → is_zero w v ≡ true → put bs i (bytes_of w) v ≡ bs
put_zeros bs i v w h z = search (rules, eqb-true, one_more, none)

-- ---- writes by their bytes

pub put_byte : (bs : List ℕ) (i v : ℕ) → slice_set bs i (v % 256) ≡ put bs i 1 v
unfolding put
put_byte bs i v = search rules

pub put_half : (bs : List ℕ) (i v : ℕ) → slice_set (slice_set bs i (v % 256)) (i + 1) (v / 256 % 256) ≡ put bs i 2 v
unfolding put
put_half bs i v = search rules

-- a write of a word is one of its low half and one of its high half
pub put_halves : (bs : List ℕ) (i v : ℕ) → put (put bs i 2 v) (i + 2) 2 (v / 65536) ≡ put bs i 4 v
unfolding put
put_halves bs i v = search rules

-- ---- what a write does to the bytes round it

pub length_put : (bs : List ℕ) (i n v : ℕ) → length (put bs i n v) ≡ length bs
unfolding put
length_put bs i zero v = refl
length_put bs i (suc n) v = length-set (put bs i n v) (i + n) _ ∙ length_put bs i n v

-- one byte of two writes of the same bytes, in the written part of both or of none
pub put_moved : (xs ys : List ℕ) (a b n v j k : ℕ) → a + n ≤ length xs → b + n ≤ length ys
    → ((d : ℕ) → d < n → j ≡ a + d → k ≡ b + d) → ((d : ℕ) → d < n → k ≡ b + d → j ≡ a + d)
    → slice_index xs j ≡ slice_index ys k → slice_index (put xs a n v) j ≡ slice_index (put ys b n v) k
unfolding put
put_moved xs ys a b zero v j k l h to from e = e
put_moved xs ys a b (suc n) v j k l h to from e = elim (cases_eq j (a + n)) [
  | inl q ↦
      get_or-set_at (put xs a n v) (a + n) j _ 0 q (omega (arith, l, length_put xs a n v))
      ∙ sym (get_or-set_at (put ys b n v) (b + n) k _ 0 (to n (omega arith) q) (omega (arith, h, length_put ys b n v)))
  | inr q ↦
      get_or-set_other (put xs a n v) (a + n) j _ 0 q
      ∙ put_moved xs ys a b n v j k (omega arith) (omega arith) (λ d m. to d (omega arith)) (λ d m. from d (omega arith)) e
      ∙ sym (get_or-set_other (put ys b n v) (b + n) k _ 0 (λ r. q (from n (omega arith) r)))
]
