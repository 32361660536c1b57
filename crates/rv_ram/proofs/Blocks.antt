-- A memory as pages in a block: where each byte lies, and what writes and new pages do to it.
use Rattle.std.proofs.Common.{◌≡◌, ◌≢◌, ℕ, zero, suc, ◌+◌, ◌-◌, ◌*◌, ◌/◌, ◌%◌, ◌^◌, ◌<◌, ◌≤◌, ◌⊎◌, ◌==◌, List, [], ◌∷◌, ◌++◌, Bool, true, false, length, take, drop, get_or, slice_index, slice_index_or, inl, inr, arith, refl, sym, ap, ◌∙◌, length-append, replicate, leb, rules}
use Rattle.std.proofs.Math.ListN.{set}
use Rattle.std.proofs.lemmas.Bool.{true≢false, eqb-true, cases_eq, cases_lt, leb-false, leb-true, lt-leb, le-leb, lt-ltb, ltb-true}
use Rattle.std.proofs.lemmas.Grind.{get_or_default_zero, get_or-set_at}
use Rattle.std.proofs.lemmas.List.{ext_get_or, get_or-set_other, set-get_or, length-set, length-drop, take_all, length-take, get_or-take, get_or-drop, take-append-le, take-set-le, get_or_append_left, get_or-append-add, length-replicate, get_or-replicate}
use Rattle.std.proofs.lemmas.List.FromFn.{get_or-map-range_with_len, length-map-range_with_len, map-range_with_len_more}
use Rattle.std.proofs.lemmas.List.Sums.{list_all-from_AllPass, AllPass-from_list_all}
use Rattle.std.specs.Prelude.{nat_lt}
use Rattle.rv_isa.specs.declared.op.Width.{Width}
use Rattle.rv_isa.specs.Width.{bytes_of}
use Rattle.rv_ram.specs.Bytes.{zeros, put, value_at}
use Rattle.rv_ram.specs.Pages.{is_made, is_zero, is_zero_page, none_made, made_after}
use Rattle.rv_ram.specs.Support.Table.{place_of, start_of, bytes_in, made_in, made_count, IsPaged, blank_biases}
use Rattle.rv_ram.proofs.Put.{length_put, put_zeros, put_moved}
use Rattle.rv_ram.proofs.Value.{same_value}
use Rattle.rv_ram.proofs.Zeros.{length_zeros, zero_of}

pub range_in : (w : Width) (off n : ℕ) → off + bytes_of w ≤ n → off < n
range_in w off n l = search rules

-- an aligned access stays in its page
in_page : (w : Width) (off : ℕ) → off % bytes_of w ≡ 0 → off % 4096 + bytes_of w ≤ 4096
in_page w off a = search rules

length_made : (biases : List ℕ) → length (made_in biases) ≡ length biases
unfolding made_in
length_made biases = length-map-range_with_len (λ p. nat_lt 0 (start_of biases p)) 0 (length biases)

count_at_most : (made : List Bool) → made_count made ≤ length made
count_at_most [] = omega arith
count_at_most (m ∷ made) = search (rules, count_at_most made)

made_at : (biases : List ℕ) (p : ℕ) → p < length biases → get_or (made_in biases) p false ≡ nat_lt 0 (start_of biases p)
unfolding made_in
made_at biases p l = get_or-map-range_with_len (λ p. nat_lt 0 (start_of biases p)) 0 (length biases) p p false l (omega arith)

start_place : (s p r : ℕ) → p ≡ s + r → s % 4096 ≡ 0 → r < 4096 → leb 4096 p ≡ nat_lt 0 s
start_place zero p r e w l = lt-leb 4096 p (omega arith)
start_place (suc s) p r e w l = le-leb 4096 p (omega arith) ∙ sym (lt-ltb 0 (suc s) (omega arith))

module _ (block biases : List ℕ) where
  pub length_paged : length (bytes_in block biases) ≡ 4096 * length biases
  unfolding bytes_in
  length_paged = length-map-range_with_len (λ off. slice_index block (place_of biases off)) 0 (4096 * length biases)

  -- each byte of the memory is one of the block
  pub byte_of : (off k : ℕ) → off < length (bytes_in block biases) → k ≡ place_of biases off
      → slice_index block k ≡ slice_index (bytes_in block biases) off
  unfolding bytes_in
  byte_of off k l e = ap (slice_index block) e
      ∙ sym (get_or-map-range_with_len (λ off. slice_index block (place_of biases off)) 0 (4096 * length biases) off off 0
      (omega (arith, l, length_paged)) (omega arith))

  -- memories with the same bytes
  same_bytes : (xs : List ℕ) → length xs ≡ 4096 * length biases
      → ((j : ℕ) → j < length xs → slice_index block (place_of biases j) ≡ slice_index xs j) → bytes_in block biases ≡ xs
  same_bytes xs n h = ext_get_or 0 _ xs (length_paged ∙ sym n)
      (λ j l. sym (byte_of j (place_of biases j) l refl) ∙ h j (omega (arith, l, length_paged, n)))

  pub index_in : (off : ℕ) → off < length (bytes_in block biases) → off / 4096 < length biases
  index_in off l = omega (arith, length_paged)

module _ (block biases : List ℕ) (a : IsPaged block biases) where
  pub block_small : length block < 2 ^ 32
  unfolding IsPaged
  block_small = omega (arith, a.size, a.most, count_at_most (made_in biases), length_made biases)

  -- a byte lies at its page, as far from its beginning
  place_is : (off : ℕ) → off / 4096 < length biases → place_of biases off ≡ start_of biases (off / 4096) + off % 4096
  unfolding IsPaged
  place_is off l = omega (arith, a.inside (off / 4096) l, block_small)

  place_in : (off n : ℕ) → off / 4096 < length biases → off % 4096 + n ≤ 4096 → place_of biases off + n ≤ length block
  unfolding IsPaged
  place_in off n l m = omega (arith, place_is off l, a.inside (off / 4096) l)

  pub byte_in : (off : ℕ) → off < length (bytes_in block biases) → place_of biases off < length block
  byte_in off l = omega (arith, place_in off 1 (index_in block biases off l) (omega arith))

  pub word_in : (off : ℕ) → off + 4 ≤ length (bytes_in block biases) → off % 4 ≡ 0 → place_of biases off + 4 ≤ length block
  word_in off l m = place_in off 4 (index_in block biases off (omega arith)) (omega arith)

  pub range_at : (off : ℕ) (w : Width) → off + bytes_of w ≤ length (bytes_in block biases) → off % bytes_of w ≡ 0
      → place_of biases off + bytes_of w ≤ length block
  range_at off w l m = place_in off (bytes_of w) (index_in block biases off (range_in w off _ l)) (in_page w off m)

  -- the bytes of a page are neighbours in the block too
  near : (off j : ℕ) → off / 4096 < length biases → j / 4096 ≡ off / 4096
      → place_of biases j + off ≡ place_of biases off + j
  near off j l e = omega (arith, place_is off l, place_is j (omega arith), ap (start_of biases) e)

  place_rest : (off : ℕ) → off / 4096 < length biases → place_of biases off % 4096 ≡ off % 4096
  unfolding IsPaged
  place_rest off l = omega (arith, place_is off l, a.whole (off / 4096) l)

  pub word_of : (off k : ℕ) → off + 4 ≤ length (bytes_in block biases) → off % 4 ≡ 0 → k ≡ place_of biases off
      → value_at block k 4 ≡ value_at (bytes_in block biases) off 4
  word_of off k l m e = same_value block (bytes_in block biases) k off 4
      (λ j less. byte_of block biases (off + j) (k + j) (omega arith)
      (omega (arith, e, near off (off + j) (index_in block biases off (omega arith)) (omega arith))))

  -- ---- which pages exist
  pub made_place : (off : ℕ) → off / 4096 < length biases → leb 4096 (place_of biases off) ≡ is_made (made_in biases) off
  unfolding IsPaged
  made_place off l = start_place _ _ (off % 4096) (place_is off l) (a.whole (off / 4096) l) (omega arith)
      ∙ sym (made_at biases (off / 4096) l)

  -- a page that doesn't exist lies at the zeros
  zero_byte : (off : ℕ) → off < length (bytes_in block biases) → is_made (made_in biases) off ≡ false
      → slice_index (bytes_in block biases) off ≡ 0
  unfolding IsPaged
  zero_byte off l u =
      let p = place_of biases off in
      sym (byte_of block biases off p l refl)
      ∙ sym (get_or-take 4096 block p 0 (leb-false 4096 p (made_place off (index_in block biases off l) ∙ u)))
      ∙ ap (λ xs. slice_index xs p) a.blank ∙ zero_of 4096 p

  pub blank : (off : ℕ) → off < length (bytes_in block biases) → is_made (made_in biases) off ≡ false
      → is_zero_page (bytes_in block biases) off ≡ true
  unfolding is_zero_page
  blank off l u =
      let bs = bytes_in block biases in
      let s = 4096 * (off / 4096) in
      list_all-from_AllPass (λ byte. byte == 0) (take 4096 (drop s bs)) (λ k d h.
      let m : k < 4096 = omega (arith, h, length-take 4096 (drop s bs)) in
      let q : (s + k) / 4096 ≡ off / 4096 = omega arith in
      ap (λ b. b == 0) (get_or_default_zero (take 4096 (drop s bs)) k d h ∙ get_or-take 4096 (drop s bs) k 0 m
      ∙ get_or-drop s bs k 0 ∙ zero_byte (s + k) (omega (arith, h, length-take 4096 (drop s bs), length-drop s bs))
      (ap (λ i. slice_index_or (made_in biases) i false) q ∙ u)))

  -- what lies in the block where a page that exists does is of that page
  one_page : (off j : ℕ) → off / 4096 < length biases → j / 4096 < length biases → is_made (made_in biases) off ≡ true
      → place_of biases j / 4096 ≡ place_of biases off / 4096 → j / 4096 ≡ off / 4096
  unfolding IsPaged
  one_page off j l m u e =
      let same : start_of biases (j / 4096) ≡ start_of biases (off / 4096) =
      omega (arith, e, place_is off l, place_is j m, a.whole (off / 4096) l, a.whole (j / 4096) m) in
      let some : 0 < start_of biases (off / 4096) = ltb-true 0 _ (sym (made_at biases (off / 4096) l) ∙ u) in
      elim (cases_lt (j / 4096) (off / 4096)) [
        | inl before ↦ absurd (omega (arith, some, same, a.apart (j / 4096) (off / 4096) before l same))
        | inr after ↦ elim (cases_lt (off / 4096) (j / 4096)) [
          | inl behind ↦ absurd (omega (arith, some, a.apart (off / 4096) (j / 4096) behind m (sym same)))
          | inr same ↦ omega arith
        ]
      ]

-- zeros that are written in a page of zeros change nothing
zero_at : (bs : List ℕ) (off j : ℕ) → off / 4096 ≡ j / 4096 → j < length bs → is_zero_page bs off ≡ true
    → slice_index bs j ≡ 0
unfolding is_zero_page
zero_at bs off j e l z =
    let page : List ℕ = take 4096 (drop (4096 * (off / 4096)) bs) in
    let k : 4096 * (off / 4096) + j % 4096 ≡ j = omega arith in
    sym (get_or-take 4096 (drop (4096 * (off / 4096)) bs) (j % 4096) 0 (omega arith)
    ∙ get_or-drop (4096 * (off / 4096)) bs (j % 4096) 0 ∙ ap (slice_index bs) k)
    ∙ eqb-true _ 0 (AllPass-from_list_all (λ byte. byte == 0) page z (j % 4096) 0
    (omega (arith, length-take 4096 (drop (4096 * (off / 4096)) bs), length-drop (4096 * (off / 4096)) bs)))

pub zeros_put : (bs : List ℕ) (off v : ℕ) (w : Width) → off + bytes_of w ≤ length bs → off % bytes_of w ≡ 0
    → is_zero_page bs off ≡ true → is_zero w v ≡ true → bs ≡ put bs off (bytes_of w) v
zeros_put bs off v w l a z e = search (rules, put_zeros, zero_at, in_page)

-- ---- writes in a page that exists
take_before : (xs : List ℕ) (m at n v : ℕ) → m ≤ at → take m (put xs at n v) ≡ take m xs
unfolding put
take_before xs m at zero v l = refl
take_before xs m at (suc n) v l = search (rules, take-set-le, take_before xs m at n v l)

module _ (block biases : List ℕ) (off k v : ℕ) (w : Width) (a : IsPaged block biases)
    (l : off + bytes_of w ≤ length (bytes_in block biases)) (u : is_made (made_in biases) off ≡ true)
    (e : k ≡ place_of biases off) where
  index : off / 4096 < length biases
  index = index_in block biases off (range_in w off _ l)

  behind : 4096 ≤ k
  behind = omega (arith, e, leb-true 4096 _ (made_place block biases a off index ∙ u))

  pub paged_put : IsPaged (put block k (bytes_of w) v) biases
  unfolding IsPaged
  paged_put =
      let n = length_put block k (bytes_of w) v in record {
        some = a.some;
        most = a.most;
        size = n ∙ a.size;
        blank = take_before block 4096 k (bytes_of w) v behind ∙ a.blank;
        inside = λ p l. omega (arith, n, a.inside p l);
        whole = a.whole;
        apart = a.apart;
      }

  pub bytes_put : off % bytes_of w ≡ 0 → bytes_in (put block k (bytes_of w) v) biases
      ≡ put (bytes_in block biases) off (bytes_of w) v
  bytes_put m =
      let bs = bytes_in block biases in
      let n = length_put bs off (bytes_of w) v in
      same_bytes (put block k (bytes_of w) v) biases (put bs off (bytes_of w) v) (n ∙ length_paged block biases) (λ j h.
      let g : j < length bs = omega (arith, h, n) in
      put_moved block bs k off (bytes_of w) v (place_of biases j) j (omega (arith, e, range_at block biases a off w l m)) l
      (λ d less q.
      let p = one_page block biases a off j index (index_in block biases j g) u
      (omega (arith, e, q, place_rest block biases a off index, in_page w off m)) in
      omega (arith, e, q, near block biases a off j index p))
      (λ d less q. omega (arith, e, q, near block biases a off j index (omega (arith, q, less, in_page w off m))))
      (byte_of block biases j (place_of biases j) g refl))

-- ---- a page is made
length_more : (block : List ℕ) → length (block ++ zeros 4096) ≡ length block + 4096
length_more block = omega (arith, length-append block (zeros 4096), length_zeros 4096)

pub page_more : (block : List ℕ) (n m : ℕ) → n ≡ length block + 4096 → m ≡ length block
    → take n block ++ replicate (n - m) 0 ≡ block ++ zeros 4096
unfolding zeros
page_more block n m e f =
    let k : n - m ≡ 4096 = omega arith in
    ap (λ xs. xs ++ replicate (n - m) 0) (take_all n block (omega arith)) ∙ ap (λ j. block ++ replicate j 0) k

-- a bias leads to the end of the block
pub bias_leads : (p n b : ℕ) → n < 2 ^ 32 → b ≡ (n + (2 ^ 32 - 4096 * p)) % 2 ^ 32 → p < 1048576
    → (4096 * p + b) % 2 ^ 32 ≡ n
bias_leads p n b l e m = omega (arith, e)

-- one more page exists
count_set : (made : List Bool) (i : ℕ) → i < length made → get_or made i false ≡ false
    → made_count (set made i true) ≡ 1 + made_count made
count_set (false ∷ made) zero l z = refl
count_set (false ∷ made) (suc i) l z = count_set made i (omega arith) z
count_set (true ∷ made) (suc i) l z = ap (λ n. 1 + n) (count_set made i (omega arith) z)
count_set (true ∷ made) zero l z = absurd (true≢false z)
count_set [] i l z = absurd (omega (arith, l))

module _ (block biases : List ℕ) (off b : ℕ) (a : IsPaged block biases) (l : off < length (bytes_in block biases))
    (e : (4096 * (off / 4096) + b) % 2 ^ 32 ≡ length block) where
  abbrev page : ℕ
  page = off / 4096

  abbrev new : List ℕ
  new = set biases page b

  in_range : page < length biases
  in_range = index_in block biases off l

  at : (p : ℕ) → ((p ≡ page) × (start_of new p ≡ length block)) ⊎ ((p ≢ page) × (start_of new p ≡ start_of biases p))
  at p = elim (cases_eq p page) [
    | inl same ↦ inl (
      same,
      ap (λ c. (4096 * p + c) % 2 ^ 32) (get_or-set_at biases page p b 0 same in_range)
          ∙ ap (λ q. (4096 * q + b) % 2 ^ 32) same ∙ e,
    )
    | inr other ↦ inr (other, ap (λ c. (4096 * p + c) % 2 ^ 32) (get_or-set_other biases page p b 0 other))
  ]

  some_block : 4096 ≤ length block
  unfolding IsPaged
  some_block = omega (arith, a.size)

  pub made_made : made_in new ≡ set (made_in biases) page true
  made_made = ext_get_or false _ _ (length_made new ∙ length-set biases page b
      ∙ sym (length-set (made_in biases) page true ∙ length_made biases)) (λ p h.
      let m : p < length biases = omega (arith, h, length_made new, length-set biases page b) in
      made_at new p (omega (arith, m, length-set biases page b)) ∙ elim (at p) [
        | inl (same, start) ↦ rw start (lt-ltb 0 _ (omega (arith, some_block)))
            ∙ sym (get_or-set_at (made_in biases) page p true false same (omega (arith, in_range, length_made biases)))
        | inr (other, start) ↦ ap (nat_lt 0) start ∙ sym (made_at biases p m)
            ∙ sym (get_or-set_other (made_in biases) page p true false other)
      ])

  pub made_there : is_made (made_in new) off ≡ true
  made_there = ap (λ made. is_made made off) made_made
      ∙ get_or-set_at (made_in biases) page page true false refl (omega (arith, in_range, length_made biases))

  pub paged_made : is_made (made_in biases) off ≡ false → IsPaged (block ++ zeros 4096) new
  unfolding IsPaged
  paged_made u =
      let n = length-set biases page b in
      let k = length_more block in record {
        some = omega (arith, n, a.some);
        most = omega (arith, n, a.most);
        size = omega (
          arith,
          k,
          a.size,
          ap made_count made_made,
          count_set (made_in biases) page (omega (arith, in_range, length_made biases)) u,
        );
        blank = take-append-le 4096 block (zeros 4096) some_block ∙ a.blank;
        inside = λ p m. elim (at p) [
          | inl (s, f) ↦ omega (arith, f, k)
          | inr (s, f) ↦ omega (arith, f, k, a.inside p (omega (arith, n)))
        ];
        whole = λ p m. elim (at p) [
          | inl (s, f) ↦ omega (arith, f, a.size)
          | inr (s, f) ↦ omega (arith, f, a.whole p (omega (arith, n)))
        ];
        apart = λ p q m j same. elim (at p) [
          | inl (s, f) ↦ elim (at q) [
            | inl (g, h) ↦ absurd (omega (arith, s, g, m))
            | inr (g, h) ↦ absurd (omega (arith, f, h, same, a.inside q (omega (arith, n))))
          ]
          | inr (s, f) ↦ elim (at q) [
            | inl (g, h) ↦ absurd (omega (arith, f, h, same, a.inside p (omega (arith, n))))
            | inr (g, h) ↦ f ∙ a.apart p q m (omega (arith, n)) (sym f ∙ same ∙ h)
          ]
        ];
      }

  pub bytes_made : is_made (made_in biases) off ≡ false → bytes_in (block ++ zeros 4096) new ≡ bytes_in block biases
  unfolding IsPaged
  bytes_made u = same_bytes (block ++ zeros 4096) new (bytes_in block biases)
      (length_paged block biases ∙ ap (λ n. 4096 * n) (sym (length-set biases page b)))
      (λ j h. elim (at (j / 4096)) [
        | inl (q, start) ↦
            (let p : place_of new j ≡ length block + j % 4096 =
            place_is (block ++ zeros 4096) new (paged_made u) j (omega (arith, q, in_range, length-set biases page b))
            ∙ ap (λ s. s + j % 4096) start in
            ap (slice_index (block ++ zeros 4096)) p ∙ get_or-append-add block (zeros 4096) (j % 4096) 0
            ∙ zero_of 4096 (j % 4096)
            ∙ sym (zero_byte block biases a j h (ap (λ k. slice_index_or (made_in biases) k false) q ∙ u)))
        | inr (d, start) ↦
            ap (λ c. slice_index (block ++ zeros 4096) ((j + c) % 2 ^ 32)) (get_or-set_other biases page (j / 4096) b 0 d)
            ∙ get_or_append_left block (zeros 4096) 0 (place_of biases j) (byte_in block biases a j h)
            ∙ byte_of block biases j (place_of biases j) h refl
      ])

-- ---- which pages exist after a write
pub made_after_put : (made : List Bool) (off v : ℕ) (w : Width) → is_made made off ≡ true
    → made ≡ made_after made off w v
made_after_put made off v w e = search (rules, set-get_or)

pub made_after_zeros : (made : List Bool) (off v : ℕ) (w : Width) → is_made made off ≡ false
    → is_zero w v ≡ true → made ≡ made_after made off w v
made_after_zeros made off v w e z = search (rules, set-get_or)

pub made_after_page : (made : List Bool) (off v : ℕ) (w : Width) → is_made made off ≡ false
    → is_zero w v ≡ false → set made (off / 4096) true ≡ made_after made off w v
made_after_page made off v w e z = search rules

-- ---- a new memory
pub biases_zero : blank_biases 0 ≡ []
unfolding blank_biases
biases_zero = refl

biases_more : (n b : ℕ) → b ≡ (2 ^ 32 - 4096 * n) % 2 ^ 32 → blank_biases (n + 1) ≡ blank_biases n ++ b ∷ []
unfolding blank_biases
biases_more n b e = rw e (map-range_with_len_more (λ p. (2 ^ 32 - 4096 * p) % 2 ^ 32) 0 n n (omega arith))

take_next : (xs : List ℕ) (n b : ℕ) → n < length xs → take (suc n) (set xs n b) ≡ take n xs ++ b ∷ []
take_next (x ∷ xs) zero b l = refl
take_next (x ∷ xs) (suc n) b l = ap (λ ys. x ∷ ys) (take_next xs n b (omega arith))
take_next [] n b l = absurd (omega (arith, l))

pub biases_next : (xs : List ℕ) (n b : ℕ) → n < length xs → take n xs ≡ blank_biases n
    → b ≡ (2 ^ 32 - 4096 * n) % 2 ^ 32 → take (n + 1) (set xs n b) ≡ blank_biases (n + 1)
biases_next xs n b l e is =
    let more : n + 1 ≡ suc n = omega arith in
    ap (λ k. take k (set xs n b)) more ∙ take_next xs n b l ∙ ap (λ ys. ys ++ b ∷ []) e ∙ sym (biases_more n b is)

length_blank : (n : ℕ) → length (blank_biases n) ≡ n
unfolding blank_biases
length_blank n = length-map-range_with_len (λ p. (2 ^ 32 - 4096 * p) % 2 ^ 32) 0 n

-- all pages lie at the zeros
blank_start : (n p : ℕ) → n ≤ 4096 → p < n → start_of (blank_biases n) p ≡ 0
unfolding blank_biases
blank_start n p m l =
    omega (arith, get_or-map-range_with_len (λ p. (2 ^ 32 - 4096 * p) % 2 ^ 32) 0 n p p 0 l (omega arith))

count_none : (n : ℕ) → made_count (none_made n) ≡ 0
unfolding none_made
count_none zero = refl
count_none (suc n) = count_none n

module _ (block biases : List ℕ) (n : ℕ) (e : biases ≡ blank_biases n) (m : n ≤ 4096) where
  all_biases : length biases ≡ n
  all_biases = ap length e ∙ length_blank n

  starts : (p : ℕ) → p < length biases → start_of biases p ≡ 0
  starts p l = ap (λ bs. start_of bs p) e ∙ blank_start n p m (omega (arith, l, all_biases))

  pub made_new : made_in biases ≡ none_made n
  unfolding none_made
  made_new = ext_get_or false _ _ (length_made biases ∙ all_biases ∙ sym (length-replicate n false)) (λ p h.
      let l : p < length biases = omega (arith, h, length_made biases) in
      made_at biases p l ∙ ap (nat_lt 0) (starts p l)
      ∙ sym (get_or-replicate n p false false (omega (arith, l, all_biases))))

  pub paged_new : block ≡ zeros 4096 → 1 ≤ n → IsPaged block biases
  unfolding IsPaged
  paged_new z some =
      let size : length block ≡ 4096 = ap length z ∙ length_zeros 4096 in record {
        some = omega (arith, some, all_biases);
        most = omega (arith, m, all_biases);
        size = omega (arith, size, ap made_count made_new, count_none n);
        blank = take_all 4096 block (omega (arith, size)) ∙ z;
        inside = λ p l. omega (arith, starts p l, size);
        whole = λ p l. ap (λ s. s % 4096) (starts p l);
        apart = λ p q before l same. starts p (omega (arith, before, l));
      }

  pub bytes_new : block ≡ zeros 4096 → bytes_in block biases ≡ zeros (4096 * n)
  bytes_new z = same_bytes block biases (zeros (4096 * n)) (length_zeros (4096 * n) ∙ ap (λ k. 4096 * k) (sym all_biases))
      (λ j h. ap (λ xs. slice_index xs (place_of biases j)) z ∙ zero_of 4096 (place_of biases j)
      ∙ sym (zero_of (4096 * n) j))
