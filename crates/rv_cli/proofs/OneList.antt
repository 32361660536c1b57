-- A text of timed inputs has one list, or one first refused line.
use Rattle.std.proofs.Common.{rules, ◌≡◌, ◌∙◌, ℕ, zero, suc, ◌+◌, ◌<◌, ◌⊎◌, inl, inr, true, List, ◌∷◌, ◌++◌, length, take, drop, refl, sym, ap, subst, arith, ⊎_elim}
use Rattle.std.specs.Prelude.{Option, Some, None, is_some}
use Rattle.std.proofs.Math.Seq.{take-length}
use Rattle.std.proofs.lemmas.Bool.{cases_lt, false≢true}
use Rattle.std.proofs.lemmas.List.{take-append-drop}
use Rattle.rv_timeline.specs.declared.input.TimedInput.{TimedInput}
use Rattle.rv_timeline.specs.Support.Reading.{IsFirstRefused}
use Rattle.rv_timeline.specs.Timed.{never_falls, timed}
use Rattle.rv_timeline.proofs.Whole.{all_of_append}

-- ---- lines that have a list: so have those before them

rises_before : (xs ys : List TimedInput) → never_falls (xs ++ ys) ≡ true → never_falls xs ≡ true
unfolding never_falls
rises_before (x ∷ y ∷ more) ys rises = search (rules, arith, rises_before (y ∷ more) ys)
rises_before xs ys rises = search (rules, arith)

front_of : (xs ys : List (List ℕ)) → is_some (timed (xs ++ ys)) ≡ true → is_some (timed xs) ≡ true
unfolding timed
front_of xs ys some = search (rules, arith, all_of_append, rises_before)

front : (n : ℕ) (texts : List (List ℕ)) → is_some (timed texts) ≡ true
    → is_some (timed (take n texts)) ≡ true
front n texts some = front_of (take n texts) (drop n texts) (rw take-append-drop some)

-- ---- at most one

-- a list, or a refused line
pub not_both : (texts : List (List ℕ)) (inputs : List TimedInput) (n : ℕ) → timed texts ≡ Some inputs
    → IsFirstRefused texts n → ⊥
not_both texts inputs n is first =
    false≢true (ap is_some (sym first.0) ∙ front n texts (ap is_some is))

-- one refused line
pub one_line : (texts : List (List ℕ)) (n m : ℕ) → IsFirstRefused texts n → IsFirstRefused texts m → n ≡ m
one_line texts n m first other = search (rules, arith)

-- ---- at least one

-- the first number below a bound for which something holds, if it does for any: else the other
pub first_below : (P Q : ℕ → Type 0) → ((k : ℕ) → P k ⊎ Q k) → (n : ℕ)
    → ((k : ℕ) → k < n → P k) ⊎ ((k : ℕ) × (k < n) × Q k × ((i : ℕ) → i < k → P i))
first_below P Q either zero = inl (λ k less. absurd (omega (arith, less)))
first_below P Q either (suc n) = elim (first_below P Q either n) [
  | inr found ↦ inr (found.0, omega (arith, found.1), found.2, found.3)
  | inl none ↦ elim (either n) [
    | inr here ↦ inr (n, omega arith, here, none)
    | inl not ↦ inl (λ k less. elim (cases_lt k n) [
      | inl before ↦ none k before
      | inr last ↦ let same : n ≡ k = omega (arith, less, last) in subst P same not
    ])
  ]
]

pub either : {X : Type 0} (o : Option X) → (o ≡ None) ⊎ (is_some o ≡ true)
either None = inl refl
either (Some x) = inr refl

listed : (o : Option (List TimedInput)) → is_some o ≡ true → (inputs : List TimedInput) × (o ≡ Some inputs)
listed (Some inputs) some = (inputs, refl)
listed None some = absurd (false≢true some)

pub list_or_line : (texts : List (List ℕ))
    → ((inputs : List TimedInput) × (timed texts ≡ Some inputs)) ⊎ ((n : ℕ) × IsFirstRefused texts n)
list_or_line texts = elim (first_below (λ k. is_some (timed (take k texts)) ≡ true) (λ k. timed (take k texts) ≡ None)
    (λ k. ⊎_elim (λ none. inr none) (λ some. inl some) (either (timed (take k texts)))) (length texts + 1)) [
      | inl all ↦ inl (listed (timed texts) (ap (λ ts. is_some (timed ts)) (sym (take-length texts)) ∙ all (length texts) (omega arith)))
      | inr found ↦ inr (found.0, (found.2, found.3))
    ]
