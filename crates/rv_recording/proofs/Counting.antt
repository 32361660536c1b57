-- How many steps a run takes.
use Rattle.std.proofs.Common.{rules, ◌≡◌, ℕ, zero, suc, ◌+◌, ◌<◌, ◌≤◌, Bool, true, false, refl, arith}
use native.Mathlib.Numerals.{unary_clauses}
use Rattle.std.specs.Prelude.{if◌then◌else◌, is_some, Option}
use Rattle.std.proofs.lemmas.Bool.{cases_lt, false≢true}
use Rattle.rv_recording.specs.Until.{steps_of}
use Rattle.rv_recording.specs.Refused.{NoneEnds}
use Rattle.rv_recording.specs.declared.until.End.{End}

shifted : (b : Bool) (k n : ℕ) → (if b then k + n else suc (k + n)) ≡ k + (if b then n else suc n)
shifted b k n = search (rules, arith)

module _ (ends : ℕ → Option End) where
  pub steps_within : (m : ℕ) → steps_of ends m ≤ m
  unfolding steps_of
  steps_within zero = omega arith
  steps_within (suc m) = search (rules, arith, steps_within m)

  -- a run that isn't over before n steps takes n steps
  pub all_steps : (n : ℕ) → NoneEnds ends n → steps_of ends n ≡ n
  unfolding steps_of
  all_steps zero going = refl
  all_steps (suc n) going = search (rules, arith, all_steps n)

  -- a run that is over after n steps, and not before, takes n steps
  pub over_at : (n m : ℕ) → n ≤ m → NoneEnds ends n → is_some (ends n) ≡ true → steps_of ends m ≡ n
  unfolding steps_of
  over_at n zero h going is = omega (arith, h)
  over_at n (suc m) h going is = search (rules, arith, all_steps, cases_lt, over_at n m)

  -- a run that isn't over after n steps takes more
  pub takes_more : (n m : ℕ) → n < m → NoneEnds ends (suc n) → n < steps_of ends m
  unfolding steps_of
  takes_more n zero h going = absurd (omega (arith, h))
  takes_more n (suc m) h going = search (rules, arith, all_steps, cases_lt, takes_more n m)

  -- a run that takes fewer steps than it may is over after them
  pub over_or_all : (m : ℕ) → steps_of ends m < m → is_some (ends (steps_of ends m)) ≡ true
  unfolding steps_of
  over_or_all zero h = absurd (omega (arith, h))
  over_or_all (suc m) h = search (rules, arith, over_or_all m, false≢true)

  -- a run isn't over before the steps that it takes
  pub none_before : (m : ℕ) → NoneEnds ends (steps_of ends m)
  unfolding steps_of
  none_before zero i l = absurd (omega (arith, l))
  none_before (suc m) i l = search (rules, arith, none_before m, cases_lt)

  -- one that isn't over before k steps takes them, if it is over after them or they are all
  pub as_far : (k most : ℕ) → k ≤ most → NoneEnds ends k → (is_some (ends k) ≡ false → k ≡ most) → steps_of ends most ≡ k
  as_far k most within none last = search (rules, arith, over_at, all_steps)

  -- a run of more steps goes on where one of fewer ends
  pub joins_over : (n k : ℕ) → is_some (ends (steps_of ends n)) ≡ true → steps_of ends (n + k) ≡ steps_of ends n
  unfolding steps_of
  joins_over n zero is = simp unary_clauses refl
  joins_over n (suc k) is = simp unary_clauses (rw (joins_over n k is) (rw is refl))

  pub joins : (n k : ℕ) → is_some (ends (steps_of ends n)) ≡ false
      → steps_of ends (n + k) ≡ steps_of ends n + steps_of (λ i. ends (steps_of ends n + i)) k
  unfolding steps_of
  joins n zero is = simp unary_clauses refl
  joins n (suc k) is = search (rules, arith, unary_clauses, shifted, joins n k is)

-- the same reasons lead to as many steps
pub same_steps : (e f : ℕ → Option End) → ((i : ℕ) → is_some (e i) ≡ is_some (f i)) → (n : ℕ) → steps_of e n ≡ steps_of f n
unfolding steps_of
same_steps e f same zero = refl
same_steps e f same (suc n) = search (rules, arith, same_steps e f same n)
