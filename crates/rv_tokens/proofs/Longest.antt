-- The longest prefix of a text that spells something.
use Rattle.std.proofs.Common.{⊎_elim, rules, ◌≡◌, ℕ, zero, suc, ◌-◌, ◌<◌, ◌≤◌, refl, ◌∙◌, arith}
use Rattle.std.specs.Prelude.{Option, None, Some}
use Rattle.std.proofs.lemmas.Bool.{cases_lt}
use Rattle.rv_tokens.specs.Literals.{longest}

-- if no longer prefix spells anything
pub longest_above : {A : Type 0} (spells : ℕ → Option A) (n k : ℕ) → n ≤ k
    → ((m : ℕ) → n < m → m ≤ k → spells m ≡ None) → longest spells k ≡ longest spells n
unfolding longest
longest_above spells n zero le h = let e : n ≡ 0 = omega arith in rw e refl
longest_above spells n (suc k) le h = ⊎_elim
    (λ l. rw (h (suc k) l (omega arith)) (longest_above spells n k (omega arith) (λ m p q. h m p (omega arith))))
    (λ l. let e : n ≡ suc k = omega arith in rw e refl) (cases_lt n (suc k))

pub longest_zero : {A : Type 0} (spells : ℕ → Option A) → longest spells 0 ≡ None
unfolding longest
longest_zero spells = refl

pub longest_none : {A : Type 0} (spells : ℕ → Option A) (k : ℕ) → ((m : ℕ) → 0 < m → m ≤ k → spells m ≡ None)
    → longest spells k ≡ None
longest_none spells k h = longest_above spells 0 k (omega arith) h ∙ longest_zero spells

pub longest_at : {A : Type 0} (spells : ℕ → Option A) (n : ℕ) (x : A) → 0 < n → spells n ≡ Some x
    → longest spells n ≡ Some (x, n)
unfolding longest
longest_at spells n x some e = search rules

pub longest_less : {A : Type 0} (spells : ℕ → Option A) (n : ℕ) → 0 < n → spells n ≡ None
    → longest spells n ≡ longest spells (n - 1)
unfolding longest
longest_less spells n some e = search rules

-- facts about the longest prefix
pub record IsLongest {A : Type 0} (spells : ℕ → Option A) (k n : ℕ) (x : A) : Type 0 where
  pub some : 0 < n
  pub within : n ≤ k
  pub is : spells n ≡ Some x
  pub above : (m : ℕ) → n < m → m ≤ k → spells m ≡ None

-- the prefix of n bytes is the longest, if no longer one spells anything
pub longest_is : {A : Type 0} (spells : ℕ → Option A) (k n : ℕ) (x : A) → IsLongest spells k n x
    → longest spells k ≡ Some (x, n)
longest_is spells k n x l = longest_above spells n k l.within l.above ∙ longest_at spells n x l.some l.is

-- how far the longest prefix reaches
abbrev pub reach : {A : Type 0} → Option (A × ℕ) → ℕ
reach None = 0
reach (Some found) = found.1

-- no longer prefix spells anything
pub longest_over : {A : Type 0} (spells : ℕ → Option A) (k m : ℕ) → reach (longest spells k) < m → m ≤ k
    → spells m ≡ None
unfolding longest
longest_over spells zero m p q = absurd (omega arith)
longest_over spells (suc k) m p q = search (rules, cases_lt, longest_over spells k m)

pub longest_found : {A : Type 0} (spells : ℕ → Option A) (k n : ℕ) (x : A) → longest spells k ≡ Some (x, n)
    → IsLongest spells k n x
unfolding longest
longest_found spells zero n x h = cc
longest_found spells (suc k) n x h = search (rules, cases_lt, longest_found spells k n x)

pub longest_same : {A : Type 0} (f g : ℕ → Option A) (k : ℕ) → ((m : ℕ) → m ≤ k → f m ≡ g m) → longest f k ≡ longest g k
unfolding longest
longest_same f g zero h = refl
longest_same f g (suc k) h = search (rules, longest_same f g k)

pub ruleset longest_steps = (longest_zero, longest_at, longest_less)
