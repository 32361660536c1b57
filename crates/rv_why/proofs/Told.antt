-- The search for the trap that is told.
use Rattle.std.proofs.lemmas.Bool.Decides.{nat_tests}
use Rattle.std.proofs.Common.{rules, ◌≡◌, ◌∙◌, ℕ, zero, suc, ◌+◌, ◌-◌, ◌<◌, Bool, true, false, add-one, refl, sym, ap, arith}
use native.Mathlib.Numerals.{unary_clauses}
use Rattle.std.specs.Prelude.{if◌then◌else◌, min, IfSome, Option, Some, None}
use Rattle.std.specs.Option.{option_and_then, option_map, option_map_or}
use Rattle.rv_monitor.specs.State.{IsInTime, SessionState, TimedState}
use Rattle.rv_monitor.proofs.Steps.{after_more}
use Rattle.rv_recording.specs.Recording.{RecordingState}
use Rattle.rv_why.specs.Taken.{first_state, is_trap, outcome_at}
use Rattle.rv_why.specs.Why.{explained, explanation, is_unhandled, told}
use Rattle.rv_why.specs.Support.Found.{found_at, found_in, is_last, later_of, next_of, trap_of}
use Rattle.rv_why.specs.declared.search.Found.{Found}
use Rattle.rv_why.proofs.Standing.{next_is, stands, stands_first, timed_is}

-- whether the trap that is told of the first n steps met no handler
abbrev ends : TimedState → ℕ → Bool
ends s n = option_map_or (is_unhandled s) (told s n) false

told_next : (s : TimedState) (n : ℕ) → ends s n ≡ false
    → told s (n + 1) ≡ (if is_trap (outcome_at s n) then Some n else told s n)
unfolding told
told_next s n e = ap (told s) (add-one n) ∙ rw e refl

stays : (s : TimedState) (n k : ℕ) → ends s n ≡ true → told s (n + k) ≡ told s n
unfolding told
stays s n zero e = simp unary_clauses refl
stays s n (suc k) e = simp unary_clauses (rw (stays s n k e) (rw e refl))

within_by : (b c : Bool) (o : Option ℕ) (n : ℕ) → IfSome o (λ k. k < n)
    → IfSome (if b then o else (if c then Some n else o)) (λ k. k < suc n)
within_by b c o n l = search (rules, arith, nat_tests)

told_within : (s : TimedState) (n : ℕ) → IfSome (told s n) (λ k. k < n)
unfolding told
told_within s zero = tt
told_within s (suc n) = within_by _ _ (told s n) n (told_within s n)

-- n steps were taken, of which each trap met a handler
pub record Searching (first now : SessionState) (found : Option Found) (n : ℕ) : Type 0 where
  pub state : now ≡ stands first n
  pub told : found ≡ found_in first.timed n
  pub going : is_last found ≡ false

pub begins : {first : SessionState} → IsInTime first.timed → Searching first first None 0
unfolding told
begins h = search (rules, arith, nat_tests, stands_first)

last_is : (s : TimedState) (o : Option ℕ) → is_last (option_map (found_at s) o) ≡ option_map_or (is_unhandled s) o false
last_is s o = search (rules, arith)

later_by : (s : TimedState) (n : ℕ) (o : Option ℕ) (b : Bool)
    → later_of (if b then Some (found_at s n) else None) (option_map (found_at s) o)
    ≡ option_map (found_at s) (if b then Some n else o)
later_by s n o b = search (rules, arith)

module _ {first now next : SessionState} {found trap later : Option Found} {n : ℕ} (h : IsInTime first.timed)
    (at : Searching first now found n) (moves : next ≡ next_of now) (is : trap ≡ trap_of n now.timed)
    (keeps : later ≡ later_of trap found) where
  found_next : later ≡ found_in first.timed (n + 1)
  found_next = search (rules, arith, nat_tests, timed_is, after_more, told_next, later_by, last_is)

  pub went_on : is_last later ≡ false → Searching first next later (n + 1)
  went_on e = record { state = next_is n h at.state moves; told = found_next; going = e }

  pub found_last : {most : ℕ} → n < most → is_last later ≡ true → later ≡ found_in first.timed most
  found_last {most} l e =
      let sum : n + 1 + (most - (n + 1)) ≡ most = omega (arith, l) in
      let last : ends first.timed (n + 1) ≡ true =
      sym (last_is first.timed (told first.timed (n + 1))) ∙ (ap is_last (sym found_next) ∙ e) in
      found_next ∙ ap (option_map (found_at first.timed))
      (sym (stays first.timed (n + 1) (most - (n + 1)) last) ∙ ap (told first.timed) sum)

-- ---- what is told of a recording

found_by : (s : TimedState) (n : ℕ) (f : Found) (o : Option ℕ) → IfSome o (λ k. k < n)
    → Some f ≡ option_map (found_at s) o → (f.step < n) × (f ≡ found_at s f.step)
found_by s n f None l e = absurd cc
found_by s n f (Some k) l e = let is : f ≡ found_at s k = cc in rw is (l, refl)

pub found_it : (s : TimedState) (n : ℕ) {f : Found} → Some f ≡ found_in s n → (f.step < n) × (f ≡ found_at s f.step)
found_it s n {f} e = found_by s n f (told s n) (told_within s n) e

trap_by : (s : TimedState) (o : Option ℕ) → option_and_then (λ (f : Found). explained s f.step f.did) (option_map (found_at s) o)
    ≡ option_and_then (λ n. explained s n (outcome_at s n)) o
trap_by s o = search (rules, arith)

pub trap_is : (r : RecordingState) (found : Option Found)
    → found ≡ found_in (first_state r) (min r.session.timed.taken 20000000)
    → option_and_then (λ (f : Found). explained (first_state r) f.step f.did) found ≡ (explanation r).trap
unfolding explanation
trap_is r found e = rw e (trap_by (first_state r) (told (first_state r) (min r.session.timed.taken 20000000)))
