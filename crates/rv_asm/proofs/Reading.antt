-- Reading the lines of a source, one by one, and the faults of those that can't be read.
use Rattle.std.proofs.lemmas.Bool.Decides.{nat_tests}
use Rattle.std.proofs.lemmas.Grind.{common_steps}
use Rattle.std.proofs.Common.{◌≡◌, ℕ, suc, ◌+◌, ◌<◌, ◌≤◌, List, [], ◌∷◌, ◌++◌, length, drop, get_or, sym, refl, ap, ◌∙◌, arith, add-one, length-drop, append-nil, rules}
use Rattle.std.specs.Prelude.{Ok, Some, Result, Err}
use Rattle.std.specs.Result.{result_err}
use Rattle.std.proofs.Math.Seq.{drop-cons}
use Rattle.std.proofs.lemmas.List.{get_or-map, length-map}
use Rattle.rv_source.specs.Reading.{Parsed, parsed}
use Rattle.rv_program.specs.declared.fault.AsmFault.{AsmFault}
use Rattle.rv_asm.specs.Layout.{line_at}
use Rattle.rv_asm.specs.Assembly.{all_parsed}
use Rattle.rv_asm.specs.Support.Steps.{all_faults, faults_at, phase_one_fault, unread_kind}
use Rattle.rv_asm.proofs.Counting.{faults_more}
use Rattle.std.specs.Option.{option_map}
use Rattle.rv_tokens.specs.Support.Partial.{Fails as LineFails}
use Rattle.rv_tokens.specs.declared.fault.LineFault.{LineFault}
use Rattle.rv_tokens.specs.declared.fault.LineFault.TheVariants as line
use Rattle.rv_program.specs.Faults.{Gives, kind_of}
use Rattle.rv_asm.specs.Listing.{◌>>=◌}

pub length-parsed : (texts : List (List ℕ)) → length (all_parsed texts) ≡ length texts
length-parsed texts = length-map texts _

-- the lines from line n on are left
pub record LeftOf (texts rest : List (List ℕ)) (n : ℕ) : Type 0 where
  pub left : rest ≡ drop n texts
  pub within : n ≤ length texts

pub all_left : (texts : List (List ℕ)) → LeftOf texts texts 0
all_left texts = record { left = refl; within = omega arith }

pub record IsAt {X : Type 0} (xs : List X) (n : ℕ) (x : X) (ys : List X) (d : X) : Type 0 where
  pub below : n < length xs
  pub item : get_or xs n d ≡ x
  pub after : drop (suc n) xs ≡ ys

pub dropped : {X : Type 0} (xs : List X) (n : ℕ) (x : X) (ys : List X) (d : X) → drop n xs ≡ x ∷ ys →
    IsAt xs n x ys d
dropped xs n x ys d e =
    let below : n < length xs = omega (arith, length-drop n xs, ap length e) in
    let c = drop-cons xs n d below in record { below = below; item = cc; after = cc }

module _ (texts rest : List (List ℕ)) (n : ℕ) (so : LeftOf texts rest n) where
  pub none_left : rest ≡ [] → length texts ≡ n
  none_left h = omega (arith, length-drop n texts, ap length (sym so.left ∙ h), so.within)

  module _ (text : List ℕ) (after : List (List ℕ)) (cut : rest ≡ text ∷ after) where
    next : IsAt texts n text after []
    next = dropped texts n text after [] (sym so.left ∙ cut)

    pub is_before : n < length (all_parsed texts)
    is_before = rw (length-parsed texts) next.below

    pub left_more : LeftOf texts after (n + 1)
    left_more = rw add-one (record { left = sym next.after; within = omega (arith, next.below) })

    pub unread_more : (unread more : List AsmFault) → unread ≡ all_faults (phase_one_fault texts) n →
        more ≡ unread ++ faults_at n (unread_kind text) → more ≡ all_faults (phase_one_fault texts) (n + 1)
    unread_more unread more u e = rw add-one (e ∙ rw (u, ← next.item) (sym (faults_more (phase_one_fault texts) n)))

    pub read_line_at : (line : Parsed) → parsed text ≡ Ok line → line_at (all_parsed texts) n ≡ line
    read_line_at line is = search (rules, get_or-map, next)

-- ---- one line

-- a line that can't be read
pub not_read : (fault : LineFault) (r : Result Parsed LineFault) → LineFails fault r →
    (fault ≡ line.OutOfMemory → ⊥) → option_map kind_of (result_err r) ≡ Some (kind_of fault)
not_read fault r h n = search rules

pub never_empty : {X : Type 0} (xs ys : List X) (x : X) → ys ≡ xs ++ x ∷ [] → ys ≡ [] → ⊥
never_empty xs ys x e h = grind (arith, nat_tests, common_steps)

-- a line that can be read has no fault
pub read_well : (k : ℕ) (text : List ℕ) (line : Parsed) (faults : List AsmFault) → parsed text ≡ Ok line →
    faults ≡ faults ++ faults_at k (unread_kind text)
read_well k text line faults is = rw is (sym (append-nil faults))

-- ---- faults that are passed on

pub fails_bind : {A B : Type 0} (fault : AsmFault) (r : Result A AsmFault) (f : A → Result B AsmFault) →
    Gives (λ x. x) (Err fault) r → Gives (λ x. x) (Err fault) (r >>= f)
fails_bind fault r f h = search rules
