-- Faults are in order of lines, so that one walk over the lines finds each.
use Rattle.std.proofs.Common.{◌≡◌, ℕ, zero, suc, ◌+◌, ◌-◌, ◌<◌, ◌≤◌, ◌==◌, true, false, List, [], ◌∷◌, ◌++◌, map, length, get_or, refl, sym, ap, ◌∙◌, arith, append-nil, append_assoc}
use Rattle.std.specs.Prelude.{Option, None, Some, IfSome, is_some, slice_get}
use Rattle.std.specs.List.{All, filter_map, cons_option, range_with_len, find}
use Rattle.std.specs.Option.{option_map, unwrap_or}
use Rattle.std.proofs.lemmas.List.{map-append}
use Rattle.std.proofs.lemmas.Option.{slice_get_past, slice_get_read}
use Rattle.std.proofs.lemmas.List.Elements.{All-nil, All-push}
use Rattle.std.proofs.lemmas.Bool.Decides.{nat_tests}
use Rattle.rv_program.specs.declared.fault.FaultKind.{FaultKind}
use Rattle.rv_program.specs.declared.fault.AsmFault.{AsmFault}
use Rattle.rv_asm.specs.Assembly.{faults_in}
use Rattle.rv_asm.specs.AllFaults.{faults_of}
use Rattle.rv_asm.proofs.Reading.{LeftOf, IsAt, all_left, left_more, none_left, dropped}
use Rattle.rv_diagnosis.specs.declared.diagnosis.Diagnosis.{Diagnosis}
use Rattle.rv_diagnosis.specs.Diagnosed.{fault_of}
use Rattle.rv_diagnosis.specs.Support.Judged.{on_line, listed, Diagnoses}

abbrev fault_at : (ℕ → Option FaultKind) → ℕ → Option AsmFault
fault_at fault k = option_map (λ kind. record { line = suc k; kind = kind }) (fault k)

-- the faults of m lines from line k on
abbrev from : (ℕ → Option FaultKind) → ℕ → ℕ → List AsmFault
from fault k m = filter_map (fault_at fault) (range_with_len k m)

-- ---- the faults of a source are those of some phase

pub record IsInOrder (n : ℕ) (faults : List AsmFault) : Type 0 where
  pub fault : ℕ → Option FaultKind
  pub is : faults ≡ faults_in fault n

ordered_by : (one two three : ℕ → Option FaultKind) (n : ℕ) (a b c : List AsmFault) → a ≡ faults_in one n →
    b ≡ faults_in two n → c ≡ faults_in three n →
    IsInOrder n (unwrap_or (find (λ found. is_some (slice_get found 0)) (a ∷ b ∷ c ∷ [])) [])
ordered_by one two three n (x ∷ a) b c ea eb ec = record { fault = one; is = ea }
ordered_by one two three n [] (x ∷ b) c ea eb ec = record { fault = two; is = eb }
ordered_by one two three n [] [] (x ∷ c) ea eb ec = record { fault = three; is = ec }
ordered_by one two three n [] [] [] ea eb ec = record { fault = three; is = ec }

pub ordered : (texts : List (List ℕ)) → IsInOrder (length texts) (faults_of texts)
unfolding faults_of
ordered texts = ordered_by _ _ _ (length texts) _ _ _ refl refl refl

-- ---- the first fault of lines from one on

no_earlier : (fault : ℕ → Option FaultKind) (n j m : ℕ) → n ≤ j → on_line n (slice_get (from fault j m) 0) ≡ None
no_earlier fault n j zero h = refl
no_earlier fault n j (suc m) h = by (fault j) (no_earlier fault n (j + 1) m (omega (arith, h)))
  where
    by : (o : Option FaultKind) → on_line n (slice_get (from fault (j + 1) m) 0) ≡ None →
        on_line n (slice_get (cons_option (option_map (λ kind. record { line = suc j; kind = kind }) o)
        (from fault (j + 1) m)) 0) ≡ None
    by None r = r
    by (Some kind) r = let e : (suc j == n) ≡ false = grind (arith, nat_tests, h) in rw e refl

on_this : (fault : ℕ → Option FaultKind) (k m : ℕ) → on_line (k + 1) (slice_get (from fault k (suc m)) 0) ≡ fault_at fault k
on_this fault k m = by (fault k) (no_earlier fault (k + 1) (k + 1) m (omega arith))
  where
    by : (o : Option FaultKind) → on_line (k + 1) (slice_get (from fault (k + 1) m) 0) ≡ None →
        on_line (k + 1) (slice_get (cons_option (option_map (λ kind. record { line = suc k; kind = kind }) o)
        (from fault (k + 1) m)) 0) ≡ option_map (λ kind. record { line = suc k; kind = kind }) o
    by None r = r
    by (Some kind) r = let e : (suc k == k + 1) ≡ true = grind (arith, nat_tests) in rw e refl

-- ---- one more line

seam : (ds : List Diagnosis) (rest : List AsmFault) → slice_get (map fault_of ds ++ rest) (length ds) ≡ slice_get rest 0
seam [] rest = refl
seam (d ∷ ds) rest = seam ds rest

moved : (ds : List Diagnosis) (found : Option Diagnosis) (o : Option AsmFault) (rest faults : List AsmFault) →
    option_map fault_of found ≡ o → map fault_of ds ++ cons_option o rest ≡ faults →
    map fault_of (ds ++ listed found) ++ rest ≡ faults
moved ds None o rest faults e h = rw append-nil (rw (← e) at h)
moved ds (Some d) o rest faults e h = rw (map-append fault_of ds (d ∷ []), append_assoc) (rw (← e) at h)

-- the place of a diagnosis, whose columns count from 1, lies in its line
abbrev pub LiesIn : List (List ℕ) → Diagnosis → Type 0
LiesIn texts d = (0 < d.column) × (d.column - 1 + d.length ≤ length (get_or texts (d.line - 1) []))

-- the faults of the first n lines are diagnosed
pub record Merged (fault : ℕ → Option FaultKind) (texts rest : List (List ℕ)) (n : ℕ) (faults : List AsmFault)
    (ds : List Diagnosis) : Type 0 where
  pub left : LeftOf texts rest n
  pub each : map fault_of ds ++ from fault n (length texts - n) ≡ faults
  pub places : All (LiesIn texts) ds

pub begun : (texts : List (List ℕ)) (faults : List AsmFault) (o : IsInOrder (length texts) faults) →
    Merged o.fault texts texts 0 faults []
begun texts faults o =
    let e : length texts - 0 ≡ length texts = omega arith in
    record { left = all_left texts; each = rw e (sym o.is); places = All-nil (LiesIn texts) }

module _ (fault : ℕ → Option FaultKind) (texts rest : List (List ℕ)) (n : ℕ) (faults : List AsmFault)
    (ds : List Diagnosis) (so : Merged fault texts rest n faults ds) where
  module _ (text : List ℕ) (after : List (List ℕ)) (cut : rest ≡ text ∷ after) (more : List Diagnosis)
      (d : Diagnoses (n + 1) text faults ds more) where
    next : IsAt texts n text after []
    next = dropped texts n text after [] (sym so.left.left ∙ cut)

    abbrev m : ℕ
    m = length texts - (n + 1)

    each_here : map fault_of ds ++ from fault n (suc m) ≡ faults
    each_here = let e : length texts - n ≡ suc m = omega (arith, next.below) in rw e at so.each

    found_is : option_map fault_of d.found ≡ fault_at fault n
    found_is =
        d.finds
        ∙ ap (on_line (n + 1)) (ap (λ xs. slice_get xs (length ds)) (sym each_here) ∙ seam ds (from fault n (suc m)))
        ∙ on_this fault n m

    placed : (found : Option Diagnosis) → IfSome found (λ d. d.line ≡ n + 1) → IfSome found (λ d. 0 < d.column) →
        IfSome found (λ d. d.column - 1 + d.length ≤ length text) → All (LiesIn texts) (ds ++ listed found)
    placed None line low high = rw append-nil so.places
    placed (Some d) line low high =
        let at : d.line - 1 ≡ n = omega (arith, line) in
        All-push (LiesIn texts) ds d so.places (low, rw (at, next.item) high)

    pub merged_more : Merged fault texts after (n + 1) faults more
    merged_more = record {
      left = left_more texts rest n so.left text after cut;
      each = rw d.appends (moved ds d.found (fault_at fault n) (from fault (n + 1) m) faults found_is each_here);
      places = rw d.appends (placed d.found d.line d.from d.to);
    }

  pub all_merged : rest ≡ [] → map fault_of ds ≡ faults
  all_merged h =
      let e : length texts - n ≡ 0 = omega (arith, none_left texts rest n so.left h) in
      let is : map fault_of ds ++ from fault n 0 ≡ faults = rw e at so.each in
      sym (append-nil (map fault_of ds)) ∙ is

-- ---- one line

module _ (n : ℕ) (text : List ℕ) (faults : List AsmFault) (ds : List Diagnosis) where
  nothing : on_line n (slice_get faults (length ds)) ≡ None → Diagnoses n text faults ds ds
  nothing h =
      record { found = None; finds = sym h; appends = sym (append-nil ds); line = tt; from = tt; to = tt }

  pub none_next : length faults ≤ length ds → Diagnoses n text faults ds ds
  none_next h = nothing (rw (slice_get_past faults (length ds) h) refl)

  module _ (fault : AsmFault) (at : fault ≡ get_or faults (length ds) fault) (some : length ds < length faults) where
    is : slice_get faults (length ds) ≡ Some fault
    is = slice_get_read faults (length faults) (length ds) fault refl some at

    pub other_next : (fault.line == n) ≡ false → Diagnoses n text faults ds ds
    other_next e = nothing (rw (is, e) refl)

    pub this_next : (fault.line == n) ≡ true → (d : Diagnosis) (more : List Diagnosis) → fault_of d ≡ fault →
        0 < d.column → d.column - 1 + d.length ≤ length text → more ≡ ds ++ d ∷ [] → Diagnoses n text faults ds more
    this_next e d more same low high appends =
        let line : d.line ≡ n = ap (λ (f : AsmFault). f.line) same ∙ grind (arith, nat_tests, e) in
        record {
          found = Some d;
          finds = rw (is, e, same) refl;
          appends = appends;
          line = line;
          from = low;
          to = high;
        }
