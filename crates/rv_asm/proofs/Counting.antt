-- What is said of all lines, line by line.
use Rattle.std.proofs.lemmas.Bool.Decides.{nat_tests}
use Rattle.std.proofs.Common.{cond, ◌≡◌, ℕ, zero, suc, ◌+◌, ◌-◌, ◌<◌, ◌≤◌, List, [], ◌∷◌, ◌++◌, length, refl, sym, ap, ◌∙◌, arith, append-nil, add-zero, rules}
use Rattle.std.specs.Prelude.{map, is_some, Option, None, slice_get, Result, Ok, Err}
use Rattle.std.specs.Option.{option_map, option_map_or, option_or, unwrap_or}
use Rattle.std.specs.Result.{result_unwrap_or}
use Rattle.std.specs.List.{flat_map, range_with_len, find}
use Rattle.std.proofs.lemmas.Grind.{flat_map-append, common_steps}
use Rattle.std.proofs.lemmas.List.{map-append}
use Rattle.std.proofs.lemmas.List.Elements.{filter_map-append}
use Rattle.rv_base.specs.Lines.{lines}
use Rattle.rv_program.specs.Program.{Assembly}
use Rattle.rv_program.specs.declared.fault.FaultKind.{FaultKind}
use Rattle.rv_program.specs.declared.fault.AsmFault.{AsmFault}
use Rattle.rv_asm.specs.Layout.{definitions, phase_two_fault}
use Rattle.rv_asm.specs.Assembly.{all_parsed, assembled, line_bytes}
use Rattle.rv_asm.specs.Support.Steps.{joined, up_to, all_faults, faults_at, phase_one_fault, phase_three_fault}

-- ---- numbers

range_parts : (a n m : ℕ) → range_with_len a (n + m) ≡ range_with_len a n ++ range_with_len (a + n) m
range_parts a zero m = let e : 0 + m ≡ m = omega arith in rw (e, add-zero) refl
range_parts a (suc n) m =
    let e : (a + 1) + n ≡ a + suc n = omega arith in
    let f : suc n + m ≡ suc (n + m) = omega arith in
    rw f (ap (λ xs. a ∷ xs) (range_parts (a + 1) n m ∙ ap (λ k. range_with_len (a + 1) n ++ range_with_len k m) e))

range_more : (n : ℕ) → range_with_len 0 (suc n) ≡ range_with_len 0 n ++ n ∷ []
range_more n = search (rules, range_parts)

pub joined_none : {A : Type 0} (f : ℕ → List A) → joined f 0 ≡ []
unfolding joined
joined_none f = refl

pub joined_more : {A : Type 0} (f : ℕ → List A) (n : ℕ) → joined f (suc n) ≡ joined f n ++ f n
unfolding joined
joined_more f n = grind (arith, nat_tests, common_steps, range_more, flat_map-append, append-nil)

pub joined_same : {A : Type 0} (f g : ℕ → List A) (n : ℕ) → ((k : ℕ) → k < n → f k ≡ g k) →
    joined f n ≡ joined g n
joined_same f g zero h = joined_none f ∙ sym (joined_none g)
joined_same f g (suc n) h = search (rules, joined_more, joined_same f g n)

pub up_to_none : (f : ℕ → ℕ) → up_to f 0 ≡ f 0 ∷ []
unfolding up_to
up_to_none f = refl

pub up_to_more : (f : ℕ → ℕ) (n : ℕ) → up_to f (suc n) ≡ up_to f n ++ f (suc n) ∷ []
unfolding up_to
up_to_more f n = ap (map f) (range_more (suc n)) ∙ map-append f (range_with_len 0 (suc n)) (suc n ∷ [])

-- what is joined of n numbers, before the others
pub joined_before : {A : Type 0} (f : ℕ → List A) (n m : ℕ) → n ≤ m →
    joined f m ≡ joined f n ++ flat_map f (range_with_len n (m - n))
unfolding joined
joined_before f n m h = grind (arith, range_parts 0 n (m - n), flat_map-append)

-- ---- faults

abbrev fault_at : (ℕ → Option FaultKind) → ℕ → Option AsmFault
fault_at fault k = option_map (λ kind. record { line = suc k; kind = kind }) (fault k)

pub faults_none : (fault : ℕ → Option FaultKind) → all_faults fault 0 ≡ []
unfolding all_faults
faults_none fault = refl

pub faults_more : (fault : ℕ → Option FaultKind) (n : ℕ) →
    all_faults fault (suc n) ≡ all_faults fault n ++ faults_at n (fault n)
unfolding all_faults
faults_more fault n = search (rules, range_more, filter_map-append)

pub first_append : (xs ys : List AsmFault) → slice_get (xs ++ ys) 0 ≡ option_or (slice_get xs 0) (slice_get ys 0)
first_append [] ys = refl
first_append (x ∷ xs) ys = refl

pub none_first : (faults : List AsmFault) → slice_get faults 0 ≡ None → faults ≡ []
none_first [] h = refl
none_first (fault ∷ faults) h = absurd cc

left_nil : {A : Type 0} (xs ys : List A) → xs ++ ys ≡ [] → xs ≡ []
left_nil [] ys h = refl
left_nil (x ∷ xs) ys h = absurd (let no : x ∷ (xs ++ ys) ≡ [] = h in cc)

pub none_appended : (faults found : List AsmFault) (k : ℕ) (o : Option FaultKind) → found ≡ faults ++ faults_at k o →
    found ≡ [] → (faults ≡ []) × (o ≡ None)
none_appended faults found k o e h = search (rules, left_nil)

-- if n + 1 lines have no fault, neither has the last of them, nor have those before it
pub none_last : (fault : ℕ → Option FaultKind) (n : ℕ) → all_faults fault (suc n) ≡ [] → fault n ≡ None
none_last fault n h = (none_appended (all_faults fault n) _ n (fault n) (faults_more fault n) h).1

pub none_before : (fault : ℕ → Option FaultKind) (n m : ℕ) → all_faults fault m ≡ [] → n ≤ m → all_faults fault n ≡ []
none_before fault n zero h p = search (rules, faults_none)
none_before fault n (suc m) h p =
    grind (arith, nat_tests, common_steps, none_appended, faults_more, none_before fault n m)

-- ---- the first of three phases that has faults

abbrev pub first_found : (one two three : List AsmFault) → List AsmFault
first_found one two three = unwrap_or (find (λ found. is_some (slice_get found 0)) (one ∷ two ∷ three ∷ [])) []

-- the assembly, unless there are faults
abbrev pub answer : List AsmFault → Assembly → Result Assembly AsmFault
answer faults a = option_map_or (λ fault. Err fault) (slice_get faults 0) (Ok a)

-- it is empty if all three are
pub none_found : (one two three : List AsmFault) → first_found one two three ≡ [] →
    (one ≡ []) × (two ≡ []) × (three ≡ [])
none_found [] [] [] h = (refl, refl, refl)
none_found one two three h = absurd cc

-- it is found by two tests
pub found_in : (one two three old new : List AsmFault) → old ≡ cond (is_some (slice_get one 0)) one two →
    new ≡ cond (is_some (slice_get old 0)) old three → new ≡ first_found one two three
found_in one two three old new e f = search (rules, none_first)

pub same_found : (one two three first second third : List AsmFault) → one ≡ first → (one ≡ [] → two ≡ second) →
    (one ≡ [] → two ≡ [] → three ≡ third) → first_found one two three ≡ first_found first second third
same_found (x ∷ one) two three first second third e f g = rw (← e) refl
same_found [] (y ∷ two) three first second third e f g = rw (← e, ← f refl) refl
same_found [] [] three first second third e f g = rw (← e, ← f refl, ← g refl refl) refl

pub first_same : (one two other three : List AsmFault) → slice_get two 0 ≡ slice_get other 0 →
    slice_get (first_found one two three) 0 ≡ slice_get (first_found one other three) 0
first_same one two other three e = search rules

-- the faults of a source, by its faults in phase two
abbrev pub found_by : (ℕ → Option FaultKind) → List (List ℕ) → List AsmFault
found_by two texts = first_found (all_faults (phase_one_fault texts) (length texts)) (all_faults two (length texts))
    (all_faults (phase_three_fault (all_parsed texts)) (length texts))

-- its image and its names
abbrev pub image_by : List (List ℕ) → Assembly
image_by texts = record {
  bytes = joined (λ k. result_unwrap_or (line_bytes (all_parsed texts) k) []) (length (all_parsed texts));
  symbols = (definitions (all_parsed texts)).names;
}

pub assembled_is : (source : List ℕ) → assembled source
    ≡ answer (found_by (phase_two_fault (all_parsed (lines source))) (lines source)) (image_by (lines source))
unfolding assembled joined all_faults
assembled_is source = refl
