-- Laying out the lines of a source, one by one, and its faults.
use Rattle.std.proofs.Common.{◌≡◌, ◌∙◌, ℕ, ◌≤◌, Bool, true, false, List, [], ◌∷◌, ◌++◌, ℤ, ap, refl, sym, arith, append-nil, append_assoc, zero, suc, ◌+◌, ◌%◌, cond, add-zero, ◌<◌, length, add-one, rules}
use Rattle.std.specs.Prelude.{◌||◌, is_some, Option, None, Some, IfSome, set, slice_get, Ok, Err, ◌==◌}
use Rattle.std.specs.List.{All, flat_map}
use Rattle.std.proofs.lemmas.List.Elements.{All-nil, All-cons, All-append, All-weaker}
use Rattle.rv_source.specs.declared.line.Label.{Label}
use Rattle.rv_asm.specs.declared.locals.LocalLabel.{LocalLabel}
use Rattle.rv_asm.specs.Layout.{locals_in, redefines, line_at, phase_two_fault, definitions}
use Rattle.rv_asm.specs.Support.Steps.{relabels, fault_on, joined, all_faults, faults_at, new_among, Known, labelled, stated, known_before, Item, item_listed, item_faults, AddsLine, Writes, phase_three_fault, unread_kind, located, start, Written, cleared, known_after, judged}
use Rattle.rv_source.specs.Reading.{Parsed}
use Rattle.rv_program.specs.declared.fault.FaultKind.{FaultKind}
use Rattle.rv_asm.specs.Listing.{emitted}
use Rattle.std.specs.Result.{result_err}
use Rattle.std.proofs.lemmas.Grind.{flat_map-append, common_steps}
use Rattle.rv_asm.proofs.Counting.{joined_more, faults_more, first_found, found_by, image_by, faults_none, first_append, first_same, none_found, same_found, assembled_is, none_appended, none_first, none_last, none_before}
use Rattle.std.specs.Option.{option_map}
use Rattle.std.proofs.lemmas.List.{length-set, get_or-set_same, get_or-set_other}
use Rattle.rv_base.specs.Limits.{ram_base}
use Rattle.rv_base.specs.Lines.{lines}
use Rattle.rv_program.specs.declared.fault.AsmFault.{AsmFault}
use Rattle.rv_asm.specs.Lines.{Located}
use Rattle.rv_program.specs.Faults.{Gives, title_of}
use Rattle.std.specs.Prelude.{if◌then◌else◌}
use Rattle.rv_asm.specs.Assembly.{all_parsed, assembled}
use Rattle.rv_asm.specs.AllFaults.{kept, faults_of}
use Rattle.rv_asm.specs.declared.assembler.Laid.{Laid}
use Rattle.rv_asm.specs.Support.Phases.{Takes, LaidOut, SoFar, IsExamined}
use Rattle.rv_asm.proofs.Lined.{size_listed, noted_begun, noted_more}
use Rattle.rv_asm.proofs.Reading.{LeftOf, length-parsed, is_before, unread_more, read_line_at}

-- no local label is on a line after line k
abbrev pub IsUpTo : ℕ → Known → Type 0
IsUpTo k known = All (λ d. d.line ≤ k) known.definitions.locals

-- ---- names that are defined twice

pub redefines-append : (known xs ys : List (List ℕ × ℤ)) →
    redefines known (xs ++ ys) ≡ (redefines known xs || redefines (known ++ xs) ys)
redefines-append known [] ys = search (rules, append-nil)
redefines-append known (d ∷ ds) ys = search (rules, append_assoc, redefines-append (known ++ d ∷ []) ds ys)

-- ---- where no label is left out

all_new : (k : ℕ) (known : Known) (ls : List Label) → relabels known ls ≡ false → new_among known ls ≡ ls
all_new k known [] h = refl
all_new k known (l ∷ ls) h = search (rules, all_new k (labelled k known (l ∷ [])) ls)

not_faulty : (k : ℕ) (known : Known) (line : Parsed) → fault_on k known line ≡ None →
    new_among known line.labels ≡ line.labels
unfolding fault_on
not_faulty k known line e = search (rules, all_new)

-- ---- local labels are in order of lines

locals_on : (k here : ℕ) (ls : List Label) → All (λ d. d.line ≤ k) (locals_in k here ls)
locals_on k here [] = search (rules, All-nil)
locals_on k here (l ∷ ls) = search (rules, All-cons, here, locals_on k here ls)

up_to_labelled : (k : ℕ) (known : Known) (ls : List Label) → IsUpTo k known → IsUpTo k (labelled k known ls)
up_to_labelled k known ls h = search (rules, All-append, locals_on)

pub up_to_before : (lines : List Parsed) (n : ℕ) → IsUpTo n (known_before lines n)
unfolding known_before
up_to_before lines zero = All-nil (λ (d : LocalLabel). d.line ≤ 0)
up_to_before lines (suc n) = search (rules, All-weaker, up_to_labelled, up_to_before lines n)

-- ---- one more line

phase_two_is : (ls : List Parsed) (n : ℕ) → phase_two_fault ls n ≡ fault_on n (known_before ls n) (line_at ls n)
unfolding phase_two_fault fault_on
phase_two_is ls n = search (rules, redefines-append, all_new)

not_stated : (k : ℕ) (known : Known) → stated k known None ≡ known
unfolding emitted
not_stated k known = rw (append-nil, add-zero) refl

pub aligned : (n : ℕ) → n % 1 ≡ 0
aligned n = omega arith

pub ruleset added_steps = (append-nil, add-zero, flat_map-append, aligned)

writes_none : (lines : List Parsed) → Writes lines 0 []
unfolding joined all_faults
writes_none lines = search rules

writes_more : (lines : List Parsed) (n : ℕ) (old new : List Item) → Writes lines n old →
    AddsLine n (known_before lines n) (line_at lines n) old new → Writes lines (suc n) new
writes_more lines n old new writes adds ds = search (rules, joined_more, faults_more)

pub not_some : {A : Type 0} (o : Option A) → is_some o ≡ false → o ≡ None
not_some o h = search rules

-- ---- the lines that are kept

-- a line changes nothing that is known before it
known_other : (xs : List Parsed) (k : ℕ) (line : Parsed) (n : ℕ) → n ≤ k →
    known_before (set xs k line) n ≡ known_before xs n
unfolding known_before
known_other xs k line zero h = refl
known_other xs k line (suc n) h = search (rules, get_or-set_other, known_other xs k line n (omega (arith, h)))

length_kept : (ls : List Parsed) (n : ℕ) → length (kept ls n) ≡ length ls
unfolding kept
length_kept ls zero = refl
length_kept ls (suc n) = search (rules, length-set, length_kept ls n)

later_line : (ls : List Parsed) (n k : ℕ) → n ≤ k → line_at (kept ls n) k ≡ line_at ls k
unfolding kept
later_line ls zero k h = refl
later_line ls (suc n) k h = search (rules, get_or-set_other, later_line ls n k (omega (arith, h)))

known_more : (xs : List Parsed) (n : ℕ) (o : Option FaultKind) → n < length xs →
    fault_on n (known_before xs n) (line_at xs n) ≡ o →
    known_before (cond (is_some o) (set xs n (cleared xs n)) xs) (suc n)
    ≡ known_after (is_some o) n (known_before xs n) (line_at xs n)
unfolding known_before
known_more xs n o h e = search (rules, get_or-set_same, known_other, not_stated, not_faulty)

-- where no line is faulty all are kept
kept_all : (ls : List Parsed) (n : ℕ) → all_faults (judged ls) n ≡ [] → kept ls n ≡ ls
unfolding kept
kept_all ls zero h = refl
kept_all ls (suc n) h = search (rules, none_last, none_before, kept_all ls n)

-- ---- laying out

pub laid_begun : (texts : List (List ℕ)) (l : Laid) → l.known ≡ start → l.items.items ≡ [] →
    IfSome l.notes (λ n. n ≡ located [] 0) → l.unread.items ≡ [] → l.misplaced.items ≡ [] → SoFar texts 0 l.notes l
unfolding kept known_before all_faults
laid_begun texts l k i n u m = record {
  unread_are = u;
  laid = λ _. record {
    known_is = k;
    faults_are = m;
    writes = λ _. rw i (writes_none (all_parsed texts));
    notes_are = λ _. noted_begun (all_parsed texts) l.notes n;
  };
}

module _ (texts rest : List (List ℕ)) (n : ℕ) (so : LeftOf texts rest n) (text : List ℕ)
    (after : List (List ℕ)) (cut : rest ≡ text ∷ after) (first : Option Located) (old new : Laid)
    (laid : LaidOut (all_parsed texts) n first old) (takes : Takes n text old new) where
  abbrev ls : List Parsed
  ls = all_parsed texts

  abbrev xs : List Parsed
  xs = kept ls n

  read : line_at ls n ≡ takes.line
  read = read_line_at texts rest n so text after cut takes.line takes.read

  at : line_at xs n ≡ takes.line
  at = later_line ls n n (omega arith) ∙ read

  fault_here : takes.fault ≡ judged ls n
  fault_here = search (rules, takes, laid, phase_two_is, at)

  known_next : new.known ≡ known_before (kept ls (suc n)) (suc n)
  unfolding kept
  known_next = takes.lays.known_is ∙ rw (fault_here, laid.known_is, ← at)
      (sym (known_more xs n (judged ls n) (rw length_kept (is_before texts rest n so text after cut))
      (sym (phase_two_is xs n))))

  found_more : new.misplaced.items ≡ all_faults (judged ls) (suc n)
  found_more = search (rules, takes, laid, faults_more, fault_here)

  module _ (none : new.misplaced.items ≡ []) where
    none_so_far : (old.misplaced.items ≡ []) × (takes.fault ≡ None)
    none_so_far = none_appended old.misplaced.items new.misplaced.items n takes.fault takes.finds none

    all_kept : xs ≡ ls
    all_kept = search (rules, kept_all, laid, none_so_far)

    here : old.known ≡ known_before ls n
    here = search (rules, laid, all_kept)

    there : new.known ≡ known_before ls (suc n)
    there = search (rules, known_next, kept_all, found_more)

    writes_line : Writes ls (suc n) new.items.items
    writes_line = writes_more ls n old.items.items new.items.items (laid.writes none_so_far.0)
        (search (rules, here, read, not_faulty, takes, none_so_far))

    notes_line : new.notes ≡ option_map (λ _. located ls (suc n)) first
    notes_line = search (rules, noted_more, takes, laid, none_so_far, here, there, read)

  taken : LaidOut ls (n + 1) first new
  taken = search (rules, add-one, known_next, found_more, writes_line, notes_line)

pub laid_more : (texts rest : List (List ℕ)) (n : ℕ) (so : LeftOf texts rest n) (text : List ℕ)
    (after : List (List ℕ)) (cut : rest ≡ text ∷ after) (first : Option Located) (old new : Laid)
    → SoFar texts n first old → new.unread.items ≡ old.unread.items ++ faults_at n (unread_kind text)
    → (new.unread.items ≡ [] → Takes n text old new) → SoFar texts (n + 1) first new
laid_more texts rest n so text after cut first old new far unread takes = record {
  unread_are = unread_more texts rest n so text after cut old.unread.items new.unread.items far.unread_are unread;
  laid = λ none. taken texts rest n so text after cut first old new
      (far.laid (none_appended old.unread.items new.unread.items n _ unread none).0) (takes none);
}

-- ---- the first fault

first_judged : (xs : List Parsed) (n : ℕ) →
    slice_get (all_faults (judged xs) n) 0 ≡ slice_get (all_faults (phase_two_fault xs) n) 0
first_judged xs zero = search (rules, faults_none)
first_judged xs (suc n) = search (rules, faults_more, first_append, none_first, kept_all, first_judged xs n)

pub all_are : (texts : List (List ℕ)) → faults_of texts ≡ found_by (judged (all_parsed texts)) texts
unfolding faults_of all_faults
all_are texts = refl

module _ (source : List ℕ) where
  abbrev texts : List (List ℕ)
  texts = lines source

  abbrev parsed : List Parsed
  parsed = all_parsed (lines source)

  abbrev n : ℕ
  n = length (lines source)

  two_same : slice_get (found_by (judged parsed) texts) 0 ≡ slice_get (found_by (phase_two_fault parsed) texts) 0
  two_same = search (rules, first_same, first_judged)

  -- the first of the faults is that of the assembly
  pub first_said : slice_get (faults_of texts) 0 ≡ result_err (assembled source)
  first_said = search (rules, all_are, two_same, found_by, image_by, assembled_is)

  pub fails_first : (first fault : AsmFault) → slice_get (faults_of texts) 0 ≡ Some first
      → fault ≡ record { line = (if (title_of first.kind).0 == 12 then 0 else first.line); kind = first.kind }
      → Gives (λ x. x) (Err fault) (assembled source)
  fails_first first fault e is = search (rules, first_said)

  -- without faults it is accepted
  accepted : faults_of texts ≡ [] → assembled source ≡ Ok (image_by texts)
  accepted none = search (rules, first_said, assembled_is, none)

  -- ---- the phases together

  module _ (first : Option Located) (l : Laid) (far : SoFar texts n first l) (faults : List AsmFault) (bytes : List ℕ)
      (found : faults
      ≡ first_found l.unread.items l.misplaced.items (flat_map (item_faults l.known.definitions) l.items.items))
      (listed : faults ≡ [] → bytes ≡ flat_map (item_listed l.known.definitions) l.items.items) where
    module _ (one : l.unread.items ≡ []) (two : l.misplaced.items ≡ []) where
      known_n : l.known ≡ known_before parsed n
      known_n = search (rules, kept_all, far)

      symbols_are : l.known.definitions ≡ definitions parsed
      symbols_are = search (rules, known_n, length-parsed)

      written : Written parsed n l.items.items l.known.definitions
      written = (far.laid one).writes two l.known.definitions

      late : flat_map (item_faults l.known.definitions) l.items.items ≡ all_faults (phase_three_fault parsed) n
      late = search (rules, written, symbols_are)

    all_found : faults ≡ faults_of texts
    all_found = search (rules, same_found, far, late, all_are)

    pub examined : IsExamined source first faults bytes l.known l.notes
    examined = record {
      faults_are = all_found;
      accepts = λ h. let p = none_found _ _ _ (sym found ∙ h) in accepted (sym all_found ∙ h)
          ∙ rw (listed h, (written p.0 p.1).bytes, symbols_are p.0 p.1, length-parsed texts) refl;
      reaches = λ h. let p = none_found _ _ _ (sym found ∙ h) in ap (λ (s : Known). s.address) (known_n p.0 p.1)
          ∙ sym (size_listed parsed l.known.definitions n (sym (written p.0 p.1).faults ∙ p.2))
          ∙ ap (λ bs. ram_base + length bs) (sym (listed h ∙ (written p.0 p.1).bytes));
      notes_are = λ h. let p = none_found _ _ _ (sym found ∙ h) in (far.laid p.0).notes_are p.1;
    }
