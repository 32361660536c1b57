-- The faults of all lines of a source.
-- To audit: public contracts cite this.
-- Lines are counted from 0 here, but from 1 in a fault.
use Rattle.std.specs.Prelude.{ℕ, zero, suc, List, [], ◌∷◌, ◌++◌, length, set, ℤ, None, is_some, if◌then◌else◌}
use Rattle.rv_source.specs.Reading.{Parsed}
use Rattle.rv_source.specs.declared.line.Label.{Label}
use Rattle.rv_program.specs.declared.fault.AsmFault.{AsmFault}
use Rattle.rv_asm.specs.Layout.{line_at, known_before, address, names_in, redefines, phase_two_fault}
use Rattle.rv_asm.specs.Assembly.{all_parsed, first_faults, phase_one_fault, phase_three_fault}

-- the labels of a line at an address but those that define a name a second time
abbrev pub new_labels : ℕ → List (List ℕ × ℤ) → List Label → List Label
new_labels here known [] = []
new_labels here known (l ∷ ls) =
    let names = names_in here (l ∷ []) in
    if redefines known names then new_labels here known ls else l ∷ new_labels here (known ++ names) ls

-- line k without its statement, and without labels that define a name a second time
abbrev pub cleared : List Parsed → ℕ → Parsed
cleared lines k =
    let names = (known_before lines k).definitions.names in
    record { labels = new_labels (address lines k) names (line_at lines k).labels; statement = None }

-- the lines, with those of the first k cleared that have a fault in phase two: each is judged after those before it
-- were cleared, so a faulty line defines no names and has no bytes for the lines that follow
unfoldable pub kept : List Parsed → ℕ → List Parsed
kept lines zero = lines
kept lines (suc k) =
    let ls = kept lines k in if is_some (phase_two_fault ls k) then set ls k (cleared ls k) else ls

-- the faults of a source in the first phase that has one
unfoldable pub faults_of : List (List ℕ) → List AsmFault
faults_of texts =
    let read = all_parsed texts in
    first_faults (phase_one_fault texts) (λ k. phase_two_fault (kept read k) k) (phase_three_fault read) (length texts)
