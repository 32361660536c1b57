-- What each of some lines answers, one after another.
use Rattle.std.proofs.Common.{◌≡◌, ◌∙◌, ◌++◌, ◌∷◌, [], ℕ, List, sym, ap, append_assoc, append-nil}
use Rattle.rv_lab.specs.State.{LabState}
use Rattle.rv_handle.specs.Pages.{look_line, looks}

-- a line more
pub one_more : (l : LabState) (old new line : List ℕ) (left more : List (List ℕ)) (all : List ℕ)
    → left ≡ line ∷ more → new ≡ old ++ look_line l line → old ++ looks l left ≡ all → new ++ looks l more ≡ all
unfolding looks
one_more l old new line left more all cut taken so_far =
    ap (λ bytes. bytes ++ looks l more) taken ∙ (append_assoc old (look_line l line) (looks l more)
    ∙ (ap (λ lines. old ++ looks l lines) (sym cut) ∙ so_far))

-- no line is left
pub no_more : (l : LabState) (now : List ℕ) (left : List (List ℕ)) (all : List ℕ)
    → left ≡ [] → now ++ looks l left ≡ all → now ≡ all
unfolding looks
no_more l now left all none so_far =
    sym (append-nil now) ∙ (ap (λ lines. now ++ looks l lines) (sym none) ∙ so_far)
