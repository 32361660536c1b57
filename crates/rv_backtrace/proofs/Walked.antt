-- A walk up the calls.
use Rattle.std.proofs.Common.{◌≡◌, ◌∙◌, ℕ, suc, ◌+◌, ◌-◌, ◌<◌, ◌≤◌, List, [], ◌∷◌, ◌++◌, refl, ap, append_assoc, append-nil, arith}
use Rattle.std.specs.Prelude.{Result, Ok, Err}
use Rattle.rv_board.specs.BoardState.{BoardState}
use Rattle.rv_asm.specs.Lines.{Listed}
use Rattle.rv_answers.specs.declared.frames.Backtrace.{Backtrace}
use Rattle.rv_answers.specs.declared.frames.Frame.{Frame}
use Rattle.rv_answers.specs.declared.frames.Outermost.{Outermost}
use Rattle.rv_answers.specs.declared.frames.Outermost.TheVariants as outermost
use Rattle.rv_answers.specs.declared.frames.Reached.TheVariants as reached
use Rattle.rv_frames.specs.declared.row.FrameRow.{FrameRow}
use Rattle.rv_backtrace.specs.Backtrace.{Rest, above, backtrace, ended, frame_of, frames_above, innermost, joined}
use Rattle.rv_backtrace.specs.declared.level.Level.{Level}

-- frames that were told, with those above them
abbrev pub told : List Frame → Rest → Backtrace
told frames rest = record { frames = frames ++ rest.0; outermost = rest.1 }

abbrev pub alone : List Frame → Outermost → Backtrace
alone frames why = record { frames = frames; outermost = why }

module _ (l : Listed) (rows : List FrameRow) (b : BoardState) where
  -- some frames were told: those above a level, of which as many are left, follow them
  abbrev pub Walked : List Frame → Level → ℕ → Type 0
  Walked frames v n = told frames (frames_above l rows b (63 - n) v) ≡ backtrace l rows b

  pub begins : (first : Frame) (v : Level) → first ≡ frame_of reached.Here (innermost b) → v ≡ innermost b
      → Walked ([] ++ first ∷ []) v 0
  unfolding backtrace
  begins first v e f = rw (e, f) refl

  up : (n : ℕ) (v : Level) {r : Result (Level × Frame) Outermost} → n < 63 → above l rows b v ≡ r
      → frames_above l rows b (63 - n) v ≡ joined (frames_above l rows b (63 - (n + 1))) r
  unfolding frames_above
  up n v less e =
      let more : 63 - n ≡ suc (63 - (n + 1)) = omega (arith, less) in
      ap (λ k. frames_above l rows b k v) more ∙ ap (joined (frames_above l rows b (63 - (n + 1)))) e

  last : (n : ℕ) (v : Level) {r : Result (Level × Frame) Outermost} → 63 ≤ n → above l rows b v ≡ r
      → frames_above l rows b (63 - n) v ≡ ended r
  unfolding frames_above
  last n v past e =
      let none : 63 - n ≡ 0 = omega (arith, past) in
      ap (λ k. frames_above l rows b k v) none ∙ ap ended e

  pub goes_up : (frames later : List Frame) (v u : Level) (frame : Frame) (n : ℕ) → n < 63
      → above l rows b v ≡ Ok (u, frame) → Walked frames v n → later ≡ frames ++ frame ∷ [] → Walked later u (n + 1)
  goes_up frames later v u frame n less e w g = rw (g, append_assoc) (rw (up n v less e) at w)

  pub ends : (frames : List Frame) (v : Level) (why : Outermost) (n : ℕ) → n < 63 → above l rows b v ≡ Err why
      → Walked frames v n → alone frames why ≡ backtrace l rows b
  ends frames v why n less e w = rw (up n v less e, append-nil) at w

  pub has_more : (frames : List Frame) (v : Level) (u : Level × Frame) (n : ℕ) → 63 ≤ n → above l rows b v ≡ Ok u
      → Walked frames v n → alone frames outermost.More ≡ backtrace l rows b
  has_more frames v u n past e w = rw (last n v past e, append-nil) at w

  pub all_told : (frames : List Frame) (v : Level) (why : Outermost) (n : ℕ) → 63 ≤ n → above l rows b v ≡ Err why
      → Walked frames v n → alone frames why ≡ backtrace l rows b
  all_told frames v why n past e w = rw (last n v past e, append-nil) at w
