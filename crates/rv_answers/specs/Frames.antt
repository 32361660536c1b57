-- To audit: public contracts cite this.
-- Frames of calls (this project's own: docs/LAB.md).
use Rattle.std.specs.Prelude.{Bool, false}
use Rattle.rv_answers.specs.declared.frames.Reached.{Reached}
use Rattle.rv_answers.specs.declared.frames.Reached.TheVariants.{Here, Call, Trap}

-- whether a frame is a guess that was reached so
abbrev pub is_guess : Reached → Bool
is_guess Here = false
is_guess (Call guessed) = guessed
is_guess (Trap guessed) = guessed
