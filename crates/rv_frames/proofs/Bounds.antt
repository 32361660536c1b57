-- How many bytes frames have at most.
use Rattle.std.proofs.Common.{◌≡◌, ℕ, ◌+◌, ◌-◌, ◌*◌, ◌%◌, ◌<◌, ◌≤◌, List, [], ◌∷◌, ◌++◌, length, arith}
use Rattle.rv_elf.specs.Size.{frames_size}
use Rattle.rv_elf.specs.declared.frames.Function.{Function}

appended : (fs : List Function) (f : Function) → frames_size (fs ++ f ∷ [])
    ≡ frames_size fs + (16 + (length f.instructions.items + (4 - length f.instructions.items % 4) % 4))
appended [] f = omega arith
appended (g ∷ fs) f = omega (arith, appended fs f)

-- one more function, of that many words
pub one_more : (old new : List Function) (f : Function) (start end : ℕ) → new ≡ old ++ f ∷ [] → start < end →
    length f.instructions.items ≤ 20 + 140 * (end - start) → frames_size old ≤ 40 + 192 * start →
    frames_size new ≤ 40 + 192 * end
one_more old new f start end is some few h = rw is (omega (arith, appended old f, few, h))
