-- To audit: public contracts cite this.
-- What `save` writes as commands of the monitor (this project's own: docs/LAB.md).
use Rattle.std.specs.Prelude.{ℕ, zero, suc, ◌-◌, ◌==◌, List, [], ◌++◌, min, codes, if◌then◌else◌}
use Rattle.std.specs.Fmt.{decimal}
use Rattle.rv_lab.specs.Words.{most_steps}

-- commands that take n steps, in at most `lines` lines
unfoldable pub steps_text : ℕ → ℕ → List ℕ
steps_text zero n = []
steps_text (suc lines) n =
    if n == 0 then []
    else codes "s " ++ decimal (min n most_steps) ++ codes "\n" ++ steps_text lines (n - most_steps)
