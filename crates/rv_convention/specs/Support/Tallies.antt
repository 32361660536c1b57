-- Not to audit: private contracts alone cite this.
-- What is counted of a run, step by step.
use Rattle.std.specs.Prelude.{ℕ, suc, ◌+◌, ◌-◌, ◌||◌, Bool, true, false, List, [], ◌∷◌, if◌then◌else◌, is_some, length, not, replicate, sum_by, take_while, Option, Some, None}
use Rattle.rv_asm.specs.Lines.{Listed}
use Rattle.rv_board.specs.BoardState.{BoardState}
use Rattle.rv_answers.specs.declared.profile.Spent.{Spent}
use Rattle.rv_convention.specs.Profile.{is_entry, is_in, placed}
use Rattle.rv_convention.specs.declared.tally.Tallied.{Tallied}
use Rattle.rv_convention.specs.declared.turn.Turn.{Turn}

pub record TallyState : Type 0 where
  pub listing : Listed
  pub lines : List Tallied
  pub steps : ℕ
  pub has_halted : Bool

abbrev pub nothing : Tallied
nothing = record { steps = 0; begins = false }

-- a line in which one step more began, and one in which a function begins
abbrev pub stepped : Tallied → Tallied
stepped t = record t { steps = t.steps + 1 }

abbrev pub entered : Tallied → Tallied
entered t = record t { begins = true }

-- lines from the nth on, each changed by its number
abbrev pub each : (ℕ → Tallied → Tallied) → (n : ℕ) → List Tallied → List Tallied
each change n [] = []
each change n (t ∷ ts) = change n t ∷ each change (suc n) ts

-- line n, changed if it has the byte at an address
abbrev pub changed_in : Listed → (a : ℕ) → (Tallied → Tallied) → (n : ℕ) → Tallied → Tallied
changed_in l a change n t = if is_in l n a then change t else t

unfoldable pub changed : Listed → (a : ℕ) → (Tallied → Tallied) → List Tallied → List Tallied
changed l a change ts = each (changed_in l a change) 1 ts

abbrev pub steps_of : List Tallied → ℕ
steps_of ts = sum_by (λ (t : Tallied). t.steps) ts

-- those of some lines, up to the next in which a function begins
abbrev pub before_next : List Tallied → ℕ
before_next ts = steps_of (take_while (λ (t : Tallied). not t.begins) ts)

-- before the first step of a run, which begins at an address
abbrev pub none_counted : Listed → (a : ℕ) → TallyState
none_counted l a = record {
  listing = l;
  lines = changed l a entered (replicate (length l.addresses - 1) nothing);
  steps = 0;
  has_halted = false;
}

unfoldable pub tally_after : TallyState → (address : ℕ) → Turn → (now : BoardState) → TallyState
tally_after t address turn now = record {
  listing = t.listing;
  lines =
      let lines = changed t.listing address stepped t.lines in
      if is_entry turn then changed t.listing now.machine.pc entered lines else lines;
  steps = t.steps + 1;
  has_halted = t.has_halted || is_some now.machine.bus.halt;
}

-- the rows that are told, with one more if there is one
abbrev pub placed_if : List Spent → Option Spent → List Spent
placed_if rows None = rows
placed_if rows (Some row) = placed rows row
