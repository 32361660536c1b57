-- Command lines, executed one after another.
use Rattle.std.proofs.Common.{rules, arith, ◌≡◌, ◌++◌, ◌∷◌, [], ℕ, ◌⊎◌, inl, inr, List, Option, Some, refl, append_assoc, append-nil}
use Rattle.std.specs.Prelude.{◌≢◌}
use Rattle.rv_commands.specs.declared.command.Command.{Command}
use Rattle.rv_commands.specs.declared.command.Command.TheVariants.{Quit}
use Rattle.rv_monitor.specs.Commands.{Leaves, answer, command_in}
use Rattle.rv_monitor.specs.State.{SessionState}
use Rattle.rv_monitor.specs.declared.command.Next.{Next}
use Rattle.rv_monitor.specs.declared.command.Next.TheVariants as follows
use Rattle.rv_cli.specs.Output.{Obeys, goes_on, none, quits}

-- who executes the lines that are left, from the session as it stands, executes all lines, with this text
-- before the answers
abbrev pub Continues : List (List ℕ) → SessionState → List (List ℕ) → SessionState → List ℕ → Type 0
Continues all first left now text =
    (new : SessionState) (following : List ℕ) → Obeys left now new following →
    Obeys all first new (text ++ following)

-- before the first line
pub none_done : (all : List (List ℕ)) (first : SessionState) → Continues all first all first []
none_done all first new following h = search (rules, arith)

-- whether a line quits
pub quits_or : (c : Option Command) → (c ≡ Some Quit) ⊎ (c ≢ Some Quit)
quits_or (Some Quit) = inl refl
quits_or other = inr (λ e. cc)

module _ (all left more : List (List ℕ)) (line : List ℕ) (first now next : SessionState) (text : List ℕ) (word : Next)
    (so_far : Continues all first left now text) (cut : left ≡ line ∷ more)
    (leaves : Leaves (command_in line now) now next) where
  -- after one more line
  pub one_done : (command_in line now ≡ Some Quit → word ≡ follows.Quit) → word ≡ follows.More
      → Continues all first more next (text ++ answer (command_in line now) now next)
  one_done quit is new following h =
      let other : command_in line now ≢ Some Quit = λ e. let quit_now = quit e in cc in
      search (rules, arith, goes_on, append_assoc)

  -- after a line that quits
  pub quit_done : (command_in line now ≢ Some Quit → word ≡ follows.More) → word ≡ follows.Quit
      → Obeys all first next (text ++ answer (command_in line now) now next)
  quit_done goes is = elim (quits_or (command_in line now)) [
    | inl quit ↦ search (rules, arith, quits)
    | inr other ↦ absurd (let goes_now = goes other in cc)
  ]

-- after all lines
pub all_done : (all left : List (List ℕ)) (first now : SessionState) (text : List ℕ) →
    Continues all first left now text → left ≡ [] → Obeys all first now text
all_done all left first now text so_far ends = rw (← append-nil text) (so_far now [] (rw ends (none now)))
