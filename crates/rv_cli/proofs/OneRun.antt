-- A command leaves one session, and commands one text.
use Rattle.std.proofs.Common.{rules, ◌≡◌, ℕ, ◌<◌, ◌≤◌, inl, inr, List, [], ◌∷◌, ◌++◌, Option, Some, None, refl, arith}
use Rattle.std.specs.Prelude.{IsSome}
use Rattle.std.specs.FinSet as set
use Rattle.std.proofs.lemmas.Bool.{cases_lt}
use Rattle.rv_commands.specs.declared.command.Command.{Command}
use Rattle.rv_commands.specs.declared.command.Command.TheVariants.{Step, Go, SetBreak, ClearBreak}
use Rattle.rv_monitor.specs.Commands.{Leaves, Took, answer, command_in}
use Rattle.rv_monitor.specs.State.{Addresses, SessionState, after, with_break, without_break}
use Rattle.rv_monitor.specs.Stops.{stop_after}
use Rattle.rv_monitor.specs.Support.TimedCalls.{going_for, most_of}
use Rattle.rv_monitor.specs.declared.stop.Stop.{Stop}
use Rattle.rv_base.specs.Lines.{lines}
use Rattle.rv_cli.specs.Output.{Does, Obeys, goes_on, none, quits}
use Rattle.rv_cli.proofs.Obeyed.{quits_or}
use Rattle.rv_cli.proofs.OneList.{either, first_below}

-- ---- steps

module _ (breakpoints : Addresses) (n : ℕ) (old : SessionState) where
  -- a call takes one number of steps
  took_one : (a b : SessionState) → Took breakpoints n old a → Took breakpoints n old b → a ≡ b
  took_one a b one two = search (rules, arith, cases_lt)

  abbrev stop_at : ℕ → Option Stop
  stop_at i = stop_after breakpoints (after old.timed i).board i

  abbrev GoesOn : ℕ → Type 0
  GoesOn k = (i : ℕ) → i < k → stop_at i ≡ None

  abbrev Taken : Type 0
  Taken = (new : SessionState) × Took breakpoints n old new

  taken : (k : ℕ) → k ≤ most_of old n → GoesOn k → (k < most_of old n → IsSome (stop_at k)) → Taken
  taken k within going least = (
    record old { timed = after old.timed k },
    record { count = k; within = within; going = going; least = least; state = refl },
  )

  -- which there is
  took_some : Taken
  took_some = elim (first_below (λ i. stop_at i ≡ None) (λ i. IsSome (stop_at i)) (λ i. either (stop_at i)) (most_of old n)) [
    | inl going ↦ taken (most_of old n) (omega arith) going (λ less. absurd (omega (arith, less)))
    | inr found ↦ taken found.0 (omega (arith, found.1)) found.3 (λ less. found.2)
  ]

-- ---- commands

leaves_some : (c : Option Command) (old : SessionState) → (new : SessionState) × Leaves c old new
leaves_some (Some (Step n)) old = took_some set.empty n old
leaves_some (Some (Go n)) old = took_some old.breakpoints.addresses (going_for old n) old
leaves_some (Some (SetBreak addr)) old = (with_break old addr, refl)
leaves_some (Some (ClearBreak addr)) old = (without_break old addr, refl)
leaves_some other old = (old, refl)

-- ---- commands, one after another

abbrev AreSame : SessionState → SessionState → List ℕ → List ℕ → Type 0
AreSame a b t u = (a ≡ b) × (t ≡ u)

obeys_one : (ls : List (List ℕ)) (old a b : SessionState) (t u : List ℕ) → Obeys ls old a t
    → Obeys ls old b u → AreSame a b t u
obeys_one _ _ _ _ _ _ (none s) (none _) = (refl, refl)
obeys_one _ _ _ _ _ _ (quits line more s quit) (quits _ _ _ _) = (refl, refl)
obeys_one _ _ _ _ _ _ (quits line more s quit) (goes_on _ _ _ _ _ _ other _ _) = absurd (other quit)
obeys_one _ _ _ _ _ _ (goes_on line f more old next a other leaves rest) (quits _ _ _ quit) = absurd (other quit)
obeys_one _ _ _ _ _ _ (goes_on line f more old next a other leaves rest) (goes_on _ g _ _ second b _ left left_rest) =
    search (rules, arith, took_one, obeys_one more next a b f g rest)

obeys_some : (ls : List (List ℕ)) (old : SessionState)
    → (new : SessionState) × ((text : List ℕ) × Obeys ls old new text)
obeys_some [] old = (old, ([], none old))
obeys_some (line ∷ more) old = elim (quits_or (command_in line old)) [
  | inl quit ↦ (old, ([], quits line more old quit))
  | inr other ↦
      let first = leaves_some (command_in line old) old in
      let rest = obeys_some more first.0 in (
        rest.0,
        (
          answer (command_in line old) old first.0 ++ rest.1.0,
          goes_on line rest.1.0 more old first.0 rest.0 other first.1 rest.1.1,
        ),
      )
]

-- ---- what a run does

pub one_done : (commands : Option (List ℕ)) (old a b : SessionState) (t u : List ℕ) → Does commands old a t
    → Does commands old b u → AreSame a b t u
one_done commands old a b t u one two = search (rules, arith, took_one, obeys_one)

pub some_done : (commands : Option (List ℕ)) (old : SessionState)
    → (new : SessionState) × ((text : List ℕ) × Does commands old new text)
some_done None old =
    let took = took_some set.empty old.limit old in (took.0, ([], (took.1, refl)))
some_done (Some commands) old = obeys_some (lines commands) old
