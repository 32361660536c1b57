-- The readers of a run's texts, and what they gave.
-- To audit: public contracts cite this.
use Rattle.std.specs.Prelude.{◌≡◌, ℕ, List, true, false, Option, None, Result, Ok, Err, IfSome, IsSomeAnd, MatchOption}
use Rattle.rv_io.specs.Texts.{Gave, IsSound, Side}
use Rattle.rv_io.specs.declared.fault.ReadFault.{ReadFault}
use Rattle.rv_io.specs.declared.fault.ReadFault.TheVariants.{OutOfMemory, Unreadable}
use Rattle.rv_io.specs.declared.fault.TextName.TheVariants.{Commands, Input, Source}

-- what there is for each text of a run, its bytes or its reader: for the source, for the timed list, and for
-- the commands, if there are any
pub record EachText (A : Type 0) : Type 0 where
  pub source : A
  pub inputs : A
  pub commands : Option A

-- each text was read, and where there is no reader of commands, there are none; or one is unreadable after
-- those before it were read; or memory ran out while no reader had failed
abbrev pub Reads : EachText Side → Result (EachText (List ℕ)) ReadFault → Type 0
Reads r (Ok t) = Gave r.source t.source × Gave r.inputs t.inputs
    × MatchOption r.commands (t.commands ≡ None) (λ c. IsSomeAnd t.commands (Gave c))
Reads r (Err (Unreadable Source)) = IsSound false r.source
Reads r (Err (Unreadable Input)) = (text : List ℕ) × Gave r.source text × IsSound false r.inputs
Reads r (Err (Unreadable Commands)) =
    (s t : List ℕ) × Gave r.source s × Gave r.inputs t × IsSomeAnd r.commands (IsSound false)
Reads r (Err OutOfMemory) = IsSound true r.source × IsSound true r.inputs × IfSome r.commands (IsSound true)
