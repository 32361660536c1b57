-- Texts that were not read, after those before them were.
use Rattle.std.proofs.Common.{◌≡◌, ◌⊎◌, inl, inr, ℕ, Bool, true, false, List, [], length, Option, Some, None, Err, arith}
use Rattle.std.specs.Prelude.{IfSome, IsSomeAnd}
use Rattle.std.proofs.KnownBytes.{Consumes-nil}
use Rattle.rv_io.specs.Support.Calls.{FailsToRead, Readers}
use Rattle.rv_io.specs.Readers.{Reads}
use Rattle.rv_io.specs.Texts.{Gave, IsSound, Side, side_if}
use Rattle.rv_io.specs.declared.fault.ReadFault.{ReadFault}
use Rattle.rv_io.specs.declared.fault.ReadFault.TheVariants.{OutOfMemory, Unreadable}
use Rattle.rv_io.specs.declared.fault.TextName.TheVariants.{Commands, Input}
use Rattle.rv_io.proofs.Sound.{sound}

-- a reader that gave its text is sound, and so is one that was not touched
pub gave_sound : (r : Side) (text : List ℕ) → Gave r text → IsSound true r
gave_sound r text g = (text, g.0, sound r.failed (length text) g.2 g.3)

pub untouched : {A : Type 0} (left : A → Option (List ℕ)) (has_failed : A → Bool) (reader : Option A)
    → IfSome reader (λ r. has_failed r ≡ false) → IfSome (side_if left has_failed reader reader) (IsSound true)
untouched left has_failed None h = tt
untouched left has_failed (Some r) h = ([], Consumes-nil (left r), sound (has_failed r) 0 (omega arith) h)

pub inputs_unread : (r : Readers) (source : List ℕ) (fault : ReadFault) → Gave r.source source
    → FailsToRead Input r.inputs fault → IfSome r.commands (IsSound true) → Reads r (Err fault)
inputs_unread r source fault gave (inl e) rest = rw e.0 (source, gave, e.1)
inputs_unread r source fault gave (inr e) rest = rw e.0 (gave_sound r.source source gave, e.1, rest)

pub commands_unread : (r : Readers) (source inputs : List ℕ) (fault : ReadFault) → Gave r.source source
    → Gave r.inputs inputs → ((fault ≡ Unreadable Commands) × IsSomeAnd r.commands (IsSound false))
    ⊎ ((fault ≡ OutOfMemory) × IfSome r.commands (IsSound true)) → Reads r (Err fault)
commands_unread r source inputs fault gave more (inl e) = rw e.0 (source, inputs, gave, more, e.1)
commands_unread r source inputs fault gave more (inr e) =
    rw e.0 (gave_sound r.source source gave, gave_sound r.inputs inputs more, e.1)
