-- The states that a recording keeps on the way.
use Rattle.std.proofs.Common.{rules, arith, ◌≡◌, ℕ, zero, suc, true, cond, List, [], ◌∷◌, refl}
use Rattle.std.specs.Prelude.{is_ok, remove, insert, None, Result}
use Rattle.rv_cache.specs.SlotCount.{is_slot_count}
use Rattle.rv_board.specs.Boot.{boot_fault}
use Rattle.rv_board.specs.Move.{run}
use Rattle.rv_board.specs.Support.State.{BoardState}
use Rattle.rv_timeline.specs.Timed.{never_falls, inserted}
use Rattle.rv_timeline.specs.declared.input.Input.{Input}
use Rattle.rv_timeline.specs.declared.input.TimedInput.{TimedInput}
use Rattle.rv_monitor.specs.Events.{events_of}
use Rattle.rv_monitor.specs.Laws.{IsReached}
use Rattle.rv_monitor.specs.State.{TimedState, count_before}
use Rattle.rv_monitor.proofs.Reached.{events_before, left_by_steps}
use Rattle.rv_recording.specs.Support.Kept.{KeptBoard, AreKept, AreWithin}

pub kept_inserted : {E : Type 0} (r : Result Unit E) (first : BoardState) (s : TimedState)
    (ks new : List KeptBoard) (k : KeptBoard) → new ≡ cond (is_ok r) (insert ks 0 k) ks → IsReached first s
    → s.place ≡ count_before s.taken s.inputs → k.board ≡ s.board → k.steps ≡ s.taken
    → AreKept first s.inputs ks → AreKept first s.inputs new
kept_inserted result first s ks new k e r none board steps h = search (rules, arith, left_by_steps)

pub kept_less : (first : BoardState) (inputs : List TimedInput) (ks : List KeptBoard) (i : ℕ)
    → AreKept first inputs ks → AreKept first inputs (remove ks i)
kept_less first inputs [] zero h = tt
kept_less first inputs [] (suc i) h = tt
kept_less first inputs (k ∷ ks) zero h = h.1
kept_less first inputs (k ∷ ks) (suc i) h = (h.0, kept_less first inputs ks i h.1)

-- an input that comes later changes none of their events
pub kept_with : (first : BoardState) (inputs : List TimedInput) (t : ℕ) (input : Input) (ks : List KeptBoard)
    → never_falls inputs ≡ true → AreWithin t ks → AreKept first inputs ks
    → AreKept first (inserted inputs (record { step = t; input = input })) ks
kept_with first inputs t input [] rising w h = tt
kept_with first inputs t input (k ∷ ks) rising w h =
    search (rules, arith, events_before, kept_with first inputs t input ks rising w.1 h.1)

pub has_slots : (size pages slots : ℕ) → boot_fault size pages slots ≡ None → is_slot_count slots ≡ true
unfolding boot_fault
has_slots size pages slots h = search (rules, arith)

-- a board at reset has taken no step
pub none_taken : (first : BoardState) (inputs : List TimedInput) → first ≡ run first (events_of inputs 0 0)
unfolding events_of
none_taken first inputs = refl
