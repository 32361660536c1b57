-- A run of a program whose words stand in rows is computed with their kinds, and with lists of sources in place of the
-- interrupt controller's sets, which don't compute.
use Rattle.std.proofs.Common.{rules, ◌≡◌, refl, ap, sym, ◌∙◌, true, false, ℕ, ◌%◌, ◌==◌, List, Bool, eqb-true}
use Rattle.std.specs.Prelude.{ℤ, [], ◌∷◌, Option, Some, None, is_some, if◌then◌else◌, ◌&&◌, Result, Ok, Err}
use Rattle.std.specs.Option.{option_map_or}
use Rattle.std.proofs.lemmas.Bool.{and_parts, true≢false}
use Rattle.std.proofs.lemmas.Option.{none-some}
use Rattle.rv_isa.specs.Width.{bytes_of}
use Rattle.rv_isa.specs.Word.{OneMeaning}
use Rattle.rv_isa.specs.Support.Loads.{load_width}
use Rattle.rv_isa.specs.Support.Meaning.{means}
use Rattle.rv_isa.specs.declared.kind.Kind.{Kind}
use Rattle.rv_isa.specs.declared.kind.Kind.TheVariants.{Load, Store}
use Rattle.rv_isa.specs.declared.op.LoadOp.{LoadOp}
use Rattle.rv_isa.specs.declared.op.Width.{Width}
use Rattle.rv_isa.proofs.Meaning.{means_inverts}
use Rattle.rv_isa.specs.declared.Lines.{Lines}
use Rattle.rv_mmio.specs.Timer.{is_due, timer_ticked}
use Rattle.rv_plic.specs.Gateways.{forwarded}
use Rattle.rv_plic.specs.Support.Registers.{reg_at}
use Rattle.rv_plic.proofs.Forwarding.{none_forwarded}
use Rattle.rv_plic.proofs.Rows.{loaded, loads, stores}
use Rattle.rv_pmp.specs.Pmp.{grants}
use Rattle.rv_pmp.specs.declared.access.Access.TheVariants.{Execute}
use Rattle.rv_pmp.specs.declared.access.Access.TheVariants as access
use Rattle.rv_csr.specs.Traps.{next_interrupt}
use Rattle.rv_bus.specs.Access.{fetch}
use Rattle.rv_bus.specs.State.{BusState}
use Rattle.rv_bus.specs.Support.AtLocation.{load_at, location, store_at}
use Rattle.rv_bus.specs.declared.locations.Location.{Location}
use Rattle.rv_bus.specs.declared.locations.Location.TheVariants.{Plic}
use Rattle.rv_bus.proofs.Rows.{at_location}
use Rattle.rv_hart.specs.State.{Machine}
use Rattle.rv_hart.specs.Effect.{csr_written, effect, execute, may_access, plus, reg, require, trap}
use Rattle.rv_hart.specs.Support.EffectParts.{given, load_result, store_result}
use Rattle.rv_hart.specs.Fetch.{fetch_result}
use Rattle.rv_hart.specs.Step.{attempt, counts, enter, fetched, finished, step, ticked}
use Rattle.rv_hart.specs.Laws.{accessed}
use Rattle.rv_hart.proofs.Devices.{IfRetired, Reaches, reaches}
use Rattle.rv_hart.proofs.Devices as devices
use Rattle.rv_hart.specs.declared.trap.Trap.{Trap}
use Rattle.rv_hart.specs.declared.trap.Outcome.{Outcome}
use Rattle.rv_board.specs.BoardState.{BoardState, on_bus}
use Rattle.rv_board.specs.Move.{after_step, moved, with_event, run}
use Rattle.rv_board.specs.declared.event.Event.{Event}
use Rattle.rv_board.specs.declared.event.Event.TheVariants.{Step, Line}
use Rattle.test_definitions.specs.Support.Runs.{Row}
use Rattle.test_definitions.proofs.Lists.{OfLists, forwarded_by, forwarded_is, line_by, line_is, loaded_by, loaded_is, notified_by, notified_is, of, requests_are, requests_by, set_of, stored_by, stored_is, word_by, words_are}
use Rattle.test_definitions.proofs.Decoding.{decoded, by_rows}

-- ---- a fetch

found_by : (rows : List Row) (w : ℕ) (o : Option Kind) → OneMeaning → decoded rows w ≡ o → is_some o ≡ true
    → means w ≡ o
found_by rows w (Some k) one e some = one w (means w) (Some k) (means_inverts w) (by_rows rows w k e)
found_by rows w None one e some = absurd cc

-- whether a word that was fetched stands in the rows
abbrev is_known : List Row → Option ℕ → Bool
is_known rows word = option_map_or (λ w. is_some (decoded rows w)) word true

known_word : (rows : List Row) (pc : ℕ) (word : Option ℕ) → OneMeaning → is_known rows word ≡ true
    → given {B = Kind} 1 pc (λ w. given 2 w Ok (means w)) word ≡ given 1 pc (λ w. given 2 w Ok (decoded rows w)) word
known_word rows pc word one known = search (rules, found_by)

-- ---- accesses, while the sets of the interrupt controller are those of lists

abbrev loaded_at : OfLists → BusState → Width → Location → Option (ℕ × BusState)
loaded_at p b w (Plic off) = Some (word_by p (reg_at off), record b { plic = of (loaded_by p (reg_at off)) })
loaded_at p b w l = load_at b l w

abbrev stored_at : OfLists → BusState → Width → ℕ → Location → Option BusState
stored_at p b w v (Plic off) = Some (record b { plic = of (stored_by p v (reg_at off)) })
stored_at p b w v l = store_at b l w v

-- a register of the controller begins at a word
abbrev is_whole : Location → Bool
is_whole (Plic off) = off % 4 == 0
is_whole l = true

module _ (p : OfLists) (b : BusState) (is : b.plic ≡ of p) (w : Width) where
  loads_at : (l : Location) → is_whole l ≡ true → load_at b l w ≡ loaded_at p b w l
  loads_at (Plic off) e =
      let whole : off % 4 ≡ 0 = eqb-true _ _ e in
      rw (is, loads (of p) off whole, words_are p (reg_at off), loaded (of p) off whole, loaded_is p (reg_at off)) refl
  loads_at l e = refl

  stores_at : (v : ℕ) (l : Location) → is_whole l ≡ true → store_at b l w v ≡ stored_at p b w v l
  stores_at v (Plic off) e = rw (is, stores (of p) off (eqb-true _ _ e) v, stored_is p v (reg_at off)) refl
  stores_at v l e = refl

-- ---- instructions

-- what is at the address of a load or a store
abbrev at_base : Machine → ℕ → ℤ → Width → Location
at_base m base offset w = location m.bus (plus (reg m base) offset) w

abbrev load_by : OfLists → Machine → LoadOp → ℕ → ℕ → Bool → Bool → Location → Result Machine Trap
load_by p m op rd addr aligned granted l =
    require 4 addr aligned (require 5 addr granted (load_result m op rd addr (loaded_at p m.bus (load_width op) l)))

abbrev store_by : OfLists → Machine → Width → ℕ → ℕ → Bool → Bool → Location → Result Machine Trap
store_by p m w addr v aligned granted l =
    require 6 addr aligned (require 7 addr granted (store_result m addr (stored_at p m.bus w v l)))

abbrev effect_by : OfLists → Kind → Machine → Result Machine Trap
effect_by p (Load op rd base offset) m =
    let addr = plus (reg m base) offset in
    let w = load_width op in
    load_by p m op rd addr (addr % bytes_of w == 0) (may_access m access.Read addr w) (at_base m base offset w)
effect_by p (Store w source base offset) m =
    let addr = plus (reg m base) offset in
    store_by p m w addr (reg m source) (addr % bytes_of w == 0) (may_access m access.Write addr w)
    (at_base m base offset w)
effect_by p k m = effect k m

-- whether an instruction accesses whole registers
abbrev accesses_whole : Machine → Kind → Bool
accesses_whole m (Load op rd base offset) = is_whole (at_base m base offset (load_width op))
accesses_whole m (Store w source base offset) = is_whole (at_base m base offset w)
accesses_whole m k = true

effect_is : (p : OfLists) (m : Machine) → m.bus.plic ≡ of p → (k : Kind) → accesses_whole m k ≡ true
    → effect k m ≡ effect_by p k m
unfolding execute
effect_is p m is (Load op rd base offset) whole =
    let w = load_width op in
    rw ((at_location m.bus (plus (reg m base) offset) w).load, loads_at p m.bus is w _ whole) refl
effect_is p m is (Store w source base offset) whole =
    rw ((at_location m.bus (plus (reg m base) offset) w).store (reg m source), stores_at p m.bus is w _ _ whole) refl
effect_is p m is k whole = refl

-- the lists after an instruction that retires
abbrev after_access : OfLists → (ℕ → OfLists) → Location → OfLists
after_access p change (Plic off) = change off
after_access p change l = p

abbrev changed : OfLists → Machine → Kind → OfLists
changed p m (Load op rd base offset) =
    after_access p (λ off. loaded_by p (reg_at off)) (at_base m base offset (load_width op))
changed p m (Store w source base offset) =
    after_access p (λ off. stored_by p (reg m source) (reg_at off)) (at_base m base offset w)
changed p m k = p

module _ (p : OfLists) (m : Machine) (is : m.bus.plic ≡ of p) where
  abbrev Has : OfLists → Machine → Type 0
  Has q new = new.bus.plic ≡ of q

  leaves : (k : Kind) (e : Result Machine Trap) → accessed k m ≡ None → IfRetired (Reaches m k) e
      → IfRetired (Has p) e
  leaves k (Ok new) none (devices.nothing same) = rw same is
  leaves k e none reached = search (rules, none-some)

  has_changed : (k : Kind) → IfRetired (Has (changed p m k)) (effect_by p k m)
  has_changed (Load op rd base offset) = search rules
  has_changed (Store w source base offset) = search rules
  has_changed k = leaves k (effect k m) refl (reaches m k)

-- ---- a step

abbrev attempt_by : OfLists → Machine → Result Kind Trap → Machine × Outcome
attempt_by p m (Ok k) = finished m (csr_written k) (effect_by p k m)
attempt_by p m (Err t) = finished m None (Err t)

-- the lists after it
abbrev after_effect : OfLists → OfLists → Result Machine Trap → OfLists
after_effect p q (Ok new) = q
after_effect p q (Err t) = p

abbrev lists_after : OfLists → Machine → Result Kind Trap → OfLists
lists_after p m (Ok k) = after_effect p (changed p m k) (effect_by p k m)
lists_after p m (Err t) = p

abbrev tries_whole : Machine → Result Kind Trap → Bool
tries_whole m (Ok k) = accesses_whole m k
tries_whole m (Err t) = true

module _ (p : OfLists) (m : Machine) (is : m.bus.plic ≡ of p) where
  attempt_is : (f : Result Kind Trap) → tries_whole m f ≡ true → attempt m f ≡ attempt_by p m f
  attempt_is f whole = search (rules, effect_is)

  finished_has : (wrote : Option ℕ) (q : OfLists) (e : Result Machine Trap) → IfRetired (λ new. new.bus.plic ≡ of q) e
      → (finished m wrote e).0.bus.plic ≡ of (after_effect p q e)
  unfolding counts enter
  finished_has wrote q e has = search rules

  attempt_has : (f : Result Kind Trap) → (attempt_by p m f).0.bus.plic ≡ of (lists_after p m f)
  attempt_has (Ok k) = finished_has (csr_written k) (changed p m k) (effect_by p k m) (has_changed p m is k)
  attempt_has (Err t) = finished_has None p (Err t) tt

-- the lists after a tick: as they are where no gateway has a request, so that they stay short
abbrev forwarded_if : OfLists → List ℕ → OfLists
forwarded_if p [] = p
forwarded_if p (s ∷ ss) = forwarded_by p

abbrev tick_by : OfLists → OfLists
tick_by p = forwarded_if p (requests_by p)

tick_is : (p : OfLists) → forwarded (of p) ≡ of (tick_by p)
tick_is p = elim (requests_by p) as (λ new. requests_by p ≡ new → forwarded (of p) ≡ of (forwarded_if p new)) [
  | [] ↦ λ none. none_forwarded (of p) (requests_are p ∙ ap set_of none)
  | s ∷ ss ↦ λ some. forwarded_is p
] refl

-- the machine after a tick
abbrev ticked_by : OfLists → Machine → Machine
ticked_by p m =
    record m { bus = record m.bus { timer = timer_ticked m.bus.timer; plic = of (tick_by p) } }

ticked_is : (p : OfLists) (m : Machine) → m.bus.plic ≡ of p → ticked m ≡ ticked_by p m
ticked_is p m is = rw (is, tick_is p) refl

-- the levels of the interrupt lines
abbrev lines_by : OfLists → Machine → Lines
lines_by p m =
    record { software = m.bus.timer.software; timer = is_due m.bus.timer; external = notified_by p }

abbrev fetched_by : List Row → OfLists → Machine → Result Kind Trap
fetched_by rows p m =
    option_map_or (λ cause. trap cause 0) (next_interrupt m.csrs m.mode (lines_by p m))
    (require 1 m.pc (grants m.csrs.pmp m.mode Execute m.pc 4)
    (given 1 m.pc (λ w. given 2 w Ok (decoded rows w)) (fetch m.bus.ram m.pc)))

abbrev stepped_by : List Row → OfLists → Machine → Machine × Outcome
stepped_by rows p m =
    let q = tick_by p in let n = ticked_by p m in attempt_by q n (fetched_by rows q n)

known_fetch : (rows : List Row) (p : OfLists) (m : Machine) → OneMeaning
    → is_known rows (fetch m.bus.ram m.pc) ≡ true → m.bus.plic ≡ of p
    → fetched m ≡ fetched_by rows p m
unfolding fetch_result
known_fetch rows p m one known is =
    rw (is, notified_is p, known_word rows m.pc (fetch m.bus.ram m.pc) one known) refl

-- whether a step can be computed: its word stands in the rows, and it accesses whole registers
abbrev is_computed : List Row → OfLists → Machine → Bool
is_computed rows p m =
    is_known rows (fetch m.bus.ram m.pc) && tries_whole (ticked_by p m) (fetched_by rows (tick_by p) (ticked_by p m))

known_step : (rows : List Row) (p : OfLists) (m : Machine) → OneMeaning → is_computed rows p m ≡ true
    → m.bus.plic ≡ of p → step m ≡ stepped_by rows p m
unfolding step
known_step rows p m one known is =
    let q = tick_by p in
    let n = ticked_by p m in
    let parts = and_parts _ _ known in
    ap (λ (n : Machine). attempt n (fetched n)) (ticked_is p m is)
    ∙ (ap (attempt n) (known_fetch rows q n one parts.0 refl) ∙ attempt_is q n refl (fetched_by rows q n) parts.1)

-- ---- a run

abbrev event_by : List Row → OfLists → BoardState → Event → BoardState
event_by rows p b Step = after_step b (stepped_by rows p b.machine)
event_by rows p b (Line source high) = on_bus b (λ bus. record bus { plic = of (line_by p source high) })
event_by rows p b e = with_event b e

-- the lists after an event
abbrev lists_by : List Row → OfLists → BoardState → Event → OfLists
lists_by rows p b Step =
    let q = tick_by p in
    let n = ticked_by p b.machine in lists_after q n (fetched_by rows q n)
lists_by rows p b (Line source high) = line_by p source high
lists_by rows p b e = p

abbrev moved_by : List Row → OfLists → BoardState → Event → BoardState
moved_by rows p b e = if is_some b.machine.bus.halt then b else event_by rows p b e

abbrev lists_on : List Row → OfLists → BoardState → Event → OfLists
lists_on rows p b e = if is_some b.machine.bus.halt then p else lists_by rows p b e

abbrev pub ran : List Row → OfLists → List Event → BoardState → Option BoardState
ran rows p [] b = Some b
ran rows p (e ∷ es) b =
    if is_computed rows p b.machine then ran rows (lists_on rows p b e) es (moved_by rows p b e) else None

module _ (rows : List Row) (p : OfLists) (b : BoardState) (one : OneMeaning)
    (known : is_computed rows p b.machine ≡ true) (is : b.machine.bus.plic ≡ of p) where
  known_event : (e : Event) → with_event b e ≡ event_by rows p b e
  known_event e = search (rules, known_step, line_is)

  known_move : (e : Event) → moved b e ≡ moved_by rows p b e
  unfolding moved
  known_move e = rw (known_event e) refl

  event_has : (e : Event) → (event_by rows p b e).machine.bus.plic ≡ of (lists_by rows p b e)
  event_has e = search (rules, attempt_has)

  moved_has : (e : Event) → (moved_by rows p b e).machine.bus.plic ≡ of (lists_on rows p b e)
  moved_has e = search (rules, event_has)

-- what a computed run says of its end holds of the run
pub run_is : (rows : List Row) (p : OfLists) (test : BoardState → Bool) (es : List Event) (b : BoardState)
    → OneMeaning → b.machine.bus.plic ≡ of p → option_map_or test (ran rows p es b) false ≡ true
    → test (run b es) ≡ true
run_is rows p test [] b one is e = e
run_is rows p test (x ∷ es) b one is e = elim (is_computed rows p b.machine) as (λ k. is_computed rows p b.machine ≡ k
    → option_map_or test (if k then ran rows (lists_on rows p b x) es (moved_by rows p b x) else None) false ≡ true
    → test (run b (x ∷ es)) ≡ true) [
      | true ↦ λ known e. rw (known_move rows p b one known is x)
          (run_is rows (lists_on rows p b x) test es (moved_by rows p b x) one (moved_has rows p b one known is x) e)
      | false ↦ λ known e. absurd (true≢false (sym e))
    ] refl e
