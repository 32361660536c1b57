-- The interrupt that a step takes, those that stay pending, and the return from a trap right after its entry.
use Rattle.std.proofs.Common.{rules, ◌≡◌, ℕ, ◌+◌, ◌-◌, ◌%◌, ◌^◌, ◌<◌, Bool, true, false, List, [], ◌∷◌, Some, None, Result, Ok, Err, nat_le, nat_lt, arith, ap, ◌∙◌, refl}
use Rattle.std.specs.Prelude.{◌&&◌, ◌||◌, if◌then◌else◌}
use Rattle.std.specs.List.{list_any}
use Rattle.std.specs.FinSet.{contains, contains-union}
use Rattle.std.specs.Option.{option_map_or}
use Rattle.std.specs.Result.{is_ok, result_ok}
use Rattle.std.proofs.lemmas.Cmp.{nat_cmp_total}
use Rattle.std.proofs.lemmas.Bool.{le-leb, leb-true, or_left, or_right}
use Rattle.rv_plic.specs.Sources.{sources}
use Rattle.rv_plic.specs.Gateways.{PlicState, forwarded}
use Rattle.rv_plic.specs.Plic.{asks_above, is_notified}
use Rattle.rv_mmio.specs.Timer.{TimerState, is_due, timer_ticked}
use Rattle.rv_isa.specs.declared.kind.Kind.{Kind}
use Rattle.rv_isa.specs.declared.kind.Kind.TheVariants.{Mret}
use Rattle.rv_pmp.specs.declared.mode.Mode.TheVariants as mode
use Rattle.rv_csr.specs.Support.Interruptible.{cause_of, pending_by_cases}
use Rattle.rv_csr.proofs.Pending.{by_cases}
use Rattle.rv_csr.specs.Traps.{entered, after_return}
use Rattle.rv_bus.specs.Access.{lines_of}
use Rattle.rv_hart.specs.State.{Machine}
use Rattle.rv_hart.specs.Effect.{effect, trap, csr_written, execute}
use Rattle.rv_hart.specs.Fetch.{fetch_result}
use Rattle.rv_hart.specs.Laws.{StaysPending, accessed, first_interrupt, interrupt_taken, is_best, IsBack}
use Rattle.rv_hart.specs.Step.{step, ticked, tries, fetched, attempt, counts, enter, finished}
use Rattle.rv_hart.proofs.Devices.{IfRetired, Reaches, all_end, reaches}
use Rattle.rv_hart.specs.declared.trap.Trap.{Trap}
use Rattle.rv_hart.specs.Support.EffectParts.{branch_effect, exchange_effect, jump_effect, load_effect, return_effect, store_effect, trap_step}
use Rattle.rv_hart.specs.declared.trap.Outcome.{Outcome}
use Rattle.rv_hart.specs.declared.trap.Outcome.TheVariants.{Trapped}

-- ---- no instruction traps with the cause of an interrupt

abbrev IsException : {A : Type 0} → Result A Trap → Type 0
IsException (Ok x) = Unit {0}
IsException (Err t) = nat_le (2 ^ 31) t.cause ≡ false

exceptions : (m : Machine) (k : Kind) → IsException (effect k m)
exceptions m k = search (rules, all_end)

module _ (m : Machine) where
  fetches : IsException (fetch_result m)
  unfolding fetch_result
  fetches = search rules

  attempts : (f : Result Kind Trap) → IsException f → interrupt_taken (attempt m f).1 ≡ None
  attempts f is = search (rules, exceptions)

  -- ---- the interrupt that is taken

  taken_by : (barred external software timer : Bool) → interrupt_taken (attempt m (option_map_or (λ cause. trap cause 0)
      (if barred then None else cause_of external software timer) (fetch_result m))).1 ≡ (if barred then None
      else (if external then Some 11 else (if software then Some 3 else (if timer then Some 7 else None))))
  taken_by barred external software timer = search (rules, attempts, fetches)

  taken : interrupt_taken (attempt m (fetched m)).1 ≡ first_interrupt m.csrs m.mode (lines_of m.bus)
  unfolding pending_by_cases
  taken = search (rules, by_cases, taken_by)

pub first_taken : (m : Machine) → interrupt_taken (step m).1 ≡ first_interrupt m.csrs m.mode (lines_of (ticked m).bus)
unfolding step
first_taken m = taken (ticked m)

-- ---- those that stay pending

due_ticked : (t : TimerState) → t.time + 1 < 2 ^ 64 → is_due t ≡ true → is_due (timer_ticked t) ≡ true
due_ticked t small due = le-leb t.compare ((t.time + 1) % 2 ^ 64) (omega (arith, leb-true t.compare t.time due))

any_more : {X : Type 0} (f g : X → Bool) (xs : List X) → ((x : X) → f x ≡ true → g x ≡ true)
    → list_any f xs ≡ true → list_any g xs ≡ true
any_more f g [] each any = any
any_more f g (x ∷ xs) each any = search (rules, or_left, or_right, any_more f g xs)

or_more : (a b c more : Bool) → (a && b && c) ≡ true → ((a || more) && b && c) ≡ true
or_more a b c more is = search rules

notified_forwarded : (p : PlicState) → is_notified p ≡ true → is_notified (forwarded p) ≡ true
unfolding is_notified
notified_forwarded p is = search (
  rules,
  contains-union nat_cmp_total p.pending,
  or_more,
  any_more (asks_above p p.threshold) (asks_above (forwarded p) p.threshold),
)

module _ (m : Machine) where
  -- whether what was fetched retires a load or a store at some addresses
  abbrev reaches_by : ℕ → ℕ → Result Kind Trap → Bool
  reaches_by first size f = option_map_or (λ k. is_ok (effect k m)
      && option_map_or (λ addr. nat_le first addr && nat_lt (addr - first) size) (accessed k m) false) (result_ok f) false

  record Leaves (f : Result Kind Trap) (new : Machine) : Type 0 where
    timer : reaches_by 0x02000000 0xc000 f ≡ false → new.bus.timer ≡ m.bus.timer
    controller : reaches_by 0x0c000000 0x4000000 f ≡ false → new.bus.plic ≡ m.bus.plic
    sources : (s : ℕ) → (reaches_by 0x0c200004 1 f && is_best m.bus.plic s) ≡ false
        → contains m.bus.plic.pending s ≡ true → contains new.bus.plic.pending s ≡ true

  leaves : (f : Result Kind Trap) → Leaves f (attempt m f).0
  unfolding counts enter
  leaves (Ok k) = let reached : IfRetired (Reaches m k) (effect k m) = reaches m k in search rules
  leaves (Err t) = search rules

pending_forwarded : (p : PlicState) (s : ℕ) → contains p.pending s ≡ true → contains (forwarded p).pending s ≡ true
pending_forwarded p s on = search (rules, contains-union nat_cmp_total p.pending, or_left)

pub stay_pending : (m : Machine) → StaysPending m (step m).0
unfolding step tries
stay_pending m =
    let kept = leaves (ticked m) (fetched (ticked m)) in
    record {
      software = λ out high. ap (λ (t : TimerState). t.software) (kept.timer out) ∙ high;
      timer = λ out small high. ap is_due (kept.timer out) ∙ due_ticked m.bus.timer small high;
      external = λ out high. ap is_notified (kept.controller out) ∙ notified_forwarded m.bus.plic high;
      sources = λ s out on. kept.sources s out (pending_forwarded m.bus.plic s on);
    }

-- ---- a step that ends in a trap

enters : (m : Machine) (f : Result Kind Trap) (cause epc tval : ℕ) → (attempt m f).1 ≡ Trapped cause epc tval
    → (attempt m f).0 ≡ (trap_step m (record { cause = cause; tval = tval })).0
unfolding counts enter
enters m f cause epc tval is = search rules

-- ---- a step that tries MRET

tried : (m : Machine) (f : Result Kind Trap) (k : Kind) → result_ok f ≡ Some k
    → attempt m f ≡ finished m (csr_written k) (effect k m)
tried m f k is = search rules

abbrev returned : Machine → Machine
returned m = record m { csrs = after_return m.csrs; mode = m.csrs.mstatus.mpp; pc = m.csrs.mepc }

returns : (m : Machine) → m.mode ≡ mode.Machine → effect Mret m ≡ Ok (returned m)
unfolding execute jump_effect branch_effect load_effect store_effect exchange_effect return_effect
returns m machine = ap (return_effect m) machine

mret_leaves : (m : Machine) → m.mode ≡ mode.Machine → tries m ≡ Some Mret
    → (step m).0 ≡ counts (returned (ticked m)) true (csr_written Mret)
unfolding step tries
mret_leaves m machine is =
    let h = ticked m in
    ap (λ (s : Machine × Outcome). s.0) (tried h (fetched h) Mret is
    ∙ ap (finished h (csr_written Mret)) (returns h machine))

-- ---- both

back : (m : Machine) (t : Trap)
    → IsBack m (counts (returned (ticked (trap_step (ticked m) t).0)) true (csr_written Mret))
unfolding counts enter entered after_return
back m t = record { pc = refl; mode = refl; interrupts = refl; registers = refl; memory = refl }

in_machine_mode : (m : Machine) (t : Trap) → (trap_step m t).0.mode ≡ mode.Machine
unfolding counts enter
in_machine_mode m t = refl

leads_back : (m handler : Machine) (t : Trap) → handler ≡ (trap_step (ticked m) t).0
    → tries handler ≡ Some Mret → IsBack m (step handler).0
leads_back m handler t is mret = search (rules, in_machine_mode, mret_leaves, back)

pub traps_return : (m : Machine) (cause epc tval : ℕ) → (step m).1 ≡ Trapped cause epc tval
    → tries (step m).0 ≡ Some Mret → IsBack m (step (step m).0).0
unfolding step
traps_return m cause epc tval trapped mret =
    leads_back m (step m).0 _ (enters (ticked m) (fetched (ticked m)) cause epc tval trapped) mret
