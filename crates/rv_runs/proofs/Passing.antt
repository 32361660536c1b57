-- Runs past the breakpoints that don't stop them, and past the places that are no marks.
use Rattle.std.proofs.lemmas.Bool.Decides.{nat_tests}
use Rattle.std.proofs.lemmas.List.{map-id}
use Rattle.std.proofs.Common.{◌≡◌, ◌∙◌, ℕ, zero, suc, ◌+◌, ◌-◌, ◌&&◌, ◌<◌, Bool, true, false, List, refl, sym, ap, arith}
use Rattle.std.specs.Prelude.{map, pred, if◌then◌else◌, is_some, nat_lt, option_and_then, unwrap_or, Option, Some, None, Result, Ok, Err, IsErr}
use Rattle.std.specs.Option.{option_map_or}
use Rattle.rv_base.specs.declared.memory.NoMemory.{NoMemory}
use Rattle.rv_board.specs.Support.State.{halted_of}
use Rattle.rv_monitor.specs.State.{IsInTime, SessionState, after}
use Rattle.rv_monitor.specs.Stops.{steps_between}
use Rattle.rv_monitor.proofs.Sets.{no_member}
use Rattle.rv_recording.specs.Out.{out_ends}
use Rattle.rv_recording.specs.Recording.{RecordingState}
use Rattle.rv_recording.specs.Refused.{NoneEnds}
use Rattle.rv_recording.specs.Until.{steps_of}
use Rattle.rv_recording.specs.Support.Steps.{first_end}
use Rattle.rv_recording.specs.declared.until.End.{End}
use Rattle.rv_recording.specs.declared.until.End.TheVariants.{Breakpoint, Limit}
use Rattle.rv_recording.proofs.Counting.{none_before, steps_within}
use Rattle.rv_runs.specs.Ends.{guards_after, plain_ends}
use Rattle.rv_runs.specs.Guards.{counted, counted_by, end_here, hits, is_break, is_hit}
use Rattle.rv_runs.specs.Marks.{is_marked, mark_ends}
use Rattle.rv_runs.specs.Support.Plain.{Aim, Ran, aim_after, bare_ends, goal_at, guards_here, hit_here, hit_once, mark_here, past_ends, past_here, plain_here}
use Rattle.rv_runs.specs.declared.goal.Goal.{Goal}
use Rattle.rv_runs.specs.declared.goal.Goal.TheVariants as goal
use Rattle.rv_runs.specs.declared.guard.Guard.{Guard}
use Rattle.rv_runs.proofs.Later.{goal_later, guarded_later, guards_later, is_passing}
use Rattle.rv_runs.proofs.Parts.{Part, Rests, all_of, between, short}

-- ---- the ends of a run without guards by those of one that heeds no mark

mark_at : (ms : List ℕ) (calls : ℕ) (s : SessionState) (n : ℕ)
    → mark_ends ms calls s n ≡ option_and_then (mark_here ms (record s { timed = after s.timed n })) (out_ends calls None s n)
unfolding is_marked
mark_at ms calls s n = grind arith

plain_at : (ms : List ℕ) (g : Goal) (s : SessionState) (n : ℕ)
    → plain_ends ms g s n ≡ option_and_then (plain_here ms (goal_at g s n) (record s { timed = after s.timed n })) (bare_ends g s n)
plain_at ms g s n = grind (arith, mark_at)

plain_none : (ms : List ℕ) (g : Goal) (s : SessionState) (n : ℕ) → NoneEnds (bare_ends g s) n → NoneEnds (plain_ends ms g s) n
plain_none ms g s n none i l = grind (arith, plain_at)

-- before the first step none is over that didn't halt, and may go on
plain_first : (ms : List ℕ) (g : Goal) (s : SessionState)
    → plain_ends ms g s 0 ≡ first_end (halted_of (after s.timed 0).board) false false (nat_lt (after s.timed 0).taken s.limit)
plain_first ms g s = grind arith

-- ---- the hits

module _ (s : SessionState) (ends : ℕ → Option End) where
  no_hits : (g : Guard) (n : ℕ) → ((i : ℕ) → i < n → is_break (ends (suc i)) ≡ false) → hits g s ends n ≡ 0
  unfolding hits is_hit
  no_hits g zero none = refl
  no_hits g (suc n) none = rw (none n (omega arith)) (no_hits g n (λ i l. none i (omega (arith, l))))

  -- without one, the guards are as they were
  unhit : (g : Guard) (n : ℕ) → ((i : ℕ) → i < n → is_break (ends (suc i)) ≡ false) → counted_by s ends n g ≡ g
  unhit g n none = let same : g.passes - hits g s ends n ≡ g.passes = omega (arith, no_hits g n none) in rw same refl

  none_counted : (gs : List Guard) (n : ℕ) → ((i : ℕ) → i < n → is_break (ends (suc i)) ≡ false) → counted gs s ends n ≡ gs
  none_counted gs n none = (λ i. map (λ g. unhit g n none i) gs) ∙ map-id gs

  -- the step that comes to the first end may be one
  one_hit : (g : Guard) (n : ℕ) → NoneEnds ends n → is_break (ends 0) ≡ false
      → counted_by s ends n g ≡ (if is_break (ends n) then hit_once (after s.timed n).board g else g)
  unfolding hits is_hit
  one_hit g zero none first = unhit g 0 (λ i l. absurd (omega (arith, l))) ∙ rw first refl
  one_hit g (suc n) none first =
      let before : hits g s ends n ≡ 0 = no_hits g n (λ i l. ap is_break (none (suc i) (omega (arith, l)))) in
      grind (arith, nat_tests)

-- the guards after the steps up to the first end, by why it ended
counted_here : (s : SessionState) (ends : ℕ → Option End) (gs : List Guard) (n : ℕ) → NoneEnds ends n → is_break (ends 0) ≡ false
    → counted gs s ends n ≡ option_map_or (hit_here gs (record s { timed = after s.timed n })) (ends n) gs
counted_here s ends gs n none first = (λ i. map (λ g. one_hit s ends g n none first i) gs) ∙ by (ends n)
  where
    by : (o : Option End) → map (λ g. if is_break o then hit_once (after s.timed n).board g else g) gs
        ≡ option_map_or (hit_here gs (record s { timed = after s.timed n })) o gs
    by (Some Breakpoint) = refl
    by o = map-id gs

-- steps past any breakpoint count none
no_break_by : (b : Bool) (h : Option ℕ) (z l : Bool) → b ≡ false → is_break (first_end h (z && false) (z && b) l) ≡ false
no_break_by b h z l e = grind arith

pub traced_guards : (ms : List ℕ) (gs : List Guard) (s : SessionState) (n : ℕ) → guards_after ms gs goal.Trace s n ≡ gs
traced_guards ms gs s n = grind (arith, nat_tests, none_counted, no_break_by, no_member)

-- ---- the end of a part

pub aims_later : (ms : List ℕ) (a : Aim) (s : SessionState) (k : ℕ) → IsInTime s.timed → (i : ℕ)
    → aim_after ms (aim_after ms a s k) (record s { timed = after s.timed k }) i ≡ aim_after ms a s (k + i)
aims_later ms a s k h i = rw (guards_later s k h ms a.guards a.goal i, goal_later s k h a.goal i)

-- the guards after it
by_bare : (here : End → Option End) (gs : List Guard) (t : SessionState) (o : Option End) (end : End) → here Limit ≡ Some Limit
    → end ≡ unwrap_or o Limit
    → option_map_or (hit_here gs t) (option_and_then here o) gs ≡ option_map_or (hit_here gs t) (here end) gs
by_bare here gs t o end limit e = grind (arith, nat_tests)

-- what is told of a run that is over, and what is known of one that goes on
module _ (here : End → Option End) (limit : here Limit ≡ Some Limit) (o x : Option End) (at : x ≡ option_and_then here o)
    (end : End) (ended : end ≡ unwrap_or o Limit) where
  over_by : (said : End) → here end ≡ Some said → (said ≡ unwrap_or x Limit) × (is_some x ≡ is_some o)
  over_by said is = grind arith

  goes_by : here end ≡ None → (x ≡ None) × (is_some o ≡ true)
  goes_by is = grind arith

past_first : (ms : List ℕ) (a : Aim) (s : SessionState) → past_ends ms a s 0 ≡ bare_ends a.goal s 0
past_first ms a s = grind arith

module _ (ms : List ℕ) (a : Aim) (s : SessionState) (n : ℕ) (none : NoneEnds (bare_ends a.goal s) n) where
  abbrev there : SessionState
  there = record s { timed = after s.timed n }

  abbrev here : End → Option End
  here = past_here ms (record a { goal = goal_at a.goal s n }) there

  past_at : past_ends ms a s n ≡ option_and_then here (bare_ends a.goal s n)
  past_at = is_passing ms a.guards a.goal s n
      ∙ rw (
        none_counted s (plain_ends ms a.goal s) a.guards (pred n)
            (λ i l. ap is_break (plain_none ms a.goal s n none (suc i) (omega (arith, l)))),
        plain_at ms a.goal s n,
      )
      (grind arith)

  limit_here : plain_here ms (goal_at a.goal s n) there Limit ≡ Some Limit
  limit_here = grind arith

  guards_at : (end : End) → end ≡ unwrap_or (bare_ends a.goal s n) Limit
      → guards_here ms (record a { goal = goal_at a.goal s n }) there end ≡ guards_after ms a.guards a.goal s n
  guards_at end e =
      sym (counted_here s (plain_ends ms a.goal s) a.guards n (plain_none ms a.goal s n none)
      (rw (plain_first ms a.goal s) (grind arith))
      ∙ rw (plain_at ms a.goal s n) (by_bare (plain_here ms (goal_at a.goal s n) there) a.guards there
      (bare_ends a.goal s n) end limit_here e))

past_none : (ms : List ℕ) (a : Aim) (s : SessionState) (n : ℕ) → NoneEnds (bare_ends a.goal s) n → NoneEnds (past_ends ms a s) n
past_none ms a s n none i l = past_at ms a s i (λ j less. none j (omega (arith, l, less)))
    ∙ rw (none i l) refl

-- ---- a part of a run

-- memory ran out in it
pub past_short : (ms : List ℕ) {a0 a : Aim} {r0 r : RecordingState} {most left : ℕ}
    → Rests (past_ends ms) (aim_after ms) a0 r0 most a r left → {h : Goal} {q : RecordingState} {e : NoMemory}
    → (result : Result End NoMemory) → IsErr result → Ran bare_ends goal_at left a.goal h r q (Err e)
    → Ran (past_ends ms) (aim_after ms) most a0 (record { guards = a.guards; goal = h }) r0 q result
past_short ms {a0} {a} {r0} {r} {most} {left} before {h} {q} result is part =
    let k = steps_of (bare_ends a.goal r.session) left in
    let none = none_before (bare_ends a.goal r.session) left in
    let j = steps_between r.session.timed q.session.timed in
    let same : counted a.guards r.session (plain_ends ms a.goal r.session) j ≡ a.guards =
    none_counted r.session (plain_ends ms a.goal r.session) a.guards j
    (λ i l. ap is_break (plain_none ms a.goal r.session k none (suc i) (omega (arith, l, part.err.within)))) in
    short before result is (rw (same, part.aim) refl) part.others part.err (past_none ms a r.session k none)
    (steps_within (bare_ends a.goal r.session) left)

-- it came to an end
pub past_part : (ms : List ℕ) {a : Aim} {r q : RecordingState} {left : ℕ} {h : Goal} {end : End} → IsInTime r.session.timed
    → Ran bare_ends goal_at left a.goal h r q (Ok end) → {s : SessionState} → s ≡ q.session → {hs : List Guard}
    → hs ≡ guards_here ms (record { guards = a.guards; goal = h }) s end → {o : Option End}
    → o ≡ past_here ms (record { guards = a.guards; goal = h }) s end → {x : ℕ} → x ≡ steps_between r.session.timed q.session.timed
    → Part (past_ends ms) (aim_after ms) a r left x (record { guards = hs; goal = h }) q o
past_part ms {a} {r} {q} {left} {h} {end} begun part {s} stands {hs} counts {o} is {x} done =
    let plain = bare_ends a.goal r.session in
    let k = steps_of plain left in
    let none = none_before plain left in
    let there : q.session ≡ record r.session { timed = after r.session.timed k } = part.ok.state in
    let far : steps_between r.session.timed q.session.timed ≡ k = rw (there, ← between r.session.timed k) refl in
    let goal_is : h ≡ goal_at a.goal r.session k = part.aim ∙ ap (goal_at a.goal r.session) far in
    let lands : s ≡ record r.session { timed = after r.session.timed k } = stands ∙ there in
    let at = past_at ms a r.session k none in
    let limit = ap (option_and_then (end_here a.guards (record r.session { timed = after r.session.timed k })))
    (limit_here ms a r.session k none) in
    let decides : o ≡ here ms a r.session k none end = is ∙ rw (goal_is, lands) refl in
    let aim : ◌≡◌ {A = Aim} (record { guards = hs; goal = h }) (aim_after ms a r.session k) =
    rw (counts, goal_is, lands, guards_at ms a r.session k none end part.ok.ended) refl in
    rw (done, far) (record {
      state = part.others ∙ ap (λ (u : SessionState). record r { session = u }) there;
      aim = aim;
      within = steps_within plain left;
      none = past_none ms a r.session k none;
      over = λ said some.
          let told = over_by (here ms a r.session k none) limit (plain k) (past_ends ms a r.session k) at end part.ok.ended
          said (sym decides ∙ some) in
          (told.0, λ going. all_of plain left (sym told.1 ∙ going));
      on = λ goes.
          let on = goes_by (here ms a r.session k none) limit (plain k) (past_ends ms a r.session k) at end part.ok.ended
          (sym decides ∙ goes) in
          (on.0, grind (arith, nat_tests, past_first));
      rest = λ going i. guarded_later r.session k begun ms a.guards a.goal going i;
      aims = λ i. aims_later ms a r.session k begun i;
    })
