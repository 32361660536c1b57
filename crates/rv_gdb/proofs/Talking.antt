-- Items one after another, and parts of a run.
use Rattle.std.proofs.Common.{◌≡◌, ◌∙◌, ℕ, ◌+◌, ◌<◌, List, [], ◌∷◌, ◌++◌, Bool, drop, get_or, length, refl, sym, ap, subst, append_assoc, append-nil}
use Rattle.std.specs.Prelude.{Err, None, Ok, OnOk, Option, Result, Some, codes, option_to_list}
use Rattle.std.proofs.Math.Seq.{drop-length}
use Rattle.std.proofs.lemmas.List.{drop_more}
use Rattle.rv_packets.specs.Items.{State, after, items, step}
use Rattle.rv_packets.specs.declared.item.Item.{Item}
use Rattle.rv_packets.specs.declared.item.Item.TheVariants.{Packet, BadSum, Again}
use Rattle.rv_packets.proofs.Joining.{joined}
use Rattle.rv_recording.specs.declared.until.End.{End}
use Rattle.rv_requests.specs.Requests.{request_of}
use Rattle.rv_gdb.specs.Moves.{EndSays, after_part, goes_on}
use Rattle.rv_gdb.specs.Talk.{GoesOn, Handles, Part, PartOrStop, RanPart, Sends, ServerState, TalkState, Takes, Talks, after_run, if_acks, run_text}
use Rattle.rv_gdb.specs.Target.{TargetState}

-- ---- items

pub taken : (contents : List ℕ) (old mid new : TalkState) (start sent before acked done : List ℕ)
    → acked ≡ before ++ if_acks old (codes "+") → start ≡ [] → Handles (request_of contents) old mid start sent
    → Sends mid new sent acked done → Takes (Packet contents) old new before done
unfolding Takes
taken contents old mid new start sent before acked done acks empty handles sends =
    (mid, sent, rw empty at handles, rw acks at sends)

pub one : (item : Option Item) (i : Item) (old new : TalkState) (before done : List ℕ) → item ≡ Some i
    → Takes i old new before done → Talks (option_to_list item) old new before done
unfolding Talks
one item i old new before done is takes = rw is (new, done, takes, (refl, refl))

pub none : (item : Option Item) (t : TalkState) (out : List ℕ) → item ≡ None → Talks (option_to_list item) t t out out
unfolding Talks
none item t out is = rw is (refl, refl)

pub joins : (xs ys : List Item) (old mid new : TalkState) (before between done : List ℕ)
    → Talks xs old mid before between → Talks ys mid new between done → Talks (xs ++ ys) old new before done
unfolding Talks
joins [] ys old mid new before between done h k = rw (h.0, h.1) at k
joins (x ∷ xs) ys old mid new before between done h k = (h.0, h.1, h.2, joins xs ys h.0 mid new h.1 between done h.3 k)

pub pieces : (s : State) (xs ys : List ℕ) (old mid new : TalkState) (before between done : List ℕ)
    → Talks (items s xs) old mid before between → Talks (items (after s xs) ys) mid new between done
    → Talks (items s (xs ++ ys)) old new before done
pieces s xs ys old mid new before between done h k =
    rw (joined s xs ys) (joins (items s xs) (items (after s xs) ys) old mid new before between done h k)

-- an item only appends
item_grows : (i : Item) (old new : TalkState) (before done : List ℕ) → Takes i old new before done
    → ((more : List ℕ) × (done ≡ before ++ more))
unfolding Takes
item_grows (Packet contents) old new before done h =
    (if_acks old (0x2b ∷ []) ++ h.1, h.3.text ∙ append_assoc before (if_acks old (0x2b ∷ [])) h.1)
item_grows BadSum old new before done h = (if_acks old (0x2d ∷ []), h.1)
item_grows Again old new before done h = (if_acks old old.last, h.1)
item_grows _ old new before done h = ([], h.1 ∙ sym (append-nil before))

pub grows : (is : List Item) (old new : TalkState) (before done : List ℕ) → Talks is old new before done
    → ((more : List ℕ) × (done ≡ before ++ more))
unfolding Talks
grows [] old new before done h = ([], h.1 ∙ sym (append-nil before))
grows (i ∷ is) old new before done h =
    let one = item_grows i old h.0 before h.1 h.2 in
    let rest = grows is h.0 new h.1 done h.3 in
    (one.0 ++ rest.0, rest.1 ∙ ap (λ (b : List ℕ). b ++ rest.0) one.1 ∙ append_assoc before one.0 rest.0)

-- ---- the loop over bytes

-- what is left of some bytes, after the first n of them, leads on to what all of them lead to
unfoldable pub Fed : (first now : ServerState) → (bytes : List ℕ) → ℕ → (before so_far : List ℕ) → Type 0
Fed first now bytes n before so_far = (after now.stream (drop n bytes) ≡ after first.stream bytes)
    × ((new : TalkState) (done : List ℕ) → Talks (items now.stream (drop n bytes)) now.talk new so_far done
    → Talks (items first.stream bytes) first.talk new before done)

pub fed_begins : (s : ServerState) (bytes out : List ℕ) → Fed s s bytes 0 out out
unfolding Fed
fed_begins s bytes out = (refl, λ new done h. h)

pub fed_more : (first old new : ServerState) (bytes : List ℕ) (n b : ℕ) (before so_far more : List ℕ)
    → Fed first old bytes n before so_far → n < length bytes → b ≡ get_or bytes n 0
    → new.stream ≡ (step old.stream.phase old.stream b).state
    → Talks (option_to_list (step old.stream.phase old.stream b).item) old.talk new.talk so_far more
    → Fed first new bytes (n + 1) before more
unfolding Fed
fed_more first old new bytes n b before so_far more h below at state talks =
    let left = drop (n + 1) bytes in
    let is : drop n bytes ≡ b ∷ left = drop_more bytes n 0 below ∙ ap (λ (x : ℕ). x ∷ left) (sym at) in
    let here = (step old.stream.phase old.stream b).item in (
      ap (λ (s : State). after s left) state ∙ sym (ap (λ (l : List ℕ). after old.stream l) is) ∙ h.0,
      λ last done rest.
          h.1 last done (subst (λ (l : List ℕ). Talks (items old.stream l) old.talk last so_far done) (sym is)
          (joins (option_to_list here) _ old.talk new.talk last so_far more done talks
          (subst (λ (s : State). Talks (items s left) new.talk last more done) state rest))),
    )

pub fed_ends : (first now : ServerState) (bytes : List ℕ) (n : ℕ) (before out : List ℕ)
    → Fed first now bytes n before out → n ≡ length bytes
    → (now.stream ≡ after first.stream bytes) × Talks (items first.stream bytes) first.talk now.talk before out
unfolding Fed Talks
fed_ends first now bytes n before out h all =
    let is : drop n bytes ≡ [] = ap (λ (k : ℕ). drop k bytes) all ∙ drop-length bytes in (
      sym (ap (λ (l : List ℕ). after now.stream l) is) ∙ h.0,
      h.1 now.talk out (subst (λ (l : List ℕ). Talks (items now.stream l) now.talk now.talk out out) (sym is) (refl, refl)),
    )

pub fed_state : (first now : ServerState) (bytes : List ℕ) (n : ℕ) (before out : List ℕ)
    → Fed first now bytes n before out → n ≡ length bytes → now.stream ≡ after first.stream bytes
fed_state first now bytes n before out h all = (fed_ends first now bytes n before out h all).0

-- ---- parts of a run

pub ran : (most : ℕ) (old mid new : TalkState) (end : End) (goes : Bool) (target : TargetState) (before told done : List ℕ)
    → RanPart most end old.target target → EndSays end target before told → goes ≡ goes_on end
    → mid ≡ record old { target = after_part end target } → new ≡ after_run goes mid → done ≡ told ++ run_text goes mid
    → Part most old new before done
unfolding Part
ran most old mid new end goes target before told done part says is next state text =
    (end, target, told, part, says, rw (is, next) at state, rw (is, next) at text)

-- that, where the last call may run out of memory
pub ran_on : {E : Type 0} (r : Result Unit E) (most : ℕ) (old mid new : TalkState) (end : End) (goes : Bool)
    (target : TargetState) (before told done : List ℕ)
    → RanPart most end old.target target → EndSays end target before told → goes ≡ goes_on end
    → mid ≡ record old { target = after_part end target } → OnOk r (new ≡ after_run goes mid)
    → OnOk r (done ≡ told ++ run_text goes mid) → OnOk r (Part most old new before done)
ran_on (Ok u) most old mid new end goes target before told done part says is next state text =
    ran most old mid new end goes target before told done part says is next state text
ran_on (Err e) most old mid new end goes target before told done part says is next state text = state

pub gone_on : (most : ℕ) (old mid new : TalkState) (start sent before done : List ℕ) → start ≡ []
    → PartOrStop old.is_interrupted most old mid start sent → Sends mid new sent before done
    → GoesOn most old new before done
unfolding GoesOn
gone_on most old mid new start sent before done empty part sends = (mid, sent, rw empty at part, sends)
