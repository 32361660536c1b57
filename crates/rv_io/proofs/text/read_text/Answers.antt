use Rattle.std.proofs.Common.{◌≡◌, ◌≤◌, ◌+◌, ◌++◌, ℕ, List, Option, arith, inl, inr, length, refl, rules, take, length-append, length-take}
use Rattle.std.specs.Io.KnownBytes.{Consumes}
use Rattle.std.proofs.KnownBytes.{Consumes-kept, Consumes-trans}
use Rattle.rv_io.proofs.Sound.{failed, sound, too_long}
use Rattle.rv_io.proofs.text.read_text.Goals as goal

-- all that a reader gave, after a read into the buffer
all_given : (old now new : Option (List ℕ)) (text buffer : List ℕ) (n : ℕ) → n ≤ length buffer →
    Consumes old now text → Consumes now new (take n buffer)
    → (all : List ℕ) × Consumes old new all × (length all ≡ length text + n)
all_given old now new text buffer n within gave more = (
  text ++ take n buffer,
  Consumes-trans _ _ _ text (take n buffer) gave more,
  omega (arith, within, length-append text (take n buffer), length-take n buffer),
)

pub returns-in_default-clause-err : goal.returns-in_default-clause-err
returns-in_default-clause-err g c = inl (
  search rules,
  (
    c.loop-count.text.items,
    Consumes-kept _ _ _ c.loop-count.text.items c.loop-count.invariant.gave c.in_default.ensures.bytes,
    failed _ _ c.in_default.ensures.err,
  ),
)

pub returns-in_default-clause-within : goal.returns-in_default-clause-within
returns-in_default-clause-within g c = (
  c.loop-count.text.items,
  Consumes-kept _ _ _ c.loop-count.text.items c.loop-count.invariant.gave c.in_default.ensures.bytes,
  omega (arith, c.loop-count.invariant.within),
)

pub returns-then-len-count-clause-err : goal.returns-then-len-count-clause-err
returns-then-len-count-clause-err g c =
    let all = all_given _ _ _ c.loop-count.text.items c.read.new.buffer c.in-Ok.count c.in-Ok.ensures.within
    c.loop-count.invariant.gave c.in-Ok.ensures.bytes.0 in
    inl (
      search rules,
      (all.0, all.1, too_long _ (length all.0) (omega (arith, all.2, c.if-len-count.true, c.len.ensures))),
    )

pub returns-then-len-count-clause-within : goal.returns-then-len-count-clause-within
returns-then-len-count-clause-within g c =
    let all = all_given _ _ _ c.loop-count.text.items c.read.new.buffer c.in-Ok.count c.in-Ok.ensures.within
    c.loop-count.invariant.gave c.in-Ok.ensures.bytes.0 in
    (all.0, all.1, omega (arith, all.2, c.in-Ok.ensures.within, c.loop-count.invariant))

pub returns-then-is_err-clause-err : goal.returns-then-is_err-clause-err
returns-then-is_err-clause-err g c =
    let all = all_given _ _ _ c.loop-count.text.items c.read.new.buffer c.in-Ok.count c.in-Ok.ensures.within
    c.loop-count.invariant.gave c.in-Ok.ensures.bytes.0 in
    let within : length all.0 ≤ 16777216 =
    omega (arith, all.2, c.if-len-count.false, c.len.ensures, c.loop-count.invariant) in
    inr (refl, (all.0, all.1, sound _ (length all.0) within (search rules)))

pub returns-then-is_err-clause-within : goal.returns-then-is_err-clause-within
returns-then-is_err-clause-within g c =
    let all = all_given _ _ _ c.loop-count.text.items c.read.new.buffer c.in-Ok.count c.in-Ok.ensures.within
    c.loop-count.invariant.gave c.in-Ok.ensures.bytes.0 in
    (all.0, all.1, omega (arith, all.2, c.in-Ok.ensures.within, c.loop-count.invariant))
