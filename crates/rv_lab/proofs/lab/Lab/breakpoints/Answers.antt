use Rattle.std.proofs.Common.{rules, ◌≡◌, ◌∙◌, ◌+◌, subst, arith}
use Rattle.rv_lab.proofs.Values.{all_breaks, breaks_below, last_break, next_break}
use Rattle.rv_lab.proofs.lab.Lab.breakpoints.Goals as goal

pub returns-in_default : goal.returns-in_default
returns-in_default c = c.of.ensures ∙ all_breaks c.args.self.now _
    (last_break c.args.self.now c.loop-address.from 4294967296 c.next_break.result c.loop-address.places.items
    c.in_default.is (omega (arith, c.loop-address.invariant.below)) (first_of (search rules, cc))
    c.loop-address.invariant.found)

pub returns-then-address : goal.returns-then-address
returns-then-address c =
    let last : c.in-Some.address + 1 ≡ 4294967296 = omega (arith, c.if-address.true) in
    c.of-then-address.ensures ∙ all_breaks c.args.self.now _
    (subst (λ n. c.push.new.list.items ≡ breaks_below c.args.self.now n) last
    (next_break c.args.self.now c.loop-address.from c.in-Some.address c.next_break.result c.loop-address.places.items
    c.push.new.list.items c.in-Some.is (first_of (search rules, cc)) c.loop-address.invariant.found (search rules)))

pub loop-address-preserved : goal.loop-address-preserved
loop-address-preserved c = record {
  below = omega (arith, c.in-Some.ensures.below, c.if-address.false);
  found = next_break c.args.self.now c.loop-address.from c.in-Some.address c.next_break.result c.loop-address.places.items
      c.push.new.list.items c.in-Some.is (first_of (search rules, cc)) c.loop-address.invariant.found (search rules);
}
