use Rattle.std.proofs.Common.{rules, ◌≡◌, ◌<◌, ◌==◌, length, true, false, arith}
use Rattle.std.specs.Vec.{vec_len}
use Rattle.std.proofs.lemmas.Bool.Decides.{nat_tests}
use Rattle.rv_diagnosis.proofs.Merging.{none_next, other_next, this_next}
use Rattle.rv_diagnosis.proofs.faults.diagnose_line.Goals as goal

pub returns-in_default : goal.returns-in_default
returns-in_default c =
    let size : vec_len c.args.out.now ≡ length c.args.out.now.items = search rules in
    let last = rw (c.deref.ensures.value, c.len.ensures) at c.in_default.ensures.lookup in
    none_next c.args.line c.args.text.now c.args.review.now.faults.items c.args.out.now.items
    (grind (arith, nat_tests, size, last.0))

pub returns-then-fault-line : goal.returns-then-fault-line
returns-then-fault-line c =
    let size : vec_len c.args.out.now ≡ length c.args.out.now.items = search rules in
    let next = rw (c.deref.ensures.value, c.len.ensures, size) at c.in-Some.ensures.lookup in
    let other : (c.in-Some.fault.now.line == c.args.line) ≡ false = grind (arith, nat_tests, c.if-fault-line.true) in
    let some : length c.args.out.now.items < length c.args.review.now.faults.items = grind (arith, nat_tests, next.0) in
    other_next c.args.line c.args.text.now c.args.review.now.faults.items c.args.out.now.items
    c.in-Some.fault.now next.1 some other

pub returns-in-Ok : goal.returns-in-Ok
returns-in-Ok c =
    let size : vec_len c.args.out.now ≡ length c.args.out.now.items = search rules in
    let next = rw (c.deref.ensures.value, c.len.ensures, size) at c.in-Some.ensures.lookup in
    let this : (c.in-Some.fault.now.line == c.args.line) ≡ true = grind (arith, nat_tests, c.if-fault-line.false) in
    let some : length c.args.out.now.items < length c.args.review.now.faults.items = grind (arith, nat_tests, next.0) in
    this_next c.args.line c.args.text.now c.args.review.now.faults.items c.args.out.now.items
    c.in-Some.fault.now next.1 some this _ c.push.new.self.items (search rules) (search rules) (search rules)
    c.in-Ok.ensures.items
