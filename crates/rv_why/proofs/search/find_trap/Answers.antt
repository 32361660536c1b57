use Rattle.std.proofs.Common.{◌∙◌, sym, arith}
use Rattle.rv_why.proofs.Standing.{may_go}
use Rattle.rv_why.proofs.Told.{begins, found_last, went_on}
use Rattle.rv_why.proofs.search.find_trap.Goals as goal

pub loop-done-init : goal.loop-done-init
loop-done-init c = begins c.requires.in_time

pub take_step-requires : goal.take_step-requires
take_step-requires c =
    may_go _ c.requires.in_time c.loop-done.invariant.state (omega arith) c.requires.room c.requires.running

pub returns-then-is_unhandled : goal.returns-then-is_unhandled
returns-then-is_unhandled c = found_last c.requires.in_time c.loop-done.invariant c.in_ok-trap.ensures.state
    c.in_ok-trap.ensures.trap c.keep.ensures (omega arith) (sym c.is_unhandled.ensures ∙ c.if-is_unhandled.true)

pub loop-done-preserved : goal.loop-done-preserved
loop-done-preserved c = went_on c.requires.in_time c.loop-done.invariant c.in_ok-trap.ensures.state
    c.in_ok-trap.ensures.trap c.keep.ensures (sym c.is_unhandled.ensures ∙ c.if-is_unhandled.false)
