use Rattle.rv_base.specs.Lines.{lines}
use Rattle.rv_cli.proofs.Obeyed.{Continues}
use Rattle.rv_cli.proofs.session.obey.Given as goal

abbrev pub invariant-loop-line : goal.invariant-loop-line
invariant-loop-line g l = record {
  can_next : (goal.iterator-loop-line g).can_next l.line-iterator;
  is_finite : (goal.iterator-loop-line g).is_finite l.line-iterator;
  so_far : Continues (lines l.commands) l.fn.session l.line-iterator l.session l.text.items;
}
