use Rattle.std.proofs.Common.{◌∙◌, rules, sym}
use Rattle.rv_monitor.specs.Stops.{steps_between}
use Rattle.rv_runs.proofs.Passing.{traced_guards}
use Rattle.rv_lab.specs.State.{timed}
use Rattle.rv_lab.proofs.Runs.{trace_goal}
use Rattle.rv_lab.proofs.lab.Lab.take_steps.Goals as goal

pub returns-then-is_traced : goal.returns-then-is_traced
returns-then-is_traced c = let l = c.args.self.now in
    rw (← trace_goal _ (sym c.is_traced.ensures ∙ c.if-is_traced.true)) (record {
      ok = c.take_traced.ensures.ok;
      goal = search rules;
      steps = c.take_traced.ensures.steps;
      err = c.take_traced.ensures.err;
      others =
          rw (traced_guards l.marks l.guards l.recording.session (steps_between (timed l) (timed c.take_traced.new.self)))
          c.take_traced.ensures.others;
    })
