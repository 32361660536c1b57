use Rattle.std.proofs.Common.{rules}
use Rattle.rv_runs.proofs.Watching.{heeded, ran_as, unwatched}
use Rattle.rv_runs.proofs.run.run_all.Goals as goal

pub returns-then-is_empty-clause-ok : goal.returns-then-is_empty-clause-ok
returns-then-is_empty-clause-ok c = ran_as _ _ _ _ _ _ (unwatched _ _ _ _ _ (search rules)) c.run_past.ensures.ok

pub returns-clause-ok : goal.returns-clause-ok
returns-clause-ok c =
    ran_as _ _ _ _ _ _ (heeded (record { guards = c.args.guards.now.items; watches = c.args.watches.now; marks = c.args.marks.now })
    c.args.goal.now c.args.recording.now.session (search rules)) c.run_watching.ensures.ok
