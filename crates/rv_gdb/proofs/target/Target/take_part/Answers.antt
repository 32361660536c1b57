use Rattle.std.proofs.Common.{rules, subst}
use Rattle.std.specs.Prelude.{IfOk}
use Rattle.rv_recording.specs.Until.{HasRun}
use Rattle.rv_moves.specs.declared.forward.Aim.TheVariants.{Stop}
use Rattle.rv_gdb.specs.Moves.{ends_of}
use Rattle.rv_gdb.specs.Target.{TargetState}
use Rattle.rv_gdb.proofs.Parts.{stop_run}
use Rattle.rv_gdb.proofs.target.Target.take_part.Goals as goal

pub returns-in-Stop-clause-run : goal.returns-in-Stop-clause-run
returns-in-Stop-clause-run c = stop_run c.args.self.now.watches c.args.self.now.aim c.args.self.now.calls c.args.most
    c.args.self.now.lab.recording.session c.run_to_stop.new.recording.session c.run_to_stop.result
    (first_of (search rules, cc))
    (subst (λ (t : TargetState). IfOk c.run_to_stop.result (HasRun (ends_of (record t { aim = Stop; calls = 0 })) c.args.most
    t.lab.recording.session c.run_to_stop.new.recording.session)) c.self.view_is (first_of (search rules, cc)))
