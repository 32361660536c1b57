use Rattle.std.proofs.Common.{rules, ◌∙◌, ap, sym, arith}
use Rattle.rv_board.specs.Move.{run}
use Rattle.rv_monitor.specs.Events.{events_of}
use Rattle.rv_recording.specs.Recording.{RecordingState, first_board}
use Rattle.rv_recording.proofs.Stands.{back_any, went_back}
use Rattle.rv_recording.proofs.recording.Recording.go_back.Goals.{in-Ok-resume, in-Err-resume}
use Rattle.rv_recording.proofs.recording.Recording.go_back.Goals as goal

pub invariant_of-self : goal.invariant_of-self
invariant_of-self c =
    let before = c.in-Ok.ensures.run
    ∙ ap (λ (r : RecordingState). run (first_board r) (events_of r.session.timed.inputs 0 c.in-Ok.start.1))
    (sym c.self.view_is) in
    back_any c.self.inside.session c.resume.new.self c.self.inside.pages c.self.inside.slots c.self.inside.kept
    c.self.invariant c.in-Ok.start.0 c.in-Ok.start.1 c.min-count.result before c.in-Ok.ensures.within
    (omega (arith, c.min-count.ensures, c.taken.ensures.value))
    (omega (arith, c.taken.ensures.value, c.taken.ensures.most)) c.resume.result c.resume.ensures.took
    c.resume.ensures.err

pub returns-clause-ok : goal.returns-clause-ok
returns-clause-ok c = search (rules, arith, in-Ok-resume, went_back, in-Err-resume)
