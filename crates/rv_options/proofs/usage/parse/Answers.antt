use Rattle.std.proofs.Common.{rules, ◌∙◌, ap}
use Rattle.std.proofs.lemmas.Result.{IfErr-weaker, IfOk-weaker}
use Rattle.clap.specs.Words.{takes}
use Rattle.clap.specs.Walk.{texts}
use Rattle.rv_options.proofs.Meaning.{usage_meaning, usage_simple}
use Rattle.rv_options.proofs.usage.parse.Goals as goal

pub returns-clause-matches : goal.returns-clause-matches
returns-clause-matches c = search (rules, IfOk-weaker, usage_simple)

pub returns-clause-takes : goal.returns-clause-takes
returns-clause-takes c =
    let r = c.try_get_matches_from in
    IfErr-weaker r.result _ _ (λ e h t. h (ap (λ a. takes a (texts c.args.words.now)) c.in_ok-command.ensures ∙ t))
    r.ensures.passes

pub returns-clause-faults : goal.returns-clause-faults
returns-clause-faults c = search (rules, usage_meaning)
