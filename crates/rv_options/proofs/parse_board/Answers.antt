use Rattle.std.proofs.Common.{◌∙◌, ap}
use Rattle.std.proofs.lemmas.Result.{IfErr-weaker, IfOk-weaker}
use Rattle.clap.specs.Words.{takes}
use Rattle.clap.proofs.WalkLemmas.{IfOk-both}
use Rattle.clap.specs.Walk.{texts}
use Rattle.rv_options.proofs.BoardParse.{board_parse}
use Rattle.rv_options.proofs.parse_board.Goals as goal

pub returns-clause-parsed : goal.returns-clause-parsed
returns-clause-parsed c =
    let r = c.parse in
    IfOk-weaker r.result _ _ (λ m h. board_parse _ m (texts c.args.words.now) c.board_usage.ensures h.0 h.1)
    (IfOk-both r.result _ _ r.ensures.parsed r.ensures.matches)

pub returns-clause-takes : goal.returns-clause-takes
returns-clause-takes c =
    let r = c.parse in
    IfErr-weaker r.result _ _ (λ e h t. h (ap (λ a. takes a (texts c.args.words.now)) c.board_usage.ensures ∙ t))
    r.ensures.takes

pub returns-clause-faults : goal.returns-clause-faults
returns-clause-faults c = rw (← c.board_usage.ensures) c.parse.ensures.faults
