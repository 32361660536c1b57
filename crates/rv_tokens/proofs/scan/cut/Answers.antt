use Rattle.std.proofs.Common.{rules}
use Rattle.rv_tokens.proofs.Cutting.{token_more, cut_end, last_tokens}
use Rattle.rv_tokens.proofs.scan.cut.Goals as goal

pub loop-rest-preserved : goal.loop-rest-preserved
loop-rest-preserved c = token_more _ _ _ _ _ c.in-Some.token c.in-Some.n c.if-is_blank.ensures c.if-is_comment.ensures
    c.in-Some.ensures c.in_ok-push-in-Some.ensures.items c.split_at-in-Some.ensures.back c.loop-rest.invariant

pub returns-clause-value : goal.returns-clause-value
returns-clause-value c = search (rules, cut_end, last_tokens)
