use Rattle.std.proofs.Common.{rules, refl}
use Rattle.std.proofs.lemmas.Result.{on_ok_weaker}
use Rattle.serde.proofs.Events.{WritesEach-more, WritesSeq-ends}
use Rattle.rv_json.specs.Support.Sends.{Sends}
use Rattle.rv_json.proofs.Lists.{list_sent}
use Rattle.rv_json.specs.Support.Labels.{labels}
use Rattle.rv_json.proofs.sent.RefSliceToJson.send.Goals as goal

pub loop-item-preserved : goal.loop-item-preserved
loop-item-preserved g c = WritesEach-more (λ x. Sends (g.T.ToJson.json (labels c.args.names.now) x)) _ _ _ _ _ _
    (search rules) c.item-item.is c.loop-item.invariant c.in_ok-send.ensures

pub returns : goal.returns
returns g c =
    let json = g.T.ToJson.json (labels c.args.names.now) in
    on_ok_weaker c.end_seq.result (λ ended. list_sent json _ _ _ (WritesSeq-ends (λ x. Sends (json x)) _ _ _ _ _ _ _ _
    refl (search rules) (search rules) c.in_ok-begin_seq.ensures c.loop-item.invariant ended)) c.end_seq.ensures
