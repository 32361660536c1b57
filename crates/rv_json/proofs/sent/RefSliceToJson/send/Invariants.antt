use Rattle.std.proofs.Common.{take}
use Rattle.serde.specs.Event.{WritesEach}
use Rattle.rv_json.specs.Support.Sends.{Sends}
use Rattle.rv_json.specs.Support.Labels.{labels}
use Rattle.rv_json.proofs.sent.RefSliceToJson.send.Given as goal

abbrev pub invariant-loop-item : goal.invariant-loop-item
invariant-loop-item g l = WritesEach (λ x. Sends (g.T.ToJson.json (labels l.names) x)) (take l.item-index l.item-items)
    (g.S.Serializer.written l.initial.out) (g.S.Serializer.written l.out)
