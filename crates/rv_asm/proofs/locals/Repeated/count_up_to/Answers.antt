use Rattle.std.proofs.Common.{leb, rules}
use Rattle.std.specs.List.Sorted.{IsNonDecreasingBy}
use Rattle.std.proofs.lemmas.List.Sorted.{IsPartitionPoint-from_clause, IsPartitionedBy-leb}
use Rattle.rv_asm.specs.declared.locals.LocalLabel.{LocalLabel}
use Rattle.rv_asm.proofs.Cuts.{IsCut, last_cut, next_cut}
use Rattle.rv_asm.proofs.locals.Repeated.count_up_to.Goals as goal
use Rattle.rv_asm.proofs.locals.Repeated.count_up_to.Goals.{After-partition_point}

cut : (c : After-partition_point) → IsCut (λ (d : LocalLabel). d.line) c.args.line c.deref.result.now c.partition_point.result
cut c =
    let rises : IsNonDecreasingBy (λ (d : LocalLabel). d.line) c.deref.result.now = rw c.deref.ensures.value c.self.invariant in
    IsPartitionPoint-from_clause (λ (d : LocalLabel). leb d.line c.args.line) _ _
    c.partition_point.ensures.partitioned (IsPartitionedBy-leb (λ (d : LocalLabel). d.line) _ c.args.line rises)
    (λ a r q k. search rules)

pub returns-clause-last : goal.returns-clause-last
returns-clause-last c =
    rw (c.deref.ensures.value, c.self.view_is) at
    (last_cut (λ (d : LocalLabel). d.line) c.args.line _ _ c.partition_point.ensures.bound (cut c))

pub returns-clause-next : goal.returns-clause-next
returns-clause-next c =
    rw (c.deref.ensures.value, c.self.view_is) at
    (next_cut (λ (d : LocalLabel). d.line) c.args.line _ _ c.partition_point.ensures.bound (cut c))
