use Rattle.std.proofs.Common.{leb, rules}
use Rattle.std.proofs.lemmas.List.Sorted.{IsPartitionPoint-from_clause, IsPartitionedBy-leb}
use Rattle.rv_asm.proofs.Cuts.{IsCut, one_line}
use Rattle.rv_asm.proofs.listing.count_up_to.Goals as goal
use Rattle.rv_asm.proofs.listing.count_up_to.Goals.{After-partition_point}

cut : (c : After-partition_point) → IsCut (λ n. n) c.args.most c.args.numbers.now c.partition_point.result
cut c =
    IsPartitionPoint-from_clause (λ n. leb n c.args.most) _ _ c.partition_point.ensures.partitioned
    (IsPartitionedBy-leb (λ n. n) _ c.args.most c.requires) (λ a r q k. search rules)

pub returns-clause-point : goal.returns-clause-point
returns-clause-point c = cut c

pub returns-clause-only : goal.returns-clause-only
returns-clause-only c m some from to = one_line c.args.numbers.now c.args.most _ m (cut c) some from to
