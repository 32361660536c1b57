use Rattle.std.proofs.Common.{ℕ, List, leb, leb-true, arith, rules}
use Rattle.std.proofs.lemmas.List.Sorted.{IsPartitionPoint-from_clause, IsPartitionedBy-leb}
use Rattle.rv_asm.proofs.Cuts.{IsCut, last_cut}
use Rattle.rv_asm.proofs.listing.count_labels.Goals as goal
use Rattle.rv_asm.proofs.listing.count_labels.Goals.{After-partition_point}

cut : (c : After-partition_point) → IsCut (λ (l : List ℕ × ℕ). l.1) c.args.address c.args.labels.now c.partition_point.result
cut c =
    IsPartitionPoint-from_clause (λ (l : List ℕ × ℕ). leb l.1 c.args.address) _ _ c.partition_point.ensures.partitioned
    (IsPartitionedBy-leb (λ (l : List ℕ × ℕ). l.1) _ c.args.address c.requires) (λ a r q k. search rules)

pub returns-clause-before : goal.returns-clause-before
returns-clause-before c k d h = leb-true _ _ ((cut c).0 k d (omega arith) h)

pub returns-clause-last : goal.returns-clause-last
returns-clause-last c = last_cut (λ (l : List ℕ × ℕ). l.1) c.args.address _ _ c.partition_point.ensures.bound (cut c)
