use Rattle.std.proofs.Common.{rules}
use Rattle.std.proofs.lemmas.List.Sorted.{IsPartitionPoint-from_clause, IsPartitionedBy-leb}
use Rattle.ds_chain.specs.Postings.{is_upto, rank}
use Rattle.ds_chain.proofs.Listings.{ranks_rise}
use Rattle.ds_chain.proofs.place_index.count_upto.Goals as goal

pub returns-clause-split : goal.returns-clause-split
returns-clause-split c =
    IsPartitionPoint-from_clause (is_upto c.args.category.now) _ _ c.partition_point.ensures.partitioned
    (IsPartitionedBy-leb (rank c.args.category.now) _ 1 (ranks_rise c.args.postings.now c.requires c.args.category.now)) (λ a r q k. search rules)
