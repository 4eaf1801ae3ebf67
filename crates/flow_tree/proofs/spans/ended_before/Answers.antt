use Rattle.std.proofs.Common.{ltb, rules, sym}
use Rattle.std.proofs.lemmas.List.Sorted.{IsPartitionedBy-ltb, IsPartitionPoint-from_clause}
use Rattle.flow_tree.proofs.Ordered.{count-IsPartitionPoint}
use Rattle.flow_tree.proofs.spans.ended_before.Goals as goal

pub returns : goal.returns
returns c =
    let parted = IsPartitionedBy-ltb (λ end. end) _ c.args.address c.requires in
    let point = IsPartitionPoint-from_clause (λ end. ltb end c.args.address) _ _ c.partition_point.ensures.partitioned parted (λ a r q k. search rules) in
    sym (count-IsPartitionPoint (λ end. ltb end c.args.address) _ _ c.partition_point.ensures.bound point)
