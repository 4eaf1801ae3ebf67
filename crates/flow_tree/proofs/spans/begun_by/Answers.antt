use Rattle.std.proofs.Common.{leb, rules, sym}
use Rattle.std.proofs.lemmas.List.Sorted.{IsPartitionedBy-leb, IsPartitionPoint-from_clause}
use Rattle.flow_tree.proofs.Ordered.{count-IsPartitionPoint}
use Rattle.flow_tree.proofs.spans.begun_by.Goals as goal

pub returns : goal.returns
returns c =
    let parted = IsPartitionedBy-leb (λ head. head) _ c.args.address c.requires in
    let point = IsPartitionPoint-from_clause (λ head. leb head c.args.address) _ _ c.partition_point.ensures.partitioned parted (λ a r q k. search rules) in
    sym (count-IsPartitionPoint (λ head. leb head c.args.address) _ _ c.partition_point.ensures.bound point)
