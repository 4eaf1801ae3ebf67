use Rattle.std.proofs.Common.{leb, leb-true, rules}
use Rattle.std.proofs.lemmas.Bool.{leb-false}
use Rattle.std.proofs.lemmas.List.Sorted.{IsPartitionedBy-leb, IsPartitionPoint-from_clause}
use Rattle.rv_code.specs.declared.extent.Extent.{Extent}
use Rattle.schema_form.proofs.Begun.{starts_rise}
use Rattle.schema_form.proofs.stretches.begun_by.Goals as goal

pub returns-clause-begun : goal.returns-clause-begun
returns-clause-begun c =
    let address = c.args.address in
    let parted = IsPartitionedBy-leb (λ (s : Extent). s.start) _ address (starts_rise _ c.requires.extents.rise) in
    let point = IsPartitionPoint-from_clause (λ (s : Extent). leb s.start address) _ _ c.partition_point.ensures.partitioned parted (λ a r q k. search rules) in
    (λ k d above below. leb-true _ _ (point.0 k d above below), λ k d above below. leb-false _ _ (point.1 k d above below))
