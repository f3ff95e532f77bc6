use Rattle.std.proofs.Common.{nat_lt, rules}
use Rattle.std.proofs.lemmas.List.Sorted.{IsPartitionPoint-from_clause, IsPartitionedBy-ltb}
use Rattle.cub_rules.specs.declared.parts.KeptPart.{KeptPart}
use Rattle.cub_rules.proofs.Finding.{passed_by_top}
use Rattle.cub_rules.proofs.parts.find_in_order.Goals as goal

-- the walk begins behind those whose tops are earlier
pub loop-i-init : goal.loop-i-init
loop-i-init c =
    let point =
    IsPartitionPoint-from_clause (λ (k : KeptPart). nat_lt k.top c.args.leaving) c.args.items.now c.partition_point-first.result c.partition_point-first.ensures.partitioned (IsPartitionedBy-ltb (λ (k : KeptPart). k.top) c.args.items.now c.args.leaving c.requires.order) (λ a r q k. search rules) in
    passed_by_top c.args.want c.args.leaving c.partition_point-first.result c.args.items.now c.requires.above point.0 c.partition_point-first.ensures.bound
