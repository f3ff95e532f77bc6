use Rattle.std.proofs.Common.{nat_le, nat_lt, rules, sym, subst}
use Rattle.std.specs.List.Sorted.{IsNonDecreasingBy}
use Rattle.std.proofs.lemmas.List.{take_rest}
use Rattle.std.proofs.lemmas.List.Sorted.{IsPartitionPoint-from_clause, IsPartitionedBy-leb, IsPartitionedBy-ltb, IsNonDecreasingBy-drop}
use Rattle.node_kit.specs.declared.course.Order.{Order}
use Rattle.controller_core.proofs.InBeat.{in_beat}
use Rattle.controller_core.proofs.orders.orders_in.Goals as goal

pub returns : goal.returns
returns c =
    let from = c.partition_point-from.result in
    let in_time = subst (λ xs. IsNonDecreasingBy (λ (o : Order). o.beat) xs) (sym (take_rest c.args.orders.now from)) (IsNonDecreasingBy-drop (λ (o : Order). o.beat) from c.args.orders.now c.requires) in
    let before = IsPartitionPoint-from_clause (λ (o : Order). nat_lt o.beat c.args.beat) _ _ c.partition_point-from.ensures.partitioned (IsPartitionedBy-ltb (λ (o : Order). o.beat) _ c.args.beat c.requires) (λ a r q k. search rules) in
    let upto = IsPartitionPoint-from_clause (λ (o : Order). nat_le o.beat c.args.beat) _ _ c.partition_point-count.ensures.partitioned (IsPartitionedBy-leb (λ (o : Order). o.beat) _ c.args.beat in_time) (λ a r q k. search rules) in
    in_beat c.args.beat from c.partition_point-count.result c.args.orders.now _ (take_rest c.args.orders.now from) before upto
