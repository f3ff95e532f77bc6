use Rattle.std.proofs.Common.{nat_lt, rules, List, subst}
use Rattle.std.specs.List.Sorted.{IsNonDecreasingBy}
use Rattle.std.proofs.lemmas.List.Sorted.{IsPartitionPoint-from_clause, IsPartitionedBy-ltb}
use Rattle.audit_views.specs.Views.{RunsOutUpTo}
use Rattle.audit_views.specs.declared.views.Stopped.{Stopped}
use Rattle.audit_views.proofs.Judging.{runs_out_up_to}
use Rattle.audit_views.proofs.views.run_out_in.Goals as goal

pub returns-clause-split : goal.returns-clause-split
returns-clause-split c =
    let first = c.first_in_time-first.result in
    subst (λ (ss : List Stopped). IsNonDecreasingBy (λ (s : Stopped). s.beat) ss → RunsOutUpTo c.args.plan.now.params c.args.beat ss c.partition_point.result)
    c.deref.ensures.value
    (λ rising. runs_out_up_to c.args.plan.now.params c.args.beat first c.deref.result.now c.partition_point.result c.first_in_time-first.ensures
    (IsPartitionPoint-from_clause (λ (s : Stopped). nat_lt s.beat first) c.deref.result.now c.partition_point.result
    c.partition_point.ensures.partitioned
    (IsPartitionedBy-ltb (λ (s : Stopped). s.beat) c.deref.result.now first rising) (λ a r q k. search rules)))
