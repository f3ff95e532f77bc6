use Rattle.std.proofs.Common.{List, not, rules, subst, sym}
use Rattle.std.specs.List.{AllByRecursion}
use Rattle.cub_rules.specs.State.{IsPartHere}
use Rattle.cub_rules.specs.Ticks.{is_stale}
use Rattle.cub_rules.specs.declared.store.StoredPart.{StoredPart}
use Rattle.mirror_schedule.proofs.Orders.{all_filter}
use Rattle.tests_of_cubs.proofs.stores.kept_of_two.Goals as goal

-- what is left of parts that are here is here
pub forget_stale-requires-2 : goal.forget_stale-requires-2
forget_stale-requires-2 c =
    subst (λ (xs : List StoredPart). AllByRecursion (IsPartHere c.plan-plan.result.params) xs) (sym c.forget_stale.ensures)
    (all_filter (IsPartHere c.plan-plan.result.params) (λ x. not (is_stale c.plan-plan.result.params c.args.first x)) c.push-2.new.self (search rules))
