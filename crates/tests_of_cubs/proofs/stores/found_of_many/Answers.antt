use Rattle.std.proofs.Common.{List, not, sym, subst}
use Rattle.std.specs.List.{AllByRecursion}
use Rattle.partial_view.proofs.Order.{all_filter}
use Rattle.cub_rules.specs.declared.store.StoredPart.{StoredPart}
use Rattle.cub_rules.specs.State.{IsPartHere}
use Rattle.cub_rules.specs.Ticks.{is_stale}
use Rattle.tests_of_cubs.proofs.stores.found_of_many.Goals as goal

pub push_many-requires-2-clause-here : goal.push_many-requires-2-clause-here
push_many-requires-2-clause-here c =
    subst (λ (xs : List StoredPart). AllByRecursion (IsPartHere c.plan-plan.result.params) xs) (sym c.forget_stale.ensures)
    (all_filter (IsPartHere c.plan-plan.result.params) (λ x. not (is_stale c.plan-plan.result.params c.args.reading x)) _ c.in_ok-push_many.ensures)
