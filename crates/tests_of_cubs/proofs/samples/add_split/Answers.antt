use Rattle.std.proofs.Common.{List, sym, subst, rules}
use Rattle.mirror_schedule.specs.Splits.{Split}
use Rattle.cub_rules.specs.State.{IsStoreOf}
use Rattle.tests_of_cubs.proofs.Kept.{with_one_split}
use Rattle.tests_of_cubs.proofs.samples.add_split.Goals as goal

pub returns : goal.returns
returns c =
    subst (λ (xs : List Split). IsStoreOf c.args.site.now.plan.params c.args.site.now.cub.0 (record c.args.store.now { splits = xs })) (sym c.in_ok-remember.ensures.ok)
    (with_one_split c.args.site.now.plan.params c.args.site.now.cub.0 c.args.store.now _ c.requires (search rules))
