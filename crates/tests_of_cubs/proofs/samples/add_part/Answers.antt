use Rattle.std.proofs.Common.{List, sym, subst, rules}
use Rattle.cub_rules.specs.declared.store.StoredPart.{StoredPart}
use Rattle.cub_rules.specs.State.{IsStoreOf}
use Rattle.tests_of_cubs.proofs.Kept.{with_one_part}
use Rattle.tests_of_cubs.proofs.samples.add_part.Goals as goal

pub returns : goal.returns
returns c =
    subst (λ (xs : List StoredPart). IsStoreOf c.args.site.now.plan.params c.args.site.now.cub.0 (record c.args.store.now { parts = xs })) (sym c.in_ok-push.ensures.ok)
    (with_one_part c.args.site.now.plan.params c.args.site.now.cub.0 c.args.store.now _ c.requires (search rules))
