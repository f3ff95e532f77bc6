use Rattle.std.proofs.Common.{sym, subst, rules}
use Rattle.partial_view.specs.Views.{Seen}
use Rattle.cub_rules.specs.State.{IsStoreOf}
use Rattle.tests_of_cubs.proofs.Kept.{with_one_record}
use Rattle.tests_of_cubs.proofs.samples.add_record.Goals as goal

pub returns : goal.returns
returns c =
    subst (λ (v : Seen). IsStoreOf c.args.site.now.plan.params c.args.site.now.cub.0 (record c.args.store.now { view = v })) (sym c.in_ok-add.ensures.ok)
    (with_one_record c.args.site.now.plan.params c.args.site.now.cub.0 c.args.store.now c.args.rec c.requires (c.is_record.ensures (search rules)))
