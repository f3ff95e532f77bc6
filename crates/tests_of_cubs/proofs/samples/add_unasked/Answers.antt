use Rattle.std.proofs.Common.{sym, subst, rules}
use Rattle.mirror_schedule.specs.Pieces.{Pieces}
use Rattle.cub_rules.specs.State.{IsStoreOf}
use Rattle.tests_of_cubs.proofs.Kept.{with_one_unasked}
use Rattle.tests_of_cubs.proofs.samples.add_unasked.Goals as goal

pub returns : goal.returns
returns c =
    subst (λ (ps : Pieces). IsStoreOf c.args.site.now.plan.params c.args.site.now.cub.0 (record c.args.store.now { unasked = ps })) (sym c.in_ok-add.ensures.ok)
    (with_one_unasked c.args.site.now.plan.params c.args.site.now.cub.0 c.args.store.now _ c.requires (c.is_piece_record.ensures (search rules)))
