use Rattle.std.proofs.Common.{sym, subst}
use Rattle.slot_plan.specs.Keys.{Key}
use Rattle.cub_messages.specs.Rules.{IsNear}
use Rattle.cub_messages.proofs.Standing.{first_has, record_small, record_near}
use Rattle.cub_messages.proofs.deschedules.position.Goals as goal

pub position_of-requires : goal.position_of-requires
position_of-requires c =
    record_small c.args.site.now.plan.params c.args.site.now.cub.0 c.in-Some-first_of.rec
    (first_has _ _ c.args.instance c.args.view.now.lines c.in-Some-first_of.rec c.requires.lines c.in-Some-first_of.ensures)

pub returns-in-Some-first_of-clause-near : goal.returns-in-Some-first_of-clause-near
returns-in-Some-first_of-clause-near c =
    subst (λ (k : Key). IsNear c.args.site.now.plan.params k) (sym c.position_of.ensures)
    (record_near c.args.site.now.plan.params c.args.site.now.cub.0 c.in-Some-first_of.rec
    (first_has _ _ c.args.instance c.args.view.now.lines c.in-Some-first_of.rec c.requires.lines c.in-Some-first_of.ensures))
