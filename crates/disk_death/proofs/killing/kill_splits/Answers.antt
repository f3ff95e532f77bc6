use Rattle.std.proofs.Common.{◌∙◌, sym}
use Rattle.disk_death.proofs.Turns.{none_killed}
use Rattle.disk_death.proofs.killing.kill_splits.Goals as goal

pub returns-then-not-has_of : goal.returns-then-not-has_of
returns-then-not-has_of c =
    none_killed c.args.site.now.plan.params c.args.site.now.cub.0 c.args.instance c.args.remembered.now c.args.out.now (sym c.has_of.ensures ∙ c.if-not-has_of.true)
