use Rattle.std.proofs.Common.{sym, ◌∙◌}
use Rattle.run_model.specs.Tests.{one_lives}
use Rattle.run_model.proofs.Below.{all_below_fails}
use Rattle.run_model.proofs.timing.die_apart.Goals as goal

pub returns-then-not-one_lives : goal.returns-then-not-one_lives
returns-then-not-one_lives c =
    sym (all_below_fails (one_lives c.args.course.now) c.args.course.now.plan.params.cubs c.loop-n.n c.loop-n-test.true
    (sym c.one_lives.ensures ∙ c.if-not-one_lives.true))
