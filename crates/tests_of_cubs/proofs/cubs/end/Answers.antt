use Rattle.tests_of_cubs.proofs.cubs.end.Goals as goal

pub returns : goal.returns
returns c = c.in_ok-tick.ensures.stays c.args.site.now.plan.params c.args.site.now.cub.0 c.requires.cub
