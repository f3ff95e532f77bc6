use Rattle.tests_of_cubs.proofs.Fed.{in_link}
use Rattle.tests_of_cubs.proofs.cubs.give.Goals as goal

pub take-requires-clause-in_link : goal.take-requires-clause-in_link
take-requires-clause-in_link c =
    let p = c.args.site.now.plan.params in
    let n = c.args.site.now.cub.0 in
    (p, n, c.requires.cub, in_link p c.new.result c.args.link.0 c.in-Some.field-0-0.0 c.in-Some.to.0 n c.new.ensures c.in-Some.ensures c.if-to-site.false)

pub returns : goal.returns
returns c = c.in_ok-take.ensures.stays c.args.site.now.plan.params c.args.site.now.cub.0 c.requires.cub
