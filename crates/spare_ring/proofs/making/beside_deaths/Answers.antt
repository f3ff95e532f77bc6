use Rattle.std.proofs.Common.{subst}
use Rattle.ring_nodes.specs.declared.nodes.AnyNode.{AnyNode}
use Rattle.ring_nodes.specs.AllNodes.{StandsAny}
use Rattle.spare_ring.proofs.Openings.{cub_inside}
use Rattle.spare_ring.proofs.making.beside_deaths.Goals as goal

pub deaths_of-requires : goal.deaths_of-requires
deaths_of-requires g c =
    cub_inside c.in-Cub.cub c.args.course.now.plan.params c.args.number
    (subst (λ (s : AnyNode g.row.G.Denot). StandsAny s c.args.course.now.plan.params c.args.number) c.in-Cub.is c.requires)

pub new-requires-clause-inside : goal.new-requires-clause-inside
new-requires-clause-inside g c =
    cub_inside c.in-Cub.cub c.args.course.now.plan.params c.args.number
    (subst (λ (s : AnyNode g.row.G.Denot). StandsAny s c.args.course.now.plan.params c.args.number) c.in-Cub.is c.requires)
