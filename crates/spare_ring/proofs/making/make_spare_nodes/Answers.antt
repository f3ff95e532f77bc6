use Rattle.std.proofs.Common.{◌≤◌, ◌*◌, List, ◌∙◌, ap, arith}
use Rattle.std.proofs.Math.Nat.{mul-le-mul}
use Rattle.std.proofs.lemmas.Result.{IfOk-weaker}
use Rattle.ring_nodes.specs.declared.nodes.AnyNode.{AnyNode}
use Rattle.ring_nodes.specs.AllNodes.{each_numbered}
use Rattle.spare_ring.specs.Nodes.{beside_deaths}
use Rattle.spare_ring.proofs.Openings.{all_stand}
use Rattle.spare_ring.proofs.making.make_spare_nodes.Goals as goal

pub all_beside_deaths-requires-clause-few : goal.all_beside_deaths-requires-clause-few
all_beside_deaths-requires-clause-few g c =
    let p = c.args.course.now.plan.params in
    let ranges = c.args.course.now.plan.sound.ranges in
    let product : p.cubs * p.disks ≤ 64 * 8 = mul-le-mul ranges.cubs.1 ranges.disks.1 in
    let cubs = ranges.cubs in
    omega (arith, c.in_ok-nodes.ensures.count, product, cubs)

pub returns-clause-nodes : goal.returns-clause-nodes
returns-clause-nodes g c =
    let course = c.args.course.now in
    IfOk-weaker c.all_beside_deaths.result _ _
    (λ made is. is ∙ ap (λ (xs : List (AnyNode g.row.G.Denot)). each_numbered (beside_deaths course.plan.params course.faults course.beats) 0 xs) c.in_ok-nodes.ensures.nodes)
    c.all_beside_deaths.ensures.nodes

pub returns-clause-count : goal.returns-clause-count
returns-clause-count g c =
    IfOk-weaker c.all_beside_deaths.result _ _ (λ made is. is ∙ c.in_ok-nodes.ensures.count) c.all_beside_deaths.ensures.count

pub returns-clause-stand : goal.returns-clause-stand
returns-clause-stand g c =
    let course = c.args.course.now in
    IfOk-weaker c.all_beside_deaths.result _ _
    (λ made is. all_stand course.plan.params course.faults course.beats _ _ c.in_ok-nodes.ensures.stand is)
    c.all_beside_deaths.ensures.nodes
