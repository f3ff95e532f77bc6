use Rattle.std.proofs.Common.{◌≡◌, ◌∷◌, [], arith, ◌∙◌, length, length-append}
use Rattle.spare_ring.specs.Nodes.{beside_deaths}
use Rattle.spare_ring.proofs.Openings.{next_at, goes_on, made_on}
use Rattle.spare_ring.proofs.making.all_beside_deaths.Goals as goal

pub beside_deaths-requires : goal.beside_deaths-requires
beside_deaths-requires g c =
    let inv = c.loop-node.invariant in
    let number : c.len.result ≡ length c.loop-node.made.items = omega arith in
    c.requires.stand _ _ (next_at c.args.nodes.items c.loop-node.yielded c.in-Some.node _ _ c.len.result inv.3 c.in-Some.ensures.steps.0 (number ∙ inv.2))

pub loop-node-preserved : goal.loop-node-preserved
loop-node-preserved g c =
    let inv = c.loop-node.invariant in
    let course = c.args.course.now in
    let number : c.len.result ≡ length c.loop-node.made.items = omega arith in (
      tt,
      tt,
      omega (arith, c.in_ok-push.ensures.len, inv.2, length-append c.loop-node.yielded (c.in-Some.node ∷ [])),
      goes_on c.args.nodes.items c.loop-node.yielded c.in-Some.node _ _ inv.3 c.in-Some.ensures.steps.0,
      made_on (beside_deaths course.plan.params course.faults course.beats) c.loop-node.yielded c.in-Some.node c.loop-node.made.items _ c.len.result _
          (number ∙ inv.2) inv.4 c.in_ok-beside_deaths.ensures c.in_ok-push.ensures.items,
    )
