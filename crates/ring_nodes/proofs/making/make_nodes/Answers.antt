use Rattle.std.proofs.Common.{◌≡◌, ◌∙◌, arith}
use Rattle.std.proofs.lemmas.Grind.{common_steps}
use Rattle.ring_nodes.specs.AllNodes.{opening_nodes}
use Rattle.ring_nodes.proofs.Numbered.{opening_count, opening_stand}
use Rattle.ring_nodes.proofs.making.make_nodes.Goals as goal

pub returns-clause-count : goal.returns-clause-count
returns-clause-count g c =
    let a = c.args in
    let made : c.push-2.new.self.items ≡ opening_nodes a.course.now.plan.params a.course.now.faults a.images.now a.orders = grind (arith, common_steps) in
    c.push-2.new.self.ok.0 ∙ opening_count _ a.course.now.faults a.images.now a.orders _ c.requires.images made

pub returns-clause-stand : goal.returns-clause-stand
returns-clause-stand g c =
    let a = c.args in
    let made : c.push-2.new.self.items ≡ opening_nodes a.course.now.plan.params a.course.now.faults a.images.now a.orders = grind (arith, common_steps) in
    opening_stand _ a.course.now.faults a.images.now a.orders _ a.course.now.plan.sound c.requires.images made
