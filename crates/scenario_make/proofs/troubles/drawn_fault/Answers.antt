use Rattle.std.proofs.Common.{refl}
use Rattle.scenario_make.specs.Troubles.{fault_by}
use Rattle.scenario_make.proofs.Drawing.{three_draws}
use Rattle.scenario_make.proofs.troubles.drawn_fault.Goals as goal

pub returns-clause-fault : goal.returns-clause-fault
unfolding fault_by
returns-clause-fault c =
    let drawn = three_draws c.args.generator.now c.draw-disk.new.generator c.draw-from.new.generator c.draw-more.new.generator 5000 c.draw-from.result 200 c.draw-more.result
    c.draw-disk.ensures.after c.draw-from.ensures.value c.draw-from.ensures.after c.draw-more.ensures.value c.draw-more.ensures.after in
    rw (c.draw-disk.ensures.value, drawn.second, drawn.third) refl

pub returns-clause-after : goal.returns-clause-after
returns-clause-after c =
    (three_draws c.args.generator.now c.draw-disk.new.generator c.draw-from.new.generator c.draw-more.new.generator 5000 c.draw-from.result 200 c.draw-more.result
    c.draw-disk.ensures.after c.draw-from.ensures.value c.draw-from.ensures.after c.draw-more.ensures.value c.draw-more.ensures.after).end
