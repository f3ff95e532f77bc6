use Rattle.std.proofs.Common.{◌∙◌}
use Rattle.scenario_make.proofs.Drawing.{three_draws, after_more, draw_behind}
use Rattle.scenario_make.proofs.Dying.{deaths-drawn, on_ok}
use Rattle.scenario_make.proofs.troubles.deaths.Goals as goal

pub returns-clause-deaths : goal.returns-clause-deaths
returns-clause-deaths c =
    let g = c.args.generator.now in
    let drawn = three_draws g c.draw-first.new.generator c.draw-early.new.generator c.draw-distance.new.generator 1000 c.draw-early.result 11 c.draw-distance.result
    c.draw-first.ensures.after c.draw-early.ensures.value c.draw-early.ensures.after c.draw-distance.ensures.value c.draw-distance.ensures.after in
    let late = c.draw-late.ensures.value ∙ draw_behind g c.draw-distance.new.generator 3 1000 drawn.end in
    deaths-drawn g c.draw-first.result c.draw-early.result c.draw-distance.result c.draw-late.result c.two_deaths.result
    c.draw-first.ensures.value drawn.second drawn.third late c.two_deaths.ensures

pub returns-clause-after : goal.returns-clause-after
returns-clause-after c =
    let g = c.args.generator.now in
    let drawn = three_draws g c.draw-first.new.generator c.draw-early.new.generator c.draw-distance.new.generator 1000 c.draw-early.result 11 c.draw-distance.result
    c.draw-first.ensures.after c.draw-early.ensures.value c.draw-early.ensures.after c.draw-distance.ensures.value c.draw-distance.ensures.after in
    on_ok c.two_deaths.result _ (after_more g c.draw-distance.new.generator c.draw-late.new.generator 3 drawn.end c.draw-late.ensures.after)
