use Rattle.std.proofs.Common.{◌+◌, ap, sym, ◌∙◌}
use Rattle.scenario_make.specs.Draws.{after}
use Rattle.scenario_make.proofs.Drawing.{three_draws, after_more, draw_behind}
use Rattle.scenario_make.proofs.Starting.{events-stopped, events-plain, draws_of-fifth, draws_of-other}
use Rattle.scenario_make.proofs.events.push_start.Goals as goal

pub returns-in_ok-push-2-clause-events : goal.returns-in_ok-push-2-clause-events
returns-in_ok-push-2-clause-events c =
    let g = c.args.generator.now in
    let start = c.args.start in
    let drawn = three_draws g c.draw-rise.new.generator c.draw-file.new.generator c.draw-stopped.new.generator 8 c.draw-file.result (start + 1) c.draw-stopped.result
    c.draw-rise.ensures.after c.draw-file.ensures.value c.draw-file.ensures.after c.draw-stopped.ensures.value c.draw-stopped.ensures.after in
    events-stopped g start (c.args.before + c.draw-rise.result) c.draw-file.result c.draw-stopped.result c.args.events.now.items c.push.new.self.items c.push-then-start-eq4.new.self.items
    c.if-start-eq4.true drawn.second drawn.third c.in_ok-push.ensures.items c.in_ok-push-2.ensures.items

pub returns-in_ok-push-2-clause-after : goal.returns-in_ok-push-2-clause-after
returns-in_ok-push-2-clause-after c =
    let g = c.args.generator.now in
    let start = c.args.start in
    let drawn = three_draws g c.draw-rise.new.generator c.draw-file.new.generator c.draw-stopped.new.generator 8 c.draw-file.result (start + 1) c.draw-stopped.result
    c.draw-rise.ensures.after c.draw-file.ensures.value c.draw-file.ensures.after c.draw-stopped.ensures.value c.draw-stopped.ensures.after in
    drawn.end ∙ ap (λ n. after n g) (sym (draws_of-fifth start c.if-start-eq4.true))

pub returns-else-start-eq4-clause-events : goal.returns-else-start-eq4-clause-events
returns-else-start-eq4-clause-events c =
    let g = c.args.generator.now in
    let file = c.draw-file.ensures.value ∙ draw_behind g c.draw-rise.new.generator 1 8 c.draw-rise.ensures.after in
    events-plain g c.args.start (c.args.before + c.draw-rise.result) c.draw-file.result c.args.events.now.items c.push.new.self.items
    c.if-start-eq4.false file c.in_ok-push.ensures.items

pub returns-else-start-eq4-clause-after : goal.returns-else-start-eq4-clause-after
returns-else-start-eq4-clause-after c =
    let g = c.args.generator.now in
    after_more g c.draw-rise.new.generator c.draw-file.new.generator 1 c.draw-rise.ensures.after c.draw-file.ensures.after
    ∙ ap (λ n. after n g) (sym (draws_of-other c.args.start c.if-start-eq4.false))
