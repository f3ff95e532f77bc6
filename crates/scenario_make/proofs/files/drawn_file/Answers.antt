use Rattle.std.proofs.Common.{refl}
use Rattle.scenario_make.specs.Files.{length_by, line_by}
use Rattle.scenario_make.proofs.Drawing.{three_draws}
use Rattle.scenario_make.proofs.files.drawn_file.Goals as goal

pub returns-clause-line : goal.returns-clause-line
unfolding line_by
returns-clause-line c =
    let drawn = three_draws c.args.generator.now c.draw-blocks.new.generator c.draw-lacking.new.generator c.draw-disk.new.generator 64 c.draw-lacking.result 56 c.draw-disk.result
    c.draw-blocks.ensures.after c.draw-lacking.ensures.value c.draw-lacking.ensures.after c.draw-disk.ensures.value c.draw-disk.ensures.after in
    rw (c.in_ok-name.ensures.ok, drawn.third) refl

pub returns-clause-bytes : goal.returns-clause-bytes
unfolding length_by
returns-clause-bytes c =
    let drawn = three_draws c.args.generator.now c.draw-blocks.new.generator c.draw-lacking.new.generator c.draw-disk.new.generator 64 c.draw-lacking.result 56 c.draw-disk.result
    c.draw-blocks.ensures.after c.draw-lacking.ensures.value c.draw-lacking.ensures.after c.draw-disk.ensures.value c.draw-disk.ensures.after in
    rw (c.in_ok-bytes.ensures, c.draw-blocks.ensures.value, drawn.second) refl

pub returns-clause-after : goal.returns-clause-after
returns-clause-after c =
    (three_draws c.args.generator.now c.draw-blocks.new.generator c.draw-lacking.new.generator c.draw-disk.new.generator 64 c.draw-lacking.result 56 c.draw-disk.result
    c.draw-blocks.ensures.after c.draw-lacking.ensures.value c.draw-lacking.ensures.after c.draw-disk.ensures.value c.draw-disk.ensures.after).end
