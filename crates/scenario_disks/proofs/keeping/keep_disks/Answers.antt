use Rattle.std.proofs.Common.{length, arith}
use Rattle.tiger_base.specs.Limits.{most_file}
use Rattle.scenario_disks.proofs.Shortness.{short-files, as-many}
use Rattle.scenario_disks.proofs.InImages.{kept-of, cause-of}
use Rattle.scenario_disks.proofs.keeping.keep_disks.Goals as goal

pub part_count-parts-requires-clause-few_files : goal.part_count-parts-requires-clause-few_files
part_count-parts-requires-clause-few_files g c =
    omega (arith, as-many c.args.library.now c.in_ok-cat.cat.files c.in_ok-cat.ensures.lengths, c.requires.files, c.requires.scenario.few_files)

pub part_count-parts-requires-clause-short : goal.part_count-parts-requires-clause-short
part_count-parts-requires-clause-short g c = short-files most_file c.args.library.now c.in_ok-cat.cat.files c.in_ok-cat.ensures.lengths c.requires.short

pub in_image-requires-clause-short : goal.in_image-requires-clause-short
in_image-requires-clause-short g c = short-files most_file c.args.library.now c.in_ok-cat.cat.files c.in_ok-cat.ensures.lengths c.requires.short

pub returns-clause-kept : goal.returns-clause-kept
returns-clause-kept g c =
    let state = g.V.Device.state in
    kept-of c.args.image.now c.args.scenario.now c.args.library.now c.in_ok-cat.cat c.in_image.result (state c.args.dev.now) (state c.in_image.new.dev) c.in_ok-cat.ensures c.in_image.ensures.kept c.in_image.ensures.lines

pub returns-clause-cause : goal.returns-clause-cause
returns-clause-cause g c =
    let state = g.V.Device.state in
    cause-of c.args.image.now c.args.scenario.now c.args.library.now c.in_ok-cat.cat c.args.over c.in_image.result (state c.args.dev.now) (state c.in_image.new.dev) c.in_ok-cat.ensures c.in_image.ensures.cause
