use Rattle.cub_messages.proofs.Standing.{line_has}
use Rattle.cub_messages.proofs.answers.has_block.Goals as goal

pub of_block-requires : goal.of_block-requires
of_block-requires c =
    (line_has c.args.site.now.plan.params c.args.site.now.cub.0 (c.args.want.now.slot, c.args.want.now.visit) c.args.view.now.lines c.in-Some.line c.requires.lines c.in-Some.ensures).begun
