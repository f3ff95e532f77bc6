use Rattle.std.proofs.Common.{ap, ◌∙◌}
use Rattle.partial_view.specs.Views.{Seen, line_at}
use Rattle.cub_rules.specs.Messages.{is_block_of}
use Rattle.cub_messages.proofs.Wants.{block_alone}
use Rattle.cub_messages.proofs.answers.is_wanted.Goals as goal

pub returns-then-want-eq0 : goal.returns-then-want-eq0
returns-then-want-eq0 c =
    let site = c.args.site.now in
    let want = c.args.want.now in
    c.has_block.ensures
    ∙ (ap (λ (seen : Seen). is_block_of want (line_at (want.slot, want.visit) seen.lines)) c.view.ensures
    ∙ block_alone site.plan.params site.cub.0 want c.args.store.now c.requires.stored c.if-want-eq0.true)
