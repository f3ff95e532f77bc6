use Rattle.std.proofs.Common.{rules, true, false, ◌∙◌}
use Rattle.node_kit.proofs.Cutting.{cut-seen, still-then, still-else}
use Rattle.node_kit.proofs.outbox.Outbox.cut.Goals.{then-self, else-self}
use Rattle.node_kit.proofs.outbox.Outbox.cut.Goals as goal

pub returns : goal.returns
returns g c = cut-seen c.args.sends c.kept_before-kept.result c.self.inside.outs.items c.args.self.now
    c.truncate.new.self.items c.self.inside.died c.if-self.self c.kept_before-kept.ensures.kept
    c.kept_before-kept.ensures.inside c.self.view_is c.truncate.ensures.items (elim c.if-self.branch [
      | then-self w ↦ still-then _ c.len-count.result _ _ _ w.if-self.true w.self-is (search rules)
      | else-self w ↦ still-else _ _ _ _ w.if-self.false (w.self-is ∙ w.if-self.false)
    ])
