use Rattle.std.proofs.Common.{rules, true, false, sym, ◌∙◌, ◌-◌}
use Rattle.node_kit.specs.Outputs.{begins_lost}
use Rattle.node_kit.proofs.Cutting.{cut-more, lost-none, lost-not}
use Rattle.node_kit.proofs.outbox.kept_before.Goals.{else-left-eq0-via-then-left-eq0+else-begins_lost}
use Rattle.node_kit.proofs.outbox.kept_before.Goals.{else-left-eq0-via-else-left-eq0, then-begins_send}
use Rattle.node_kit.proofs.outbox.kept_before.Goals.{else-begins_send}
use Rattle.node_kit.proofs.outbox.kept_before.Goals as goal

pub loop-i-preserved : goal.loop-i-preserved
loop-i-preserved g c = elim c.else-left-eq0.branch [
  | else-left-eq0-via-then-left-eq0+else-begins_lost v ↦ elim c.if-begins_send.branch [
    | then-begins_send w ↦ cut-more _ c.args.sends c.loop-i.i c.loop-i.left _ true (search rules)
        (sym c.begins_send.ensures ∙ w.if-begins_send.true)
        (lost-not c.loop-i.left _ (sym v.begins_lost.ensures ∙ v.if-begins_lost.false))
        (search rules) c.loop-i.invariant
    | else-begins_send w ↦ cut-more _ c.args.sends c.loop-i.i c.loop-i.left _ false (search rules)
        (sym c.begins_send.ensures ∙ w.if-begins_send.false)
        (lost-not c.loop-i.left _ (sym v.begins_lost.ensures ∙ v.if-begins_lost.false)) w.left-is c.loop-i.invariant
  ]
  | else-left-eq0-via-else-left-eq0 v ↦ elim c.if-begins_send.branch [
    | then-begins_send w ↦ cut-more _ c.args.sends c.loop-i.i c.loop-i.left _ true (search rules)
        (sym c.begins_send.ensures ∙ w.if-begins_send.true) (lost-none c.loop-i.left _ v.if-left-eq0.false)
        (search rules) c.loop-i.invariant
    | else-begins_send w ↦ cut-more _ c.args.sends c.loop-i.i c.loop-i.left _ false (search rules)
        (sym c.begins_send.ensures ∙ w.if-begins_send.false) (lost-none c.loop-i.left _ v.if-left-eq0.false) w.left-is
        c.loop-i.invariant
  ]
]
