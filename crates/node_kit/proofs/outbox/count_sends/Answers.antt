use Rattle.std.proofs.Common.{rules, true, false, sym, ◌∙◌}
use Rattle.node_kit.proofs.Cutting.{count-more}
use Rattle.node_kit.proofs.outbox.count_sends.Goals.{then-begins_send, else-begins_send}
use Rattle.node_kit.proofs.outbox.count_sends.Goals as goal

pub loop-i-preserved : goal.loop-i-preserved
loop-i-preserved g c = elim c.if-begins_send.branch [
  | then-begins_send w ↦ count-more _ c.loop-i.i c.loop-i.count _ true (search rules)
      (sym c.begins_send.ensures ∙ w.if-begins_send.true) w.count-is c.loop-i.invariant
  | else-begins_send w ↦ count-more _ c.loop-i.i c.loop-i.count _ false (search rules)
      (sym c.begins_send.ensures ∙ w.if-begins_send.false) w.count-is c.loop-i.invariant
]
