use Rattle.audit_frame.specs.Lines.{noted_line}
use Rattle.audit_schedule.proofs.Marked.{turn_judged}
use Rattle.audit_schedule.proofs.turns.Turns.allows.Goals as goal

pub returns : goal.returns
returns c = λ p front is early h.
    turn_judged p front (noted_line c.args.line.now) _ _ _ c.are_both.ensures (c.leaves_in_turn-leaves.ensures p front early h)
    (c.comes_in_turn-comes.ensures p front is early h)
