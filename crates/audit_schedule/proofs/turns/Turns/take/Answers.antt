use Rattle.audit_frame.specs.Lines.{noted_line}
use Rattle.audit_frame.proofs.Joined.{both_ok}
use Rattle.audit_schedule.proofs.Marked.{turns_taken}
use Rattle.audit_schedule.proofs.turns.Turns.take.Goals as goal

pub returns : goal.returns
returns c = both_ok c.take_got.result _ _ _ (λ lasts lowests p front is early h.
    turns_taken p front (noted_line c.args.line.now) c.args.self.now.latest c.take_sent.new.self.latest c.take_got.new.self.latest
    c.args.self.now.last c.take_sent.new.self.last c.take_got.new.self.last c.args.self.now.lowest c.take_sent.new.self.lowest
    c.take_got.new.self.lowest c.in_ok-take_sent.ensures.latest c.take_got.ensures.latest (λ v. lasts p v is) c.take_sent.ensures.last
    (λ v. lowests p v is) c.take_sent.ensures.lowest early h) c.take_got.ensures.last c.take_got.ensures.lowest
