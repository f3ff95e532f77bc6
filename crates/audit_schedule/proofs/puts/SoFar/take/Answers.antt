use Rattle.std.proofs.lemmas.Result.{on_ok_weaker}
use Rattle.audit_frame.specs.Lines.{noted_line}
use Rattle.audit_schedule.proofs.Taken.{put_tells, gone_tells, belief_tells, other_tells}
use Rattle.audit_frame.proofs.Joined.{both_ok}
use Rattle.audit_schedule.proofs.puts.SoFar.take.Goals as goal

pub returns-in-Put : goal.returns-in-Put
returns-in-Put c = both_ok c.take_put.result _ _ _ (λ seats puts m h.
    rw (c.take_put.ensures.stopped, c.take_put.ensures.believed)
    (put_tells c.args.self.now.seats c.take_put.new.self.seats c.args.self.now.stopped c.args.self.now.put c.take_put.new.self.put
    c.args.self.now.believed m (noted_line c.args.line.now) c.in-Put.t c.in-Put.is seats puts h))
    c.take_put.ensures.seats c.take_put.ensures.put

pub returns-in-Gone : goal.returns-in-Gone
returns-in-Gone c = on_ok_weaker c.add.result (λ set m h.
    gone_tells _ _ c.add.new.self _ _ m (noted_line c.args.line.now) c.in-Gone.v c.in-Gone.is set h) c.add.ensures

pub returns-in-Believed : goal.returns-in-Believed
returns-in-Believed c = on_ok_weaker c.add-in-Believed.result (λ set m h.
    belief_tells _ _ _ _ c.add-in-Believed.new.self m (noted_line c.args.line.now) c.in-Believed.cub c.in-Believed.is set h) c.add-in-Believed.ensures

pub returns-in_default : goal.returns-in_default
returns-in_default c = λ m h.
    other_tells _ _ _ _ m (noted_line c.args.line.now) c.in_default.not-Put c.in_default.not-Gone c.in_default.not-Believed h
