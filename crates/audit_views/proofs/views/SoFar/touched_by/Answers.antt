use Rattle.audit_views.proofs.Judging.{put_touches, none_touched}
use Rattle.audit_views.proofs.views.SoFar.touched_by.Goals as goal

pub returns-in-Put : goal.returns-in-Put
returns-in-Put c = λ m v tells t.
    put_touches c.args.self.now.latest c.args.self.now.seats m.schedule _ c.in-Put.t v c.seated_in.result c.in-Put.is c.seated_in.ensures
    tells t

pub returns-in_default : goal.returns-in_default
returns-in_default c = λ m v tells t. none_touched m.schedule _ v _ c.in_default.not-Put t
