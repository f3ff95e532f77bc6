use Rattle.audit_blocks.proofs.Claiming.{put_judged, no_put_judged}
use Rattle.audit_blocks.proofs.unserved.is_served_if_put.Goals as goal

pub returns-in-Put : goal.returns-in-Put
returns-in-Put c = put_judged c.args.kept.now _ c.in-Put.t c.is_served.result c.in-Put.is c.is_served.ensures

pub returns-in_default : goal.returns-in_default
returns-in_default c = λ put. no_put_judged c.args.kept.now _ c.in_default.not-Put
