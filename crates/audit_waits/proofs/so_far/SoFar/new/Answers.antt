use Rattle.audit_waits.proofs.Excusing.{cubs_opening}
use Rattle.audit_waits.proofs.Holding.{holders_opening}
use Rattle.audit_waits.proofs.Waiting.{starts_opening}
use Rattle.audit_waits.proofs.so_far.SoFar.new.Goals as goal

pub returns : goal.returns
returns c = record {
  disks = c.in_ok-starts.ensures.disks;
  asked = c.in_ok-starts.ensures.asked;
  starts = starts_opening c.args.plan.now.params c.in_ok-starts.starts c.in_ok-starts.ensures.over c.in_ok-starts.ensures.plain c.in_ok-starts.ensures.spare;
  holders = holders_opening c.args.plan.now.params c.new-2.result c.new-2.ensures.seats c.new-2.ensures.stops;
  cubs = cubs_opening c.new-3.result c.new-3.ensures.dead c.new-3.ensures.believed c.new-3.ensures.records;
}
