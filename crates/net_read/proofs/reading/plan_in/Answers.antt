use Rattle.serde_json.specs.View.{view}
use Rattle.net_read.proofs.Sounds.{formed-sound}
use Rattle.net_read.proofs.reading.plan_in.Goals as goal

pub new-requires : goal.new-requires
new-requires c = record {
  ring = c.in-Some.ensures.range;
  steps = c.in-Some-ranged.ensures.range;
  renew = c.in-Some-renew_of.ensures.range;
  orders = formed-sound c.in-Some.ring c.in-Some-ranged.steps (view c.args.top.now) c.in_ok-orders.orders.items c.in_ok-orders.ensures;
}
