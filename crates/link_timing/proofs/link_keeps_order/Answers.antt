use Rattle.link_timing.proofs.Arrivals.{KeepsOrder-holds}
use Rattle.link_timing.proofs.link_keeps_order.Goals as goal

pub returns : goal.returns
returns c = KeepsOrder-holds
