use Rattle.std.proofs.Common.{rules, arith}
use Rattle.ring_links.proofs.Steps.{sends}
use Rattle.ring_links.proofs.Kept.{sender-sends}
use Rattle.ring_links.proofs.ends.OutEnd.send.Goals as goal

pub push_as-requires-clause-rule : goal.push_as-requires-clause-rule
push_as-requires-clause-rule g c n = sends n _ _ _ c.self.invariant.3.sends (search rules) (omega (arith, c.self.invariant.3.count_is))

pub invariant_of-self : goal.invariant_of-self
invariant_of-self g c = (
  search rules,
  c.self.invariant.1,
  c.self.invariant.2,
  sender-sends c.self.inside.pass.me.view.client c.push_as.new.pass.me.view.client c.self.inside.seat.me.0 c.self.inside.sent c.self.inside.closed c.args.flight c.self.invariant.3
      (search rules) (omega arith) (search rules) (search rules),
)
