use Rattle.std.proofs.Common.{rules, ◌∙◌}
use Rattle.ring_links.proofs.Words.{marks}
use Rattle.ring_links.proofs.Kept.{sender-marks}
use Rattle.ring_links.proofs.ends.OutEnd.mark.Goals as goal

pub store-requires : goal.store-requires
store-requires g c = (search rules, search rules, marks _ _ _ _ c.self.invariant.3.writes)

pub invariant_of-self : goal.invariant_of-self
invariant_of-self g c = (
  c.self.invariant.0,
  c.store.ensures.0 ∙ c.self.invariant.1,
  search rules,
  sender-marks c.self.inside.pass.me.view.client c.self.inside.seat.me.0 c.store.new.seat.me.0 c.self.inside.sent c.self.inside.closed c.args.below c.self.invariant.3 c.store.ensures.2.0
      (search rules) (search rules),
)
