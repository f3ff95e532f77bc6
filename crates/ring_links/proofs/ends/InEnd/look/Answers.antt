use Rattle.std.proofs.Common.{rules, ◌∙◌}
use Rattle.ring_links.proofs.Words.{looks}
use Rattle.ring_links.proofs.Kept.{receiver-looks}
use Rattle.ring_links.proofs.ends.InEnd.look.Goals as goal

pub load-word-requires : goal.load-word-requires
load-word-requires g c = (search rules, search rules, looks _ _ _)

pub invariant_of-self : goal.invariant_of-self
invariant_of-self g c = (
  c.self.invariant.0,
  c.load-word.ensures.0 ∙ c.self.invariant.1,
  search rules,
  c.load-word.ensures.2.3 ∙ c.self.invariant.3,
  receiver-looks c.self.inside.pass.me.view.client c.self.inside.seat.me.0 c.load-word.new.seat.me.0 c.self.inside.received c.self.inside.closed c.closed_by-self-inside.result c.load-word.result
      c.self.inside.spoilt c.self.invariant.4 c.load-word.ensures.2.0 c.load-word.ensures.2.1 c.load-word.ensures.2.2 c.closed_by-self-inside.ensures.rises
      c.closed_by-self-inside.ensures.by_word,
)
