use Rattle.std.proofs.Common.{ap, sym, ◌∙◌, length, arith}
use Rattle.ring_links.proofs.Opened.{none_new, one_more}
use Rattle.ring_links.proofs.opening.open_each.Goals as goal

pub loop-way-init : goal.loop-way-init
loop-way-init g c = (
  tt,
  tt,
  omega (arith, ap length c.new-links.ensures.items, ap length c.into_iter-way-iterator.ensures.into_iter_gives.0),
  none_new _ c.new-links.ensures.items,
)

pub loop-way-preserved : goal.loop-way-preserved
loop-way-preserved g c =
    let inv = c.loop-way.invariant in (
      tt,
      tt,
      omega (arith, inv.2, c.in_ok-push.ensures.len, ap length c.in-Some.ensures.steps.0),
      one_more c.loop-way.links.items _ c.in_ok-link.link c.in_ok-push.ensures.items inv.3 c.in_ok-link.ensures.line c.in_ok-link.ensures.flights c.in_ok-link.ensures.closed,
    )

pub returns-clause-count : goal.returns-clause-count
returns-clause-count g c =
    omega (arith, c.loop-way.invariant.2, sym c.loop-way.way-iterator.rest.ok.0 ∙ c.in-None.ensures.steps.0)
