use Rattle.std.proofs.Common.{◌∙◌}
use Rattle.node_kit.specs.declared.journal.Journal.{Journal}
use Rattle.ring_workers.proofs.Walks.{goes-on}
use Rattle.ring_workers.proofs.Parting.{outs-on, ins-on, things-on}
use Rattle.ring_workers.proofs.closing.sort.Goals as goal

pub loop-part-init : goal.loop-part-init
loop-part-init g c = (
  tt,
  tt,
  c.into_iter-part-iterator.ensures.into_iter_gives.0,
  c.in_ok-nodes.ensures.size ∙ c.nodes.ensures,
  c.in_ok-journals.ensures.size ∙ c.nodes-2.ensures,
  λ k x h. absurd (c.in_ok-nodes.ensures.none k x h),
  λ k x h. absurd (c.in_ok-journals.ensures.none k x h),
  λ k e h. absurd (c.in_ok-outs.ensures.none k e h),
  λ k e h. absurd (c.in_ok-ins.ensures.none k e h),
)

pub loop-part-preserved : goal.loop-part-preserved
loop-part-preserved g c =
    let inv = c.loop-part.invariant in
    let all = c.args.parts.items in
    let done = c.loop-part.yielded in
    let next = c.in-Some.ensures.steps.0 in (
      tt,
      tt,
      goes-on all done c.in-Some.part _ _ inv.2 next,
      c.in_ok-put_each.ensures.size ∙ inv.3,
      c.in_ok-put_each-2.ensures.size ∙ inv.4,
      things-on {M = g.row.M.Denot} {S = g.row.T.Denot} {A = g.row.T.Denot} (λ p. p.nodes.items) all done c.in-Some.part _ _ c.loop-part.nodes.items c.put_each.new.slots.items c.as_slice.result.now inv.2 next inv.5
          c.as_slice.ensures.value c.in_ok-put_each.ensures.put,
      things-on {M = g.row.M.Denot} {S = g.row.T.Denot} {A = Journal} (λ p. p.journals.items) all done c.in-Some.part _ _ c.loop-part.journals.items c.put_each-in-loop-part.new.slots.items
          c.as_slice-in-loop-part.result.now inv.2 next inv.6 c.as_slice-in-loop-part.ensures.value c.in_ok-put_each-2.ensures.put,
      outs-on all done c.in-Some.part _ _ c.loop-part.outs.items c.put_outs.new.ends.items inv.2 next inv.7 c.in_ok-put_outs.ensures,
      ins-on all done c.in-Some.part _ _ c.loop-part.ins.items c.put_ins.new.ends.items inv.2 next inv.8 c.in_ok-put_ins.ensures,
    )

pub returns-clause-nodes : goal.returns-clause-nodes
returns-clause-nodes g c k x there = c.loop-part.invariant.5 k x (c.in_ok-all_of.ensures.each k x there)

pub returns-clause-journals : goal.returns-clause-journals
returns-clause-journals g c k x there = c.loop-part.invariant.6 k x (c.in_ok-all_of-2.ensures.each k x there)
