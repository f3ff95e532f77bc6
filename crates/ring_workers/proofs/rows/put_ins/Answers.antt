use Rattle.ring_workers.proofs.Walks.{goes-on}
use Rattle.ring_workers.proofs.InRows.{put-in}
use Rattle.ring_workers.proofs.rows.put_ins.Goals as goal

pub loop-port-preserved : goal.loop-port-preserved
loop-port-preserved g c =
    let inv = c.loop-port.invariant in
    let next = c.in-Some.ensures.steps.0 in
    let end = c.into_end.ensures in (
      tt,
      tt,
      goes-on c.args.row.items c.loop-port.yielded c.in-Some.port _ _ inv.2 next,
      put-in c.args.row.items c.loop-port.yielded c.in-Some.port c.link-link.result _ _ c.args.ends.now.items c.loop-port.ends.items c.put_at.new.ends.items c.into_end.result inv.2 next inv.3
          c.in_ok-put_at.ensures.put c.link-link.ensures end.line end.flights end.closed,
    )
