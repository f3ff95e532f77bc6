use Rattle.ring_workers.proofs.Walks.{goes-on}
use Rattle.ring_workers.proofs.InRows.{put-outs-row}
use Rattle.ring_workers.proofs.rows.put_outs.Goals as goal

pub loop-row-preserved : goal.loop-row-preserved
loop-row-preserved g c =
    let inv = c.loop-row.invariant in
    let next = c.in-Some.ensures.steps.0 in (
      tt,
      tt,
      goes-on c.args.rows.items c.loop-row.yielded c.in-Some.row _ _ inv.2 next,
      put-outs-row c.args.rows.items c.loop-row.yielded c.in-Some.row c.into_vec.result.items _ _ c.args.ends.now.items c.loop-row.ends.items c.put_row.new.ends.items inv.2 next c.into_vec.ensures inv.3
          c.in_ok-put_row.ensures,
    )
