use Rattle.std.proofs.Common.{arith}
use Rattle.cub_tick.proofs.FullDisks.{disk_in}
use Rattle.cub_tick.proofs.Turns.{disk_done}
use Rattle.cub_tick.proofs.insertion.put_at.Goals as goal

pub put_on-requires-clause-disk : goal.put_on-requires-clause-disk
put_on-requires-clause-disk c =
    disk_in c.args.site.now.plan.params c.args.cub.0 c.loop-row.row _ c.requires.cub c.loop-row-test.true (omega (arith, c.from.ensures))

pub loop-row-preserved : goal.loop-row-preserved
loop-row-preserved c =
    let p = c.args.site.now.plan.params in
    record {
      comes = disk_done c.args.kind p c.args.site.now.cub.0 c.args.reading c.args.cub.0 c.args.store.now c.args.out.now c.loop-row.row _ c.loop-row.store c.loop-row.out c.put_on.new.store c.put_on.new.out
          c.loop-row.invariant.comes c.loop-row-test.true (omega (arith, c.from.ensures)) c.in_ok-put_on.ensures.did;
      plan = c.in_ok-put_on.ensures.plan;
      asks = c.in_ok-put_on.ensures.asks;
    }
