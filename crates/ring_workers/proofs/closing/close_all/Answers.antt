use Rattle.std.proofs.Common.{arith, ◌∙◌}
use Rattle.ring_workers.proofs.Places.{left-all, left-on}
use Rattle.ring_workers.proofs.Closed.{closed-on, lined-left}
use Rattle.ring_workers.specs.Sharing.{goes_between}
use Rattle.ring_workers.proofs.closing.close_all.Goals as goal

pub loop-link-init : goal.loop-link-init
loop-link-init g c = record { outs = left-all _; ins = left-all _; closed = λ k low between. absurd (omega (arith, low)) }

pub close_if-requires : goal.close_if-requires
close_if-requires g c = let inv = c.loop-link.invariant in lined-left _ _ _ _ inv.outs inv.ins c.requires

pub loop-link-preserved : goal.loop-link-preserved
loop-link-preserved g c =
    let inv = c.loop-link.invariant in
    let e = c.in_ok-close_if.ensures in
    record {
      outs = left-on _ _ _ inv.outs e.outs;
      ins = left-on _ _ _ inv.ins e.ins;
      closed = closed-on (λ k. goes_between c.args.links.now c.args.homes.now k) c.loop-link.link _ _ _ _ inv.outs inv.ins inv.closed (λ b. e.closed (c.goes_between-wanted.ensures ∙ b));
    }

pub returns : goal.returns
returns g c k low between = c.loop-link.invariant.closed k (omega (arith, low, c.loop-link-test.false, c.count-link-end.ensures)) between
