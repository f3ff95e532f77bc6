use Rattle.std.proofs.Common.{ap, sym, ◌∙◌, arith}
use Rattle.ring_workers.proofs.Members.{in-none, in-pushed, in-skipped}
use Rattle.ring_workers.proofs.sharing.add_members.Goals as goal
use Rattle.ring_workers.proofs.sharing.add_members.Goals.{then-home_at-share+in_ok-push, else-home_at-share}

pub loop-node-init : goal.loop-node-init
loop-node-init c = record { low = omega arith; all = in-none c.args.homes.now c.args.share c.args.first c.args.numbers.now.items }

pub loop-node-preserved : goal.loop-node-preserved
loop-node-preserved c =
    let inv = c.loop-node.invariant in
    let low = inv.low in
    record {
      low = omega (arith, low);
      all = elim c.if-home_at-share.branch [
        | then-home_at-share+in_ok-push w ↦
            in-pushed c.args.homes.now c.args.share c.args.first c.loop-node.node c.args.numbers.now.items c.loop-node.numbers.items c.if-home_at-share.numbers.items low
            (sym c.home_at.ensures ∙ w.if-home_at-share.true) inv.all (ap (λ v. v.items) w.numbers-is ∙ w.in_ok-push.ensures.items)
        | else-home_at-share w ↦ ap (λ v. v.items) w.numbers-is
            ∙ in-skipped c.args.homes.now c.args.share c.args.first c.loop-node.node c.args.numbers.now.items c.loop-node.numbers.items low
            (λ same. w.if-home_at-share.false (c.home_at.ensures ∙ same)) inv.all
      ];
    }
