use Rattle.std.proofs.Common.{◌∙◌, refl}
use Rattle.world.proofs.Losing.{stale_step, fresh_end}
use Rattle.world.proofs.channel.drop_below.Goals as goal

pub loop-channel-init : goal.loop-channel-init
loop-channel-init g c = record { same = refl; order = c.requires }

pub loop-channel-smaller-in-Some : goal.loop-channel-smaller-in-Some
loop-channel-smaller-in-Some g c =
    (stale_step c.args.beat c.loop-channel.channel _ c.loop-channel.invariant.order c.loop-channel-test.ensures c.in-Some.ensures.rest).2

pub loop-channel-preserved-in-Some : goal.loop-channel-preserved-in-Some
loop-channel-preserved-in-Some g c =
    let s = stale_step c.args.beat c.loop-channel.channel _ c.loop-channel.invariant.order c.loop-channel-test.ensures c.in-Some.ensures.rest in
    record { same = s.0 ∙ c.loop-channel.invariant.same; order = s.1 }

pub loop-channel-preserved : goal.loop-channel-preserved
loop-channel-preserved g c =
    let s = stale_step c.args.beat c.loop-channel.channel _ c.loop-channel.invariant.order c.loop-channel-test.ensures c.in-Some.ensures.rest in
    record { same = s.0 ∙ c.loop-channel.invariant.same; order = s.1 }

pub returns : goal.returns
returns g c =
    fresh_end c.args.beat c.loop-channel.channel c.loop-channel.invariant.order c.loop-channel-test.ensures ∙ c.loop-channel.invariant.same
