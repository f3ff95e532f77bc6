use Rattle.std.proofs.Common.{◌≡◌, arith}
use Rattle.net_schedule.proofs.Worldly.{pushed, made}
use Rattle.net_schedule.proofs.world.NetWorld.new.Goals as goal

pub loop-c-preserved : goal.loop-c-preserved
loop-c-preserved c =
    pushed (record { cubs = c.args.cubs; quanta = c.args.quanta; capacity = c.args.capacity }) c.loop-c.c c.loop-c.all.items c.push.new.self.items c.in_ok-new.field-0 c.loop-c.invariant c.in_ok-new.ensures c.in_ok-push.ensures.items

pub invariant_of-result : goal.invariant_of-result
invariant_of-result c =
    let last : c.loop-c.c ≡ c.args.cubs = omega (arith, c.loop-c-test.false, c.loop-c.auto.c-end) in
    made (record { cubs = c.args.cubs; quanta = c.args.quanta; capacity = c.args.capacity }) c.loop-c.c c.loop-c.all.items c.new-2.result.items c.new-3.result.items c.requires last c.loop-c.invariant c.new-2.ensures.items c.new-3.ensures.items
