use Rattle.std.proofs.Common.{◌≡◌}
use Rattle.net_run.specs.Sent.{NoneIsAsked}
use Rattle.net_run.specs.Shortened.{renewed_in}
use Rattle.net_run.proofs.running.Running.renew.Given as goal

-- those so far
abbrev pub invariant-loop-cub : goal.invariant-loop-cub
invariant-loop-cub l = record {
  so_far : l.self ≡ renewed_in l.left l.fn.self l.cub;
  ring : l.self.scene.world.ring ≡ l.fn.self.scene.world.ring;
  new : NoneIsAsked l.fn.self.scene.world l.self.scene.world;
}
