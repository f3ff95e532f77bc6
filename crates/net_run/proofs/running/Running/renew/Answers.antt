use Rattle.std.proofs.Common.{◌∙◌, ap}
use Rattle.net_run.specs.Runs.{Running}
use Rattle.net_run.proofs.Ranges.{renewed_more}
use Rattle.net_run.proofs.Steps.{renewed_by_ring}
use Rattle.net_run.proofs.running.Running.renew.Goals as goal

pub loop-cub-preserved : goal.loop-cub-preserved
loop-cub-preserved c = record {
  so_far = c.in_ok-renew_one.ensures.renewed ∙ renewed_more c.args.left c.args.self.now c.loop-cub.self c.loop-cub.cub c.loop-cub.invariant.so_far;
  ring = ap (λ (r : Running). r.scene.world.ring) c.in_ok-renew_one.ensures.renewed ∙ renewed_by_ring c.args.left c.loop-cub.self c.loop-cub.cub ∙ c.loop-cub.invariant.ring;
  new = λ u none. c.in_ok-renew_one.ensures.new u (c.loop-cub.invariant.new u none);
}
