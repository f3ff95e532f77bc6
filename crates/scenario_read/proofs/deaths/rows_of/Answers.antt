use Rattle.std.proofs.Common.{refl}
use Rattle.scenario_read.specs.Deaths.{beat_of_death, cut_of_death, return_of_death}
use Rattle.scenario_read.proofs.DeathFacts.{by_cub-more}
use Rattle.scenario_read.proofs.deaths.rows_of.Goals as goal

pub loop-cub-preserved : goal.loop-cub-preserved
loop-cub-preserved c =
    let given = c.args.given.now in
    let cub = c.loop-cub.cub in
    record {
      deaths = rw c.in_ok-push.ensures.items (by_cub-more beat_of_death given cub c.loop-cub.deaths.items c.beat_of.result c.loop-cub.invariant.deaths (rw (c.beat_of.ensures, c.death_in-death.ensures) refl));
      cuts = rw c.in_ok-push-2.ensures.items (by_cub-more cut_of_death given cub c.loop-cub.cuts.items c.cut_of.result c.loop-cub.invariant.cuts (rw (c.cut_of.ensures, c.death_in-death.ensures) refl));
      backs = rw c.in_ok-push-3.ensures.items (by_cub-more return_of_death given cub c.loop-cub.backs.items c.back_of.result c.loop-cub.invariant.backs (rw (c.back_of.ensures, c.death_in-death.ensures) refl));
    }
