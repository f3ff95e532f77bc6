use Rattle.std.proofs.Common.{◌≡◌, ◌<◌, sym, ap, subst}
use Rattle.std.specs.Prelude.{IfSome}
use Rattle.net_run.specs.Sent.{StaysUnasked}
use Rattle.net_run.proofs.Unasked.{unasked_stays}
use Rattle.net_schedule.specs.Worlds.{WorldState, IsPossible}
use Rattle.net_run.specs.Runs.{Scene}
use Rattle.net_run.specs.Peaks.{HasEnded}
use Rattle.net_schedule.specs.declared.ring.NetRing.{NetRing}
use Rattle.net_run.proofs.Loads.{has_ended, stays_same}
use Rattle.net_run.proofs.Scenes.{placed_few, row_under, changes_are, scene_next}
use Rattle.net_run.proofs.scene.Scene.step.Goals as goal

pub follow-requires-clause-room : goal.follow-requires-clause-room
follow-requires-clause-room c = row_under c.self.inside.ring c.self.inside.world c.self.inside.peak c.self.inside.row.items c.self.inside.risen c.self.invariant

pub follow-requires-clause-was : goal.follow-requires-clause-was
follow-requires-clause-was c = rw c.placed_at-was.ensures (placed_few c.self.inside.world c.place_of-place.result c.self.invariant.world c.place_of-place.ensures.low)

pub follow-requires-clause-is : goal.follow-requires-clause-is
follow-requires-clause-is c =
    let same : (c.step.new.self).ring ≡ c.self.inside.world.ring = ap (λ (w : WorldState). w.ring) c.in-Ok.ensures.after in
    rw c.placed_at-is.ensures (placed_few c.step.new.self c.place_of-place.result c.is_safe.ensures.world
    (subst (λ (r : NetRing). IfSome c.place_of-place.result (λ q. q.cub < r.cubs)) (sym same) c.place_of-place.ensures.low))

pub follow-requires-clause-has : goal.follow-requires-clause-has
follow-requires-clause-has c =
    let can : IsPossible c.self.inside.world.ring c.args.e = subst (λ (s : Scene). IsPossible s.world.ring c.args.e) (sym c.self.view_is) c.requires.possible in
    let changes = changes_are c.self.inside.world c.step.new.self c.args.e c.place_of-place.result c.placed_at-was.result c.placed_at-is.result c.self.invariant.world can c.in-Ok.ensures.no_fault c.in-Ok.ensures.after c.place_of-place.ensures.is c.placed_at-was.ensures c.placed_at-is.ensures in
    subst (λ (r : NetRing). HasEnded r c.self.inside.row.items c.placed_at-was.result c.placed_at-is.result) (sym c.self.invariant.ring)
    (has_ended c.self.inside.world c.step.new.self c.placed_at-was.result c.placed_at-is.result c.self.inside.row.items c.self.invariant.carried changes)

pub follow-requires-clause-same : goal.follow-requires-clause-same
follow-requires-clause-same c =
    let can : IsPossible c.self.inside.world.ring c.args.e = subst (λ (s : Scene). IsPossible s.world.ring c.args.e) (sym c.self.view_is) c.requires.possible in
    let changes = changes_are c.self.inside.world c.step.new.self c.args.e c.place_of-place.result c.placed_at-was.result c.placed_at-is.result c.self.invariant.world can c.in-Ok.ensures.no_fault c.in-Ok.ensures.after c.place_of-place.ensures.is c.placed_at-was.ensures c.placed_at-is.ensures in
    stays_same c.self.inside.world c.step.new.self c.placed_at-was.result c.placed_at-is.result changes

pub invariant_of-self-2 : goal.invariant_of-self-2
invariant_of-self-2 c =
    let can : IsPossible c.self.inside.world.ring c.args.e = subst (λ (s : Scene). IsPossible s.world.ring c.args.e) (sym c.self.view_is) c.requires.possible in
    let changes = changes_are c.self.inside.world c.step.new.self c.args.e c.place_of-place.result c.placed_at-was.result c.placed_at-is.result c.self.invariant.world can c.in-Ok.ensures.no_fault c.in-Ok.ensures.after c.place_of-place.ensures.is c.placed_at-was.ensures c.placed_at-is.ensures in
    scene_next c.self.inside.ring c.self.inside.world c.step.new.self c.args.e c.self.inside.peak c.self.inside.row.items c.follow.new.row.items c.self.inside.risen c.has_risen-self-inside.result c.placed_at-was.result c.placed_at-is.result
    c.self.invariant c.is_safe.ensures.world c.in-Ok.ensures.after changes c.follow.ensures c.has_risen-self-inside.ensures

pub returns-clause-new : goal.returns-clause-new
returns-clause-new c =
    let can : IsPossible c.self.inside.world.ring c.args.e = subst (λ (s : Scene). IsPossible s.world.ring c.args.e) (sym c.self.view_is) c.requires.possible in
    subst (λ (s : Scene). StaysUnasked c.args.e s.world c.step.new.self) c.self.view_is
    (subst (λ (w : WorldState). StaysUnasked c.args.e c.self.inside.world w) (sym c.in-Ok.ensures.after) (unasked_stays c.self.inside.world c.args.e c.self.invariant.world can c.in-Ok.ensures.no_fault))
