use Rattle.std.proofs.Common.{◌≡◌, ◌<◌, refl, sym, subst}
use Rattle.std.specs.Prelude.{slice_set}
use Rattle.net_schedule.specs.Worlds.{WorldState, cub_at, actor_of, turn_of, CanTurn, WasSent}
use Rattle.net_schedule.proofs.Worldly.{acted}
use Rattle.net_schedule.proofs.world.NetWorld.act.Goals as goal

pub invariant_of-self-2 : goal.invariant_of-self-2
invariant_of-self-2 c =
    let w : WorldState = record { ring = c.self.inside.ring; cubs = c.self.inside.cubs.items; sent = c.self.inside.sent.items; events = c.self.inside.events.items } in
    let low = subst (λ (y : WorldState). c.args.cub < y.ring.cubs) (sym c.self.view_is) c.requires.cub in
    let can = subst (λ (y : WorldState). CanTurn (cub_at y c.args.cub) c.args.turn) (sym c.self.view_is) c.requires.turn in
    let actor = subst (λ (y : WorldState). c.args.cub ≡ actor_of y c.args.e) (sym c.self.view_is) c.requires.actor in
    let its = subst (λ (y : WorldState). c.args.turn ≡ turn_of y c.args.e) (sym c.self.view_is) c.requires.its in
    let was = subst (λ (y : WorldState). WasSent y.sent c.args.turn) (sym c.self.view_is) c.requires.sent in
    acted w c.args.cub c.args.turn c.args.e c.index_mut.result.now c.take_turn.new.cub (slice_set c.self.inside.cubs.items c.args.cub c.take_turn.new.cub) c.take_turn.new.out.items c.push_reserved.new.self.items
    c.self.invariant low can was c.index_mut.ensures.value c.in_ok-take_turn.ensures.after c.in_ok-take_turn.ensures.sound refl c.in_ok-take_turn.ensures.sent (cc) actor its
