use Rattle.std.proofs.Common.{◌≡◌, ◌∙◌, ℕ, Some, Option, sym, ap, subst}
use Rattle.std.specs.Prelude.{slice_index_or}
use Rattle.net_schedule.specs.Cubs.{CubState, standing}
use Rattle.net_schedule.specs.Worlds.{WorldState, asked_at, state_at}
use Rattle.net_schedule.specs.Links.{IsWorld}
use Rattle.net_schedule.proofs.Worldly.{index_is, asked_some_low}
use Rattle.net_schedule.proofs.world.NetWorld.state.Goals as goal

pub returns-in-Some : goal.returns-in-Some
returns-in-Some c =
    let w : WorldState = record { ring = c.self.inside.ring; cubs = c.self.inside.cubs.items; sent = c.self.inside.sent.items; events = c.self.inside.events.items } in
    let h = subst IsWorld c.self.view_is c.self.invariant in
    let got : asked_at c.args.self.now c.args.v ≡ Some c.in-Some.cub = sym c.asked_at.ensures.cub ∙ c.in-Some.is in
    let low = asked_some_low c.args.self.now c.args.v c.in-Some.cub h got in
    let cubs = subst (λ (y : WorldState). c.index.result.now ≡ slice_index_or y.cubs c.in-Some.cub c.index.result.now) c.self.view_is c.index.ensures in
    let here = index_is c.args.self.now c.in-Some.cub c.index.result.now h low cubs in
    c.state.ensures ∙ ap (λ (s : CubState). standing s c.args.v) here ∙ ap (λ (o : Option ℕ). state_at c.args.self.now o c.args.v) (sym got)
