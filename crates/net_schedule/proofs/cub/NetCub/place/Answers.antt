use Rattle.std.proofs.Common.{◌≡◌, true, find, sym, subst}
use Rattle.net_schedule.specs.Cubs.{CubState, is_of, waits}
use Rattle.net_schedule.proofs.Sound.{placed, waits_found}
use Rattle.net_schedule.proofs.cub.NetCub.place.Goals as goal

pub invariant_of-self : goal.invariant_of-self
invariant_of-self c =
    let s : CubState = record { ring = c.self.inside.ring; no = c.self.inside.no; own = c.self.inside.own.items; kept = c.self.inside.kept.items } in
    let w = waits_found (find (is_of c.args.v) c.self.inside.own.items) (subst (λ (t : CubState). waits (find (is_of c.args.v) t.own) ≡ true) (sym c.self.view_is) c.requires) in
    placed s c.self.inside.loads.items c.args.v w.0 c.set_state.new.own.items c.self.invariant w.1 w.2 c.set_state.ensures
