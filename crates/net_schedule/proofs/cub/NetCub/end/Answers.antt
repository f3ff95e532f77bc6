use Rattle.std.proofs.Common.{◌≡◌, Some, find, sym, subst}
use Rattle.net_schedule.specs.Cubs.{CubState, is_of}
use Rattle.net_schedule.proofs.Sound.{ended, has_own, found_low}
use Rattle.net_schedule.proofs.cub.NetCub.end.Goals as goal

pub lower-requires-clause-at : goal.lower-requires-clause-at
lower-requires-clause-at c =
    let s : CubState = record { ring = c.self.inside.ring; no = c.self.inside.no; own = c.self.inside.own.items; kept = c.self.inside.kept.items } in
    let found = subst (λ (t : CubState). find (is_of c.args.v) t.own ≡ Some c.args.own) (sym c.self.view_is) c.requires.own in
    found_low s c.args.v c.args.own c.self.invariant.sound found

pub lower-requires-clause-has : goal.lower-requires-clause-has
lower-requires-clause-has c =
    let s : CubState = record { ring = c.self.inside.ring; no = c.self.inside.no; own = c.self.inside.own.items; kept = c.self.inside.kept.items } in
    let found = subst (λ (t : CubState). find (is_of c.args.v) t.own ≡ Some c.args.own) (sym c.self.view_is) c.requires.own in
    has_own s c.self.inside.loads.items c.args.v c.args.own c.self.invariant found c.requires.live

pub invariant_of-self : goal.invariant_of-self
invariant_of-self c =
    let s : CubState = record { ring = c.self.inside.ring; no = c.self.inside.no; own = c.self.inside.own.items; kept = c.self.inside.kept.items } in
    let found = subst (λ (t : CubState). find (is_of c.args.v) t.own ≡ Some c.args.own) (sym c.self.view_is) c.requires.own in
    ended s c.self.inside.loads.items c.lower.new.loads.items c.args.v c.args.state c.args.own c.set_state.new.own.items c.self.invariant found c.requires.live c.requires.state c.set_state.ensures c.lower.ensures
