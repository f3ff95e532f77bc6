use Rattle.std.proofs.Common.{◌≡◌, Some, None, find, subst}
use Rattle.net_schedule.specs.Cubs.{CubState, is_for}
use Rattle.net_schedule.proofs.Sound.{released_row, has_kept, found_kept_low, unreleased}
use Rattle.net_schedule.proofs.cub.NetCub.release.Goals as goal

pub lower-requires-clause-at : goal.lower-requires-clause-at
lower-requires-clause-at c =
    let s : CubState = record { ring = c.self.inside.ring; no = c.self.inside.no; own = c.self.inside.own.items; kept = c.self.inside.kept.items } in
    let found : find (is_for c.args.v) c.self.inside.kept.items ≡ Some c.in-Some.entry = cc in
    found_kept_low s c.args.v c.in-Some.entry c.self.invariant.sound found

pub lower-requires-clause-has : goal.lower-requires-clause-has
lower-requires-clause-has c =
    let s : CubState = record { ring = c.self.inside.ring; no = c.self.inside.no; own = c.self.inside.own.items; kept = c.self.inside.kept.items } in
    let found : find (is_for c.args.v) c.self.inside.kept.items ≡ Some c.in-Some.entry = cc in
    has_kept s c.self.inside.loads.items c.args.v c.in-Some.entry c.self.invariant found

pub invariant_of-self : goal.invariant_of-self
invariant_of-self c =
    let s : CubState = record { ring = c.self.inside.ring; no = c.self.inside.no; own = c.self.inside.own.items; kept = c.self.inside.kept.items } in
    let found : find (is_for c.args.v) c.self.inside.kept.items ≡ Some c.in-Some.entry = cc in
    released_row s c.self.inside.loads.items c.lower.new.loads.items c.args.v c.in-Some.entry c.drop_kept.new.kept.items c.self.invariant found c.drop_kept.ensures c.lower.ensures

pub returns-in_default : goal.returns-in_default
returns-in_default c =
    let none : find (is_for c.args.v) c.self.inside.kept.items ≡ None = cc in
    unreleased c.args.self.now c.args.v (subst (λ (t : CubState). find (is_for c.args.v) t.kept ≡ None) c.self.view_is none)
