use Rattle.std.proofs.Common.{◌≡◌, false, None, sym, subst}
use Rattle.net_schedule.specs.Cubs.{CubState, IsKeptOf, is_kept, first_over}
use Rattle.net_schedule.proofs.Sound.{kept_too}
use Rattle.net_schedule.proofs.cub.NetCub.keep.Goals as goal

pub invariant_of-self-2 : goal.invariant_of-self-2
invariant_of-self-2 c =
    let s : CubState = record { ring = c.self.inside.ring; no = c.self.inside.no; own = c.self.inside.own.items; kept = c.self.inside.kept.items } in
    let mine = subst (λ (t : CubState). IsKeptOf t.ring t.no c.args.entry) (sym c.self.view_is) c.requires.entry in
    let new = subst (λ (t : CubState). is_kept t.kept c.args.entry.instance ≡ false) (sym c.self.view_is) c.requires.new in
    let none = subst (λ (t : CubState). first_over t c.args.entry.at c.args.entry.rate ≡ None) (sym c.self.view_is) c.requires.free in
    kept_too s c.self.inside.loads.items c.raise.new.loads.items c.args.entry c.put_kept.new.kept.items c.self.invariant mine new none c.in_ok-put_kept.ensures.ok c.raise.ensures
