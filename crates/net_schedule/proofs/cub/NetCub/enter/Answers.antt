use Rattle.std.proofs.Common.{◌≡◌, ◌∙◌, false, None, sym, subst}
use Rattle.net_schedule.specs.Cubs.{CubState, IsOwnOf, is_asked, first_over}
use Rattle.net_schedule.proofs.Sound.{entered, entered_idle}
use Rattle.net_schedule.proofs.cub.NetCub.enter.Goals as goal

pub invariant_of-self-then-is_live : goal.invariant_of-self-then-is_live
invariant_of-self-then-is_live c =
    let s : CubState = record { ring = c.self.inside.ring; no = c.self.inside.no; own = c.self.inside.own.items; kept = c.self.inside.kept.items } in
    let live = sym c.is_live.ensures ∙ c.if-is_live.true in
    let own = subst (λ (t : CubState). IsOwnOf t.ring t.no c.args.own) (sym c.self.view_is) c.requires.own in
    let new = subst (λ (t : CubState). is_asked t.own c.args.own.entry.instance ≡ false) (sym c.self.view_is) c.requires.new in
    let none = subst (λ (t : CubState). first_over t c.args.own.entry.at c.args.own.entry.rate ≡ None) (sym c.self.view_is) (c.requires.free live) in
    entered s c.self.inside.loads.items c.raise.new.loads.items c.args.own c.put_own.new.own.items c.self.invariant own new none live c.in_ok-put_own.ensures.ok c.raise.ensures

pub invariant_of-self-else-is_live : goal.invariant_of-self-else-is_live
invariant_of-self-else-is_live c =
    let s : CubState = record { ring = c.self.inside.ring; no = c.self.inside.no; own = c.self.inside.own.items; kept = c.self.inside.kept.items } in
    let idle = sym c.is_live.ensures ∙ c.if-is_live.false in
    let own = subst (λ (t : CubState). IsOwnOf t.ring t.no c.args.own) (sym c.self.view_is) c.requires.own in
    let new = subst (λ (t : CubState). is_asked t.own c.args.own.entry.instance ≡ false) (sym c.self.view_is) c.requires.new in
    entered_idle s c.self.inside.loads.items c.args.own c.put_own.new.own.items c.self.invariant own new idle c.in_ok-put_own.ensures.ok
