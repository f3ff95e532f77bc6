use Rattle.std.proofs.Common.{◌≡◌, ◌<◌, Some, false, sym, subst}
use Rattle.std.specs.Prelude.{slice_get}
use Rattle.std.specs.Option.{is_some}
use Rattle.net_schedule.specs.declared.world.NetEvent.{NetEvent}
use Rattle.net_schedule.specs.Worlds.{WorldState, cub_at, asked_at, actor_of, turn_of, CanTurn, IsPossible}
use Rattle.net_schedule.specs.Links.{IsWorld}
use Rattle.net_schedule.proofs.Worldly.{ask_can, asked_low, can_take, none_of}
use Rattle.net_schedule.proofs.world.NetWorld.turn_of.Goals as goal

pub returns-else-is_some-clause-can : goal.returns-else-is_some-clause-can
returns-else-is_some-clause-can c =
    let h = subst IsWorld c.self.view_is c.self.invariant in
    let can = subst (λ (e : NetEvent). IsPossible c.args.self.now.ring e) c.in-Ask.is c.requires in
    let no : is_some (asked_at c.args.self.now c.in-Ask.instance) ≡ false = cc in
    let none = none_of (asked_at c.args.self.now c.in-Ask.instance) no in
    subst (λ (e : NetEvent). CanTurn (cub_at c.args.self.now (actor_of c.args.self.now e)) (turn_of c.args.self.now e)) (sym c.in-Ask.is)
    (ask_can c.args.self.now c.in-Ask.instance c.in-Ask.at c.in-Ask.rate h can.0 can.1 can.2 none)

pub returns-in-Stop-clause-low : goal.returns-in-Stop-clause-low
returns-in-Stop-clause-low c =
    let h = subst IsWorld c.self.view_is c.self.invariant in
    subst (λ (e : NetEvent). actor_of c.args.self.now e < c.args.self.now.ring.cubs) (sym c.in-Stop.is) (asked_low c.args.self.now c.in-Stop.instance h)

pub returns-in-Some-clause-low : goal.returns-in-Some-clause-low
returns-in-Some-clause-low c =
    let h = subst IsWorld c.self.view_is c.self.invariant in
    let here : slice_get c.self.inside.sent.items c.in-Deliver.number ≡ Some c.in-Some.packet = cc in
    let got = subst (λ (y : WorldState). slice_get y.sent c.in-Deliver.number ≡ Some c.in-Some.packet) c.self.view_is here in
    subst (λ (e : NetEvent). actor_of c.args.self.now e < c.args.self.now.ring.cubs) (sym c.in-Deliver.is) (rw got (can_take c.args.self.now c.in-Deliver.number c.in-Some.packet h got).0)

pub returns-in-Some-clause-can : goal.returns-in-Some-clause-can
returns-in-Some-clause-can c =
    let h = subst IsWorld c.self.view_is c.self.invariant in
    let here : slice_get c.self.inside.sent.items c.in-Deliver.number ≡ Some c.in-Some.packet = cc in
    let got = subst (λ (y : WorldState). slice_get y.sent c.in-Deliver.number ≡ Some c.in-Some.packet) c.self.view_is here in
    subst (λ (e : NetEvent). CanTurn (cub_at c.args.self.now (actor_of c.args.self.now e)) (turn_of c.args.self.now e)) (sym c.in-Deliver.is)
    (rw got (can_take c.args.self.now c.in-Deliver.number c.in-Some.packet h got).1)
