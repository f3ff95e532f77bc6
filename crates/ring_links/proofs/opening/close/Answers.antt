use Rattle.std.proofs.Common.{ℕ, ◌≤◌, take, ap, subst, rules, arith}
use Rattle.atomic_table.specs.Table.{Me}
use Rattle.ring_links.specs.declared.board.Knows.{Knows}
use Rattle.ring_links.specs.Flights.{IsFront}
use Rattle.ring_links.specs.Ends.{End}
use Rattle.ring_links.proofs.Orders.{front-given}
use Rattle.ring_links.proofs.Steps.{merges}
use Rattle.ring_links.proofs.Words.{joins, agrees}
use Rattle.ring_links.proofs.Kept.{ends-meet}
use Rattle.ring_links.proofs.opening.close.Goals as goal

pub absorb-requires-clause-rule : goal.absorb-requires-clause-rule
absorb-requires-clause-rule g c = merges _ _ _ _ (search rules) (search rules)

pub join_seat-requires : goal.join_seat-requires
join_seat-requires g c = (search rules, search rules, search rules, search rules, joins _ _ _ _)

pub load-requires : goal.load-requires
load-requires g c = (search rules, search rules, agrees _ _ _ (search rules))

pub returns-clause-front : goal.returns-clause-front
returns-clause-front g c =
    let met = ends-meet c.out.inside.pass.me.view.client c.into.inside.pass.me.view.client c.absorb.new.pass.me.view.client c.out.inside.seat.me.0 c.into.inside.seat.me.0 c.join_seat.new.seat.me.0 c.out.inside.sent
    c.into.inside.received c.out.inside.closed c.into.inside.closed c.into.inside.spoilt c.len_as-inside.ensures.rule.0 c.out.invariant.3 c.into.invariant.4 (search rules) c.len_as-inside.ensures.rule.2
    (ap (λ (m : Me ℕ Knows). m.0) c.join_seat.ensures.2) c.load.ensures.2.1 in
    subst (λ (e : End g.row.M.Denot). IsFront e.closed e.flights c.args.out.flights) c.into.view_is
    (subst (λ (e : End g.row.M.Denot). IsFront c.into.inside.closed (take c.into.inside.received c.into.inside.pass.me.view.client.got) e.flights) c.out.view_is met.0)

pub returns-clause-closed : goal.returns-clause-closed
returns-clause-closed g c =
    let met = ends-meet c.out.inside.pass.me.view.client c.into.inside.pass.me.view.client c.absorb.new.pass.me.view.client c.out.inside.seat.me.0 c.into.inside.seat.me.0 c.join_seat.new.seat.me.0 c.out.inside.sent
    c.into.inside.received c.out.inside.closed c.into.inside.closed c.into.inside.spoilt c.len_as-inside.ensures.rule.0 c.out.invariant.3 c.into.invariant.4 (search rules) c.len_as-inside.ensures.rule.2
    (ap (λ (m : Me ℕ Knows). m.0) c.join_seat.ensures.2) c.load.ensures.2.1 in
    subst (λ (e : End g.row.M.Denot). e.closed ≤ c.args.out.closed) c.into.view_is (subst (λ (e : End g.row.M.Denot). c.into.inside.closed ≤ e.closed) c.out.view_is met.1)

pub returns-clause-given : goal.returns-clause-given
returns-clause-given g c = front-given _ _ _ (returns-clause-front g c)

pub returns-clause-counted : goal.returns-clause-counted
returns-clause-counted g c =
    let met = ends-meet c.out.inside.pass.me.view.client c.into.inside.pass.me.view.client c.absorb.new.pass.me.view.client c.out.inside.seat.me.0 c.into.inside.seat.me.0 c.join_seat.new.seat.me.0 c.out.inside.sent
    c.into.inside.received c.out.inside.closed c.into.inside.closed c.into.inside.spoilt c.len_as-inside.ensures.rule.0 c.out.invariant.3 c.into.invariant.4 (search rules) c.len_as-inside.ensures.rule.2
    (ap (λ (m : Me ℕ Knows). m.0) c.join_seat.ensures.2) c.load.ensures.2.1 in
    omega (arith, met.2, c.len_as-inside.ensures.rule.1)
