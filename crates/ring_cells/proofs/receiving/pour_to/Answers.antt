use Rattle.std.proofs.Common.{◌≡◌, ◌∷◌, [], ap, refl, ◌∙◌, arith}
use Rattle.tiger_base.specs.declared.number.LinkNo.{LinkNo}
use Rattle.ring_cells.proofs.Letting.{link-kept}
use Rattle.ring_cells.proofs.Pouring.{poured-none, poured-on, poured-look}
use Rattle.ring_cells.proofs.receiving.pour_to.Goals as goal

pub flights-init : goal.flights-init
flights-init g c = (tt, tt, poured-none c.args.mail.now.channels (c.args.port.now ∷ []), refl)

pub returns-then-look_to-clause-poured : goal.returns-then-look_to-clause-poured
returns-then-look_to-clause-poured g c =
    let e = c.look_to.ensures in
    poured-on _ _ _ _ _ _ c.flights.invariant.2 (poured-look _ _ _ e.link e.line e.flights e.rises)

pub pour_counted-requires : goal.pour_counted-requires
pour_counted-requires g c =
    let h = c.flights.invariant.2 in
    let same = link-kept _ _ _ _ h in
    let size = h.same_size in
    let link = ap (λ (l : LinkNo). l.0) c.look_to.ensures.link in
    omega (arith, same, size, link, c.requires)

pub returns-then-not-more-clause-poured : goal.returns-then-not-more-clause-poured
returns-then-not-more-clause-poured g c =
    let e = c.look_to.ensures in
    poured-on _ _ _ _ _ _ (poured-on _ _ _ _ _ _ c.flights.invariant.2 (poured-look _ _ _ e.link e.line e.flights e.rises)) c.in_ok-more.ensures.poured

pub flights-preserved : goal.flights-preserved
flights-preserved g c =
    let e = c.look_to.ensures in (
      tt,
      tt,
      poured-on _ _ _ _ _ _ (poured-on _ _ _ _ _ _ c.flights.invariant.2 (poured-look _ _ _ e.link e.line e.flights e.rises)) c.in_ok-more.ensures.poured,
      c.in_ok-more.ensures.links ∙ c.flights.invariant.3,
    )
