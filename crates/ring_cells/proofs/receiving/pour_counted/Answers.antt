use Rattle.std.proofs.Common.{◌≡◌, ◌∷◌, [], refl, ◌∙◌, arith}
use Rattle.ring_cells.proofs.Letting.{link-kept}
use Rattle.ring_cells.proofs.Pouring.{poured-none, poured-on}
use Rattle.ring_cells.proofs.receiving.pour_counted.Goals as goal

pub counted-init : goal.counted-init
counted-init g c = (tt, tt, poured-none c.args.mail.now.channels (c.args.port.now ∷ []), refl)

pub pour_one-requires : goal.pour_one-requires
pour_one-requires g c =
    let h = c.counted.invariant.2 in
    let same = link-kept _ _ _ _ h in
    let size = h.same_size in
    omega (arith, same, size, c.requires)

pub returns-then-not-more-clause-poured : goal.returns-then-not-more-clause-poured
returns-then-not-more-clause-poured g c = poured-on _ _ _ _ _ _ c.counted.invariant.2 c.in_ok-more.ensures.poured

pub counted-preserved : goal.counted-preserved
counted-preserved g c = (
  tt,
  tt,
  poured-on _ _ _ _ _ _ c.counted.invariant.2 c.in_ok-more.ensures.poured,
  c.in_ok-more.ensures.links ∙ c.counted.invariant.3,
)
