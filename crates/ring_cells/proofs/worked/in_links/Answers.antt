use Rattle.std.proofs.Common.{◌≡◌, [], ◌∷◌, refl, arith, inl}
use Rattle.node_kit.specs.Life.{acts, hears}
use Rattle.run_facts.specs.Beats.{pass}
use Rattle.ring_cells.specs.Samples.{five}
use Rattle.ring_cells.proofs.Tried.{taken-is, same-beat}
use Rattle.ring_cells.proofs.worked.in_links.Goals as goal

pub returns-clause-waits : goal.returns-clause-waits
returns-clause-waits c line_of = record {
  its_line = refl;
  ordered = (omega arith, tt, tt);
  gone = [];
  split = refl;
  got_is = inl refl;
  behind = tt;
  ahead = (omega arith, tt);
  far = omega arith;
}

pub returns-clause-taken : goal.returns-clause-taken
unfolding acts hears
returns-clause-taken c line_of = record {
  its_line = refl;
  ordered = (omega arith, tt, tt);
  gone = pass five ∷ [];
  split = refl;
  got_is = inl refl;
  behind = (omega arith, tt);
  ahead = tt;
  far = omega arith;
}

pub returns-clause-lost : goal.returns-clause-lost
returns-clause-lost c line_of h =
    let e = taken-is _ h.gone _ h.split h.got_is in absurd (cc)

pub returns-clause-late : goal.returns-clause-late
returns-clause-late c line_of h =
    let e : 2 ≡ 1 = same-beat _ _ (taken-is _ h.gone _ h.split h.got_is) in omega (arith, e)

pub returns-clause-still_waits : goal.returns-clause-still_waits
returns-clause-still_waits c line_of h = let low = h.ahead.0 in omega (arith, low)

pub returns-clause-open : goal.returns-clause-open
returns-clause-open c line_of h = let low = h.far in omega (arith, low)
