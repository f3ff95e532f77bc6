use Rattle.std.proofs.Common.{◌∷◌, [], refl, arith}
use Rattle.node_kit.specs.declared.journal.What.TheVariants.{Gone, Died, Returned}
use Rattle.run_facts.proofs.tests.timed.Goals as goal

pub returns-clause-stays : goal.returns-clause-stays
returns-clause-stays c = ((record { beat = omega arith; reading = omega arith }, tt), (tt, tt))

pub returns-clause-falls : goal.returns-clause-falls
returns-clause-falls c h = let q = h.0.0.reading in omega (arith, q)

pub returns-clause-last : goal.returns-clause-last
returns-clause-last c = record {
  before = (record { stamp = record { beat = 1; reading = 10 }; what = Gone (record { 0 = 0 }) }) ∷ [];
  last = record { stamp = record { beat = 4; reading = 40 }; what = Died };
  later = [];
  all = refl;
  died = refl;
  in_beat = refl;
  alone = ((refl, omega arith), tt);
  back = refl;
}

pub returns-clause-cut_off : goal.returns-clause-cut_off
returns-clause-cut_off c = record {
  before = (record { stamp = record { beat = 4; reading = 40 }; what = Gone (record { 0 = 0 }) }) ∷ [];
  last = record { stamp = record { beat = 4; reading = 40 }; what = Died };
  later = (record { stamp = record { beat = 6; reading = 60 }; what = Returned }) ∷ [];
  all = refl;
  died = refl;
  in_beat = refl;
  alone = ((refl, omega arith), tt);
  back = ((refl, omega arith), tt);
}

pub returns-clause-undead : goal.returns-clause-undead
returns-clause-undead c h = let q = h.0 in absurd (cc)
