-- That the rows on the last beat which a cub ends are as they say.
use Rattle.std.proofs.Common.{◌≡◌, refl, sym, arith, inl}
use Rattle.std.proofs.lemmas.Bool.{false≢true}
use Rattle.node_kit.specs.Life.{acts}
use Rattle.run_promises.proofs.rows.last_beats.Goals as goal

pub returns-clause-before : goal.returns-clause-before
unfolding acts
returns-clause-before c = (refl, refl)

pub returns-clause-cut_off : goal.returns-clause-cut_off
returns-clause-cut_off c h = false≢true (sym h.1)

pub returns-clause-dead : goal.returns-clause-dead
unfolding acts
returns-clause-dead c h = false≢true h.0

pub returns-clause-apart : goal.returns-clause-apart
unfolding acts
returns-clause-apart c h = false≢true h.0

pub returns-clause-back : goal.returns-clause-back
unfolding acts
returns-clause-back c = (refl, refl)

pub returns-clause-waits : goal.returns-clause-waits
returns-clause-waits c k p = record {
  asked = inl (refl, refl);
  disk = omega arith;
  small = omega arith;
  its_cub = inl refl;
  came = omega arith;
  rises = omega arith;
  ends = omega arith;
  lives = λ death d. let same : 50 ≡ death = cc in omega (arith, same);
}

pub returns-clause-waits_no_longer : goal.returns-clause-waits_no_longer
returns-clause-waits_no_longer c k p h = let late = h.lives 50 refl in omega (arith, late)

pub returns-clause-waits_before_return : goal.returns-clause-waits_before_return
returns-clause-waits_before_return c k p = record {
  asked = inl (refl, refl);
  disk = omega arith;
  small = omega arith;
  its_cub = inl refl;
  came = omega arith;
  rises = omega arith;
  ends = omega arith;
  lives = λ death d. let same : 50 ≡ death = cc in omega (arith, same);
}

pub returns-clause-waits_behind_return : goal.returns-clause-waits_behind_return
returns-clause-waits_behind_return c k p h = let late = h.lives 50 refl in omega (arith, late)
