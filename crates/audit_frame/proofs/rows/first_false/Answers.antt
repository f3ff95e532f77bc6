use Rattle.std.proofs.Common.{ℕ, zero, suc, ◌≤◌, take, refl, arith}
use Rattle.audit_frame.specs.Samples.{AreOfFirstNode, two_lines}
use Rattle.audit_frame.proofs.rows.first_false.Goals as goal

pub returns-clause-holds : goal.returns-clause-holds
returns-clause-holds c = (refl, tt)

pub returns-clause-holds_of_all : goal.returns-clause-holds_of_all
returns-clause-holds_of_all c h = h.with_it (refl, tt)

pub returns-clause-nothing_behind : goal.returns-clause-nothing_behind
returns-clause-nothing_behind c h = let inside = h.inside in omega (arith, inside)

fronts : (j : ℕ) → j ≤ 1 → AreOfFirstNode (take j two_lines)
fronts zero h = tt
fronts (suc zero) h = (refl, tt)
fronts (suc (suc j)) h = absurd (omega (arith, h))

pub returns-clause-second : goal.returns-clause-second
returns-clause-second c = record {
  inside = omega arith;
  before = fronts;
  with_it = λ h. let node = h.1.0 in omega (arith, node);
  whole = λ h. let node = h.1.0 in omega (arith, node);
}

pub returns-clause-not_the_first : goal.returns-clause-not_the_first
returns-clause-not_the_first c h = h.with_it (refl, tt)

pub returns-clause-fails : goal.returns-clause-fails
returns-clause-fails c h = let node = h.1.0 in omega (arith, node)
