-- A visit in the window is not too large, and its slot is one of the plan's.
use Rattle.std.proofs.Common.{ℕ, ◌*◌, ◌<◌, ◌≤◌, Bool, IsTrue, Result, Ok, Err, MatchResult, IfOk, arith}
use Rattle.std.proofs.Math.Nat.{mul-le-mul}
use Rattle.tiger_base.specs.Limits.{most_reading}
use Rattle.slot_plan.specs.declared.params.Params.{Params}
use Rattle.slot_plan.specs.Conditions.{IsPlan}
use Rattle.slot_plan.specs.Keys.{Key}
use Rattle.slot_plan.specs.Times.{due, in_window}
use Rattle.slot_plan.specs.Windows.{IsOpen, IsLeastOpen}
use Rattle.slot_plan.proofs.Times.{window_parts}

due_low : (p : Params) (slot visit : ℕ) → IsPlan p → visit * 10000 ≤ due p slot visit
unfolding due
due_low p slot visit plan =
    let long : visit * 10000 ≤ visit * p.play = mul-le-mul (omega arith) plan.ranges.play.0 in
    omega arith

small_visit : (p : Params) (reading slot visit : ℕ) → IsPlan p → reading ≤ most_reading → IsTrue (in_window p reading slot visit) → visit ≤ 2000000000
small_visit p reading slot visit plan low inside =
    let due_by = (window_parts p reading slot visit inside).0 in
    omega (arith, due_low p slot visit plan, due_by, plan.ranges.window_a)

module _ (p : Params) (reading disk : ℕ) (test : Key → Bool) {E : Type 0} where
  -- what is found in the window, if anything is
  abbrev pub IsFound : Result Key E → Type 0
  IsFound r = MatchResult r (λ k. IsLeastOpen p reading disk test k) (λ _. (k : Key) → ¬ IsOpen p reading disk test k)

  pub found_slot : (r : Result Key E) → IsFound r → IfOk r (λ k. k.0.0 < p.slots)
  found_slot (Ok k) found = found.here.in_plan
  found_slot (Err e) found = tt

  pub found_small : (r : Result Key E) → IsPlan p → reading ≤ most_reading → IsFound r → IfOk r (λ k. k.1 ≤ 2000000000)
  found_small (Ok k) plan low found = small_visit p reading k.0.0 k.1 plan low found.here.window
  found_small (Err e) plan low found = tt
