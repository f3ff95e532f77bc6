-- A node's clock is within the skew, and never falls.
use Rattle.std.proofs.Common.{◌≡◌, ℕ, ◌+◌, ◌-◌, ◌*◌, ◌%◌, ◌<◌, ◌≤◌, true, false, refl}
use Rattle.std.proofs.Common.{arith, ⊎_elim}
use Rattle.std.specs.Prelude.{slice_index, nat_lt, ◌==◌}
use Rattle.std.proofs.Math.Nat.{mod-lt, mul-le-mul_right}
use Rattle.std.proofs.lemmas.Bool.{cases_Bool}
use Rattle.std.proofs.lemmas.Bool.Decides.{nat_tests}
use Rattle.slot_plan.specs.Times.{time_of}
use Rattle.node_kit.specs.declared.course.Course.{Course}
use Rattle.node_kit.specs.Courses.{IsCourse, offset_of, stamp_in}
use Rattle.run_facts.specs.Accounts.{IsClockOf}

-- an offset is within the skew
pub offset-skewed : (c : Course) (n : ℕ) → IsCourse c → offset_of c n ≤ c.plan.params.skew
offset-skewed c n course =
    let p = c.plan.params in
    let cubs = p.cubs in
    let all = p.cubs + p.cubs * p.disks in
    let some = c.plan.sound.ranges.cubs in
    let long = course.offsets in
    let at : (k : ℕ) → k < cubs + 1 → slice_index c.offsets k ≤ p.skew =
    λ k h. course.skewed k 0 (omega (arith, h, long)) in
    ⊎_elim
    (λ (e : nat_lt n cubs ≡ true). rw e (at n (grind (arith, nat_tests, e))))
    (λ (e : nat_lt n cubs ≡ false). ⊎_elim
    (λ (f : nat_lt n all ≡ true).
    let low : (n - cubs) % cubs < cubs = mod-lt (n - cubs) (omega (arith, some)) in
    rw (e, f) (at ((n - cubs) % cubs) (omega (arith, low))))
    (λ (f : nat_lt n all ≡ false). ⊎_elim
    (λ (g : (n == all) ≡ true). rw (e, f, g) (at cubs (omega arith)))
    (λ (g : (n == all) ≡ false). rw (e, f, g) (omega arith))
    (cases_Bool (n == all)))
    (cases_Bool (nat_lt n all)))
    (cases_Bool (nat_lt n cubs))

-- a node's clock
pub clock-of : (c : Course) (n : ℕ) → IsCourse c → IsClockOf c.plan.params (stamp_in c n)
unfolding time_of
clock-of c n course = record {
  dated = λ b. refl;
  low = λ b. omega arith;
  high = λ b. let h = offset-skewed c n course in omega (arith, h);
  grows = λ a b h. let m = mul-le-mul_right {m = a} {n = b} c.plan.params.beat h in omega (arith, m);
}
