-- What a plan is: its numbers' ranges, and the twelve conditions.
use Rattle.std.specs.Prelude.{ℕ, ◌+◌, ◌*◌, ◌<◌, ◌≤◌, Bool, List, [], ◌∷◌, Option, Some, None, nat_lt, nat_le, if◌then◌else◌}
use Rattle.slot_plan.specs.declared.params.Params.{Params}
use Rattle.slot_plan.specs.declared.params.PlanFault.{PlanFault}

-- at least low, and at most high
abbrev pub IsWithin : ℕ → ℕ → ℕ → Type 0
IsWithin low high n = (low ≤ n) × (n ≤ high)

-- the ranges of the single numbers
pub record IsInRange (p : Params) : Type 0 where
  pub cubs : IsWithin 3 64 p.cubs
  pub disks : IsWithin 1 8 p.disks
  pub slots : IsWithin 1 4096 p.slots
  pub play : IsWithin 10000 100000000 p.play
  pub pieces : IsWithin 1 8 p.pieces
  pub block : IsWithin 1 1048576 p.block
  pub beat : IsWithin 1 1000000 p.beat
  pub delay : IsWithin 1 16 p.delay
  pub skew : p.skew ≤ 1000000
  pub window_a : IsWithin 1 1000000000 p.window_a
  pub window_b : IsWithin 1 1000000000 p.window_b
  pub read_lead : IsWithin 1 1000000000 p.read_lead
  pub min_lead : IsWithin 1 1000000000 p.min_lead
  pub max_lead : IsWithin 1 10000000000 p.max_lead
  pub batch : IsWithin 1 100000 p.batch
  pub heart : IsWithin 1 100000 p.heart
  pub deadman : IsWithin 1 1000000000 p.deadman
  pub hold : IsWithin 1 1000000000 p.hold

-- the longest time that a message is under way
abbrev pub longest_way : Params → ℕ
longest_way p = p.delay * p.beat

-- numbers in their ranges, which meet every condition
pub record IsPlan (p : Params) : Type 0 where
  pub ranges : IsInRange p
  pub c1 : p.window_b < p.window_a
  pub c2 : p.window_a + p.skew + p.beat ≤ p.play
  pub c3 : p.beat + 2 * longest_way p + p.skew ≤ p.read_lead
  pub c4 : p.read_lead + p.skew + longest_way p + p.beat ≤ p.window_b
  pub c5 : p.window_a + 2 * p.play + p.skew ≤ p.min_lead
  pub c6 : p.min_lead + p.batch * p.beat ≤ p.max_lead
  pub c7 : p.max_lead + 4 * p.play ≤ p.cubs * p.play
  pub c8 : (p.cubs + 4) * longest_way p ≤ p.play
  pub c9 : p.pieces * (p.beat + longest_way p + p.skew) ≤ p.play
  pub c10 : p.pieces + 2 ≤ p.cubs
  pub c11 : p.heart * p.beat + longest_way p + p.skew ≤ p.deadman
  pub c12 : 2 * p.play + p.skew ≤ p.hold

-- a condition's test, and its two sides
abbrev pub Test : Type 0
Test = Bool × ℕ × ℕ

abbrev pub below : ℕ → ℕ → Test
below left right = (nat_lt left right, left, right)

abbrev pub at_most : ℕ → ℕ → Test
at_most left right = (nat_le left right, left, right)

-- the conditions in their order
abbrev pub tests : Params → List Test
tests p =
    below p.window_b p.window_a
    ∷ at_most (p.window_a + p.skew + p.beat) p.play
    ∷ at_most (p.beat + 2 * longest_way p + p.skew) p.read_lead
    ∷ at_most (p.read_lead + p.skew + longest_way p + p.beat) p.window_b
    ∷ at_most (p.window_a + 2 * p.play + p.skew) p.min_lead
    ∷ at_most (p.min_lead + p.batch * p.beat) p.max_lead
    ∷ at_most (p.max_lead + 4 * p.play) (p.cubs * p.play)
    ∷ at_most ((p.cubs + 4) * longest_way p) p.play
    ∷ at_most (p.pieces * (p.beat + longest_way p + p.skew)) p.play
    ∷ at_most (p.pieces + 2) p.cubs
    ∷ at_most (p.heart * p.beat + longest_way p + p.skew) p.deadman
    ∷ at_most (2 * p.play + p.skew) p.hold
    ∷ []

-- the first test that fails, numbered from n on
abbrev pub first_false : ℕ → List Test → Option PlanFault
first_false n [] = None
first_false n (t ∷ ts) =
    if t.0 then first_false (n + 1) ts
    else Some (record { condition = n; left = t.1; right = t.2 })

-- the first false condition, if there is one
unfoldable pub plan_fault : Params → Option PlanFault
plan_fault p = first_false 1 (tests p)
