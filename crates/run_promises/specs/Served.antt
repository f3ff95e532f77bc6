-- What a viewer that was put may rely on: each block that nothing hinders comes, and one death costs one block at most.
use Rattle.std.specs.Prelude.{◌≡◌, ◌≢◌, ℕ, ◌+◌, ◌*◌, ◌<◌, ◌≤◌, true, [], Some, None, ◌⊎◌}
use Rattle.std.specs.List.{AllByRecursion}
use Rattle.tiger_base.specs.declared.tenancy.Tenancy.{Tenancy}
use Rattle.slot_plan.specs.declared.params.Params.{Params}
use Rattle.slot_plan.specs.Times.{due, cub_of, disk_of, time_of, takeover}
use Rattle.node_kit.specs.declared.course.Kept.{Kept}
use Rattle.node_kit.specs.Life.{lifetime_of}
use Rattle.run_facts.specs.Commanded.{stop_ordered}
use Rattle.run_model.specs.Served.{IsPut, IsDelivered, IsSettled}

-- a visit of a tenancy that is settled at the end of the run
pub record IsSettledVisit (k : Kept) (t : Tenancy) (visit : ℕ) : Type 0 where
  pub first : t.first ≤ visit
  pub last : visit ≤ t.last
  pub settled : IsSettled k.course.plan.params (time_of k.course.plan.params k.course.beats) t.slot.0 visit

-- the block of a visit of a tenancy came
abbrev pub Came : Kept → Tenancy → ℕ → Type 0
Came k t visit = IsDelivered k.course.plan.params k.catalogue k.journals t.instance.0 visit

-- no order stops an instance before a time
abbrev pub IsNotStoppedBefore : Kept → ℕ → ℕ → Type 0
IsNotStoppedBefore k v time =
    (beat : ℕ) → stop_ordered k.orders v beat ≡ true → time ≤ time_of k.course.plan.params beat

-- the cub of a visit does not die before the block has left: within a beat after it is due
abbrev pub LivesPast : Kept → ℕ → ℕ → Type 0
LivesPast k slot visit = (death : ℕ)
    → (lifetime_of k.course (cub_of k.course.plan.params visit)).death ≡ Some death
    → due k.course.plan.params slot visit + k.course.plan.params.beat ≤ time_of k.course.plan.params death

-- the disk of a visit has no read fault
abbrev pub HasNoFault : Kept → ℕ → Type 0
HasNoFault k visit = AllByRecursion (λ f. f.disk.0 ≢ disk_of k.course.plan.params visit) k.course.faults

-- a block comes if its cub lives until it has left, its disk has no read fault, and its viewer is not stopped before it
-- has played; whatever happens to all others
abbrev pub WhatNothingHindersComes : Kept → Type 0
WhatNothingHindersComes k = (t : Tenancy) (visit : ℕ) → IsPut k.journals t → IsSettledVisit k t visit
    → IsNotStoppedBefore k t.instance.0 (due k.course.plan.params t.slot.0 visit + k.course.plan.params.play)
    → LivesPast k t.slot.0 visit → HasNoFault k visit → Came k t visit

-- ---- one death

-- no cub dies but one
abbrev pub OnlyOneDies : Kept → ℕ → Type 0
OnlyOneDies k cub = (n : ℕ) → n < k.course.plan.params.cubs → n ≢ cub → (lifetime_of k.course n).death ≡ None

-- a death is taken over in a round of the cubs: before the next visit of the dead cub that it could cost
abbrev pub IsTakenOverInARound : Params → Type 0
IsTakenOverInARound p = takeover p + p.beat ≤ p.cubs * p.play + 1

-- if one cub dies and no read fails, of any two blocks of a viewer one comes, unless it is stopped before
abbrev pub OneDeathCostsOneBlock : Kept → Type 0
OneDeathCostsOneBlock k = (t : Tenancy) (cub m n : ℕ) → IsPut k.journals t
    → IsSettledVisit k t m → IsSettledVisit k t n → m < n
    → IsNotStoppedBefore k t.instance.0 (due k.course.plan.params t.slot.0 n + k.course.plan.params.play)
    → k.course.faults ≡ [] → OnlyOneDies k cub → IsTakenOverInARound k.course.plan.params
    → Came k t m ⊎ Came k t n
