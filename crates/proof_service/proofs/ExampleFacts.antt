-- What the facts of a worked run are, over its first visit, its length and the beat of a return.
use Rattle.std.specs.Prelude.{◌≡◌, ◌≢◌, ℕ, ◌+◌, ◌*◌, ◌<◌, ◌≤◌, ◌⊎◌, List, [], ◌∷◌}
use Rattle.std.proofs.Common.{refl, inl, inr}
use Rattle.std.specs.List.{AllByRecursion, Contains}
use Rattle.tiger_base.specs.declared.tenancy.Tenancy.{Tenancy}
use Rattle.slot_plan.specs.Times.{cub_of, disk_of}
use Rattle.proof_schedule.specs.Logs.{Fact, Came, Ticked, Put, Inserted, Took, Shows, Sent, Got, Begun, Asked, AskedApart, Gone, StoppedAt, StoppedWaiting, Told, Reached, GotTag, GotBare, Passed, Died, Returned, Beat, Heard, Believed}
use Rattle.proof_service.specs.Example.{plan, order}

-- The tenancy of two visits, from a visit on.
abbrev pub viewer_from : ℕ → Tenancy
viewer_from first = record {
  instance = record { 0 = 0 };
  file = record { 0 = 0 };
  slot = record { 0 = 1 };
  first = first;
  last = first + 1;
}

-- The state of visit m goes to the k-th cub after cub 0.
abbrev pub IsState : ℕ → ℕ → ℕ → Type 0
IsState first k m = ((k ≡ 1) × (m ≡ first))
    ⊎ (((k ≡ 1) × (m ≡ first + 1)) ⊎ ((k ≡ 2) × (m ≡ first + 1)))

-- Cub c is up in beat b of its first life: cub 1 dies in beat 20, and the others go on to the end.
abbrev pub IsAtFirst : ℕ → ℕ → ℕ → Type 0
IsAtFirst long c b = ((c ≡ 1) × (b < 20)) ⊎ ((c ≢ 1) × (b < long))

-- Cub c is up in beat b, in its first life, or as cub 1 since its return.
abbrev pub IsOn : ℕ → ℕ → ℕ → ℕ → Type 0
IsOn long back c b = IsAtFirst long c b ⊎ ((c ≡ 1) × (back ≤ b) × (b < long))

-- Each fact of the run is one of these: of a kind that is not listed there is none.
abbrev pub IsIts : ℕ → ℕ → ℕ → Fact → Type 0
IsIts first long back (Came c b) = (c < 8) × IsOn long back c b
IsIts first long back (Ticked c b l) = (c < 8) × IsOn long back c b × (l ≡ b * 10000)
IsIts first long back (Put c t b) = (c ≡ 0) × (t ≡ viewer_from first) × (b ≡ first * 100 + 1)
IsIts first long back (Inserted c t n b) =
    (c ≡ 0) × (t ≡ viewer_from first) × (n ≡ first) × (b ≡ first * 100 + 1)
IsIts first long back (Took c t n b) =
    (t ≡ viewer_from first) × (b ≡ first * 100 + 2) × IsState first c n
IsIts first long back (Shows c t n b) = ⊥
IsIts first long back (Sent a k t m b) =
    (a ≡ 0) × (t ≡ viewer_from first) × (b ≡ first * 100 + 1) × IsState first k m
IsIts first long back (Got c t m b) =
    (t ≡ viewer_from first) × (b ≡ first * 100 + 2) × IsState first c m
IsIts first long back (Begun ask b) = (ask ≡ order) × (b ≡ first * 100)
IsIts first long back (Asked c ask b) = (c ≡ 0) × (ask ≡ order) × (b ≡ first * 100 + 1)
IsIts first long back (AskedApart c ask b) = (c ≡ 1) × (ask ≡ order) × (b ≡ first * 100 + 1)
IsIts first long back (Gone v b) = ⊥
IsIts first long back (StoppedAt v s n b) = ⊥
IsIts first long back (StoppedWaiting v d b) = ⊥
IsIts first long back (Told a k v s q b) = ⊥
IsIts first long back (Reached c v b) = ⊥
IsIts first long back (GotTag c v s q b) = ⊥
IsIts first long back (GotBare c v b) = ⊥
IsIts first long back (Passed c v s q b) = ⊥
IsIts first long back (Died c b) = (c ≡ 1) × (b ≡ 20)
IsIts first long back (Returned c b) = (c ≡ 1) × (b ≡ back) × (back < long)
IsIts first long back (Beat c b) = (c < 8) × IsAtFirst long c b
IsIts first long back (Heard c y) = (a x : ℕ) × (a < 8) × IsAtFirst long a x
    × (c ≡ cub_of plan (a + 1)) × (y ≡ x + 1) × IsOn long back c y
IsIts first long back (Believed c b) = (c ≡ 2) × (b ≡ 121)

-- The facts of the run that are no ticks: the order comes in the beat before its Put, and the
-- states of both visits come in the beat after it.
abbrev pub few_from : ℕ → List Fact
few_from first =
    Begun order (first * 100)
    ∷ Asked 0 order (first * 100 + 1)
    ∷ AskedApart 1 order (first * 100 + 1)
    ∷ Put 0 (viewer_from first) (first * 100 + 1)
    ∷ Inserted 0 (viewer_from first) first (first * 100 + 1)
    ∷ Sent 0 1 (viewer_from first) first (first * 100 + 1)
    ∷ Sent 0 1 (viewer_from first) (first + 1) (first * 100 + 1)
    ∷ Sent 0 2 (viewer_from first) (first + 1) (first * 100 + 1)
    ∷ Got 1 (viewer_from first) first (first * 100 + 2)
    ∷ Got 1 (viewer_from first) (first + 1) (first * 100 + 2)
    ∷ Got 2 (viewer_from first) (first + 1) (first * 100 + 2)
    ∷ Took 1 (viewer_from first) first (first * 100 + 2)
    ∷ Took 1 (viewer_from first) (first + 1) (first * 100 + 2)
    ∷ Took 2 (viewer_from first) (first + 1) (first * 100 + 2)
    ∷ Died 1 20
    ∷ Believed 2 121
    ∷ []

-- Each of them is one of the run's.
pub few_its : (first long back : ℕ) → AllByRecursion (IsIts first long back) (few_from first)
few_its first long back = (
  (refl, refl),
  (
    (refl, refl, refl),
    (
      (refl, refl, refl),
      (
        (refl, refl, refl),
        (
          (refl, refl, refl, refl),
          (
            (refl, refl, refl, inl (refl, refl)),
            (
              (refl, refl, refl, inr (inl (refl, refl))),
              (
                (refl, refl, refl, inr (inr (refl, refl))),
                (
                  (refl, refl, inl (refl, refl)),
                  (
                    (refl, refl, inr (inl (refl, refl))),
                    (
                      (refl, refl, inr (inr (refl, refl))),
                      (
                        (refl, refl, inl (refl, refl)),
                        (
                          (refl, refl, inr (inl (refl, refl))),
                          (
                            (refl, refl, inr (inr (refl, refl))),
                            ((refl, refl), ((refl, refl), tt)),
                          ),
                        ),
                      ),
                    ),
                  ),
                ),
              ),
            ),
          ),
        ),
      ),
    ),
  ),
)

-- A log is that of the run: each of its facts is one of these, and each of these is in it.
pub record IsWorked (first long back : ℕ) (log : List Fact) : Type 0 where
  pub its : (f : Fact) → Contains log f → IsIts first long back f
  pub few : (f : Fact) → Contains (few_from first) f → Contains log f
  pub came : (c b : ℕ) → c < 8 → IsOn long back c b → Contains log (Came c b)
  pub ticked : (c b : ℕ) → c < 8 → IsOn long back c b → Contains log (Ticked c b (b * 10000))
  pub beats : (c b : ℕ) → c < 8 → IsAtFirst long c b → Contains log (Beat c b)
  pub hears : (a x : ℕ) → a < 8 → IsAtFirst long a x → IsOn long back (cub_of plan (a + 1)) (x + 1)
      → Contains log (Heard (cub_of plan (a + 1)) (x + 1))
  pub returned : back < long → Contains log (Returned 1 back)

-- The numbers of a run: the first visit is cub 0's, and the run is long enough. The order comes
-- before cub 1 dies, which then does not come back, or long after it has come back.
pub record IsTimed (first long back : ℕ) : Type 0 where
  pub first_cub : cub_of plan first ≡ 0
  pub second_cub : cub_of plan (first + 1) ≡ 1
  pub third_cub : cub_of plan (first + 1 + 1) ≡ 2
  pub disk : disk_of plan first ≡ 0
  pub high : first * 100 + 300 < long
  pub death : 20 < back
  pub when : ((first * 100 + 2 < 20) × (back ≡ long))
      ⊎ ((back + 1000 ≤ first * 100) × (back < long))
