-- When entries are written: at readings within the skew, in beats of the run, none below the one before it; a death is
-- the last entry.
use Rattle.std.specs.Prelude.{◌≡◌, ℕ, ◌+◌, ◌%◌, ◌<◌, ◌≤◌, Bool, true, false, nat_lt, List, [], ◌∷◌, ◌++◌, Option, Some}
use Rattle.std.specs.Prelude.{None, slice_get, ◌⊎◌, if◌then◌else◌}
use Rattle.std.specs.List.{AllByRecursion}
use Rattle.slot_plan.specs.declared.params.Params.{Params}
use Rattle.slot_plan.specs.Times.{time_of}
use Rattle.node_kit.specs.declared.journal.What.{What}
use Rattle.node_kit.specs.declared.journal.What.TheVariants as what
use Rattle.node_kit.specs.declared.journal.Entry.{Entry}
use Rattle.node_kit.specs.Life.{Lifetime}

-- the reading is the true time of the beat or later, by the skew at most
pub record IsRead (p : Params) (e : Entry) : Type 0 where
  pub low : time_of p e.stamp.beat ≤ e.stamp.reading
  pub high : e.stamp.reading ≤ time_of p e.stamp.beat + p.skew

-- an entry is neither in a lower beat nor at a lower reading than one before it
pub record IsNotBelow (e f : Entry) : Type 0 where
  pub beat : e.stamp.beat ≤ f.stamp.beat
  pub reading : e.stamp.reading ≤ f.stamp.reading

abbrev pub AreRising : List Entry → Type 0
AreRising [] = Unit {0}
AreRising (e ∷ es) = AllByRecursion (IsNotBelow e) es × AreRising es

abbrev pub is_died : What → Bool
is_died what.Died = true
is_died other = false

abbrev pub is_returned : What → Bool
is_returned what.Returned = true
is_returned other = false

-- the death, if the run comes to its beat
abbrev pub death_within : ℕ → Option ℕ → Option ℕ
death_within beats None = None
death_within beats (Some death) = if nat_lt death beats then Some death else None

-- an entry before a death is in a lower beat, or in that of the death if it cuts the node off
abbrev pub IsUntil : Option ℕ → ℕ → ℕ → Type 0
IsUntil None death beat = beat < death
IsUntil (Some left) death beat = beat ≤ death

-- behind a death nothing stands, or what is written from the return on
abbrev pub IsLater : Option ℕ → List Entry → Type 0
IsLater None journal = journal ≡ []
IsLater (Some back) journal = AllByRecursion (λ e. (is_died e.what ≡ false) × (back ≤ e.stamp.beat)) journal

-- Died stands in the beat of the death, once, and all before it in lower beats or, if it cuts the node off, in no
-- higher one; it is the last entry, or all behind it is of beats from the return on
pub record EndsInDeath (life : Lifetime) (death : ℕ) (journal : List Entry) : Type 0 where
  pub before : List Entry
  pub last : Entry
  pub later : List Entry
  pub all : journal ≡ before ++ last ∷ later
  pub died : last.what ≡ what.Died
  pub in_beat : last.stamp.beat ≡ death
  pub alone : AllByRecursion (λ e. (is_died e.what ≡ false) × IsUntil life.left death e.stamp.beat) before
  pub back : IsLater life.back later

-- Died stands exactly where there is a death
abbrev pub IsDeathOf : Lifetime → Option ℕ → List Entry → Type 0
IsDeathOf life None journal = AllByRecursion (λ e. is_died e.what ≡ false) journal
IsDeathOf life (Some death) journal = EndsInDeath life death journal

-- Returned is exactly the entry behind Died, and stands in the beat of the return: this is a law of cubs, which write
-- it themselves, and not of every node
abbrev pub AreReturned : Option ℕ → Bool → List Entry → Type 0
AreReturned back died [] = Unit {0}
AreReturned back died (e ∷ es) =
    (is_returned e.what ≡ died) × (died ≡ true → back ≡ Some e.stamp.beat) × AreReturned back (is_died e.what) es

-- a journal of so many beats is timed, where its node has this life
pub record IsTimed (p : Params) (beats : ℕ) (life : Lifetime) (journal : List Entry) : Type 0 where
  pub reads : AllByRecursion (IsRead p) journal
  pub rising : AreRising journal
  pub early : AllByRecursion (λ e. e.stamp.beat < beats) journal
  pub death : IsDeathOf life (death_within beats life.death) journal

-- all journals are
abbrev pub AreTimed : Params → ℕ → (ℕ → Lifetime) → List (List Entry) → Type 0
AreTimed p beats lives journals =
    (n : ℕ) (journal : List Entry) → slice_get journals n ≡ Some journal → IsTimed p beats (lives n) journal

-- of two cubs that stand side by side in the ring at most one has a death
abbrev pub DieApart : Params → (ℕ → Lifetime) → Type 0
DieApart p lives = (n : ℕ) → n < p.cubs → ((lives n).death ≡ None) ⊎ ((lives ((n + 1) % p.cubs)).death ≡ None)
