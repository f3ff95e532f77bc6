-- What a run is given: its ranges, and what the clock of each node shows.
use Rattle.std.specs.Prelude.{◌≡◌, ℕ, ◌+◌, ◌-◌, ◌*◌, ◌%◌, ◌≤◌, ◌==◌, length, All, nat_lt, slice_index, Option, Some}
use Rattle.std.specs.Prelude.{None, if◌then◌else◌}
use Rattle.tiger_base.specs.Limits.{most_beats}
use Rattle.tiger_base.specs.declared.number.Stamp.{Stamp}
use Rattle.link_timing.specs.Clock.{FixedIsWithin}
use Rattle.node_kit.specs.declared.course.Course.{Course}
use Rattle.node_kit.specs.Life.{death_of, cut_of, back_of}

-- a death cuts off only who dies
abbrev pub CutsDeath : Option ℕ → Option ℕ → Type 0
CutsDeath death None = Unit {0}
CutsDeath None (Some left) = ⊥
CutsDeath (Some death) (Some left) = Unit {0}

-- only who dies returns, two beats behind the death or later
abbrev pub ReturnsLater : Option ℕ → Option ℕ → Type 0
ReturnsLater death None = Unit {0}
ReturnsLater None (Some back) = ⊥
ReturnsLater (Some death) (Some back) = death + 2 ≤ back

-- the ranges: as many beats as a run may have, an offset within the skew for each cub and for the controller, and for
-- each cub what may befall it
pub record IsCourse (c : Course) : Type 0 where
  pub beats : c.beats ≤ most_beats
  pub offsets : length c.offsets ≡ c.plan.params.cubs + 1
  pub skewed : All (λ o. o ≤ c.plan.params.skew) c.offsets
  pub deaths : length c.deaths ≡ c.plan.params.cubs
  pub cuts : length c.cuts ≡ c.plan.params.cubs
  pub backs : length c.backs ≡ c.plan.params.cubs
  pub cut_deaths : (n : ℕ) → CutsDeath (death_of c n) (cut_of c n)
  pub returns_later : (n : ℕ) → ReturnsLater (death_of c n) (back_of c n)
  pub delay : FixedIsWithin c.delay c.plan.params.delay

-- how far the clock of node n is ahead: a disk has its cub's clock, and the viewers have the true time
abbrev pub offset_of : Course → ℕ → ℕ
offset_of c n =
    let cubs = c.plan.params.cubs in
    let all = c.plan.params.cubs + c.plan.params.cubs * c.plan.params.disks in
    if nat_lt n cubs then slice_index c.offsets n
    else if nat_lt n all then slice_index c.offsets ((n - cubs) % cubs)
    else if n == all then slice_index c.offsets cubs
    else 0

-- what the clock of node n shows in a beat
abbrev pub reading_of : Course → ℕ → ℕ → ℕ
reading_of c n beat = beat * c.plan.params.beat + offset_of c n

-- the stamp of node n's events in a beat
abbrev pub stamp_in : Course → ℕ → ℕ → Stamp
stamp_in c n beat = record { beat = beat; reading = reading_of c n beat }

-- how a clock is set: how much it gains in a beat, and how far it is ahead
pub record Setting : Type 0 where
  pub step : ℕ
  pub offset : ℕ

-- how the clock of node n is set
abbrev pub setting_of : Course → ℕ → Setting
setting_of c n = record { step = c.plan.params.beat; offset = offset_of c n }

-- the stamp of a beat by a clock that is set so
abbrev pub stamp_by : Setting → ℕ → Stamp
stamp_by k beat = record { beat = beat; reading = beat * k.step + k.offset }
