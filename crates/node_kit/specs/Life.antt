-- When a node acts: a cub until it dies, and again from its return on; every other node always. And what a death that
-- comes in the middle of a beat leaves of an event.
use Rattle.std.specs.Prelude.{ℕ, ◌-◌, ◌==◌, nat_lt, nat_le, min, Bool, true, false, not, ◌&&◌, ◌||◌, List, Option}
use Rattle.std.specs.Prelude.{Some, None, is_some, slice_get, option_and_then, if◌then◌else◌}
use Rattle.tiger_base.specs.declared.number.Stamp.{Stamp}
use Rattle.node_kit.specs.declared.course.Course.{Course}
use Rattle.node_kit.specs.declared.outbox.Out.{Out}
use Rattle.node_kit.specs.Outputs.{with_death, send_count, cut_at}

-- the life of a node: the beat of its death; how many messages it may still send in that beat, if its death cuts it
-- off in the middle of it; the beat of its return; and whether its death has come in an event that it cut off
pub record Lifetime : Type 0 where
  pub death : Option ℕ
  pub left : Option ℕ
  pub back : Option ℕ
  pub over : Bool

-- a whole life: its death, if it has one, cuts no event off, and it does not return
abbrev pub mortal : Option ℕ → Lifetime
mortal death = record { death = death; left = None; back = None; over = false }

-- what a course has for node n in a row with one element for each cub
abbrev pub of_cub : Course → List (Option ℕ) → ℕ → Option ℕ
of_cub c row n = if nat_lt n c.plan.params.cubs then option_and_then (λ d. d) (slice_get row n) else None

-- the beat in which node n of a course dies, to how many messages its death cuts it off there, and the beat in which it
-- returns
abbrev pub death_of : Course → ℕ → Option ℕ
death_of c n = of_cub c c.deaths n

abbrev pub cut_of : Course → ℕ → Option ℕ
cut_of c n = of_cub c c.cuts n

abbrev pub back_of : Course → ℕ → Option ℕ
back_of c n = of_cub c c.backs n

abbrev pub lifetime_of : Course → ℕ → Lifetime
lifetime_of c n = record { death = death_of c n; left = cut_of c n; back = back_of c n; over = false }

abbrev is_before : ℕ → Option ℕ → Bool
is_before beat None = true
is_before beat (Some death) = nat_lt beat death

abbrev is_in : ℕ → Option ℕ → Bool
is_in beat None = false
is_in beat (Some death) = beat == death

abbrev is_from : ℕ → Option ℕ → Bool
is_from beat None = false
is_from beat (Some back) = nat_le back beat

-- whether the node takes messages and ticks in a beat: below that of its death, in that too if the death cuts it off
-- there and has not come, and from that of its return on
unfoldable pub acts : Lifetime → ℕ → Bool
acts life beat =
    is_before beat life.death || (is_in beat life.death && (is_some life.left && not life.over)) || is_from beat
    life.back

-- whether the node dies in a beat without an event that its death cuts off, and writes Died
unfoldable pub dies : Lifetime → ℕ → Bool
dies life beat = is_in beat life.death && not (is_some life.left)

-- whether the node returns in a beat
unfoldable pub returns : Lifetime → ℕ → Bool
returns life beat = is_in beat life.back

-- whether a return makes a message lost: it was sent in a lower beat, and arrives in that of the return or later
abbrev is_lost : ℕ → ℕ → Option ℕ → Bool
is_lost sent now None = false
is_lost sent now (Some back) = nat_lt sent back && nat_le back now

-- whether the node takes what was sent to it in beat sent, where it arrives in beat now
unfoldable pub hears : Lifetime → ℕ → ℕ → Bool
hears life sent now = not (is_lost sent now life.back)

-- how many messages the node may still send in a beat, if its death is to cut it off there and has not come
abbrev pub left_in : Lifetime → ℕ → Option ℕ
left_in life beat = if is_in beat life.death && not life.over then life.left else None

-- whether the death is to cut the node off in a beat, and has not come
abbrev pub ends_in : Lifetime → ℕ → Bool
ends_in life beat = is_some (left_in life beat)

-- how many messages of an event go out, if the death comes in it: in the event that would send more than may go out,
-- and at the latest in the tick
abbrev pub cut_by : {M : Type 0} → Option ℕ → Bool → List (Out M) → Option ℕ
cut_by None ticked outs = None
cut_by (Some k) ticked outs =
    if nat_lt k (send_count outs) || ticked then Some (min k (send_count outs)) else None

unfoldable pub cut_to : {M : Type 0} → Lifetime → Stamp → Bool → List (Out M) → Option ℕ
cut_to life stamp ticked outs = cut_by (left_in life stamp.beat) ticked outs

-- what is left of an event's outputs, and the life after it
pub record Trimmed (M : Type 0) : Type 0 where
  pub life : Lifetime
  pub outs : List (Out M)

abbrev pub fewer : ℕ → Option ℕ → Option ℕ
fewer n None = None
fewer n (Some k) = Some (k - n)

-- the life after an event that sent these outputs whole: in the beat of the death as many messages fewer may go out
abbrev pub spent : {M : Type 0} → Lifetime → Stamp → List (Out M) → Lifetime
spent life stamp outs =
    if is_in stamp.beat life.death then record life { left = fewer (send_count outs) life.left } else life

abbrev pub trimmed_to : {M : Type 0} → Lifetime → Stamp → List (Out M) → Option ℕ → Trimmed M
trimmed_to life stamp outs None = record { life = spent life stamp outs; outs = outs }
trimmed_to life stamp outs (Some k) =
    record { life = record life { over = true }; outs = with_death (cut_at k outs) }

unfoldable pub trimmed : {M : Type 0} → Lifetime → Stamp → Bool → List (Out M) → Trimmed M
trimmed life stamp ticked outs = trimmed_to life stamp outs (cut_to life stamp ticked outs)
