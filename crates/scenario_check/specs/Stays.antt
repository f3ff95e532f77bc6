-- Who has started and neither was stopped nor has played to the end.
use Rattle.std.specs.Prelude.{ℕ, ◌+◌, ◌-◌, ◌*◌, ◌/◌, Bool, false, not, ◌&&◌, ◌==◌, nat_lt, nat_le, if◌then◌else◌, List, [], ◌∷◌, ◌++◌, Option, Some, None}
use Rattle.std.specs.Option.{option_or}
use Rattle.std.specs.List.{count_by}
use Rattle.slot_plan.specs.declared.params.Params.{Params}
use Rattle.node_kit.specs.declared.course.Order.{Order}
use Rattle.node_kit.specs.declared.course.OrderKind.{OrderKind}
use Rattle.node_kit.specs.declared.course.OrderKind.TheVariants.{Begin, Finish}
use Rattle.scenario_check.specs.declared.stays.Stay.{Stay}
use Rattle.scenario_check.specs.declared.stays.Crowd.{Crowd}

-- the beat, if what is ordered in it stops an instance
abbrev pub stop_in_beat : ℕ → ℕ → OrderKind → Option ℕ
stop_in_beat v beat (Begin ask) = None
stop_in_beat v beat (Finish stopped) = if stopped.0 == v then Some beat else None

abbrev pub stop_by : ℕ → Order → Option ℕ
stop_by v o = stop_in_beat v o.beat o.what

-- the beat in which an instance is first ordered to stop, if it is
abbrev pub first_stop : ℕ → List Order → Option ℕ
first_stop v [] = None
first_stop v (o ∷ os) = option_or (stop_by v o) (first_stop v os)

-- the stay that is ordered in a beat among all orders: as many blocks as its file has, until it is stopped, if it is
abbrev pub stays_in_beat : List Order → ℕ → OrderKind → List Stay
stays_in_beat all beat (Begin ask) =
    record { from = beat; blocks = ask.count; stopped = first_stop ask.instance.0 all } ∷ []
stays_in_beat all beat (Finish v) = []

abbrev pub stays_by : List Order → Order → List Stay
stays_by all o = stays_in_beat all o.beat o.what

abbrev pub stays_among : List Order → List Order → List Stay
stays_among all [] = []
stays_among all (o ∷ os) = stays_by all o ++ stays_among all os

-- the stay of each start
abbrev pub stays_of : List Order → List Stay
stays_of orders = stays_among orders orders

abbrev pub is_stopped_by : ℕ → Option ℕ → Bool
is_stopped_by beat None = false
is_stopped_by beat (Some stop) = nat_le stop beat

-- In a beat a viewer stays that has started by then, was not stopped by then, and has more blocks than block play times
-- have passed since.
abbrev pub is_staying : Params → ℕ → Stay → Bool
is_staying p beat s =
    nat_le s.from beat && nat_lt ((beat - s.from) * p.beat / p.play) s.blocks
    && not (is_stopped_by beat s.stopped)

-- how many viewers stay in a beat
abbrev pub viewers_in : Params → ℕ → List Stay → ℕ
viewers_in p beat stays = count_by (is_staying p beat) stays

-- the viewers in the beat of a start, if they are more than there are slots
abbrev pub crowd_at : Params → List Stay → Stay → Option Crowd
crowd_at p all s =
    if nat_lt p.slots (viewers_in p s.from all)
    then Some (record { beat = s.from; viewers = viewers_in p s.from all })
    else None

-- those of the first start in whose beat they are
abbrev pub crowd_among : Params → List Stay → List Stay → Option Crowd
crowd_among p all [] = None
crowd_among p all (s ∷ ss) = option_or (crowd_at p all s) (crowd_among p all ss)
