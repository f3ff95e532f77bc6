-- Short journals and the events that they tell, of which the worked rows speak.
use Rattle.std.specs.Prelude.{◌≡◌, ℕ, List, map, Some, None}
use Rattle.tiger_base.specs.declared.message.Note.{Note}
use Rattle.tiger_base.specs.declared.message.Note.TheVariants.{Heartbeat, Deschedule}
use Rattle.node_kit.specs.declared.course.Course.{Course}
use Rattle.node_kit.specs.declared.journal.Entry.{Entry}
use Rattle.node_kit.specs.declared.journal.What.TheVariants as what
use Rattle.node_kit.specs.Life.{lifetime_of, mortal, death_of, cut_of, back_of}
use Rattle.run_facts.specs.Events.{Dated}
use Rattle.ring_world.specs.declared.event.Act.{Act}
use Rattle.ring_world.specs.declared.event.Act.TheVariants as act
use Rattle.ring_world.specs.declared.event.Last.TheVariants as last
use Rattle.ring_world.specs.declared.event.Event.{Event}

-- a heartbeat was got on a link in a beat, or was sent there
abbrev pub got : ℕ → ℕ → Entry
got beat link =
    record { stamp = record { beat = beat; reading = 0 }; what = what.Got (record { 0 = link }) Heartbeat }

abbrev pub sent : ℕ → ℕ → Entry
sent beat link =
    record { stamp = record { beat = beat; reading = 0 }; what = what.Sent (record { 0 = link }) Heartbeat }

-- nothing is lost on any link
abbrev pub none_lost : ℕ → ℕ
none_lost l = 0

-- four messages are lost on each link
abbrev pub four_lost : ℕ → ℕ
four_lost l = 4

-- the message of a number is got on a link; node n ticks; cub n dies, or returns
abbrev pub get : ℕ → ℕ → Act
get link number = act.Get (record { 0 = link }) number

abbrev pub tick : ℕ → Act
tick n = act.Tick (record { 0 = n })

abbrev pub die : ℕ → Act
die n = act.Die (record { 0 = n })

abbrev pub back : ℕ → Act
back n = act.Return (record { 0 = n })

-- and in a beat
abbrev pub get_in : ℕ → ℕ → ℕ → Dated Act
get_in beat link number = record { beat = beat; item = get link number }

-- what events are, without their stamps
abbrev pub acts_of : List Event → List Act
acts_of events = map (λ e. e.act) events

-- node n dies in a beat of the course, or in none
abbrev pub DiesIn : Course → ℕ → ℕ → Type 0
DiesIn c n beat = lifetime_of c n ≡ mortal (Some beat)

abbrev pub LivesOn : Course → ℕ → Type 0
LivesOn c n = lifetime_of c n ≡ mortal None

-- node n dies in a beat of the course apart from any event, and returns in another one
abbrev pub ReturnsFrom : Course → ℕ → ℕ → ℕ → Type 0
ReturnsFrom c n death back = (death_of c n ≡ Some death) × (cut_of c n ≡ None) × (back_of c n ≡ Some back)

-- its death comes in an event of a beat of the course, and it does not return
abbrev pub IsCutIn : Course → ℕ → ℕ → Type 0
IsCutIn c n beat = (death_of c n ≡ Some beat) × (cut_of c n ≡ Some 1) × (back_of c n ≡ None)

-- an instance is to stop: that was got, or passed on, or its start was dropped
abbrev pub stop_note : Note
stop_note = Deschedule (record { 0 = 7 }) None

abbrev pub stop_got : ℕ → ℕ → Entry
stop_got beat link = record { stamp = record { beat = beat; reading = 0 }; what = what.Got (record { 0 = link }) stop_note }

abbrev pub stop_passed : ℕ → ℕ → Entry
stop_passed beat link = record { stamp = record { beat = beat; reading = 0 }; what = what.Sent (record { 0 = link }) stop_note }

abbrev pub start_dropped : ℕ → Entry
start_dropped beat = record { stamp = record { beat = beat; reading = 0 }; what = what.Unqueued (record { 0 = 7 }) }

-- the death
abbrev pub death_told : ℕ → Entry
death_told beat = record { stamp = record { beat = beat; reading = 0 }; what = what.Died }

-- the death comes in the take of the message of a number, or in the tick, with so many messages
abbrev pub cut_get : ℕ → ℕ → ℕ → Act
cut_get link number sends = act.DieIn (last.Get (record { 0 = link }) number) sends

abbrev pub cut_tick : ℕ → ℕ → Act
cut_tick n sends = act.DieIn (last.Tick (record { 0 = n })) sends
