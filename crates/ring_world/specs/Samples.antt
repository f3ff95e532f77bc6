-- Small machines and events, of which the worked rows speak. Messages and states are numbers.
use Rattle.std.specs.Prelude.{ℕ, zero, suc, ◌*◌, ◌==◌, Bool, true, false, List, [], ◌∷◌, ◌++◌, Option, Some, None}
use Rattle.std.specs.Prelude.{if◌then◌else◌}
use Rattle.tiger_base.specs.declared.message.Note.TheVariants.{Heartbeat}
use Rattle.slot_plan.specs.Samples.{small}
use Rattle.node_kit.specs.declared.journal.Entry.{Entry}
use Rattle.node_kit.specs.declared.journal.What.TheVariants as what
use Rattle.node_kit.specs.declared.outbox.Out.TheVariants as out
use Rattle.node_kit.specs.declared.outbox.Out.TheVariants.{Send}
use Rattle.node_kit.specs.Steps.{Input, Deed}
use Rattle.node_kit.specs.Steps.Input.{Take, Tick}
use Rattle.run_facts.specs.Events.{Dated, opening}
use Rattle.run_facts.specs.Events.NodeEvent.{Does, Ends, Dies, Returns}
use Rattle.ring_world.specs.declared.event.Act.{Act}
use Rattle.ring_world.specs.declared.event.Act.TheVariants as act
use Rattle.ring_world.specs.declared.event.Last.TheVariants as last
use Rattle.ring_world.specs.declared.event.Event.{Event}
use Rattle.ring_world.specs.declared.event.StepFault.{StepFault}
use Rattle.ring_world.specs.declared.event.StepFault.TheVariants as fault
use Rattle.ring_world.specs.Machine.{Machine, Being, Way, undying, happens, journals_of, opening_machine}
use Rattle.ring_world.specs.Faults.{fault_of}
use Rattle.ring_world.specs.Merging.{Happening}

-- a node that ticked so often, and had its last event before this beat, at this reading; if it is dead, it died in beat
-- 0
abbrev pub node : ℕ → ℕ → ℕ → Bool → Being ℕ
node ticked acted reading dead = record {
  past = opening 0 undying;
  ticked = ticked;
  acted = acted;
  reading = reading;
  dead = dead;
  died = if dead then Some 0 else None;
  returned = false;
}

-- a node that lives and ticked so often, at reading 0
abbrev pub living : ℕ → Being ℕ
living ticked = node ticked ticked 0 false

-- a node to which nothing has happened, or that died in beat 0
abbrev pub cub : Bool → Being ℕ
cub true = node 0 1 0 true
cub false = node 0 0 0 false

-- a node that died in a beat, and is dead; one that died in beat 0 and returned, having ticked so often since beat 0; and
-- one that is dead again
abbrev pub dead_since : ℕ → Being ℕ
dead_since death = record {
  past = opening 0 undying;
  ticked = death;
  acted = suc death;
  reading = 0;
  dead = true;
  died = Some death;
  returned = false;
}

abbrev pub back_again : ℕ → Bool → Being ℕ
back_again ticked dead = record {
  past = opening 0 undying;
  ticked = ticked;
  acted = ticked;
  reading = 0;
  dead = dead;
  died = Some 0;
  returned = true;
}

-- the machine in a beat, with these nodes and no links
abbrev pub machine : ℕ → List (Being ℕ) → Machine ℕ ℕ
machine now beings = record { beat = now; beings = beings; ways = []; events = [] }

-- a link from which nothing is gone, and message 5 is under way, sent in this beat
abbrev pub way : ℕ → Way ℕ
way sent = record { gone = 0; under_way = (record { beat = sent; item = 5 }) ∷ [] }

-- a link from which so many messages are gone, with messages 5, 6 and 7 under way, of beats 0, 1 and 2, or with so many
-- of these gone
abbrev pub dated : ℕ → ℕ → Dated ℕ
dated beat msg = record { beat = beat; item = msg }

abbrev pub three_sent : Way ℕ
three_sent = record { gone = 0; under_way = dated 0 5 ∷ dated 1 6 ∷ dated 2 7 ∷ [] }

abbrev pub one_left : Way ℕ
one_left = record { gone = 2; under_way = dated 2 7 ∷ [] }

-- links to other nodes than node 0, on which nothing was sent
abbrev pub still : Way ℕ
still = record { gone = 0; under_way = [] }

-- the machine in a beat, with node 0 alone and these links
abbrev pub linked : ℕ → Being ℕ → List (Way ℕ) → Machine ℕ ℕ
linked now being ways = record { beat = now; beings = being ∷ []; ways = ways; events = [] }

-- the ring in beat 0, in which of the cubs 3, 4 and 5 these are dead, and the others and the cubs besides live
abbrev pub with_dead : Bool → Bool → Bool → Machine ℕ ℕ
with_dead three four five =
    machine 0 (cub false ∷ cub false ∷ cub false ∷ cub three ∷ cub four ∷ cub five ∷ cub false ∷ cub false ∷ [])

-- the ring in a beat, in which cub 3 died in beat 0 and has returned, and the others have ticked in each beat before
abbrev pub with_back : ℕ → Machine ℕ ℕ
with_back now = machine now (living now ∷ living now ∷ living now ∷ back_again now false ∷ living now ∷ living now
    ∷ living now ∷ living now ∷ [])

-- the ring in beat 0, in which of the cubs 0, 1 and 7 these are dead
abbrev pub with_dead_ends : Bool → Bool → Bool → Machine ℕ ℕ
with_dead_ends first second last =
    machine 0 (cub first ∷ cub second ∷ cub false ∷ cub false
    ∷ cub false ∷ cub false ∷ cub false ∷ cub last ∷ [])

-- message number k of link 0 is taken; node n ticks; cub n dies, apart or in such an event, of which so many messages go
-- out; cub n returns
abbrev pub get : ℕ → Act
get k = act.Get (record { 0 = 0 }) k

abbrev pub tick : ℕ → Act
tick n = act.Tick (record { 0 = n })

abbrev pub die : ℕ → Act
die n = act.Die (record { 0 = n })

abbrev pub die_in_get : ℕ → ℕ → Act
die_in_get k sends = act.DieIn (last.Get (record { 0 = 0 }) k) sends

abbrev pub die_in_tick : ℕ → ℕ → Act
die_in_tick n sends = act.DieIn (last.Tick (record { 0 = n })) sends

abbrev pub come_back : ℕ → Act
come_back n = act.Return (record { 0 = n })

-- why this act may not happen to the machine in a beat, at a reading, with the plan of worked examples
abbrev pub refusal : Machine ℕ ℕ → ℕ → ℕ → Act → Option StepFault
refusal m beat reading what =
    fault_of small m (record { stamp = record { beat = beat; reading = reading }; act = what })

-- nodes that send message 5 on link 0 at each tick, and nothing else
abbrev pub sender : ℕ → Input ℕ → Deed ℕ ℕ
sender s (Take stamp link msg) = record { outs = []; state = s }
sender s (Tick stamp) = record { outs = Send (record { 0 = 0 }) 5 ∷ []; state = s }

-- the machine of such nodes after this act in a beat, at a reading
abbrev pub after_act : Machine ℕ ℕ → ℕ → ℕ → Act → Machine ℕ ℕ
after_act m beat reading what =
    happens (λ _. Heartbeat) sender small m (record { stamp = record { beat = beat; reading = reading }; act = what })

-- nodes that at each tick send messages 5 and 6 on link 0, write an entry, and send message 7
abbrev pub talker : ℕ → Input ℕ → Deed ℕ ℕ
talker s (Take stamp link msg) = record { outs = []; state = s }
talker s (Tick stamp) = record {
  outs = Send (record { 0 = 0 }) 5 ∷ Send (record { 0 = 0 }) 6 ∷ out.Act (what.Gone (record { 0 = 0 }))
      ∷ Send (record { 0 = 0 }) 7 ∷ [];
  state = s;
}

-- the machine of one such node after its death in the tick of beat 0, of which so many messages go out; and what that
-- node wrote, and what is under way on link 0
abbrev pub cut_off : ℕ → Machine ℕ ℕ
cut_off sends = happens (λ _. Heartbeat) talker small (linked 0 (living 0) (still ∷ []))
    (record { stamp = record { beat = 0; reading = 0 }; act = die_in_tick 0 sends })

abbrev wrote : List (List Entry) → List Entry
wrote [] = []
wrote (journal ∷ journals) = journal

abbrev pub written_by : Machine ℕ ℕ → List Entry
written_by m = wrote (journals_of m)

-- entries of beat 0: a message was sent on link 0, instance 0 is gone, and the node died
abbrev pub sent : Entry
sent = record { stamp = record { beat = 0; reading = 0 }; what = what.Sent (record { 0 = 0 }) Heartbeat }

abbrev pub gone : Entry
gone = record { stamp = record { beat = 0; reading = 0 }; what = what.Gone (record { 0 = 0 }) }

abbrev pub death : Entry
death = record { stamp = record { beat = 0; reading = 0 }; what = what.Died }

-- node 0 takes message 5 on a link in beat 1, at reading 10000
abbrev pub took_on : ℕ → Happening ℕ
took_on l =
    record { node = 0; event = Does (Take (record { beat = 1; reading = 10000 }) (record { 0 = l }) 5) }

-- node 0 takes the message of a number on a link then
abbrev pub get_of : ℕ → ℕ → Event
get_of l k = record { stamp = record { beat = 1; reading = 10000 }; act = act.Get (record { 0 = l }) k }

-- node 0 dies in beat 1, and returns in beat 3
abbrev pub died_then : Happening ℕ
died_then = record { node = 0; event = Dies (record { beat = 1; reading = 10000 }) }

abbrev pub cut_then : Happening ℕ
cut_then = record { node = 0; event = Ends (Take (record { beat = 1; reading = 10000 }) (record { 0 = 0 }) 5) 2 }

abbrev pub back_then : Happening ℕ
back_then = record { node = 0; event = Returns (record { beat = 3; reading = 30000 }) }

-- an act in a beat, at its true time
abbrev pub in_beat : ℕ → Act → Event
in_beat beat what = record { stamp = record { beat = beat; reading = beat * 10000 }; act = what }

-- node n has not ticked; cub n is dead; cub n may not return; node n has ticked; the message is not the next on link l;
-- one of a beat is late on link l; cub n beside is dead
abbrev pub tick_missed : ℕ → Option StepFault
tick_missed n = Some (fault.TickMissed (record { 0 = n }))

abbrev pub dead_cub : ℕ → Option StepFault
dead_cub n = Some (fault.Dead (record { 0 = n }))

abbrev pub not_back : ℕ → Option StepFault
not_back n = Some (fault.NotBack (record { 0 = n }))

abbrev pub ticked_node : ℕ → Option StepFault
ticked_node n = Some (fault.Ticked (record { 0 = n }))

abbrev pub not_next : ℕ → Option StepFault
not_next l = Some (fault.NotNext (record { 0 = l }))

abbrev pub too_late : ℕ → ℕ → Option StepFault
too_late l sent = Some (fault.TooLate (record { 0 = l }) sent)

abbrev pub dead_beside : ℕ → Option StepFault
dead_beside n = Some (fault.NeighbourDead (record { 0 = n }))

-- the ring of worked examples: its nodes are their numbers, of which node 16, the controller, sends message 5 on link 0 at
-- each tick, and nobody sends anything else
abbrev pub commander : ℕ → Input ℕ → Deed ℕ ℕ
commander s (Take stamp link msg) = record { outs = []; state = s }
commander s (Tick stamp) = record { outs = if s == 16 then Send (record { 0 = 0 }) 5 ∷ [] else []; state = s }

abbrev pub ring : Machine ℕ ℕ
ring = opening_machine small (0 ∷ 1 ∷ 2 ∷ 3 ∷ 4 ∷ 5 ∷ 6 ∷ 7 ∷ 8 ∷ 9 ∷ 10 ∷ 11 ∷ 12 ∷ 13 ∷ 14 ∷ 15 ∷ 16 ∷ 17 ∷ [])

-- all its nodes tick in a beat
abbrev ticks_below : ℕ → ℕ → List Event
ticks_below beat zero = []
ticks_below beat (suc n) = ticks_below beat n ++ in_beat beat (tick n) ∷ []

abbrev pub all_tick : ℕ → List Event
all_tick beat = ticks_below beat 18

-- the machine after these events, if none of them is refused; and why each of some events is refused, of which a refused
-- one changes nothing
abbrev pub after_events : Machine ℕ ℕ → List Event → Machine ℕ ℕ
after_events m [] = m
after_events m (e ∷ es) = after_events (happens (λ _. Heartbeat) commander small m e) es

abbrev unless_refused : Machine ℕ ℕ → Event → Option StepFault → Machine ℕ ℕ
unless_refused m e None = happens (λ _. Heartbeat) commander small m e
unless_refused m e (Some f) = m

abbrev pub answers : Machine ℕ ℕ → List Event → List (Option StepFault)
answers m [] = []
answers m (e ∷ es) = fault_of small m e ∷ answers (unless_refused m e (fault_of small m e)) es
