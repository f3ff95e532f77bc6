-- Which events a machine refuses, and why: ten faults, of which the first that holds is given.
use Rattle.std.specs.Prelude.{◌≡◌, ℕ, suc, ◌+◌, ◌-◌, ◌%◌, ◌<◌, Bool, false, not, ◌&&◌, ◌||◌, ◌==◌, nat_lt, nat_le, min}
use Rattle.std.specs.Prelude.{max, List, [], ◌∷◌, Option, Some, None, is_some, slice_get, if◌then◌else◌}
use Rattle.std.specs.Option.{option_or}
use Rattle.tiger_base.specs.declared.message.Note.{Note}
use Rattle.tiger_base.specs.declared.number.LinkNo.{LinkNo}
use Rattle.tiger_base.specs.declared.number.Stamp.{Stamp}
use Rattle.slot_plan.specs.declared.params.Params.{Params}
use Rattle.slot_plan.specs.Times.{time_of}
use Rattle.node_kit.specs.Links.{links_of, ends_of, leads_to}
use Rattle.node_kit.specs.Steps.{Input, Deed}
use Rattle.run_facts.specs.Events.{Dated}
use Rattle.ring_world.specs.declared.event.Act.{Act}
use Rattle.ring_world.specs.declared.event.Act.TheVariants as act
use Rattle.ring_world.specs.declared.event.Last.{Last}
use Rattle.ring_world.specs.declared.event.Last.TheVariants as last
use Rattle.ring_world.specs.declared.event.Event.{Event}
use Rattle.ring_world.specs.declared.event.StepFault.{StepFault}
use Rattle.ring_world.specs.declared.event.StepFault.TheVariants as fault
use Rattle.ring_world.specs.Machine.{Machine, Being, Way, node_of, node_of_last, oldest, happens}

-- the beat is neither the machine's nor the next one
abbrev pub beat_fault : ℕ → ℕ → Option StepFault
beat_fault now beat = if beat == now || beat == suc now then None else Some (fault.WrongBeat now)

-- it lives, and has not ticked in this beat
abbrev pub is_behind : {S : Type 0} → ℕ → Being S → Bool
is_behind now b = not b.dead && nat_le b.ticked now

-- the least that is behind, of nodes of which the first has this number
abbrev pub least_behind : {S : Type 0} → ℕ → ℕ → List (Being S) → Option StepFault
least_behind now i [] = None
least_behind now i (b ∷ bs) =
    if is_behind now b then Some (fault.TickMissed (record { 0 = i })) else least_behind now (suc i) bs

-- the beat is the next one, and a node is behind
abbrev pub missed_fault : {S : Type 0} → ℕ → ℕ → List (Being S) → Option StepFault
missed_fault now beat beings = if beat == suc now then least_behind now 0 beings else None

-- it died two beats before this one or earlier
abbrev pub is_past : ℕ → Option ℕ → Bool
is_past beat None = false
is_past beat (Some death) = nat_le (death + 2) beat

-- it may return in a beat: it is dead, died so long ago, and has not returned before
abbrev pub may_return : {S : Type 0} → ℕ → Being S → Bool
may_return beat b = b.dead && (is_past beat b.died && not b.returned)

abbrev pub dead_fault : ℕ → Bool → Option StepFault
dead_fault n dead = if dead then Some (fault.Dead (record { 0 = n })) else None

-- what node n may not do for its death: to a dead node nothing happens but its return, and none dies twice
abbrev pub life_fault : {S : Type 0} → ℕ → Act → ℕ → Being S → Option StepFault
life_fault n (act.Get link number) beat b = dead_fault n b.dead
life_fault n (act.Tick node) beat b = dead_fault n b.dead
life_fault n (act.Die cub) beat b = dead_fault n (b.dead || is_some b.died)
life_fault n (act.DieIn final sends) beat b = dead_fault n (b.dead || is_some b.died)
life_fault n (act.Return cub) beat b = if may_return beat b then None else Some (fault.NotBack (record { 0 = n }))

-- the node has ticked in the beat, or is to die apart from any event and has had one in it
abbrev pub has_done : {S : Type 0} → Act → ℕ → Being S → Bool
has_done (act.Get link number) beat b = nat_lt beat b.ticked
has_done (act.Tick node) beat b = nat_lt beat b.ticked
has_done (act.Die cub) beat b = nat_lt beat b.acted || nat_lt beat b.ticked
has_done (act.DieIn final sends) beat b = nat_lt beat b.ticked
has_done (act.Return cub) beat b = nat_lt beat b.ticked

-- the reading is the true time or later, by the skew at most, and not below that of the node's last event
abbrev pub is_shown : {S : Type 0} → Params → Stamp → Being S → Bool
is_shown p stamp b =
    nat_le (time_of p stamp.beat) stamp.reading
    && (nat_le stamp.reading (time_of p stamp.beat + p.skew) && nat_le b.reading stamp.reading)

-- what node n, to which the event happens, may not do in the beat or at the reading
abbrev pub stamp_fault : {S : Type 0} → Params → ℕ → Event → Being S → Option StepFault
stamp_fault p n e b =
    if has_done e.act e.stamp.beat b then Some (fault.Ticked (record { 0 = n }))
    else if is_shown p e.stamp b then None
    else Some (fault.ReadingOff e.stamp.reading)

-- and what it may not do at all
abbrev pub node_fault : {S : Type 0} → Params → ℕ → Event → Option (Being S) → Option StepFault
node_fault p n e None = None
node_fault p n e (Some b) = option_or (life_fault n e.act e.stamp.beat b) (stamp_fault p n e b)

-- as many messages are gone from the link as were sent before the one of this number
abbrev pub is_next : {M : Type 0} → ℕ → Option (Way M) → Bool
is_next number None = false
is_next number (Some w) = number == w.gone

-- there is no such message, or it was sent in this beat
abbrev pub early_fault : {M : Type 0} → ℕ → StepFault → Option (Dated M) → Option StepFault
early_fault beat missing None = Some missing
early_fault beat missing (Some d) = if d.beat == beat then Some (fault.TooEarly d.beat) else None

-- why the message of a number may not be taken from a link
abbrev pub get_fault : {M : Type 0} → List (Way M) → ℕ → LinkNo → ℕ → Option StepFault
get_fault ways beat link number =
    if is_next number (slice_get ways link.0) then early_fault beat (fault.NotNext link) (oldest ways link.0)
    else Some (fault.NotNext link)

-- what may not be taken
abbrev pub last_take_fault : {M : Type 0} → List (Way M) → ℕ → Last → Option StepFault
last_take_fault ways beat (last.Get link number) = get_fault ways beat link number
last_take_fault ways beat (last.Tick node) = None

abbrev pub take_fault : {M : Type 0} → List (Way M) → ℕ → Act → Option StepFault
take_fault ways beat (act.Get link number) = get_fault ways beat link number
take_fault ways beat (act.Tick node) = None
take_fault ways beat (act.Die cub) = None
take_fault ways beat (act.DieIn final sends) = last_take_fault ways beat final
take_fault ways beat (act.Return cub) = None

-- a message on link l is under way that was sent the greatest delay before, or earlier
abbrev pub late_in : {M : Type 0} → ℕ → ℕ → ℕ → List (Dated M) → Option StepFault
late_in l most beat [] = None
late_in l most beat (d ∷ ds) =
    if nat_le (d.beat + most) beat then Some (fault.TooLate (record { 0 = l }) d.beat) else late_in l most beat ds

-- the least link to node n on which there is one, of links of which the first has this number
abbrev pub least_late : {M : Type 0} → Params → ℕ → ℕ → ℕ → List (Way M) → Option StepFault
least_late p n beat l [] = None
least_late p n beat l (w ∷ ws) =
    option_or (if leads_to n (ends_of (links_of p) l) then late_in l p.delay beat w.under_way else None)
    (least_late p n beat (suc l) ws)

-- which tick would come too late
abbrev pub last_late_fault : {M : Type 0} → Params → List (Way M) → ℕ → Last → Option StepFault
last_late_fault p ways beat (last.Get link number) = None
last_late_fault p ways beat (last.Tick node) = least_late p node.0 beat 0 ways

abbrev pub late_fault : {M : Type 0} → Params → List (Way M) → ℕ → Act → Option StepFault
late_fault p ways beat (act.Get link number) = None
late_fault p ways beat (act.Tick node) = least_late p node.0 beat 0 ways
late_fault p ways beat (act.Die cub) = None
late_fault p ways beat (act.DieIn final sends) = last_late_fault p ways beat final
late_fault p ways beat (act.Return cub) = None

-- the neighbours of a cub in the ring
abbrev pub cub_after : Params → ℕ → ℕ
cub_after p cub = (cub + 1) % p.cubs

abbrev pub cub_before : Params → ℕ → ℕ
cub_before p cub = if cub == 0 then p.cubs - 1 else cub - 1

-- it has died, whether it has returned or not
abbrev pub has_died : {S : Type 0} → Option (Being S) → Bool
has_died None = false
has_died (Some b) = is_some b.died

-- the first of two cubs that has died
abbrev pub beside_fault : {S : Type 0} → List (Being S) → ℕ → ℕ → Option StepFault
beside_fault beings a b =
    if has_died (slice_get beings a) then Some (fault.NeighbourDead (record { 0 = a }))
    else if has_died (slice_get beings b) then Some (fault.NeighbourDead (record { 0 = b }))
    else None

-- the first neighbour of a cub that has died
abbrev pub neighbour_fault : {S : Type 0} → Params → List (Being S) → ℕ → Option StepFault
neighbour_fault p beings cub =
    beside_fault beings (min (cub_before p cub) (cub_after p cub)) (max (cub_before p cub) (cub_after p cub))

-- which cub may not die
abbrev pub death_fault : {S : Type 0} → Params → List (Being S) → Act → Option StepFault
death_fault p beings (act.Get link number) = None
death_fault p beings (act.Tick node) = None
death_fault p beings (act.Die cub) = neighbour_fault p beings cub.0
death_fault p beings (act.DieIn final sends) = neighbour_fault p beings (node_of_last p final)
death_fault p beings (act.Return cub) = None

-- why an event may not happen: the first fault in this order
abbrev pub fault_of : {M S : Type 0} → Params → Machine M S → Event → Option StepFault
fault_of p m e =
    option_or (beat_fault m.beat e.stamp.beat)
    (option_or (missed_fault m.beat e.stamp.beat m.beings)
    (option_or (node_fault p (node_of p e.act) e (slice_get m.beings (node_of p e.act)))
    (option_or (take_fault m.ways e.stamp.beat e.act)
    (option_or (late_fault p m.ways e.stamp.beat e.act) (death_fault p m.beings e.act)))))

-- what is asked of each event, refused or not: its link leads from a node to a node, its node is one of so many, and
-- its cub is a cub of the plan, as is the node of an event in which a death comes
abbrev pub IsLastOf : Params → Last → Type 0
IsLastOf p (last.Get link number) =
    (from : ℕ) × (to : ℕ) × (ends_of (links_of p) link.0 ≡ Some (from, to)) × (to < p.cubs)
IsLastOf p (last.Tick node) = node.0 < p.cubs

abbrev pub IsActOf : Params → ℕ → Act → Type 0
IsActOf p nodes (act.Get link number) = (from : ℕ) × (to : ℕ) × (ends_of (links_of p) link.0 ≡ Some (from, to))
IsActOf p nodes (act.Tick node) = node.0 < nodes
IsActOf p nodes (act.Die cub) = cub.0 < p.cubs
IsActOf p nodes (act.DieIn final sends) = IsLastOf p final
IsActOf p nodes (act.Return cub) = cub.0 < p.cubs

-- and its beat is one of so many
abbrev pub IsEventOf : Params → ℕ → ℕ → Event → Type 0
IsEventOf p nodes beats e = (e.stamp.beat < beats) × IsActOf p nodes e.act

-- the machine accepts each of the events in turn, and is then in this state
abbrev pub Accepts : {M S : Type 0} → (M → Note) → (S → Input M → Deed M S) → Params → ℕ → ℕ
    → Machine M S → List Event → Machine M S → Type 0
Accepts note step p nodes beats m [] k = k ≡ m
Accepts note step p nodes beats m (e ∷ es) k =
    IsEventOf p nodes beats e × (fault_of p m e ≡ None)
    × Accepts note step p nodes beats (happens note step p m e) es k
