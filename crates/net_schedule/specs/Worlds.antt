-- A ring of cubs, and what an event makes of it.
use Rattle.std.specs.Prelude.{◌≡◌, ℕ, ◌/◌, ◌<◌, ◌≤◌, false, List, [], ◌∷◌, ◌++◌, Option, Some, None, map, find, unwrap_or, slice_get, slice_set, slice_index_or, if◌then◌else◌}
use Rattle.std.specs.List.{range_with_len}
use Rattle.std.specs.Option.{is_some}
use Rattle.tiger_base.specs.declared.number.Instance.{Instance}
use Rattle.tiger_base.specs.declared.number.CubNo.{CubNo}
use Rattle.net_schedule.specs.declared.ring.NetRing.{NetRing}
use Rattle.net_schedule.specs.declared.ring.NetState.{NetState}
use Rattle.net_schedule.specs.declared.packet.Packet.{Packet}
use Rattle.net_schedule.specs.declared.packet.Packet.TheVariants as packet
use Rattle.net_schedule.specs.declared.world.NetEvent.{NetEvent}
use Rattle.net_schedule.specs.declared.world.NetEvent.TheVariants as event
use Rattle.net_schedule.specs.declared.world.NetStop.{NetStop}
use Rattle.net_schedule.specs.declared.world.NetStop.TheVariants as cause
use Rattle.net_schedule.specs.declared.turn.Turn.{Turn}
use Rattle.net_schedule.specs.declared.turn.Turn.TheVariants as turn
use Rattle.net_schedule.specs.Rings.{IsOwnQuantum, quanta_in}
use Rattle.net_schedule.specs.Cubs.{CubState, fresh_cub, is_asked, standing, with_ask, asking, with_stop, stopping, taking, sending, renewing, CanTake}

-- the cubs by number, every packet that was ever sent, and every event that was done, in order
pub record WorldState : Type 0 where
  pub ring : NetRing
  pub cubs : List CubState
  pub sent : List Packet
  pub events : List NetEvent

-- nothing was asked or sent
abbrev pub fresh_world : NetRing → WorldState
fresh_world r = record {
  ring = r;
  cubs = map (fresh_cub r) (range_with_len 0 r.cubs);
  sent = [];
  events = [];
}

abbrev pub cub_at : WorldState → ℕ → CubState
cub_at w c = slice_index_or w.cubs c (fresh_cub w.ring 0)

-- the cub that was asked for an instance
abbrev pub asked_at : WorldState → Instance → Option ℕ
asked_at w v = find (λ c. is_asked (cub_at w c).own v) (range_with_len 0 w.ring.cubs)

-- how the entry of an instance stands at the cub that was asked for it
abbrev pub state_at : WorldState → Option ℕ → Instance → Option NetState
state_at w None v = None
state_at w (Some c) v = standing (cub_at w c) v

-- the cub that a packet is for
abbrev pub goal_of : Packet → CubNo
goal_of (packet.Reserve v at rate to) = to
goal_of (packet.Confirm v to) = to
goal_of (packet.Refuse v quantum sum to) = to
goal_of (packet.Release v to) = to

-- what a cub becomes by its turn, and what it sends
abbrev pub turned : CubState → Turn → CubState
turned s (turn.Ask v at rate) = with_ask s v at rate
turned s (turn.Stop v) = with_stop s v
turned s turn.Renew = s
turned s (turn.Take p) = taking s p

abbrev pub telling : CubState → Turn → List Packet
telling s (turn.Ask v at rate) = asking s v at rate
telling s (turn.Stop v) = stopping s v
telling s turn.Renew = renewing s
telling s (turn.Take p) = sending s p

abbrev pub no_memory : NetStop
no_memory = cause.NoMemory

-- why an event cannot be done: its packet was never sent, or its instance was asked for before
abbrev pub fault_of : WorldState → NetEvent → Option NetStop
fault_of w (event.Ask v at rate) = if is_some (asked_at w v) then Some cause.Used else None
fault_of w (event.Stop v) = None
fault_of w (event.Renew c) = None
fault_of w (event.Deliver n) = if is_some (slice_get w.sent n) then None else Some cause.NeverSent

abbrev pub goal_of_sent : Option Packet → ℕ
goal_of_sent None = 0
goal_of_sent (Some p) = (goal_of p).0

-- Which cub has its turn: the one that keeps the quantum of an ask; the one that was asked for a stopped instance, and
-- cub 0, to which it means nothing, if none was; and the one that a packet is for.
abbrev pub actor_of : WorldState → NetEvent → ℕ
actor_of w (event.Ask v at rate) = at / w.ring.quanta
actor_of w (event.Stop v) = unwrap_or (asked_at w v) 0
actor_of w (event.Renew c) = c.0
actor_of w (event.Deliver n) = goal_of_sent (slice_get w.sent n)

abbrev pub taking_turn : Option Packet → Turn
taking_turn None = turn.Renew
taking_turn (Some p) = turn.Take p

abbrev pub turn_of : WorldState → NetEvent → Turn
turn_of w (event.Ask v at rate) = turn.Ask v at rate
turn_of w (event.Stop v) = turn.Stop v
turn_of w (event.Renew c) = turn.Renew
turn_of w (event.Deliver n) = taking_turn (slice_get w.sent n)

-- a ring once a cub had a turn: what it sends goes behind all packets, and all other cubs stay
abbrev pub moved : WorldState → ℕ → Turn → NetEvent → WorldState
moved w c t e = record w {
  cubs = slice_set w.cubs c (turned (cub_at w c) t);
  sent = w.sent ++ telling (cub_at w c) t;
  events = w.events ++ e ∷ [];
}

abbrev pub after : WorldState → NetEvent → WorldState
after w e = moved w (actor_of w e) (turn_of w e) e

-- an event may be given: an ask is for a quantum of the ring with a possible rate, and a cub that renews is one of it
abbrev pub IsPossible : NetRing → NetEvent → Type 0
IsPossible r (event.Ask v at rate) = (at < quanta_in r) × (1 ≤ rate) × (rate ≤ r.capacity)
IsPossible r (event.Stop v) = Unit {0}
IsPossible r (event.Renew c) = c.0 < r.cubs
IsPossible r (event.Deliver n) = Unit {0}

-- a cub may have its turn
abbrev pub CanTurn : CubState → Turn → Type 0
CanTurn s (turn.Ask v at rate) =
    IsOwnQuantum s.ring s.no at × (1 ≤ rate) × (rate ≤ s.ring.capacity) × (is_asked s.own v ≡ false)
CanTurn s (turn.Stop v) = Unit {0}
CanTurn s turn.Renew = Unit {0}
CanTurn s (turn.Take p) = CanTake s p

-- what comes to it was sent
abbrev pub WasSent : List Packet → Turn → Type 0
WasSent sent (turn.Ask v at rate) = Unit {0}
WasSent sent (turn.Stop v) = Unit {0}
WasSent sent turn.Renew = Unit {0}
WasSent sent (turn.Take p) = (n : ℕ) × (slice_get sent n ≡ Some p)
