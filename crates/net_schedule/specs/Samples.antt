-- A ring for worked rows and tests: three cubs with four quanta each, and a capacity of ten.
use Rattle.std.specs.Prelude.{ℕ, List, [], ◌∷◌}
use Rattle.tiger_base.specs.declared.number.Instance.{Instance}
use Rattle.net_schedule.specs.declared.ring.NetRing.{NetRing}
use Rattle.net_schedule.specs.declared.ring.Entry.{Entry}
use Rattle.net_schedule.specs.declared.ring.NetState.TheVariants as state
use Rattle.net_schedule.specs.declared.ring.Own.{Own}
use Rattle.net_schedule.specs.declared.packet.Packet.{Packet}
use Rattle.net_schedule.specs.declared.packet.Packet.TheVariants as packet
use Rattle.net_schedule.specs.declared.world.NetEvent.{NetEvent}
use Rattle.net_schedule.specs.declared.world.NetEvent.TheVariants as event
use Rattle.net_schedule.specs.Cubs.{CubState}
use Rattle.net_schedule.specs.Worlds.{WorldState}
use Rattle.net_schedule.specs.Settled.{history}

abbrev pub four : NetRing
four = record { cubs = 3; quanta = 4; capacity = 10 }

abbrev pub viewer : ℕ → Instance
viewer v = record { 0 = v }

abbrev pub entry : ℕ → ℕ → ℕ → Entry
entry v at rate = record { instance = viewer v; at = at; rate = rate }

abbrev pub placed : ℕ → ℕ → ℕ → Own
placed v at rate = record { entry = entry v at rate; state = state.Placed }

abbrev pub waiting : ℕ → ℕ → ℕ → Own
waiting v at rate = record { entry = entry v at rate; state = state.Waiting }

abbrev pub stopped : ℕ → ℕ → ℕ → Own
stopped v at rate = record { entry = entry v at rate; state = state.Stopped }

-- cub 1 of the ring, whose quanta are 4 to 7
abbrev pub second : List Own → List Entry → CubState
second own kept = record { ring = four; no = 1; own = own; kept = kept }

-- the packets between cub 1 and its neighbours
abbrev pub reserve : ℕ → ℕ → ℕ → Packet
reserve v at rate = packet.Reserve (viewer v) at rate (record { 0 = 1 })

abbrev pub reserve_on : ℕ → ℕ → ℕ → Packet
reserve_on v at rate = packet.Reserve (viewer v) at rate (record { 0 = 2 })

abbrev pub confirm : ℕ → Packet
confirm v = packet.Confirm (viewer v) (record { 0 = 1 })

abbrev pub confirm_back : ℕ → Packet
confirm_back v = packet.Confirm (viewer v) (record { 0 = 0 })

abbrev pub refuse : ℕ → ℕ → ℕ → Packet
refuse v quantum sum = packet.Refuse (viewer v) quantum sum (record { 0 = 1 })

abbrev pub refuse_back : ℕ → ℕ → ℕ → Packet
refuse_back v quantum sum = packet.Refuse (viewer v) quantum sum (record { 0 = 0 })

abbrev pub release : ℕ → Packet
release v = packet.Release (viewer v) (record { 0 = 1 })

abbrev pub release_on : ℕ → Packet
release_on v = packet.Release (viewer v) (record { 0 = 2 })

-- the ring with these entries, and with what cub 1 keeps; nothing was sent
abbrev pub ring_of : List Own → List Own → List Entry → WorldState
ring_of first second_own kept = record {
  ring = four;
  cubs =
      record { ring = four; no = 0; own = first; kept = [] }
      ∷ second second_own kept
      ∷ record { ring = four; no = 2; own = []; kept = [] }
      ∷ [];
  sent = [];
  events = [];
}

-- the ring with nothing but what was sent
abbrev pub ring_with : List Packet → WorldState
ring_with sent = record (ring_of [] [] []) { sent = sent }

abbrev pub ask : ℕ → ℕ → ℕ → NetEvent
ask v at rate = event.Ask (viewer v) at rate

abbrev pub stop : ℕ → NetEvent
stop v = event.Stop (viewer v)

abbrev pub renew : ℕ → NetEvent
renew c = event.Renew (record { 0 = c })

abbrev pub deliver : ℕ → NetEvent
deliver n = event.Deliver n

-- An entry is asked for, and its Reserve and its Confirm come.
abbrev pub agreed : List NetEvent
agreed = ask 0 2 6 ∷ deliver 0 ∷ deliver 1 ∷ []

-- It is stopped before its Confirm comes, and the Reserve comes again behind the Release.
abbrev pub kept_again : List NetEvent
kept_again = ask 0 2 6 ∷ deliver 0 ∷ stop 0 ∷ deliver 2 ∷ deliver 0 ∷ []

-- the same, and the second Confirm and the second Release come
abbrev pub given_back : List NetEvent
given_back = ask 0 2 6 ∷ deliver 0 ∷ stop 0 ∷ deliver 2 ∷ deliver 0 ∷ deliver 3 ∷ deliver 4 ∷ []

-- The first Reserve is lost.
abbrev pub renewed : List NetEvent
renewed = ask 0 2 6 ∷ renew 0 ∷ deliver 1 ∷ deliver 2 ∷ []

-- what events make of the ring
abbrev pub story : List NetEvent → WorldState
story es = (history four es).world
