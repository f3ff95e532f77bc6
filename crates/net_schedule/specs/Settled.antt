-- What is under way in a ring, and how an entry stands once nothing of it is.
use Rattle.std.specs.Prelude.{◌≡◌, ℕ, ◌<◌, ◌&&◌, ◌||◌, ◌==◌, Bool, true, false, List, [], ◌++◌, Option, Some, None, find, filter, not, if◌then◌else◌}
use Rattle.std.specs.List.{fold, list_any}
use Rattle.tiger_base.specs.declared.number.Instance.{Instance}
use Rattle.net_schedule.specs.declared.ring.NetRing.{NetRing}
use Rattle.net_schedule.specs.declared.ring.Entry.{Entry}
use Rattle.net_schedule.specs.declared.ring.Own.{Own}
use Rattle.net_schedule.specs.declared.packet.Packet.{Packet}
use Rattle.net_schedule.specs.declared.packet.Packet.TheVariants as packet
use Rattle.net_schedule.specs.declared.turn.Turn.{Turn}
use Rattle.net_schedule.specs.declared.turn.Turn.TheVariants as turn
use Rattle.net_schedule.specs.declared.world.NetEvent.{NetEvent}
use Rattle.net_schedule.specs.Rings.{reaches, before}
use Rattle.net_schedule.specs.Cubs.{is_of, is_for, is_placed, waits}
use Rattle.net_schedule.specs.Worlds.{WorldState, fresh_world, cub_at, actor_of, turn_of, after, telling}

-- a packet of one of the four kinds, about an instance, to a cub
abbrev pub is_reserve : Instance → ℕ → Packet → Bool
is_reserve v c (packet.Reserve u at rate to) = u.0 == v.0 && to.0 == c
is_reserve v c other = false

abbrev pub is_confirm : Instance → ℕ → Packet → Bool
is_confirm v c (packet.Confirm u to) = u.0 == v.0 && to.0 == c
is_confirm v c other = false

abbrev pub is_refuse : Instance → ℕ → Packet → Bool
is_refuse v c (packet.Refuse u quantum sum to) = u.0 == v.0 && to.0 == c
is_refuse v c other = false

abbrev pub is_release : Instance → ℕ → Packet → Bool
is_release v c (packet.Release u to) = u.0 == v.0 && to.0 == c
is_release v c other = false

abbrev pub is_about : Instance → Packet → Bool
is_about v (packet.Reserve u at rate to) = u.0 == v.0
is_about v (packet.Confirm u to) = u.0 == v.0
is_about v (packet.Refuse u quantum sum to) = u.0 == v.0
is_about v (packet.Release u to) = u.0 == v.0

-- two packets are of the same kind, about the same instance, and to the same cub
abbrev pub is_like : Packet → Packet → Bool
is_like (packet.Reserve v at rate to) q = is_reserve v to.0 q
is_like (packet.Confirm v to) q = is_confirm v to.0 q
is_like (packet.Refuse v quantum sum to) q = is_refuse v to.0 q
is_like (packet.Release v to) q = is_release v to.0 q

-- what is still under way once a cub has heard what comes to it with its turn: nothing like that
abbrev pub unheard : Turn → List Packet → List Packet
unheard (turn.Ask v at rate) out = out
unheard (turn.Stop v) out = out
unheard turn.Renew out = out
unheard (turn.Take p) out = filter (λ q. not (is_like p q)) out

-- A ring, and the packets that are under way in it: those that were sent, each until one like it is delivered, which
-- may be a later or an earlier one of them.
pub record Traffic : Type 0 where
  pub world : WorldState
  pub out : List Packet

abbrev pub passed : Traffic → NetEvent → Traffic
passed t e = record {
  world = after t.world e;
  out = unheard (turn_of t.world e) t.out ++ telling (cub_at t.world (actor_of t.world e)) (turn_of t.world e);
}

-- what events make of a ring of which nothing was asked
unfoldable pub history : NetRing → List NetEvent → Traffic
history r es = fold passed (record { world = fresh_world r; out = [] }) es

abbrev pub under_way : WorldState → List Packet
under_way w = (history w.ring w.events).out

-- a ring is what its events made of one of which nothing was asked
abbrev pub IsMadeByEvents : WorldState → Type 0
IsMadeByEvents w = (history w.ring w.events).world ≡ w

-- a packet by which what cub c keeps of cub d's instance will end, or its entry be placed
abbrev pub clears : ℕ → ℕ → Instance → Packet → Bool
clears d c v p = is_confirm v d p || is_release v c p

-- a packet by which an entry that waits at cub d for cub c will be decided
abbrev pub decides : ℕ → ℕ → Instance → Packet → Bool
decides d c v p = is_reserve v c p || (is_confirm v d p || is_refuse v d p)

abbrev pub is_placed_at : Option Own → Bool
is_placed_at None = false
is_placed_at (Some o) = is_placed o.state

-- Between cub d and its successor c: what is kept is placed, or a packet is under way that clears it; and for what
-- waits one is that decides it.
pub record IsInTalk (d c : ℕ) (own : List Own) (kept : List Entry) (out : List Packet) : Type 0 where
  pub lines : (v : Instance) (e : Entry) → find (is_for v) kept ≡ Some e
      → (is_placed_at (find (is_of v) own) || list_any (clears d c v) out) ≡ true
  pub asks : (v : Instance) → waits (find (is_of v) own) ≡ true → list_any (decides d c v) out ≡ true

-- what the successor is to keep of an instance: its entry, if that is placed and reaches there
abbrev pub wanted : NetRing → Option Own → Option Entry
wanted r None = None
wanted r (Some o) = if is_placed o.state && reaches r o.entry.at then Some o.entry else None

-- each cub keeps of an instance exactly what its predecessor has placed and reaches it, and nowhere does its entry wait
abbrev pub IsSettled : WorldState → Instance → Type 0
IsSettled w v = (c : ℕ) → c < w.ring.cubs
    → (find (is_for v) (cub_at w c).kept ≡ wanted w.ring (find (is_of v) (cub_at w (before w.ring c)).own))
    × (waits (find (is_of v) (cub_at w c).own) ≡ false)

-- an instance of which nothing is under way is settled
abbrev pub SettlesEach : WorldState → Type 0
SettlesEach w = (v : Instance) → list_any (is_about v) (under_way w) ≡ false → IsSettled w v

-- if nothing at all is under way, each instance is settled
abbrev pub SettlesAll : WorldState → Type 0
SettlesAll w = under_way w ≡ [] → (v : Instance) → IsSettled w v
