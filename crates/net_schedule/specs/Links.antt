-- What always holds between a cub and its successor, whatever the network did with their packets.
use Rattle.std.specs.Prelude.{◌≡◌, ℕ, ◌<◌, true, false, List, Some, find, length, ◌⊎◌}
use Rattle.std.specs.List.{AllByRecursion}
use Rattle.tiger_base.specs.declared.number.Instance.{Instance}
use Rattle.net_schedule.specs.declared.ring.NetRing.{NetRing}
use Rattle.net_schedule.specs.declared.ring.Entry.{Entry}
use Rattle.net_schedule.specs.declared.ring.Own.{Own}
use Rattle.net_schedule.specs.declared.packet.Packet.{Packet}
use Rattle.net_schedule.specs.declared.packet.Packet.TheVariants as packet
use Rattle.net_schedule.specs.Rings.{IsRing, reaches, next_of}
use Rattle.net_schedule.specs.Cubs.{IsSound, is_of, is_for, is_live, is_placed}
use Rattle.net_schedule.specs.Worlds.{WorldState, cub_at, goal_of}
use Rattle.net_schedule.specs.Settled.{IsInTalk, IsMadeByEvents, under_way}

-- an entry was asked for, and reaches into the successor's quanta
pub record IsAskedFar (r : NetRing) (own : List Own) (v : Instance) (e : Entry) : Type 0 where
  pub o : Own
  pub found : find (is_of v) own ≡ Some o
  pub same : o.entry ≡ e
  pub far : reaches r e.at ≡ true

-- what was confirmed is kept, or has ended
pub record IsConfirmed (own : List Own) (kept : List Entry) (v : Instance) : Type 0 where
  pub o : Own
  pub found : find (is_of v) own ≡ Some o
  pub held : (find (is_for v) kept ≡ Some o.entry) ⊎ (is_live o.state ≡ false)

-- what was released has ended
pub record IsEnded (own : List Own) (v : Instance) : Type 0 where
  pub o : Own
  pub found : find (is_of v) own ≡ Some o
  pub ended : is_live o.state ≡ false

-- what a packet between cub d and its successor c tells is true
abbrev pub IsTrueOf : NetRing → ℕ → ℕ → List Own → List Entry → Packet → Type 0
IsTrueOf r d c own kept (packet.Reserve v at rate to) =
    to.0 ≡ c → IsAskedFar r own v (record { instance = v; at = at; rate = rate })
IsTrueOf r d c own kept (packet.Confirm v to) = to.0 ≡ d → IsConfirmed own kept v
IsTrueOf r d c own kept (packet.Refuse v quantum sum to) = Unit {0}
IsTrueOf r d c own kept (packet.Release v to) = to.0 ≡ c → IsEnded own v

-- What every packet tells that was ever sent is true. What is placed and reaches into the successor's quanta is kept
-- there, and what is kept there was asked for.
pub record IsLink (r : NetRing) (d c : ℕ) (own : List Own) (kept : List Entry) (sent : List Packet) : Type 0 where
  pub told : AllByRecursion (IsTrueOf r d c own kept) sent
  pub placed : (v : Instance) (o : Own) → find (is_of v) own ≡ Some o → is_placed o.state ≡ true
      → reaches r o.entry.at ≡ true → find (is_for v) kept ≡ Some o.entry
  pub asked : (v : Instance) (e : Entry) → find (is_for v) kept ≡ Some e → IsAskedFar r own v e

-- cub c of a ring stands in its place, and is sound
pub record IsSeated (w : WorldState) (c : ℕ) : Type 0 where
  pub ring : (cub_at w c).ring ≡ w.ring
  pub no : (cub_at w c).no ≡ c
  pub sound : IsSound (cub_at w c)

-- what always holds of a ring
pub record IsWorld (w : WorldState) : Type 0 where
  pub ring : IsRing w.ring
  pub count : length w.cubs ≡ w.ring.cubs
  pub seated : (c : ℕ) → c < w.ring.cubs → IsSeated w c
  pub goals : AllByRecursion (λ p. (goal_of p).0 < w.ring.cubs) w.sent
  pub links : (d : ℕ) → d < w.ring.cubs
      → IsLink w.ring d (next_of w.ring d) (cub_at w d).own (cub_at w (next_of w.ring d)).kept w.sent
  pub made : IsMadeByEvents w
  pub talks : (d : ℕ) → d < w.ring.cubs
      → IsInTalk d (next_of w.ring d) (cub_at w d).own (cub_at w (next_of w.ring d)).kept (under_way w)
