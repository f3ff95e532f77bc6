-- What is claimed of a world.
use Rattle.std.specs.Prelude.{ℕ, ◌+◌, ◌≤◌, List}
use Rattle.slot_plan.specs.Times.{time_of}
use Rattle.run_facts.specs.Order.{Noted, order_of}
use Rattle.run_claims.specs.Accounts.{Account, account_by}
use Rattle.run_claims.specs.Claims.{MeetsClaims}
use Rattle.run_claims.specs.Served.{AreServed}
use Rattle.ring_world.specs.Machine.{journals_of}
use Rattle.proof_ring.specs.Beliefs.{BeliefsAreInTime}
use Rattle.proof_ring.specs.ClaimsOfRings.{HasOneSchedule, IsNeverWronglyServed}
use Rattle.world.specs.Worlds.{Worldly}
use Rattle.proof_worlds.specs.Accepted.{IsTickIn}
use Rattle.proof_worlds.specs.Accounts.{ticks_of}

-- The entries of its journals from the beats below a number, in their order.
abbrev pub log_of : {G : Type 0} → Worldly G → ℕ → List Noted
log_of w top = order_of top (journals_of w.running.machine)

-- At its moments there is one schedule, over the entries of any number of beats. The ticks are events of its own.
abbrev pub HasOneScheduleThroughout : {G : Type 0} → Worldly G → Type 0
HasOneScheduleThroughout w =
    (top : ℕ)
    → HasOneSchedule w.opening.params w.opening.orders (IsTickIn w.running.machine.events top) (log_of w top)

-- Whoever dies in it is believed dead in time, by the next cub if that one lives, over the entries of any number of beats.
abbrev pub BelievesInTimeThroughout : {G : Type 0} → Worldly G → Type 0
BelievesInTimeThroughout w =
    (top : ℕ)
    → BeliefsAreInTime w.opening.params (IsTickIn w.running.machine.events top) (log_of w top)

-- Nobody is wrongly served in it, over the entries of any number of beats.
abbrev pub IsNeverWronglyServedThroughout : {G : Type 0} → Worldly G → Type 0
IsNeverWronglyServedThroughout w =
    (top : ℕ)
    → IsNeverWronglyServed w.opening.params w.opening.faults (log_of w top)

-- Each settled block of each viewer that was put came or is excused, and nothing else came, over the entries of the beats
-- up to the world's.
abbrev pub IsRightlyServedThroughout : {G : Type 0} → Worldly G → Type 0
IsRightlyServedThroughout w =
    (top : ℕ) → top ≤ w.running.machine.beat + 1
    → AreServed w.opening.params w.opening.catalogue (journals_of w.running.machine) (time_of w.opening.params top) (log_of w top)

-- The account of a world as it is now: what it was given, its journals, over the beats up to its own, and the ticks among its
-- events.
abbrev pub account_of : {G : Type 0} → Worldly G → Account
account_of w = account_by w.opening.params w.opening.catalogue w.opening.faults w.opening.orders
    (journals_of w.running.machine) w.running.machine.beat (ticks_of w.running.machine.events)

-- The account meets all nine claims.
abbrev pub MeetsTheClaims : {G : Type 0} → Worldly G → Type 0
MeetsTheClaims w = MeetsClaims (account_of w)
