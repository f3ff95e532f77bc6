-- A cub of the network's schedule, and what its rules make of it.
use Rattle.std.specs.Prelude.{length, get_or, ◌≡◌, ℕ, ◌+◌, ◌*◌, ◌<◌, ◌≤◌, ◌&&◌, ◌==◌, nat_lt, Bool, true, false, List, [], ◌∷◌, ◌++◌, Option, Some, None, find, filter, map, not, option_map, sum_by, if◌then◌else◌}
use Rattle.std.specs.List.{list_any, AllByRecursion, range_with_len}
use Rattle.tiger_base.specs.declared.number.Instance.{Instance}
use Rattle.net_schedule.specs.declared.ring.NetRing.{NetRing}
use Rattle.net_schedule.specs.declared.ring.Entry.{Entry}
use Rattle.net_schedule.specs.declared.ring.Over.{Over}
use Rattle.net_schedule.specs.declared.ring.Own.{Own}
use Rattle.net_schedule.specs.declared.ring.NetState.{NetState}
use Rattle.net_schedule.specs.declared.ring.NetState.TheVariants as state
use Rattle.net_schedule.specs.declared.cub.Asked.{Asked}
use Rattle.net_schedule.specs.declared.cub.Asked.TheVariants as asked
use Rattle.net_schedule.specs.declared.packet.Packet.{Packet}
use Rattle.net_schedule.specs.declared.packet.Packet.TheVariants as packet
use Rattle.net_schedule.specs.Rings.{IsRing, IsOwnQuantum, IsEntryOf, takes, reaches, next_of, before}

-- a cub: its ring and number, the entries that were asked of it, and those of its predecessor for
-- which it keeps quanta; both by instance
pub record CubState : Type 0 where
  pub ring : NetRing
  pub no : ℕ
  pub own : List Own
  pub kept : List Entry

-- an entry counts while it is placed or waits
abbrev pub is_live : NetState → Bool
is_live state.Placed = true
is_live state.Waiting = true
is_live (state.Full quantum sum) = false
is_live (state.Refused quantum sum) = false
is_live state.Stopped = false

abbrev pub is_placed : NetState → Bool
is_placed state.Placed = true
is_placed state.Waiting = false
is_placed (state.Full quantum sum) = false
is_placed (state.Refused quantum sum) = false
is_placed state.Stopped = false

abbrev pub is_waiting : NetState → Bool
is_waiting state.Placed = false
is_waiting state.Waiting = true
is_waiting (state.Full quantum sum) = false
is_waiting (state.Refused quantum sum) = false
is_waiting state.Stopped = false

-- what an entry that was asked takes of a quantum, if it counts
abbrev pub own_rate : NetRing → ℕ → Own → ℕ
own_rate r k o = if is_live o.state && takes r o.entry.at k then o.entry.rate else 0

-- what an entry takes of a quantum
abbrev pub kept_rate : NetRing → ℕ → Entry → ℕ
kept_rate r k e = if takes r e.at k then e.rate else 0

-- the sum of the rates that a quantum carries at a cub
abbrev pub carried : CubState → ℕ → ℕ
carried s k = sum_by (own_rate s.ring k) s.own + sum_by (kept_rate s.ring k) s.kept

abbrev pub number_of : Own → ℕ
number_of o = o.entry.instance.0

abbrev pub is_of : Instance → Own → Bool
is_of v o = o.entry.instance.0 == v.0

abbrev pub is_for : Instance → Entry → Bool
is_for v e = e.instance.0 == v.0

abbrev pub is_asked : List Own → Instance → Bool
is_asked own v = list_any (is_of v) own

abbrev pub is_kept : List Entry → Instance → Bool
is_kept kept v = list_any (is_for v) kept

-- the numbers of a list's elements rise
abbrev pub IsRising : {X : Type 0} → (X → ℕ) → List X → Type 0
IsRising number [] = Unit {0}
IsRising number (x ∷ xs) = AllByRecursion (λ y. number x < number y) xs × IsRising number xs

-- what always holds of an entry that was asked of cub c
pub record IsOwnOf (r : NetRing) (c : ℕ) (o : Own) : Type 0 where
  pub entry : IsEntryOf r c o.entry
  pub waits : is_waiting o.state ≡ true → reaches r o.entry.at ≡ true

-- what always holds of an entry that cub c keeps quanta for
pub record IsKeptOf (r : NetRing) (c : ℕ) (e : Entry) : Type 0 where
  pub entry : IsEntryOf r (before r c) e
  pub reaches : reaches r e.at ≡ true

-- what always holds of a cub: above all, none of its quanta carries more than the capacity
pub record IsSound (s : CubState) : Type 0 where
  pub ring : IsRing s.ring
  pub no : s.no < s.ring.cubs
  pub own : AllByRecursion (IsOwnOf s.ring s.no) s.own
  pub kept : AllByRecursion (IsKeptOf s.ring s.no) s.kept
  pub own_rises : IsRising number_of s.own
  pub kept_rises : IsRising (λ e. e.instance.0) s.kept
  pub fits : (k : ℕ) → IsOwnQuantum s.ring s.no k → carried s k ≤ s.ring.capacity

-- a cub of which nothing was asked
abbrev pub fresh_cub : NetRing → ℕ → CubState
fresh_cub r n = record { ring = r; no = n; own = []; kept = [] }

-- the entry takes a quantum that cannot carry it too
abbrev pub is_over : CubState → ℕ → ℕ → ℕ → Bool
is_over s at rate k = takes s.ring at k && nat_lt s.ring.capacity (carried s k + rate)

abbrev pub over_at : CubState → ℕ → Over
over_at s k = record { quantum = k; sum = carried s k }

-- the first of the cub's quanta that cannot, with what it carries
unfoldable pub first_over : CubState → ℕ → ℕ → Option Over
first_over s at rate =
    option_map (over_at s) (find (is_over s at rate) (range_with_len (s.no * s.ring.quanta) s.ring.quanta))

-- The answer to an ask: `Full` at the first quantum of the cub that cannot carry the entry too; else it waits for the
-- successor if it reaches there, and is placed if it does not.
abbrev pub answered : Option Over → Bool → Asked
answered (Some over) far = asked.Full over.quantum over.sum
answered None far = if far then asked.Waiting else asked.Placed

abbrev pub answer_to : CubState → ℕ → ℕ → Asked
answer_to s at rate = answered (first_over s at rate) (reaches s.ring at)

-- how the entry stands then
abbrev pub state_of : Asked → NetState
state_of (asked.Full quantum sum) = state.Full quantum sum
state_of asked.Placed = state.Placed
state_of asked.Waiting = state.Waiting

-- a list with a further entry, before the first of a greater number
abbrev pub put_in : {X : Type 0} → (X → ℕ) → X → List X → List X
put_in number x [] = x ∷ []
put_in number x (y ∷ ys) =
    if nat_lt (number x) (number y) then x ∷ y ∷ ys else y ∷ put_in number x ys

abbrev pub with_own : CubState → Own → CubState
with_own s o = record s { own = put_in number_of o s.own }

abbrev pub with_kept : CubState → Entry → CubState
with_kept s e = record s { kept = put_in (λ x. x.instance.0) e s.kept }

abbrev pub asked_entry : CubState → Instance → ℕ → ℕ → Own
asked_entry s v at rate = record {
  entry = record { instance = v; at = at; rate = rate };
  state = state_of (answer_to s at rate);
}

-- the cub once it was asked for an entry
abbrev pub with_ask : CubState → Instance → ℕ → ℕ → CubState
with_ask s v at rate = with_own s (asked_entry s v at rate)

abbrev pub reserve_of : CubState → Entry → Packet
reserve_of s e = packet.Reserve e.instance e.at e.rate (record { 0 = next_of s.ring s.no })

abbrev pub release_of : CubState → Instance → Packet
release_of s v = packet.Release v (record { 0 = next_of s.ring s.no })

abbrev pub confirm_of : CubState → Instance → Packet
confirm_of s v = packet.Confirm v (record { 0 = before s.ring s.no })

abbrev pub refuse_of : CubState → Instance → Over → Packet
refuse_of s v over =
    packet.Refuse v over.quantum over.sum (record { 0 = before s.ring s.no })

-- what it sends then: a Reserve, if the entry waits
abbrev pub asking : CubState → Instance → ℕ → ℕ → List Packet
asking s v at rate =
    if is_waiting (state_of (answer_to s at rate))
    then reserve_of s (record { instance = v; at = at; rate = rate }) ∷ [] else []

-- a list with the first entry of an instance in another state
abbrev pub with_state : Instance → NetState → List Own → List Own
with_state v x [] = []
with_state v x (o ∷ os) =
    if is_of v o then record o { state = x } ∷ os else o ∷ with_state v x os

-- how the entry of an instance stands
abbrev pub standing : CubState → Instance → Option NetState
standing s v = option_map (λ o. o.state) (find (is_of v) s.own)

abbrev pub counts : Option Own → Bool
counts None = false
counts (Some o) = is_live o.state

abbrev pub waits : Option Own → Bool
waits None = false
waits (Some o) = is_waiting o.state

abbrev pub is_far : NetRing → Option Own → Bool
is_far r None = false
is_far r (Some o) = reaches r o.entry.at

-- the cub with the entry of an instance in another state
abbrev pub in_state : CubState → Instance → NetState → CubState
in_state s v x = record s { own = with_state v x s.own }

-- the cub once an instance was stopped: its entry, if it counted, does so no more
abbrev pub with_stop : CubState → Instance → CubState
with_stop s v = if counts (find (is_of v) s.own) then in_state s v state.Stopped else s

-- what it sends then: a Release, if that entry reaches the successor
abbrev pub stopping : CubState → Instance → List Packet
stopping s v =
    if counts (find (is_of v) s.own) && is_far s.ring (find (is_of v) s.own)
    then release_of s v ∷ [] else []

-- A Reserve is kept, unless it is kept already or some quantum cannot carry it too.
abbrev pub keeping : CubState → Entry → Option Over → CubState
keeping s e None = with_kept s e
keeping s e (Some over) = s

abbrev pub reserved : CubState → Entry → CubState
reserved s e = if is_kept s.kept e.instance then s else keeping s e (first_over s e.at e.rate)

-- It is answered by a Confirm if it is kept then, and else by a Refuse.
abbrev pub answering : CubState → Instance → Option Over → Packet
answering s v None = confirm_of s v
answering s v (Some over) = refuse_of s v over

abbrev pub answer_to_reserve : CubState → Entry → Packet
answer_to_reserve s e =
    if is_kept s.kept e.instance then confirm_of s e.instance
    else answering s e.instance (first_over s e.at e.rate)

-- A Confirm places an entry that waits.
abbrev pub confirmed : CubState → Instance → CubState
confirmed s v = if waits (find (is_of v) s.own) then in_state s v state.Placed else s

-- A Refuse ends one that waits.
abbrev pub refused : CubState → Instance → NetState → CubState
refused s v x = if waits (find (is_of v) s.own) then in_state s v x else s

-- A Release drops what is kept of its instance.
abbrev pub released : CubState → Instance → CubState
released s v = record s { kept = filter (λ e. not (is_for v e)) s.kept }

-- the cub once it took a packet
abbrev pub taking : CubState → Packet → CubState
taking s (packet.Reserve v at rate to) =
    reserved s (record { instance = v; at = at; rate = rate })
taking s (packet.Confirm v to) = confirmed s v
taking s (packet.Refuse v quantum sum to) = refused s v (state.Refused quantum sum)
taking s (packet.Release v to) = released s v

-- what it sends then: the answer to a Reserve, and a Release if a Confirm is of what neither waits nor is placed
abbrev pub sending : CubState → Packet → List Packet
sending s (packet.Reserve v at rate to) =
    answer_to_reserve s (record { instance = v; at = at; rate = rate }) ∷ []
sending s (packet.Confirm v to) =
    if counts (find (is_of v) s.own) then [] else release_of s v ∷ []
sending s (packet.Refuse v quantum sum to) = []
sending s (packet.Release v to) = []

-- what a cub sends again: the Reserve of each entry that waits, and the Confirm of each that it keeps
abbrev pub reserving : CubState → List Packet
reserving s = map (λ o. reserve_of s o.entry) (filter (λ o. is_waiting o.state) s.own)

abbrev pub confirming : CubState → List Packet
confirming s = map (λ e. confirm_of s e.instance) s.kept

abbrev pub renewing : CubState → List Packet
renewing s = reserving s ++ confirming s

-- a packet may come to a cub: it is for that cub, and a Reserve is of an entry that the predecessor may be asked for
-- and that reaches this cub
abbrev pub CanTake : CubState → Packet → Type 0
CanTake s (packet.Reserve v at rate to) =
    (to.0 ≡ s.no) × IsKeptOf s.ring s.no (record { instance = v; at = at; rate = rate })
CanTake s (packet.Confirm v to) = to.0 ≡ s.no
CanTake s (packet.Refuse v quantum sum to) = to.0 ≡ s.no
CanTake s (packet.Release v to) = to.0 ≡ s.no

-- a row has what each of the cub's quanta carries, and the cub is sound
pub record HasLoads (s : CubState) (loads : List ℕ) : Type 0 where
  pub sound : IsSound s
  pub len : length loads ≡ s.ring.quanta
  pub is : (i : ℕ) → i < s.ring.quanta → get_or loads i 0 ≡ carried s (s.no * s.ring.quanta + i)

-- a row has, in each quantum, what another has and what an entry takes of it
pub record IsMoreBy (r : NetRing) (first : ℕ) (e : Entry) (low high : List ℕ) : Type 0 where
  pub len : length high ≡ length low
  pub more : (i : ℕ) → i < length low
      → get_or high i 0 ≡ get_or low i 0 + kept_rate r (first + i) e

-- a list begins with another one
abbrev pub IsLonger : List Packet → List Packet → Type 0
IsLonger old new = (more : List Packet) × (new ≡ old ++ more)
