-- Where journals do not follow the orders of a run: a stop by another node than the controller, a start that was not
-- ordered, one that was ordered and not sent, a stop that takes no effect, and one that does and is not written.
use Rattle.std.specs.Prelude.{◌≡◌, ◌≢◌, ℕ, ◌+◌, ◌<◌, Bool, true, false, ◌&&◌, nat_lt, List, [], ◌++◌, ◌≤◌, length, take, filter, Option, Some, None, slice_get, ◌⊎◌, if◌then◌else◌}
use Rattle.std.specs.List.{list_any}
use Rattle.tiger_base.specs.declared.number.Instance.{Instance}
use Rattle.slot_plan.specs.declared.params.Params.{Params}
use Rattle.node_kit.specs.declared.course.Course.{Course}
use Rattle.node_kit.specs.declared.course.Kept.{Kept}
use Rattle.node_kit.specs.declared.course.Order.{Order}
use Rattle.node_kit.specs.declared.course.OrderKind.TheVariants as kind
use Rattle.node_kit.specs.declared.journal.Entry.{Entry}
use Rattle.node_kit.specs.declared.journal.What.TheVariants as what
use Rattle.node_kit.specs.Courses.{reading_of}
use Rattle.node_kit.specs.Links.{links_of, controller_of}
use Rattle.run_facts.specs.Commanded.{Dispatch, starts_sent, starts_ordered, is_gone, is_gone_of, gone_in, is_stopped, StopsNone, IsCommanded, AreCommanded}
use Rattle.audit_orders.specs.Earliest.{IsFirstEntry, IsFirstInRow}
use Rattle.audit_orders.specs.declared.commanding.Uncommanded.{Uncommanded}
use Rattle.audit_orders.specs.declared.commanding.Uncommanded.TheVariants as un

-- a list is a front of another
abbrev pub IsFrontOf : {X : Type 0} → List X → List X → Type 0
IsFrontOf {X} front all = (rest : List X) × (front ++ rest ≡ all)

-- ---- starts

-- the starts that the orders want sent in a beat
abbrev pub starts_due : Params → ℕ → List Order → ℕ → List Dispatch
starts_due p beats orders beat = if nat_lt beat beats then starts_ordered p beat orders else []

-- in each beat below one the controller sends the starts that are due
abbrev pub AreSentBelow : Params → ℕ → List Order → List Entry → ℕ → Type 0
AreSentBelow p beats orders journal b =
    (a : ℕ) → a < b → starts_sent p a journal ≡ starts_due p beats orders a

-- of the first beat in which it does not, the starts that were sent before an entry are the first of those that are due,
-- and with it they are not
pub record IsWrongStart (p : Params) (beats : ℕ) (orders : List Order) (journal : List Entry) (i : ℕ) : Type 0 where
  pub inside : i < length journal
  pub beat : ℕ
  pub lower_beats : AreSentBelow p beats orders journal beat
  pub before : IsFrontOf (starts_sent p beat (take i journal)) (starts_due p beats orders beat)
  pub with_it : IsFrontOf (starts_sent p beat (take (i + 1) journal)) (starts_due p beats orders beat) → ⊥

-- the starts sent in an order's beat, the first in which they are not those that are due, are the first of these; those of
-- the orders before it are among them, and its own are not, or not both
pub record IsUnsent (p : Params) (beats : ℕ) (orders : List Order) (journal : List Entry) (j : ℕ) : Type 0 where
  pub order : Order
  pub here : slice_get orders j ≡ Some order
  pub early : order.beat < beats
  pub lower_beats : AreSentBelow p beats orders journal order.beat
  pub sent : IsFrontOf (starts_sent p order.beat journal) (starts_due p beats orders order.beat)
  pub lower : IsFrontOf (starts_ordered p order.beat (take j orders)) (starts_sent p order.beat journal)
  pub lacks : IsFrontOf (starts_ordered p order.beat (take (j + 1) orders)) (starts_sent p order.beat journal) → ⊥

-- in each beat the controller sends the starts that are due
abbrev pub AreSent : Params → ℕ → List Order → List Entry → Type 0
AreSent p beats orders journal = (beat : ℕ) → starts_sent p beat journal ≡ starts_due p beats orders beat

-- an answer decides whether they are sent
abbrev pub DecidesStarts : Params → ℕ → List Order → List Entry → Option Uncommanded → Type 0
DecidesStarts p beats orders journal None = AreSent p beats orders journal
DecidesStarts p beats orders journal (Some (un.Start i)) = IsWrongStart p beats orders journal i
DecidesStarts p beats orders journal (Some (un.Unsent j)) = IsUnsent p beats orders journal j
DecidesStarts p beats orders journal (Some other) = ⊥

-- ---- stops

-- whether a stop takes effect in a beat of the run
abbrev pub takes_effect : Params → ℕ → (ℕ → ℕ) → List Order → List Entry → ℕ → ℕ → Bool
takes_effect p beats reading orders journal v beat = nat_lt beat beats && is_stopped p orders journal v beat (reading beat)

-- an entry stops an instance, and no stop takes effect in its beat, or an entry before it stops the instance too
pub record IsWrongStop (p : Params) (beats : ℕ) (reading : ℕ → ℕ) (orders : List Order) (journal : List Entry) (i : ℕ) : Type 0 where
  pub entry : Entry
  pub here : slice_get journal i ≡ Some entry
  pub v : Instance
  pub gone : entry.what ≡ what.Gone v
  pub wrong : (takes_effect p beats reading orders journal v.0 entry.stamp.beat ≡ false)
      ⊎ (list_any (λ e. is_gone_of v.0 e.what) (take i journal) ≡ true)

-- an order stops an instance, the stop takes effect, and the instance is not stopped in that beat
pub record IsStopMissing (p : Params) (beats : ℕ) (reading : ℕ → ℕ) (orders : List Order) (journal : List Entry) (j : ℕ) : Type 0 where
  pub order : Order
  pub here : slice_get orders j ≡ Some order
  pub v : Instance
  pub finish : order.what ≡ kind.Finish v
  pub effective : takes_effect p beats reading orders journal v.0 order.beat ≡ true
  pub missing : gone_in journal v.0 order.beat ≡ false

-- stops are written exactly where they take effect, and once
pub record AreStopped (p : Params) (beats : ℕ) (reading : ℕ → ℕ) (orders : List Order) (journal : List Entry) : Type 0 where
  pub stops : (v beat : ℕ) → gone_in journal v beat ≡ takes_effect p beats reading orders journal v beat
  pub once : (v : ℕ) → length (filter (λ e. is_gone_of v e.what) journal) ≤ 1

-- no entry stops an instance wrongly, and an order is the first whose stop is missing
pub record IsFirstUnstopped (p : Params) (beats : ℕ) (reading : ℕ → ℕ) (orders : List Order) (journal : List Entry) (j : ℕ) : Type 0 where
  pub none_wrong : (i : ℕ) → IsWrongStop p beats reading orders journal i → ⊥
  pub first : IsFirstInRow (IsStopMissing p beats reading orders journal) j

-- an answer decides whether they are
abbrev pub DecidesStops : Params → ℕ → (ℕ → ℕ) → List Order → List Entry → Option Uncommanded → Type 0
DecidesStops p beats reading orders journal None = AreStopped p beats reading orders journal
DecidesStops p beats reading orders journal (Some (un.Stop i)) = IsFirstInRow (IsWrongStop p beats reading orders journal) i
DecidesStops p beats reading orders journal (Some (un.Unstopped j)) = IsFirstUnstopped p beats reading orders journal j
DecidesStops p beats reading orders journal (Some other) = ⊥

-- ---- all of them

-- an entry of a journal stops an instance
abbrev pub IsGoneAt : List Entry → ℕ → Type 0
IsGoneAt journal i = (e : Entry) × (slice_get journal i ≡ Some e) × (is_gone e.what ≡ true)

-- an entry of a node that is not the controller does
pub record IsForeignStop (controller : ℕ) (journals : List (List Entry)) (n i : ℕ) : Type 0 where
  pub other : n ≢ controller
  pub journal : List Entry
  pub here : slice_get journals n ≡ Some journal
  pub gone : IsGoneAt journal i

-- and it is the first
abbrev pub IsForeignAt : ℕ → List (List Entry) → Uncommanded → Type 0
IsForeignAt controller journals (un.Foreign node i) = IsFirstEntry (IsForeignStop controller journals) node.0 i
IsForeignAt controller journals other = ⊥

-- and no entry of such a node does
abbrev pub OthersStopNone : ℕ → List (List Entry) → Type 0
OthersStopNone controller journals =
    (n : ℕ) (journal : List Entry) → n ≢ controller → slice_get journals n ≡ Some journal → StopsNone journal

-- the controller's journal does not follow the orders first here: in its starts, and if those are right, in its stops
abbrev pub BreaksOrders : Params → ℕ → (ℕ → ℕ) → List Order → List Entry → Uncommanded → Type 0
BreaksOrders p beats reading orders journal (un.Foreign node i) = ⊥
BreaksOrders p beats reading orders journal (un.Start i) = IsWrongStart p beats orders journal i
BreaksOrders p beats reading orders journal (un.Unsent j) = IsUnsent p beats orders journal j
BreaksOrders p beats reading orders journal (un.Stop i) =
    AreSent p beats orders journal × IsFirstInRow (IsWrongStop p beats reading orders journal) i
BreaksOrders p beats reading orders journal (un.Unstopped j) =
    AreSent p beats orders journal × IsFirstUnstopped p beats reading orders journal j

-- an answer decides whether it follows them
abbrev pub DecidesController : Params → ℕ → (ℕ → ℕ) → List Order → List Entry → Option Uncommanded → Type 0
DecidesController p beats reading orders journal None = IsCommanded p beats reading orders journal
DecidesController p beats reading orders journal (Some place) = BreaksOrders p beats reading orders journal place

-- journals do not follow the orders first here: at a stop by another node, and if there is none, in the controller's journal
abbrev pub IsUncommandedAt : Params → ℕ → (ℕ → ℕ) → List Order → List (List Entry) → Uncommanded → Type 0
IsUncommandedAt p beats reading orders journals (un.Foreign node i) =
    IsFirstEntry (IsForeignStop (controller_of (links_of p)) journals) node.0 i
IsUncommandedAt p beats reading orders journals place =
    OthersStopNone (controller_of (links_of p)) journals
    × (journal : List Entry) × (slice_get journals (controller_of (links_of p)) ≡ Some journal)
    × BreaksOrders p beats reading orders journal place

-- what the controller's clock shows in a beat of a course
abbrev pub clock_of : Course → ℕ → ℕ
clock_of c beat = reading_of c (controller_of (links_of c.plan.params)) beat

-- an answer decides whether the journals of a kept run follow its orders
abbrev pub DecidesCommanded : Kept → Option Uncommanded → Type 0
DecidesCommanded k None = AreCommanded k.course.plan.params k.course.beats (clock_of k.course) k.orders k.journals
DecidesCommanded k (Some place) =
    IsUncommandedAt k.course.plan.params k.course.beats (clock_of k.course) k.orders k.journals place
