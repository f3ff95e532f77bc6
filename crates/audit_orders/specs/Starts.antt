-- What a walk along the controller's journal compares the starts that were sent with.
use Rattle.std.specs.Prelude.{◌≡◌, ℕ, ◌+◌, ◌%◌, ◌<◌, ◌≤◌, Bool, true, false, not, ◌&&◌, ◌==◌, nat_lt, List, [], ◌∷◌, ◌++◌, length, map, drop, Option, Some, None, slice_get, if◌then◌else◌}
use Rattle.std.specs.List.{flat_map}
use Rattle.slot_plan.specs.declared.params.Params.{Params}
use Rattle.node_kit.specs.declared.course.Order.{Order}
use Rattle.node_kit.specs.declared.course.OrderKind.{OrderKind}
use Rattle.node_kit.specs.declared.course.OrderKind.TheVariants as kind
use Rattle.node_kit.specs.declared.journal.Entry.{Entry}
use Rattle.node_kit.specs.declared.journal.What.{What}
use Rattle.run_facts.specs.Commanded.{Dispatch, start_of}
use Rattle.run_facts.specs.Events.{Dated}
use Rattle.audit_frame.specs.Tables.{same_ask}
use Rattle.audit_orders.specs.declared.starts.Start.{Start}
use Rattle.audit_orders.specs.declared.starts.Wanted.{Wanted}
use Rattle.audit_orders.specs.declared.starts.Meeting.{Meeting}
use Rattle.audit_orders.specs.declared.starts.Meeting.TheVariants as meeting

-- the starts that an order wants, if it is one of the run's beats, each with the order's place
abbrev pub wants_by : Params → ℕ → ℕ → ℕ → OrderKind → List Wanted
wants_by p beats j beat (kind.Begin ask) =
    if nat_lt beat beats then
    (record { beat = beat; to = ask.disk.0 % p.cubs; ask = ask; redundant = false; order = j })
    ∷ (record { beat = beat; to = (ask.disk.0 + 1) % p.cubs; ask = ask; redundant = true; order = j }) ∷ []
    else []
wants_by p beats j beat (kind.Finish v) = []

-- and those of all orders, if the first stands at place j
abbrev pub wanted_from : Params → ℕ → ℕ → List Order → List Wanted
wanted_from p beats j [] = []
wanted_from p beats j (o ∷ os) = wants_by p beats j o.beat o.what ++ wanted_from p beats (j + 1) os

-- the start that is wanted, and its beat
abbrev pub dated_of : Wanted → Dated Dispatch
dated_of w = record { beat = w.beat; item = record { to = Some w.to; ask = w.ask; redundant = w.redundant } }

abbrev pub dated_by : Start → Dated Dispatch
dated_by s = record { beat = s.beat; item = record { to = s.to; ask = s.ask; redundant = s.redundant } }

-- the starts that an entry, or a journal, says were sent, and their beats
abbrev pub sent_by : Params → ℕ → What → List (Dated Dispatch)
sent_by p beat w = map (λ d. record { beat = beat; item = d }) (start_of p w)

abbrev pub all_sent : Params → List Entry → List (Dated Dispatch)
all_sent p journal = flat_map (λ e. sent_by p e.stamp.beat e.what) journal

-- a start is not the first of these, and not behind it
abbrev pub IsNotNext : Dated Dispatch → List Wanted → Type 0
IsNotNext s [] = Unit {0}
IsNotNext s (w ∷ ws) = (s.beat ≤ w.beat) × (dated_of w ≡ s → ⊥)

-- what an entry of a beat that sends this is to the starts that are wanted from a place on
abbrev pub Meets : List Wanted → ℕ → ℕ → List (Dated Dispatch) → Meeting → Type 0
Meets wanted next beat sent meeting.Other = sent ≡ []
Meets wanted next beat sent meeting.Next = (w : Wanted) × (slice_get wanted next ≡ Some w) × (sent ≡ dated_of w ∷ [])
Meets wanted next beat sent meeting.Surplus = (s : Dated Dispatch) × (sent ≡ s ∷ []) × IsNotNext s (drop next wanted)
Meets wanted next beat sent (meeting.Late j) =
    (w : Wanted) × (slice_get wanted next ≡ Some w) × (w.order ≡ j) × (w.beat < beat)

-- what stands behind the last entry is to the starts that are wanted from a place on: there are none, or this is the
-- order of the first of them
abbrev pub Leaves : List Wanted → ℕ → Option ℕ → Type 0
Leaves wanted next None = length wanted ≤ next
Leaves wanted next (Some j) = (w : Wanted) × (slice_get wanted next ≡ Some w) × (w.order ≡ j)

-- the tests of a start that was sent: whether it leads to a node, and whether it is as wanted
abbrev pub is_end : ℕ → Option ℕ → Bool
is_end n None = false
is_end n (Some m) = m == n

abbrev pub same_flag : Bool → Bool → Bool
same_flag a b = if a then b else not b

abbrev pub is_same : Wanted → Dated Dispatch → Bool
is_same w s =
    (w.beat == s.beat) && (is_end w.to s.item.to && (same_flag w.redundant s.item.redundant && same_ask w.ask s.item.ask))
