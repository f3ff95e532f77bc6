-- Where a clause is broken, as the walk that decides it has it.
use Rattle.std.specs.Prelude.{◌≡◌, ℕ, ◌==◌, List, length, take, filter, Option, Some, None, slice_get, ◌⊎◌}
use Rattle.tiger_base.specs.declared.number.NodeNo.{NodeNo}
use Rattle.slot_plan.specs.declared.params.Params.{Params}
use Rattle.node_kit.specs.declared.course.Kept.{Kept}
use Rattle.node_kit.specs.declared.journal.Entry.{Entry}
use Rattle.node_kit.specs.Links.{links_of, controller_of}
use Rattle.run_facts.specs.Order.{Noted}
use Rattle.run_model.specs.Orders.{PutsAreFair}
use Rattle.run_model.specs.Runs.{IsTimedRun, order_in}
use Rattle.run_claims.specs.Accounts.{ticks_in}
use Rattle.run_claims.specs.Returns.{NobodyComesBack}
use Rattle.run_claims.specs.Visits.{AreServedOnce}
use Rattle.run_claims.specs.Truths.{BeliefsAreTrue, FailuresAreTrue}
use Rattle.run_claims.specs.Turns.{AreInTurn}
use Rattle.audit_frame.specs.First.{IsFirstFalse}
use Rattle.audit_orders.specs.Carrying.{IsUncarriedAt}
use Rattle.audit_orders.specs.Commanding.{IsUncommandedAt, clock_of}
use Rattle.audit_orders.specs.Timing.{IsUntimedAt}
use Rattle.audit_orders.specs.declared.carrying.Uncarried.{Uncarried}
use Rattle.audit_orders.specs.declared.carrying.Uncarried.TheVariants as uncarried
use Rattle.audit_orders.specs.declared.commanding.Uncommanded.{Uncommanded}
use Rattle.audit_orders.specs.declared.commanding.Uncommanded.TheVariants as uncommanded
use Rattle.audit_orders.specs.declared.flaw.Flaw.TheVariants as flaw
use Rattle.audit_orders.specs.declared.timing.Untimed.{Untimed}
use Rattle.audit_orders.specs.declared.timing.Untimed.TheVariants as untimed
use Rattle.audit_views.specs.Verdicts.{ArePartAndLocal}
use Rattle.audit_blocks.specs.Verdicts.{IsFirstWithout, IsServedIn}
use Rattle.audit_waits.specs.Ticks.{IsFirstPassedOver}
use Rattle.audit_waits.specs.declared.walk.PassedOver.{PassedOver}
use Rattle.audit_verdict.specs.Clocks.{ShowClocks}
use Rattle.audit_verdict.specs.declared.clause.Clause.{Clause}
use Rattle.audit_verdict.specs.declared.clause.Clause.TheVariants as clause
use Rattle.audit_verdict.specs.declared.place.EntryPlace.{EntryPlace}
use Rattle.audit_verdict.specs.declared.place.Place.{Place}
use Rattle.audit_verdict.specs.declared.place.Place.TheVariants as place

-- ---- entries

-- an entry of a node, by its place in the journal
abbrev pub entry_place : NodeNo → ℕ → EntryPlace
entry_place node i = record { node = node; place = i }

-- An entry of a node stands at this place of the log of a kept run: in its journal as many entries stand before it as there
-- are of its node before this place of the log.
pub record IsLoggedEntry (k : Kept) (i : ℕ) (e : EntryPlace) : Type 0 where
  pub noted : Noted
  pub in_log : slice_get (order_in k) i ≡ Some noted
  pub node : noted.node ≡ e.node.0
  pub journal : List Entry
  pub here : slice_get k.journals e.node.0 ≡ Some journal
  pub in_journal : slice_get journal e.place ≡ Some noted.entry
  pub behind : e.place ≡ length (filter (λ x. x.node == e.node.0) (take i (order_in k)))

-- a place is an entry that stands at this place of the log
abbrev pub IsLoggedPlace : Kept → ℕ → Place → Type 0
IsLoggedPlace k i (place.Entry e) = IsLoggedEntry k i e
IsLoggedPlace k i other = ⊥

-- a place is an entry, and this is so of the entry's place in the log
abbrev pub IsLoggedAt : Kept → (ℕ → Type 0) → Place → Type 0
IsLoggedAt k Says here = (i : ℕ) × IsLoggedPlace k i here × Says i

-- it is the last entry of the least front of the log of which a claim is false
abbrev pub IsWhereFalse : Kept → (List Noted → Type 0) → Place → Type 0
IsWhereFalse k Claim here = IsLoggedAt k (λ i. IsFirstFalse Claim (order_in k) i) here

-- ---- places by walks

-- the place at which a run is not carried
abbrev pub place_uncarried : Uncarried → Place
place_uncarried (uncarried.Stray node i) = place.Entry (entry_place node i)
place_uncarried (uncarried.Got node i) = place.Entry (entry_place node i)
place_uncarried (uncarried.Lost node i) = place.Entry (entry_place node i)

-- at which it is not timed
abbrev pub place_untimed : Untimed → Place
place_untimed (untimed.Journal node (flaw.Entry i)) = place.Entry (entry_place node i)
place_untimed (untimed.Journal node flaw.Missing) = place.Death node
place_untimed (untimed.Neighbours cub) = place.Neighbours cub
place_untimed (untimed.Return node i) = place.Entry (entry_place node i)

-- the controller of a plan, as a node
abbrev pub controller_in : Params → NodeNo
controller_in p = record { 0 = controller_of (links_of p) }

-- at which its journals do not follow the orders
abbrev pub place_uncommanded : Params → Uncommanded → Place
place_uncommanded p (uncommanded.Foreign node i) = place.Entry (entry_place node i)
place_uncommanded p (uncommanded.Start i) = place.Entry (entry_place (controller_in p) i)
place_uncommanded p (uncommanded.Unsent j) = place.Order j
place_uncommanded p (uncommanded.Stop i) = place.Entry (entry_place (controller_in p) i)
place_uncommanded p (uncommanded.Unstopped j) = place.Order j

-- the last entry up to a tick, by its place in the log, if there is one
abbrev pub IsLastLogged : Kept → Option ℕ → Option EntryPlace → Type 0
IsLastLogged k None None = Unit {0}
IsLastLogged k (Some i) (Some e) = IsLoggedEntry k i e
IsLastLogged k (Some i) None = ⊥
IsLastLogged k None (Some e) = ⊥

-- the tick at which somebody is passed over first
pub record IsPassedTick (k : Kept) (here : Place) : Type 0 where
  pub tick : PassedOver
  pub last : Option EntryPlace
  pub logged : IsLastLogged k tick.place last
  pub is : here ≡ place.Tick tick.cub tick.beat last
  pub first : IsFirstPassedOver k.course.plan.params k.orders (ticks_in k.course) (order_in k) tick

-- ---- by clauses

-- a run is not timed here
abbrev pub IsUntimedPlace : Kept → Place → Type 0
IsUntimedPlace k here = (found : Untimed) × (here ≡ place_untimed found) × IsUntimedAt k.course k.journals found

-- A clause is broken here. The second one is broken at a reading that its clock does not show only if the run is timed.
abbrev pub IsPlaceOf : Kept → Clause → Place → Type 0
IsPlaceOf k clause.Carried here =
    (found : Uncarried) × (here ≡ place_uncarried found) × IsUncarriedAt k.course k.journals found
IsPlaceOf k clause.Timed here =
    IsUntimedPlace k here ⊎ (IsTimedRun k × IsWhereFalse k (ShowClocks k.course) here)
IsPlaceOf k clause.Commanded here =
    (found : Uncommanded) × (here ≡ place_uncommanded k.course.plan.params found)
    × IsUncommandedAt k.course.plan.params k.course.beats (clock_of k.course) k.orders k.journals found
IsPlaceOf k clause.FreePuts here = IsWhereFalse k (PutsAreFair k.course.plan.params k.orders) here
IsPlaceOf k clause.PartViews here = IsWhereFalse k (ArePartAndLocal k.course.plan.params) here
IsPlaceOf k clause.NoReturn here = IsWhereFalse k (NobodyComesBack k.course.plan.params) here
IsPlaceOf k clause.OnePerVisit here = IsWhereFalse k (AreServedOnce k.course.plan.params) here
IsPlaceOf k clause.TrueBelief here = IsWhereFalse k BeliefsAreTrue here
IsPlaceOf k clause.TrueFaults here = IsWhereFalse k (FailuresAreTrue k.course.plan.params k.course.faults) here
IsPlaceOf k clause.FullDelivery here = IsLoggedAt k (λ i. IsFirstWithout (IsServedIn k) (order_in k) i) here
IsPlaceOf k clause.VisitsInOrder here = IsWhereFalse k (AreInTurn k.course.plan.params) here
IsPlaceOf k clause.FairStarts here = IsPassedTick k here
