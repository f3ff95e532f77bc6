-- What the answers of walks say of the claims on a kept run.
use Rattle.std.specs.Prelude.{◌≡◌, ℕ, ◌+◌, List, length, None}
use Rattle.slot_plan.specs.declared.params.Params.{Params}
use Rattle.node_kit.specs.declared.course.Course.{Course}
use Rattle.node_kit.specs.declared.course.Kept.{Kept}
use Rattle.node_kit.specs.declared.course.Order.{Order}
use Rattle.node_kit.specs.declared.journal.Entry.{Entry}
use Rattle.run_facts.specs.Commanded.{AreCommanded}
use Rattle.node_kit.specs.Links.{links_of, viewers_of}
use Rattle.run_model.specs.Runs.{IsCarriedRun, IsTimedRun}
use Rattle.run_claims.specs.Accounts.{Account, account_of}
use Rattle.audit_orders.specs.Carrying.{IsUncarriedAt}
use Rattle.audit_orders.specs.Commanding.{IsUncommandedAt, DecidesCommanded, clock_of}
use Rattle.audit_orders.specs.Timing.{IsUntimedAt}
use Rattle.audit_orders.specs.declared.carrying.Uncarried.{Uncarried}
use Rattle.audit_orders.specs.declared.commanding.Uncommanded.{Uncommanded}
use Rattle.audit_orders.specs.declared.timing.Untimed.{Untimed}

-- a run that is not timed somewhere is not timed
abbrev pub UntimedDenies : Type 0
UntimedDenies = (k : Kept) (place : Untimed) → IsUntimedAt k.course k.journals place → IsTimedRun k → ⊥

-- two places at each of which a run is first not timed are one
abbrev pub UntimedIsOne : Type 0
UntimedIsOne = (c : Course) (journals : List (List Entry)) (a b : Untimed)
    → IsUntimedAt c journals a → IsUntimedAt c journals b → a ≡ b

-- the journals of an account follow its orders, as the ninth claim has it
abbrev pub FollowsOrders : Account → Type 0
FollowsOrders a = AreCommanded a.plan a.commands a.clock a.orders a.journals

-- those of a run do if an answer names no place, and if they do not follow them somewhere, they do not
abbrev pub CommandsOfAccounts : Type 0
CommandsOfAccounts = (k : Kept) → DecidesCommanded k None → FollowsOrders (account_of k)

abbrev pub UncommandedDenies : Type 0
UncommandedDenies = (k : Kept) (place : Uncommanded)
    → IsUncommandedAt k.course.plan.params k.course.beats (clock_of k.course) k.orders k.journals place
    → FollowsOrders (account_of k) → ⊥

-- two places at each of which they first do not are one
abbrev pub UncommandedIsOne : Type 0
UncommandedIsOne = (p : Params) (beats : ℕ) (reading : ℕ → ℕ) (orders : List Order) (journals : List (List Entry)) (a b : Uncommanded)
    → IsUncommandedAt p beats reading orders journals a → IsUncommandedAt p beats reading orders journals b → a ≡ b

-- the journals of all nodes are there
abbrev pub HasAllJournals : Kept → Type 0
HasAllJournals k = length k.journals ≡ viewers_of (links_of k.course.plan.params) + 1

-- a run that is not carried somewhere is not carried
abbrev pub UncarriedDenies : Type 0
UncarriedDenies = (k : Kept) (place : Uncarried) → HasAllJournals k → IsUncarriedAt k.course k.journals place → IsCarriedRun k → ⊥

-- two entries at each of which a run is first not carried are one
abbrev pub UncarriedIsOne : Type 0
UncarriedIsOne = (c : Course) (journals : List (List Entry)) (a b : Uncarried)
    → IsUncarriedAt c journals a → IsUncarriedAt c journals b → a ≡ b
