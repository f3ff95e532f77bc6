-- The laws of moments: to walk along a log and to look at its fronts is the same.
use Rattle.std.specs.Prelude.{◌≡◌, ◌↔◌, ℕ, List, ◌++◌, filter, not}
use Rattle.slot_plan.specs.declared.params.Params.{Params}
use Rattle.node_kit.specs.declared.course.Order.{Order}
use Rattle.run_facts.specs.Order.{Noted, IsInOrder}
use Rattle.run_model.specs.Fronts.{OfEachFront, OfEachEntry}
use Rattle.run_model.specs.Moments.{moment_of, moment_at}
use Rattle.run_model.specs.Parts.{ViewsArePart, ViewsAreAlwaysPart, IsLocal, EntriesAreLocal}
use Rattle.run_model.specs.Orders.{EntryIsFair, PutsAreFair, is_up_to}

-- the moment after some entries is the same, entry by entry and each part by itself
abbrev pub MomentsAreFronts : Type 0
MomentsAreFronts = (front : List Noted) → moment_of front ≡ moment_at front

-- the views are always part of the schedule where they are at each front of the log
abbrev pub PartAtFronts : Type 0
PartAtFronts = (p : Params) (log : List Noted)
    → ViewsAreAlwaysPart p log ↔ OfEachFront (λ front. ViewsArePart p (moment_at front)) log

-- the entries are local where each is at the front before it
abbrev pub LocalAtFronts : Type 0
LocalAtFronts = (p : Params) (log : List Noted)
    → EntriesAreLocal p log ↔ OfEachEntry (λ front x. IsLocal p (moment_at front) x) log

-- the Puts are fair where each is at the front before it
abbrev pub FairAtFronts : Type 0
FairAtFronts = (p : Params) (orders : List Order) (log : List Noted)
    → PutsAreFair p orders log
    ↔ OfEachEntry (λ front x. EntryIsFair p orders log (moment_at front) x.node x.entry.stamp.reading x.entry.what) log

-- in a log in order, the entries up to the end of a tick are a front
abbrev pub TicksEndFronts : Type 0
TicksEndFronts = (nodes beats beat n : ℕ) (log : List Noted) → IsInOrder nodes beats log
    → filter (is_up_to beat n) log ++ filter (λ x. not (is_up_to beat n x)) log ≡ log
