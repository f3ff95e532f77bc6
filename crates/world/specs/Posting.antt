-- What an event's outputs make of the links, and what always holds of a link.
use Rattle.std.specs.Prelude.{◌≡◌, ℕ, ◌<◌, ◌≤◌, nat_lt, Bool, false, List, [], ◌∷◌, ◌++◌, Some, slice_get}
use Rattle.std.specs.List.{AllByRecursion}
use Rattle.node_kit.specs.declared.outbox.Out.{Out}
use Rattle.node_kit.specs.declared.outbox.Out.TheVariants as out
use Rattle.run_facts.specs.Accounts.{Rising}
use Rattle.run_facts.specs.Events.{Dated, sends_of}
use Rattle.ring_world.specs.Machine.{Way, each_at}

-- Link l after these outputs of a beat: what is sent on it is under way.
abbrev pub with_sent : {M : Type 0} → ℕ → List (Out M) → ℕ → Way M → Way M
with_sent beat outs l w = record { gone = w.gone; under_way = w.under_way ++ sends_of l beat outs }

-- All links after them.
abbrev pub posted : {M : Type 0} → ℕ → List (Out M) → List (Way M) → List (Way M)
posted beat outs ways = each_at (with_sent beat outs) 0 ways

-- It is no message on a link that is not there.
abbrev pub IsPostable : {M : Type 0} → ℕ → Out M → Type 0
IsPostable links (out.Send link msg) = link.0 < links
IsPostable links (out.Act what) = Unit {0}

-- The messages under way on a link stand in the order of their beats.
abbrev pub IsInOrder : {M : Type 0} → Way M → Type 0
IsInOrder w = Rising (λ d. d.beat) w.under_way

-- The oldest message under way was sent below a beat.
abbrev pub begins_below : {M : Type 0} → ℕ → List (Dated M) → Bool
begins_below beat [] = false
begins_below beat (d ∷ ds) = nat_lt d.beat beat

-- Besides, none was sent after the beat.
pub record IsOrderly {M : Type 0} (now : ℕ) (w : Way M) : Type 0 where
  pub rising : IsInOrder w
  pub sent : AllByRecursion (λ d. d.beat ≤ now) w.under_way

abbrev pub AreInOrder : {M : Type 0} → List (Way M) → Type 0
AreInOrder {M} ways = (l : ℕ) (w : Way M) → slice_get ways l ≡ Some w → IsInOrder w
