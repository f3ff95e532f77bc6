-- What one end of a link shows of the events of the node that it leads to or from.
use Rattle.std.specs.Prelude.{◌≡◌, ℕ, ◌+◌, ◌<◌, ◌≤◌, List, [], ◌++◌, map, filter}
use Rattle.std.specs.List.{AllByRecursion}
use Rattle.tiger_base.specs.declared.message.Note.{Note}
use Rattle.link_timing.specs.Clock.{new_clock}
use Rattle.node_kit.specs.declared.course.Course.{Course}
use Rattle.node_kit.specs.Life.{Lifetime, lifetime_of}
use Rattle.node_kit.specs.Steps.{Input, Deed}
use Rattle.run_facts.specs.Accounts.{is_caught, HasCutIn, OnLink}
use Rattle.run_facts.specs.Beats.{pass, opening_of}
use Rattle.run_facts.specs.Events.{NodeEvent, sends_along, takes_along}
use Rattle.run_facts.specs.Paced.{Passage, AreGot}
use Rattle.ring_links.specs.Ends.{LineId}
use Rattle.ring_links.specs.Flights.{IsOrdered}
use Rattle.ring_cells.specs.Flows.{Inflow, Outflow}

-- An in-link of a node with this life that has come through the beats below one: what arrived in them is gone, each
-- message that the node hears was taken in the beat of its arrival, unless the node's death came before its turn, and
-- all others wait.
pub record IsInflow {M : Type 0} (line_of : ℕ → LineId) (life : Lifetime) (next : ℕ) (events : List (NodeEvent M)) (i : Inflow M) : Type 0 where
  pub its_line : i.line ≡ line_of i.link.0
  pub ordered : IsOrdered i.flights
  pub gone : List (Passage M)
  pub split : map pass i.flights ≡ gone ++ map pass i.waiting
  pub got_is : AreGot life (HasCutIn i.link.0 events) (filter (is_caught life) gone) (takes_along i.link.0 events)
  pub behind : AllByRecursion (λ (f : Passage M). f.arrival < next) gone
  pub ahead : AllByRecursion (λ (f : Passage M). next ≤ f.arrival) (map pass i.waiting)
  pub far : next ≤ i.closed + 1

-- An out-link of node n, begun as `first`, that has come through the beats below one: the messages are exactly what the
-- node sent, at the arrivals that the link's clock gives, and these beats and no other are closed. Nothing is brought
-- here, so the life in the account does not matter.
pub record IsOutflow {M S : Type 0} (line_of : ℕ → LineId) (note : M → Note) (step : S → Input M → Deed M S) (c : Course) (n : ℕ) (first : S)
    (next : ℕ) (events : List (NodeEvent M)) (o : Outflow M) : Type 0 where
  pub its_line : o.line ≡ line_of o.link.0
  pub its_closed : o.closed ≡ next
  pub calm : o.clock.last_send ≤ next
  pub account : OnLink (lifetime_of c n) ⊥ c.plan.params.delay (new_clock o.link.0 c.delay c.plan.params.delay)
      (sends_along note step o.link.0 events (opening_of c n first)) [] o.clock (map pass o.flights) 0
