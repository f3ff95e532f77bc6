-- The two ends of a link, what has passed through them, and what a beat makes of each.
use Rattle.std.specs.Prelude.{◌≡◌, ℕ, ◌+◌, ◌≤◌, List, [], ◌∷◌, ◌++◌}
use Rattle.tiger_base.specs.declared.number.LinkNo.{LinkNo}
use Rattle.link_timing.specs.Clock.{Clock, arrival_at, after_send}
use Rattle.run_facts.specs.declared.mail.Flight.{Flight}
use Rattle.run_facts.specs.Beats.{under_way}
use Rattle.ring_links.specs.Ends.{LineId}
use Rattle.ring_links.specs.Flights.{IsOrdered, AllFrom}

-- the receiving end of an in-link: all that was received, the beat below which nothing comes any more, and those of
-- the messages received that wait for their beat
pub record Inflow (M : Type 0) : Type 0 where
  pub link : LinkNo
  pub line : LineId
  pub flights : List (Flight M)
  pub closed : ℕ
  pub waiting : List (Flight M)

-- the sending end of an out-link: all that was sent, the beat below which nothing is sent any more, and the link's clock
pub record Outflow (M : Type 0) : Type 0 where
  pub link : LinkNo
  pub line : LineId
  pub flights : List (Flight M)
  pub closed : ℕ
  pub clock : Clock

-- messages were received besides, none of a beat that was closed, and they all wait
pub record HasReceived {M : Type 0} (old new : Inflow M) : Type 0 where
  pub same_link : new.link ≡ old.link
  pub same_line : new.line ≡ old.line
  pub more : List (Flight M)
  pub all : new.flights ≡ old.flights ++ more
  pub waits : new.waiting ≡ old.waiting ++ more
  pub rises : old.closed ≤ new.closed
  pub of_open : AllFrom old.closed more
  pub in_order : IsOrdered old.flights → IsOrdered new.flights

-- an in-link without what has arrived by a beat
abbrev pub emptied : {M : Type 0} → ℕ → Inflow M → Inflow M
emptied beat i =
    record { link = i.link; line = i.line; flights = i.flights; closed = i.closed; waiting = under_way beat i.waiting }

-- a message is sent in a beat, and arrives when the link's clock says
abbrev pub sent_through : {M : Type 0} → ℕ → M → Outflow M → Outflow M
sent_through beat msg o = record {
  link = o.link;
  line = o.line;
  flights = o.flights ++ (record { sent = beat; arrival = arrival_at o.clock beat; msg = msg }) ∷ [];
  closed = o.closed;
  clock = after_send o.clock beat;
}

-- a beat is over on an out-link: nothing is sent in it any more
abbrev pub done : {M : Type 0} → ℕ → Outflow M → Outflow M
done beat o =
    record { link = o.link; line = o.line; flights = o.flights; closed = beat + 1; clock = o.clock }
