-- Messages that are received on an in-link.
use Rattle.std.proofs.Common.{◌≡◌, ℕ, ◌≤◌, List, [], ◌∷◌, ◌++◌, refl, ap, sym, ◌∙◌, le_trans, le_refl, append_assoc, append-nil}
use Rattle.run_facts.specs.declared.mail.Flight.{Flight}
use Rattle.ring_links.specs.Flights.{AllFrom}
use Rattle.ring_links.proofs.Orders.{from_lower}
use Rattle.ring_cells.specs.Flows.{Inflow, HasReceived}

module _ {M : Type 0} where
  from-append : (beat : ℕ) (xs ys : List (Flight M)) → AllFrom beat xs → AllFrom beat ys → AllFrom beat (xs ++ ys)
  from-append beat [] ys h g = g
  from-append beat (x ∷ xs) ys h g = (h.0, from-append beat xs ys h.1 g)

  pub received-none : (i : Inflow M) → HasReceived i i
  received-none i = record {
    same_link = refl;
    same_line = refl;
    more = [];
    all = sym (append-nil i.flights);
    waits = sym (append-nil i.waiting);
    rises = le_refl i.closed;
    of_open = tt;
    in_order = λ h. h;
  }

  pub received-more : (i j k : Inflow M) → HasReceived i j → HasReceived j k → HasReceived i k
  received-more i j k h g = record {
    same_link = g.same_link ∙ h.same_link;
    same_line = g.same_line ∙ h.same_line;
    more = h.more ++ g.more;
    all = g.all ∙ ap (λ l. l ++ g.more) h.all ∙ append_assoc i.flights h.more g.more;
    waits = g.waits ∙ ap (λ l. l ++ g.more) h.waits ∙ append_assoc i.waiting h.more g.more;
    rises = le_trans h.rises g.rises;
    of_open = from-append i.closed h.more g.more h.of_open (from_lower i.closed j.closed g.more h.rises g.of_open);
    in_order = λ o. g.in_order (h.in_order o);
  }
