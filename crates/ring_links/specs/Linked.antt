-- The rule of a link's queue: what was sent is what was received and then what the queue holds, in order. One pass at
-- most sends, and it has the list of what was sent. The same for what was received.
use Rattle.std.specs.Prelude.{◌≡◌, ℕ, ◌^◌, ◌≤◌, Bool, true, List, [], ◌∷◌, ◌++◌, length}
use mathlib.Core.Option.{some}
use lib.ListN.{get_elem?}
use Rattle.run_facts.specs.declared.mail.Flight.{Flight}
use Rattle.ring_links.specs.declared.line.Side.{Side}
use Rattle.ring_links.specs.Flights.{IsOrdered}

-- the greatest number of messages that are sent on a link
abbrev pub most : ℕ
most = 2 ^ 43

module _ {M : Type 0} where
  abbrev pub side : Bool → Bool → List (Flight M) → List (Flight M) → Side M
  side a b sent got = record { sends = a; takes = b; sent = sent; got = got }

  -- the pass at this port sends if it is the sender's, takes if it is the taker's, and knows its own list
  abbrev pub Fits : ℕ → ℕ → List (Flight M) → List (Flight M) → ℕ → Side M → Type 0
  Fits sender taker sent got port v =
      (v.sends ≡ true → (port ≡ sender) × (v.sent ≡ sent)) × (v.takes ≡ true → (port ≡ taker) × (v.got ≡ got))

  abbrev pub Linked : List (Flight M) → List (Side M) → Type 0
  Linked items views =
      (sender : ℕ) × (taker : ℕ) × (sent : List (Flight M)) × (got : List (Flight M))
      × (sent ≡ got ++ items) × IsOrdered sent × (length sent ≤ most)
      × ((port : ℕ) (v : Side M) → get_elem? views port ≡ some v → Fits sender taker sent got port v)

  -- what a step of the receiver tells
  abbrev pub Takes : Side M → Flight M → Side M → Type 0
  Takes v x w =
      (w ≡ side v.sends v.takes v.sent (v.got ++ x ∷ [])) × IsOrdered w.got × (length w.got ≤ most)

  -- what was sent by then is what was received and these items
  abbrev pub Covers : Side M → List (Flight M) → Type 0
  Covers v items = (sent : List (Flight M)) × (sent ≡ v.got ++ items) × IsOrdered sent
