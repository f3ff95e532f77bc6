-- The order of a link's messages.
use Rattle.std.specs.Prelude.{◌≡◌, ℕ, ◌<◌, ◌≤◌, List, [], ◌∷◌, ◌++◌, ⊤, ◌⊎◌}
use Rattle.run_facts.specs.declared.mail.Flight.{Flight}

module _ {M : Type 0} where
  -- q may come behind p: neither sent beats nor arrivals fall
  abbrev pub MayFollow : Flight M → Flight M → Type 0
  MayFollow p q = (p.sent ≤ q.sent) × (p.arrival ≤ q.arrival)

  abbrev pub AllFollow : Flight M → List (Flight M) → Type 0
  AllFollow p [] = ⊤
  AllFollow p (q ∷ qs) = MayFollow p q × AllFollow p qs

  -- each message arrives past the beat that sent it, and neither sent beats nor arrivals fall
  abbrev pub IsOrdered : List (Flight M) → Type 0
  IsOrdered [] = ⊤
  IsOrdered (p ∷ ps) = (p.sent < p.arrival) × AllFollow p ps × IsOrdered ps

  -- all were sent in this beat or later
  abbrev pub AllFrom : ℕ → List (Flight M) → Type 0
  AllFrom beat [] = ⊤
  AllFrom beat (p ∷ ps) = (beat ≤ p.sent) × AllFrom beat ps

  -- what was got is a front of what was sent, and the rest was sent in this beat or later
  abbrev pub IsFront : ℕ → List (Flight M) → List (Flight M) → Type 0
  IsFront beat got sent = (rest : List (Flight M)) × (sent ≡ got ++ rest) × AllFrom beat rest

  -- it is among the messages
  abbrev pub Has : Flight M → List (Flight M) → Type 0
  Has p [] = ⊥
  Has p (q ∷ qs) = (p ≡ q) ⊎ Has p qs

  -- each message that was sent below this beat was got
  abbrev pub AreGiven : ℕ → List (Flight M) → List (Flight M) → Type 0
  AreGiven beat got sent = (p : Flight M) → Has p sent → p.sent < beat → Has p got

  -- all were sent by the one beat, and arrive by the other
  abbrev pub AllBy : ℕ → ℕ → List (Flight M) → Type 0
  AllBy sent arrival [] = ⊤
  AllBy sent arrival (p ∷ ps) = (p.sent ≤ sent) × (p.arrival ≤ arrival) × AllBy sent arrival ps
