-- What the sender of the tests keeps when it sends.
use Rattle.std.proofs.Common.{◌≡◌, ℕ, List, [], ◌∷◌, ◌++◌, Result, Ok, Err, OnOk, OnErr, subst, sym}
use Rattle.run_facts.specs.declared.mail.Flight.{Flight}
use Rattle.ring_links.specs.declared.ends.Refused.{Refused}
use Rattle.ring_links.specs.Flights.{IsOrdered, AllBy}

pub kept_by : {A : Type 0} (result : Result A (Refused ℕ)) (sent arrival : ℕ) (old new : List (Flight ℕ)) (p : Flight ℕ)
    → OnOk result (new ≡ old ++ p ∷ []) → OnErr result (new ≡ old) → IsOrdered old → AllBy sent arrival old
    → IsOrdered (old ++ p ∷ []) → AllBy sent arrival (old ++ p ∷ []) → IsOrdered new × AllBy sent arrival new
kept_by (Ok x) sent arrival old new p h u ordered by ordered' by' = (subst IsOrdered (sym h) ordered', subst (AllBy sent arrival) (sym h) by')
kept_by (Err x) sent arrival old new p h u ordered by ordered' by' = (subst IsOrdered (sym u) ordered, subst (AllBy sent arrival) (sym u) by)
