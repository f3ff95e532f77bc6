-- The messages of streams that are kept in rows, one for each stream.
use Rattle.std.specs.Prelude.{◌≡◌, ℕ, ◌+◌, List, [], ◌∷◌, ◌++◌, length, get_or}
use Rattle.audit_orders.specs.Carrying.{KeptMail}
use Rattle.audit_orders.specs.declared.mail.Mail.{Mail}

-- the messages of a stream from a place on, each under both numbers
abbrev pub in_stream : ℕ → ℕ → List Mail → KeptMail
in_stream s n [] = []
in_stream s n (mail ∷ row) = ((s, n), mail) ∷ in_stream s (n + 1) row

-- those of all streams from one on
abbrev pub in_streams : ℕ → List (List Mail) → KeptMail
in_streams s [] = []
in_streams s (row ∷ rows) = in_stream s 0 row ++ in_streams (s + 1) rows

-- no message is late, and a place is the next one of its stream
abbrev pub IsNext : List (List Mail) → KeptMail → ℕ → ℕ → Type 0
IsNext rows late stream place = (late ≡ []) × (length (get_or rows stream []) ≡ place)

-- the row of a stream has one message more, and the others are as they were
pub record HasPosted (stream : ℕ) (mail : Mail) (old new : List (List Mail)) : Type 0 where
  pub here : get_or new stream [] ≡ get_or old stream [] ++ mail ∷ []
  pub beside : (k : ℕ) → (k ≡ stream → ⊥) → get_or new k [] ≡ get_or old k []
