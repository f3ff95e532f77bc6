-- Places by their numbers, and counts, for worked runs.
use Rattle.std.specs.Prelude.{ℕ, List, [], ◌∷◌}
use Rattle.run_facts.specs.Order.{Noted}
use Rattle.run_model.specs.Samples.{dies, first_block, first_half, gets, gone, later, seated}
use Rattle.audit_verdict.specs.Places.{entry_place}
use Rattle.audit_verdict.specs.declared.counts.Counts.{Counts}
use Rattle.audit_verdict.specs.declared.counts.EntryCounts.{EntryCounts}
use Rattle.audit_verdict.specs.declared.place.Place.{Place}
use Rattle.audit_verdict.specs.declared.place.Place.TheVariants as place

-- an entry of a node, and an order
abbrev pub at_entry : ℕ → ℕ → Place
at_entry node i = place.Entry (entry_place (record { 0 = node }) i)

abbrev pub at_order : ℕ → Place
at_order j = place.Order j

-- the death of a cub
abbrev pub at_death : ℕ → Place
at_death cub = place.Death (record { 0 = cub })

-- ---- counts

-- a Put, a stop, a death, a whole block and a piece that the viewers get, and an entry of another kind
abbrev pub one_of_each : List Noted
one_of_each = seated ∷ gone 5 0 ∷ dies 3 6 ∷ gets 0 51 first_block ∷ gets 1 51 first_half ∷ later 60 ∷ []

-- six entries, one of each kind that is counted, but so many blocks
abbrev pub counts_with : ℕ → EntryCounts
counts_with blocks = record { all = 6; puts = 1; stops = 1; deaths = 1; blocks = blocks; pieces = 1 }

-- nothing, but so many Puts
abbrev pub only_puts : ℕ → Counts
only_puts n = record {
  entries = record { all = n; puts = n; stops = 0; deaths = 0; blocks = 0; pieces = 0 };
  visits = record { settled = 0; read = 0; piece = 0; dead = 0; stopped = 0 };
}
