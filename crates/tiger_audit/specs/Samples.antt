-- Words, places and sources of files of which the worked rows speak.
use Rattle.std.specs.Prelude.{ℕ, List, [], ◌∷◌, None, codes}
use Rattle.outside.specs.Told.{Told, FilesState}
use Rattle.audit_verdict.specs.declared.clause.Clause.{Clause}
use Rattle.audit_verdict.specs.declared.clause.Clause.TheVariants as clause
use Rattle.audit_verdict.specs.declared.counts.Counts.{Counts}
use Rattle.audit_verdict.specs.declared.place.Place.{Place}
use Rattle.audit_verdict.specs.declared.place.Place.TheVariants as places

-- the words to audit the text `a`
abbrev pub audits_a : List (List ℕ)
audits_a = codes "audit" ∷ codes "a" ∷ []

-- the name of a text
abbrev pub text_name : List ℕ
text_name = codes "a"

-- a source that tells the same of each name, with these numbers of faults and of calls that found no file
abbrev pub text_source : Told → ℕ → ℕ → FilesState
text_source file faults absences =
    record { told = λ name. file; counts = record { calls = 3; faults = faults; absences = absences } }

-- ---- clauses and places

abbrev pub some_clause : Clause
some_clause = clause.FreePuts

abbrev pub that_entry : Place
that_entry = places.Entry (record { node = record { 0 = 3 }; place = 17 })

abbrev pub that_order : Place
that_order = places.Order 2

abbrev pub that_death : Place
that_death = places.Death (record { 0 = 3 })

abbrev pub that_tick : Place
that_tick = places.Tick (record { 0 = 2 }) 80 None

-- how much there is in some run
abbrev pub some_counts : Counts
some_counts =
    record {
      entries = record { all = 1749; puts = 3; stops = 1; deaths = 1; blocks = 40; pieces = 8 };
      visits = record { settled = 55; read = 2; piece = 1; dead = 3; stopped = 4 };
    }
