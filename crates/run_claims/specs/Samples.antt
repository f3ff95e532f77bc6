-- What worked logs are judged by: a disk's fault, which cub ticks when, and that all who were put are served.
use Rattle.std.specs.Prelude.{◌≡◌, ℕ, List, [], ◌∷◌}
use Rattle.slot_plan.specs.Samples.{small}
use Rattle.node_kit.specs.declared.course.ReadFault.{ReadFault}
use Rattle.run_facts.specs.Order.{Noted}
use Rattle.run_model.specs.Samples.{IsOfTen, ten, all}
use Rattle.run_claims.specs.Accounts.{Account, Ticking, account_by}
use Rattle.run_claims.specs.Served.{AreServed}

-- a disk has a read fault in beats 40 to 42
abbrev pub faulty : ℕ → ReadFault
faulty disk = record { disk = record { 0 = disk }; from = 40; until = 43 }

-- by the true time of its end, in micros, a run with this log over the file of ten bytes serves all that were put, and
-- nobody else
abbrev pub IsServedBy : IsOfTen → ℕ → List Noted → Type 0
IsServedBy sound end log = AreServed small (ten sound) (all log) end log

-- cub 0 ticks in one beat, at one reading, and no other cub ticks
abbrev pub once : ℕ → ℕ → ℕ → ℕ → ℕ → Type 0
once beat reading cub b l = (cub ≡ 0) × (b ≡ beat) × (l ≡ reading)

-- a node ticks in a beat, at a reading
abbrev pub ticks : ℕ → ℕ → ℕ → Ticking
ticks node beat reading = record { node = node; beat = beat; reading = reading }

-- two beats in which nothing is written; cub 0 ticks in the first, and the controller in both, a little later
abbrev pub two_beats : IsOfTen → Account
two_beats sound =
    account_by small (ten sound) [] [] [] 1 (ticks 0 0 0 ∷ ticks 16 0 100 ∷ ticks 16 1 10100 ∷ [])
