use Rattle.std.proofs.Common.{◌≡◌, ◌++◌, drop}
use Rattle.std.specs.Prelude.{option_to_list}
use Rattle.run_model.specs.Tests.{parcels}
use Rattle.run_model.proofs.parcels.only_in.Given as goal

-- what was found, and what is left, are all
abbrev pub invariant-loop-e : goal.invariant-loop-e
invariant-loop-e l = parcels l.v.0 l.n l.form l.journal ≡ option_to_list l.found ++ parcels l.v.0 l.n l.form (drop l.e-index l.journal)
