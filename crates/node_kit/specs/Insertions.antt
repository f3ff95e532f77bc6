-- The outputs of an insertion, of which the worked rows speak. Messages are numbers: a state is 1, and Placed is 2.
use Rattle.std.specs.Prelude.{ℕ, List, [], ◌∷◌}
use Rattle.tiger_base.specs.Records.{own_of, backup_of}
use Rattle.tiger_base.specs.declared.number.LinkNo.{LinkNo}
use Rattle.tiger_base.specs.declared.tenancy.Tenancy.{Tenancy}
use Rattle.node_kit.specs.declared.journal.What.TheVariants.{Put, Took}
use Rattle.node_kit.specs.declared.outbox.Out.{Out}
use Rattle.node_kit.specs.declared.outbox.Out.TheVariants.{Act, Send}

-- into a slot of the cub's own, on the ways to the next cub and to the controller
abbrev pub insertion : Tenancy → LinkNo → LinkNo → List (Out ℕ)
insertion t ahead told = Act (Put t) ∷ Act (Took (own_of t t.first)) ∷ Send ahead 1 ∷ Send told 2 ∷ []

-- and in place of a dead predecessor, for whom the cub keeps the backup and sends no state
abbrev pub insertion_for_dead : Tenancy → LinkNo → List (Out ℕ)
insertion_for_dead t told = Act (Put t) ∷ Act (Took (backup_of t t.first)) ∷ Send told 2 ∷ []
