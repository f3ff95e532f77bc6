-- What is claimed of cubs' lives: a cub to which each start comes once puts an instance once.
use Rattle.std.specs.Prelude.{◌≡◌, ℕ, List}
use Rattle.tiger_base.specs.declared.tenancy.Tenancy.{Tenancy}
use Rattle.slot_plan.specs.declared.params.Params.{Params}
use Rattle.slot_plan.specs.Conditions.{IsPlan}
use Rattle.node_kit.specs.declared.course.Order.{Order}
use Rattle.node_kit.specs.declared.journal.What.TheVariants as what
use Rattle.node_kit.specs.declared.outbox.Out.TheVariants as out
use Rattle.proof_lives.specs.Lives.{Lives}
use Rattle.proof_lives.specs.Facts.{DidAt, AreStarts}

-- A start that is put leaves the lists, and never comes again: two Puts of an instance at a cub are one.
abbrev pub CubsPutOnce : Type 0
CubsPutOnce = (p : Params) (lives : Lives) (orders : List Order) → IsPlan p → AreStarts p lives orders
    → (c x y : ℕ) (t u : Tenancy) → DidAt p lives c (out.Act (what.Put t)) x → DidAt p lives c (out.Act (what.Put u)) y
    → u.instance.0 ≡ t.instance.0 → (u ≡ t) × (y ≡ x)
