-- Pieces that are taken out in the order of their leaving times, up to a time.
use Rattle.std.specs.Prelude.{◌≡◌, ℕ, true, List, ◌++◌, Option}
use Rattle.std.specs.List.{AllByRecursion, flat_map}
use Rattle.tiger_base.specs.declared.tenancy.PieceState.{PieceState}
use Rattle.slot_plan.specs.declared.params.Params.{Params}
use Rattle.mirror_schedule.specs.Pieces.{Pieces}
use Rattle.mirror_schedule.specs.Sorted.{first_if, but_first_if}
use Rattle.cub_rules.specs.Ticks.{leaves_by}

-- the first piece, if it leaves by a time, and the pieces without it
abbrev pub first_leaving : Params → ℕ → List PieceState → Option PieceState
first_leaving p time items = first_if (leaves_by p time) items

abbrev pub but_first_leaving : Params → ℕ → List PieceState → List PieceState
but_first_leaving p time items = but_first_if (leaves_by p time) items

-- some pieces were taken out, each of which leaves by a time and has given out what is its own; the others are as they were
pub record TakenOut {X : Type 0} (p : Params) (time : ℕ) (outs_of : PieceState → List X) (before : Pieces) (outs_before : List X) (now : Pieces) (outs_now : List X) : Type 0 where
  pub done : List PieceState
  pub parts : before.items ≡ done ++ now.items
  pub leave : AllByRecursion (λ x. leaves_by p time x ≡ true) done
  pub params : before.params ≡ p
  pub params_now : now.params ≡ p
  pub outs : outs_now ≡ outs_before ++ flat_map outs_of done
