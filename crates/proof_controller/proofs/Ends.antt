-- The links to the controller and from it.
use Rattle.std.proofs.Common.{◌≡◌, ℕ, ◌+◌, ◌*◌, ◌-◌, ◌<◌, nat_lt, true, false, Some, refl, arith}
use Rattle.std.proofs.lemmas.Bool.{lt-ltb, le-ltb}
use Rattle.slot_plan.specs.declared.params.Params.{Params}
use Rattle.node_kit.specs.Links.{links_of, controller_of, ends_of}
use Rattle.node_kit.specs.Ways.{way_to_cub, way_to_controller}

-- from a cub to the controller
pub ends_controller : (p : Params) (c : ℕ) → c < p.cubs → ends_of (links_of p) (way_to_controller p c).0 ≡ Some (c, controller_of (links_of p))
unfolding way_to_controller
ends_controller p c here =
    let past : nat_lt (p.cubs + c) p.cubs ≡ false = le-ltb _ _ (omega arith) in
    let low : nat_lt (p.cubs + c) (2 * p.cubs) ≡ true = lt-ltb _ _ (omega arith) in
    let place : p.cubs + c - p.cubs ≡ c = omega arith in
    rw (past, low, place) refl

-- from the controller to a cub
pub ends_cub : (p : Params) (c : ℕ) → c < p.cubs → ends_of (links_of p) (way_to_cub p c).0 ≡ Some (controller_of (links_of p), c)
unfolding way_to_cub
ends_cub p c here = rw (lt-ltb c p.cubs here) refl
