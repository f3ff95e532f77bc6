-- To which cub a link of the controller leads.
use Rattle.std.proofs.Common.{◌≡◌, ℕ, ◌%◌, ◌<◌, Some, sym, ap, ◌∙◌, arith}
use Rattle.std.proofs.lemmas.Nat.{mod_below}
use Rattle.tiger_base.specs.declared.number.LinkNo.{LinkNo}
use Rattle.slot_plan.specs.declared.params.Params.{Params}
use Rattle.slot_plan.specs.Conditions.{IsPlan}
use Rattle.slot_plan.specs.Times.{cub_of}
use Rattle.node_kit.specs.Links.{links_of, ends_of}
use Rattle.node_kit.specs.Ways.{way_to_cub}
use Rattle.proof_lives.proofs.Carrying.{same_ends}
use Rattle.proof_controller.specs.Controllers.{controller}
use Rattle.proof_controller.proofs.Ends.{ends_cub}

-- the cub to which a link of the controller leads
pub led : (p : Params) (n c from : ℕ) (way : LinkNo) → IsPlan p → way ≡ way_to_cub p (n % p.cubs) → ends_of (links_of p) way.0 ≡ Some (from, c) → c ≡ cub_of p n
unfolding cub_of
led p n c from way plan e ends =
    let low : n % p.cubs < p.cubs = mod_below n p.cubs (omega (arith, plan.ranges.cubs)) in
    (same_ends from c (controller p) (n % p.cubs) (sym ends ∙ ap (λ (x : LinkNo). ends_of (links_of p) x.0) e ∙ ends_cub p (n % p.cubs) low)).1
