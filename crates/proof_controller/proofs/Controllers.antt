-- The outputs of a stop by their tags and links.
use Rattle.std.proofs.Common.{◌≡◌, ℕ, ◌+◌, ◌%◌, Option, Some, ap, ⊎_elim, inl, inr}
use Rattle.std.specs.Prelude.{◌⊎◌}
use Rattle.tiger_base.specs.declared.number.Instance.{Instance}
use Rattle.tiger_base.specs.declared.number.LinkNo.{LinkNo}
use Rattle.tiger_base.specs.declared.number.SlotNo.{SlotNo}
use Rattle.tiger_base.specs.declared.tenancy.Tag.{Tag}
use Rattle.tiger_base.specs.declared.message.Msg.TheVariants as msg
use Rattle.slot_plan.specs.declared.params.Params.{Params}
use Rattle.node_kit.specs.declared.journal.What.TheVariants as what
use Rattle.node_kit.specs.declared.outbox.Out.TheVariants as out
use Rattle.node_kit.specs.Ways.{way_to_cub}
use Rattle.lists.specs.Elements.{In}
use Rattle.proof_controller.specs.Stops.{tag_at, stop_outs}
use Rattle.proof_controller.proofs.Knowing.{some_same}
pub use Rattle.proof_lives.proofs.Ledger.{same_instance}

-- the tag of a deschedule among the outputs of a stop, and its link
pub tag_sent : (p : Params) (link : LinkNo) (v w : Instance) (a b : Option Tag) (n : ℕ) → In (out.Send link (msg.Deschedule v a)) (stop_outs p w b n)
    → (a ≡ b) × ((link ≡ way_to_cub p (n % p.cubs)) ⊎ (link ≡ way_to_cub p ((n + 1) % p.cubs)))
tag_sent p link v w a b n i = ⊎_elim
    (λ (e : out.Send link (msg.Deschedule v a) ≡ out.Act (what.Gone w)). absurd (cc))
    (λ i. ⊎_elim
    (λ (e : out.Send link (msg.Deschedule v a) ≡ out.Send (way_to_cub p (n % p.cubs)) (msg.Deschedule w b)).
    let z : msg.Deschedule v a ≡ msg.Deschedule w b = cc in let y : a ≡ b = cc in let x : link ≡ way_to_cub p (n % p.cubs) = cc in (y, inl x))
    (λ i. ⊎_elim
    (λ (e : out.Send link (msg.Deschedule v a) ≡ out.Send (way_to_cub p ((n + 1) % p.cubs)) (msg.Deschedule w b)).
    let z : msg.Deschedule v a ≡ msg.Deschedule w b = cc in let y : a ≡ b = cc in let x : link ≡ way_to_cub p ((n + 1) % p.cubs) = cc in (y, inr x))
    (λ i. absurd i)
    i)
    i)
    i

pub same_visit : (a b : SlotNo) (n m : ℕ) → Some (tag_at a n) ≡ Some (tag_at b m) → (a ≡ b) × (n ≡ m)
same_visit a b n m e =
    let z : tag_at a n ≡ tag_at b m = some_same (tag_at a n) (tag_at b m) e in
    (ap (λ (t : Tag). t.slot) z, ap (λ (t : Tag). t.visit) z)
