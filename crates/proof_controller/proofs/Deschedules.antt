-- A cub sends a deschedule only to the next two cubs, and with a tag.
use Rattle.std.proofs.Common.{◌≡◌, ℕ, ◌<◌, Option, Some}
use Rattle.std.specs.Prelude.{◌⊎◌}
use Rattle.tiger_base.specs.declared.number.Instance.{Instance}
use Rattle.tiger_base.specs.declared.number.LinkNo.{LinkNo}
use Rattle.tiger_base.specs.declared.tenancy.Tag.{Tag}
use Rattle.tiger_base.specs.declared.message.Msg.{Msg}
use Rattle.tiger_base.specs.declared.message.Msg.TheVariants as msg
use Rattle.slot_plan.specs.declared.params.Params.{Params}
use Rattle.slot_plan.specs.Conditions.{IsPlan}
use Rattle.node_kit.specs.declared.outbox.Out.TheVariants as out
use Rattle.node_kit.specs.Steps.{Input}
use Rattle.node_kit.specs.Steps.Input.{Take, Tick}
use Rattle.node_kit.specs.Ways.{way_ahead}
use Rattle.cub_rules.specs.declared.store.Store.{Store}
use Rattle.proof_lives.specs.Lives.{deed_of}
use Rattle.lists.specs.Elements.{In}
use Rattle.proof_lives.proofs.States.{tick_meek}
use Rattle.proof_lives.proofs.Tags.{tag_behind, sent_passes}

pub deschedule_out : (p : Params) (c : ℕ) → IsPlan p → c < p.cubs → (i : Input Msg) (h : Store) (link : LinkNo) (v : Instance) (tag : Option Tag)
    → In (out.Send link (msg.Deschedule v tag)) (deed_of p c i h).outs → ((link ≡ way_ahead p c 1) ⊎ (link ≡ way_ahead p c 2)) × (t : Tag) × (tag ≡ Some t)
deschedule_out p c plan here (Take stamp way m) h link v tag k = let g = sent_passes p c stamp way link m h v tag k in (g.ways, tag_behind g.key, g.tag_is)
deschedule_out p c plan here (Tick stamp) h link v tag k = absurd (tick_meek p c plan here stamp h link (msg.Deschedule v tag) (λ q. q) (λ q. q) (λ s e. absurd (cc)) k)
