-- A tick sends no deschedule.
use Rattle.std.proofs.Common.{◌≡◌, ℕ, ◌<◌, true, Option}
use Rattle.tiger_base.specs.declared.number.Instance.{Instance}
use Rattle.tiger_base.specs.declared.number.LinkNo.{LinkNo}
use Rattle.tiger_base.specs.declared.number.Stamp.{Stamp}
use Rattle.tiger_base.specs.declared.tenancy.Tag.{Tag}
use Rattle.tiger_base.specs.declared.message.Msg.{Msg}
use Rattle.tiger_base.specs.declared.message.Msg.TheVariants as msg
use Rattle.slot_plan.specs.declared.params.Params.{Params}
use Rattle.slot_plan.specs.Conditions.{IsPlan}
use Rattle.node_kit.specs.declared.outbox.Out.TheVariants as out
use Rattle.node_kit.specs.Steps.{Input}
use Rattle.node_kit.specs.Steps.Input.{Take, Tick}
use Rattle.cub_rules.specs.declared.store.Store.{Store}
use Rattle.cub_rules.specs.Ticks.{ticking}
use Rattle.proof_lives.specs.Lives.{deed_of}
use Rattle.run_facts.specs.Events.{is_tick_input}
use Rattle.lists.specs.Elements.{In}
use Rattle.proof_lives.proofs.States.{tick_meek}

pub no_tick_stop : (p : Params) (c : ℕ) → IsPlan p → c < p.cubs → (stamp : Stamp) (h : Store) (link : LinkNo) (v : Instance) (tag : Option Tag)
    → In (out.Send link (msg.Deschedule v tag)) (ticking p c stamp h).outs → ⊥
no_tick_stop p c plan here stamp h link v tag k = tick_meek p c plan here stamp h link (msg.Deschedule v tag) (λ q. q) (λ q. q) (λ s e. absurd (cc)) k

pub no_input_stop : (p : Params) (c : ℕ) → IsPlan p → c < p.cubs → (i : Input Msg) (h : Store) (link : LinkNo) (v : Instance) (tag : Option Tag) → is_tick_input i ≡ true
    → In (out.Send link (msg.Deschedule v tag)) (deed_of p c i h).outs → ⊥
no_input_stop p c plan here (Take stamp way m) h link v tag t k = absurd (cc)
no_input_stop p c plan here (Tick stamp) h link v tag t k = no_tick_stop p c plan here stamp h link v tag k
