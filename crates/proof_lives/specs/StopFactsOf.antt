-- The facts about stops of a run of cubs, by what befell each of them.
use Rattle.std.specs.Prelude.{◌≡◌, ℕ, ◌<◌, true, Some, None, ◌⊎◌}
use Rattle.tiger_base.specs.declared.number.Instance.{Instance}
use Rattle.tiger_base.specs.declared.number.LinkNo.{LinkNo}
use Rattle.tiger_base.specs.declared.tenancy.Tag.{Tag}
use Rattle.tiger_base.specs.declared.message.Msg.{Msg}
use Rattle.tiger_base.specs.declared.message.Msg.TheVariants as msg
use Rattle.tiger_base.specs.Notes.{noted}
use Rattle.slot_plan.specs.declared.params.Params.{Params}
use Rattle.slot_plan.specs.Keys.{Key}
use Rattle.node_kit.specs.declared.outbox.Out.TheVariants as out
use Rattle.node_kit.specs.Form.{is_in_form}
use Rattle.node_kit.specs.Steps.Input.{Take}
use Rattle.node_kit.specs.Ways.{way_ahead}
use Rattle.cub_changes.specs.Causes.{PassesOn}
use Rattle.proof_lives.specs.Lives.{Lives, store_at}
use Rattle.proof_lives.specs.Facts.{DidAt, TookMessage}

-- a cub passed a deschedule on in a beat
pub record PassedAt (p : Params) (lives : Lives) (c v s q b : ℕ) : Type 0 where
  pub small : c < p.cubs
  pub at : ℕ
  pub done : at < lives.count c
  pub reading : ℕ
  pub link : LinkNo
  pub message : Msg
  pub is : lives.input c at ≡ Take (record { beat = b; reading = reading }) link message
  pub formed : is_in_form p (noted message) ≡ true
  pub instance : Instance
  pub same : instance.0 ≡ v
  pub key : Key
  pub slot : key.0.0 ≡ s
  pub visit : key.1 ≡ q
  pub passes : PassesOn p c (record { beat = b; reading = reading }) message (store_at p c (lives.input c) at) instance key

-- it told one of the next two cubs of a stop
pub record ToldAt (p : Params) (lives : Lives) (a k v s q b : ℕ) : Type 0 where
  pub ahead : (k ≡ 1) ⊎ (k ≡ 2)
  pub instance : Instance
  pub same : instance.0 ≡ v
  pub tag : Tag
  pub slot : tag.slot.0 ≡ s
  pub visit : tag.visit ≡ q
  pub did : DidAt p lives a (out.Send (way_ahead p a k) (msg.Deschedule instance (Some tag))) b

-- it got a deschedule, in form, with a tag or without
pub record GotTagAt (p : Params) (lives : Lives) (c v s q b : ℕ) : Type 0 where
  pub instance : Instance
  pub same : instance.0 ≡ v
  pub tag : Tag
  pub slot : tag.slot.0 ≡ s
  pub visit : tag.visit ≡ q
  pub took : TookMessage p lives c (msg.Deschedule instance (Some tag)) b

pub record GotBareAt (p : Params) (lives : Lives) (c v b : ℕ) : Type 0 where
  pub instance : Instance
  pub same : instance.0 ≡ v
  pub took : TookMessage p lives c (msg.Deschedule instance None) b
