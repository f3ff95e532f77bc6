-- What is claimed of cubs: whatever befalls them, their own rules meet the laws of holding and passing on.
use Rattle.std.specs.Prelude.{◌≡◌, ℕ, ◌<◌, true}
use Rattle.tiger_base.specs.declared.number.LinkNo.{LinkNo}
use Rattle.tiger_base.specs.declared.number.Stamp.{Stamp}
use Rattle.tiger_base.specs.declared.message.Msg.{Msg}
use Rattle.tiger_base.specs.Notes.{noted}
use Rattle.slot_plan.specs.declared.params.Params.{Params}
use Rattle.slot_plan.specs.Conditions.{IsPlan}
use Rattle.node_kit.specs.Form.{is_in_form}
use Rattle.node_kit.specs.Steps.{Input}
use Rattle.node_kit.specs.Steps.Input.{Take}
use Rattle.proof_schedule.specs.HoldLaws.{HoldLaws}
use Rattle.proof_lives.specs.Lives.{Lives, AreLives}
use Rattle.proof_lives.specs.FactsBy.{facts_by, cubs_alone}

-- the messages that a cub takes are in form
abbrev pub IsFormed : Params → ℕ → (ℕ → Input Msg) → Type 0
IsFormed p count inputs = (i : ℕ) (stamp : Stamp) (link : LinkNo) (m : Msg) → i < count → inputs i ≡ Take stamp link m → is_in_form p (noted m) ≡ true

abbrev pub AreAllFormed : Params → Lives → Type 0
AreAllFormed p lives = (c : ℕ) → c < p.cubs → IsFormed p (lives.count c) (lives.input c)

-- Whatever befalls cubs whose messages are in form, they meet the laws of deschedules.
abbrev pub CubsHold : Type 0
CubsHold = (p : Params) (lives : Lives) → IsPlan p → AreLives p lives → AreAllFormed p lives
    → HoldLaws p (facts_by p lives (cubs_alone p lives))
