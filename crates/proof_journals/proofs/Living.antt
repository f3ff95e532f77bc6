-- What an event is whose input is a tick, or whose node lives on.
use Rattle.std.proofs.Common.{◌≡◌, true, false, refl, ap}
use Rattle.std.specs.Prelude.{None}
use Rattle.tiger_base.specs.declared.message.Msg.{Msg}
use Rattle.node_kit.specs.Steps.Input.{Take, Tick}
use Rattle.run_facts.specs.Events.{NodeEvent, is_tick, is_death, stamp_at}
use Rattle.run_facts.specs.Events.NodeEvent.{Does, Ends, Dies, Returns}
use Rattle.proof_lives.specs.Histories.{input_of, has_input, cut_of_event}
use Rattle.proof_lives.proofs.Carrying.{does_whole}

-- A tick is an input.
pub tick_is : (e : NodeEvent Msg) → is_tick e ≡ true → (input_of e ≡ Tick (stamp_at e)) × (has_input e ≡ true)
tick_is (Does (Tick stamp)) t = (refl, refl)
tick_is (Does (Take stamp link m)) t = absurd (cc)
tick_is (Ends (Tick stamp) sends) t = (refl, refl)
tick_is (Ends (Take stamp link m) sends) t = absurd (cc)
tick_is (Dies stamp) t = absurd (cc)
tick_is (Returns stamp) t = absurd (cc)

-- In a whole event no node dies.
pub whole_lives : (e : NodeEvent Msg) → has_input e ≡ true → cut_of_event e ≡ None → is_death e ≡ false
whole_lives e t whole = ap is_death (does_whole e t whole)
