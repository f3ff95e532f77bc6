-- When the cubs of a history came to their ticks, and when they died.
use Rattle.std.specs.Prelude.{◌≡◌, ℕ, ◌<◌, true}
use Rattle.tiger_base.specs.declared.message.Msg.{Msg}
use Rattle.slot_plan.specs.declared.params.Params.{Params}
use Rattle.run_facts.specs.Events.{is_tick, is_death}
use Rattle.run_facts.specs.Histories.{History, beat}
pub use Rattle.proof_lives.specs.Histories.{lives_of, later_lives_of, acting, later_from}

-- Cub c came to its tick of beat b, whatever it put out there.
pub record CameAt {S : Type 0} (p : Params) (h : History Msg S) (c b : ℕ) : Type 0 where
  pub small : c < p.cubs
  pub at : ℕ
  pub done : at < h.count c
  pub tick : is_tick (h.event c at) ≡ true
  pub in_beat : beat h c at ≡ b

-- Cub c died in beat b.
pub record DiedAt {S : Type 0} (p : Params) (h : History Msg S) (c b : ℕ) : Type 0 where
  pub small : c < p.cubs
  pub at : ℕ
  pub done : at < h.count c
  pub death : is_death (h.event c at) ≡ true
  pub in_beat : beat h c at ≡ b
