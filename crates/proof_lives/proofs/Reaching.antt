-- Deschedules that reached a cub, as inputs of its life and as facts: which came before an input, and which were let go by one.
use Rattle.std.proofs.Common.{◌≡◌, ℕ, ◌<◌, ◌≤◌, true, ap, arith, ⊎_elim}
use Rattle.std.proofs.lemmas.Bool.{cases_lt}
use Rattle.tiger_base.specs.declared.tenancy.Rec.{Rec}
use Rattle.tiger_base.specs.declared.message.Msg.{Msg}
use Rattle.slot_plan.specs.declared.params.Params.{Params}
use Rattle.slot_plan.specs.Conditions.{IsPlan}
use Rattle.node_kit.specs.Steps.{Input, stamp_of}
use Rattle.proof_schedule.specs.Facts.{IsReleasedBy}
use Rattle.proof_lives.specs.Lives.{Lives, AreLives, outs_at, beat_at}
use Rattle.run_facts.specs.Events.{is_tick_input}
use Rattle.lists.specs.Elements.{In}
use Rattle.proof_lives.specs.Facts.{ReachedAt}
use Rattle.proof_lives.proofs.Inputs.{message_before}
use Rattle.proof_lives.proofs.Moves.{taken_out}
use Rattle.proof_lives.proofs.Order.{beats_rise}
use Rattle.proof_lives.specs.FactsBy.{Beyond, facts_by}
use Rattle.proof_lives.specs.HoldsHere.{AreAllFormed}
use Rattle.proof_lives.proofs.Begun.{IsStop}
use Rattle.proof_lives.proofs.HoldLaws.{stop_in, released_by}
use Rattle.proof_lives.proofs.Standing.{taken_released}

-- a deschedule of an instance came by an input before one
pub record StopBefore (p : Params) (lives : Lives) (c i v : ℕ) : Type 0 where
  pub at : ℕ
  pub before : at < i
  pub stop : IsStop p c (lives.input c) at v

module _ (p : Params) (lives : Lives) (are : AreLives p lives) where
  -- what came in a lower beat came before
  pub stop_below : (c i v b : ℕ) → i < lives.count c → ReachedAt p lives c v b → b < beat_at (lives.input c) i → StopBefore p lives c i v
  stop_below c i v b low g less =
      let t = g.took in
      let eb : beat_at (lives.input c) t.at ≡ b = ap (λ (k : Input Msg). (stamp_of k).beat) t.is in
      record {
        at = t.at;
        before = ⊎_elim
            (λ (l : t.at < i). l)
            (λ (l : i ≤ t.at). let rise = beats_rise p (lives.count c) (lives.input c) (are c t.small) i t.at l t.done in absurd (omega arith))
            (cases_lt t.at i);
        stop = stop_in p lives g;
      }

  -- and what came in the beat of a tick came before the tick
  pub stop_by_tick : (c i v b : ℕ) → i < lives.count c → is_tick_input (lives.input c i) ≡ true → ReachedAt p lives c v b
      → b ≤ beat_at (lives.input c) i → StopBefore p lives c i v
  stop_by_tick c i v b low tick g le =
      let t = g.took in
      let eb : beat_at (lives.input c) t.at ≡ b = ap (λ (k : Input Msg). (stamp_of k).beat) t.is in
      record {
        at = t.at;
        before = message_before p lives are c i t.at t.small low t.done tick (ap is_tick_input t.is) (omega arith);
        stop = stop_in p lives g;
      }

-- who is taken behind a deschedule of its instance was let go before
pub let_go : (p : Params) (plan : IsPlan p) (lives : Lives) (are : AreLives p lives) (formed : AreAllFormed p lives) (beyond : Beyond)
    (c i j : ℕ) (r : Rec) → c < p.cubs → i < lives.count c → j < i → In (taken_out r) (outs_at p c (lives.input c) i)
    → IsStop p c (lives.input c) j r.tenancy.instance.0
    → IsReleasedBy p (facts_by p lives beyond) c r.tenancy.instance.0 (beat_at (lives.input c) i)
let_go p plan lives are formed beyond c i j r small low before taken s =
    released_by p plan lives are formed beyond c i j r.tenancy.instance.0 (beat_at (lives.input c) i) small low (omega arith)
    (taken_released p c plan small (lives.count c) (lives.input c) (formed c small) i j r (omega arith) before taken s)
