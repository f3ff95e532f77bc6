-- Why a record leaves: its instance is descheduled, or it is due at a tick; until then it stays.
use Rattle.std.proofs.Common.{◌≡◌, ℕ, suc, ◌<◌, ◌≤◌, refl, sym, ap, ◌∙◌, arith, ⊎_elim, inl, inr}
use Rattle.std.specs.Prelude.{◌⊎◌}
use Rattle.tiger_base.specs.declared.number.Stamp.{Stamp}
use Rattle.tiger_base.specs.declared.tenancy.Rec.{Rec}
use Rattle.tiger_base.specs.declared.message.Msg.{Msg}
use Rattle.tiger_base.specs.declared.message.Msg.TheVariants as msg
use Rattle.slot_plan.specs.declared.params.Params.{Params}
use Rattle.slot_plan.specs.Conditions.{IsPlan}
use Rattle.slot_plan.specs.Times.{due}
use Rattle.node_kit.specs.Steps.{Input, stamp_of}
use Rattle.node_kit.specs.Steps.Input.{Take, Tick}
use Rattle.proof_lives.specs.Lives.{Lives, AreLives, store_at, outs_at, beat_at, reading_at}
use Rattle.lists.specs.Elements.{In}
use Rattle.proof_lives.specs.Facts.{ReachedAt}
use Rattle.proof_lives.proofs.Inputs.{stop_of, got_message}
use Rattle.proof_lives.proofs.Lines.{MayAt, stays}
use Rattle.proof_lives.proofs.Moves.{Stays, taken_out}
use Rattle.proof_lives.proofs.Order.{beats_rise}
use Rattle.proof_lives.proofs.Steps.{IsDueAt}

-- At an input that is a tick a record is due.
pub record IsDueTick (p : Params) (lives : Lives) (c i : ℕ) (r : Rec) : Type 0 where
  pub stamp : Stamp
  pub is : lives.input c i ≡ Tick stamp
  pub past : IsDueAt p stamp.reading r

-- At an input before another a record may have left: a deschedule of its instance came, or it was due at a tick.
pub record HasGone (p : Params) (lives : Lives) (c i : ℕ) (r : Rec) : Type 0 where
  pub at : ℕ
  pub before : at < i
  pub why : ReachedAt p lives c r.tenancy.instance.0 (beat_at (lives.input c) at) ⊎ IsDueTick p lives c at r

-- A deschedule of instance v reached a cub in beat b or before it.
abbrev pub WasStopped : Params → Lives → ℕ → ℕ → ℕ → Type 0
WasStopped p lives c v b = (y : ℕ) × ReachedAt p lives c v y × (y ≤ b)

module _ (p : Params) (plan : IsPlan p) (lives : Lives) where
  -- why it may leave at an input
  why_left : (c i : ℕ) (r : Rec) (q : Input Msg) → c < p.cubs → i < lives.count c → lives.input c i ≡ q → MayAt p q r
      → ReachedAt p lives c r.tenancy.instance.0 (beat_at (lives.input c) i) ⊎ IsDueTick p lives c i r
  why_left c i r (Take stamp link m) small low is may =
      let s = stop_of m r may in
      inl (record {
        instance = s.0;
        tag = s.1;
        same = sym s.3;
        took = got_message p lives c i stamp link (msg.Deschedule s.0 s.1) small low
            (is ∙ ap (λ (k : Msg). Take stamp link k) s.2);
      })
  why_left c i r (Tick stamp) small low is may = inr (record { stamp = stamp; is = is; past = may })

  -- A record that was taken stays until it may have left.
  pub stays_or_gone : (c j i : ℕ) (r : Rec) → c < p.cubs → j < i → i ≤ lives.count c
      → In (taken_out r) (outs_at p c (lives.input c) j)
      → Stays r (store_at p c (lives.input c) i).view.lines ⊎ HasGone p lives c i r
  stays_or_gone c j i r small less low taken = ⊎_elim
      (λ s. inl s)
      (λ m.
      let before = m.before in
      inr (record {
        at = m.at;
        before = m.before;
        why = why_left c m.at r (lives.input c m.at) small (omega arith) refl m.may;
      }))
      (stays p c plan small (lives.input c) i j r less taken)

  -- One that is not due yet stays until a deschedule of its instance.
  pub stays_or_stopped : AreLives p lives → (c j k i : ℕ) (r : Rec) → c < p.cubs → j < k → k ≤ suc i → i < lives.count c
      → reading_at (lives.input c) i < due p r.tenancy.slot.0 r.visit → In (taken_out r) (outs_at p c (lives.input c) j)
      → Stays r (store_at p c (lives.input c) k).view.lines
      ⊎ WasStopped p lives c r.tenancy.instance.0 (beat_at (lives.input c) i)
  stays_or_stopped are c j k i r small less le low undue taken = ⊎_elim
      (λ s. inl s)
      (λ g.
      let before = g.before in
      ⊎_elim
      (λ w. inr (beat_at (lives.input c) g.at, w, beats_rise p (lives.count c) (lives.input c) (are c small) g.at i (omega arith) low))
      (λ w.
      let past = w.past in
      let at = ap (λ (q : Input Msg). (stamp_of q).reading) w.is in
      let rise = (are c small).rising g.at i (omega arith) low in
      absurd (omega arith))
      g.why)
      (stays_or_gone c j k r small less (omega arith) taken)
