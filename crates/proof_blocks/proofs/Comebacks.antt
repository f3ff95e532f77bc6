-- What a cub keeps of its return is the same all through a tick; so what it may serve it asks for and serves, and nothing else.
use Rattle.std.proofs.Common.{◌≡◌, ℕ, true, Option, sym, ap, subst, ◌∙◌, ⊎_elim, arith}
use Rattle.tiger_base.specs.Records.{own_of}
use Rattle.tiger_base.specs.declared.number.Stamp.{Stamp}
use Rattle.tiger_base.specs.declared.tenancy.Rec.{Rec}
use Rattle.tiger_base.specs.declared.tenancy.Tenancy.{Tenancy}
use Rattle.slot_plan.specs.declared.params.Params.{Params}
use Rattle.slot_plan.specs.Keys.{due_of}
use Rattle.slot_plan.specs.Times.{due}
use Rattle.node_kit.specs.Steps.Input.{Tick}
use Rattle.partial_view.specs.declared.line.Line.{Line}
use Rattle.partial_view.specs.Lines.{key_of}
use Rattle.cub_rules.specs.declared.comeback.Comeback.{Comeback}
use Rattle.cub_rules.specs.declared.store.Store.{Store}
use Rattle.cub_rules.specs.Comebacks.{serves_at}
use Rattle.cub_rules.specs.Ticks.{releasing, splitting}
use Rattle.cub_changes.proofs.Coming.{releasing_same, believing_same, inserting_same, splitting_same, forwarding_same, reading_same}
use Rattle.cub_changes.proofs.Ticks.{before_inserting}
use Rattle.proof_lives.specs.Lives.{Lives}
use Rattle.proof_lives.specs.Facts.{TickedAt}
use Rattle.proof_lives.specs.FactsBy.{Beyond, facts_by}
use Rattle.proof_lives.proofs.Beside.{whole_to}
use Rattle.proof_lives.proofs.Fitting.{Fits}
use Rattle.proof_service.specs.ServiceFacts.{MayServe}
use Rattle.proof_facts.specs.Pieces.{before_splitting, before_reading, before_serving, ServesAt}
use Rattle.proof_facts.specs.Pieces as facts
use Rattle.proof_parts.proofs.Former.{may_serve_then, serves_now}
use Rattle.proof_blocks.proofs.Living.{AreCubs, store_of, beat_is}

-- ---- one tick

module _ (p : Params) (c : ℕ) (stamp : Stamp) (h : Store) where
  reading_back : (before_reading p c stamp h).comeback ≡ h.comeback
  reading_back =
      let h3 : Store = before_splitting p c stamp h in
      forwarding_same p c stamp (splitting p c stamp h3).state ∙ (splitting_same p c stamp h3
      ∙ (inserting_same p c stamp (before_inserting p c stamp h)
      ∙ (believing_same p c stamp (releasing p stamp h).state ∙ releasing_same p c stamp h)))

  serving_back : (before_serving p c stamp h).comeback ≡ h.comeback
  serving_back = reading_same p c stamp (before_reading p c stamp h) ∙ reading_back

-- ---- along a life

module _ (p : Params) (lives : Lives) (cubs : AreCubs p lives) (beyond : Beyond) (fits : Fits p lives beyond) where
  -- what a cub may serve by a whole tick it serves all along its life
  served_along : (c b l k : ℕ) (t : Tenancy) (n : ℕ) (x : Line) → TickedAt p lives c b l → x.rec ≡ own_of t n
      → MayServe p (facts_by p lives beyond) c t n 0 b → serves_at (store_of p lives c k).comeback (due_of p (key_of x)) ≡ true
  served_along c b l k t n x tick same may =
      let ei = beat_is p lives cubs c tick.small tick.at (Tick (facts.stamp_of b l)) tick.is in
      let at : due_of p (key_of x) ≡ due p t.slot.0 n = ap (λ (r : Rec). due p r.tenancy.slot.0 r.visit) same in
      ap (λ (time : ℕ). serves_at (store_of p lives c k).comeback time) at
      ∙ serves_now p lives beyond cubs.lived fits c tick.at k b t n tick.small tick.done
      (λ late. whole_to lives c 0 tick.at (omega arith) tick.done tick.whole) (omega arith) may

  -- so it asks for it and sends it
  pub may_ask : (c b l k : ℕ) (stamp : Stamp) (t : Tenancy) (n : ℕ) (x : Line) → TickedAt p lives c b l → x.rec ≡ own_of t n
      → MayServe p (facts_by p lives beyond) c t n 0 b
      → serves_at (before_reading p c stamp (store_of p lives c k)).comeback (due_of p (key_of x)) ≡ true
  may_ask c b l k stamp t n x tick same may =
      ap (λ (o : Option Comeback). serves_at o (due_of p (key_of x))) (reading_back p c stamp (store_of p lives c k))
      ∙ served_along c b l k t n x tick same may

  pub may_send : (c b l k : ℕ) (stamp : Stamp) (t : Tenancy) (n : ℕ) (x : Line) → TickedAt p lives c b l → x.rec ≡ own_of t n
      → MayServe p (facts_by p lives beyond) c t n 0 b
      → serves_at (before_serving p c stamp (store_of p lives c k)).comeback (due_of p (key_of x)) ≡ true
  may_send c b l k stamp t n x tick same may =
      ap (λ (o : Option Comeback). serves_at o (due_of p (key_of x))) (serving_back p c stamp (store_of p lives c k))
      ∙ served_along c b l k t n x tick same may

  -- what it sends it may serve
  pub may_serve : {c : ℕ} {t : Tenancy} {n b : ℕ} → ServesAt p lives c t n 0 b → MayServe p (facts_by p lives beyond) c t n 0 b
  may_serve {c} {t} {n} {b} s = ⊎_elim
      (λ k.
      let tick = s.sends.tick in
      let i : ℕ = tick.at in
      let stamp : Stamp = facts.stamp_of b s.sends.reading in
      let x : Line = k.1 in
      let h : Store = store_of p lives c i in
      let eb = beat_is p lives cubs c tick.small i (Tick stamp) tick.is in
      let at : due p t.slot.0 n ≡ due_of p (key_of x) = ap (λ (r : Rec). due p r.tenancy.slot.0 r.visit) (sym k.2.1) in
      let serves : serves_at h.comeback (due p t.slot.0 n) ≡ true =
      ap (λ (time : ℕ). serves_at h.comeback time) at
      ∙ (ap (λ (o : Option Comeback). serves_at o (due_of p (key_of x))) (sym (serving_back p c stamp h)) ∙ k.4) in
      subst (λ (y : ℕ). MayServe p (facts_by p lives beyond) c t n 0 y) eb
      (may_serve_then p lives beyond cubs.lived fits c i i t n 0 tick.small tick.done serves))
      (λ k. let some = k.0 in absurd (omega arith))
      s.sends.serves
