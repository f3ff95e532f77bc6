-- The lines of a cub along its life: each was taken behind every deschedule of its instance that came, and that was let go by then.
use Rattle.std.proofs.Common.{◌≡◌, ℕ, zero, suc, ◌<◌, ◌≤◌, true, false, not, Option, refl, sym, ap, subst, ◌∙◌, arith, ⊎_elim, inl, eq-or-lt_of_le}
use Rattle.std.proofs.lemmas.Bool.{cases_Bool, eq-eqb}
use Rattle.tiger_base.specs.declared.number.Instance.{Instance}
use Rattle.tiger_base.specs.declared.number.Stamp.{Stamp}
use Rattle.tiger_base.specs.declared.tenancy.Ask.{Ask}
use Rattle.tiger_base.specs.declared.tenancy.Rec.{Rec}
use Rattle.tiger_base.specs.declared.tenancy.Tag.{Tag}
use Rattle.tiger_base.specs.declared.tenancy.Tenancy.{Tenancy}
use Rattle.tiger_base.specs.declared.message.Msg.{Msg}
use Rattle.tiger_base.specs.declared.message.Msg.TheVariants as msg
use Rattle.slot_plan.specs.declared.params.Params.{Params}
use Rattle.slot_plan.specs.Conditions.{IsPlan}
use Rattle.node_kit.specs.Steps.{Input}
use Rattle.node_kit.specs.Steps.Input.{Tick}
use Rattle.partial_view.specs.declared.line.Line.{Line}
use Rattle.partial_view.specs.Lines as lines
use Rattle.partial_view.specs.Views.{without_instance}
use Rattle.state_forward.specs.Forwards.{must_forward}
use Rattle.cub_rules.specs.declared.store.Store.{Store}
use Rattle.cub_rules.specs.Messages.{holding, passing, taking}
use Rattle.cub_rules.specs.Ticks.{inserting}
use Rattle.proof_lives.specs.Lives.{store_at, outs_at, deed_of}
use Rattle.run_facts.specs.Events.{is_tick_input}
use Rattle.lists.specs.Elements.{In}
use Rattle.lists.proofs.Elements.{from_filter}
use Rattle.proof_lives.proofs.Moves.{taken_out}
use Rattle.proof_lives.proofs.Inserting.{put_out}
use Rattle.proof_lives.proofs.TakingOver.{inserting_puts}
use Rattle.proof_lives.proofs.Ticking.{before_inserting}
use Rattle.proof_lives.proofs.Lines.{deed_moves, settled}
use Rattle.proof_lives.proofs.States.{took_inserted, at_tick}
use Rattle.proof_lives.proofs.Waiting.{IsQueued, before_back}
use Rattle.proof_lives.specs.HoldsHere.{IsFormed}
use Rattle.proof_lives.proofs.Begun.{IsStop}
use Rattle.proof_lives.proofs.HoldLaws.{no_both, input_free}
use Rattle.proof_lives.proofs.Persist.{IsReleased, unheld_released}
use Rattle.proof_lives.proofs.Starts.{queued_released}
use Rattle.cub_changes.proofs.Chains.{stopped}
use Rattle.tiger_base.specs.declared.number.LinkNo.{LinkNo}
use Rattle.node_kit.specs.Form.{is_in_form}
use Rattle.tiger_base.specs.Notes.{noted}

-- a deschedule leaves no line of its instance
pub stop_leaves : (p : Params) (c : ℕ) (stamp : Stamp) (link : LinkNo) (v : Instance) (tag : Option Tag) (h : Store) (y : Line)
    → is_in_form p (noted (msg.Deschedule v tag)) ≡ true → In y (taking p c stamp link (msg.Deschedule v tag) h).state.view.lines
    → y.rec.tenancy.instance.0 ≡ v.0 → ⊥
unfolding without_instance
stop_leaves p c stamp link v tag h y form i e =
    let q : Store = (passing p c stamp v tag (holding p stamp v h).state).state in
    let there = subst (λ (s : Store). In y s.view.lines) (stopped p c stamp link v tag h form) i in
    no_both (from_filter (λ x. not (lines.is_of v x)) y q.view.lines there).1 (ap not (eq-eqb y.rec.tenancy.instance.0 v.0 e))

-- of one cub's life
module _ (p : Params) (c : ℕ) (plan : IsPlan p) (here : c < p.cubs) (count : ℕ) (inputs : ℕ → Input Msg) (formed : IsFormed p count inputs) where
  -- who is put waited
  pub waited : (i : ℕ) (stamp : Stamp) (t : Tenancy) → In (put_out t) (inserting p c stamp (before_inserting p c stamp (store_at p c inputs i))).outs
      → (a : Ask) × IsQueued a (store_at p c inputs i).starts × (a.instance ≡ t.instance)
  waited i stamp t k =
      let h : Store = store_at p c inputs i in
      let w = (inserting_puts p c stamp plan here (before_inserting p c stamp h)).put t k in
      (w.ask, before_back p c stamp h w.ask (inl w.waits), w.instance)

  -- where a record was taken behind a deschedule of its instance, that was let go before
  pub taken_released : (i j : ℕ) (r : Rec) → i ≤ count → j < i → In (taken_out r) (outs_at p c inputs i) → IsStop p c inputs j r.tenancy.instance.0
      → IsReleased p c inputs j i r.tenancy.instance.0
  taken_released i j r low before k s =
      let h : Store = store_at p c inputs i in
      ⊎_elim
      (λ (tick : is_tick_input (inputs i) ≡ true).
      let a = at_tick p c inputs i (taken_out r) tick k in
      let put = ((inserting_puts p c a.stamp plan here (before_inserting p c a.stamp h)).told r (took_inserted p c plan here a.stamp h r a.did)).0 in
      let w = waited i a.stamp r.tenancy put in
      subst (λ (v : Instance). IsReleased p c inputs j i v.0) w.2
      (queued_released p c inputs count formed i j w.0 before low (subst (λ (v : Instance). IsStop p c inputs j v.0) (sym w.2) s) w.1))
      (λ (message : is_tick_input (inputs i) ≡ false).
      unheld_released p c inputs count formed i j r.tenancy.instance.0 before low s r.tenancy.instance refl (input_free p c (inputs i) h r message k))
      (cases_Bool (is_tick_input (inputs i)))

  -- a line was taken behind each deschedule of its instance, and at no tick since was it to be forwarded, if it was not
  pub record Standing (y : Line) (i : ℕ) : Type 0 where
    pub at : ℕ
    pub before : at < i
    pub taken : In (taken_out y.rec) (outs_at p c inputs at)
    pub since : (j : ℕ) → j < i → IsStop p c inputs j y.rec.tenancy.instance.0 → j < at
    pub early : y.forwarded ≡ false → (k : ℕ) (stamp : Stamp) → at ≤ k → k < i → inputs k ≡ Tick stamp → must_forward p stamp y.rec ≡ false

  pub idle_now : (i : ℕ) (stamp : Stamp) (y : Line) → inputs i ≡ Tick stamp → In y (store_at p c inputs (suc i)).view.lines → y.forwarded ≡ false → must_forward p stamp y.rec ≡ false
  idle_now i stamp y e h mark = ⊎_elim (λ f. absurd (no_both f mark)) (λ f. f) (settled p c plan here inputs i stamp y e h)

  pub gone : (i j : ℕ) (y : Line) → i < count → j ≡ i → In y (store_at p c inputs (suc i)).view.lines → IsStop p c inputs j y.rec.tenancy.instance.0 → ⊥
  gone i j y low e k stop =
      let h : Store = store_at p c inputs i in
      let s : IsStop p c inputs i y.rec.tenancy.instance.0 = subst (λ (n : ℕ). IsStop p c inputs n y.rec.tenancy.instance.0) e stop in
      let form = formed i s.stamp s.link (msg.Deschedule s.instance s.tag) low s.is in
      let there = subst (λ (q : Input Msg). In y (deed_of p c q h).state.view.lines) s.is k in
      stop_leaves p c s.stamp s.link s.instance s.tag h y form there (sym s.same)

  pub standing : (i : ℕ) → i ≤ count → (y : Line) → In y (store_at p c inputs i).view.lines → Standing y i
  standing zero low y h = absurd h
  standing (suc i) low y h = ⊎_elim
      (λ w.
      let d = standing i (omega arith) w.line w.there in
      let b = d.before in
      record {
        at = d.at;
        before = omega arith;
        taken = subst (λ (r : Rec). In (taken_out r) (outs_at p c inputs d.at)) (sym w.same) d.taken;
        since = λ j l s. ⊎_elim
            (λ (e : j ≡ i). absurd (gone i j y (omega arith) e h s))
            (λ (q : j < i). d.since j q (subst (λ (r : Rec). IsStop p c inputs j r.tenancy.instance.0) w.same s))
            (eq-or-lt_of_le (let z : j ≤ i = omega arith in z));
        early = λ mark k stamp from l e. ⊎_elim
            (λ f. ⊎_elim
            (λ (q : k ≡ i). idle_now i stamp y (subst (λ n. inputs n ≡ Tick stamp) q e) h mark)
            (λ (q : k < i). subst (λ (r : Rec). must_forward p stamp r ≡ false) (sym w.same) (d.early (sym f ∙ mark) k stamp from q e))
            (eq-or-lt_of_le (let z : k ≤ i = omega arith in z)))
            (λ q. absurd (no_both q.0 mark))
            w.mark;
      })
      (λ w. record {
        at = i;
        before = omega arith;
        taken = w.taken;
        since = λ j l s. ⊎_elim
            (λ (e : j ≡ i). absurd (gone i j y (omega arith) e h s))
            (λ (q : j < i). q)
            (eq-or-lt_of_le (let z : j ≤ i = omega arith in z));
        early = λ mark k stamp from l e. let q : k ≡ i = omega arith in idle_now i stamp y (subst (λ n. inputs n ≡ Tick stamp) q e) h mark;
      })
      ((deed_moves p c plan here (inputs i) (store_at p c inputs i)).back y h)
