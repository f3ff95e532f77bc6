-- Along a life: from a deschedule on its instance is held, until a tick at which the time of the hold is over.
use Rattle.std.proofs.Common.{◌≡◌, ℕ, suc, ◌+◌, ◌<◌, ◌≤◌, false, refl, sym, ap, subst, ◌∙◌, arith, ⊎_elim, inl, inr}
use Rattle.std.specs.Prelude.{◌⊎◌}
use Rattle.std.proofs.lemmas.Bool.{cases_lt, lt-ltb}
use Rattle.tiger_base.specs.declared.number.Instance.{Instance}
use Rattle.tiger_base.specs.declared.number.Stamp.{Stamp}
use Rattle.tiger_base.specs.declared.message.Msg.{Msg}
use Rattle.tiger_base.specs.declared.message.Msg.TheVariants as msg
use Rattle.slot_plan.specs.declared.params.Params.{Params}
use Rattle.node_kit.specs.Steps.{Deed, Input}
use Rattle.node_kit.specs.Steps.Input.{Take, Tick}
use Rattle.deschedule.specs.declared.held.Holding.{Holding}
use Rattle.deschedule.specs.Holds.{is_held, is_kept}
use Rattle.cub_rules.specs.declared.store.Store.{Store}
use Rattle.proof_lives.specs.Lives.{store_at, deed_of}
use Rattle.lists.specs.Elements.{In}
use Rattle.lists.proofs.Elements.{in_filter}
use Rattle.proof_lives.proofs.Trails.{Within, held_until}
use Rattle.proof_lives.specs.HoldsHere.{IsFormed}
use Rattle.proof_lives.proofs.Begun.{IsStop, stop_as, begun}
use Rattle.proof_lives.proofs.Holds.{no_both, in_held}
use Rattle.proof_lives.proofs.Ledger.{from_same, taking_keeps, stop_keeps, ticking_held, hold_there, hold_back}
use Rattle.cub_changes.proofs.Chains.{takes_stop}

module _ (p : Params) (c : ℕ) (inputs : ℕ → Input Msg) where
  -- before an input an instance is held by a deschedule that came by another one
  pub record IsHeldBy (j v i : ℕ) : Type 0 where
    pub holding : Holding
    pub member : In holding (store_at p c inputs i).held
    pub same : holding.instance.0 ≡ v
    pub at : ℕ
    pub by : at ≤ j
    pub stop : IsStop p c inputs at v
    pub until : holding.until ≡ stop.stamp.reading + p.hold

  -- the time of such a hold is over at a tick
  pub record IsOver (j v i : ℕ) : Type 0 where
    pub stamp : Stamp
    pub is : inputs i ≡ Tick stamp
    pub at : ℕ
    pub by : at ≤ j
    pub stop : IsStop p c inputs at v
    pub over : stop.stamp.reading + p.hold ≤ stamp.reading

  -- it was over at a tick since
  abbrev pub IsReleased : (j i v : ℕ) → Type 0
  IsReleased j i v = Within (IsOver j v) (suc j) i

  -- what comes of a holding is held by the same deschedule
  moved : (j v i n : ℕ) (k : IsHeldBy j v i) (x : Holding) → In x (store_at p c inputs n).held
      → (x.instance ≡ k.holding.instance) × (x.until ≡ k.holding.until) → IsHeldBy j v n
  moved j v i n k x here same = record {
    holding = x;
    member = here;
    same = ap (λ (u : Instance). u.0) same.0 ∙ k.same;
    at = k.at;
    by = k.by;
    stop = k.stop;
    until = same.1 ∙ k.until;
  }

  hold_step : (j v i : ℕ) (input : Input Msg) → inputs i ≡ input → IsHeldBy j v i → IsHeldBy j v (suc i) ⊎ IsOver j v i
  hold_step j v i (Take stamp link m) is k =
      let h : Store = store_at p c inputs i in
      let x = (taking_keeps p c stamp link m h).forth k.holding k.member in
      inl (moved j v i (suc i) k x.0 (subst (λ (q : Input Msg). In x.0 (deed_of p c q h).state.held) (sym is) x.1)
      (from_same p c stamp m h x.0 k.holding x.2))
  hold_step j v i (Tick stamp) is k =
      let h : Store = store_at p c inputs i in
      let until = k.until in
      ⊎_elim
      (λ (l : stamp.reading < k.holding.until).
      let kept = in_filter (is_kept stamp.reading) k.holding h.held k.member (lt-ltb _ _ l) in
      let now = subst (λ xs. In k.holding xs) (sym (ticking_held p c stamp h)) kept in
      inl (moved j v i (suc i) k k.holding (subst (λ (q : Input Msg). In k.holding (deed_of p c q h).state.held) (sym is) now) (refl, refl)))
      (λ (g : k.holding.until ≤ stamp.reading). inr (record { stamp = stamp; is = is; at = k.at; by = k.by; stop = k.stop; over = omega arith }))
      (cases_lt stamp.reading k.holding.until)

  -- a deschedule leaves a hold, which it begins or finds
  stop_holds : (count : ℕ) → IsFormed p count inputs → (i v : ℕ) → i < count → IsStop p c inputs i v → IsHeldBy i v (suc i)
  stop_holds count formed i v low s =
      let h : Store = store_at p c inputs i in
      let m : Msg = msg.Deschedule s.instance s.tag in
      let y = hold_there p s.stamp s.instance h in
      let x = (stop_keeps p c s.stamp s.link s.instance s.tag h).forth y.0 y.1 in
      let taken = takes_stop p c s.stamp s.link s.instance s.tag h (formed i s.stamp s.link m low s.is) in
      let done = subst (λ (d : Deed Msg Store). In x.0 d.state.held) (sym taken) x.1 in
      let here = subst (λ (q : Input Msg). In x.0 (deed_of p c q h).state.held) (sym s.is) done in
      let same = from_same p c s.stamp m h x.0 y.0 x.2 in
      let mine : y.0.instance.0 ≡ v = y.2 ∙ s.same in
      ⊎_elim
      (λ q.
      let b = begun p c inputs i y.0 q in
      let before = b.before in
      record {
        holding = x.0;
        member = here;
        same = ap (λ (u : Instance). u.0) same.0 ∙ mine;
        at = b.at;
        by = omega arith;
        stop = stop_as p c inputs b.at y.0.instance.0 v mine b.came.stop;
        until = same.1 ∙ b.came.until;
      })
      (λ q. record {
        holding = x.0;
        member = here;
        same = ap (λ (u : Instance). u.0) same.0 ∙ mine;
        at = i;
        by = omega arith;
        stop = s;
        until = same.1 ∙ q.until;
      })
      (hold_back p s.stamp s.instance s.tag h y.0 y.1)

  -- from a deschedule on its instance is held, or was released
  pub held_since : (count : ℕ) → IsFormed p count inputs → (i j v : ℕ) → j < i → i ≤ count → IsStop p c inputs j v
      → IsHeldBy j v i ⊎ IsReleased j i v
  held_since count formed i j v before low s = ⊎_elim
      (λ k. inl k)
      (λ u. inr (record { at = u.at; from = u.from; before = u.before; is = u.may }))
      (held_until (IsHeldBy j v) (IsOver j v) i (suc j) (omega arith) (λ k _ _ h. hold_step j v k (inputs k) refl h)
      (stop_holds count formed j v (omega arith) s))

  -- if an instance is not held any more it was released
  pub unheld_released : (count : ℕ) → IsFormed p count inputs → (i j v : ℕ) → j < i → i ≤ count → IsStop p c inputs j v
      → (w : Instance) → w.0 ≡ v → is_held (store_at p c inputs i).held w ≡ false → IsReleased j i v
  unheld_released count formed i j v before low s w same free = ⊎_elim
      (λ k. absurd (no_both (in_held w k.holding (store_at p c inputs i).held k.member (k.same ∙ sym same)) free))
      (λ k. k)
      (held_since count formed i j v before low s)
