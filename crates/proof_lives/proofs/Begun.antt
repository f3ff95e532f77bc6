-- Along a life: each holding was begun by a deschedule; one that was not passed on stands since then, and one that was stands since its pass.
use Rattle.std.proofs.Common.{◌≡◌, ℕ, suc, ◌+◌, ◌<◌, true, false, Option, refl, sym, ap, subst, ◌∙◌, ⊎_elim, inl, inr}
use Rattle.std.specs.Prelude.{◌⊎◌}
use Rattle.tiger_base.specs.declared.number.Instance.{Instance}
use Rattle.tiger_base.specs.declared.number.LinkNo.{LinkNo}
use Rattle.tiger_base.specs.declared.number.Stamp.{Stamp}
use Rattle.tiger_base.specs.declared.tenancy.Tag.{Tag}
use Rattle.tiger_base.specs.declared.message.Msg.{Msg}
use Rattle.tiger_base.specs.declared.message.Msg.TheVariants as msg
use Rattle.slot_plan.specs.declared.params.Params.{Params}
use Rattle.slot_plan.specs.Keys.{Key}
use Rattle.node_kit.specs.Steps.{Input}
use Rattle.node_kit.specs.Steps.Input.{Take, Tick}
use Rattle.deschedule.specs.declared.held.Holding.{Holding}
use Rattle.deschedule.specs.Holds.{is_held, is_kept}
use Rattle.cub_rules.specs.declared.store.Store.{Store}
use Rattle.cub_changes.specs.Causes.{PassesOn}
use Rattle.proof_lives.specs.Lives.{store_at, deed_of}
use Rattle.lists.specs.Elements.{In}
use Rattle.lists.proofs.Elements.{from_filter}
use Rattle.proof_lives.proofs.Trails.{Since, came_since}
use Rattle.proof_lives.specs.HoldsHere.{IsFormed}
use Rattle.proof_lives.proofs.Holds.{no_both, all_marked}
use Rattle.proof_lives.proofs.Ledger.{IsNewHold, taking_keeps, ticking_held}
use Rattle.proof_lives.proofs.Passing.{passes_held, taking_passes}

module _ (p : Params) (c : ℕ) (inputs : ℕ → Input Msg) where
  -- an input is a deschedule of an instance
  pub record IsStop (i v : ℕ) : Type 0 where
    pub stamp : Stamp
    pub link : LinkNo
    pub instance : Instance
    pub tag : Option Tag
    pub is : inputs i ≡ Take stamp link (msg.Deschedule instance tag)
    pub same : instance.0 ≡ v

  abbrev pub stop_as : (i v w : ℕ) → v ≡ w → IsStop i v → IsStop i w
  stop_as i v w e s =
      record { stamp = s.stamp; link = s.link; instance = s.instance; tag = s.tag; is = s.is; same = s.same ∙ e }

  -- at an input an instance is passed on
  pub record IsPassing (i v : ℕ) : Type 0 where
    pub stamp : Stamp
    pub link : LinkNo
    pub message : Msg
    pub is : inputs i ≡ Take stamp link message
    pub instance : Instance
    pub same : instance.0 ≡ v
    pub key : Key
    pub passes : PassesOn p c stamp message (store_at p c inputs i) instance key

  -- an input is the deschedule that begins a holding
  pub record Begins (x : Holding) (i : ℕ) : Type 0 where
    pub stop : IsStop i x.instance.0
    pub until : x.until ≡ stop.stamp.reading + p.hold

  -- of an instance that was not held
  pub record BeginsAnew (x : Holding) (i : ℕ) : Type 0 where
    pub begins : Begins x i
    pub unpassed : x.passed ≡ false
    pub unheld : is_held (store_at p c inputs i).held x.instance ≡ false

  -- a holding before an input, and one that is of its instance and ends when it does
  abbrev pub Held : Holding → ℕ → Type 0
  Held x i = In x (store_at p c inputs i).held

  abbrev pub IsHeldLike : Holding → ℕ → Type 0
  IsHeldLike x i = (y : Holding) × Held y i × (y.instance ≡ x.instance) × (y.until ≡ x.until)

  -- what is held behind an input was held before it or begins at it, and is marked if it is passed on at it
  pub record Comes (x : Holding) (i : ℕ) : Type 0 where
    pub old : Holding
    pub from : Held old i ⊎ BeginsAnew old i
    pub how : (x ≡ old) ⊎ (IsPassing i old.instance.0 × (x ≡ record old { passed = true }))

  begins_new : (i : ℕ) (stamp : Stamp) (link : LinkNo) (m : Msg) (x : Holding) → inputs i ≡ Take stamp link m
      → IsNewHold p stamp m (store_at p c inputs i) x → BeginsAnew x i
  begins_new i stamp link m x is k = record {
    begins = record {
      stop = record {
        stamp = stamp;
        link = link;
        instance = x.instance;
        tag = k.tag;
        is = is ∙ ap (λ (n : Msg). Take stamp link n) k.is;
        same = refl;
      };
      until = k.until;
    };
    unpassed = k.unpassed;
    unheld = k.unheld;
  }

  comes_by : (i : ℕ) (k : Input Msg) (x : Holding) → inputs i ≡ k → In x (deed_of p c k (store_at p c inputs i)).state.held
      → Comes x i
  comes_by i (Take stamp link m) x is k =
      let b = (taking_keeps p c stamp link m (store_at p c inputs i)).back x k in
      record {
        old = b.0;
        from = ⊎_elim (λ q. inl q) (λ q. inr (begins_new i stamp link m b.0 is q)) b.1;
        how = ⊎_elim
            (λ e. inl e)
            (λ w. inr (
              record { stamp = stamp; link = link; message = m; is = is; instance = b.0.instance; same = refl; key = w.0; passes = w.1 },
              w.2,
            ))
            b.2;
      }
  comes_by i (Tick stamp) x is k =
      let h : Store = store_at p c inputs i in
      let q = from_filter (is_kept stamp.reading) x h.held (subst (λ xs. In x xs) (ticking_held p c stamp h) k) in
      record { old = x; from = inl q.0; how = inl refl }

  pub comes : (i : ℕ) (x : Holding) → Held x (suc i) → Comes x i
  comes i x k = comes_by i (inputs i) x refl k

  -- one that was not passed on stands since it began
  pub unpassed_since : (i : ℕ) (x : Holding) → x.passed ≡ false → Held x i → Since (Held x) (BeginsAnew x) i
  unpassed_since i x none here =
      came_since (Held x) (BeginsAnew x) (λ h. h) i
      (λ k _ h.
      let b = comes k x h in
      ⊎_elim
      (λ (e : x ≡ b.old). subst (λ (y : Holding). Held y k ⊎ BeginsAnew y k) (sym e) b.from)
      (λ w. absurd (no_both (ap (λ (y : Holding). y.passed) w.1) none))
      b.how)
      here

  -- one that was passed on stands so since a pass
  pub passed_since : (i : ℕ) (x : Holding) → x.passed ≡ true → Held x i → Since (Held x) (λ k. IsPassing k x.instance.0) i
  passed_since i x marked here =
      came_since (Held x) (λ k. IsPassing k x.instance.0) (λ h. h) i
      (λ k _ h.
      let b = comes k x h in
      ⊎_elim
      (λ (e : x ≡ b.old). ⊎_elim
      (λ q. inl (subst (λ (y : Holding). Held y k) (sym e) q))
      (λ q. absurd (no_both (ap (λ (y : Holding). y.passed) (sym e) ∙ marked) q.unpassed))
      b.from)
      (λ w. inr (subst (λ (v : Instance). IsPassing k v.0) (sym (ap (λ (y : Holding). y.instance) w.1)) w.0))
      b.how)
      here

  -- and each was begun by a deschedule
  begins_like : (x y : Holding) (i : ℕ) → y.instance ≡ x.instance → y.until ≡ x.until → Begins y i → Begins x i
  begins_like x y i same until b = record {
    stop = stop_as i y.instance.0 x.instance.0 (ap (λ (v : Instance). v.0) same) b.stop;
    until = sym until ∙ b.until;
  }

  pub begun : (i : ℕ) (x : Holding) → Held x i → Since (IsHeldLike x) (Begins x) i
  begun i x here =
      came_since (IsHeldLike x) (Begins x) (λ h. h.1) i
      (λ k _ h.
      let b = comes k h.0 h.1 in
      let alike : (h.0.instance ≡ b.old.instance) × (h.0.until ≡ b.old.until) = ⊎_elim
      (λ (e : h.0 ≡ b.old). (ap (λ (y : Holding). y.instance) e, ap (λ (y : Holding). y.until) e))
      (λ w. (ap (λ (y : Holding). y.instance) w.1, ap (λ (y : Holding). y.until) w.1))
      b.how in
      ⊎_elim
      (λ q. inl (b.old, q, sym alike.0 ∙ h.2, sym alike.1 ∙ h.3))
      (λ q. inr (begins_like x b.old k (sym alike.0 ∙ h.2) (sym alike.1 ∙ h.3) q.begins))
      b.from)
      (x, here, refl, refl)

  -- behind a pass all that is held of its instance was passed on
  pub passing_marks : (count : ℕ) → IsFormed p count inputs → (i v : ℕ) → i < count → IsPassing i v
      → (x : Holding) → Held x (suc i) → x.instance.0 ≡ v → x.passed ≡ true
  passing_marks count formed i v low a x here same =
      let h : Store = store_at p c inputs i in
      let form = formed i a.stamp a.link a.message low a.is in
      let done = taking_passes p c a.stamp a.link a.message h a.instance a.key form a.passes in
      let now = subst (λ (k : Input Msg). In x (deed_of p c k h).state.held) a.is here in
      all_marked a.instance x done.before.held (subst (λ xs. In x xs) done.held now) (same ∙ sym a.same)

  -- before a pass its instance was held and not passed on, or its hold begins with it
  pub record IsUnpassed (i v : ℕ) : Type 0 where
    pub holding : Holding
    pub same : holding.instance.0 ≡ v
    pub unpassed : holding.passed ≡ false
    pub from : Held holding i ⊎ BeginsAnew holding i

  pub passing_unpassed : (i v : ℕ) → IsPassing i v → IsUnpassed i v
  passing_unpassed i v a =
      let x = passes_held p c a.stamp a.message (store_at p c inputs i) a.instance a.key a.passes in
      record {
        holding = x.0;
        same = x.2 ∙ a.same;
        unpassed = x.3;
        from = ⊎_elim (λ q. inl q) (λ q. inr (begins_new i a.stamp a.link a.message x.0 a.is q)) x.1;
      }
