-- What an event makes of what is held: a message keeps it, begins a hold, and marks what is passed on; a tick keeps what is not over.
use Rattle.std.proofs.Common.{◌≡◌, ℕ, ◌+◌, true, false, Option, refl, sym, ap, subst, ◌∙◌, ⊎_elim, inl, inr}
use Rattle.std.specs.Prelude.{◌⊎◌}
use Rattle.std.proofs.lemmas.Bool.{eqb-true, false_from_ne_true}
use Rattle.tiger_base.specs.declared.number.Instance.{Instance}
use Rattle.tiger_base.specs.declared.number.LinkNo.{LinkNo}
use Rattle.tiger_base.specs.declared.number.Stamp.{Stamp}
use Rattle.tiger_base.specs.declared.tenancy.Tag.{Tag}
use Rattle.tiger_base.specs.declared.message.Msg.{Msg}
use Rattle.tiger_base.specs.declared.message.Msg.TheVariants as msg
use Rattle.slot_plan.specs.declared.params.Params.{Params}
use Rattle.slot_plan.specs.Keys.{Key}
use Rattle.node_kit.specs.Deeds.{then_do}
use Rattle.node_kit.specs.Steps.{Deed}
use Rattle.deschedule.specs.declared.held.Holding.{Holding}
use Rattle.deschedule.specs.Holds.{is_of, is_held, must_pass, once_passed, holds_at}
use Rattle.cub_rules.specs.declared.store.Store.{Store}
use Rattle.cub_rules.specs.Messages.{holding, passing, dropping_all, taking}
use Rattle.cub_rules.specs.Ticks.{releasing, believing, ticking}
use Rattle.cub_changes.specs.Changes.Change.{Hold, PassOn, Release}
use Rattle.cub_changes.specs.Causes.{Stage, PassesOn, MayPass, IsRelease, IsDeschedule}
use Rattle.cub_changes.specs.Causes.Stage.{OnMessage, OnDeadman, OnInsertion, OnService}
use Rattle.cub_changes.proofs.Closed.{IsClosed, OfEach}
use Rattle.cub_changes.proofs.Messages.{dropping_by, stop_rest_by, taking_by}
use Rattle.cub_changes.proofs.Ticks.{believing_by, late_by}
use Rattle.lists.specs.Elements.{In}
use Rattle.lists.proofs.Elements.{chosen, in_map, from_map}
use Rattle.proof_lives.proofs.Holds.{no_both, held_in, in_held, hold_in, with_hold_back, with_hold_forth, must_begin}
use Rattle.cub_changes.proofs.Chains.{release_is, tick_late}

pub same_instance : (v w : Instance) → v.0 ≡ w.0 → v ≡ w
same_instance v w e = ap (λ (n : ℕ). record { 0 = n }) e

-- ---- what leaves it

abbrev pub Same : Store → Deed Msg Store → Type 0
Same h d = d.state.held ≡ h.held

same_closed : IsClosed Same
same_closed = record { none = λ h. refl; both = λ h d e one two. two ∙ one }

module _ (p : Params) (c : ℕ) (stamp : Stamp) where
  same_each : (g : Stage) (from : Store) → (IsRelease g → ⊥) → ((v : Instance) → IsDeschedule g v → ⊥)
      → ((v : Instance) (k : Key) → MayPass p c stamp g from v k → ⊥) → OfEach Same p c stamp g from
  same_each g from kept unstopped unpassed Release h cause = absurd (kept cause)
  same_each g from kept unstopped unpassed (Hold v) h cause = absurd (unstopped v cause)
  same_each g from kept unstopped unpassed (PassOn v k) h cause = absurd (unpassed v k cause)
  same_each g from kept unstopped unpassed other h cause = refl

  -- a tick holds what is held still
  pub ticking_held : (h : Store) → (ticking p c stamp h).state.held ≡ holds_at h.held stamp.reading
  ticking_held h =
      let h0 : Store = (releasing p stamp h).state in
      ap (λ (s : Store). s.held) (tick_late p c stamp h)
      ∙ late_by Same same_closed p c stamp (believing p c stamp h0).state
      (λ from. same_each OnInsertion from (λ k. k) (λ v k. k) (λ v j k. k))
      (λ from. same_each OnService from (λ k. k) (λ v k. k) (λ v j k. k))
      ∙ believing_by Same same_closed p c stamp h0 (same_each OnDeadman h0 (λ k. k) (λ v k. k) (λ v j k. k))
      ∙ ap (λ (d : Deed Msg Store). d.state.held) (release_is p c stamp h)

  pub dropping_same : (v : Instance) (h : Store) → Same h (dropping_all p c v h)
  dropping_same v h = dropping_by Same same_closed p c stamp v h (λ q. refl) (λ q. refl) (λ q. refl) (λ q. refl)

-- ---- what a message makes of it: from is what the cub kept when the message came

-- a holding that a message begins is of its deschedule
pub record IsNewHold (p : Params) (stamp : Stamp) (m : Msg) (h : Store) (x : Holding) : Type 0 where
  pub tag : Option Tag
  pub is : m ≡ msg.Deschedule x.instance tag
  pub until : x.until ≡ stamp.reading + p.hold
  pub unpassed : x.passed ≡ false
  pub unheld : is_held h.held x.instance ≡ false

-- behind a hold its instance is held, all else was held before, and what was held is
pub hold_there : (p : Params) (stamp : Stamp) (v : Instance) (h : Store)
    → (x : Holding) × In x (holding p stamp v h).state.held × (x.instance.0 ≡ v.0)
hold_there p stamp v h = hold_in v h.held (stamp.reading + p.hold)

pub hold_must : (p : Params) (stamp : Stamp) (v : Instance) (h : Store) → is_held h.held v ≡ false
    → must_pass (holding p stamp v h).state.held v ≡ true
hold_must p stamp v h free = must_begin h.held v (stamp.reading + p.hold) free

pub hold_back : (p : Params) (stamp : Stamp) (v : Instance) (tag : Option Tag) (h : Store) (x : Holding)
    → In x (holding p stamp v h).state.held → In x h.held ⊎ IsNewHold p stamp (msg.Deschedule v tag) h x
hold_back p stamp v tag h x i = ⊎_elim
    (λ q. inl q)
    (λ q. inr (subst (λ (y : Holding). IsNewHold p stamp (msg.Deschedule v tag) h y) (sym q.1)
    (record { tag = tag; is = refl; until = refl; unpassed = refl; unheld = q.0 })))
    (with_hold_back v h.held (stamp.reading + p.hold) x i)

pub hold_forth : (p : Params) (stamp : Stamp) (v : Instance) (h : Store) (x : Holding) → In x h.held
    → In x (holding p stamp v h).state.held
hold_forth p stamp v h x i = with_hold_forth v h.held (stamp.reading + p.hold) x i

module _ (p : Params) (c : ℕ) (stamp : Stamp) (m : Msg) (from : Store) where
  -- a holding is another one, or that one marked when its instance is passed on
  abbrev pub IsFrom : Holding → Holding → Type 0
  IsFrom x y = (x ≡ y) ⊎ ((k : Key) × PassesOn p c stamp m from y.instance k × (x ≡ record y { passed = true }))

  pub from_same : (x y : Holding) → IsFrom x y → (x.instance ≡ y.instance) × (x.until ≡ y.until)
  from_same x y k = ⊎_elim
      (λ e. (ap (λ (z : Holding). z.instance) e, ap (λ (z : Holding). z.until) e))
      (λ w. (ap (λ (z : Holding). z.instance) w.2, ap (λ (z : Holding). z.until) w.2))
      k

  from_from : (x y z : Holding) → IsFrom x y → IsFrom y z → IsFrom x z
  from_from x y z a b = ⊎_elim
      (λ (e : x ≡ y). subst (λ (w : Holding). IsFrom w z) (sym e) b)
      (λ w. ⊎_elim
      (λ (e : y ≡ z). inr (
        w.0,
        subst (λ (u : Holding). PassesOn p c stamp m from u.instance w.0) e w.1,
        w.2 ∙ ap (λ (u : Holding). record u { passed = true }) e,
      ))
      (λ u. inr (u.0, u.1, w.2 ∙ ap (λ (s : Holding). record s { passed = true }) u.2))
      b)
      a

  pub record Keeps (h : Store) (d : Deed Msg Store) : Type 0 where
    pub back : (x : Holding) → In x d.state.held → (y : Holding) × (In y h.held ⊎ IsNewHold p stamp m h y) × IsFrom x y
    pub forth : (y : Holding) → In y h.held → (x : Holding) × In x d.state.held × IsFrom x y

  -- what begins behind a deed begins before it
  earlier : (h : Store) (d : Deed Msg Store) → Keeps h d → (x : Holding) → IsNewHold p stamp m d.state x → IsNewHold p stamp m h x
  earlier h d one x k = record {
    tag = k.tag;
    is = k.is;
    until = k.until;
    unpassed = k.unpassed;
    unheld = false_from_ne_true (is_held h.held x.instance) (λ t.
        let y = held_in x.instance h.held t in
        let z = one.forth y.0 y.1 in
        let same = ap (λ (v : Instance). v.0) (from_same z.0 y.0 z.2).0 ∙ y.2 in
        no_both (in_held x.instance z.0 d.state.held z.1 same) k.unheld);
  }

  keeps_closed : IsClosed Keeps
  keeps_closed = record {
    none = λ h. record { back = λ x i. (x, inl i, inl refl); forth = λ y i. (y, i, inl refl) };
    both = λ h d e one two. record {
      back = λ x i.
          let b = two.back x i in
          ⊎_elim
          (λ q. let a = one.back b.0 q in (a.0, a.1, from_from x b.0 a.0 b.2 a.2))
          (λ q. (b.0, inr (earlier h d one b.0 q), b.2))
          b.1;
      forth = λ y i.
          let a = one.forth y i in
          let b = two.forth a.0 a.1 in
          (b.0, b.1, from_from b.0 a.0 y b.2 a.2);
    };
  }

  marked_from : (v : Instance) (k : Key) → PassesOn p c stamp m from v k → (x y : Holding) → x ≡ once_passed v y → IsFrom x y
  marked_from v k passes x y =
      chosen (λ (z : Holding). x ≡ z → IsFrom x y) (is_of v y) (record y { passed = true }) y
      (λ t e.
      let same = same_instance v y.instance (sym (eqb-true _ _ t)) in
      inr (k, subst (λ (w : Instance). PassesOn p c stamp m from w k) same passes, e))
      (λ _ e. inl e)

  module _ (link : LinkNo) where
    stop_is : (n : Msg) (v : Instance) → IsDeschedule (OnMessage link n) v → (tag : Option Tag) × (n ≡ msg.Deschedule v tag)
    stop_is (msg.Deschedule w tag) v e = (tag, ap (λ (u : Instance). msg.Deschedule u tag) (sym e))
    stop_is other v e = absurd e

    keeps_each : OfEach Keeps p c stamp (OnMessage link m) from
    keeps_each (Hold v) h cause =
        let s = stop_is m v cause in
        record {
          back = λ x i.
              (x, subst (λ (n : Msg). In x h.held ⊎ IsNewHold p stamp n h x) (sym s.1) (hold_back p stamp v s.0 h x i), inl refl);
          forth = λ y i. (y, hold_forth p stamp v h y i, inl refl);
        }
    keeps_each (PassOn v k) h cause = record {
      back = λ x i. let f = from_map (once_passed v) x h.held i in (f.0, inl f.1, marked_from v k cause x f.0 f.2);
      forth = λ y i.
          (once_passed v y, in_map (once_passed v) y h.held i, marked_from v k cause (once_passed v y) y refl);
    }
    keeps_each Release h cause = absurd cause
    keeps_each other h cause = record { back = λ x i. (x, inl i, inl refl); forth = λ y i. (y, i, inl refl) }

pub taking_keeps : (p : Params) (c : ℕ) (stamp : Stamp) (link : LinkNo) (m : Msg) (h : Store)
    → Keeps p c stamp m h h (taking p c stamp link m h)
taking_keeps p c stamp link m h =
    taking_by (Keeps p c stamp m h) (keeps_closed p c stamp m h) p c stamp link m h (keeps_each p c stamp m h link)

-- what follows on the hold of a deschedule
pub stop_keeps : (p : Params) (c : ℕ) (stamp : Stamp) (link : LinkNo) (v : Instance) (tag : Option Tag) (h : Store)
    → Keeps p c stamp (msg.Deschedule v tag) h (holding p stamp v h).state (then_do (passing p c stamp v tag) (dropping_all p c v) (holding p stamp v h).state)
stop_keeps p c stamp link v tag h =
    let m : Msg = msg.Deschedule v tag in
    stop_rest_by (Keeps p c stamp m h) (keeps_closed p c stamp m h) p c stamp link v tag h (keeps_each p c stamp m h link)
