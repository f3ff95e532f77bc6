-- Whom a cub believes dead and what it holds: only its deadman rule and a deschedule change that.
use Rattle.std.proofs.Common.{◌≡◌, ℕ, zero, suc, ◌+◌, ◌<◌, arith, List, [], ◌∷◌, ◌++◌, Bool, true, false, Option, refl, sym, ap, subst, ◌∙◌, ⊎_elim, inl, inr}
use Rattle.std.specs.Prelude.{◌⊎◌, ◌||◌}
use Rattle.std.proofs.lemmas.Bool.{cases_Bool, eqb-true, or_left, or_right}
use Rattle.tiger_base.specs.declared.number.Instance.{Instance}
use Rattle.tiger_base.specs.declared.number.LinkNo.{LinkNo}
use Rattle.tiger_base.specs.declared.number.Stamp.{Stamp}
use Rattle.tiger_base.specs.declared.tenancy.Tag.{Tag}
use Rattle.tiger_base.specs.declared.message.Msg.{Msg}
use Rattle.tiger_base.specs.declared.message.Msg.TheVariants as msg
use Rattle.slot_plan.specs.declared.params.Params.{Params}
use Rattle.node_kit.specs.Steps.{Deed, Input}
use Rattle.node_kit.specs.Steps.Input.{Take, Tick}
use Rattle.deschedule.specs.declared.held.Holding.{Holding}
use Rattle.deschedule.specs.Holds.{is_of, is_held, with_hold, with_pass, is_kept, holds_at}
use Rattle.cub_rules.specs.declared.store.Store.{Store}
use Rattle.cub_changes.specs.Changes.Change.{Hold, PassOn, Release}
use Rattle.cub_changes.specs.Causes.{Stage, IsDeschedule}
use Rattle.cub_changes.specs.Causes.Stage.{OnMessage}
use Rattle.cub_changes.proofs.Closed.{IsClosed, OfEach}
use Rattle.cub_changes.proofs.Messages.{taking_by}
use Rattle.cub_changes.proofs.Ticks.{IsOfTick, ticking_by}
use Rattle.proof_lives.specs.Lives.{deed_of, store_at}
use Rattle.lists.proofs.Elements.{chosen}

-- ---- what is held

-- whatever is held after a deed was held before it, or is stopped
abbrev pub HeldFrom : (Instance → Type 0) → Store → Deed Msg Store → Type 0
HeldFrom Stopped h d = (w : Instance) → is_held d.state.held w ≡ true → (is_held h.held w ≡ true) ⊎ Stopped w

held_closed : (Stopped : Instance → Type 0) → IsClosed (HeldFrom Stopped)
held_closed Stopped = record { none = λ h w e. inl e; both = λ h d e one two w k. ⊎_elim (λ q. one w q) (λ q. inr q) (two w k) }

with_pass_held : (v w : Instance) (holds : List Holding) → is_held (with_pass holds v) w ≡ is_held holds w
with_pass_held v w [] = refl
with_pass_held v w (x ∷ xs) =
    chosen (λ (y : Holding). (is_of w y || is_held (with_pass xs v) w) ≡ (is_of w x || is_held xs w)) (is_of v x) (record x { passed = true }) x
    (λ _. ap (λ b. is_of w x || b) (with_pass_held v w xs)) (λ _. ap (λ b. is_of w x || b) (with_pass_held v w xs))

any_append : (w : Instance) (xs ys : List Holding) → is_held (xs ++ ys) w ≡ true → (is_held xs w ≡ true) ⊎ (is_held ys w ≡ true)
any_append w [] ys e = inr e
any_append w (x ∷ xs) ys e = ⊎_elim
    (λ (t : is_of w x ≡ true). inl (or_left (is_of w x) (is_held xs w) t))
    (λ (t : is_of w x ≡ false). ⊎_elim (λ q. inl (or_right (is_of w x) (is_held xs w) q)) (λ q. inr q) (any_append w xs ys (subst (λ b. (b || is_held (xs ++ ys) w) ≡ true) t e)))
    (cases_Bool (is_of w x))

with_hold_held : (holds : List Holding) (v w : Instance) (until : ℕ) → is_held (with_hold holds v until) w ≡ true → (is_held holds w ≡ true) ⊎ (v.0 ≡ w.0)
with_hold_held holds v w until =
    chosen (λ (hs : List Holding). is_held hs w ≡ true → (is_held holds w ≡ true) ⊎ (v.0 ≡ w.0)) (is_held holds v) holds (holds ++ record { instance = v; until = until; passed = false } ∷ [])
    (λ _ e. inl e)
    (λ _ e. ⊎_elim (λ q. inl q) (λ q. inr (eqb-true _ _ (or_false _ q))) (any_append w holds (record { instance = v; until = until; passed = false } ∷ []) e))
  where
    or_false : (b : Bool) → (b || false) ≡ true → b ≡ true
    or_false true e = refl
    or_false false e = e

filter_held : (now : ℕ) (w : Instance) (holds : List Holding) → is_held (holds_at holds now) w ≡ true → is_held holds w ≡ true
filter_held now w [] e = e
filter_held now w (x ∷ xs) e =
    chosen (λ (hs : List Holding). is_held hs w ≡ true → (is_of w x || is_held xs w) ≡ true) (is_kept now x) (x ∷ holds_at xs now) (holds_at xs now)
    (λ _ e. ⊎_elim
    (λ (t : is_of w x ≡ true). or_left (is_of w x) (is_held xs w) t)
    (λ (t : is_of w x ≡ false). or_right (is_of w x) (is_held xs w) (filter_held now w xs (subst (λ b. (b || is_held (holds_at xs now) w) ≡ true) t e)))
    (cases_Bool (is_of w x)))
    (λ _ e. or_right (is_of w x) (is_held xs w) (filter_held now w xs e))
    e

-- a message that holds an instance is its deschedule
abbrev pub IsStopOf : Input Msg → Instance → Type 0
IsStopOf (Take stamp link (msg.Deschedule v tag)) w = v.0 ≡ w.0
IsStopOf other w = ⊥

module _ (p : Params) (c : ℕ) (stamp : Stamp) where
  held_each : (Stopped : Instance → Type 0) (g : Stage) (from : Store) → ((v w : Instance) → IsDeschedule g v → v.0 ≡ w.0 → Stopped w) → OfEach (HeldFrom Stopped) p c stamp g from
  held_each Stopped g from stops (Hold v) h cause =
      λ w e. ⊎_elim (λ q. inl q) (λ q. inr (stops v w cause q)) (with_hold_held h.held v w (stamp.reading + p.hold) e)
  held_each Stopped g from stops (PassOn v k) h cause = λ w e. inl (sym (with_pass_held v w h.held) ∙ e)
  held_each Stopped g from stops Release h cause = λ w e. inl (filter_held stamp.reading w h.held e)
  held_each Stopped g from stops other h cause = λ w e. inl e

  stop_is : (link : LinkNo) (m : Msg) (v w : Instance) → IsDeschedule (OnMessage link m) v → v.0 ≡ w.0 → IsStopOf (Take stamp link m) w
  stop_is link (msg.Deschedule u tag) v w stop e = ap (λ (x : Instance). x.0) (sym stop) ∙ e
  stop_is link other v w stop e = absurd stop

  no_stop : (g : Stage) (v : Instance) → IsOfTick g → IsDeschedule g v → ⊥
  no_stop (OnMessage link m) v t stop = t
  no_stop other v t stop = stop

pub held_from : (p : Params) (c : ℕ) (i : Input Msg) (h : Store) → HeldFrom (IsStopOf i) h (deed_of p c i h)
held_from p c (Take stamp link m) h =
    let Stopped : Instance → Type 0 = IsStopOf (Take stamp link m) in
    taking_by (HeldFrom Stopped) (held_closed Stopped) p c stamp link m h (held_each p c stamp Stopped (OnMessage link m) h (stop_is p c stamp link m))
held_from p c (Tick stamp) h =
    let Stopped : Instance → Type 0 = IsStopOf (Tick stamp) in
    ticking_by (HeldFrom Stopped) (held_closed Stopped) p c stamp h
    (λ g from t. held_each p c stamp Stopped g from (λ v w stop e. absurd (no_stop p c stamp g v t stop)))

-- ---- who is believed dead

pub record StoppedBefore (inputs : ℕ → Input Msg) (v : Instance) (i : ℕ) : Type 0 where
  pub at : ℕ
  pub before : at < i
  pub stamp : Stamp
  pub link : LinkNo
  pub instance : Instance
  pub tag : Option Tag
  pub is : inputs at ≡ Take stamp link (msg.Deschedule instance tag)
  pub same : instance.0 ≡ v.0

module _ (p : Params) (c : ℕ) (inputs : ℕ → Input Msg) where
  stopped_now : (i : ℕ) (v : Instance) (k : Input Msg) → inputs i ≡ k → IsStopOf k v → StoppedBefore inputs v (suc i)
  stopped_now i v (Take stamp link (msg.Deschedule w tag)) e k =
      record { at = i; before = omega arith; stamp = stamp; link = link; instance = w; tag = tag; is = e; same = k }
  stopped_now i v other e k = absurd k

  -- what is held was descheduled before
  pub held_stopped : (i : ℕ) (v : Instance) → is_held (store_at p c inputs i).held v ≡ true → StoppedBefore inputs v i
  held_stopped zero v e = absurd (cc)
  held_stopped (suc i) v e = ⊎_elim
      (λ q. let s = held_stopped i v q in let l = s.before in
      record { at = s.at; before = omega arith; stamp = s.stamp; link = s.link; instance = s.instance; tag = s.tag; is = s.is; same = s.same })
      (λ q. stopped_now i v (inputs i) refl q)
      (held_from p c (inputs i) (store_at p c inputs i) v e)
