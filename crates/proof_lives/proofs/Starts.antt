-- No start of an instance that is held stands in a cub's lists, so none is put and no record of it enters by a Put.
use Rattle.std.proofs.Common.{◌≡◌, ℕ, suc, ◌<◌, ◌≤◌, Bool, true, false, not, refl, sym, ap, subst, ◌∙◌, arith, ⊎_elim, inl, inr, is_some}
use Rattle.std.specs.Prelude.{◌⊎◌, ◌||◌}
use Rattle.std.proofs.lemmas.Bool.{cases_Bool, eq-eqb, or_left, or_right}
use Rattle.tiger_base.specs.declared.number.Instance.{Instance}
use Rattle.tiger_base.specs.declared.number.LinkNo.{LinkNo}
use Rattle.tiger_base.specs.declared.number.Stamp.{Stamp}
use Rattle.tiger_base.specs.declared.tenancy.Ask.{Ask}
use Rattle.tiger_base.specs.declared.message.Msg.{Msg}
use Rattle.tiger_base.specs.declared.message.Msg.TheVariants as msg
use Rattle.tiger_base.specs.Notes.{noted}
use Rattle.slot_plan.specs.declared.params.Params.{Params}
use Rattle.node_kit.specs.Form.{is_in_form}
use Rattle.node_kit.specs.Steps.{Deed, Input}
use Rattle.node_kit.specs.Steps.Input.{Take}
use Rattle.insert_queue.specs.Queues.{Queues, is_of, without_start}
use Rattle.deschedule.specs.Holds.{is_held}
use Rattle.cub_rules.specs.declared.store.Store.{Store}
use Rattle.cub_rules.specs.State.{is_ask}
use Rattle.cub_rules.specs.Messages.{shows, taking}
use Rattle.proof_lives.specs.Lives.{store_at, deed_of}
use Rattle.lists.proofs.Elements.{from_filter}
use Rattle.proof_lives.proofs.Queuing.{stop_starts}
use Rattle.proof_lives.proofs.Trails.{within_wider, held_or_came}
use Rattle.proof_lives.proofs.Waiting.{IsQueued, queued_since}
use Rattle.proof_lives.specs.HoldsHere.{IsFormed}
use Rattle.proof_lives.proofs.Begun.{IsStop}
use Rattle.proof_lives.proofs.Holds.{no_both}
use Rattle.proof_lives.proofs.Persist.{IsOver, IsReleased, unheld_released}
use Rattle.cub_changes.proofs.Chains.{refuses_start}

-- a start of an instance that is held is discarded
pub start_taken : (p : Params) (c : ℕ) (stamp : Stamp) (link : LinkNo) (a : Ask) (redundant : Bool) (h : Store) → is_held h.held a.instance ≡ true
    → (taking p c stamp link (msg.Start redundant a) h).state.starts ≡ h.starts
start_taken p c stamp link a redundant h held =
    ap (λ (d : Deed Msg Store). d.state.starts)
    (refuses_start p c stamp link a redundant h
    (or_right (is_some h.comeback) (not (is_ask a) || is_held h.held a.instance || shows h.view.lines a.instance)
    (or_left (not (is_ask a) || is_held h.held a.instance) (shows h.view.lines a.instance) (or_right (not (is_ask a)) (is_held h.held a.instance) held))))

-- a deschedule drops the starts of its instance
pub without_none : (old : Queues) (v : Instance) (a : Ask) → a.instance.0 ≡ v.0 → IsQueued a (without_start old v) → ⊥
without_none old v a same k =
    let t : is_of v a ≡ true = eq-eqb a.instance.0 v.0 same in
    ⊎_elim
    (λ w. no_both (from_filter (λ b. not (is_of v b)) a old.waiting w).1 (ap not t))
    (λ w. no_both (from_filter (λ b. not (is_of v b)) a old.redundant w).1 (ap not t))
    k

module _ (p : Params) (c : ℕ) (inputs : ℕ → Input Msg) where
  abbrev IsListed : Ask → ℕ → Type 0
  IsListed a i = IsQueued a (store_at p c inputs i).starts

  abbrev IsFree : Ask → ℕ → Type 0
  IsFree a i = is_held (store_at p c inputs i).held a.instance ≡ false

  -- a start joins the lists when its instance is not held
  joined_now : (i : ℕ) (a : Ask) → IsListed a (suc i) → IsListed a i ⊎ IsFree a i
  joined_now i a q = ⊎_elim
      (λ k. inl k)
      (λ s.
      let h : Store = store_at p c inputs i in
      let from = s.from in
      let before = s.before in
      let at : s.at ≡ i = omega arith in
      let is : inputs i ≡ Take s.stamp s.link (msg.Start s.redundant a) = ap inputs (sym at) ∙ s.is in
      ⊎_elim
      (λ (t : is_held h.held a.instance ≡ true).
      let now = subst (λ (x : Input Msg). IsQueued a (deed_of p c x h).state.starts) is q in
      inl (subst (λ (w : Queues). IsQueued a w) (start_taken p c s.stamp s.link a s.redundant h t) now))
      (λ (t : is_held h.held a.instance ≡ false). inr t)
      (cases_Bool (is_held h.held a.instance)))
      (queued_since p c inputs (suc i) i a (omega arith) q)

  -- behind a deschedule no start of its instance stands
  pub stop_drops : (j : ℕ) (a : Ask) (s : IsStop p c inputs j a.instance.0) → is_in_form p (noted (msg.Deschedule s.instance s.tag)) ≡ true → IsQueued a (store_at p c inputs (suc j)).starts → ⊥
  stop_drops j a s form q =
      let h : Store = store_at p c inputs j in
      let now : IsQueued a (taking p c s.stamp s.link (msg.Deschedule s.instance s.tag) h).state.starts = subst (λ (x : Input Msg). IsQueued a (deed_of p c x h).state.starts) s.is q in
      without_none h.starts s.instance a (sym s.same) (subst (λ (w : Queues). IsQueued a w) (stop_starts p c s.stamp s.link s.instance s.tag h form) now)

  -- what is in the lists behind a deschedule was let in when the hold was over
  pub queued_released : (count : ℕ) → IsFormed p count inputs → (i j : ℕ) (a : Ask) → j < i → i ≤ count → IsStop p c inputs j a.instance.0 → IsQueued a (store_at p c inputs i).starts
      → IsReleased p c inputs j i a.instance.0
  queued_released count formed i j a before low s q = ⊎_elim
      (λ k. absurd (stop_drops j a s (formed j s.stamp s.link (msg.Deschedule s.instance s.tag) (omega arith) s.is) k))
      (λ k.
      let from = k.from in
      let kb = k.before in
      within_wider (IsOver p c inputs j a.instance.0) (suc j) (suc j) k.at i (omega arith) (omega arith)
      (unheld_released p c inputs count formed k.at j a.instance.0 (omega arith) (omega arith) s a.instance refl k.is))
      (held_or_came (IsListed a) (IsFree a) i (suc j) (omega arith) (λ n _ _ w. joined_now n a w) q)
