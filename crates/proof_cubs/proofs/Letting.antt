-- The starts that a cub lets in: their instance is then neither held nor shown, and while a start waits no state of its
-- instance is taken and no deschedule comes.
use Rattle.std.proofs.Common.{◌≡◌, ℕ, zero, suc, ◌<◌, List, [], ◌∷◌, Bool, true, false, not, refl, sym, ap, subst, ◌∙◌, arith, ⊎_elim, inl, inr, eq-or-lt_of_le, is_some}
use Rattle.std.specs.Prelude.{◌⊎◌, ◌||◌}
use Rattle.std.proofs.lemmas.Bool.{cases_Bool, not-false}
use Rattle.tiger_base.specs.declared.number.LinkNo.{LinkNo}
use Rattle.tiger_base.specs.declared.number.Stamp.{Stamp}
use Rattle.tiger_base.specs.declared.tenancy.Ask.{Ask}
use Rattle.tiger_base.specs.declared.tenancy.Rec.{Rec}
use Rattle.tiger_base.specs.declared.tenancy.State.{State}
use Rattle.tiger_base.specs.declared.tenancy.Tenancy.{Tenancy}
use Rattle.tiger_base.specs.declared.message.Msg.{Msg}
use Rattle.tiger_base.specs.declared.message.Msg.TheVariants as msg
use Rattle.slot_plan.specs.declared.params.Params.{Params}
use Rattle.slot_plan.specs.Keys.{Key}
use Rattle.node_kit.specs.Steps.{Deed, Input}
use Rattle.node_kit.specs.Steps.Input.{Take, Tick}
use Rattle.insert_queue.specs.Queues.{Queues, without_start}
use Rattle.deschedule.specs.Holds.{is_held}
use Rattle.node_kit.specs.Deeds.{each_in_turn}
use Rattle.cub_rules.specs.declared.store.Store.{Store}
use Rattle.cub_rules.specs.State.{is_ask}
use Rattle.cub_rules.specs.Records.{took, dropping_start}
use Rattle.cub_rules.specs.Messages.{records_told, told, shows, taking, is_discarded}
use Rattle.proof_cubs.specs.Grounds.{IsLetIn}
use Rattle.proof_lives.specs.Lives.{store_at, deed_of}
use Rattle.run_facts.specs.Events.{is_tick_input}
use Rattle.lists.specs.Elements.{In}
use Rattle.proof_lives.proofs.Moves.{taken_out}
use Rattle.proof_lives.proofs.Queuing.{took_steady}
use Rattle.proof_lives.proofs.Taking.{taking_hears}
use Rattle.proof_lives.proofs.Telling.{taking_told, took_told}
use Rattle.proof_lives.proofs.Waiting.{IsQueued, queued_since}
use Rattle.cub_rules.specs.Comebacks.{records_let_in}
use Rattle.cub_changes.proofs.Chains.{start_dropped, refuses_start}
use Rattle.insert_queue.proofs.Once.{none_of}

-- A start that is discarded leaves the lists as they are.
start_refused : (p : Params) (c : ℕ) (stamp : Stamp) (link : LinkNo) (a : Ask) (redundant : Bool) (h : Store)
    → is_discarded a h ≡ true → (taking p c stamp link (msg.Start redundant a) h).state.starts ≡ h.starts
start_refused p c stamp link a redundant h e = ap (λ (d : Deed Msg Store). d.state.starts) (refuses_start p c stamp link a redundant h e)

-- ---- a state of which a record is taken drops the starts of its instance
took_each : (rs : List Rec) (h : Store) → (each_in_turn took rs h).state.starts ≡ h.starts
took_each [] h = refl
took_each (r ∷ rs) h = took_each rs (took r h).state ∙ (took_steady r h).0

told_drops : (p : Params) (c : ℕ) (s : State) (k : Key) (h : Store) → (told p c s k h).state.starts ≡ without_start h.starts s.tenancy.instance
told_drops p c s k h =
    took_each (records_let_in p h.comeback (records_told s k)) (dropping_start s.tenancy.instance h).state
    ∙ ap (λ (d : Deed Msg Store). d.state.starts) (start_dropped s.tenancy.instance h)

-- A message of which a record is taken is such a state.
pub took_drops : (p : Params) (c : ℕ) (k : Input Msg) (r : Rec) (h : Store) → is_tick_input k ≡ false
    → In (taken_out r) (deed_of p c k h).outs
    → (deed_of p c k h).state.starts ≡ without_start h.starts r.tenancy.instance
took_drops p c (Take stamp link m) r h e i =
    let s = (taking_hears p c stamp link m h).only_states r i in
    let j = subst (λ (n : Msg). In (taken_out r) (taking p c stamp link n h).outs) s.1 i in
    let same : r.tenancy ≡ s.0.tenancy = (taking_told p c stamp link s.0 r h j).tenancy in
    let k = took_told p c stamp link s.0 r h j in
    subst (λ (n : Msg). (taking p c stamp link n h).state.starts ≡ without_start h.starts r.tenancy.instance) (sym s.1)
    (ap (λ (d : Deed Msg Store). d.state.starts) k.1 ∙ (told_drops p c s.0 k.0 h ∙ ap (λ (t : Tenancy). without_start h.starts t.instance) (sym same)))
took_drops p c (Tick stamp) r h e i = absurd (cc)

module _ (p : Params) (c : ℕ) (inputs : ℕ → Input Msg) where
  -- A start that stands in the lists after an input stood there before it, or was let in by it.
  let_now : (i : ℕ) (a : Ask) → IsQueued a (store_at p c inputs (suc i)).starts
      → IsQueued a (store_at p c inputs i).starts ⊎ IsLetIn p c inputs a (suc i)
  let_now i a q = ⊎_elim
      (λ k. inl k)
      (λ s.
      let from = s.from in
      let before = s.before in
      let at : s.at ≡ i = omega arith in
      let h : Store = store_at p c inputs i in
      let is : inputs i ≡ Take s.stamp s.link (msg.Start s.redundant a) = ap inputs (sym at) ∙ s.is in
      ⊎_elim
      (λ (t : is_discarded a h ≡ true).
      let now = subst (λ (x : Input Msg). IsQueued a (deed_of p c x h).state.starts) is q in
      inl (subst (λ (w : Queues). IsQueued a w) (start_refused p c s.stamp s.link a s.redundant h t) now))
      (λ (t : is_discarded a h ≡ false).
      let may = none_of (is_some h.comeback) (not (is_ask a) || is_held h.held a.instance || shows h.view.lines a.instance) t in
      let one = none_of (not (is_ask a) || is_held h.held a.instance) (shows h.view.lines a.instance) may.1 in
      let two = none_of (not (is_ask a)) (is_held h.held a.instance) one.0 in
      inr (record {
        at = i;
        before = omega arith;
        stamp = s.stamp;
        link = s.link;
        redundant = s.redundant;
        is = is;
        counted = not-false (is_ask a) two.0;
        free = two.1;
        unshown = one.1;
        waits = λ k l m.
            let e : suc i ≡ k = omega arith in subst (λ n. IsQueued a (store_at p c inputs n).starts) e q;
      }))
      (cases_Bool (is_discarded a h)))
      (queued_since p c inputs (suc i) i a (omega arith) q)

  -- Each start in the lists was let in, and has waited since.
  pub let_in : (i : ℕ) (a : Ask) → IsQueued a (store_at p c inputs i).starts → IsLetIn p c inputs a i
  let_in zero a q = ⊎_elim (λ v. absurd v) (λ v. absurd v) q
  let_in (suc i) a q = ⊎_elim
      (λ w.
      let s = let_in i a w in
      let before = s.before in
      record {
        at = s.at;
        before = omega arith;
        stamp = s.stamp;
        link = s.link;
        redundant = s.redundant;
        is = s.is;
        counted = s.counted;
        free = s.free;
        unshown = s.unshown;
        waits = λ k l m. ⊎_elim
            (λ (e : k ≡ suc i). subst (λ n. IsQueued a (store_at p c inputs n).starts) (sym e) q)
            (λ (b : k < suc i). s.waits k l (omega arith))
            (eq-or-lt_of_le m);
      })
      (λ w. w)
      (let_now i a q)
