-- A controller among other nodes, in a type of its own for all of them, follows its orders too.
use Rattle.std.proofs.Common.{◌≡◌, ℕ, zero, suc, ◌++◌, List, [], ◌∷◌, Bool, true, cond, refl, sym, ap, subst, ◌∙◌}
use Rattle.tiger_base.specs.declared.number.Stamp.{Stamp}
use Rattle.tiger_base.specs.declared.message.Msg.{Msg}
use Rattle.tiger_base.specs.Notes.{noted}
use Rattle.slot_plan.specs.declared.params.Params.{Params}
use Rattle.slot_plan.specs.Conditions.{IsPlan}
use Rattle.node_kit.specs.declared.course.Order.{Order}
use Rattle.node_kit.specs.declared.journal.What.TheVariants as what
use Rattle.node_kit.specs.declared.journal.Entry.{Entry}
use Rattle.node_kit.specs.declared.outbox.Out.{Out}
use Rattle.node_kit.specs.Life.{Lifetime, spent}
use Rattle.node_kit.specs.Outputs.{with_death, cut_at}
use Rattle.node_kit.specs.Steps.{Deed, Input, stamp_of, entries_of}
use Rattle.node_kit.specs.Deeds.{wrapped}
use Rattle.run_facts.specs.Events.{NodeEvent, Past, after, after_input, after_cut, kept_outs, left_outs, is_tick}
use Rattle.run_facts.specs.Events.NodeEvent.{Does, Ends, Dies, Returns}
use Rattle.run_facts.specs.Histories.{History, past, last_of, count_of}
use Rattle.run_facts.specs.Commanded.{IsCommanded}
use Rattle.controller_core.specs.Orders.{AreOrders}
use Rattle.controller_core.specs.State.{ControllerState, fresh_controller}
use Rattle.controller_core.specs.Rules.{controller_step}
use Rattle.proof_controller.specs.Follows.{IsControllersRun}
use Rattle.proof_controller.proofs.Follows.{controllers_follow}

-- the same events of controllers that all begin in one state
abbrev unwrapped : {S : Type 0} → ControllerState → History Msg S → History Msg ControllerState
unwrapped first h =
    record { first = λ n. first; life = h.life; count = h.count; event = h.event; before = h.before }

same_count : {S : Type 0} (test : NodeEvent Msg → Bool) (s : ControllerState) (h : History Msg S) (n i : ℕ)
    → count_of test (unwrapped s h) n i ≡ count_of test h n i
same_count test s h n zero = refl
same_count test s h n (suc i) = ap (λ c. cond (test (h.event n i)) (suc c) c) (same_count test s h n i)

same_run : {S : Type 0} (beats : ℕ) (reading : ℕ → ℕ) (s : ControllerState) (h : History Msg S) (n : ℕ)
    → IsControllersRun beats reading h n → IsControllersRun beats reading (unwrapped s h) n
same_run beats reading s h n run = record {
  lives = run.lives;
  in_beat = λ i inside. run.in_beat i inside ∙ sym (same_count is_tick s h n i);
  all_beats = same_count is_tick s h n (h.count n) ∙ run.all_beats;
  reads = run.reads;
}

-- a node that is a controller, and the controller
record IsWrapped {S : Type 0} (wrap : ControllerState → S) (outer : Past S) (inner : Past ControllerState) : Type 0 where
  state : outer.state ≡ wrap inner.state
  life : outer.life ≡ inner.life
  journal : outer.journal ≡ inner.journal

abbrev died : Stamp → Entry
died stamp = record { stamp = stamp; what = what.Died }

after_wrapped : {S : Type 0} (step : S → Input Msg → Deed Msg S) (wrap : ControllerState → S)
    → ((s : ControllerState) (i : Input Msg) → step (wrap s) i ≡ wrapped wrap (controller_step s i))
    → (e : NodeEvent Msg) (outer : Past S) (inner : Past ControllerState) → IsWrapped wrap outer inner
    → IsWrapped wrap (after noted step e outer) (after noted controller_step e inner)
unfolding after_input after_cut kept_outs left_outs
after_wrapped {S} step wrap same (Does i) outer inner w =
    let d : step outer.state i ≡ wrapped wrap (controller_step inner.state i) = ap (λ s. step s i) w.state ∙ same inner.state i in
    let o = ap (λ (x : Deed Msg S). x.outs) d in
    record {
      state = ap (λ (x : Deed Msg S). x.state) d;
      life =
          ap (λ (l : Lifetime). spent l (stamp_of i) (step outer.state i).outs) w.life
          ∙ ap (λ (outs : List (Out Msg)). spent inner.life (stamp_of i) outs) o;
      journal =
          ap (λ (j : List Entry). j ++ entries_of noted i (step outer.state i).outs) w.journal
          ∙ ap (λ (outs : List (Out Msg)). inner.journal ++ entries_of noted i outs) o;
    }
after_wrapped {S} step wrap same (Ends i sends) outer inner w =
    let d : step outer.state i ≡ wrapped wrap (controller_step inner.state i) = ap (λ s. step s i) w.state ∙ same inner.state i in
    let o = ap (λ (x : Deed Msg S). x.outs) d in
    record {
      state = ap (λ (x : Deed Msg S). x.state) d;
      life = ap (λ (l : Lifetime). record l { over = true }) w.life;
      journal =
          ap (λ (j : List Entry). j ++ entries_of noted i (with_death (cut_at sends (step outer.state i).outs)))
          w.journal
          ∙ ap (λ (outs : List (Out Msg)). inner.journal ++ entries_of noted i (with_death (cut_at sends outs))) o;
    }
after_wrapped step wrap same (Dies stamp) outer inner w = record {
  state = w.state;
  life = w.life;
  journal = ap (λ j. j ++ died stamp ∷ []) w.journal;
}
after_wrapped step wrap same (Returns stamp) outer inner w = w

past_wrapped : {S : Type 0} (step : S → Input Msg → Deed Msg S) (wrap : ControllerState → S)
    → ((s : ControllerState) (i : Input Msg) → step (wrap s) i ≡ wrapped wrap (controller_step s i))
    → (first : ControllerState) (h : History Msg S) (n : ℕ) → h.first n ≡ wrap first → (i : ℕ)
    → IsWrapped wrap (past noted step h n i) (past noted controller_step (unwrapped first h) n i)
past_wrapped step wrap same first h n opens zero = record { state = opens; life = refl; journal = refl }
past_wrapped step wrap same first h n opens (suc i) =
    after_wrapped step wrap same (h.event n i) (past noted step h n i) (past noted controller_step (unwrapped first h) n i)
    (past_wrapped step wrap same first h n opens i)

-- where the steps of a node are those of a controller in its place, its journal follows the orders
pub wrapped_follow : {S : Type 0} (step : S → Input Msg → Deed Msg S) (wrap : ControllerState → S)
    → ((s : ControllerState) (i : Input Msg) → step (wrap s) i ≡ wrapped wrap (controller_step s i))
    → (p : Params) (os : List Order) (beats : ℕ) (reading : ℕ → ℕ) (h : History Msg S) (n : ℕ) → IsPlan p → AreOrders p os
    → h.first n ≡ wrap (fresh_controller p os) → IsControllersRun beats reading h n
    → IsCommanded p beats reading os (last_of noted step h n).journal
wrapped_follow step wrap same p os beats reading h n plan are opens run =
    let first = fresh_controller p os in
    subst (λ j. IsCommanded p beats reading os j) (sym (past_wrapped step wrap same first h n opens (h.count n)).journal)
    (controllers_follow p os beats reading (unwrapped first h) n plan are refl (same_run beats reading first h n run))
