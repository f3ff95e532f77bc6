-- What a message does that passes a deschedule on: what the pass sends goes out, and all that is held of the instance is marked.
use Rattle.std.proofs.Common.{◌≡◌, ℕ, List, [], ◌++◌, append-nil, true, false, Option, Some, refl, sym, ap, subst, ◌∙◌, inl}
use Rattle.std.specs.Prelude.{◌⊎◌}
use Rattle.tiger_base.specs.declared.number.Instance.{Instance}
use Rattle.tiger_base.specs.declared.number.LinkNo.{LinkNo}
use Rattle.tiger_base.specs.declared.number.Stamp.{Stamp}
use Rattle.tiger_base.specs.declared.tenancy.State.{State}
use Rattle.tiger_base.specs.declared.tenancy.Tag.{Tag}
use Rattle.tiger_base.specs.declared.message.Msg.{Msg}
use Rattle.tiger_base.specs.declared.message.Msg.TheVariants as msg
use Rattle.tiger_base.specs.Notes.{noted}
use Rattle.slot_plan.specs.declared.params.Params.{Params}
use Rattle.slot_plan.specs.Keys.{Key}
use Rattle.node_kit.specs.declared.outbox.Out.{Out}
use Rattle.node_kit.specs.Form.{is_in_form}
use Rattle.node_kit.specs.Steps.{Deed}
use Rattle.viewer_state.specs.States.{is_visit_of}
use Rattle.deschedule.specs.declared.held.Holding.{Holding}
use Rattle.deschedule.specs.Holds.{is_held, must_pass, with_pass}
use Rattle.cub_rules.specs.declared.store.Store.{Store}
use Rattle.cub_rules.specs.Messages.{position_at, position, passing_from, passing, holding, dropping_all, taking}
use Rattle.cub_changes.specs.Causes.{PassesOn}
use Rattle.lists.specs.Elements.{In}
use Rattle.lists.proofs.Elements.{in_left}
use Rattle.proof_lives.proofs.Holds.{must_in}
use Rattle.proof_lives.proofs.Ledger.{IsNewHold, dropping_same, hold_back}
use Rattle.cub_changes.proofs.Chains.{pass_is, stop_rest, takes_state, takes_stop}
use Rattle.cub_changes.specs.Changes.{did}
use Rattle.cub_changes.specs.Changes.Change.{PassOn}
use Rattle.node_kit.specs.Deeds.{then_do}

-- what is passed on is held and was not passed on, or its hold begins with this message
pub passes_held : (p : Params) (c : ℕ) (stamp : Stamp) (m : Msg) (h : Store) (v : Instance) (k : Key) → PassesOn p c stamp m h v k
    → (x : Holding) × (In x h.held ⊎ IsNewHold p stamp m h x) × (x.instance.0 ≡ v.0) × (x.passed ≡ false)
passes_held p c stamp (msg.ViewerState s) h v k a = let x = must_in v h.held a.4 in (x.0, inl x.1, x.2, x.3)
passes_held p c stamp (msg.Deschedule w tag) h v k a =
    let x = must_in v (holding p stamp v h).state.held a.2 in
    let from = subst (λ (u : Instance). In x.0 h.held ⊎ IsNewHold p stamp (msg.Deschedule u tag) h x.0) (sym a.0) (hold_back p stamp v tag h x.0 x.1) in
    (x.0, from, x.2, x.3)
passes_held p c stamp other h v k a = absurd a

state_pass : (p : Params) (c : ℕ) (stamp : Stamp) (link : LinkNo) (s : State) (k : Key) (h : Store)
    → is_in_form p (noted (msg.ViewerState s)) ≡ true → is_visit_of s.tenancy s.visit ≡ true
    → position_at p c s.tenancy.slot s.visit ≡ Some k → is_held h.held s.tenancy.instance ≡ true → must_pass h.held s.tenancy.instance ≡ true
    → taking p c stamp link (msg.ViewerState s) h ≡ did p c stamp (PassOn s.tenancy.instance k) h
state_pass p c stamp link s k h form visit at held must =
    takes_state p c stamp link s k h form visit at ∙ rw (held, must) (pass_is p c stamp s.tenancy.instance k h)

stop_pass : (p : Params) (c : ℕ) (stamp : Stamp) (v : Instance) (tag : Option Tag) (k : Key) (h : Store)
    → position p c v tag (holding p stamp v h).state.view.lines ≡ Some k → must_pass (holding p stamp v h).state.held v ≡ true
    → passing p c stamp v tag (holding p stamp v h).state ≡ did p c stamp (PassOn v k) (holding p stamp v h).state
stop_pass p c stamp v tag k h at must =
    ap (λ (o : Option Key). passing_from p c stamp v o (holding p stamp v h).state) at
    ∙ rw must (pass_is p c stamp v k (holding p stamp v h).state)

-- a deed does what passing on does with some store, and puts out first what that puts out
pub record Passes (p : Params) (c : ℕ) (stamp : Stamp) (v : Instance) (k : Key) (d : Deed Msg Store) : Type 0 where
  pub before : Store
  pub outs : (o : Out Msg) → In o (did p c stamp (PassOn v k) before).outs → In o d.outs
  pub first : (rest : List (Out Msg)) × ((did p c stamp (PassOn v k) before).outs ++ rest ≡ d.outs)
  pub held : d.state.held ≡ with_pass before.held v

stop_passes : (p : Params) (c : ℕ) (stamp : Stamp) (v : Instance) (tag : Option Tag) (k : Key) (h : Store)
    → position p c v tag (holding p stamp v h).state.view.lines ≡ Some k → must_pass (holding p stamp v h).state.held v ≡ true
    → Passes p c stamp v k (then_do (holding p stamp v) (stop_rest p c stamp v tag) h)
stop_passes p c stamp v tag k h at must =
    let g : Store = (holding p stamp v h).state in
    let rest : Deed Msg Store = dropping_all p c v (passing p c stamp v tag g).state in
    let e = stop_pass p c stamp v tag k h at must in
    record {
      before = g;
      outs = λ o i. in_left o (passing p c stamp v tag g).outs rest.outs (subst (λ (d : Deed Msg Store). In o d.outs) (sym e) i);
      first = (rest.outs, ap (λ (d : Deed Msg Store). d.outs ++ rest.outs) (sym e));
      held = dropping_same p c stamp v (passing p c stamp v tag g).state ∙ ap (λ (d : Deed Msg Store). d.state.held) e;
    }

pub taking_passes : (p : Params) (c : ℕ) (stamp : Stamp) (link : LinkNo) (m : Msg) (h : Store) (v : Instance) (k : Key)
    → is_in_form p (noted m) ≡ true → PassesOn p c stamp m h v k → Passes p c stamp v k (taking p c stamp link m h)
taking_passes p c stamp link (msg.ViewerState s) h v k form a =
    let at : Instance → Type 0 = λ w. (is_held h.held w ≡ true) × (must_pass h.held w ≡ true) in
    let held = subst at (sym a.2) (a.3, a.4) in
    subst (λ (w : Instance). Passes p c stamp w k (taking p c stamp link (msg.ViewerState s) h)) a.2
    (subst (Passes p c stamp s.tenancy.instance k) (sym (state_pass p c stamp link s k h form a.0 a.1 held.0 held.1)) (record { before = h; outs = λ o i. i; first = ([], append-nil _); held = refl }))
taking_passes p c stamp link (msg.Deschedule w tag) h v k form a =
    subst (Passes p c stamp v k)
    (sym (takes_stop p c stamp link w tag h form ∙ ap (λ (u : Instance). then_do (holding p stamp u) (stop_rest p c stamp u tag) h) a.0))
    (stop_passes p c stamp v tag k h a.1 a.2)
taking_passes p c stamp link other h v k form a = absurd a
