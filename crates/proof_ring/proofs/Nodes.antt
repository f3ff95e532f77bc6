-- What nodes of a ring put out in events that each have an input: what the rules of their kind say.
use Rattle.std.proofs.Common.{◌≡◌, ℕ, zero, suc, ◌<◌, ◌≤◌, List, [], true, Option, None, refl, sym, ap, ◌∙◌, arith}
use Rattle.std.specs.Prelude.{◌++◌}
use Rattle.tiger_base.specs.declared.number.Stamp.{Stamp}
use Rattle.tiger_base.specs.declared.message.Msg.{Msg}
use Rattle.tiger_base.specs.declared.message.Msg.TheVariants as msg
use Rattle.tiger_base.specs.Notes.{noted}
use Rattle.slot_plan.specs.declared.params.Params.{Params}
use Rattle.node_kit.specs.declared.course.Order.{Order}
use Rattle.node_kit.specs.Form.{is_in_form}
use Rattle.node_kit.specs.Steps.{Deed, Input}
use Rattle.node_kit.specs.Steps.Input.{Take, Tick}
use Rattle.node_kit.specs.Deeds.{nothing}
use Rattle.run_facts.specs.Histories.{History, past, outs}
use Rattle.node_kit.specs.declared.outbox.Out.{Out}
use Rattle.disk_core.specs.State.{DiskState}
use Rattle.disk_core.specs.Rules.{asked, answers, disk_step}
use Rattle.controller_core.specs.declared.known.Known.{Known}
use Rattle.controller_core.specs.State.{ControllerState}
use Rattle.cub_rules.specs.declared.store.Store.{Store}
use Rattle.viewer_core.specs.Parts.{KeptParts}
use Rattle.viewer_core.specs.Rules.{viewers_step}
use Rattle.ring_nodes.specs.declared.nodes.AnyNode.{AnyNode}
use Rattle.ring_nodes.specs.declared.nodes.AnyNode.TheVariants as node
use Rattle.ring_nodes.specs.AllNodes.{any_step, opening_controller}
use Rattle.proof_lives.specs.Lives.{cut_outs, store_at, outs_at}
use Rattle.proof_lives.specs.Histories.{input_of, has_input, cut_of_event}
use Rattle.lists.proofs.Elements.{chosen}
use Rattle.proof_lives.proofs.Wrapped.{ActsBack, GoesOn, cub_with, cub_state, cub_outs, after_state, event_outs, last_behind, last_from}
use Rattle.proof_controller.specs.Controllers.{command, known_at, commands_at}
use Rattle.proof_facts.specs.Rings.{return_outs}

-- A disk never changes.
pub answers_stays : (stamp : Stamp) (m : Msg) (d : DiskState) → (answers stamp m d).state ≡ d
answers_stays stamp (msg.ReadAsk want) d = refl
answers_stays stamp other d = refl

pub disk_stays : (d : DiskState) (k : Input Msg) → (disk_step d k).state ≡ d
unfolding asked
disk_stays d (Tick stamp) = refl
disk_stays d (Take stamp link m) =
    chosen (λ (x : Deed Msg DiskState). x.state ≡ d) (is_in_form d.params (noted m)) (answers stamp m d) (nothing d)
    (λ _. answers_stays stamp m d) (λ _. refl)

-- The viewers put nothing out.
pub viewers_silent : (v : KeptParts) (k : Input Msg) → (viewers_step v k).outs ≡ []
viewers_silent v (Take stamp link m) = refl
viewers_silent v (Tick stamp) = refl

-- A controller with its orders, by what it knows.
abbrev pub with_known : Params → List Order → Known → ControllerState
with_known p orders known = record { params = p; orders = orders; known = known }

pub controller_state : {G : Type 0} (p : Params) (orders : List Order) (known : Known) (k : Input Msg)
    → (any_step {G = G} (node.Controller (with_known p orders known)) k).state ≡ node.Controller (with_known p orders (command p orders k known).state)
controller_state p orders known (Take stamp link m) = refl
controller_state p orders known (Tick stamp) = refl

pub controller_outs : (G : Type 0) (p : Params) (orders : List Order) (known : Known) (k : Input Msg)
    → (any_step {G = G} (node.Controller (with_known p orders known)) k).outs ≡ (command p orders k known).outs
controller_outs G p orders known (Take stamp link m) = refl
controller_outs G p orders known (Tick stamp) = refl

-- So many events of node n that stand one behind another, each of which has an input: their numbers are `at`.
module _ {G : Type 0} (h : History Msg (AnyNode G)) (n : ℕ) (at : ℕ → ℕ) (in_row : (i : ℕ) → at (suc i) ≡ suc (at i)) (top : ℕ)
    (acts : (i : ℕ) → i < top → has_input (h.event n (at i)) ≡ true) where
  abbrev pub inputs : ℕ → Input Msg
  inputs i = input_of (h.event n (at i))

  abbrev pub state : ℕ → AnyNode G
  state i = (past noted any_step h n (at i)).state

  pub next_state : (i : ℕ) → i < top → state (suc i) ≡ (any_step (state i) (inputs i)).state
  next_state i low =
      ap (λ (k : ℕ). (past noted any_step h n k).state) (in_row i)
      ∙ after_state any_step (h.event n (at i)) (past noted any_step h n (at i)) (acts i low)

  pub outs_are : (i : ℕ) → i < top → outs noted any_step h n (at i) ≡ cut_outs (cut_of_event (h.event n (at i))) (any_step (state i) (inputs i)).outs
  outs_are i low = event_outs any_step (h.event n (at i)) (past noted any_step h n (at i)) (acts i low)

  -- ---- a cub

  -- Before each event it is known in which beat it ticked last.
  module _ (p : Params) (last : ℕ → Option ℕ) (counts : (i : ℕ) → last (suc i) ≡ last_behind (inputs i) (last i)) where
    abbrev pub IsCubAt : ℕ → Type 0
    IsCubAt i = state i ≡ node.Cub (cub_with p n (store_at p n inputs i) (last i))

    -- It stays what its rules make of it as long as it does not come back.
    pub cub_goes : (i : ℕ) → i < top → GoesOn (last i) (inputs i) → IsCubAt i → IsCubAt (suc i)
    cub_goes i low on is =
        next_state i low
        ∙ ap (λ (s : AnyNode G). (any_step s (inputs i)).state) is
        ∙ ap (λ s. node.Cub s)
        (cub_state p n (store_at p n inputs i) (last i) (inputs i) on
        ∙ ap (cub_with p n (store_at p n inputs (suc i))) (sym (counts i)))

    pub cub_puts : (i : ℕ) → i < top → GoesOn (last i) (inputs i) → IsCubAt i
        → outs noted any_step h n (at i) ≡ cut_outs (cut_of_event (h.event n (at i))) (outs_at p n inputs i)
    cub_puts i low on is =
        outs_are i low
        ∙ ap (λ (os : List (Out Msg)). cut_outs (cut_of_event (h.event n (at i))) os)
        (ap (λ (s : AnyNode G). (any_step s (inputs i)).outs) is
        ∙ cub_outs p n (store_at p n inputs i) (last i) (inputs i) on)

  -- One that comes back begins anew, whatever it kept, and tells of that first.
  module _ (p : Params) (kept : Store) (before : Option ℕ) (was : state 0 ≡ node.Cub (cub_with p n kept before))
      (acts_then : ActsBack p n top inputs kept before) (low : 0 < top) where
    pub cub_begins : state 1 ≡ node.Cub (cub_with p n (store_at p n inputs 1) (last_from before inputs 1))
    cub_begins =
        next_state 0 low
        ∙ ap (λ (s : AnyNode G). (any_step s (inputs 0)).state) was
        ∙ ap (λ s. node.Cub s) acts_then.state

    pub cub_tells : cut_of_event (h.event n (at 0)) ≡ None
        → outs noted any_step h n (at 0) ≡ return_outs p n inputs 0 ++ outs_at p n inputs 0
    cub_tells whole =
        outs_are 0 low
        ∙ ap (λ (o : Option ℕ). cut_outs o (any_step (state 0) (inputs 0)).outs) whole
        ∙ ap (λ (s : AnyNode G). (any_step s (inputs 0)).outs) was
        ∙ acts_then.outs

  -- ---- a node that does not die in these events

  module _ (whole : (i : ℕ) → i < top → cut_of_event (h.event n (at i)) ≡ None) where
    pub all_out : (i : ℕ) → i < top → outs noted any_step h n (at i) ≡ (any_step (state i) (inputs i)).outs
    all_out i low = outs_are i low ∙ ap (λ (o : Option ℕ). cut_outs o (any_step (state i) (inputs i)).outs) (whole i low)

    pub disk_is : (d : DiskState) → state 0 ≡ node.Disk d → (i : ℕ) → i ≤ top → state i ≡ node.Disk d
    disk_is d first zero low = first
    disk_is d first (suc i) low =
        next_state i (omega arith)
        ∙ ap (λ (s : AnyNode G). (any_step s (inputs i)).state) (disk_is d first i (omega arith))
        ∙ ap (λ s. node.Disk s) (disk_stays d (inputs i))

    pub disk_puts_out : (d : DiskState) → state 0 ≡ node.Disk d → (i : ℕ) → i < top
        → outs noted any_step h n (at i) ≡ (disk_step d (inputs i)).outs
    disk_puts_out d first i low = all_out i low ∙ ap (λ (s : AnyNode G). (any_step s (inputs i)).outs) (disk_is d first i (omega arith))

    pub controller_knows : (p : Params) (orders : List Order) → state 0 ≡ opening_controller p orders → (i : ℕ) → i ≤ top
        → state i ≡ node.Controller (with_known p orders (known_at p orders inputs i))
    controller_knows p orders first zero low = first
    controller_knows p orders first (suc i) low =
        next_state i (omega arith)
        ∙ ap (λ (s : AnyNode G). (any_step s (inputs i)).state) (controller_knows p orders first i (omega arith))
        ∙ controller_state p orders (known_at p orders inputs i) (inputs i)

    pub controller_puts_out : (p : Params) (orders : List Order) → state 0 ≡ opening_controller p orders → (i : ℕ) → i < top
        → outs noted any_step h n (at i) ≡ commands_at p orders inputs i
    controller_puts_out p orders first i low =
        all_out i low
        ∙ ap (λ (s : AnyNode G). (any_step s (inputs i)).outs) (controller_knows p orders first i (omega arith))
        ∙ controller_outs G p orders (known_at p orders inputs i) (inputs i)

    pub viewers_are : state 0 ≡ node.Viewers [] → (i : ℕ) → i ≤ top → (v : KeptParts) × (state i ≡ node.Viewers v)
    viewers_are first zero low = ([], first)
    viewers_are first (suc i) low =
        let v = viewers_are first i (omega arith) in
        ((viewers_step v.0 (inputs i)).state, next_state i (omega arith) ∙ ap (λ (s : AnyNode G). (any_step s (inputs i)).state) v.1)

    pub viewers_put_out : state 0 ≡ node.Viewers [] → (i : ℕ) → i < top → outs noted any_step h n (at i) ≡ []
    viewers_put_out first i low =
        let v = viewers_are first i (omega arith) in
        all_out i low ∙ ap (λ (s : AnyNode G). (any_step s (inputs i)).outs) v.1 ∙ viewers_silent v.0 (inputs i)
