-- In a ring's history the controller follows its orders, and no other node writes that an instance was stopped, whatever cubs
-- add.
use Rattle.std.proofs.Common.{◌≡◌, ℕ, ◌<◌, List, [], ◌∷◌, false, refl, sym, subst, ◌∙◌, arith, ⊎_elim, inl, inr}
use Rattle.tiger_base.specs.declared.number.Instance.{Instance}
use Rattle.tiger_base.specs.declared.message.Msg.{Msg}
use Rattle.tiger_base.specs.Notes.{noted}
use Rattle.slot_plan.specs.declared.params.Params.{Params}
use Rattle.slot_plan.specs.Conditions.{IsPlan}
use Rattle.node_kit.specs.declared.course.Order.{Order}
use Rattle.node_kit.specs.declared.journal.Entry.{Entry}
use Rattle.node_kit.specs.Deeds.{wrapped}
use Rattle.node_kit.specs.Steps.{Deed, Input}
use Rattle.node_kit.specs.declared.outbox.Out.TheVariants as out
use Rattle.node_kit.specs.declared.journal.What.{What}
use Rattle.node_kit.specs.declared.journal.What.TheVariants as what
use Rattle.run_facts.specs.Commanded.{is_gone, StopsNone, IsCommanded, AreCommanded}
use Rattle.run_facts.specs.Events.{is_return}
use Rattle.run_facts.specs.Histories.{History, last_of}
use Rattle.run_facts.proofs.Recording.{open-ticked}
use Rattle.run_facts.proofs.Rows.{same-element}
use Rattle.disk_core.specs.State.{DiskState}
use Rattle.controller_core.specs.Rules.{controller_step}
use Rattle.controller_core.specs.State.{ControllerState, fresh_controller}
use Rattle.proof_controller.specs.Follows.{IsControllersRun}
use Rattle.proof_controller.proofs.Wrapped.{wrapped_follow}
use Rattle.ring_nodes.specs.declared.nodes.AnyNode.{AnyNode}
use Rattle.ring_nodes.specs.declared.nodes.AnyNode.TheVariants as node
use Rattle.ring_nodes.specs.AllNodes.{any_step}
use Rattle.proof_controller.specs.Controllers.{controller}
use Rattle.lists.specs.Elements.{In}
use Rattle.proof_lives.specs.Lives.{Lives}
use Rattle.proof_lives.specs.TwoLifeRun.{life_in}
use Rattle.proof_lives.specs.TwoLifeRun.WhichLife.{First}
use Rattle.proof_lives.proofs.Cuts.{was_put_out}
use Rattle.proof_moments.specs.Ties.{StandsIn}
use Rattle.proof_facts.specs.Beside.{Additions, nothing_added}
use Rattle.proof_facts.specs.Rings.{IsRingWith, node_count}
use Rattle.proof_journals.specs.Journals.{AreJournalsOf}
use Rattle.proof_journals.proofs.Events.{AreKept, did_in_life, own_entry, who_acts}
use Rattle.proof_journals.proofs.Outputs.{tells_no_stop}
use Rattle.proof_ring.specs.Rings.{IsRing}
use Rattle.proof_links.proofs.Nodes.{immortal, one_life, stays}
use Rattle.proof_ring.proofs.CubLives.{rings_are_histories}
use Rattle.proof_ring.specs.Accounts.{IsControllersClock}

-- An entry that tells of no stop does not pass the test for one.
no_stop : (w : What) → ((v : Instance) → w ≡ what.Gone v → ⊥) → is_gone w ≡ false
no_stop (what.Gone v) none = absurd (none v refl)
no_stop other none = refl

stops_none : (journal : List Entry) → ((e : Entry) → In e journal → is_gone e.what ≡ false) → StopsNone journal
stops_none [] none = refl
stops_none (e ∷ es) none = rw (none e (inl refl)) (stops_none es (λ x there. none x (inr there)))

module _ {S : Type 0} (step : S → Input Msg → Deed Msg S) (p : Params) (orders : List Order) (disk_at : ℕ → DiskState) (added : Additions)
    (h : History Msg S) (journals : List (List Entry)) (plan : IsPlan p) (ring : IsRingWith step p orders disk_at added h)
    (are : AreJournalsOf step p h journals) where
  all_kept : AreKept step p orders disk_at added h journals
  all_kept = record { plan = plan; ring = ring; are = are }

  controller_inside : controller p < node_count p
  controller_inside = omega arith

  -- Only the controller writes that an instance was stopped.
  stop_is_controllers : (n : ℕ) (e : Entry) (v : Instance) → StandsIn journals n e → e.what ≡ what.Gone v → n ≡ controller p
  stop_is_controllers n e v stands is =
      let d = own_entry all_kept n e (what.Gone v) stands tt is in
      ⊎_elim
      (λ small.
      let k = did_in_life all_kept n d.at (out.Act (what.Gone v)) small d.done tt d.did in
      let ls : Lives = life_in h k.which in
      absurd (tells_no_stop p n (ls.input n) k.input v (was_put_out p ls n k.input (out.Act (what.Gone v)) k.did)))
      (λ other. other.0)
      (who_acts all_kept n d.at (what.Gone v) d.known d.done d.did)

  -- The controller never returns.
  never_back : (i : ℕ) → i < h.count (controller p) → is_return (h.event (controller p) i) ≡ false
  never_back i low =
      let one = one_life plan ring (controller p) controller_inside (immortal plan ring (controller p) controller_inside (omega arith)) in
      stays plan ring First (controller p) i controller_inside (omega arith) (omega arith)

  -- Its node may be one of a type for all nodes.
  module _ (wrap : ControllerState → S)
      (same : (s : ControllerState) (i : Input Msg) → step (wrap s) i ≡ wrapped wrap (controller_step s i))
      (opens : h.first (controller p) ≡ wrap (fresh_controller p orders))
      (commands : ℕ) (clock : ℕ → ℕ) (shown : IsControllersClock p h commands clock) where
    controls : IsControllersRun commands clock h (controller p)
    controls = record {
      lives = λ i low. ring.deaths.mortal (controller p) i controller_inside (omega arith) low;
      in_beat = λ i low.
          ring.run.in_beat (controller p) i controller_inside low (never_back i low)
          ∙ open-ticked h (controller p) i (λ j less. never_back j (omega arith));
      all_beats = shown.beats;
      reads = shown.shows;
    }

    follows : IsCommanded p commands clock orders (last_of noted step h (controller p)).journal
    follows = wrapped_follow step wrap same p orders commands clock h (controller p) plan ring.counted.given opens controls

    pub commanded_with : AreCommanded p commands clock orders journals
    commanded_with = record {
      controller = λ journal at.
          subst (λ (j : List Entry). IsCommanded p commands clock orders j)
          (sym (same-element journals (controller p) journal _ at (are.writes (controller p) controller_inside))) follows;
      others = λ n journal other at. stops_none journal
          (λ e there. no_stop e.what (λ v is. other (stop_is_controllers n e v (record { journal = journal; at = at; there = there }) is)));
    }

-- ---- where nothing is added

module _ (G : Type 0) (p : Params) (orders : List Order) (disk_at : ℕ → DiskState) (h : History Msg (AnyNode G)) (journals : List (List Entry))
    (plan : IsPlan p) (ring : IsRing p orders disk_at h) (are : AreJournalsOf any_step p h journals) where
  pub kept : AreKept any_step p orders disk_at nothing_added h journals
  kept = record { plan = plan; ring = rings_are_histories G p orders disk_at h plan ring; are = are }

  pub commanded : (commands : ℕ) (clock : ℕ → ℕ) → IsControllersClock p h commands clock → AreCommanded p commands clock orders journals
  commanded commands clock shown =
      commanded_with (any_step {G = G}) p orders disk_at nothing_added h journals plan (rings_are_histories G p orders disk_at h plan ring) are
      (λ s. node.Controller s) (λ s i. refl) ring.opens.commands commands clock shown
