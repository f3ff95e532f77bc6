-- A list of events that a machine of a ring's opening nodes accepts is a history of a ring.
use Rattle.std.proofs.Common.{◌≡◌, ℕ, ◌+◌, ◌<◌, List, [], length, true, false, Some, None, refl, sym, ap, subst, ◌∙◌, arith, ⊎_elim, inr}
use Rattle.std.specs.Prelude.{slice_get}
use Rattle.std.specs.List.{AllByRecursion}
use Rattle.std.proofs.lemmas.Bool.{cases_Bool}
use Rattle.std.proofs.lemmas.List.{length-map}
use Rattle.tiger_base.specs.declared.message.Msg.{Msg}
use Rattle.tiger_base.specs.Notes.{noted}
use Rattle.slot_plan.specs.declared.params.Params.{Params}
use Rattle.slot_plan.specs.Times.{cub_of}
use Rattle.node_kit.specs.declared.course.Order.{Order}
use Rattle.node_kit.specs.Steps.Input.{Take, Tick}
use Rattle.run_facts.specs.Events.{NodeEvent, is_death}
use Rattle.run_facts.specs.Events.NodeEvent.{Does, Ends, Dies, Returns}
use Rattle.run_facts.specs.Histories.{History, IsRun}
use Rattle.disk_core.specs.State.{DiskState}
use Rattle.ring_nodes.specs.declared.nodes.AnyNode.{AnyNode}
use Rattle.ring_nodes.specs.declared.nodes.AnyNode.TheVariants as node
use Rattle.ring_nodes.specs.AllNodes.{any_step, StandsAny, opening_cub, opening_controller}
use Rattle.proof_ring.proofs.Opened.{get_some}
use Rattle.proof_lives.proofs.Carrying.{same_ends}
use Rattle.proof_controller.specs.Controllers.{controller}
use Rattle.proof_facts.specs.Rings.{node_count, node_of_disk, viewers, DieAlone, IsUpTo}
use Rattle.proof_journals.specs.Journals.{AreJournalsOf}
use Rattle.proof_ring.specs.Rings.{OpensAs, IsRing}
use Rattle.ring_world.specs.declared.event.Event.{Event}
use Rattle.ring_world.specs.Machine.{Machine, Being, journals_of, opening_machine}
use Rattle.ring_world.specs.Faults.{Accepts, IsEventOf}
use Rattle.ring_world.specs.Laws.{HasCome, HasDiedIn, IsPlace}
use Rattle.ring_world.proofs.Places.{plans-places}
use Rattle.ring_world.proofs.Runs.{accepted-runs}
use Rattle.proof_worlds.specs.Accepted.{opening_ring, IsAccepted, AcceptedListsAreRings}
use Rattle.proof_worlds.proofs.Events.{MayDie, accepted_events, dies_as}
use Rattle.proof_worlds.proofs.Lawful.{nodes_are_lawful}
use Rattle.proof_worlds.proofs.Openings as openings

module _ (G : Type 0) (p : Params) (orders : List Order) (disk_at : ℕ → DiskState) (beats : ℕ)
    (events : List Event) (m : Machine Msg (AnyNode G)) (k : IsAccepted p orders disk_at beats events m) where
  abbrev pub given : List (AnyNode G)
  given = opening_ring p orders disk_at

  pub size : length given ≡ node_count p
  size = openings.size G p orders disk_at

  -- A number of a node of the ring is one of a node given.
  pub within : (n : ℕ) → n < node_count p → n < length given
  within n low = subst (λ k. n < k) (sym size) low

  pub come : HasCome noted any_step p given events m
  come =
      let whole : viewers p + 1 ≡ length given = omega (arith, size) in
      accepted-runs noted any_step StandsAny p beats given events m (nodes_are_lawful G p)
      (subst (λ n. IsPlace p n beats) whole (plans-places p beats k.plan k.few))
      (openings.all_stand G p orders disk_at k.plan k.disks)
      (subst (λ n. Accepts noted any_step p n beats (opening_machine p given) events m) (sym size) k.accepts)

  abbrev pub h : History Msg (AnyNode G)
  h = come.history

  -- Each event that is accepted may be asked of the ring.
  pub asked : AllByRecursion (IsEventOf p (length given) beats) events
  asked = subst (λ n. AllByRecursion (IsEventOf p n beats) events) (sym size)
      (accepted_events noted any_step p (node_count p) beats (opening_machine p given) events m k.accepts)

  -- What the machine keeps of a node.
  pub being_of : (n : ℕ) → n < node_count p → (b : Being (AnyNode G)) × (slice_get m.beings n ≡ Some b)
  being_of n low = get_some m.beings n (subst (λ k. n < k) (sym (come.each_has_being ∙ size)) low)

  -- Who died in the history is known to have died.
  pub dead_if : (n i : ℕ) (b : Being (AnyNode G)) → n < node_count p → slice_get m.beings n ≡ Some b → i < h.count n
      → is_death (h.event n i) ≡ true → b.died ≡ None → ⊥
  dead_if n i b inside at low died never =
      let alive = subst (HasDiedIn h n) never (come.died n b (within n inside) at) i low in
      let q : true ≡ false = sym died ∙ alive in absurd (cc)

  -- Who dies is a cub: a message is taken by the node to which its link leads.
  only_cubs_die : (n i : ℕ) → n < node_count p → i < h.count n → is_death (h.event n i) ≡ true → n < p.cubs
  only_cubs_die n i inside low t =
      by (h.event n i) refl (dies_as p (length given) beats h events come.merged asked n i (within n inside) low) t
    where
      by : (e : NodeEvent Msg) → h.event n i ≡ e → MayDie p n e → is_death e ≡ true → n < p.cubs
      by (Does input) is may died = absurd (cc)
      by (Ends (Take stamp link msg) sends) is may died =
          let came = come.run.carried n i stamp link msg (within n inside) low (inr (sends, is)) in
          let same = (same_ends may.0 may.1 came.from n (sym may.2 ∙ came.ends)).1 in
          subst (λ (c : ℕ). c < p.cubs) same may.3
      by (Ends (Tick stamp) sends) is may died = may
      by (Dies stamp) is may died = may
      by (Returns stamp) is may died = absurd (cc)

  pub deaths : DieAlone p h
  unfolding cub_of
  deaths = record {
    mortal = λ n i inside other low. ⊎_elim
        (λ (t : is_death (h.event n i) ≡ true).
        let cub = only_cubs_die n i inside low t in
        absurd (omega (arith, cub, other)))
        (λ (f : is_death (h.event n i) ≡ false). f)
        (cases_Bool (is_death (h.event n i)));
    apart = λ c d i j small there low high one two next.
        let first : c < node_count p = omega (arith, small) in
        let second : d < node_count p = omega (arith, there) in
        let a = being_of c first in
        let b = being_of d second in
        ⊎_elim
        (λ (q : a.0.died ≡ None). dead_if c i a.0 first a.1 low one q)
        (λ (q : b.0.died ≡ None). dead_if d j b.0 second b.1 high two q)
        (come.apart c a.0 b.0 small a.1 (ap (λ n. slice_get m.beings n) (sym next) ∙ b.1));
  }

  pub opens : OpensAs p orders disk_at h
  opens =
      let theirs = come.theirs in
      record {
        cubs = λ c low. (theirs.opens c (opening_cub p c) (openings.cub_opens G p orders disk_at c low)).0;
        disks = λ d low. (theirs.opens (node_of_disk p d) (node.Disk (disk_at d)) (openings.disk_opens G p orders disk_at d low)).0;
        numbered = k.disks;
        commands = (theirs.opens (controller p) (opening_controller p orders) (openings.controller_opens G p orders disk_at)).0;
        views = (theirs.opens (viewers p) (node.Viewers []) (openings.viewers_open G p orders disk_at)).0;
      }

  pub is_ring : IsRing p orders disk_at h
  is_ring = record {
    run = subst (λ n. IsRun noted any_step p n h) size come.run;
    opens = opens;
    deaths = deaths;
    counted = k.counted;
    short = λ n i inside low. come.short n i (within n inside) low;
  }

  pub written : AreJournalsOf any_step p h (journals_of m)
  written = record {
    count = length-map m.beings (λ (b : Being (AnyNode G)). b.past.journal) ∙ come.each_has_being ∙ size;
    writes = λ n low. come.theirs.writes n (within n low);
  }

  pub up_to : IsUpTo p m.beat h
  up_to = record { until = λ n inside up. come.ticked n (within n inside) up }

pub accepted_lists_are_rings : (G : Type 0) → AcceptedListsAreRings G
accepted_lists_are_rings G p orders disk_at beats events m k = record {
  come = come G p orders disk_at beats events m k;
  ring = is_ring G p orders disk_at beats events m k;
  written = written G p orders disk_at beats events m k;
  up_to = up_to G p orders disk_at beats events m k;
}
