-- What is claimed of a ring's histories holds of the lists that its machine accepts.
use Rattle.std.proofs.Common.{◌≡◌, ℕ, ◌+◌, ◌<◌, List, length, filter, sym, ap, ◌∙◌, arith, inl, inr}
use Rattle.tiger_base.specs.declared.message.Msg.{Msg}
use Rattle.slot_plan.specs.declared.params.Params.{Params}
use Rattle.stripe_layout.specs.declared.catalogue.Catalogue.{Catalogue}
use Rattle.node_kit.specs.declared.course.Order.{Order}
use Rattle.node_kit.specs.declared.course.ReadFault.{ReadFault}
use Rattle.node_kit.specs.Steps.Input.{Tick}
use Rattle.run_facts.specs.Events.NodeEvent.{Does}
use Rattle.run_facts.specs.Histories.{History}
use Rattle.run_facts.specs.Order.{order_of}
use Rattle.run_claims.specs.Accounts.{HasTick, is_tick_of, reading_at}
use Rattle.disk_core.specs.State.{DiskState}
use Rattle.ring_nodes.specs.declared.nodes.AnyNode.{AnyNode}
use Rattle.proof_lives.specs.Facts.{TickedAt}
use Rattle.proof_lives.specs.Histories.{cut_of_event, has_input, input_of}
use Rattle.proof_lives.specs.TwoLifeRun.{WhichLife, event_in, life_in}
use Rattle.proof_lives.specs.TwoLifeRun.WhichLife.{First, Later}
use Rattle.proof_lives.proofs.TwoLives.{input_in}
use Rattle.proof_controller.specs.Controllers.{controller}
use Rattle.proof_facts.specs.Facts.{facts_of}
use Rattle.proof_facts.specs.Rings.{node_count}
use Rattle.proof_journals.proofs.Events.{cut_of_input, input_of_life}
use Rattle.proof_moments.specs.Ties.{IsTickBelow}
use Rattle.proof_ring.specs.Accounts.{account_in}
use Rattle.proof_ring.specs.ClaimsOfRings.{IsStoredRing}
use Rattle.proof_ring.proofs.Beliefs.{rings_believe_in_time}
use Rattle.proof_ring.proofs.Beliefs as beliefs
use Rattle.proof_ring.proofs.Claims.{rings_meet_the_claims, with_ticks}
use Rattle.proof_ring.proofs.Commanded.{kept}
use Rattle.proof_ring.proofs.Recorded.{rings_have_one_schedule}
use Rattle.proof_ring.proofs.Served.{rings_are_never_wrongly_served, rings_are_rightly_served}
use Rattle.ring_world.specs.declared.event.Event.{Event}
use Rattle.ring_world.specs.Machine.{Machine, journals_of}
use Rattle.proof_worlds.specs.Accepted.{IsAccepted, IsTickIn, IsStored, AcceptedListsBelieveInTime, AcceptedListsHaveOneSchedule, AcceptedListsAreNeverWronglyServed, AcceptedListsAreRightlyServed}
use Rattle.proof_worlds.specs.Accounts.{ticks_of, AcceptedListsMeetTheClaims}
use Rattle.proof_worlds.proofs.Events.{tick_happened}
use Rattle.proof_worlds.proofs.Rings as rings
use Rattle.proof_worlds.proofs.Ticks as told

module _ (G : Type 0) (p : Params) (orders : List Order) (disk_at : ℕ → DiskState) (beats : ℕ)
    (events : List Event) (m : Machine Msg (AnyNode G)) (k : IsAccepted p orders disk_at beats events m) where
  abbrev pub h : History Msg (AnyNode G)
  h = rings.h G p orders disk_at beats events m k

  -- A tick of either life is one of the facts.
  either : (w : WhichLife) {c b l : ℕ} → TickedAt p (life_in h w) c b l → (facts_of p orders h).Ticked c b l
  either First t = inl t
  either Later t = inr t

  -- The tick of a cub in the list is a whole tick of one of the cub's lives.
  pub ticks : (top c b l : ℕ) → c < p.cubs → IsTickIn events top c b l → IsTickBelow (facts_of p orders h) top c b l
  ticks top c b l small tick =
      let inside : c < node_count p = omega (arith, small) in
      let come = rings.come G p orders disk_at beats events m k in
      let all = kept G p orders disk_at h (journals_of m) k.plan (rings.is_ring G p orders disk_at beats events m k)
      (rings.written G p orders disk_at beats events m k) in
      let mine = tick_happened p _ beats h events come.merged (record { beat = b; reading = l }) c tick.at
      (rings.within G p orders disk_at beats events m k c inside) tick.is in
      let life = input_of_life all c mine.0 inside mine.1 (ap has_input mine.2) in
      let is : h.event c (event_in h life.which c life.at) ≡ Does (Tick (record { beat = b; reading = l })) =
      ap (h.event c) (sym life.is) ∙ mine.2 in (
        either life.which (record {
          small = small;
          at = life.at;
          done = life.done;
          is = input_in h life.which c life.at ∙ ap input_of is;
          whole = cut_of_input all life.which c life.at inside life.done ∙ ap cut_of_event is;
        }),
        tick.below,
      )

  -- With files and images it is a stored ring.
  pub stored : (catalogue : Catalogue) (faults : List ReadFault) → IsStored p catalogue faults orders disk_at
      → IsStoredRing p catalogue faults orders disk_at h (journals_of m)
  stored catalogue faults s = record {
    plan = k.plan;
    ring = rings.is_ring G p orders disk_at beats events m k;
    written = rings.written G p orders disk_at beats events m k;
    files = s.files;
    images = s.images;
    faulty = s.faulty;
  }

pub accepted_lists_have_one_schedule : (G : Type 0) → AcceptedListsHaveOneSchedule G
accepted_lists_have_one_schedule G p orders disk_at beats events m top k =
    let one =
    rings_have_one_schedule G p orders disk_at (h G p orders disk_at beats events m k) (journals_of m) top k.plan
    (rings.is_ring G p orders disk_at beats events m k) (rings.written G p orders disk_at beats events m k) in
    record {
      free = one.free;
      part = one.part;
      local = one.local;
      belief = one.belief;
      patient = λ c b l small tick. one.patient c b l small (ticks G p orders disk_at beats events m k top c b l small tick);
    }

pub accepted_lists_believe_in_time : (G : Type 0) → AcceptedListsBelieveInTime G
accepted_lists_believe_in_time G p orders disk_at beats events m top k =
    let history = h G p orders disk_at beats events m k in
    beliefs.with_ticks p (IsTickBelow (facts_of p orders history) top) (IsTickIn events top) (order_of top (journals_of m)) k.plan
    (ticks G p orders disk_at beats events m k top)
    (rings_believe_in_time G p orders disk_at history (journals_of m) top k.plan
    (rings.is_ring G p orders disk_at beats events m k) (rings.written G p orders disk_at beats events m k))

pub accepted_lists_are_never_wrongly_served : (G : Type 0) → AcceptedListsAreNeverWronglyServed G
accepted_lists_are_never_wrongly_served G p catalogue faults orders disk_at beats events m top k s =
    rings_are_never_wrongly_served G p catalogue faults orders disk_at (h G p orders disk_at beats events m k) (journals_of m) top
    (stored G p orders disk_at beats events m k catalogue faults s)

pub accepted_lists_are_rightly_served : (G : Type 0) → AcceptedListsAreRightlyServed G
accepted_lists_are_rightly_served G p catalogue faults orders disk_at beats events m top k s low =
    rings_are_rightly_served G p catalogue faults orders disk_at (h G p orders disk_at beats events m k) (journals_of m) m.beat top
    (stored G p orders disk_at beats events m k catalogue faults s) (rings.up_to G p orders disk_at beats events m k) low

pub accepted_lists_meet_the_claims : (G : Type 0) → AcceptedListsMeetTheClaims G
accepted_lists_meet_the_claims G p catalogue faults orders disk_at beats events m k s =
    let history = h G p orders disk_at beats events m k in
    let listed = ticks_of events in
    let commands = length (filter (is_tick_of (controller p)) listed) in
    let clock = reading_at listed (controller p) in
    with_ticks (account_in p catalogue faults orders history (journals_of m) (m.beat + 1) commands clock) (HasTick listed)
    (λ c b l small tick. ticks G p orders disk_at beats events m k (m.beat + 1) c b l small
    (told.tick_in G p orders disk_at beats events m k c b l (omega (arith, small)) tick))
    (rings_meet_the_claims G p catalogue faults orders disk_at history (journals_of m) m.beat (m.beat + 1) commands clock
    (stored G p orders disk_at beats events m k catalogue faults s) (rings.up_to G p orders disk_at beats events m k) (omega arith)
    (told.clock G p orders disk_at beats events m k))
