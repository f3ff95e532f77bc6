-- Whatever is kept of the run of a scenario meets all claims.
use Rattle.std.proofs.Common.{◌≡◌, ℕ, ◌<◌, List, [], length, sym, subst, arith}
use Rattle.tiger_base.specs.declared.message.Msg.{Msg}
use Rattle.slot_plan.specs.declared.params.Params.{Params}
use Rattle.stripe_layout.specs.declared.catalogue.Catalogue.{Catalogue}
use Rattle.node_kit.specs.declared.course.Course.{Course}
use Rattle.node_kit.specs.declared.course.Kept.{Kept}
use Rattle.node_kit.specs.declared.course.Order.{Order}
use Rattle.node_kit.specs.declared.journal.Entry.{Entry}
use Rattle.node_kit.specs.Courses.{reading_of}
use Rattle.node_kit.specs.Life.{lifetime_of}
use Rattle.run_facts.specs.Histories.{History}
use Rattle.run_facts.specs.Order.{order_of}
use Rattle.run_facts.specs.Timed.{DieApart}
use Rattle.run_claims.specs.Accounts.{account_of, ticks_in}
use Rattle.run_claims.specs.Claims.{MeetsClaims}
use Rattle.scenario_read.specs.declared.scenario.Scenario.{Scenario}
use Rattle.scenario_read.specs.Orders.{IsCatalogueOf, orders_from}
use Rattle.scenario_read.specs.Sound.{IsScenario}
use Rattle.ring_nodes.specs.declared.nodes.AnyNode.{AnyNode}
use Rattle.ring_facts.specs.Steps.{HasRun, FollowOrders}
use Rattle.proof_controller.specs.Controllers.{controller}
use Rattle.proof_moments.specs.Ties.{IsTickBelow}
use Rattle.proof_facts.specs.Facts.{facts_of}
use Rattle.proof_facts.specs.Rings.{node_count}
use Rattle.proof_ring.specs.Runs.{AreShort, disks_of}
use Rattle.proof_ring.proofs.Runs.{HasRing, ring_in, size, deaths, kept_ring, ticked}
use Rattle.proof_ring.specs.Accounts.{IsControllersClock, account_in}
use Rattle.proof_ring.specs.Beliefs.{BelievesInTime}
use Rattle.proof_ring.specs.ClaimsOfRings.{IsStoredRing}
use Rattle.proof_ring.specs.Kept.{KeptRunsMeetTheClaims, KeptRunsBelieveInTime}
use Rattle.proof_ring.proofs.Beliefs.{rings_believe_in_time}
use Rattle.proof_ring.proofs.Beliefs as beliefs
use Rattle.proof_ring.proofs.Claims.{rings_meet_the_claims, with_ticks}
use Rattle.proof_ring.proofs.Commanded.{commanded}
use Rattle.proof_ring.proofs.Faults.{have_faults}
use Rattle.proof_ring.proofs.Ticks.{acts_ticks}

module _ (G : Type 0) (s : Scenario) (library : List (List ℕ)) (k : Kept) (scenario : IsScenario s) (short : AreShort library) (run : HasRing G s library k) where
  abbrev pub p : Params
  p = k.course.plan.params

  abbrev pub h : History Msg (AnyNode G)
  h = run.steps.kept.lived.history

  -- A tick of the course is one of the history.
  pub tick_below : (c b l : ℕ) → c < p.cubs → ticks_in k.course c b l → IsTickBelow (facts_of p k.orders h) k.course.beats c b l
  tick_below c b l small w = (
    subst (λ n. (facts_of p k.orders h).Ticked c b n) (sym w.2) (acts_ticks G s library k scenario short run c small b w.0 w.1),
    w.0,
  )

  -- So are the beats and the clock of its controller.
  controlled : IsControllersClock p h k.course.beats (reading_of k.course (controller p))
  controlled =
      let low : controller p < node_count p = omega arith in
      let inside : controller p < length _ = subst (λ n. controller p < n) (sym (size G s library k scenario short run)) low in
      record {
        beats = ticked G s library k scenario short run (controller p) inside (omega arith)
            (λ i there. (deaths G s library k scenario short run).mortal (controller p) i low (omega arith) there);
        shows = λ i there tick. run.steps.kept.keeps.stamped (controller p) i inside there;
      }

  pub stored_ring : IsStoredRing p k.catalogue k.course.faults k.orders (disks_of k library) h k.journals
  stored_ring =
      let ring = kept_ring G s library k scenario short run in
      record {
        plan = k.course.plan.sound;
        ring = ring.ring;
        written = ring.written;
        files = ring.files;
        images = ring.images;
        faulty = have_faults p k.course.faults k.catalogue library;
      }

  pub follows : FollowOrders k.course k.orders k.journals
  follows =
      let ring = stored_ring in
      commanded G p k.orders (disks_of k library) h k.journals ring.plan ring.ring ring.written k.course.beats (reading_of k.course (controller p)) controlled

  pub meets : MeetsClaims (account_of k)
  meets =
      let beats = k.course.beats in
      let clock = reading_of k.course (controller p) in
      with_ticks (account_in p k.catalogue k.course.faults k.orders h k.journals beats beats clock) (ticks_in k.course) tick_below
      (rings_meet_the_claims G p k.catalogue k.course.faults k.orders (disks_of k library) h k.journals beats beats beats clock stored_ring
      (kept_ring G s library k scenario short run).up_to (omega arith) controlled)

  pub believes : BelievesInTime (account_of k)
  believes =
      let beats = k.course.beats in
      let r = facts_of p k.orders h in
      let ring = stored_ring in
      beliefs.with_ticks p (IsTickBelow r beats) (ticks_in k.course) (order_of beats k.journals) ring.plan tick_below
      (rings_believe_in_time G p k.orders (disks_of k library) h k.journals beats ring.plan ring.ring ring.written)

pub kept_runs_meet_the_claims : (G : Type 0) → KeptRunsMeetTheClaims G
kept_runs_meet_the_claims G s library k scenario short run = meets G s library k scenario short (ring_in G s library k run)

pub kept_runs_believe_in_time : (G : Type 0) → KeptRunsBelieveInTime G
kept_runs_believe_in_time G s library k scenario short run = believes G s library k scenario short (ring_in G s library k run)

-- Of what nodes lived for a scenario the journals follow the orders, so that what is kept of it is a run of the ring.
pub orders_are_followed : (G : Type 0) (s : Scenario) (library : List (List ℕ)) (course : Course) (catalogue : Catalogue) (orders listed : List Order)
    (journals : List (List Entry)) → IsScenario s → AreShort library → course ≡ s.course → IsCatalogueOf s library catalogue
    → orders ≡ orders_from catalogue 0 s.events → listed ≡ orders → HasRun G course catalogue library listed journals
    → DieApart course.plan.params (lifetime_of course) → FollowOrders course orders journals
orders_are_followed G s library course catalogue orders listed journals scenario short is_course is_catalogue are_orders same steps apart =
    follows G s library (record { course = course; catalogue = catalogue; orders = orders; journals = journals; digests = [] }) scenario short
    (record {
      course = is_course;
      catalogue = is_catalogue;
      orders = are_orders;
      steps = subst (λ (os : List Order). HasRun G course catalogue library os journals) same steps;
      apart = apart;
    })
