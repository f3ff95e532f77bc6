-- Whatever is kept of the run of a scenario in which disks may die, and no cub does, meets all claims.
use Rattle.std.proofs.Common.{◌≡◌, ℕ, ◌<◌, length, List, Option, refl, sym, ap, subst, ◌∙◌, arith, ⊎_elim}
use Rattle.tiger_base.specs.declared.tenancy.Tenancy.{Tenancy}
use Rattle.tiger_base.specs.declared.message.Msg.{Msg}
use Rattle.tiger_base.specs.Notes.{noted}
use Rattle.slot_plan.specs.declared.params.Params.{Params}
use Rattle.slot_plan.specs.Times.{disk_of, time_of}
use Rattle.node_kit.specs.declared.course.Kept.{Kept}
use Rattle.node_kit.specs.Courses.{reading_of}
use Rattle.node_kit.specs.Life.{Lifetime}
use Rattle.node_kit.specs.Steps.{Input, stamp_of}
use Rattle.disk_core.specs.State.{DiskState}
use Rattle.run_facts.specs.Histories.{History, beat}
use Rattle.run_facts.specs.Order.{order_of}
use Rattle.run_lives.proofs.Deaths.{ticked_all}
use Rattle.run_claims.specs.Accounts.{account_of, ticks_in}
use Rattle.spare_claims.specs.Claims.{MeetsSpareClaims}
use Rattle.spare_claims.specs.Delivery.{AreSpareServed, disk_deaths}
use Rattle.scenario_read.specs.declared.scenario.Scenario.{Scenario}
use Rattle.scenario_read.specs.Sound.{IsScenario}
use Rattle.spare_ring.specs.declared.nodes.SpareNode.{SpareNode}
use Rattle.spare_ring.specs.declared.nodes.SpareNode.TheVariants as spare
use Rattle.spare_ring.specs.Nodes.{spare_node_step}
use Rattle.spare_ring.specs.Runs.{IsSpareRun}
use Rattle.ring_nodes.specs.declared.nodes.AnyNode.TheVariants as node
use Rattle.proof_controller.specs.Controllers.{controller}
use Rattle.proof_schedule.specs.Facts.{DiedBy, LivedTo}
use Rattle.proof_service.specs.Spares.{IsExcusedOn}
use Rattle.proof_service.proofs.Follows.{spare_runs_serve}
use Rattle.proof_moments.specs.RecordedParcels.{AreParcelsRecordedBut, Evidence}
use Rattle.proof_moments.specs.Ties.{IsTickBelow}
use Rattle.proof_lives.specs.Facts.{TickedAt}
use Rattle.proof_lives.specs.TwoLifeRun.WhichLife.{First}
use Rattle.proof_lives.proofs.TwoLives.{beat_in, reading_in, within_run}
use Rattle.proof_facts.specs.Facts.{blocks_of, facts_of, pieces_beside}
use Rattle.proof_facts.specs.Lives.{lives_of}
use Rattle.proof_facts.specs.Rings.{IsRingWith, node_count}
use Rattle.proof_ring.specs.Accounts.{IsControllersClock}
use Rattle.proof_ring.specs.ClaimsOfHistories.{IsStoredWith}
use Rattle.proof_ring.specs.Runs.{AreShort, disks_of}
use Rattle.proof_ring.proofs.Below.{ends}
use Rattle.proof_ring.proofs.Commanded.{commanded_with}
use Rattle.proof_ring.proofs.Faults.{have_faults}
use Rattle.proof_ring.proofs.Histories.{adding_histories_meet_the_laws}
use Rattle.proof_ring.proofs.Recorded.{adding_rings_have_one_schedule}
use Rattle.proof_ring.proofs.Runs.{none_back}
use Rattle.proof_ring.proofs.Served.{adding_rings_are_recorded, adding_rings_are_soundly_served}
use Rattle.proof_spare.specs.Added.{added_in}
use Rattle.proof_spare.specs.Claims.{KeptSpareRunsMeetTheClaims}
use Rattle.proof_spare.specs.Laws.{AreDeathsKnown}
use Rattle.proof_spare.specs.Runs.{IsKeptSpareRing, deaths_of_disks}
use Rattle.proof_spare.proofs.Deaths.{dead_fails, deaths_known}
use Rattle.proof_spare.proofs.Delivered.{are_spare_served}
use Rattle.proof_spare.proofs.Laws.{calm, due, right, with_added}
use Rattle.proof_spare.proofs.Rings.{none_later}
use Rattle.proof_spare.proofs.Runs.{given, kept_spare_ring, life_is, size}

module _ (G : Type 0) (s : Scenario) (library : List (List ℕ)) (k : Kept) (scenario : IsScenario s) (short : AreShort library) (run : IsSpareRun G s library k) where
  abbrev p : Params
  p = k.course.plan.params

  abbrev h : History Msg (SpareNode G)
  h = run.steps.kept.lived.history

  abbrev beats : ℕ
  beats = k.course.beats

  abbrev disks : ℕ → DiskState
  disks = disks_of k library

  abbrev death : ℕ → Option ℕ
  death = disk_deaths k.course.faults k.course.beats

  kept : IsKeptSpareRing library k h
  kept = kept_spare_ring G s library k scenario short run

  within : (n : ℕ) → n < node_count p → n < length (given G s library k scenario short run)
  within n low = subst (λ m. n < m) (sym (size G s library k scenario short run)) low

  -- The cubs know the deaths of their disks.
  dies : AreDeathsKnown p disks (deaths_of_disks k) death h
  dies = record {
    until = k.course.beats;
    early = λ n i low there. run.steps.kept.lived.complete.early n i (within n low) there;
    known = λ n. deaths_known p k.course.faults k.course.beats n k.course.plan.sound.ranges;
    fails = λ d from b low is by less. dead_fails k.course.faults k.course.beats d b from is by less;
  }

  ring : IsRingWith spare_node_step p k.orders disks (added_in p (deaths_of_disks k) h) h
  ring = with_added k.course.plan.sound kept.ring

  stored : IsStoredWith spare_node_step p k.catalogue k.course.faults k.orders disks (added_in p (deaths_of_disks k) h) h k.journals
  stored = record {
    plan = k.course.plan.sound;
    filed = record { ring = ring; files = kept.files; images = kept.images };
    right = right k.course.plan.sound kept.ring dies;
    written = kept.written;
    faulty = have_faults p k.course.faults k.catalogue library;
  }

  -- ---- ticks

  -- What a cub reads at a tick is what its course says.
  reads : (c : ℕ) {b l : ℕ} → TickedAt p (lives_of h) c b l → l ≡ reading_of k.course c b
  reads c {b} {l} t =
      let small = t.small in
      let inside : c < node_count p = omega arith in
      let done = within_run ring.run c inside First t.at t.done in
      let when : beat h c t.at ≡ b = beat_in h First c t.at ∙ ap (λ (i : Input Msg). (stamp_of i).beat) t.is in
      sym (ap (λ (i : Input Msg). (stamp_of i).reading) t.is) ∙ sym (reading_in h First c t.at)
      ∙ run.steps.kept.keeps.stamped c t.at (within c inside) done ∙ ap (reading_of k.course c) when

  -- A tick of the course is one of the history.
  tick_below : (c b l : ℕ) → c < p.cubs → ticks_in k.course c b l → IsTickBelow (facts_of p k.orders h) k.course.beats c b l
  tick_below c b l small w = ⊎_elim
      (λ (lived : LivedTo (facts_of p k.orders h) c b).
      let is : lived.reading ≡ reading_of k.course c b = ⊎_elim
      (λ q. reads c q)
      (λ q. absurd (none_later kept.ring q.at q.done q.small))
      lived.ticked in
      (subst (λ n. (facts_of p k.orders h).Ticked c b n) (is ∙ sym w.2) lived.ticked, w.0))
      (λ (died : DiedBy (facts_of p k.orders h) c b). absurd (calm k.course.plan.sound kept.ring c died.beat died.died))
      (ends k.course.plan.sound ring kept.up_to w.0 small)

  -- So are the beats and the clock of its controller.
  controlled : IsControllersClock p h k.course.beats (reading_of k.course (controller p))
  controlled =
      let low : controller p < node_count p = omega arith in
      let inside = within (controller p) low in
      record {
        beats = ticked_all noted (spare_node_step {G = G}) (length (given G s library k scenario short run)) k.course.beats h
            run.steps.kept.lived.complete (controller p) inside
            (ap (λ (l : Lifetime). l.back) (life_is G s library k scenario short run (controller p) inside)
            ∙ none_back k.course (controller p) (omega arith))
            (λ i there. kept.ring.alive (controller p) i low there);
        shows = λ i there tick. run.steps.kept.keeps.stamped (controller p) i inside there;
      }

  -- ---- delivery

  abbrev evidence : Evidence
  evidence = record { catalogue = k.catalogue; faults = k.course.faults; orders = k.orders; journals = k.journals }

  recorded : AreParcelsRecordedBut p evidence (facts_of p k.orders h) (pieces_beside p (added_in p (deaths_of_disks k) h) h) (blocks_of p h disks)
      k.course.beats (λ (t : Tenancy) n. IsExcusedOn p (blocks_of p h disks) k.course.beats (death (disk_of p n)) t n)
  recorded =
      let all = adding_rings_are_recorded (SpareNode G) spare_node_step p k.catalogue k.course.faults k.orders disks
      (added_in p (deaths_of_disks k) h) h k.journals k.course.beats stored kept.up_to in
      let laws = adding_histories_meet_the_laws (SpareNode G) spare_node_step p k.catalogue k.orders disks (added_in p (deaths_of_disks k) h) h
      k.course.plan.sound stored.filed stored.right in
      record {
        schedule = all.schedule;
        pieces = all.pieces;
        blocks = spare_runs_serve p (facts_of p k.orders h) (pieces_beside p (added_in p (deaths_of_disks k) h) h) (blocks_of p h disks)
            k.course.beats k.course.plan.sound laws.schedule laws.pieces (laws.blocks k.course.beats kept.up_to) death
            (due k.course.plan.sound kept.ring dies);
        reads = all.reads;
        ties = all.ties;
      }

  delivered : AreSpareServed p k.catalogue k.journals death (time_of p k.course.beats) (order_of k.course.beats k.journals)
  delivered =
      are_spare_served p evidence (facts_of p k.orders h) (pieces_beside p (added_in p (deaths_of_disks k) h) h) (blocks_of p h disks)
      k.course.beats death recorded k.course.beats (omega arith)

  -- ---- all claims

  pub meets : MeetsSpareClaims (account_of k)
  meets =
      let one = adding_rings_have_one_schedule (SpareNode G) spare_node_step p k.orders disks (added_in p (deaths_of_disks k) h) h k.journals
      k.course.beats k.course.plan.sound ring kept.written in
      let sound = adding_rings_are_soundly_served (SpareNode G) spare_node_step p k.catalogue k.course.faults k.orders disks
      (added_in p (deaths_of_disks k) h) h k.journals k.course.beats stored in
      record {
        free = one.free;
        part = record { always = one.part; local = one.local };
        no_return = sound.return;
        asked_once = record { instance = sound.instance; ask = sound.ask };
        true_belief = one.belief;
        true_faults = sound.fault;
        delivery = delivered;
        in_order = sound.turn;
        starts = record {
          patient = λ cub beat reading small tick. one.patient cub beat reading small (tick_below cub beat reading small tick);
          commanded = commanded_with spare_node_step p k.orders disks (added_in p (deaths_of_disks k) h) h k.journals k.course.plan.sound ring
              kept.written (λ c. spare.Other (node.Controller c)) (λ c i. refl) kept.ring.opens.commands k.course.beats
              (reading_of k.course (controller p)) controlled;
        };
      }

pub kept_spare_runs_meet_the_claims : (G : Type 0) → KeptSpareRunsMeetTheClaims G
kept_spare_runs_meet_the_claims G s library k scenario short run = meets G s library k scenario short run
