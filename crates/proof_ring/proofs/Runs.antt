-- What is kept of the run of a scenario is of a ring, to the end of its beats.
use Rattle.std.proofs.Common.{◌≡◌, ℕ, ◌+◌, ◌<◌, ◌≤◌, ◌%◌, List, [], length, Bool, true, false, cond, Option, Some, None, refl, sym, ap, subst, ◌∙◌, arith, ⊎_elim}
use Rattle.std.specs.Prelude.{slice_get, option_and_then}
use Rattle.std.proofs.lemmas.Bool.{le-ltb, cases_Bool, eqb-true}
use Rattle.tiger_base.specs.declared.message.Msg.{Msg}
use Rattle.tiger_base.specs.Notes.{noted}
use Rattle.slot_plan.specs.declared.params.Params.{Params}
use Rattle.slot_plan.specs.Times.{cub_of, disk_count}
use Rattle.node_kit.specs.declared.course.Course.{Course}
use Rattle.node_kit.specs.declared.course.Kept.{Kept}
use Rattle.node_kit.specs.declared.course.Order.{Order}
use Rattle.node_kit.specs.Courses.{IsCourse}
use Rattle.node_kit.specs.Life.{Lifetime, back_of, lifetime_of, returns}
use Rattle.run_facts.specs.Events.{NodeEvent, is_death, is_return, stamp_at}
use Rattle.run_facts.specs.Events.NodeEvent.{Does, Ends, Dies, Returns}
use Rattle.run_facts.specs.Histories.{History, IsComplete, IsRun, beat, past, reading, ticks}
use Rattle.run_facts.specs.Timed.{DieApart}
use Rattle.scenario_read.specs.declared.scenario.Scenario.{Scenario}
use Rattle.scenario_read.specs.Orders.{IsCatalogueOf, orders_from}
use Rattle.scenario_read.specs.Sound.{IsScenario}
use Rattle.ring_nodes.specs.declared.nodes.AnyNode.{AnyNode}
use Rattle.ring_nodes.specs.declared.nodes.AnyNode.TheVariants as node
use Rattle.ring_nodes.specs.AllNodes.{any_step, opening_cub, opening_controller, image_at, images_of}
use Rattle.ring_nodes.proofs.Numbered.{length-numbered, opening_count}
use Rattle.ring_facts.specs.Rings.{IsRingRun}
use Rattle.ring_facts.specs.Steps.{HasRun, ring_of}
use Rattle.proof_ring.proofs.Opened.{get_some, cubs_open, controller_opens, viewers_open, read_low}
use Rattle.proof_controller.specs.Controllers.{controller}
use Rattle.proof_controller.specs.Orders.{AreCounted}
use Rattle.proof_facts.specs.Rings.{node_count, node_of_disk, viewers, DieAlone, IsUpTo, AreOfCatalogue}
use Rattle.proof_journals.specs.Journals.{AreJournalsOf}
use Rattle.run_lives.proofs.Deaths.{along, dies_at, ticked_all}
use Rattle.proof_ring.specs.Rings.{OpensAs, IsRing}
use Rattle.proof_ring.specs.Runs.{disks_of, AreShort, IsKeptRing, KeptRunsAreRings}
use Rattle.proof_ring.proofs.Openings.{disk_opens}
use Rattle.proof_ring.proofs.Orders.{of_catalogue}
use Rattle.proof_ring.proofs.Counted.{counted_orders}

-- In a course only cubs die, and return.
pub only_cubs : (c : Course) (n : ℕ) → c.plan.params.cubs ≤ n → (lifetime_of c n).death ≡ None
only_cubs c n high = ap (λ (b : Bool). cond b (option_and_then (λ d. d) (slice_get c.deaths n)) None) (le-ltb n c.plan.params.cubs high)

pub none_back : (c : Course) (n : ℕ) → c.plan.params.cubs ≤ n → (lifetime_of c n).back ≡ None
none_back c n high = ap (λ (b : Bool). cond b (option_and_then (λ d. d) (slice_get c.backs n)) None) (le-ltb n c.plan.params.cubs high)

-- A return is in the beat that the life has for it.
returns_by : (death left back : Option ℕ) (over : Bool) (b : ℕ)
    → returns (record { death = death; left = left; back = back; over = over }) b ≡ true → back ≡ Some b
unfolding returns
returns_by death left None over b t = absurd (cc)
returns_by death left (Some w) over b t = ap Some (sym (eqb-true b w t))

-- What of a kept run makes a ring of it: nodes lived for the scenario, and no two neighbours die. That its journals follow the
-- orders is shown of the ring.
pub record HasRing (G : Type 0) (s : Scenario) (library : List (List ℕ)) (k : Kept) : Type 0 where
  pub course : k.course ≡ s.course
  pub catalogue : IsCatalogueOf s library k.catalogue
  pub orders : k.orders ≡ orders_from k.catalogue 0 s.events
  pub steps : HasRun G k.course k.catalogue library k.orders k.journals
  pub apart : DieApart k.course.plan.params (lifetime_of k.course)

abbrev pub ring_in : (G : Type 0) (s : Scenario) (library : List (List ℕ)) (k : Kept) → IsRingRun G s library k → HasRing G s library k
ring_in G s library k run =
    record { course = run.course; catalogue = run.catalogue; orders = run.orders; steps = run.steps; apart = run.apart }

-- The ring of a kept run.
module _ (G : Type 0) (s : Scenario) (library : List (List ℕ)) (k : Kept) (scenario : IsScenario s) (short : AreShort library) (run : HasRing G s library k) where
  abbrev pub p : Params
  p = k.course.plan.params

  abbrev pub h : History Msg (AnyNode G)
  h = run.steps.kept.lived.history

  abbrev pub given : List (AnyNode G)
  given = ring_of G k.course k.catalogue library k.orders

  pub course : IsCourse k.course
  course = subst IsCourse (sym run.course) scenario.course

  -- Each node has the life that the course gives it.
  pub life_is : (n : ℕ) → n < length given → h.life n ≡ lifetime_of k.course n
  life_is n low = let g = get_some given n low in (run.steps.kept.lived.theirs.opens n g.0 g.1).1

  abbrev pub lived : IsRun noted any_step p (length given) h
  lived = run.steps.kept.lived.run

  abbrev pub complete : IsComplete noted any_step (length given) k.course.beats h
  complete = run.steps.kept.lived.complete

  -- A node that is no cub has a life without a death and a return, and so ticks in each beat.
  pub ticked : (n : ℕ) → n < length given → p.cubs ≤ n → ((i : ℕ) → i < h.count n → is_death (h.event n i) ≡ false)
      → ticks h n (h.count n) ≡ k.course.beats
  ticked n low high alive =
      ticked_all noted any_step (length given) k.course.beats h complete n low
      (ap (λ (l : Lifetime). l.back) (life_is n low) ∙ none_back k.course n high) alive

  pub all : length (images_of p k.catalogue library) ≡ disk_count p
  all = length-numbered (image_at p k.catalogue library) (disk_count p)

  pub size : length given ≡ node_count p
  size = opening_count p k.course.faults (images_of p k.catalogue library) k.orders given all refl

  -- A death stands in the beat that the course has for it.
  pub death_is : (n i : ℕ) → n < node_count p → i < h.count n → is_death (h.event n i) ≡ true → (lifetime_of k.course n).death ≡ Some (beat h n i)
  death_is n i inside low t =
      let within : n < length given = omega (arith, size, inside) in
      ap (λ (l : Lifetime). l.death) (sym (life_is n within))
      ∙ dies_at noted any_step (length given) k.course.beats h complete n within i low t

  -- And a return in that which it has for it.
  pub back_is : (n i : ℕ) → n < length given → i < h.count n → is_return (h.event n i) ≡ true → back_of k.course n ≡ Some (beat h n i)
  back_is n i within low t = by (h.event n i) refl
    where
      by : (e : NodeEvent Msg) → h.event n i ≡ e → back_of k.course n ≡ Some (beat h n i)
      by (Does x) is = let z : true ≡ false = sym t ∙ ap is_return is in absurd (cc)
      by (Ends x sends) is = let z : true ≡ false = sym t ∙ ap is_return is in absurd (cc)
      by (Dies stamp) is = let z : true ≡ false = sym t ∙ ap is_return is in absurd (cc)
      by (Returns stamp) is =
          let now : Lifetime = (past noted any_step h n i).life in
          sym (ap (λ (l : Lifetime). l.back) (life_is n within))
          ∙ sym (along noted any_step (length given) k.course.beats h complete n within i).back
          ∙ returns_by now.death now.left now.back now.over stamp.beat (complete.returning n i stamp within low is)
          ∙ ap (λ (e : NodeEvent Msg). Some (stamp_at e).beat) (sym is)

  pub deaths : DieAlone p h
  unfolding cub_of
  deaths = record {
    mortal = λ n i inside other low. ⊎_elim
        (λ (t : is_death (h.event n i) ≡ true).
        let d = death_is n i inside low t in
        let z : None ≡ Some (beat h n i) = sym (only_cubs k.course n other) ∙ d in absurd (cc))
        (λ (f : is_death (h.event n i) ≡ false). f)
        (cases_Bool (is_death (h.event n i)));
    apart = λ c d i j small there low high one two next.
        let first = death_is c i (omega (arith, small)) low one in
        let second = death_is d j (omega (arith, there)) high two in
        ⊎_elim
        (λ (q : (lifetime_of k.course c).death ≡ None). let z : None ≡ Some (beat h c i) = sym q ∙ first in absurd (cc))
        (λ (q : (lifetime_of k.course ((c + 1) % p.cubs)).death ≡ None).
        let z : None ≡ Some (beat h d j) = sym q ∙ (ap (λ n. (lifetime_of k.course n).death) (sym next) ∙ second) in absurd (cc))
        (run.apart c small);
  }

  pub opens : OpensAs p k.orders (disks_of k library) h
  opens =
      let theirs = run.steps.kept.lived.theirs in
      record {
        cubs = λ c low. (theirs.opens c (opening_cub p c) (cubs_open G p k.course.faults (images_of p k.catalogue library) k.orders all c low)).0;
        disks = λ d low. (theirs.opens (node_of_disk p d) (node.Disk (disks_of k library d)) (disk_opens G p k.course.faults k.catalogue library k.orders d low)).0;
        numbered = λ d low. record { params = refl; number = refl };
        commands = (theirs.opens (controller p) (opening_controller p k.orders) (controller_opens G p k.course.faults (images_of p k.catalogue library) k.orders all)).0;
        views = (theirs.opens (viewers p) (node.Viewers []) (viewers_open G p k.course.faults (images_of p k.catalogue library) k.orders all)).0;
      }

  pub orders_counted : AreCounted p k.orders
  orders_counted =
      subst (λ (c : Course). AreCounted c.plan.params k.orders) (sym run.course)
      (subst (λ (os : List Order). AreCounted s.course.plan.params os) (sym run.orders) (counted_orders s library k.catalogue scenario short run.catalogue))

  pub files : AreOfCatalogue p k.catalogue k.orders
  files =
      subst (λ (c : Course). AreOfCatalogue c.plan.params k.catalogue k.orders) (sym run.course)
      (subst (λ (os : List Order). AreOfCatalogue s.course.plan.params k.catalogue os) (sym run.orders) (of_catalogue s library k.catalogue scenario run.catalogue))

  pub is_ring : IsRing p k.orders (disks_of k library) h
  is_ring = record {
    run = subst (λ n. IsRun noted any_step p n h) size lived;
    opens = opens;
    deaths = deaths;
    counted = orders_counted;
    short = λ n i inside low.
        let within : n < length given = omega (arith, size, inside) in
        read_low k.course (beat h n i) (reading h n i) course (complete.early n i within low) (lived.reads n i within low).1;
  }

  pub up_to : IsUpTo p k.course.beats h
  up_to = record {
    until = λ n inside up.
        let all = complete.until_end n (omega (arith, size, inside)) up in
        omega (arith, all);
  }

  pub written : AreJournalsOf any_step p h k.journals
  written =
      let whole = size in
      record {
        count = run.steps.kept.each_has_journal ∙ size;
        writes = λ n low. run.steps.kept.lived.theirs.writes n (omega (arith, whole, low));
      }

  pub kept_ring : IsKeptRing library k h
  kept_ring = record {
    ring = is_ring;
    up_to = up_to;
    written = written;
    files = files;
    images = record { files = λ d low. refl; pieces = λ d low. refl; disk = λ d low. refl };
  }

pub kept_runs_are_rings : (G : Type 0) → KeptRunsAreRings G
kept_runs_are_rings G s library k scenario short run = kept_ring G s library k scenario short (ring_in G s library k run)
