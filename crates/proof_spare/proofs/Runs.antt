-- What is kept of the run of a scenario in which disks may die, and no cub does, is of a ring of such nodes.
use Rattle.std.proofs.Common.{◌≡◌, ℕ, zero, suc, ◌+◌, ◌<◌, List, [], ◌∷◌, length, Bool, true, false, cond, nat_lt, Option, Some, None, refl, sym, ap, subst, ◌∙◌, arith, ⊎_elim}
use Rattle.std.specs.Prelude.{slice_get, option_and_then}
use Rattle.std.specs.List.{AllByRecursion}
use Rattle.std.proofs.lemmas.Bool.{cases_Bool}
use Rattle.tiger_base.specs.declared.message.Msg.{Msg}
use Rattle.tiger_base.specs.Notes.{noted}
use Rattle.slot_plan.specs.declared.params.Params.{Params}
use Rattle.slot_plan.specs.Times.{disk_count}
use Rattle.node_kit.specs.declared.course.Course.{Course}
use Rattle.node_kit.specs.declared.course.Kept.{Kept}
use Rattle.node_kit.specs.declared.course.Order.{Order}
use Rattle.node_kit.specs.Courses.{IsCourse}
use Rattle.node_kit.specs.Life.{Lifetime, lifetime_of}
use Rattle.run_facts.specs.Events.{is_death}
use Rattle.run_facts.specs.Histories.{History, IsComplete, IsRun, beat, reading}
use Rattle.run_lives.proofs.Deaths.{dies_at}
use Rattle.scenario_read.specs.declared.scenario.Scenario.{Scenario}
use Rattle.scenario_read.specs.Sound.{IsScenario}
use Rattle.ring_nodes.specs.declared.nodes.AnyNode.{AnyNode}
use Rattle.ring_nodes.specs.declared.nodes.AnyNode.TheVariants as node
use Rattle.ring_nodes.specs.AllNodes.{opening_cub, opening_controller, opening_nodes, image_at, images_of}
use Rattle.ring_nodes.proofs.Numbered.{length-numbered, opening_count}
use Rattle.spare_ring.specs.declared.nodes.SpareNode.{SpareNode}
use Rattle.spare_ring.specs.Nodes.{beside_deaths, spare_node_step}
use Rattle.spare_ring.specs.Runs.{IsSpareRun, NoCubDies, spare_ring_of}
use Rattle.spare_ring.proofs.Openings.{length_made}
use Rattle.proof_controller.specs.Controllers.{controller}
use Rattle.proof_controller.specs.Orders.{AreCounted}
use Rattle.proof_facts.specs.Rings.{node_count, node_of_disk, viewers, IsUpTo, AreOfCatalogue}
use Rattle.proof_ring.specs.Runs.{AreJournalsOf, disks_of, AreShort}
use Rattle.proof_ring.proofs.Counted.{counted_orders}
use Rattle.proof_ring.proofs.Opened.{get_some, cubs_open, controller_opens, viewers_open, read_low}
use Rattle.proof_ring.proofs.Openings.{disk_opens, each_at}
use Rattle.proof_ring.proofs.Orders.{of_catalogue}
use Rattle.proof_spare.specs.Rings.{IsSpareRing, SpareOpensAs}
use Rattle.proof_spare.specs.Runs.{deaths_of_disks, IsKeptSpareRing, SpareRunsAreRings}

-- no death among none
none_there : (ds : List (Option ℕ)) → AllByRecursion (λ d. d ≡ None) ds → (n : ℕ) → option_and_then (λ (d : Option ℕ). d) (slice_get ds n) ≡ None
none_there [] h n = refl
none_there (d ∷ ds) h zero = h.0
none_there (d ∷ ds) h (suc n) = none_there ds h.1 n

-- In a course in which no cub dies no node does.
nobody_dies : (c : Course) → NoCubDies c → (n : ℕ) → (lifetime_of c n).death ≡ None
nobody_dies c calm n = by_test (nat_lt n c.plan.params.cubs) refl
  where
    by_test : (t : Bool) → nat_lt n c.plan.params.cubs ≡ t → (lifetime_of c n).death ≡ None
    by_test true is =
        ap (λ (b : Bool). cond b (option_and_then (λ (d : Option ℕ). d) (slice_get c.deaths n)) None) is ∙ none_there c.deaths calm n
    by_test false is = ap (λ (b : Bool). cond b (option_and_then (λ (d : Option ℕ). d) (slice_get c.deaths n)) None) is

-- The ring of a kept run.
module _ (G : Type 0) (s : Scenario) (library : List (List ℕ)) (k : Kept) (scenario : IsScenario s) (short : AreShort library) (run : IsSpareRun G s library k) where
  abbrev p : Params
  p = k.course.plan.params

  abbrev h : History Msg (SpareNode G)
  h = run.steps.kept.lived.history

  abbrev nodes : List (AnyNode G)
  nodes = opening_nodes p k.course.faults (images_of p k.catalogue library) k.orders

  abbrev pub given : List (SpareNode G)
  given = spare_ring_of G k.course k.catalogue library k.orders

  course : IsCourse k.course
  course = subst IsCourse (sym run.course) scenario.course

  pub life_is : (n : ℕ) → n < length given → h.life n ≡ lifetime_of k.course n
  life_is n low = let g = get_some given n low in (run.steps.kept.lived.theirs.opens n g.0 g.1).1

  abbrev complete : IsComplete noted (spare_node_step {G = G}) (length given) k.course.beats h
  complete = run.steps.kept.lived.complete

  all : length (images_of p k.catalogue library) ≡ disk_count p
  all = length-numbered (image_at p k.catalogue library) (disk_count p)

  pub size : length given ≡ node_count p
  size =
      length_made (beside_deaths {G = G} p k.course.faults k.course.beats) 0 nodes
      ∙ opening_count p k.course.faults (images_of p k.catalogue library) k.orders nodes all refl

  alive : (n i : ℕ) → n < node_count p → i < h.count n → is_death (h.event n i) ≡ false
  alive n i inside low = ⊎_elim
      (λ (t : is_death (h.event n i) ≡ true).
      let within : n < length given = omega (arith, size, inside) in
      let z : None ≡ Some (beat h n i) =
      sym (nobody_dies k.course run.calm n) ∙ (ap (λ (l : Lifetime). l.death) (sym (life_is n within)) ∙ dies_at noted spare_node_step (length given) k.course.beats h complete n within i low t)
      in
      absurd (cc))
      (λ (f : is_death (h.event n i) ≡ false). f)
      (cases_Bool (is_death (h.event n i)))

  opens_with : (n : ℕ) (x : AnyNode G) → slice_get nodes n ≡ Some x → h.first n ≡ beside_deaths p k.course.faults k.course.beats n x
  opens_with n x e =
      let number : 0 + n ≡ n = omega arith in
      let there : slice_get given n ≡ Some (beside_deaths p k.course.faults k.course.beats n x) =
      subst (λ (m : ℕ). slice_get given n ≡ Some (beside_deaths p k.course.faults k.course.beats m x)) number
      (each_at (beside_deaths p k.course.faults k.course.beats) 0 nodes n x e)
      in
      (run.steps.kept.lived.theirs.opens n (beside_deaths p k.course.faults k.course.beats n x) there).0

  opens : SpareOpensAs p k.orders (disks_of k library) (deaths_of_disks k) h
  opens = record {
    cubs = λ c low. opens_with c (opening_cub p c) (cubs_open G p k.course.faults (images_of p k.catalogue library) k.orders all c low);
    disks = λ d low. opens_with (node_of_disk p d) (node.Disk (disks_of k library d)) (disk_opens G p k.course.faults k.catalogue library k.orders d low);
    numbered = λ d low. record { params = refl; number = refl };
    commands = opens_with (controller p) (opening_controller p k.orders) (controller_opens G p k.course.faults (images_of p k.catalogue library) k.orders all);
    views = opens_with (viewers p) (node.Viewers []) (viewers_open G p k.course.faults (images_of p k.catalogue library) k.orders all);
  }

  orders_counted : AreCounted p k.orders
  orders_counted =
      subst (λ (c : Course). AreCounted c.plan.params k.orders) (sym run.course)
      (subst (λ (os : List Order). AreCounted s.course.plan.params os) (sym run.orders) (counted_orders s library k.catalogue scenario short run.catalogue))

  files : AreOfCatalogue p k.catalogue k.orders
  files =
      subst (λ (c : Course). AreOfCatalogue c.plan.params k.catalogue k.orders) (sym run.course)
      (subst (λ (os : List Order). AreOfCatalogue s.course.plan.params k.catalogue os) (sym run.orders) (of_catalogue s library k.catalogue scenario run.catalogue))

  is_ring : IsSpareRing p k.orders (disks_of k library) (deaths_of_disks k) h
  is_ring = record {
    run = subst (λ n. IsRun noted spare_node_step p n h) size run.steps.kept.lived.run;
    opens = opens;
    alive = alive;
    counted = orders_counted;
    short = λ n i inside low.
        let within : n < length given = omega (arith, size, inside) in
        read_low k.course (beat h n i) (reading h n i) course (complete.early n i within low) (run.steps.kept.lived.run.reads n i within low).1;
  }

  up_to : IsUpTo p k.course.beats h
  up_to = record {
    until = λ n inside up.
        let all = complete.until_end n (omega (arith, size, inside)) up in
        omega (arith, all);
  }

  written : AreJournalsOf spare_node_step p h k.journals
  written =
      let whole = size in
      record {
        count = run.steps.kept.each_has_journal ∙ size;
        writes = λ n low. run.steps.kept.lived.theirs.writes n (omega (arith, whole, low));
      }

  pub kept_spare_ring : IsKeptSpareRing library k h
  kept_spare_ring = record {
    ring = is_ring;
    up_to = up_to;
    written = written;
    files = files;
    images = record { files = λ d low. refl; pieces = λ d low. refl; disk = λ d low. refl };
  }

pub spare_runs_are_rings : (G : Type 0) → SpareRunsAreRings G
spare_runs_are_rings G s library k scenario short run = kept_spare_ring G s library k scenario short run
