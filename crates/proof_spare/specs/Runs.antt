-- What is kept of the run of a scenario in which disks may die is of a ring of such nodes.
use Rattle.std.specs.Prelude.{ℕ, List, Option}
use Rattle.tiger_base.specs.declared.message.Msg.{Msg}
use Rattle.node_kit.specs.declared.course.Kept.{Kept}
use Rattle.run_facts.specs.Histories.{History}
use Rattle.scenario_read.specs.declared.scenario.Scenario.{Scenario}
use Rattle.scenario_read.specs.Sound.{IsScenario}
use Rattle.disk_death.specs.Deaths.{deaths_at}
use Rattle.spare_ring.specs.declared.nodes.SpareNode.{SpareNode}
use Rattle.spare_ring.specs.Nodes.{spare_node_step}
use Rattle.spare_ring.specs.Runs.{IsSpareRun}
use Rattle.proof_facts.specs.Rings.{IsUpTo, AreOfCatalogue, HaveImages}
use Rattle.proof_ring.specs.Runs.{AreJournalsOf, disks_of, AreShort}
use Rattle.proof_spare.specs.Rings.{IsSpareRing}

-- From when on the disks of each cub of a kept run are dead.
abbrev pub deaths_of_disks : Kept → ℕ → List (Option ℕ)
deaths_of_disks k c = deaths_at k.course.plan.params k.course.faults k.course.beats c

-- A kept run is of such a ring, in a history that goes on to the end of its beats and writes its journals; its orders are for
-- files of its catalogue, whose images the disks have.
pub record IsKeptSpareRing {G : Type 0} (library : List (List ℕ)) (k : Kept) (h : History Msg (SpareNode G)) : Type 0 where
  pub ring : IsSpareRing k.course.plan.params k.orders (disks_of k library) (deaths_of_disks k) h
  pub up_to : IsUpTo k.course.plan.params k.course.beats h
  pub written : AreJournalsOf spare_node_step k.course.plan.params h k.journals
  pub files : AreOfCatalogue k.course.plan.params k.catalogue k.orders
  pub images : HaveImages k.course.plan.params k.catalogue (disks_of k library)

-- So is whatever is kept of the run of a scenario over its files.
abbrev pub SpareRunsAreRings : (G : Type 0) → Type 0
SpareRunsAreRings G =
    (s : Scenario) (library : List (List ℕ)) (k : Kept)
    → IsScenario s → AreShort library → (run : IsSpareRun G s library k)
    → IsKeptSpareRing library k run.steps.kept.lived.history
