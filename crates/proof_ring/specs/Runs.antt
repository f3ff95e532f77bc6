-- What is kept of the run of a scenario is of a ring.
use Rattle.std.specs.Prelude.{ℕ, ◌≤◌, List, length, All}
use Rattle.tiger_base.specs.Limits.{most_file}
use Rattle.tiger_base.specs.declared.message.Msg.{Msg}
use Rattle.stripe_layout.specs.declared.catalogue.Catalogue.{Catalogue}
use Rattle.slot_plan.specs.declared.params.Params.{Params}
use Rattle.node_kit.specs.declared.course.Kept.{Kept}
use Rattle.node_kit.specs.declared.course.ReadFault.{ReadFault}
use Rattle.run_facts.specs.Histories.{History}
use Rattle.disk_core.specs.State.{DiskState}
use Rattle.scenario_read.specs.declared.scenario.Scenario.{Scenario}
use Rattle.scenario_read.specs.Sound.{IsScenario}
use Rattle.ring_nodes.specs.declared.nodes.AnyNode.{AnyNode}
use Rattle.ring_nodes.specs.AllNodes.{any_step, faults_of, image_at}
use Rattle.ring_facts.specs.Rings.{IsRingRun}
use Rattle.proof_facts.specs.Rings.{IsUpTo, AreOfCatalogue, HaveImages}
pub use Rattle.proof_journals.specs.Journals.{AreJournalsOf}
use Rattle.proof_ring.specs.Rings.{IsRing}

-- Disk number d of a plan as it opens: it has its image of the library, and its own read faults.
abbrev pub disk_of_run : Params → List ReadFault → Catalogue → List (List ℕ) → ℕ → DiskState
disk_of_run p faults catalogue library d = record {
  params = p;
  disk = d;
  image = image_at p catalogue library d;
  faults = faults_of d faults;
}

-- The disks of a kept run.
abbrev pub disks_of : Kept → List (List ℕ) → ℕ → DiskState
disks_of k library = disk_of_run k.course.plan.params k.course.faults k.catalogue library

-- No file is longer than the limit.
abbrev pub AreShort : List (List ℕ) → Type 0
AreShort library = All (λ bytes. length bytes ≤ most_file) library

-- A kept run is of a ring, in a history that goes on to the end of its beats and writes its
-- journals; its orders are for files of its catalogue, whose images the disks have.
pub record IsKeptRing {G : Type 0} (library : List (List ℕ)) (k : Kept)
    (h : History Msg (AnyNode G)) : Type 0 where
  pub ring : IsRing k.course.plan.params k.orders (disks_of k library) h
  pub up_to : IsUpTo k.course.plan.params k.course.beats h
  pub written : AreJournalsOf any_step k.course.plan.params h k.journals
  pub files : AreOfCatalogue k.course.plan.params k.catalogue k.orders
  pub images : HaveImages k.course.plan.params k.catalogue (disks_of k library)

-- So is whatever is kept of the run of a scenario over its files.
abbrev pub KeptRunsAreRings : (G : Type 0) → Type 0
KeptRunsAreRings G =
    (s : Scenario) (library : List (List ℕ)) (k : Kept)
    → IsScenario s → AreShort library → (run : IsRingRun G s library k)
    → IsKeptRing library k run.steps.kept.lived.history
