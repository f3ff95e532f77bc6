-- What is kept of a run of such nodes is what is kept of the run of a scenario in which disks may die.
use Rattle.std.proofs.Common.{ℕ, List, refl, sym, subst}
use Rattle.tiger_base.specs.Notes.{noted}
use Rattle.tiger_base.specs.declared.message.Msg.{Msg}
use Rattle.stripe_layout.specs.declared.catalogue.Catalogue.{Catalogue}
use Rattle.node_kit.specs.declared.course.Kept.{Kept}
use Rattle.scenario_read.specs.Orders.{IsCatalogueOf, orders_from}
use Rattle.scenario_read.specs.declared.scenario.Scenario.{Scenario}
use Rattle.whole_run.specs.Runs.{IsKeptRun}
use Rattle.spare_ring.specs.Nodes.{spare_node_step}
use Rattle.spare_ring.specs.Runs.{IsSpareRun, NoCubDies, spare_ring_of}

pub spare_run : (G : Type 0) (s : Scenario) (library : List (List ℕ)) (catalogue : Catalogue) (k : Kept)
    → NoCubDies s.course → IsCatalogueOf s library catalogue
    → (let orders = orders_from catalogue 0 s.events in
    IsKeptRun {M = Msg} noted (spare_node_step {G = G}) s.course catalogue orders library (spare_ring_of G s.course catalogue library orders) k)
    → IsSpareRun G s library k
spare_run G s library catalogue k calm of run =
    subst (IsSpareRun G s library) (sym run.is) (record {
      course = refl;
      calm = calm;
      catalogue = of;
      orders = refl;
      steps = record { nodes = run.nodes; kept = run.ran.kept };
      carried = run.ran.carried;
      paced = run.ran.paced;
      timed = run.ran.timed;
      digests = refl;
    })
