-- What is kept of a run of a ring's nodes is what is kept of the run of its scenario.
use Rattle.std.proofs.Common.{◌≡◌, ◌≤◌, ℕ, List, All, length, refl, sym, subst}
use Rattle.tiger_base.specs.Limits.{most_file}
use Rattle.tiger_base.specs.Notes.{noted}
use Rattle.tiger_base.specs.declared.message.Msg.{Msg}
use Rattle.stripe_layout.specs.declared.catalogue.Catalogue.{Catalogue}
use Rattle.node_kit.specs.declared.course.Kept.{Kept}
use Rattle.ring_nodes.specs.AllNodes.{any_step}
use Rattle.ring_facts.specs.Rings.{IsRingRun}
use Rattle.ring_facts.specs.Steps.{HasRun, ring_of}
use Rattle.scenario_read.specs.Orders.{IsCatalogueOf, orders_from}
use Rattle.scenario_read.specs.Sound.{IsScenario}
use Rattle.scenario_read.specs.declared.scenario.Scenario.{Scenario}
use Rattle.whole_run.specs.Runs.{IsKeptRun, kept_with}
use Rattle.proof_ring.proofs.Kept.{orders_are_followed}

pub ring_run : (G : Type 0) (s : Scenario) (library : List (List ℕ)) (catalogue : Catalogue) (k : Kept)
    → IsScenario s → All (λ bytes. length bytes ≤ most_file) library → IsCatalogueOf s library catalogue
    → (let orders = orders_from catalogue 0 s.events in
    IsKeptRun {M = Msg} noted (any_step {G = G}) s.course catalogue orders library (ring_of G s.course catalogue library orders) k)
    → IsRingRun G s library k
ring_run G s library catalogue k sound short of run =
    let orders = orders_from catalogue 0 s.events in
    let steps : HasRun G s.course catalogue library orders run.journals = record { nodes = run.nodes; kept = run.ran.kept } in
    subst (IsRingRun G s library) (sym run.is) (record {
      course = refl;
      catalogue = of;
      orders = refl;
      steps = steps;
      carried = run.ran.carried;
      paced = run.ran.paced;
      timed = run.ran.timed;
      apart = sound.apart;
      commanded = orders_are_followed G s library s.course catalogue orders orders run.journals sound short refl of refl refl steps sound.apart;
      digests = refl;
    })
