-- What is kept of a run of the ring is a list of events that the machine of its nodes accepts.
use Rattle.std.specs.Prelude.{◌≡◌, ℕ, ◌+◌, List, length}
use Rattle.tiger_base.specs.Notes.{noted}
use Rattle.node_kit.specs.declared.course.Kept.{Kept}
use Rattle.node_kit.specs.Courses.{IsCourse}
use Rattle.node_kit.specs.Links.{links_of, viewers_of}
use Rattle.scenario_read.specs.declared.scenario.Scenario.{Scenario}
use Rattle.scenario_read.specs.Sound.{IsScenario}
use Rattle.ring_nodes.specs.AllNodes.{any_step}
use Rattle.ring_facts.specs.Rings.{IsRingRun}
use Rattle.ring_facts.specs.Steps.{ring_of}
use Rattle.kept_worlds.specs.Events.{world_events_of}
use Rattle.kept_worlds.specs.Laws.{IsWorldOf}

-- What is kept of a run over a library can be told as events (its course is one, and each node has
-- a journal); the machine of the ring's nodes, as they open, accepts these events, and then has the
-- journals that are kept.
pub record IsWorld (G : Type 0) (library : List (List ℕ)) (k : Kept) : Type 0 where
  pub course : IsCourse k.course
  pub each_has_journal : length k.journals ≡ viewers_of (links_of k.course.plan.params) + 1
  pub world : IsWorldOf noted (any_step {G = G}) k.course.plan.params k.course.beats
      (ring_of G k.course k.catalogue library k.orders) k.journals (world_events_of k)

-- So it is for whatever is kept of a run of a scenario. No runner is named here.
abbrev pub KeptRunsAreWorlds : (G : Type 0) → Type 0
KeptRunsAreWorlds G =
    (s : Scenario) (library : List (List ℕ)) (k : Kept) → IsScenario s → IsRingRun G s library k
    → IsWorld G library k
