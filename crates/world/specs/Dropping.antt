-- What a return makes of the links.
use Rattle.std.specs.Prelude.{ℕ, if◌then◌else◌}
use Rattle.slot_plan.specs.declared.params.Params.{Params}
use Rattle.node_kit.specs.Links.{links_of, ends_of, leads_to}
use Rattle.ring_world.specs.Machine.{Way, dropped}

-- Link l when node n returns in a beat: if it leads there, what was sent in lower beats is lost.
abbrev pub freed : {M : Type 0} → Params → ℕ → ℕ → ℕ → Way M → Way M
freed p n beat l w = if leads_to n (ends_of (links_of p) l) then dropped beat w else w
