use Rattle.std.proofs.Common.{ℕ, [], List, refl, sym, arith}
use Rattle.std.proofs.lemmas.Option.{none-some}
use Rattle.tiger_base.specs.Notes.{noted}
use Rattle.tiger_base.specs.declared.message.Msg.{Msg}
use Rattle.slot_plan.specs.Samples.{small}
use Rattle.slot_plan.specs.Times.{time_of}
use Rattle.disk_image.specs.Image.{Image}
use Rattle.proof_controller.specs.Orders.{AreCounted}
use Rattle.proof_facts.specs.Rings.{node_count}
use Rattle.proof_schedule.proofs.Example.{laws_met}
use Rattle.ring_nodes.specs.declared.nodes.AnyNode.{AnyNode}
use Rattle.ring_nodes.specs.AllNodes.{any_step}
use Rattle.ring_world.specs.declared.event.Event.{Event}
use Rattle.ring_world.specs.Machine.{Machine, opening_machine}
use Rattle.ring_world.specs.Faults.{Accepts}
use Rattle.proof_worlds.specs.Accepted.{opening_ring}
use Rattle.proof_worlds.specs.Samples.{AreAccepted, disks_of}
use Rattle.proof_worlds.proofs.rows.deaths.Goals as goal

no-orders : AreCounted small []
no-orders = record {
  given = record {
    in_time = λ i j d low l. absurd (omega (arith, l));
    on_disks = λ k ask s. absurd (none-some _ s.1);
    once = λ j k a b s t e. absurd (none-some _ s.1);
    after_start = λ k v s. absurd (none-some _ s.1);
  };
  counted = λ k ask s. absurd (none-some _ s.1);
}

accepted : (image : ℕ → Image) (events : List Event) (m : Machine Msg (AnyNode ℕ))
    → Accepts noted any_step small (node_count small) 1 (opening_machine small (opening_ring small [] (disks_of image))) events m
    → AreAccepted image events
accepted image events m a = (
  m,
  record {
    plan = laws_met.0;
    counted = no-orders;
    disks = λ d l. record { params = refl; number = refl };
    few = omega arith;
    accepts = a;
  },
)

pub returns-clause-nothing : goal.returns-clause-nothing
returns-clause-nothing c image = accepted image [] _ refl

pub returns-clause-apart : goal.returns-clause-apart
unfolding time_of
returns-clause-apart c image =
    accepted image _ _ ((omega arith, omega arith), refl, ((omega arith, omega arith), refl, refl))

pub returns-clause-beside : goal.returns-clause-beside
unfolding time_of
returns-clause-beside c image a = absurd (none-some _ (sym a.1.accepts.2.1))

pub returns-clause-twice : goal.returns-clause-twice
unfolding time_of
returns-clause-twice c image a = absurd (none-some _ (sym a.1.accepts.2.1))

pub returns-clause-no_cub : goal.returns-clause-no_cub
returns-clause-no_cub c image a = omega (arith, a.1.accepts.0.1)

pub returns-clause-in_a_tick : goal.returns-clause-in_a_tick
unfolding time_of
returns-clause-in_a_tick c image = accepted image _ _ ((omega arith, omega arith), refl, refl)
