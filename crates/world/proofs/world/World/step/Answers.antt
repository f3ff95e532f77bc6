use Rattle.std.proofs.Common.{sym, subst}
use Rattle.std.proofs.lemmas.Result.{on_ok_weaker}
use Rattle.tiger_base.specs.Notes.{noted}
use Rattle.ring_nodes.specs.AllNodes.{any_step}
use Rattle.ring_world.specs.Faults.{IsEventOf}
use Rattle.world.specs.Running.{nodes_of, HasStepped}
use Rattle.world.specs.Worlds.{Worldly}
use Rattle.world.proofs.Accepted.{still_world}
use Rattle.world.proofs.world.World.step.Goals as goal

pub invariant_of-self : goal.invariant_of-self
invariant_of-self g c =
    still_world _ _ c.step.new.self c.args.event c.self.invariant c.step.result
    (subst (λ (w : Worldly g.row.G.Denot). IsEventOf w.running.params (nodes_of w.running.params) w.running.beats c.args.event) (sym c.self.view_is) c.requires)
    c.step.ensures.left c.step.ensures.done

pub returns-clause-done : goal.returns-clause-done
returns-clause-done g c =
    on_ok_weaker c.step.result
    (λ d. subst (λ (w : Worldly g.row.G.Denot). HasStepped noted any_step w.running c.args.event c.step.new.self) c.self.view_is d) c.step.ensures.done
