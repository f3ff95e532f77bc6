use Rattle.std.proofs.lemmas.Result.{on_ok_weaker}
use Rattle.kept_worlds.specs.Events.{lost_told}
use Rattle.kept_worlds.proofs.Pushing.{node-next}
use Rattle.kept_worlds.proofs.telling.push_node.Goals as goal

pub returns : goal.returns
returns c = on_ok_weaker c.push_ends.result
    (λ e. node-next c.args.course.now c.args.node.0 (lost_told c.args.course.now c.args.journals.now c.args.node.0) c.args.journal.now
    _ _ _ _ _ c.as_slice-entries.ensures c.in_ok-push_backs.ensures c.in_ok-push_gets.ensures e) c.push_ends.ensures
