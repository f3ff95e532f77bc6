use Rattle.std.proofs.lemmas.Result.{on_ok_weaker}
use Rattle.cub_messages.proofs.Adding.{added_is}
use Rattle.cub_messages.proofs.pieces.add_new.Goals as goal

pub returns-clause-after : goal.returns-clause-after
returns-clause-after c =
    on_ok_weaker c.add.result (λ e. added_is c.args.piece c.args.pieces.now c.add.new.self c.are_in_order.ensures e) c.add.ensures.ok
