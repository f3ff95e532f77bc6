use Rattle.run_model.proofs.Ends.{carried}
use Rattle.run_model.proofs.carrying.carried.Goals as goal

pub returns : goal.returns
returns c =
    rw c.all_at_ends.ensures
    (carried c.args.k.now c.new-links.result c.new-links.ensures (c.all_links_carry.ensures.0 c.if-not-all_links_carry.false))
