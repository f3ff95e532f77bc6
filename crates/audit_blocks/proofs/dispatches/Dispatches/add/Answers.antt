use Rattle.audit_blocks.specs.Dispatches.{dispatch_of}
use Rattle.audit_blocks.proofs.Keyed.{dispatch_added}
use Rattle.audit_blocks.proofs.dispatches.Dispatches.add.Goals as goal

pub returns : goal.returns
returns c = λ d x q. dispatch_added c.args.cub d c.args.whole x c.args.receipt.now q _ _ _ _ c.self.view_is
    c.dispatch_of.ensures (c.in_ok-insert.ensures.updates.0 (dispatch_of d x q))
