use Rattle.std.proofs.Common.{◌∙◌, ap, List}
use Rattle.std.specs.Prelude.{Option}
use Rattle.run_model.specs.declared.parcels.Parcel.{Parcel}
use Rattle.run_model.specs.Tests.{only}
use Rattle.audit_blocks.specs.declared.receipts.Came.{Came}
use Rattle.audit_blocks.specs.Told.{only_came}
use Rattle.audit_blocks.proofs.Bridging.{numbered_lines}
use Rattle.audit_blocks.proofs.lookups.only_piece.Goals as goal

pub returns : goal.returns
returns c =
    let k = c.args.k.now in
    c.only_receipt.ensures
    ∙ (ap (λ (o : Option Came). only_came o) c.get.ensures
    ∙ ((c.requires.piece c.args.v.0 c.args.n c.args.piece).one
    ∙ ap (λ (ps : List Parcel). only ps) (numbered_lines k.course.plan.params c.args.v.0 c.args.n c.args.piece k.journals)))
