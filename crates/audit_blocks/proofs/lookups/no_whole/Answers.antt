use Rattle.audit_blocks.proofs.Answering.{none_of}
use Rattle.audit_blocks.proofs.Bridging.{whole_lines}
use Rattle.audit_blocks.proofs.lookups.no_whole.Goals as goal

pub returns : goal.returns
returns c =
    let k = c.args.k.now in
    none_of _ _ c.is_none.result _ _ c.is_none.ensures c.get.ensures (c.requires.whole c.args.v.0 c.args.n)
    (whole_lines k.course.plan.params c.args.v.0 c.args.n k.journals)
