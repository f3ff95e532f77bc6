use Rattle.audit_frame.specs.Lines.{noted_line}
use Rattle.audit_blocks.proofs.Righting.{rightful_entry, other_entry}
use Rattle.audit_blocks.proofs.rightful.is_of_put_if_viewers.Goals as goal

pub returns-in-Some : goal.returns-in-Some
returns-in-Some c =
    let k = c.args.k.now in
    rightful_entry k.course.plan.params k.catalogue k.journals (noted_line c.args.line.now) c.cargo_got.result c.in-Some.cargo c.is_rightful.result
    c.cargo_got.ensures c.in-Some.is c.is_rightful.ensures

pub returns-in-None : goal.returns-in-None
returns-in-None c =
    let k = c.args.k.now in
    other_entry k.course.plan.params k.catalogue k.journals (noted_line c.args.line.now) c.cargo_got.result c.cargo_got.ensures c.in-None.is
