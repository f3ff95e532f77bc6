use Rattle.audit_views.proofs.Members.{first_of_none}
use Rattle.audit_views.proofs.seated.have_none.Goals as goal

pub returns : goal.returns
returns c =
    first_of_none c.next.result c.is_none.result c.args.v.0 c.under.result c.next.new.self c.args.records.now c.is_none.ensures c.next.ensures.steps
    c.under.ensures
