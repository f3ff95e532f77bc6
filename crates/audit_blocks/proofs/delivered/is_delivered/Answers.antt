use Rattle.std.proofs.Common.{List, ap, ◌∙◌, ◌&&◌, nat_le}
use Rattle.std.specs.List.{list_any}
use Rattle.tiger_base.specs.declared.tenancy.Tenancy.{Tenancy}
use Rattle.run_model.specs.Tests.{came}
use Rattle.audit_blocks.proofs.Bridging.{put_lines}
use Rattle.audit_blocks.proofs.delivered.is_delivered.Goals as goal

pub returns : goal.returns
returns c =
    let k = c.args.k.now in
    let test = came k.course.plan.params k.catalogue k.journals c.args.n in
    c.some_came.ensures
    ∙ (ap (λ (ts : List Tenancy). list_any (λ t. nat_le t.first c.args.n && nat_le c.args.n t.last && test t) ts) c.puts_of.ensures
    ∙ put_lines c.args.v.0 c.args.n test k.journals)
