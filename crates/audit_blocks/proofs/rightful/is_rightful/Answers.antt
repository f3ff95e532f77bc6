use Rattle.std.proofs.Common.{List, ap, ◌∙◌, ◌&&◌, nat_le}
use Rattle.std.specs.List.{list_any}
use Rattle.tiger_base.specs.declared.tenancy.Tenancy.{Tenancy}
use Rattle.audit_blocks.specs.Rightful.{fits_tenancy}
use Rattle.audit_blocks.proofs.Bridging.{put_lines}
use Rattle.audit_blocks.proofs.Choosing.{both_true, first_not}
use Rattle.audit_blocks.proofs.rightful.is_rightful.Goals as goal

pub returns : goal.returns
returns c =
    let k = c.args.k.now in
    let want = c.args.cargo.now.receipt.want in
    let fits = fits_tenancy k.course.plan.params k.catalogue c.args.cargo.now in
    both_true _ _ _ _ c.is_in_shape.ensures c.if-not-is_in_shape.false
    (c.some_fits.ensures
    ∙ (ap (λ (ts : List Tenancy). list_any (λ t. nat_le t.first want.visit && nat_le want.visit t.last && fits t) ts) c.puts_of.ensures
    ∙ put_lines want.instance.0 want.visit fits k.journals))

pub returns-then-not-is_in_shape : goal.returns-then-not-is_in_shape
returns-then-not-is_in_shape c = first_not _ _ _ c.is_in_shape.ensures c.if-not-is_in_shape.true
