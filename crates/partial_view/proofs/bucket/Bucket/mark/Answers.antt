use Rattle.std.proofs.Common.{◌≡◌, ap, subst, arith, length, IfSome, slice_get}
use Rattle.partial_view.specs.Lines.{key_of}
use Rattle.partial_view.specs.Views.{Seen, with_mark}
use Rattle.partial_view.proofs.Calls.{record_of}
use Rattle.partial_view.proofs.Rows.{row-marked, walk-marked}
use Rattle.partial_view.proofs.bucket.Bucket.mark.Goals as goal

pub invariant_of-self : goal.invariant_of-self
invariant_of-self c =
    walk-marked c.self.inside.lines c.mark.new.self c.args.row c.self.invariant (omega (arith, c.requires, ap (λ (s : Seen). length s.lines) c.self.view_is)) c.args.flag c.mark.ensures

pub returns : goal.returns
returns c =
    subst (λ (s : Seen). IfSome (slice_get s.lines c.args.row) (λ x. c.mark.new.self ≡ record_of s.params (with_mark (key_of x) c.args.flag s.lines))) c.self.view_is
    (row-marked c.self.inside.lines c.mark.new.self c.args.row c.self.invariant (omega (arith, c.requires, ap (λ (s : Seen). length s.lines) c.self.view_is)) c.args.flag c.mark.ensures)
