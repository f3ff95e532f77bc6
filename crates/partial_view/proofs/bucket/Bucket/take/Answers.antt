use Rattle.std.proofs.Common.{◌≡◌, ap, subst, arith, length, IfSome, slice_get}
use Rattle.partial_view.specs.Lines.{key_of}
use Rattle.partial_view.specs.Views.{Seen, without}
use Rattle.partial_view.proofs.Calls.{record_of}
use Rattle.partial_view.proofs.Rows.{row-taken, walk-taken}
use Rattle.partial_view.proofs.bucket.Bucket.take.Goals as goal

pub invariant_of-self : goal.invariant_of-self
invariant_of-self c =
    walk-taken c.self.inside.lines c.remove.new.self c.args.row c.self.invariant (omega (arith, c.requires, ap (λ (s : Seen). length s.lines) c.self.view_is)) c.remove.ensures.left

pub returns : goal.returns
returns c =
    subst (λ (s : Seen). IfSome (slice_get s.lines c.args.row) (λ x. c.remove.new.self ≡ record_of s.params (without (key_of x) s.lines))) c.self.view_is
    (row-taken c.self.inside.lines c.remove.new.self c.args.row c.self.invariant (omega (arith, c.requires, ap (λ (s : Seen). length s.lines) c.self.view_is)) c.remove.ensures.left)
