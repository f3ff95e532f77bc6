use Rattle.std.proofs.Common.{sym, ap, ◌∙◌, arith}
use Rattle.partial_view.specs.Views.{Seen}
use Rattle.partial_view.specs.Wheel.{bucket_lines}
use Rattle.partial_view.proofs.Rounds.{bucket-found, bucket-missed}
use Rattle.partial_view.proofs.wheel.Wheel.bucket.Goals as goal

pub returns-then-len-i : goal.returns-then-len-i
returns-then-len-i c =
    sym (bucket-missed c.self.inside.plan.params c.self.inside.buckets.items c.args.i c.self.invariant.0 (omega (arith, c.if-len-i.true, c.len.ensures))) ∙ ap (λ (s : Seen). bucket_lines s.params c.args.i s.lines) c.self.view_is

pub returns : goal.returns
returns c =
    let found = bucket-found c.self.inside.plan.params c.self.inside.buckets.items c.args.i c.index.result.now c.self.invariant.0 (omega (arith, c.if-len-i.false, c.len.ensures)) c.index.ensures in
    c.lines.ensures ∙ (found.1 ∙ ap (λ (s : Seen). bucket_lines s.params c.args.i s.lines) c.self.view_is)
