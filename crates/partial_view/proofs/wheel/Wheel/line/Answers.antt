use Rattle.std.proofs.Common.{◌∙◌, sym, ap}
use Rattle.std.proofs.lemmas.Bool.{ltb-true, ltb-false}
use Rattle.partial_view.specs.Views.{Seen, line_at}
use Rattle.partial_view.proofs.Rounds.{bucket-is, due-is, line-in, line-past, seen-of, wheel-lent}
use Rattle.partial_view.proofs.wheel.Wheel.line.Goals as goal

pub returns-in_err-bucket : goal.returns-in_err-bucket
returns-in_err-bucket c =
    c.from_residual.ensures
    ∙ (sym (line-past c.self.inside.plan.params c.deref.result.now c.args.key (wheel-lent c.self.inside.plan.params c.self.inside.buckets.items c.deref.result.now c.deref.ensures.value c.self.invariant.0)
    (bucket-is c.self.inside.plan.params c.args.key c.at-turn.ensures.bucket (due-is c.self.inside.plan.params c.args.key c.self.view_is c.requires)) (ltb-false _ _ (sym c.in_err-bucket.ensures.lookup.0)))
    ∙ ap (λ (s : Seen). line_at c.args.key s.lines) (seen-of c.self.inside.plan.params c.self.inside.buckets.items c.deref.result.now c.self.view_is c.deref.ensures.value))

pub returns-in_err-row : goal.returns-in_err-row
returns-in_err-row c =
    c.from_residual-in_err-row.ensures
    ∙ (sym c.in_err-row.ensures
    ∙ (line-in c.self.inside.plan.params c.deref.result.now c.at-turn.result.bucket c.in_ok-bucket.bucket.now (wheel-lent c.self.inside.plan.params c.self.inside.buckets.items c.deref.result.now c.deref.ensures.value c.self.invariant.0)
    (ltb-true _ _ (sym c.in_ok-bucket.ensures.lookup.0)) c.in_ok-bucket.ensures.lookup.1 c.args.key (bucket-is c.self.inside.plan.params c.args.key c.at-turn.ensures.bucket (due-is c.self.inside.plan.params c.args.key c.self.view_is c.requires))
    ∙ ap (λ (s : Seen). line_at c.args.key s.lines) (seen-of c.self.inside.plan.params c.self.inside.buckets.items c.deref.result.now c.self.view_is c.deref.ensures.value)))

pub returns : goal.returns
returns c =
    sym c.line_at.ensures
    ∙ (c.in_ok-row.ensures.1
    ∙ (line-in c.self.inside.plan.params c.deref.result.now c.at-turn.result.bucket c.in_ok-bucket.bucket.now (wheel-lent c.self.inside.plan.params c.self.inside.buckets.items c.deref.result.now c.deref.ensures.value c.self.invariant.0)
    (ltb-true _ _ (sym c.in_ok-bucket.ensures.lookup.0)) c.in_ok-bucket.ensures.lookup.1 c.args.key (bucket-is c.self.inside.plan.params c.args.key c.at-turn.ensures.bucket (due-is c.self.inside.plan.params c.args.key c.self.view_is c.requires))
    ∙ ap (λ (s : Seen). line_at c.args.key s.lines) (seen-of c.self.inside.plan.params c.self.inside.buckets.items c.deref.result.now c.self.view_is c.deref.ensures.value)))
