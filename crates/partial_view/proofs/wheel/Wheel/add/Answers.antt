use Rattle.std.proofs.Common.{◌∙◌, ap, subst, Option, IfOk, OnOk, ◌≡◌, List}
use Rattle.std.specs.List.{slice_set}
use Rattle.partial_view.specs.declared.line.Line.{Line}
use Rattle.partial_view.specs.Adding.{answer_at}
use Rattle.partial_view.specs.Lines.{visit_of}
use Rattle.partial_view.specs.Views.{Seen, line_at, with_record}
use Rattle.partial_view.specs.Wheel.{all_lines}
use Rattle.partial_view.proofs.Calls.{key-along}
use Rattle.partial_view.proofs.Rounds.{bucket-is, due-is, line-in, tried-wheel, tried-lines, seen-ok}
use Rattle.partial_view.proofs.wheel.Wheel.add.Goals as goal

pub invariant_of-self-2 : goal.invariant_of-self-2
invariant_of-self-2 c = (
  tried-wheel c.self.inside.plan.params c.grow.new.buckets.items c.at-self-inside.result.bucket c.index_mut.result.now c.in_ok-grow.ensures.wheel c.in_ok-grow.ensures.there c.index_mut.ensures.value
      c.args.rec c.add.new.self (bucket-is c.self.inside.plan.params (visit_of c.args.rec) c.at-self-inside.ensures.bucket (due-is c.self.inside.plan.params (visit_of c.args.rec) c.self.view_is c.requires.due))
      c.add.result (key-along c.self.inside.plan.params _ (visit_of c.args.rec) c.self.view_is c.requires.key) c.add.ensures.ok c.add.ensures.err,
  c.at-self-inside.ensures.turn.0,
)

pub returns-clause-answer : goal.returns-clause-answer
returns-clause-answer c =
    subst (λ (o : Option Line). IfOk c.add.result (λ added. added ≡ answer_at c.args.rec.tenancy.instance o))
    (line-in c.self.inside.plan.params c.grow.new.buckets.items c.at-self-inside.result.bucket c.index_mut.result.now c.in_ok-grow.ensures.wheel c.in_ok-grow.ensures.there c.index_mut.ensures.value (visit_of c.args.rec)
    (bucket-is c.self.inside.plan.params (visit_of c.args.rec) c.at-self-inside.ensures.bucket (due-is c.self.inside.plan.params (visit_of c.args.rec) c.self.view_is c.requires.due))
    ∙ (ap (λ (ls : List Line). line_at (visit_of c.args.rec) ls) c.in_ok-grow.ensures.lines ∙ ap (λ (s : Seen). line_at (visit_of c.args.rec) s.lines) c.self.view_is)) c.add.ensures.answer

pub returns-clause-ok : goal.returns-clause-ok
returns-clause-ok c =
    seen-ok c.self.inside.plan.params (all_lines c.self.inside.plan.params c.self.inside.buckets.items) _ (λ p ls. with_record p c.args.rec ls) c.add.result c.self.view_is
    (subst (λ (ls : List Line). OnOk c.add.result (all_lines c.self.inside.plan.params (slice_set c.grow.new.buckets.items c.at-self-inside.result.bucket c.add.new.self) ≡ with_record c.self.inside.plan.params c.args.rec ls)) c.in_ok-grow.ensures.lines
    (tried-lines c.self.inside.plan.params c.grow.new.buckets.items c.at-self-inside.result.bucket c.index_mut.result.now c.in_ok-grow.ensures.wheel c.in_ok-grow.ensures.there c.index_mut.ensures.value
    c.args.rec c.add.new.self (bucket-is c.self.inside.plan.params (visit_of c.args.rec) c.at-self-inside.ensures.bucket (due-is c.self.inside.plan.params (visit_of c.args.rec) c.self.view_is c.requires.due)) c.add.result c.add.ensures.ok))
