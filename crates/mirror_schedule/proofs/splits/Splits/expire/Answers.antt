use Rattle.std.proofs.Common.{List, not, nat_le, subst, sym, ap, ◌≡◌, ◌∙◌, count_by}
use Rattle.std.specs.List.{AllByRecursion, filter}
use Rattle.mirror_schedule.specs.Splits.{Split, IsSplitOf, is_over}
use Rattle.mirror_schedule.proofs.Endings.{over_told_all, same_told}
use Rattle.mirror_schedule.proofs.KeptSplits.{each_timed, kept_left, seen_count, seen_left}
use Rattle.mirror_schedule.proofs.NotedSplits.{noted_left}
use Rattle.mirror_schedule.proofs.splits.Splits.expire.Goals as goal
use Rattle.mirror_schedule.proofs.splits.Splits.expire.Goals.{After-forget_ended}

pub forget_over-requires : goal.forget_over-requires
forget_over-requires c =
    each_timed (IsSplitOf c.args.plan.now.params) c.self.inside.items.items
    (subst (λ (xs : List Split). AllByRecursion (IsSplitOf c.args.plan.now.params) xs) (sym c.self.view_is) c.requires)

-- what the ends tell, under the plan that is given
told : (c : goal.After-forget_ended) → AllByRecursion (λ x. nat_le x.1 c.args.reading ≡ is_over c.args.plan.now.params c.args.reading x.0) c.self.inside.items.items
told c =
    over_told_all c.self.inside.plan.params c.args.plan.now.params c.args.reading (sym c.has_same_times.ensures ∙ c.if-has_same_times.true) c.self.inside.items.items
    (each_timed (IsSplitOf c.args.plan.now.params) c.self.inside.items.items
    (subst (λ (xs : List Split). AllByRecursion (IsSplitOf c.args.plan.now.params) xs) (sym c.self.view_is) c.requires))
    c.self.invariant.kept.ends

pub invariant_of-self : goal.invariant_of-self
invariant_of-self c = record {
  kept = kept_left c.self.inside.plan.params (λ x. not (nat_le x.1 c.args.reading)) c.self.inside.items.items c.forget_ended.new.items.items c.self.invariant.kept c.forget_ended.ensures.left;
  noted = noted_left c.self.inside.marks.items (λ x. not (nat_le x.1 c.args.reading)) c.self.inside.items.items c.forget_ended.new.items.items c.forget_ended.ensures.left c.self.invariant.noted;
}

pub invariant_of-self-else-has_same_times : goal.invariant_of-self-else-has_same_times
invariant_of-self-else-has_same_times c = record {
  kept = kept_left c.self.inside.plan.params (λ x. not (is_over c.args.plan.now.params c.args.reading x.0)) c.self.inside.items.items c.forget_over.new.items.items c.self.invariant.kept c.forget_over.ensures.left;
  noted = noted_left c.self.inside.marks.items (λ x. not (is_over c.args.plan.now.params c.args.reading x.0)) c.self.inside.items.items c.forget_over.new.items.items c.forget_over.ensures.left c.self.invariant.noted;
}

pub returns-then-has_same_times-clause-count : goal.returns-then-has_same_times-clause-count
returns-then-has_same_times-clause-count c =
    seen_count (λ x. nat_le x.1 c.args.reading) (is_over c.args.plan.now.params c.args.reading) c.self.inside.items.items
    (told (goal.at.returns-then-has_same_times-clause-count c).After-forget_ended) c.self.inside.plan.params c.forget_ended.result c.self.invariant.kept c.forget_ended.ensures.count
    ∙ ap (λ (xs : List Split). count_by (is_over c.args.plan.now.params c.args.reading) xs) c.self.view_is

pub returns-then-has_same_times-clause-left : goal.returns-then-has_same_times-clause-left
returns-then-has_same_times-clause-left c =
    seen_left (λ x. nat_le x.1 c.args.reading) (is_over c.args.plan.now.params c.args.reading) c.self.inside.items.items
    (told (goal.at.returns-then-has_same_times-clause-left c).After-forget_ended) c.forget_ended.new.items.items c.forget_ended.ensures.left
    ∙ ap (λ (xs : List Split). filter (λ x. not (is_over c.args.plan.now.params c.args.reading x)) xs) c.self.view_is

pub returns-else-has_same_times-clause-count : goal.returns-else-has_same_times-clause-count
returns-else-has_same_times-clause-count c =
    seen_count (λ x. is_over c.args.plan.now.params c.args.reading x.0) (is_over c.args.plan.now.params c.args.reading) c.self.inside.items.items
    (same_told c.args.plan.now.params c.args.reading c.self.inside.items.items) c.self.inside.plan.params c.forget_over.result c.self.invariant.kept c.forget_over.ensures.count
    ∙ ap (λ (xs : List Split). count_by (is_over c.args.plan.now.params c.args.reading) xs) c.self.view_is

pub returns-else-has_same_times-clause-left : goal.returns-else-has_same_times-clause-left
returns-else-has_same_times-clause-left c =
    seen_left (λ x. is_over c.args.plan.now.params c.args.reading x.0) (is_over c.args.plan.now.params c.args.reading) c.self.inside.items.items
    (same_told c.args.plan.now.params c.args.reading c.self.inside.items.items) c.forget_over.new.items.items c.forget_over.ensures.left
    ∙ ap (λ (xs : List Split). filter (λ x. not (is_over c.args.plan.now.params c.args.reading x)) xs) c.self.view_is
