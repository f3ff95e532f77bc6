use Rattle.std.proofs.Common.{option_map, find, sym, ap, ◌∙◌, List}
use Rattle.mirror_schedule.specs.Splits.{Split, is_of, key_of}
use Rattle.mirror_schedule.specs.Sorted.{without_first}
use Rattle.mirror_schedule.proofs.KeptSplits.{found_seen, kept_fewer, none_seen, seen_without, taken}
use Rattle.mirror_schedule.proofs.NotedSplits.{noted_without}
use Rattle.mirror_schedule.proofs.Onlys.{noted_taken}
use Rattle.mirror_schedule.proofs.splits.Splits.take_of.Goals as goal

pub find_first-requires : goal.find_first-requires
find_first-requires c = c.self.invariant.noted

pub invariant_of-self : goal.invariant_of-self
invariant_of-self c = record {
  kept = kept_fewer c.self.inside.plan.params c.args.instance c.self.inside.items.items (c.in-Some.x, c.in-Some.place) c.self.invariant.kept c.in-Some.ensures.first
      c.remove.result c.self.inside.items.len c.remove.new.self.items c.self.inside.items.ok.0 c.remove.ensures.variant c.remove.ensures.items;
  noted = noted_taken c.self.inside.marks.items c.forget_if.new.marks.items c.args.instance c.self.inside.items.items c.remove.new.self.items (c.in-Some.x, c.in-Some.place) c.in-Some.only
      (taken c.self.inside.plan.params c.args.instance c.self.inside.items.items (c.in-Some.x, c.in-Some.place) c.self.invariant.kept c.in-Some.ensures.first
      c.remove.result c.self.inside.items.len c.remove.new.self.items c.self.inside.items.ok.0 c.remove.ensures.variant c.remove.ensures.items)
      c.forget_if.ensures c.in-Some.ensures.only c.in-Some.ensures.first c.self.invariant.noted;
}

pub invariant_of-self-in-None : goal.invariant_of-self-in-None
invariant_of-self-in-None c = record {
  kept = c.self.invariant.kept;
  noted = noted_without c.self.inside.marks.items c.forget.new.marks.items c.args.instance c.self.inside.items.items c.forget.ensures c.in-None.ensures.first c.self.invariant.noted;
}

pub returns-in-Some-clause-first : goal.returns-in-Some-clause-first
returns-in-Some-clause-first c =
    sym (ap (λ o. option_map key_of o) (ap (λ (xs : List Split). find (is_of c.args.instance) xs) (sym c.self.view_is)
    ∙ found_seen c.self.inside.plan.params c.args.instance c.self.inside.items.items (c.in-Some.x, c.in-Some.place) c.self.invariant.kept c.in-Some.ensures.first))

pub returns-in-Some-clause-left : goal.returns-in-Some-clause-left
returns-in-Some-clause-left c =
    seen_without c.self.inside.plan.params c.args.instance c.self.inside.items.items (c.in-Some.x, c.in-Some.place) c.self.invariant.kept c.in-Some.ensures.first
    c.remove.result c.self.inside.items.len c.remove.new.self.items c.self.inside.items.ok.0 c.remove.ensures.variant c.remove.ensures.items
    ∙ ap (λ (xs : List Split). without_first (is_of c.args.instance) xs) c.self.view_is

pub returns-in-None-clause-first : goal.returns-in-None-clause-first
returns-in-None-clause-first c =
    sym (ap (λ o. option_map key_of o) (ap (λ (xs : List Split). find (is_of c.args.instance) xs) (sym c.self.view_is) ∙ (none_seen (is_of c.args.instance) c.self.inside.items.items c.in-None.ensures.first).found))

pub returns-in-None-clause-left : goal.returns-in-None-clause-left
returns-in-None-clause-left c =
    sym (none_seen (is_of c.args.instance) c.self.inside.items.items c.in-None.ensures.first).left ∙ ap (λ (xs : List Split). without_first (is_of c.args.instance) xs) c.self.view_is
