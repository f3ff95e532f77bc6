use Rattle.std.proofs.Common.{ap, sym, ◌∙◌, List, arith}
use Rattle.mirror_schedule.specs.Splits.{Split, ends_before, split_before, with_split}
use Rattle.mirror_schedule.specs.Sorted.{with_one}
use Rattle.mirror_schedule.proofs.KeptSplits.{kept_more, seen_more, seen_there}
use Rattle.mirror_schedule.proofs.NotedSplits.{noted_more, noted_still}
use Rattle.mirror_schedule.proofs.Orders.{put_high}
use Rattle.mirror_schedule.proofs.splits.Splits.remember.Goals as goal

pub insert-requires : goal.insert-requires
insert-requires c =
    omega (arith, put_high ends_before ((c.args.instance, c.args.slot, c.args.visit), c.end_of.result) c.self.inside.items.items c.in-Some.place c.in-Some.ensures, c.self.inside.items.ok.0)

pub invariant_of-self-in-Some : goal.invariant_of-self-in-Some
invariant_of-self-in-Some c = record {
  kept = kept_more c.self.inside.plan.params c.self.inside.items.items c.insert.new.self.items c.in-Some.place ((c.args.instance, c.args.slot, c.args.visit), c.end_of.result)
      c.in_ok-insert-in-Some.ensures.items c.self.invariant.kept c.end_of.ensures c.in-Some.ensures;
  noted = noted_more c.note.new.marks.items c.self.inside.items.items c.insert.new.self.items c.in-Some.place ((c.args.instance, c.args.slot, c.args.visit), c.end_of.result) c.in_ok-insert-in-Some.ensures.items
      (noted_still c.self.inside.marks.items c.note.new.marks.items c.self.inside.items.items c.note.ensures.others c.self.invariant.noted) c.in_ok-note-in-Some.ensures.noted;
}

pub returns-in_ok-insert-in-Some-clause-ok : goal.returns-in_ok-insert-in-Some-clause-ok
unfolding with_split
returns-in_ok-insert-in-Some-clause-ok c =
    seen_more c.self.inside.plan.params c.self.inside.items.items c.insert.new.self.items c.in-Some.place ((c.args.instance, c.args.slot, c.args.visit), c.end_of.result) c.in_ok-insert-in-Some.ensures.items
    ∙ ap (λ (ys : List Split). with_one split_before (c.args.instance, c.args.slot, c.args.visit) ys) c.self.view_is

pub returns-in-None-clause-ok : goal.returns-in-None-clause-ok
unfolding with_split
returns-in-None-clause-ok c =
    sym c.self.view_is
    ∙ (sym (seen_there ((c.args.instance, c.args.slot, c.args.visit), c.end_of.result) 0 c.self.inside.items.items c.in-None.ensures)
    ∙ ap (λ (ys : List Split). with_one split_before (c.args.instance, c.args.slot, c.args.visit) ys) c.self.view_is)
