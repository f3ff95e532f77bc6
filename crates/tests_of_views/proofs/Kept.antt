-- Split visits of the small plan, with one more, with one fewer, and some that are left.
use Rattle.std.proofs.Common.{◌≡◌, Bool, List, sym, subst}
use Rattle.std.specs.List.{AllByRecursion, filter}
use Rattle.slot_plan.specs.Samples.{small}
use Rattle.mirror_schedule.specs.Sorted.{without_first}
use Rattle.mirror_schedule.specs.Splits.{Split, IsSplitOf, split_before, with_split}
use Rattle.mirror_schedule.proofs.Orders.{all_filter, all_with_one, all_without_first}

pub kept_more : (x : Split) (old new : List Split) → AllByRecursion (IsSplitOf small) old → IsSplitOf small x → new ≡ with_split x old → AllByRecursion (IsSplitOf small) new
unfolding with_split
kept_more x old new h here e =
    subst (λ (xs : List Split). AllByRecursion (IsSplitOf small) xs) (sym e) (all_with_one split_before (IsSplitOf small) x old h here)

pub kept_fewer : (test : Split → Bool) (old new : List Split) → AllByRecursion (IsSplitOf small) old → new ≡ without_first test old → AllByRecursion (IsSplitOf small) new
kept_fewer test old new h e = subst (λ (xs : List Split). AllByRecursion (IsSplitOf small) xs) (sym e) (all_without_first split_before (IsSplitOf small) test old h)

pub kept_left : (test : Split → Bool) (old new : List Split) → AllByRecursion (IsSplitOf small) old → new ≡ filter test old → AllByRecursion (IsSplitOf small) new
kept_left test old new h e = subst (λ (xs : List Split). AllByRecursion (IsSplitOf small) xs) (sym e) (all_filter (IsSplitOf small) test old h)
