use Rattle.std.proofs.Common.{◌≡◌, List, arith, subst, sym}
use Rattle.std.proofs.lemmas.Grind.{common_steps}
use Rattle.std.proofs.lemmas.List.Kept.{IsNonDecreasingBy-filter}
use Rattle.std.proofs.lemmas.List.Sums.{length-filter, count_by-le-length}
use Rattle.deschedule.specs.declared.held.Holding.{Holding}
use Rattle.deschedule.specs.Holds.{holds_at, is_kept}
use Rattle.deschedule.specs.Order.{EndInOrder}
use Rattle.deschedule.proofs.Ends.{all_stay, held_left}
use Rattle.deschedule.proofs.held.Held.expire.Goals as goal

-- nothing has ended yet
pub returns-then-reading-self-clause-after : goal.returns-then-reading-self-clause-after
returns-then-reading-self-clause-after c =
    subst (λ (hs : List Holding). hs ≡ holds_at hs c.args.reading) c.self.view_is
    (sym (all_stay c.self.inside.none_ends_before c.args.reading c.self.inside.holds.items c.self.invariant.held.from c.if-reading-self.true))

pub overflow_sub-result : goal.overflow_sub-result
overflow_sub-result c =
    let l = length-filter (is_kept c.args.reading) c.self.inside.holds.items in
    let m = count_by-le-length (is_kept c.args.reading) c.self.inside.holds.items in
    grind (arith, common_steps)

pub release-self-inside-requires : goal.release-self-inside-requires
release-self-inside-requires c = c.self.invariant.order

pub invariant_of-self : goal.invariant_of-self
invariant_of-self c = record {
  held =
      held_left c.self.inside.none_ends_before c.self.inside.held.items c.self.inside.unpassed.items c.self.inside.holds.items c.self.invariant.held _ c.args.reading _ _ _
      c.release-self-inside.ensures.held c.release-self-inside.ensures.unpassed c.release-self-inside.ensures.left c.release-self-inside.ensures.from;
  order = λ so. subst (λ (hs : List Holding). EndInOrder hs) (sym c.release-self-inside.ensures.left) (IsNonDecreasingBy-filter (λ (h : Holding). h.until) (is_kept c.args.reading) c.self.inside.holds.items (c.self.invariant.order so));
}

pub returns-clause-count : goal.returns-clause-count
returns-clause-count c =
    let l = length-filter (is_kept c.args.reading) c.self.inside.holds.items in
    let m = count_by-le-length (is_kept c.args.reading) c.self.inside.holds.items in
    grind (arith, common_steps)
