use Rattle.std.proofs.Common.{ℕ, not, ◌&&◌, Bool, List, refl, ap, ◌∙◌}
use Rattle.std.specs.List.{list_any}
use Rattle.audit_frame.specs.Tables.{has_pair}
use Rattle.audit_waits.proofs.Grouped.{all_leave, group_between, leaves_pair, none_left, one_left}
use Rattle.audit_waits.proofs.groups.Groups.leave.Goals as goal

pub loop-pair-init : goal.loop-pair-init
loop-pair-init c = record {
  told = λ g n. ap (λ (b : Bool). has_pair g n c.args.self.now && not b)
      (ap (λ (ks : List (ℕ × ℕ)). list_any (leaves_pair c.args.number g n) ks)
      (c.into_iter-pair-iterator.ensures.into_iter_gives ∙ c.range-pair-items.ensures.between tt ∙ group_between c.args.number _ _ _ _ refl refl c.groups.view_is)
      ∙ all_leave c.args.number g n c.args.groups.now);
}

pub loop-pair-preserved : goal.loop-pair-preserved
loop-pair-preserved c = record {
  told = λ g n. one_left c.args.number g n c.in-Some.pair.now _ _ _ _ _
      c.in-Some.ensures.steps (c.leave_one.ensures g n) (c.loop-pair.invariant.told g n);
}

pub returns : goal.returns
returns c = λ g n.
    none_left c.args.number g n _ _ _ c.in-None.ensures.steps.0 (c.loop-pair.invariant.told g n)
