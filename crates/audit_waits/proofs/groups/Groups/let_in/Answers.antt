use Rattle.std.proofs.Common.{ℕ, ◌||◌, Bool, List, refl, ap, ◌∙◌}
use Rattle.std.specs.List.{list_any}
use Rattle.audit_frame.specs.Tables.{has_pair}
use Rattle.audit_waits.proofs.Grouped.{all_pairs, group_between, lets_pair, pair_let_in, pairs_end}
use Rattle.audit_waits.proofs.groups.Groups.let_in.Goals as goal

pub loop-pair-init : goal.loop-pair-init
loop-pair-init c = record {
  told = λ d n. ap (λ (b : Bool). has_pair d n c.args.self.now || b)
      (ap (λ (ks : List (ℕ × ℕ)). list_any (lets_pair c.args.plan.now.params c.args.redundant c.args.node.0 c.args.v.0 d n) ks)
      (c.into_iter-pair-iterator.ensures.into_iter_gives ∙ c.range-pair-items.ensures.between tt ∙ group_between c.args.v.0 _ _ _ _ refl refl c.disks.view_is)
      ∙ all_pairs c.args.plan.now.params c.args.redundant c.args.node.0 c.args.v.0 d n c.args.disks.now);
}

pub loop-pair-preserved : goal.loop-pair-preserved
loop-pair-preserved c = record {
  told = λ d n. pair_let_in c.args.plan.now.params c.args.redundant c.args.node.0 c.args.v.0 d n c.in-Some.pair.now _ _ _ _ _
      c.in-Some.ensures.steps (c.in_ok-let_in_at.ensures d n) (c.loop-pair.invariant.told d n);
}

pub returns : goal.returns
returns c = λ d n.
    pairs_end (lets_pair c.args.plan.now.params c.args.redundant c.args.node.0 c.args.v.0 d n) _ _ _ c.in-None.ensures.steps.0
    (c.loop-pair.invariant.told d n)
