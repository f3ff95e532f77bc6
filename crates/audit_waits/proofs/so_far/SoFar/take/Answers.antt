use Rattle.std.proofs.Common.{ℕ, Bool, List, subst, sym}
use Rattle.audit_waits.specs.Starts.{AreAsked, AreDisksOf}
use Rattle.audit_waits.proofs.so_far.SoFar.take.Goals as goal

pub returns-clause-tells : goal.returns-clause-tells
returns-clause-tells c = λ orders m h. record {
  disks = subst (λ (ds : List (ℕ × ℕ)). AreDisksOf ds orders) (sym c.in_ok-take.ensures.disks) h.disks;
  asked = subst (λ (marks : List Bool). AreAsked marks orders) (sym c.in_ok-take.ensures.asked) h.asked;
  starts = c.in_ok-take.ensures.tells m h.starts;
  holders = c.in_ok-kept.ensures.tells c.args.plan.now.params m h.holders;
  cubs = c.in_ok-take-2.ensures m h.cubs;
}
