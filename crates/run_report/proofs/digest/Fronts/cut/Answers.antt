use Rattle.std.proofs.Common.{◌≡◌, take, subst}
use Rattle.run_report.specs.Digests.{Hashed, spans_of}
use Rattle.run_report.proofs.Hashing.{fronts-cut, spans-cut}
use Rattle.run_report.proofs.digest.Fronts.cut.Goals as goal

pub invariant_of-self : goal.invariant_of-self
invariant_of-self c = (
  fronts-cut c.self.inside.library.now c.self.inside.fronts.items _ c.args.n
      c.truncate.ensures.items c.self.invariant.0,
  tt,
)

pub returns-then-n-len-clause-spans : goal.returns-then-n-len-clause-spans
returns-then-n-len-clause-spans c =
    subst (λ (h : Hashed). spans_of c.truncate.new.self.items ≡ take c.args.n h.spans) c.self.view_is
    (spans-cut c.self.inside.fronts.items _ c.args.n c.truncate.ensures.items)
