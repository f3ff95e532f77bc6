use Rattle.std.proofs.Common.{◌≡◌, ◌+◌, ◌++◌, ◌∷◌, [], ◌∙◌, sym, subst, take, arith}
use Rattle.run_report.specs.Digests.{Hashed}
use Rattle.run_report.proofs.Hashing.{is-reached}
use Rattle.run_report.proofs.digest.Fronts.reach.Goals as goal

pub returns-then-eq-clause-spans : goal.returns-then-eq-clause-spans
returns-then-eq-clause-spans c =
    subst (λ (h : Hashed). take (c.args.n + 1) h.spans ≡ take c.args.n h.spans ++ c.args.span ∷ []) c.self.view_is
    (is-reached c.self.inside.fronts.items c.args.n _ c.args.span (omega arith)
    c.index.ensures (sym c.eq.ensures ∙ c.if-eq.true))
