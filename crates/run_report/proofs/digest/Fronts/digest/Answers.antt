use Rattle.std.proofs.Common.{◌≡◌, sym, subst}
use Rattle.node_kit.specs.declared.course.Digest32.{Digest32}
use Rattle.run_report.specs.Digests.{Hashed, digest_of_spans}
use Rattle.run_report.proofs.Hashing.{digest-is}
use Rattle.run_report.proofs.digest.Fronts.digest.Goals as goal

pub returns-clause-digest : goal.returns-clause-digest
returns-clause-digest c =
    digest-is c.args.self.now.library c.args.self.now.spans _ (c.finalize.ensures _ c.in_ok-state.ensures)

pub invariant_of-self : goal.invariant_of-self
invariant_of-self c = (
  c.self.invariant.0,
  subst (λ (h : Hashed). ◌≡◌ {A = Digest32} (record { 0 = c.finalize.result }) (digest_of_spans h.library h.spans))
      (sym c.self.view_is)
      (digest-is c.args.self.now.library c.args.self.now.spans _ (c.finalize.ensures _ c.in_ok-state.ensures)),
)
