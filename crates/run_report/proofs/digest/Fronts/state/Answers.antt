use Rattle.std.proofs.Common.{subst}
use Rattle.sha2.specs.Hashers.{Holds256}
use Rattle.run_report.specs.Digests.{Hashed, spans_bytes}
use Rattle.run_report.proofs.Hashing.{last-state, no-state}
use Rattle.run_report.proofs.digest.Fronts.state.Goals as goal

pub returns-in_ok-clone-in-Some : goal.returns-in_ok-clone-in-Some
returns-in_ok-clone-in-Some c =
    subst (λ (h : Hashed). Holds256 c.in_ok-clone-in-Some.field-0 (spans_bytes h.library h.spans)) c.self.view_is
    (last-state c.self.inside.library.now c.self.inside.fronts.items _ _ _ c.deref.ensures.value
    c.in-Some.ensures.value c.in_ok-clone-in-Some.ensures.cases c.self.invariant.0)

pub returns-in-None : goal.returns-in-None
returns-in-None c =
    subst (λ (h : Hashed). Holds256 c.new.result (spans_bytes h.library h.spans)) c.self.view_is
    (no-state c.self.inside.library.now c.self.inside.fronts.items _ _ c.deref.ensures.value
    c.in-None.ensures.value c.new.ensures)
