use Rattle.run_report.proofs.Hashing.{fronts-push}
use Rattle.run_report.proofs.digest.Fronts.push.Goals as goal

pub invariant_of-self-2 : goal.invariant_of-self-2
invariant_of-self-2 c = (
  fronts-push c.args.self.now c.self.inside.library.now c.self.inside.fronts.items _ _ c.span_bytes.result.now
      c.self.view_is c.in_ok-push.ensures.items c.span_bytes.ensures
      (c.update.ensures _ c.in_ok-state.ensures) c.self.invariant.0,
  tt,
)
