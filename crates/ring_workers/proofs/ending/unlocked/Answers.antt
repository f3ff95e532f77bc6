use Rattle.std.proofs.Common.{◌∷◌, [], arith, length-append}
use Rattle.ring_workers.proofs.Walks.{goes-on}
use Rattle.ring_workers.proofs.ending.unlocked.Goals as goal

pub loop-lock-preserved : goal.loop-lock-preserved
loop-lock-preserved g c =
    let inv = c.loop-lock.invariant in (
      tt,
      tt,
      omega (arith, c.in_ok-push.ensures.len, inv.2, length-append c.loop-lock.yielded (c.in-Some.lock ∷ [])),
      goes-on _ c.loop-lock.yielded c.in-Some.lock _ _ inv.3 c.in-Some.ensures.steps.0,
    )
