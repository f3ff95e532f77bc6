use Rattle.std.proofs.Common.{◌≡◌, None, refl, ap}
use Rattle.node_kit.specs.Life.{Lifetime, back_of}
use Rattle.run_facts.specs.Carried.{sent_on}
use Rattle.kept_worlds.proofs.rows.lost.Goals as goal

pub returns-clause-below : goal.returns-clause-below
unfolding sent_on
returns-clause-below c course back = rw back.2 refl

pub returns-clause-none : goal.returns-clause-none
unfolding sent_on
returns-clause-none c course lives =
    let none : back_of course 3 ≡ None = ap (λ (q : Lifetime). q.back) lives in rw none refl
