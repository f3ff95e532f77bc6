use Rattle.std.proofs.Common.{◌≡◌, ◌+◌, refl, arith, inl, ⊎_elim}
use Rattle.node_kit.specs.Courses.{reading_of}
use Rattle.run_facts.proofs.worked.kept_courses.Goals as goal

pub returns-clause-fast : goal.returns-clause-fast
returns-clause-fast g c note step h =
    let shown : reading_of c 0 0 + 1 ≡ reading_of c 0 0 = h.stamped 0 0 (omega arith) (omega arith) in
    omega (arith, shown)

pub returns-clause-out_of_turn : goal.returns-clause-out_of_turn
returns-clause-out_of_turn g c note step h =
    let turn = h.in_turn 0 0 1 _ _ _ _ _ _ (omega arith) (omega arith) (omega arith) (inl refl) (inl refl) refl in
    omega (arith, turn)

pub returns-clause-unsent : goal.returns-clause-unsent
returns-clause-unsent g c ends note step h =
    ⊎_elim (λ none. absurd (cc)) (λ some. absurd some.0.2) (h.on_links 0 0 1 (omega arith) (omega arith) ends)
