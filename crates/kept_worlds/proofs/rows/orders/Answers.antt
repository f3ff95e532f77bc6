use Rattle.std.proofs.Common.{◌≡◌, None, Some, refl, ap}
use Rattle.node_kit.specs.Life.{Lifetime, acts, back_of, cut_of, death_of, dies, returns}
use Rattle.run_facts.specs.Carried.{got_on}
use Rattle.kept_worlds.proofs.rows.orders.Goals as goal

pub returns-clause-told : goal.returns-clause-told
unfolding acts dies returns got_on
returns-clause-told c course beats zero_lives one_lives =
    let d0 : death_of course 0 ≡ None = ap (λ (q : Lifetime). q.death) zero_lives in
    let b0 : back_of course 0 ≡ None = ap (λ (q : Lifetime). q.back) zero_lives in
    let d1 : death_of course 1 ≡ None = ap (λ (q : Lifetime). q.death) one_lives in
    let b1 : back_of course 1 ≡ None = ap (λ (q : Lifetime). q.back) one_lives in
    rw (beats, d0, b0, d1, b1) refl

pub returns-clause-dies : goal.returns-clause-dies
unfolding acts dies returns got_on
returns-clause-dies c course beats zero_dies one_lives =
    let d0 : death_of course 0 ≡ Some 1 = ap (λ (q : Lifetime). q.death) zero_dies in
    let k0 : cut_of course 0 ≡ None = ap (λ (q : Lifetime). q.left) zero_dies in
    let b0 : back_of course 0 ≡ None = ap (λ (q : Lifetime). q.back) zero_dies in
    let d1 : death_of course 1 ≡ None = ap (λ (q : Lifetime). q.death) one_lives in
    let b1 : back_of course 1 ≡ None = ap (λ (q : Lifetime). q.back) one_lives in
    rw (beats, d0, k0, b0, d1, b1) refl

pub returns-clause-shown : goal.returns-clause-shown
unfolding acts dies returns got_on
returns-clause-shown c course beats zero_lives =
    let d0 : death_of course 0 ≡ None = ap (λ (q : Lifetime). q.death) zero_lives in
    let b0 : back_of course 0 ≡ None = ap (λ (q : Lifetime). q.back) zero_lives in
    rw (beats, d0, b0) refl
