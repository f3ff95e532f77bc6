-- In which beats a node ends a whole tick: in all, or in those below its death's, and in no other if it does not return.
use Rattle.std.proofs.Common.{◌≡◌, ℕ, ◌<◌, ◌≤◌, ◌==◌, ◌&&◌, ◌||◌, nat_lt, Bool, true, false, Option, Some, None, refl, sym, subst, ◌∙◌, arith}
use Rattle.std.specs.Prelude.{is_some}
use Rattle.std.proofs.lemmas.Bool.{lt-ltb, ltb-true, ne_eqb}
use Rattle.node_kit.specs.Life.{Lifetime, acts, ends_in}
use Rattle.run_model.specs.Runs.{EndsBeat}

-- who has no death ends each beat
pub ends_undying : (life : Lifetime) (b : ℕ) → life.death ≡ None → EndsBeat life b
unfolding acts
ends_undying life b e = (rw e refl, rw e refl)

-- who has one ends each beat before it
pub ends_before : (life : Lifetime) (d b : ℕ) → life.death ≡ Some d → b < d → EndsBeat life b
unfolding acts
ends_before life d b e low =
    let below : nat_lt b d ≡ true = lt-ltb b d low in
    let other : (b == d) ≡ false = ne_eqb b d (λ q. omega (arith, q, low)) in
    (rw (e, below) refl, rw (e, other) refl)

-- whether it acts in a beat, by how the beat stands to that of its death
acts_by : (d : ℕ) (left : Option ℕ) (b : ℕ) (below same : Bool) → nat_lt b d ≡ below → (b == d) ≡ same
    → acts (record { death = Some d; left = left; back = None; over = false }) b ≡ ((below || (same && (is_some left && true))) || false)
unfolding acts
acts_by d left b below same x y = rw (x, y) refl

-- and no other, if it does not return
pub ends_below : (d : ℕ) (left : Option ℕ) (b : ℕ) → EndsBeat (record { death = Some d; left = left; back = None; over = false }) b → b < d
ends_below d left b ends = by (nat_lt b d) (b == d) refl refl
  where
    cut : (o : Option ℕ) → ((false || (true && (is_some o && true))) || false) ≡ true → is_some o ≡ true
    cut None t = absurd (cc)
    cut (Some k) t = refl

    by : (below same : Bool) → nat_lt b d ≡ below → (b == d) ≡ same → b < d
    by true same x y = ltb-true b d x
    by false true x y =
        let left_some : is_some left ≡ true = cut left (sym (acts_by d left b false true x y) ∙ ends.0) in
        let ended : ends_in (record { death = Some d; left = left; back = None; over = false }) b ≡ true = rw y left_some in
        let z : true ≡ false = sym ended ∙ ends.1 in absurd (cc)
    by false false x y = let z : false ≡ true = sym (acts_by d left b false false x y) ∙ ends.0 in absurd (cc)
