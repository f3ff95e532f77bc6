-- The neighbours of a cub.
use Rattle.std.proofs.Common.{◌≡◌, ℕ, ◌+◌, ◌-◌, ◌<◌, ◌≤◌, ◌==◌, Bool, true, false, cond, refl, sym, arith, ⊎_elim, eq-eqb, eq-or-lt_of_le}
use Rattle.std.specs.Prelude.{◌⊎◌}
use Rattle.std.proofs.lemmas.Bool.{eqb-true}
use Rattle.net_schedule.specs.declared.ring.NetRing.{NetRing}
use Rattle.net_schedule.specs.Rings.{IsRing, next_of, before}
use Rattle.net_schedule.proofs.Finds.{clash}

pub split : (a b : ℕ) → a ≤ b → (a ≡ b) ⊎ (a < b)
split a b h = eq-or-lt_of_le h

pub not_same : (a b : ℕ) → (a ≡ b → ⊥) → (a == b) ≡ false
not_same a b ne = go (a == b) refl
  where
    go : (t : Bool) → (a == b) ≡ t → (a == b) ≡ false
    go true e = absurd (ne (eqb-true a b e))
    go false e = e

pub differ : (a b : ℕ) → (a == b) ≡ false → a ≡ b → ⊥
differ a b t e = clash (eq-eqb a b e) t

pub next_not : (r : NetRing) (c : ℕ) → IsRing r → c < r.cubs → next_of r c ≡ c → ⊥
next_not r c ring low e = cases ((c + 1) == r.cubs) refl e
  where
    cases : (b : Bool) → ((c + 1) == r.cubs) ≡ b → cond b 0 (c + 1) ≡ c → ⊥
    cases true t e = let last = eqb-true (c + 1) r.cubs t in omega (arith, last, e, ring.some_cubs)
    cases false t e = omega (arith, e)

pub before_not : (r : NetRing) (c : ℕ) → IsRing r → c < r.cubs → before r c ≡ c → ⊥
before_not r c ring low e = cases (c == 0) refl e
  where
    cases : (b : Bool) → (c == 0) ≡ b → cond b (r.cubs - 1) (c - 1) ≡ c → ⊥
    cases true t e = let none = eqb-true c 0 t in omega (arith, none, e, ring.some_cubs)
    cases false t e = differ c 0 t (omega (arith, e))

pub next_before : (r : NetRing) (c : ℕ) → IsRing r → c < r.cubs → next_of r (before r c) ≡ c
next_before r c ring low = cases (c == 0) refl
  where
    test : (d : ℕ) (b : Bool) → ((d + 1) == r.cubs) ≡ b → (d + 1 ≡ r.cubs → c ≡ 0) → ((d + 1 ≡ r.cubs → ⊥) → d + 1 ≡ c) → cond ((d + 1) == r.cubs) 0 (d + 1) ≡ c
    test d true t last other = rw t (sym (last (eqb-true (d + 1) r.cubs t)))
    test d false t last other = rw t (other (differ (d + 1) r.cubs t))

    cases : (b : Bool) → (c == 0) ≡ b → next_of r (cond b (r.cubs - 1) (c - 1)) ≡ c
    cases true t =
        let none : c ≡ 0 = eqb-true c 0 t in
        test (r.cubs - 1) ((r.cubs - 1 + 1) == r.cubs) refl (λ e. none) (λ ne. absurd (ne (omega (arith, ring.some_cubs))))
    cases false t =
        let some : c ≡ 0 → ⊥ = differ c 0 t in
        let back : c - 1 + 1 ≡ c = ⊎_elim (λ (e : 0 ≡ c). absurd (some (sym e))) (λ (l : 0 < c). omega (arith, l)) (split 0 c (omega arith)) in
        test (c - 1) ((c - 1 + 1) == r.cubs) refl (λ e. omega (arith, e, back, low)) (λ ne. back)

pub before_next : (r : NetRing) (c : ℕ) → IsRing r → c < r.cubs → before r (next_of r c) ≡ c
before_next r c ring low = cases ((c + 1) == r.cubs) refl
  where
    cases : (b : Bool) → ((c + 1) == r.cubs) ≡ b → before r (cond b 0 (c + 1)) ≡ c
    cases true t = let last : c + 1 ≡ r.cubs = eqb-true (c + 1) r.cubs t in omega (arith, last)
    cases false t = let other : ((c + 1) == 0) ≡ false = not_same (c + 1) 0 (λ e. omega (arith, e)) in rw other (omega arith)

pub next_low : (r : NetRing) (c : ℕ) → IsRing r → c < r.cubs → next_of r c < r.cubs
next_low r c ring low = cases ((c + 1) == r.cubs) refl
  where
    cases : (b : Bool) → ((c + 1) == r.cubs) ≡ b → cond b 0 (c + 1) < r.cubs
    cases true t = omega (arith, ring.some_cubs)
    cases false t = ⊎_elim (λ (e : c + 1 ≡ r.cubs). absurd (differ (c + 1) r.cubs t e)) (λ (l : c + 1 < r.cubs). l) (split (c + 1) r.cubs (omega (arith, low)))
