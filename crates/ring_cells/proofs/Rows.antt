-- The numbers of a share's members, by place.
use Rattle.std.proofs.Common.{◌≡◌, ◌≢◌, ℕ, zero, suc, ◌+◌, ◌<◌, ◌≤◌, List, [], ◌∷◌, length, Bool, true, false, Some, refl, ap, sym, ◌∙◌, subst, arith, cond, ⊎_elim}
use Rattle.std.specs.Prelude.{slice_get, ◌==◌, ◌&&◌}
use Rattle.std.proofs.lemmas.Bool.{cases_Bool, cases_eq, eq-eqb, ne_eqb, eqb-true}
use Rattle.std.proofs.lemmas.Option.{none-some}
use Rattle.tiger_base.specs.declared.number.NodeNo.{NodeNo}
use Rattle.ring_cells.specs.Shares.{holds, holds_below, come_to}

-- the node at a place is held
pub held-at : (numbers : List NodeNo) (q : ℕ) (n : NodeNo) → slice_get numbers q ≡ Some n → holds numbers n.0 ≡ true
held-at [] q n e = absurd (none-some n e)
held-at (m ∷ ms) zero n e =
    let same : m ≡ n = cc in
    ap (λ b. cond b true (holds ms n.0)) (eq-eqb m.0 n.0 (ap (λ (x : NodeNo). x.0) same))
held-at (m ∷ ms) (suc q) n e = ⊎_elim
    (λ (t : (m.0 == n.0) ≡ true). rw t refl)
    (λ (t : (m.0 == n.0) ≡ false). rw t (held-at ms q n e))
    (cases_Bool (m.0 == n.0))

-- and who is held has a place
pub has-place : (numbers : List NodeNo) (k : ℕ) → holds numbers k ≡ true → (q : ℕ) × (slice_get numbers q ≡ Some (record { 0 = k }))
has-place [] k h = let q : false ≡ true = h in absurd (cc)
has-place (m ∷ ms) k h = ⊎_elim
    (λ (t : (m.0 == k) ≡ true). (0, ap (λ (x : ℕ). Some (record { 0 = x })) (eqb-true m.0 k t)))
    (λ (t : (m.0 == k) ≡ false).
    let rest = has-place ms k (sym (ap (λ b. cond b true (holds ms k)) t) ∙ h) in (suc rest.0, rest.1))
    (cases_Bool (m.0 == k))

-- nobody has come through the beat before the first turn, and all have after the last
pub below-none : (numbers : List NodeNo) (k : ℕ) → holds_below numbers 0 k ≡ false
below-none [] k = refl
below-none (m ∷ ms) k = refl

pub below-all : (numbers : List NodeNo) (q k : ℕ) → length numbers ≤ q → holds_below numbers q k ≡ holds numbers k
below-all [] q k long = refl
below-all (m ∷ ms) zero k long = absurd (omega (arith, long))
below-all (m ∷ ms) (suc q) k long = ap (λ b. cond (m.0 == k) true b) (below-all ms q k (omega (arith, long)))

-- the node at place q is the one that comes on in its turn
pub below-here : (numbers : List NodeNo) (q k : ℕ) (n : NodeNo) → slice_get numbers q ≡ Some n → n.0 ≡ k → holds_below numbers (suc q) k ≡ true
below-here [] q k n e same = absurd (none-some n e)
below-here (m ∷ ms) zero k n e same =
    let is : m ≡ n = cc in
    ap (λ b. cond b true (holds_below ms 0 k)) (eq-eqb m.0 k (ap (λ (x : NodeNo). x.0) is ∙ same))
below-here (m ∷ ms) (suc q) k n e same = ap (λ b. cond (m.0 == k) true b) (below-here ms q k n e same) ∙ both (m.0 == k)
  where
    both : (b : Bool) → cond b true true ≡ true
    both true = refl
    both false = refl

pub below-other : (numbers : List NodeNo) (q k : ℕ) (n : NodeNo) → slice_get numbers q ≡ Some n → k ≢ n.0 → holds_below numbers (suc q) k ≡ holds_below numbers q k
below-other [] q k n e other = absurd (none-some n e)
below-other (m ∷ ms) zero k n e other =
    let is : m ≡ n = cc in
    ap (λ b. cond b true (holds_below ms 0 k)) (ne_eqb m.0 k (λ z. other (sym z ∙ ap (λ (x : NodeNo). x.0) is))) ∙ below-none ms k
below-other (m ∷ ms) (suc q) k n e other = ap (λ b. cond (m.0 == k) true b) (below-other ms q k n e other)

-- it has not had its turn, if no node has two places
abbrev pub AreOnce : List NodeNo → Type 0
AreOnce numbers = (q r : ℕ) (n : NodeNo) → slice_get numbers q ≡ Some n → slice_get numbers r ≡ Some n → q ≡ r

pub once-rest : (m : NodeNo) (ms : List NodeNo) → AreOnce (m ∷ ms) → AreOnce ms
once-rest m ms once q r n e f = let same = once (suc q) (suc r) n e f in omega (arith, same)

pub below-not_yet : (numbers : List NodeNo) (q : ℕ) (n : NodeNo) → AreOnce numbers → slice_get numbers q ≡ Some n → holds_below numbers q n.0 ≡ false
below-not_yet [] q n once e = refl
below-not_yet (m ∷ ms) zero n once e = refl
below-not_yet (m ∷ ms) (suc q) n once e =
    let other : m.0 ≢ n.0 = λ same. (let there : slice_get (m ∷ ms) 0 ≡ Some n = ap (λ (x : ℕ). Some (record { 0 = x })) same in
    let z = once 0 (suc q) n there e in absurd (omega (arith, z))) in
    ap (λ b. cond b true (holds_below ms q n.0)) (ne_eqb m.0 n.0 other) ∙ below-not_yet ms q n (once-rest m ms once) e

-- how far each has come
pub come-here : (numbers : List NodeNo) (b q : ℕ) (n : NodeNo) → AreOnce numbers → slice_get numbers q ≡ Some n → come_to numbers b q n.0 ≡ b
come-here numbers b q n once e = ap (λ t. cond t (b + 1) b) (below-not_yet numbers q n once e)

pub come-none : (numbers : List NodeNo) (b k : ℕ) → come_to numbers b 0 k ≡ b
come-none numbers b k = ap (λ t. cond t (b + 1) b) (below-none numbers k)

pub come-all : (numbers : List NodeNo) (b q k : ℕ) → length numbers ≤ q → holds numbers k ≡ true → come_to numbers b q k ≡ b + 1
come-all numbers b q k long held = ap (λ t. cond t (b + 1) b) (below-all numbers q k long ∙ held)

pub come-then : (numbers : List NodeNo) (b q : ℕ) (n : NodeNo) (k : ℕ) → slice_get numbers q ≡ Some n → cond (k == n.0) (b + 1) (come_to numbers b q k) ≡ come_to numbers b (suc q) k
come-then numbers b q n k e = ⊎_elim
    (λ (same : k ≡ n.0). ap (λ t. cond t (b + 1) (come_to numbers b q k)) (eq-eqb k n.0 same) ∙ sym (ap (λ t. cond t (b + 1) b) (below-here numbers q k n e (sym same))))
    (λ (other : k ≢ n.0). ap (λ t. cond t (b + 1) (come_to numbers b q k)) (ne_eqb k n.0 other) ∙ sym (ap (λ t. cond t (b + 1) b) (below-other numbers q k n e other)))
    (cases_eq k n.0)

pub both-true : (a b : Bool) → (a && b) ≡ true → (a ≡ true) × (b ≡ true)
both-true true b h = (refl, h)
both-true false b h = absurd (cc)
