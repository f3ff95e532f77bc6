-- Laws of the order of visits.
use Rattle.std.proofs.Common.{◌<◌, ◌≤◌, ◌≡◌, ℕ, Bool, true, false, ◌&&◌, ◌||◌, ◌==◌, nat_lt, ap, ◌∙◌, arith}
use Rattle.std.proofs.lemmas.Bool.Decides.{nat_tests}
use Rattle.slot_plan.specs.declared.params.Params.{Params}
use Rattle.slot_plan.specs.Keys.{Key, due_of, is_earlier}

-- the order of two triples of numbers
abbrev before : ℕ → ℕ → ℕ → ℕ → ℕ → ℕ → Bool
before d s n e t m = nat_lt d e || (d == e && (nat_lt s t || (s == t && nat_lt n m)))

before_irreflexive : (d s n : ℕ) → before d s n d s n ≡ false
before_irreflexive d s n = grind (arith, nat_tests)

before_asymmetric : (d s n e t m : ℕ) → before d s n e t m ≡ true → before e t m d s n ≡ false
before_asymmetric d s n e t m h = grind (arith, nat_tests)

before_transitive : (d s n e t m f u o : ℕ) → before d s n e t m ≡ true → before e t m f u o ≡ true → before d s n f u o ≡ true
before_transitive d s n e t m f u o h g = grind (arith, nat_tests)

before_neither : (d s n e t m f u o : ℕ) → before d s n e t m ≡ false → before e t m f u o ≡ false → before d s n f u o ≡ false
before_neither d s n e t m f u o h g = grind (arith, nat_tests)

before_total : (d s n e t m : ℕ) → before d s n e t m ≡ false → before e t m d s n ≡ false → (s ≡ t) × (n ≡ m)
before_total d s n e t m h g = (grind (arith, nat_tests), grind (arith, nat_tests))

before_due : (d s n e t m : ℕ) → before d s n e t m ≡ true → d ≤ e
before_due d s n e t m h = grind (arith, nat_tests)

due_before : (d s n e t m : ℕ) → d < e → before d s n e t m ≡ true
due_before d s n e t m h = grind (arith, nat_tests)

-- what comes before a visit is due with it or earlier, and what is due earlier comes before it
pub earlier_due : (p : Params) (a b : Key) → is_earlier p a b ≡ true → due_of p a ≤ due_of p b
unfolding is_earlier
earlier_due p a b h = before_due (due_of p a) a.0.0 a.1 (due_of p b) b.0.0 b.1 h

pub due_earlier : (p : Params) (a b : Key) → due_of p a < due_of p b → is_earlier p a b ≡ true
unfolding is_earlier
due_earlier p a b h = due_before (due_of p a) a.0.0 a.1 (due_of p b) b.0.0 b.1 h

-- no visit comes before itself
pub is_earlier-irreflexive : (p : Params) (a : Key) → is_earlier p a a ≡ false
unfolding is_earlier
is_earlier-irreflexive p a = before_irreflexive (due_of p a) a.0.0 a.1

-- of two visits at most one comes before the other
pub is_earlier-asymmetric : (p : Params) (a b : Key) → is_earlier p a b ≡ true → is_earlier p b a ≡ false
unfolding is_earlier
is_earlier-asymmetric p a b h = before_asymmetric (due_of p a) a.0.0 a.1 (due_of p b) b.0.0 b.1 h

pub is_earlier-transitive : (p : Params) (a b c : Key) → is_earlier p a b ≡ true → is_earlier p b c ≡ true → is_earlier p a c ≡ true
unfolding is_earlier
is_earlier-transitive p a b c h g = before_transitive (due_of p a) a.0.0 a.1 (due_of p b) b.0.0 b.1 (due_of p c) c.0.0 c.1 h g

-- what does not come before a visit which does not come before a third does not come before that
pub is_earlier-neither : (p : Params) (a b c : Key) → is_earlier p a b ≡ false → is_earlier p b c ≡ false → is_earlier p a c ≡ false
unfolding is_earlier
is_earlier-neither p a b c h g = before_neither (due_of p a) a.0.0 a.1 (due_of p b) b.0.0 b.1 (due_of p c) c.0.0 c.1 h g

abbrev key : ℕ → ℕ → Key
key s n = (record { 0 = s }, n)

-- equal numbers make equal keys
pub key_same : (a b : Key) → (a.0.0 ≡ b.0.0) × (a.1 ≡ b.1) → a ≡ b
key_same a b e = ap (λ (s : ℕ). key s a.1) e.0 ∙ ap (λ (n : ℕ). key b.0.0 n) e.1

-- two visits of which neither comes before the other are one
pub is_earlier-total : (p : Params) (a b : Key) → is_earlier p a b ≡ false → is_earlier p b a ≡ false → a ≡ b
unfolding is_earlier
is_earlier-total p a b h g = key_same a b (before_total (due_of p a) a.0.0 a.1 (due_of p b) b.0.0 b.1 h g)
