-- Journals that are written out: each entry says one of a few things, and is of a later beat than those before it.
use Rattle.std.proofs.Common.{◌≡◌, ℕ, zero, suc, ◌+◌, ◌*◌, ◌<◌, ◌≤◌, Some, ap, subst, arith}
use Rattle.std.specs.Prelude.{List, [], ◌∷◌, ◌++◌, slice_get, Option, unwrap_or}
use Rattle.std.specs.List.{AllByRecursion}
use Rattle.std.proofs.lemmas.Option.{none-some}
use Rattle.node_kit.specs.declared.journal.Entry.{Entry}
use Rattle.node_kit.specs.declared.journal.What.{What}
use Rattle.run_facts.specs.Accounts.{Rising}
use Rattle.lists.specs.Elements.{In}
use Rattle.lists.proofs.Each.{all_in, all_by}
use Rattle.proof_moments.specs.Ties.{StandsIn}
use Rattle.proof_moments.proofs.Sorted.{Sorted}

-- each journal of a list of them, by its number from one on
abbrev pub EachFrom : (ℕ → List Entry → Type 0) → ℕ → List (List Entry) → Type 0
EachFrom P n [] = Unit {0}
EachFrom P n (j ∷ js) = P n j × EachFrom P (suc n) js

each_at : (P : ℕ → List Entry → Type 0) (k : ℕ) (js : List (List Entry)) → EachFrom P k js
    → (n : ℕ) (j : List Entry) → slice_get js n ≡ Some j → P (k + n) j
each_at P k [] all n j at = absurd (none-some j at)
each_at P k (x ∷ xs) all zero j at =
    let same : x ≡ j = ap (λ (o : Option (List Entry)). unwrap_or o x) at in
    let place : k ≡ k + 0 = omega arith in
    subst (λ (m : ℕ). P m j) place (subst (λ (y : List Entry). P k y) same all.0)
each_at P k (x ∷ xs) all (suc n) j at =
    let place : suc k + n ≡ k + suc n = omega arith in
    subst (λ (m : ℕ). P m j) place (each_at P (suc k) xs all.1 n j at)

behind : (xs ys : List Entry) (e f : Entry) → Sorted (λ (x y : Entry). x.stamp.beat < y.stamp.beat) (xs ++ e ∷ ys)
    → In f ys → e.stamp.beat < f.stamp.beat
behind [] ys e f s i = all_in (λ (y : Entry). e.stamp.beat < y.stamp.beat) f ys s.0 i
behind (x ∷ xs) ys e f s i = behind xs ys e f s.1 i

pub rises : (j : List Entry) → Sorted (λ (x y : Entry). x.stamp.beat < y.stamp.beat) j
    → Rising (λ (e : Entry). e.stamp.beat) j
rises [] s = tt
rises (x ∷ xs) s = (
  all_by (λ (y : Entry). x.stamp.beat ≤ y.stamp.beat) xs
      (λ y i. let l = all_in (λ (z : Entry). x.stamp.beat < z.stamp.beat) y xs s.0 i in omega arith),
  rises xs s.1,
)

-- a list of one entry has none behind any
pub alone : (xs ys : List Entry) (e f d : Entry) → xs ++ e ∷ ys ≡ d ∷ [] → In f ys → ⊥
alone [] ys e f d is i = let rest : ys ≡ [] = cc in absurd (subst (λ (l : List Entry). In f l) rest i)
alone (x ∷ []) ys e f d is i = absurd (cc)
alone (x ∷ y ∷ xs) ys e f d is i = absurd (cc)

module _ (Says : ℕ → ℕ → What → Type 0) (most : ℕ) where
  -- a journal's entries say so, and each is of a later beat than those before it, up to a beat
  pub record IsPlain (n : ℕ) (j : List Entry) : Type 0 where
    pub says : AllByRecursion (λ e. Says n e.stamp.beat e.what) j
    pub apart : Sorted (λ (e f : Entry). e.stamp.beat < f.stamp.beat) j
    pub low : AllByRecursion (λ e. (e.stamp.beat ≤ most) × (e.stamp.reading ≡ e.stamp.beat * 10000)) j

  pub empty : (n : ℕ) → IsPlain n []
  empty n = record { says = tt; apart = tt; low = tt }

  module _ (journals : List (List Entry)) (plain : EachFrom IsPlain 0 journals) where
    pub plain_at : (n : ℕ) (j : List Entry) → slice_get journals n ≡ Some j → IsPlain n j
    plain_at n j at = let place : 0 + n ≡ n = omega arith in subst (λ (m : ℕ). IsPlain m j) place
        (each_at IsPlain 0 journals plain n j at)

    -- what an entry says, by what it is; and when it is written
    pub said : (n : ℕ) (e : Entry) (v : What) → StandsIn journals n e → e.what ≡ v → Says n e.stamp.beat v
    said n e v s is = subst (λ (x : What). Says n e.stamp.beat x) is
        (all_in (λ (x : Entry). Says n x.stamp.beat x.what) e s.journal (plain_at n s.journal s.at).says s.there)

    pub low : (n : ℕ) (e : Entry) → StandsIn journals n e
        → (e.stamp.beat ≤ most) × (e.stamp.reading ≡ e.stamp.beat * 10000)
    low n e s = all_in (λ (x : Entry). (x.stamp.beat ≤ most) × (x.stamp.reading ≡ x.stamp.beat * 10000)) e s.journal
        (plain_at n s.journal s.at).low s.there

    pub later : (n : ℕ) (xs ys : List Entry) (e f : Entry) → slice_get journals n ≡ Some (xs ++ e ∷ ys) → In f ys
        → e.stamp.beat < f.stamp.beat
    later n xs ys e f at i = behind xs ys e f (plain_at n (xs ++ e ∷ ys) at).apart i
