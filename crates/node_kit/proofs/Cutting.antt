-- Outputs that are cut off.
use Rattle.std.proofs.Common.{◌≡◌, ℕ, zero, suc, ◌+◌, ◌-◌, ◌<◌, ◌≤◌, List, [], ◌∷◌, ◌++◌, length, get_or, take, drop}
use Rattle.std.proofs.Common.{Bool, true, false, refl, ap, sym, ◌∙◌, arith, cond, ⊎_elim}
use Rattle.std.specs.Prelude.{◌==◌, ◌&&◌, ◌||◌}
use Rattle.std.specs.List.{AllByRecursion}
use Rattle.std.proofs.lemmas.Bool.{cases_Bool, eqb-true}
use Rattle.std.proofs.lemmas.Bool.Decides.{nat_tests}
use Rattle.std.proofs.lemmas.List.{drop_more, take_all}
use Rattle.node_kit.specs.declared.journal.What.TheVariants.{Died}
use Rattle.node_kit.specs.declared.outbox.Out.{Out}
use Rattle.node_kit.specs.declared.outbox.Out.TheVariants.{Act}
use Rattle.node_kit.specs.Outputs.{outputs, is_send, is_put, send_count, begins_send, begins_taking}
use Rattle.node_kit.specs.Outputs.{begins_lost, fewer_behind, cut_at}

-- what is left behind a place begins with the output there
pub drop_first : {X : Type 0} (xs : List X) (i : ℕ) (x : X) → i < length xs → x ≡ get_or xs i x
    → drop i xs ≡ x ∷ drop (i + 1) xs
drop_first xs i x low at = drop_more xs i x low ∙ ap (λ y. y ∷ drop (i + 1) xs) (sym at)

-- how many messages go out from a place on
pub count-here : {M : Type 0} (os : List (Out M)) (i : ℕ) → i < length os
    → send_count (drop i os) ≡ cond (begins_send (drop i os)) (suc (send_count (drop (suc i) os)))
    (send_count (drop (suc i) os))
count-here [] i low = absurd (omega (arith, low))
count-here (o ∷ os) zero low = refl
count-here (o ∷ os) (suc i) low = count-here os i (omega (arith, low))

-- the outputs up to a place where they are not cut off, and what is left behind it
pub cut-goes_on : {M : Type 0} (k : ℕ) (os : List (Out M)) (i : ℕ) → i < length os
    → (k == 0 && begins_lost (drop i os)) ≡ false
    → take (suc i) os ++ cut_at (cond (begins_send (drop i os)) (k - 1) k) (drop (suc i) os) ≡ take i os
    ++ cut_at k (drop i os)
cut-goes_on k [] i low on = absurd (omega (arith, low))
cut-goes_on k (o ∷ os) zero low on = rw on refl
cut-goes_on k (o ∷ os) (suc i) low on = ap (λ xs. o ∷ xs) (cut-goes_on k os i (omega (arith, low)) on)

-- Died behind outputs
taking-same : {M : Type 0} (os : List (Out M)) → begins_taking (os ++ Act Died ∷ []) ≡ begins_taking os
taking-same [] = refl
taking-same (o ∷ []) = refl
taking-same (o ∷ p ∷ os) = refl

lost-same : {M : Type 0} (o : Out M) (os : List (Out M))
    → begins_lost (o ∷ (os ++ Act Died ∷ [])) ≡ begins_lost (o ∷ os)
lost-same o os = ap (λ b. is_send o || (is_put o && b)) (taking-same os)

never-lost : (b : Bool) → (b && false) ≡ false
never-lost true = refl
never-lost false = refl

died-stays : {M : Type 0} (k : ℕ) → cut_at {M = M} k (Act Died ∷ []) ≡ Act Died ∷ []
died-stays k = rw (never-lost (k == 0)) refl

-- all of them stay, or none behind the place where they are cut off
goes-on : {M : Type 0} (b : Bool) (o : Out M) (xs ys : List (Out M)) → o ∷ cond b xs ys ≡ cond b (o ∷ xs) (o ∷ ys)
goes-on true o xs ys = refl
goes-on false o xs ys = refl

suc-eq : (n m : ℕ) → (suc n == suc m) ≡ (n == m)
suc-eq n m = ⊎_elim
    (λ (e : (n == m) ≡ true).
    let same : n ≡ m = eqb-true _ _ e in
    let f : (suc n == suc m) ≡ true = grind (arith, nat_tests, same) in f ∙ sym e)
    (λ (e : (n == m) ≡ false). let f : (suc n == suc m) ≡ false = grind (arith, nat_tests, e) in f ∙ sym e)
    (cases_Bool (n == m))

pub cut-died : {M : Type 0} (k n : ℕ) (os : List (Out M)) → take n os ≡ cut_at k os → n ≤ length os
    → cut_at k (os ++ Act Died ∷ []) ≡ cond (n == length os) (os ++ Act Died ∷ []) (take n os)
cut-died {M} k zero [] same low = died-stays k
cut-died k (suc n) [] same low = absurd (omega (arith, low))
cut-died {M} k zero (o ∷ os) same low = ⊎_elim
    (λ (e : (k == 0 && begins_lost (o ∷ os)) ≡ true).
    let some : (0 == length (o ∷ os)) ≡ false = grind (arith, nat_tests) in
    rw (lost-same o os, e, some) refl)
    (λ (e : (k == 0 && begins_lost (o ∷ os)) ≡ false).
    let more : cut_at k (o ∷ os) ≡ o ∷ cut_at (fewer_behind k o) os = rw e refl in
    let bad : [] ≡ o ∷ cut_at (fewer_behind k o) os = same ∙ more in
    absurd (cc))
    (cases_Bool (k == 0 && begins_lost (o ∷ os)))
cut-died {M} k (suc n) (o ∷ os) same low = ⊎_elim
    (λ (e : (k == 0 && begins_lost (o ∷ os)) ≡ true).
    let ended : cut_at k (o ∷ os) ≡ [] = rw e refl in
    let none : take (suc n) (o ∷ os) ≡ [] = same ∙ ended in
    absurd (cc))
    (λ (e : (k == 0 && begins_lost (o ∷ os)) ≡ false).
    let next : cut_at k (o ∷ os) ≡ o ∷ cut_at (fewer_behind k o) os = rw e refl in
    let more : o ∷ take n os ≡ o ∷ cut_at (fewer_behind k o) os = same ∙ next in
    let rest : take n os ≡ cut_at (fewer_behind k o) os = cc in
    rw (lost-same o os, e, suc-eq n (length os))
    (ap (λ xs. o ∷ xs) (cut-died (fewer_behind k o) n os rest (omega (arith, low)))
    ∙ goes-on (n == length os) o (os ++ Act Died ∷ []) (take n os)))
    (cases_Bool (k == 0 && begins_lost (o ∷ os)))

-- what is cut is as what was
pub cut-outputs : {M : Type 0} (k n : ℕ) (os : List (Out M)) (died : Bool) → take n os ≡ cut_at k os → n ≤ length os
    → outputs (take n os) (died && n == length os) ≡ cut_at k (outputs os died)
cut-outputs k n os false same low = same
cut-outputs k n os true same low = ⊎_elim
    (λ (e : (n == length os) ≡ true).
    let all : take n os ≡ os = take_all n os (let q : n ≡ length os = eqb-true _ _ e in omega (arith, q)) in
    let whole : cut_at k (os ++ Act Died ∷ []) ≡ os ++ Act Died ∷ [] =
    cut-died k n os same low ∙ ap (λ b. cond b (os ++ Act Died ∷ []) (take n os)) e in
    rw e (ap (λ xs. xs ++ Act Died ∷ []) all ∙ sym whole))
    (λ (e : (n == length os) ≡ false).
    let part : cut_at k (os ++ Act Died ∷ []) ≡ take n os =
    cut-died k n os same low ∙ ap (λ b. cond b (os ++ Act Died ∷ []) (take n os)) e in
    rw e (sym part))
    (cases_Bool (n == length os))

-- what holds of all outputs holds of those that are left
pub cut-all : {M : Type 0} (P : Out M → Type 0) (k : ℕ) (os : List (Out M)) → AllByRecursion P os
    → AllByRecursion P (cut_at k os)
cut-all P k [] h = tt
cut-all P k (o ∷ os) h = ⊎_elim
    (λ (e : (k == 0 && begins_lost (o ∷ os)) ≡ true). rw e tt)
    (λ (e : (k == 0 && begins_lost (o ∷ os)) ≡ false). rw e (h.0, cut-all P (fewer_behind k o) os h.1))
    (cases_Bool (k == 0 && begins_lost (o ∷ os)))

-- one output more is counted
count-by : {M : Type 0} (os : List (Out M)) (i count more : ℕ) (b : Bool) → i < length os → begins_send (drop i os) ≡ b
    → more ≡ cond b (count + 1) count → count + send_count (drop i os) ≡ send_count os → count ≤ i
    → (more + send_count (drop (suc i) os) ≡ send_count os) × (i + 1 ≤ length os) × (more ≤ i + 1)
count-by os i count more true low is up all few =
    let step : send_count (drop i os) ≡ suc (send_count (drop (suc i) os)) = count-here os i low
    ∙ ap (λ b. cond b (suc (send_count (drop (suc i) os))) (send_count (drop (suc i) os))) is in
    (omega (arith, step, up, all), omega (arith, low), omega (arith, up, few))
count-by os i count more false low is up all few =
    let step : send_count (drop i os) ≡ send_count (drop (suc i) os) = count-here os i low
    ∙ ap (λ b. cond b (suc (send_count (drop (suc i) os))) (send_count (drop (suc i) os))) is in
    (omega (arith, step, up, all), omega (arith, low), omega (arith, up, few))

one-on : {X : Type 0} (i : ℕ) (xs : List X) → drop (suc i) xs ≡ drop (i + 1) xs
one-on i xs = let e : suc i ≡ i + 1 = omega arith in ap (λ n. drop n xs) e

pub count-more : {M : Type 0} (os : List (Out M)) (i count more : ℕ) (b : Bool) → i < length os
    → begins_send (drop i os) ≡ b
    → more ≡ cond b (count + 1) count
    → (count + send_count (drop i os) ≡ send_count os) × (i ≤ length os) × (count ≤ i)
    → (more + send_count (drop (i + 1) os) ≡ send_count os) × (i + 1 ≤ length os) × (more ≤ i + 1)
count-more os i count more b low is up h =
    let t = count-by os i count more b low is up h.0 h.2 in
    (ap (λ xs. more + send_count xs) (sym (one-on i os)) ∙ t.0, t.1, t.2)

-- one more is kept
pub cut-more : {M : Type 0} (os : List (Out M)) (sends i left fewer : ℕ) (b : Bool) → i < length os
    → begins_send (drop i os) ≡ b
    → (left == 0 && begins_lost (drop i os)) ≡ false → fewer ≡ cond b (left - 1) left
    → (take i os ++ cut_at left (drop i os) ≡ cut_at sends os) × (i ≤ length os)
    → (take (i + 1) os ++ cut_at fewer (drop (i + 1) os) ≡ cut_at sends os) × (i + 1 ≤ length os)
cut-more os sends i left fewer b low is on down h =
    let next : i + 1 ≡ suc i = omega arith in
    let fewer_is : fewer ≡ cond (begins_send (drop i os)) (left - 1) left = down ∙ ap (λ t. cond t (left - 1) left)
    (sym is) in (
      ap (λ n. take n os ++ cut_at fewer (drop n os)) next
          ∙ ap (λ k. take (suc i) os ++ cut_at k (drop (suc i) os)) fewer_is
          ∙ cut-goes_on left os i low on ∙ h.0,
      omega (arith, low),
    )

pub lost-none : (left : ℕ) (b : Bool) → (left ≡ 0 → ⊥) → (left == 0 && b) ≡ false
lost-none zero b h = absurd (h refl)
lost-none (suc k) b h = let e : (suc k == 0) ≡ false = grind (arith, nat_tests) in rw e refl

pub lost-not : (left : ℕ) (b : Bool) → b ≡ false → (left == 0 && b) ≡ false
lost-not zero b h = h
lost-not (suc k) b h = let e : (suc k == 0) ≡ false = grind (arith, nat_tests) in rw e refl

-- the count of all, where Died may stand behind them
sends-same : {M : Type 0} (os : List (Out M)) → send_count (os ++ Act Died ∷ []) ≡ send_count os
sends-same [] = refl
sends-same (o ∷ os) = ap (λ n. cond (is_send o) (suc n) n) (sends-same os)

pub sends-seen : {M : Type 0} (os now : List (Out M)) (died : Bool) (r : ℕ) → outputs os died ≡ now → r ≡ send_count os
    → r ≡ send_count now
sends-seen os now true r view is = is ∙ sym (sends-same os) ∙ ap send_count view
sends-seen os now false r view is = is ∙ ap send_count view

pub cut-seen : {M : Type 0} (k n : ℕ) (os now rest : List (Out M)) (died still : Bool) → take n os ≡ cut_at k os
    → n ≤ length os
    → outputs os died ≡ now → rest ≡ take n os → still ≡ (died && n == length os) → outputs rest still ≡ cut_at k now
cut-seen k n os now rest died still same low view is same_died =
    ap (λ xs. outputs xs still) is ∙ ap (outputs (take n os)) same_died ∙ cut-outputs k n os died same low
    ∙ ap (cut_at k) view

pub still-then : (n m len : ℕ) (died still : Bool) → died ≡ true → still ≡ (n == m) → m ≡ len
    → still ≡ (died && n == len)
still-then n m len died still dead is same = is ∙ ap (λ x. n == x) same ∙ sym (ap (λ b. b && n == len) dead)

pub still-else : (n len : ℕ) (died still : Bool) → died ≡ false → still ≡ false → still ≡ (died && n == len)
still-else n len died still live is = is ∙ sym (ap (λ b. b && n == len) live)
