-- The order of all entries: whose entries stand in it, that it is sorted, and what it has of a journal.
use Rattle.std.proofs.Common.{◌≡◌, ℕ, zero, suc, ◌+◌, ◌<◌, ◌≤◌, List, [], ◌∷◌, ◌++◌, map, filter, true, false, Some, refl, sym, ap, subst, ◌∙◌, arith, ⊎_elim, inl, inr, eq-or-lt_of_le, append-nil}
use Rattle.std.specs.Prelude.{◌==◌, slice_get, Option, unwrap_or}
use Rattle.std.proofs.lemmas.Bool.{cases_Bool, eqb-true, eq-eqb, ne_eqb}
use Rattle.std.proofs.lemmas.Option.{none-some}
use Rattle.node_kit.specs.declared.journal.Entry.{Entry}
use Rattle.run_facts.specs.Accounts.{Rising}
use Rattle.run_facts.specs.Order.{Noted, beat_of, journal_of, in_beat, order_from, order_of, IsNotAfter}
use Rattle.run_facts.proofs.Orders.{groups, by_key}
use Rattle.run_facts.proofs.Rows.{filter-none}
use Rattle.lists.specs.Elements.{In}
use Rattle.proof_moments.specs.Ties.{StandsIn}
use Rattle.lists.proofs.Elements.{in_left, in_right, in_cases, in_map, from_map, in_filter, from_filter}
use Rattle.lists.proofs.Each.{all_by}
use Rattle.proof_moments.proofs.Sorted.{Sorted, sorted_joined, sorted_flat, split_at, rises_before}

abbrev pub noted_at : ℕ → Entry → Noted
noted_at n e = record { node = n; entry = e }

-- a journal's entries of a beat, with their node
abbrev noted_in : ℕ → ℕ → List Entry → List Noted
noted_in b n j = map (noted_at n) (filter (λ e. e.stamp.beat == b) j)

from_noted : (b n : ℕ) (j : List Entry) (x : Noted) → In x (noted_in b n j) → (x.node ≡ n) × (beat_of x ≡ b) × In x.entry j
from_noted b n j x i =
    let m = from_map (noted_at n) x (filter (λ e. e.stamp.beat == b) j) i in
    let f = from_filter (λ (e : Entry). e.stamp.beat == b) m.0 j m.1 in
    (ap (λ (y : Noted). y.node) m.2, ap beat_of m.2 ∙ eqb-true _ _ f.1, subst (λ (y : Noted). In y.entry j) (sym m.2) f.0)

-- an entry of a beat stands in the journal of its node, of which the first is that of node n
record IsOfBeat (b n : ℕ) (js : List (List Entry)) (x : Noted) : Type 0 where
  place : ℕ
  node : x.node ≡ n + place
  beat : beat_of x ≡ b
  stands : StandsIn js place x.entry

of_beat : (b n : ℕ) (js : List (List Entry)) (x : Noted) → In x (in_beat b n js) → IsOfBeat b n js x
of_beat b n [] x i = absurd i
of_beat b n (j ∷ js) x i = ⊎_elim
    (λ k.
    let f = from_noted b n j x k in
    let first = f.0 in
    record { place = 0; node = omega arith; beat = f.1; stands = record { journal = j; at = refl; there = f.2 } })
    (λ k.
    let r = of_beat b (n + 1) js x k in
    let node = r.node in
    record { place = suc r.place; node = omega arith; beat = r.beat; stands = record { journal = r.stands.journal; at = r.stands.at; there = r.stands.there } })
    (in_cases x (noted_in b n j) (in_beat b (n + 1) js) i)

-- an entry of an order of k beats is of one of them, and stands in the journal of its node
pub record IsOfOrder (b k : ℕ) (js : List (List Entry)) (x : Noted) : Type 0 where
  pub low : b ≤ beat_of x
  pub high : beat_of x < b + k
  pub stands : StandsIn js x.node x.entry

pub of_order : (b k : ℕ) (js : List (List Entry)) (x : Noted) → In x (order_from b k js) → IsOfOrder b k js x
of_order b zero js x i = absurd i
of_order b (suc k) js x i = ⊎_elim
    (λ q.
    let r = of_beat b 0 js x q in
    let same = r.beat in
    let node = r.node in
    let place : r.place ≡ x.node = omega arith in
    record { low = omega arith; high = omega arith; stands = subst (λ n. StandsIn js n x.entry) place r.stands })
    (λ q. let r = of_order (b + 1) k js x q in let low = r.low in let high = r.high in record { low = omega arith; high = omega arith; stands = r.stands })
    (in_cases x (in_beat b 0 js) (order_from (b + 1) k js) i)

-- the other way round
into_beat : (b m : ℕ) (js : List (List Entry)) (n : ℕ) (j : List Entry) (e : Entry) → slice_get js n ≡ Some j → In e j → e.stamp.beat ≡ b → In (noted_at (m + n) e) (in_beat b m js)
into_beat b m [] n j e at i is = absurd (none-some j at)
into_beat b m (g ∷ gs) zero j e at i is =
    let same : g ≡ j = ap (λ (o : Option (List Entry)). unwrap_or o g) at in
    let mine : In e g = subst (λ (es : List Entry). In e es) (sym same) i in
    let here : In (noted_at m e) (noted_in b m g) = in_map (noted_at m) e (filter (λ e. e.stamp.beat == b) g) (in_filter (λ (f : Entry). f.stamp.beat == b) e g mine (eq-eqb _ _ is)) in
    let place : m ≡ m + 0 = omega arith in
    in_left (noted_at (m + 0) e) (noted_in b m g) (in_beat b (m + 1) gs) (subst (λ k. In (noted_at k e) (noted_in b m g)) place here)
into_beat b m (g ∷ gs) (suc n) j e at i is =
    let place : m + 1 + n ≡ m + suc n = omega arith in
    in_right (noted_at (m + suc n) e) (noted_in b m g) (in_beat b (m + 1) gs) (subst (λ k. In (noted_at k e) (in_beat b (m + 1) gs)) place (into_beat b (m + 1) gs n j e at i is))

pub into_order : (b k : ℕ) (js : List (List Entry)) (n : ℕ) (e : Entry) → StandsIn js n e → b ≤ e.stamp.beat → e.stamp.beat < b + k → In (noted_at n e) (order_from b k js)
into_order b zero js n e s low high = absurd (omega arith)
into_order b (suc k) js n e s low high = ⊎_elim
    (λ (q : b ≡ e.stamp.beat). in_left (noted_at n e) (in_beat b 0 js) (order_from (b + 1) k js) (let place : 0 + n ≡ n = omega arith in subst (λ k. In (noted_at k e) (in_beat b 0 js)) place (into_beat b 0 js n s.journal e s.at s.there (sym q))))
    (λ (l : b < e.stamp.beat). in_right (noted_at n e) (in_beat b 0 js) (order_from (b + 1) k js) (into_order (b + 1) k js n e s (omega arith) (omega arith)))
    (eq-or-lt_of_le low)

-- ---- the order is sorted

beat_sorted : (b n : ℕ) (js : List (List Entry)) → Sorted IsNotAfter (in_beat b n js)
beat_sorted b n [] = tt
beat_sorted b n (j ∷ js) = sorted_joined IsNotAfter (noted_in b n j) (in_beat b (n + 1) js)
    (sorted_flat IsNotAfter (noted_in b n j)
    (λ x y i k. let f = from_noted b n j x i in let g = from_noted b n j y k in let f0 = f.0 in let g0 = g.0 in
    let low : x.node ≤ y.node = omega arith in inr (f.1 ∙ sym g.1, low)))
    (beat_sorted b (n + 1) js)
    (λ x y i k. let f = from_noted b n j x i in let g = of_beat b (n + 1) js y k in let f0 = f.0 in let g0 = g.node in
    let low : x.node ≤ y.node = omega arith in inr (f.1 ∙ sym g.beat, low))

pub order_sorted : (b k : ℕ) (js : List (List Entry)) → Sorted IsNotAfter (order_from b k js)
order_sorted b zero js = tt
order_sorted b (suc k) js = sorted_joined IsNotAfter (in_beat b 0 js) (order_from (b + 1) k js) (beat_sorted b 0 js) (order_sorted (b + 1) k js)
    (λ x y i l. let f = (of_beat b 0 js x i).beat in let g = (of_order (b + 1) k js y l).low in let low : beat_of x < beat_of y = omega arith in inl low)

-- ---- what the order has of a journal

pub journal_joined : (n : ℕ) (xs ys : List Noted) → journal_of n (xs ++ ys) ≡ journal_of n xs ++ journal_of n ys
journal_joined n [] ys = refl
journal_joined n (x ∷ xs) ys = ⊎_elim
    (λ (t : (x.node == n) ≡ true). rw t (ap (λ l. x.entry ∷ l) (journal_joined n xs ys)))
    (λ (f : (x.node == n) ≡ false). rw f (journal_joined n xs ys))
    (cases_Bool (x.node == n))

-- of others' entries a journal has nothing
not_mine : (n : ℕ) (xs : List Noted) → ((x : Noted) → In x xs → x.node ≡ n → ⊥) → journal_of n xs ≡ []
not_mine n xs h = ap (map (λ (x : Noted). x.entry)) (filter-none (λ (x : Noted). x.node == n) xs (all_by (λ x. (x.node == n) ≡ false) xs (λ x i. ne_eqb _ _ (h x i))))

unnoted : (n m : ℕ) (es : List Entry) → m ≡ n → journal_of n (map (noted_at m) es) ≡ es
unnoted n m [] e = refl
unnoted n m (x ∷ xs) e = let t : (m == n) ≡ true = eq-eqb _ _ e in rw t (ap (λ l. x ∷ l) (unnoted n m xs e))

journal_beat : (b m : ℕ) (js : List (List Entry)) (n : ℕ) (j : List Entry) → slice_get js n ≡ Some j → journal_of (m + n) (in_beat b m js) ≡ filter (λ e. e.stamp.beat == b) j
journal_beat b m [] n j at = absurd (none-some j at)
journal_beat b m (g ∷ gs) zero j at =
    let same : g ≡ j = ap (λ (o : Option (List Entry)). unwrap_or o g) at in
    let none : journal_of (m + 0) (in_beat b (m + 1) gs) ≡ [] = not_mine (m + 0) (in_beat b (m + 1) gs) (λ x i e. let r = (of_beat b (m + 1) gs x i).node in absurd (omega arith)) in
    let place : m ≡ m + 0 = omega arith in
    journal_joined (m + 0) (noted_in b m g) (in_beat b (m + 1) gs)
    ∙ ap (λ l. journal_of (m + 0) (noted_in b m g) ++ l) none
    ∙ append-nil (journal_of (m + 0) (noted_in b m g))
    ∙ unnoted (m + 0) m (filter (λ e. e.stamp.beat == b) g) place
    ∙ ap (filter (λ (e : Entry). e.stamp.beat == b)) same
journal_beat b m (g ∷ gs) (suc n) j at =
    let none : journal_of (m + suc n) (noted_in b m g) ≡ [] = not_mine (m + suc n) (noted_in b m g) (λ x i e. let r = (from_noted b m g x i).0 in absurd (omega arith)) in
    let place : m + 1 + n ≡ m + suc n = omega arith in
    journal_joined (m + suc n) (noted_in b m g) (in_beat b (m + 1) gs)
    ∙ ap (λ l. l ++ journal_of (m + suc n) (in_beat b (m + 1) gs)) none
    ∙ subst (λ k. journal_of k (in_beat b (m + 1) gs) ≡ filter (λ e. e.stamp.beat == b) j) place (journal_beat b (m + 1) gs n j at)

journal_groups : (b k : ℕ) (js : List (List Entry)) (n : ℕ) (j : List Entry) → slice_get js n ≡ Some j → journal_of n (order_from b k js) ≡ groups (λ (e : Entry). e.stamp.beat) b k j
journal_groups b zero js n j at = refl
journal_groups b (suc k) js n j at =
    journal_joined n (in_beat b 0 js) (order_from (b + 1) k js)
    ∙ ap (λ l. l ++ journal_of n (order_from (b + 1) k js)) (let place : 0 + n ≡ n = omega arith in subst (λ k. journal_of k (in_beat b 0 js) ≡ filter (λ e. e.stamp.beat == b) j) place (journal_beat b 0 js n j at))
    ∙ ap (λ l. filter (λ e. e.stamp.beat == b) j ++ l) (journal_groups (b + 1) k js n j at)

filter_front : {X : Type 0} (f : X → ℕ) (b c : ℕ) (xs ys : List X) → b < c → ((y : X) → In y ys → c ≤ f y) → filter (λ x. f x == b) (xs ++ ys) ≡ filter (λ x. f x == b) xs
filter_front f b c [] ys l h = filter-none (λ x. f x == b) ys (all_by (λ y. (f y == b) ≡ false) ys (λ y i. ne_eqb _ _ (λ e. let g = h y i in absurd (omega arith))))
filter_front f b c (x ∷ xs) ys l h = ⊎_elim
    (λ (t : (f x == b) ≡ true). rw t (ap (λ zs. x ∷ zs) (filter_front f b c xs ys l h)))
    (λ (u : (f x == b) ≡ false). rw u (filter_front f b c xs ys l h))
    (cases_Bool (f x == b))

groups_front : {X : Type 0} (f : X → ℕ) (b k c : ℕ) (xs ys : List X) → b + k ≤ c → ((y : X) → In y ys → c ≤ f y) → groups f b k (xs ++ ys) ≡ groups f b k xs
groups_front f b zero c xs ys l h = refl
groups_front f b (suc k) c xs ys l h =
    ap (λ zs. zs ++ groups f (b + 1) k (xs ++ ys)) (filter_front f b c xs ys (omega arith) h)
    ∙ ap (λ zs. filter (λ x. f x == b) xs ++ zs) (groups_front f (b + 1) k c xs ys (omega arith) h)

-- the order of the beats below a number has a front of each journal whose beats never fall
pub record HasFront (beats : ℕ) (part journal : List Entry) : Type 0 where
  pub rest : List Entry
  pub is : part ++ rest ≡ journal
  pub late : (e : Entry) → In e rest → beats ≤ e.stamp.beat

pub order_has_front : (beats : ℕ) (js : List (List Entry)) (n : ℕ) (j : List Entry) → slice_get js n ≡ Some j → Rising (λ (e : Entry). e.stamp.beat) j
    → HasFront beats (journal_of n (order_of beats js)) j
order_has_front beats js n j at rises =
    let s = split_at (λ (e : Entry). e.stamp.beat) beats j rises in
    let low : Rising (λ (e : Entry). e.stamp.beat) s.lower = rises_before (λ (e : Entry). e.stamp.beat) s.lower s.upper (subst (λ (l : List Entry). Rising (λ (e : Entry). e.stamp.beat) l) (sym s.is) rises) in
    let same : journal_of n (order_of beats js) ≡ s.lower =
    journal_groups 0 beats js n j at
    ∙ ap (groups (λ (e : Entry). e.stamp.beat) 0 beats) (sym s.is)
    ∙ groups_front (λ (e : Entry). e.stamp.beat) 0 beats beats s.lower s.upper (omega arith) s.above
    ∙ by_key (λ (e : Entry). e.stamp.beat) beats s.lower (all_by (λ (e : Entry). e.stamp.beat < beats) s.lower s.below) low in
    record { rest = s.upper; is = ap (λ l. l ++ s.upper) same ∙ s.is; late = s.above }
