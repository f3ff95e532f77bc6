-- What the order of all entries has of the journal of a node.
use Rattle.std.proofs.Common.{◌≡◌, ℕ, zero, suc, ◌+◌, ◌<◌, List, [], ◌∷◌, ◌++◌, map, filter, length, take, true, false, Option, Some, None, refl, sym, ap, subst, ◌∙◌, arith, ⊎_elim, append-nil}
use Rattle.std.specs.Prelude.{◌==◌, slice_get, unwrap_or}
use Rattle.std.specs.List.{AllByRecursion}
use Rattle.std.proofs.lemmas.Bool.{cases_Bool, eq-eqb, ne_eqb}
use Rattle.std.proofs.lemmas.Option.{none-some}
use Rattle.node_kit.specs.declared.journal.Entry.{Entry}
use Rattle.run_facts.specs.Accounts.{Rising}
use Rattle.run_facts.specs.Order.{Noted, journal_of, in_beat, order_from, order_of}
use Rattle.run_facts.proofs.Orders.{groups, by_key}

abbrev noted : ℕ → Entry → Noted
noted n e = record { node = n; entry = e }

-- a journal's entries of a beat, with their node
abbrev noted_in : ℕ → ℕ → List Entry → List Noted
noted_in b n j = map (noted n) (filter (λ e. e.stamp.beat == b) j)

joined : (n : ℕ) (xs ys : List Noted) → journal_of n (xs ++ ys) ≡ journal_of n xs ++ journal_of n ys
joined n [] ys = refl
joined n (x ∷ xs) ys = ⊎_elim
    (λ (t : (x.node == n) ≡ true). rw t (ap (λ l. x.entry ∷ l) (joined n xs ys)))
    (λ (f : (x.node == n) ≡ false). rw f (joined n xs ys))
    (cases_Bool (x.node == n))

-- of another node's entries a journal has nothing, and of its own node's all
others : (n m : ℕ) (es : List Entry) → (m == n) ≡ false → journal_of n (map (noted m) es) ≡ []
others n m [] f = refl
others n m (e ∷ es) f = rw f (others n m es f)

own : (n m : ℕ) (es : List Entry) → (m == n) ≡ true → journal_of n (map (noted m) es) ≡ es
own n m [] t = refl
own n m (e ∷ es) t = rw t (ap (λ l. e ∷ l) (own n m es t))

-- ---- of one beat, if the first journal is that of a node

later_nodes : (b m n : ℕ) (js : List (List Entry)) → n < m → journal_of n (in_beat b m js) ≡ []
later_nodes b m n [] low = refl
later_nodes b m n (j ∷ js) low =
    joined n (noted_in b m j) (in_beat b (m + 1) js)
    ∙ ap (λ l. l ++ journal_of n (in_beat b (m + 1) js))
    (others n m (filter (λ e. e.stamp.beat == b) j) (ne_eqb m n (λ e. absurd (omega (arith, low, e)))))
    ∙ later_nodes b (m + 1) n js (omega (arith, low))

of_beat : (b m n : ℕ) (js : List (List Entry)) (j : List Entry) → slice_get js n ≡ Some j
    → journal_of (m + n) (in_beat b m js) ≡ filter (λ e. e.stamp.beat == b) j
of_beat b m n [] j at = absurd (none-some j at)
of_beat b m zero (g ∷ js) j at =
    let same : g ≡ j = ap (λ (o : Option (List Entry)). unwrap_or o g) at in
    joined (m + 0) (noted_in b m g) (in_beat b (m + 1) js)
    ∙ ap (λ l. journal_of (m + 0) (noted_in b m g) ++ l) (later_nodes b (m + 1) (m + 0) js (omega arith))
    ∙ append-nil (journal_of (m + 0) (noted_in b m g))
    ∙ own (m + 0) m (filter (λ e. e.stamp.beat == b) g) (eq-eqb m (m + 0) (omega arith))
    ∙ ap (filter (λ (e : Entry). e.stamp.beat == b)) same
of_beat b m (suc n) (g ∷ js) j at =
    let place : m + 1 + n ≡ m + suc n = omega arith in
    joined (m + suc n) (noted_in b m g) (in_beat b (m + 1) js)
    ∙ ap (λ l. l ++ journal_of (m + suc n) (in_beat b (m + 1) js))
    (others (m + suc n) m (filter (λ e. e.stamp.beat == b) g) (ne_eqb m (m + suc n) (λ e. absurd (omega (arith, e)))))
    ∙ subst (λ k. journal_of k (in_beat b (m + 1) js) ≡ filter (λ e. e.stamp.beat == b) j) place (of_beat b (m + 1) n js j at)

no_journal : (b m n : ℕ) (js : List (List Entry)) → slice_get js n ≡ None → journal_of (m + n) (in_beat b m js) ≡ []
no_journal b m n [] none = refl
no_journal b m zero (g ∷ js) none = absurd (none-some g (sym none))
no_journal b m (suc n) (g ∷ js) none =
    let place : m + 1 + n ≡ m + suc n = omega arith in
    joined (m + suc n) (noted_in b m g) (in_beat b (m + 1) js)
    ∙ ap (λ l. l ++ journal_of (m + suc n) (in_beat b (m + 1) js))
    (others (m + suc n) m (filter (λ e. e.stamp.beat == b) g) (ne_eqb m (m + suc n) (λ e. absurd (omega (arith, e)))))
    ∙ subst (λ k. journal_of k (in_beat b (m + 1) js) ≡ []) place (no_journal b (m + 1) n js none)

-- ---- of all beats

of_order : (b k n : ℕ) (js : List (List Entry)) (j : List Entry) → slice_get js n ≡ Some j
    → journal_of n (order_from b k js) ≡ groups (λ (e : Entry). e.stamp.beat) b k j
of_order b zero n js j at = refl
of_order b (suc k) n js j at =
    joined n (in_beat b 0 js) (order_from (b + 1) k js)
    ∙ ap (λ l. l ++ journal_of n (order_from (b + 1) k js)) (from_first b n js j at)
    ∙ ap (λ l. filter (λ e. e.stamp.beat == b) j ++ l) (of_order (b + 1) k n js j at)
  where
    from_first : (b n : ℕ) (js : List (List Entry)) (j : List Entry) → slice_get js n ≡ Some j
        → journal_of n (in_beat b 0 js) ≡ filter (λ e. e.stamp.beat == b) j
    from_first b n js j at =
        let place : 0 + n ≡ n = omega arith in
        subst (λ k. journal_of k (in_beat b 0 js) ≡ filter (λ e. e.stamp.beat == b) j) place (of_beat b 0 n js j at)

of_none : (b k n : ℕ) (js : List (List Entry)) → slice_get js n ≡ None → journal_of n (order_from b k js) ≡ []
of_none b zero n js none = refl
of_none b (suc k) n js none =
    joined n (in_beat b 0 js) (order_from (b + 1) k js)
    ∙ ap (λ l. l ++ journal_of n (order_from (b + 1) k js)) (from_first b n js none)
    ∙ of_none (b + 1) k n js none
  where
    from_first : (b n : ℕ) (js : List (List Entry)) → slice_get js n ≡ None → journal_of n (in_beat b 0 js) ≡ []
    from_first b n js none =
        let place : 0 + n ≡ n = omega arith in
        subst (λ k. journal_of k (in_beat b 0 js) ≡ []) place (no_journal b 0 n js none)

-- the order of the beats of a run has all of a journal whose beats are the run's and do not fall
pub whole_journal : (beats n : ℕ) (js : List (List Entry)) (j : List Entry) → slice_get js n ≡ Some j
    → AllByRecursion (λ (e : Entry). e.stamp.beat < beats) j → Rising (λ (e : Entry). e.stamp.beat) j
    → journal_of n (order_of beats js) ≡ j
whole_journal beats n js j at early rises =
    of_order 0 beats n js j at ∙ by_key (λ (e : Entry). e.stamp.beat) beats j early rises

-- and nothing of a node that has none
pub no_whole_journal : (beats n : ℕ) (js : List (List Entry)) → slice_get js n ≡ None → journal_of n (order_of beats js) ≡ []
no_whole_journal beats n js none = of_none 0 beats n js none

-- an entry of a log stands in its node's journal behind as many as stand before it in the log
pub own_place : (n i : ℕ) (log : List Noted) (x : Noted) → slice_get log i ≡ Some x → (x.node == n) ≡ true
    → slice_get (journal_of n log) (length (filter (λ y. y.node == n) (take i log))) ≡ Some x.entry
own_place n i [] x at is = absurd (none-some x at)
own_place n zero (y ∷ ys) x at is =
    let same : y ≡ x = ap (λ (o : Option Noted). unwrap_or o y) at in
    let mine : (y.node == n) ≡ true = subst (λ (z : Noted). (z.node == n) ≡ true) (sym same) is in
    rw mine (ap (λ (z : Noted). Some z.entry) same)
own_place n (suc i) (y ∷ ys) x at is = ⊎_elim
    (λ (t : (y.node == n) ≡ true). rw t (own_place n i ys x at is))
    (λ (f : (y.node == n) ≡ false). rw f (own_place n i ys x at is))
    (cases_Bool (y.node == n))
