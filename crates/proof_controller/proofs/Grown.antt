-- What a journal that has grown tells, and what it goes on telling of earlier beats.
use Rattle.std.proofs.Common.{◌≡◌, ℕ, ◌+◌, ◌≤◌, List, [], ◌∷◌, ◌++◌, length, Bool, true, false, cond, ◌&&◌, ◌||◌, ◌==◌, nat_lt, nat_le, arith, refl, ap, ◌∙◌}
use Rattle.std.specs.Prelude.{filter}
use Rattle.std.specs.List.{list_any, flat_map, AllByRecursion}
use Rattle.std.proofs.lemmas.Bool.Decides.{nat_tests}
use Rattle.std.proofs.lemmas.Bool.{lt-ltb, le-leb}
use Rattle.std.proofs.lemmas.Grind.{flat_map-append}
use Rattle.std.proofs.lemmas.List.{append-nil}
use Rattle.std.proofs.lemmas.List.Folds.{list_any-append}
use Rattle.tiger_base.specs.declared.tenancy.Tenancy.{Tenancy}
use Rattle.slot_plan.specs.declared.params.Params.{Params}
use Rattle.node_kit.specs.declared.journal.Entry.{Entry}
use Rattle.node_kit.specs.declared.course.Order.{Order}
use Rattle.run_facts.specs.Commanded.{start_in, starts_sent, is_gone_of, gone_in, gone_before, is_finish_of, stop_ordered, place_of, place_in, places_got, is_stopped}
use Rattle.controller_core.specs.Orders.{orders_in}

pub gone_in-append : (xs ys : List Entry) (v b : ℕ) → gone_in (xs ++ ys) v b ≡ (gone_in xs v b || gone_in ys v b)
unfolding gone_in
gone_in-append xs ys v b = list_any-append (λ (e : Entry). e.stamp.beat == b && is_gone_of v e.what) xs ys

pub gone_before-append : (xs ys : List Entry) (v b : ℕ) → gone_before (xs ++ ys) v b ≡ (gone_before xs v b || gone_before ys v b)
unfolding gone_before
gone_before-append xs ys v b = list_any-append (λ (e : Entry). nat_lt e.stamp.beat b && is_gone_of v e.what) xs ys

pub places_got-append : (p : Params) (b : ℕ) (xs ys : List Entry) → places_got p b (xs ++ ys) ≡ places_got p b xs ++ places_got p b ys
unfolding places_got
places_got-append p b xs ys = flat_map-append (place_in p b) xs ys

pub starts_sent-append : (p : Params) (b : ℕ) (xs ys : List Entry) → starts_sent p b (xs ++ ys) ≡ starts_sent p b xs ++ starts_sent p b ys
unfolding starts_sent
starts_sent-append p b xs ys = flat_map-append (start_in p b) xs ys

-- where all beats are early enough, the beat makes no difference
any_early : (test : Entry → Bool) (early : Entry → Bool) (xs : List Entry) → AllByRecursion (λ e. early e ≡ true) xs
    → list_any (λ e. early e && test e) xs ≡ list_any test xs
any_early test early [] h = refl
any_early test early (x ∷ xs) h = rw (h.0) (ap (λ b. test x || b) (any_early test early xs h.1))

weaker : (P Q : Entry → Type 0) → ((e : Entry) → P e → Q e) → (xs : List Entry) → AllByRecursion P xs → AllByRecursion Q xs
weaker P Q h [] a = tt
weaker P Q h (x ∷ xs) a = (h x a.0, weaker P Q h xs a.1)

abbrev pub AreBy : ℕ → List Entry → Type 0
AreBy t xs = AllByRecursion (λ e. e.stamp.beat ≤ t) xs

pub later_by : (t u : ℕ) (xs : List Entry) → t ≤ u → AreBy t xs → AreBy u xs
later_by t u xs more h = weaker (λ e. e.stamp.beat ≤ t) (λ e. e.stamp.beat ≤ u) (λ e low. omega arith) xs h

pub both_by : (t : ℕ) (xs ys : List Entry) → AreBy t xs → AreBy t ys → AreBy t (xs ++ ys)
both_by t [] ys h g = g
both_by t (x ∷ xs) ys h g = (h.0, both_by t xs ys h.1 g)

pub gone_before_all : (t v : ℕ) (xs : List Entry) → AreBy t xs → gone_before xs v (t + 1) ≡ list_any (λ e. is_gone_of v e.what) xs
unfolding gone_before
gone_before_all t v xs h =
    any_early (λ e. is_gone_of v e.what) (λ e. nat_lt e.stamp.beat (t + 1)) xs
    (weaker (λ e. e.stamp.beat ≤ t) (λ e. nat_lt e.stamp.beat (t + 1) ≡ true) (λ e low. lt-ltb _ _ (omega arith)) xs h)

-- the places that a journal tells in all
abbrev pub all_places : Params → List Entry → List Tenancy
all_places p xs = flat_map (λ e. place_of p e.what) xs

pub places_got_all : (p : Params) (t : ℕ) (xs : List Entry) → AreBy t xs → places_got p t xs ≡ all_places p xs
unfolding places_got
places_got_all p t [] h = refl
places_got_all p t (x ∷ xs) h =
    let early : nat_le x.stamp.beat t ≡ true = le-leb _ _ h.0 in
    rw early (ap (λ ys. place_of p x.what ++ ys) (places_got_all p t xs h.1))

-- what new entries of a beat say: of which instances Gone, and which places
pub record News (p : Params) (t : ℕ) (gone : ℕ → Bool) (places : List Tenancy) (es : List Entry) : Type 0 where
  pub by : AreBy t es
  pub gone_said : (v : ℕ) → list_any (λ e. is_gone_of v e.what) es ≡ gone v
  pub gone_here : (v b : ℕ) → gone_in es v b ≡ ((t == b) && gone v)
  pub gone_by : (v b : ℕ) → gone_before es v b ≡ (nat_lt t b && gone v)
  pub places_said : all_places p es ≡ places
  pub places_by : (b : ℕ) → places_got p b es ≡ cond (nat_le t b) places []
  pub count : (v : ℕ) → length (filter (λ e. is_gone_of v e.what) es) ≡ cond (gone v) 1 0

or_false : (b : Bool) → (b || false) ≡ b
or_false true = refl
or_false false = refl

not_before : (b t : ℕ) → nat_lt b t ≡ true → nat_lt t b ≡ false
not_before b t h = grind (arith, nat_tests)

not_upto : (b t : ℕ) → nat_lt b t ≡ true → nat_le t b ≡ false
not_upto b t h = grind (arith, nat_tests)

-- for an earlier beat they make no difference
pub stopped_before : (p : Params) (os : List Order) (gone : ℕ → Bool) (places : List Tenancy) (t : ℕ) (xs es : List Entry) (v b r : ℕ)
    → News p t gone places es → nat_lt b t ≡ true → is_stopped p os (xs ++ es) v b r ≡ is_stopped p os xs v b r
stopped_before p os gone places t xs es v b r news before =
    let one : gone_before (xs ++ es) v b ≡ gone_before xs v b =
    gone_before-append xs es v b
    ∙ (ap (λ x. gone_before xs v b || x) (news.gone_by v b ∙ ap (λ x. x && gone v) (not_before b t before)) ∙ or_false _) in
    let two : places_got p b (xs ++ es) ≡ places_got p b xs =
    places_got-append p b xs es
    ∙ (ap (λ ys. places_got p b xs ++ ys) (news.places_by b ∙ ap (λ c. cond c places []) (not_upto b t before)) ∙ append-nil _) in
    rw (one, two) refl

-- the orders of a beat that stop an instance
stop_among : (v b : ℕ) (os : List Order)
    → list_any (λ (o : Order). is_finish_of v o.what) (filter (λ (o : Order). o.beat == b) os) ≡ list_any (λ (o : Order). o.beat == b && is_finish_of v o.what) os
stop_among v b [] = refl
stop_among v b (o ∷ os) = by_test (o.beat == b) o _ _ (stop_among v b os)
  where
    by_test : (c : Bool) (o : Order) (xs : List Order) (y : Bool) → list_any (λ (x : Order). is_finish_of v x.what) xs ≡ y
        → list_any (λ (x : Order). is_finish_of v x.what) (cond c (o ∷ xs) xs) ≡ ((c && is_finish_of v o.what) || y)
    by_test true o xs y e = ap (λ z. is_finish_of v o.what || z) e
    by_test false o xs y e = e

pub stop_is_ordered : (v b : ℕ) (os : List Order) → list_any (λ (o : Order). is_finish_of v o.what) (orders_in b os) ≡ stop_ordered os v b
unfolding orders_in stop_ordered
stop_is_ordered v b os = stop_among v b os
