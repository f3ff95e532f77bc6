-- The journals of a kept run and the order of its entries, in which each instance is put once and rightly.
use Rattle.std.proofs.Common.{◌≡◌, ℕ, zero, suc, ◌<◌, ◌≤◌, List, [], ◌∷◌, length, filter, Option, Some, None, refl, sym, ap, subst, ◌∙◌, arith, ⊎_elim, inl, inr}
use Rattle.std.specs.Prelude.{slice_get, get_or, unwrap_or}
use Rattle.std.specs.List.{flat_map}
use Rattle.std.proofs.lemmas.Bool.{eq-eqb}
use Rattle.std.proofs.lemmas.Option.{none-some, slice_get-get_or}
use Rattle.tiger_base.specs.declared.tenancy.Tenancy.{Tenancy}
use Rattle.node_kit.specs.declared.course.Kept.{Kept}
use Rattle.node_kit.specs.declared.journal.What.{What}
use Rattle.node_kit.specs.declared.journal.What.TheVariants as what
use Rattle.node_kit.specs.declared.journal.Entry.{Entry}
use Rattle.node_kit.specs.Links.{links_of, controller_of}
use Rattle.run_facts.specs.Order.{Noted}
use Rattle.run_model.specs.Fronts.{AnyByRecursion}
use Rattle.run_model.specs.Moments.{Moment, moment_at, is_put_of}
use Rattle.run_model.specs.Orders.{EntryIsFair, IsRightlyPut}
use Rattle.run_model.specs.Runs.{order_in}
use Rattle.run_model.specs.Served.{journal_at, IsPut}
use Rattle.run_model.proofs.Moments.{fair_at_fronts}
use Rattle.lists.specs.Elements.{In}
use Rattle.proof_moments.specs.Ties.{StandsIn}
use Rattle.proof_moments.proofs.Lists.{any_by, any_with}
use Rattle.lists.proofs.Elements.{in_left, in_right, in_cases, in_filter}
use Rattle.lists.proofs.Each.{all_in}
use Rattle.lists.proofs.Cuts.{cut_by}
use Rattle.proof_moments.proofs.Orders.{noted_at, into_order, of_order}
use Rattle.run_promises.specs.Kept.{IsKeptWell}
use Rattle.run_promises.proofs.Fronts.{IsPutBy}

-- ---- lists

pub from_flat_map : {X Y : Type 0} (f : X → List Y) (y : Y) (xs : List X) → In y (flat_map f xs) → (x : X) × In x xs × In y (f x)
from_flat_map f y [] i = absurd i
from_flat_map f y (x ∷ xs) i = ⊎_elim
    (λ k. (x, inl refl, k))
    (λ k. let r = from_flat_map f y xs k in (r.0, inr r.1, r.2))
    (in_cases y (f x) (flat_map f xs) i)

pub into_flat_map : {X Y : Type 0} (f : X → List Y) (y : Y) (xs : List X) (x : X) → In x xs → In y (f x) → In y (flat_map f xs)
into_flat_map f y [] x i k = absurd i
into_flat_map {X} f y (z ∷ xs) x i k = ⊎_elim
    (λ e. in_left y (f z) (flat_map f xs) (subst (λ (w : X). In y (f w)) e k))
    (λ j. in_right y (f z) (flat_map f xs) (into_flat_map f y xs x j k))
    i

at_place : {X : Type 0} (xs : List X) (x : X) → In x xs → (n : ℕ) × (slice_get xs n ≡ Some x)
at_place [] x i = absurd i
at_place (y ∷ xs) x i = ⊎_elim
    (λ e. (0, ap (λ z. Some z) (sym e)))
    (λ j. let r = at_place xs x j in (suc r.0, r.1))
    i

by_place : {X : Type 0} (xs : List X) (n : ℕ) (x : X) → slice_get xs n ≡ Some x → In x xs
by_place [] n x e = absurd (none-some x e)
by_place (y ∷ xs) zero x e = inl (sym (ap (λ (o : Option _). unwrap_or o y) e))
by_place (y ∷ xs) (suc n) x e = inr (by_place xs n x e)

-- in a list of one at most any two elements are one
pub only_one : {X : Type 0} (xs : List X) (x y : X) → length xs ≤ 1 → In x xs → In y xs → x ≡ y
only_one [] x y h i j = absurd i
only_one (z ∷ []) x y h i j = ⊎_elim (λ e. ⊎_elim (λ f. e ∙ sym f) (λ b. absurd b) j) (λ b. absurd b) i
only_one (z ∷ w ∷ zs) x y h i j = absurd (omega arith)

-- ---- journals

-- each node up to the controller has a journal
pub journal_there : (k : Kept) (n : ℕ) → IsKeptWell k → n ≤ controller_of (links_of k.course.plan.params)
    → (j : List Entry) × (slice_get k.journals n ≡ Some j)
journal_there k n w h = (get_or k.journals n [], slice_get-get_or k.journals n [] (omega (arith, w.count, h)))

stands_by : (js : List (List Entry)) (n : ℕ) (e : Entry) (o : Option (List Entry)) → slice_get js n ≡ o → In e (unwrap_or o []) → StandsIn js n e
stands_by js n e None at i = absurd i
stands_by js n e (Some j) at i = record { journal = j; at = at; there = i }

-- an entry of a node's journal stands in it, and an entry of some journal stands in that of some node
pub stands_at : (js : List (List Entry)) (n : ℕ) (e : Entry) → In e (journal_at js n) → StandsIn js n e
unfolding journal_at
stands_at js n e i = stands_by js n e (slice_get js n) refl i

pub stands_some : (P : Entry → Type 0) (js : List (List Entry)) → AnyByRecursion (λ journal. AnyByRecursion P journal) js
    → (n : ℕ) × (e : Entry) × StandsIn js n e × P e
stands_some P js h =
    let j = any_by (λ (journal : List Entry). AnyByRecursion P journal) js h in
    let e = any_by P j.0 j.2 in
    let r = at_place js j.0 j.1 in
    (r.0, e.0, record { journal = j.0; at = r.1; there = e.1 }, e.2)

pub some_stands : (P : Entry → Type 0) (js : List (List Entry)) (n : ℕ) (e : Entry) → StandsIn js n e → P e
    → AnyByRecursion (λ journal. AnyByRecursion P journal) js
some_stands P js n e s h =
    any_with (λ (journal : List Entry). AnyByRecursion P journal) js s.journal (by_place js n s.journal s.at) (any_with P s.journal e s.there h)

-- ---- the order

pub in_the_order : (k : Kept) (n : ℕ) (e : Entry) → IsKeptWell k → StandsIn k.journals n e → In (noted_at n e) (order_in k)
in_the_order k n e w s =
    let early = all_in (λ (e : Entry). e.stamp.beat < k.course.beats) e s.journal (w.timed n s.journal s.at).early s.there in
    into_order 0 k.course.beats k.journals n e s (omega arith) (omega arith)

pub from_the_order : (k : Kept) (x : Noted) → In x (order_in k) → StandsIn k.journals x.node x.entry
from_the_order k x i = (of_order 0 k.course.beats k.journals x i).stands

pub put_in_order : (k : Kept) (t : Tenancy) → IsKeptWell k → IsPut k.journals t → IsPutBy (order_in k) t
put_in_order k t w h =
    let s = stands_some (λ (e : Entry). e.what ≡ what.Put t) k.journals h in
    record { entry = noted_at s.0 s.1; there = in_the_order k s.0 s.1 w s.2; is = s.3 }

pub put_in_journals : (k : Kept) (t : Tenancy) → IsPutBy (order_in k) t → IsPut k.journals t
put_in_journals k t q = some_stands (λ (e : Entry). e.what ≡ what.Put t) k.journals q.entry.node q.entry.entry (from_the_order k q.entry q.there) q.is

-- ---- Puts

-- each tenancy that is put is rightly put
pub rightly_put : (k : Kept) (t : Tenancy) → IsKeptWell k → (q : IsPutBy (order_in k) t)
    → (m : Moment) × IsRightlyPut k.course.plan.params k.orders (order_in k) m q.entry.node q.entry.entry.stamp.reading t
rightly_put k t w q =
    let p = k.course.plan.params in
    let log = order_in k in
    let cut = cut_by q.entry log q.there in
    let fair = (fair_at_fronts p k.orders log).0 w.claims.free cut.front q.entry cut.back cut.is in
    let put : EntryIsFair p k.orders log (moment_at cut.front) q.entry.node q.entry.entry.stamp.reading (what.Put t) =
    subst (λ (z : What). EntryIsFair p k.orders log (moment_at cut.front) q.entry.node q.entry.entry.stamp.reading z) q.is fair in
    (moment_at cut.front, put.rightly)

puts_it : (log : List Noted) (t : Tenancy) (v : ℕ) (q : IsPutBy log t) → t.instance.0 ≡ v
    → In q.entry (filter (λ (x : Noted). is_put_of v x.entry.what) log)
puts_it log t v q e = in_filter (λ (x : Noted). is_put_of v x.entry.what) q.entry log q.there
    (ap (λ (w : What). is_put_of v w) q.is ∙ eq-eqb t.instance.0 v e)

-- an instance is put into one tenancy
pub one_tenancy : (k : Kept) (t u : Tenancy) → IsKeptWell k → IsPutBy (order_in k) t → IsPutBy (order_in k) u → t.instance.0 ≡ u.instance.0 → t ≡ u
one_tenancy k t u w a b e =
    let same : a.entry ≡ b.entry = only_one _ a.entry b.entry (rightly_put k t w a).1.once
    (puts_it (order_in k) t t.instance.0 a refl) (puts_it (order_in k) u t.instance.0 b (sym e)) in
    let put : what.Put t ≡ what.Put u = sym a.is ∙ ap (λ (x : Noted). x.entry.what) same ∙ b.is in
    let both : t ≡ u = cc in both
