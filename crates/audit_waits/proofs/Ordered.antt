-- The table of the disks of the starts that were ordered.
use Rattle.std.proofs.Common.{◌≡◌, ℕ, zero, suc, ◌+◌, ◌<◌, ◌≤◌, Bool, true, ◌&&◌, ◌||◌, ◌==◌, IsTrue, List, [], ◌∷◌, length, take, get_or, refl, sym, ap, subst, ◌∙◌, ⊎_elim, inl, inr}
use Rattle.std.specs.Prelude.{◌↔◌, slice_set}
use Rattle.std.specs.List.{list_any}
use Rattle.std.proofs.lemmas.Bool.{eqb-true, eq-eqb, false≢true}
use Rattle.std.proofs.lemmas.List.{take_more, take_all}
use Rattle.std.proofs.lemmas.List.Folds.{list_any-append}
use Rattle.tiger_base.specs.declared.number.Instance.{Instance}
use Rattle.tiger_base.specs.declared.tenancy.Ask.{Ask}
use Rattle.node_kit.specs.declared.course.Order.{Order}
use Rattle.node_kit.specs.declared.course.OrderKind.{OrderKind}
use Rattle.node_kit.specs.declared.course.OrderKind.TheVariants as kind
use Rattle.run_model.proofs.Reflects.{and_both, and_left, and_right, or_either, or_first, or_second, any_gives}
use Rattle.audit_frame.specs.Tables.{has_pair}
use Rattle.audit_frame.proofs.Added.{or_false}
use Rattle.audit_waits.specs.Starts.{AreAsked, IsOrderedOn, begins_at, begins_on, AreDisksOf}

-- ---- one order

begun : (v disk : ℕ) (k : OrderKind) → IsTrue (begins_on v disk k)
    → (ask : Ask) × (k ≡ kind.Begin ask) × (ask.instance.0 ≡ v) × (ask.disk.0 ≡ disk)
begun v disk (kind.Begin ask) h = (
  ask,
  refl,
  eqb-true ask.instance.0 v (and_left (ask.instance.0 == v) (ask.disk.0 == disk) h),
  eqb-true ask.disk.0 disk (and_right (ask.instance.0 == v) (ask.disk.0 == disk) h),
)
begun v disk (kind.Finish i) h = absurd (false≢true h)

begins : (v disk : ℕ) (k : OrderKind) (ask : Ask) → k ≡ kind.Begin ask → ask.instance.0 ≡ v → ask.disk.0 ≡ disk → IsTrue (begins_on v disk k)
begins v disk k ask is who on = subst (λ (q : OrderKind). IsTrue (begins_on v disk q)) (sym is)
    (and_both (ask.instance.0 == v) (ask.disk.0 == disk) (eq-eqb ask.instance.0 v who) (eq-eqb ask.disk.0 disk on))

-- ---- all orders

found : (v disk : ℕ) (orders : List Order) → IsTrue (list_any (λ o. begins_on v disk o.what) orders) → IsOrderedOn orders v disk
found v disk [] h = absurd (false≢true h)
found v disk (o ∷ os) h = ⊎_elim
    (λ a. let b = begun v disk o.what a in (b.0, inl b.1, b.2, b.3))
    (λ a. let r = found v disk os a in (r.0, inr r.1, r.2, r.3))
    (or_either (begins_on v disk o.what) (list_any (λ o. begins_on v disk o.what) os) h)

pub ordered_is : (v disk : ℕ) (orders : List Order) → IsTrue (list_any (λ o. begins_on v disk o.what) orders) ↔ IsOrderedOn orders v disk
ordered_is v disk orders = (
  (λ h. found v disk orders h),
  (λ h. any_gives (λ (o : Order). o.what ≡ kind.Begin h.0) (λ o. begins_on v disk o.what)
      (λ o e. begins v disk o.what h.0 e h.2 h.3) orders h.1),
)

-- ---- the table, one order more

pub finish_adds_none : (disks : List (ℕ × ℕ)) (w : OrderKind) (i : Instance) → w ≡ kind.Finish i → (v disk : ℕ)
    → has_pair v disk disks ≡ (has_pair v disk disks || begins_on v disk w)
finish_adds_none disks w i is v disk =
    sym (ap (λ (k : OrderKind). has_pair v disk disks || begins_on v disk k) is ∙ or_false (has_pair v disk disks))

pub begin_adds_disk : (old new : List (ℕ × ℕ)) (w : OrderKind) (ask : Ask) → w ≡ kind.Begin ask
    → ((g n : ℕ) → has_pair g n new ≡ (has_pair g n old || ((ask.instance.0 == g) && (ask.disk.0 == n)))) → (v disk : ℕ)
    → has_pair v disk new ≡ (has_pair v disk old || begins_on v disk w)
begin_adds_disk old new w ask is added v disk =
    added v disk ∙ ap (λ (k : OrderKind). has_pair v disk old || begins_on v disk k) (sym is)

pub disks_next : (i : ℕ) (orders : List Order) (d : Order) (v disk : ℕ) (was is : Bool) → i < length orders
    → is ≡ (was || begins_on v disk (get_or orders i d).what) → was ≡ list_any (λ o. begins_on v disk o.what) (take i orders)
    → is ≡ list_any (λ o. begins_on v disk o.what) (take (i + 1) orders)
disks_next i orders d v disk was is low now before =
    let o = get_or orders i d in
    let test = λ (x : Order). begins_on v disk x.what in
    now ∙ ap (λ (b : Bool). b || begins_on v disk o.what) before
    ∙ sym (ap (list_any test) (take_more orders i d low) ∙ list_any-append test (take i orders) (o ∷ [])
    ∙ ap (λ (b : Bool). list_any test (take i orders) || b) (or_false (begins_on v disk o.what)))

pub disks_end : (i : ℕ) (orders : List Order) (disks : List (ℕ × ℕ)) → length orders ≤ i
    → ((v disk : ℕ) → has_pair v disk disks ≡ list_any (λ o. begins_on v disk o.what) (take i orders)) → AreDisksOf disks orders
disks_end i orders disks over so_far v disk =
    subst (λ (b : Bool). IsTrue b ↔ IsOrderedOn orders v disk)
    (sym (so_far v disk ∙ ap (list_any (λ (o : Order). begins_on v disk o.what)) (take_all i orders over)))
    (ordered_is v disk orders)

-- ---- the disks on which starts begin

at_disk : (v disk : ℕ) (k : OrderKind) → IsTrue (begins_on v disk k) → IsTrue (begins_at disk k)
at_disk v disk (kind.Begin ask) h = and_right (ask.instance.0 == v) (ask.disk.0 == disk) h
at_disk v disk (kind.Finish i) h = absurd (false≢true h)

any_weaker : {X : Type 0} (f g : X → Bool) (xs : List X) → ((x : X) → IsTrue (f x) → IsTrue (g x)) → IsTrue (list_any f xs) → IsTrue (list_any g xs)
any_weaker f g [] h a = absurd (false≢true a)
any_weaker f g (x ∷ xs) h a = ⊎_elim
    (λ b. or_first (g x) (list_any g xs) (h x b))
    (λ b. or_second (g x) (list_any g xs) (any_weaker f g xs h b))
    (or_either (f x) (list_any f xs) a)

pub asked_of : (asked : List Bool) (orders : List Order) (v disk : ℕ) → AreAsked asked orders → IsOrderedOn orders v disk
    → IsTrue (get_or asked disk true)
asked_of asked orders v disk all on =
    all disk (any_weaker (λ (o : Order). begins_on v disk o.what) (λ o. begins_at disk o.what) orders (λ o h. at_disk v disk o.what h)
    ((ordered_is v disk orders).1 on))

-- a mark is set, and the others stay
mark_stays : (marks : List Bool) (place disk : ℕ) → IsTrue (get_or marks disk true) → IsTrue (get_or (slice_set marks place true) disk true)
mark_stays [] place disk h = refl
mark_stays (x ∷ xs) zero zero h = refl
mark_stays (x ∷ xs) zero (suc j) h = h
mark_stays (x ∷ xs) (suc i) zero h = h
mark_stays (x ∷ xs) (suc i) (suc j) h = mark_stays xs i j h

mark_there : (marks : List Bool) (place : ℕ) → IsTrue (get_or (slice_set marks place true) place true)
mark_there [] place = refl
mark_there (x ∷ xs) zero = refl
mark_there (x ∷ xs) (suc i) = mark_there xs i

pub begin_asks : (old new : List Bool) (w : OrderKind) (ask : Ask) → w ≡ kind.Begin ask → new ≡ slice_set old ask.disk.0 true → (disk : ℕ)
    → IsTrue (get_or old disk true || begins_at disk w) → IsTrue (get_or new disk true)
begin_asks old new w ask is set disk h =
    subst (λ (marks : List Bool). IsTrue (get_or marks disk true)) (sym set)
    (⊎_elim
    (λ a. mark_stays old ask.disk.0 disk a)
    (λ a. subst (λ (d : ℕ). IsTrue (get_or (slice_set old ask.disk.0 true) d true))
    (eqb-true ask.disk.0 disk (subst (λ (k : OrderKind). IsTrue (begins_at disk k)) is a)) (mark_there old ask.disk.0))
    (or_either (get_or old disk true) (begins_at disk w) h))

pub finish_asks : (old : List Bool) (w : OrderKind) (i : Instance) → w ≡ kind.Finish i → (disk : ℕ)
    → IsTrue (get_or old disk true || begins_at disk w) → IsTrue (get_or old disk true)
finish_asks old w i is disk h = ⊎_elim
    (λ a. a)
    (λ a. absurd (false≢true (subst (λ (k : OrderKind). IsTrue (begins_at disk k)) is a)))
    (or_either (get_or old disk true) (begins_at disk w) h)

pub asked_next : (i : ℕ) (orders : List Order) (d : Order) (old new : List Bool) (disk : ℕ) → i < length orders
    → (IsTrue (get_or old disk true || begins_at disk (get_or orders i d).what) → IsTrue (get_or new disk true))
    → (IsTrue (list_any (λ o. begins_at disk o.what) (take i orders)) → IsTrue (get_or old disk true))
    → IsTrue (list_any (λ o. begins_at disk o.what) (take (i + 1) orders)) → IsTrue (get_or new disk true)
asked_next i orders d old new disk low step before h =
    let o = get_or orders i d in
    let test = λ (x : Order). begins_at disk x.what in
    let split = ap (list_any test) (take_more orders i d low) ∙ list_any-append test (take i orders) (o ∷ [])
    ∙ ap (λ (b : Bool). list_any test (take i orders) || b) (or_false (begins_at disk o.what)) in
    step (⊎_elim
    (λ a. or_first (get_or old disk true) (begins_at disk o.what) (before a))
    (λ a. or_second (get_or old disk true) (begins_at disk o.what) a)
    (or_either (list_any test (take i orders)) (begins_at disk o.what) (sym split ∙ h)))
