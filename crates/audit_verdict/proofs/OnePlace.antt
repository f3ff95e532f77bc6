-- A clause is broken at one place: two places at each of which it is are one.
use Rattle.std.proofs.Common.{◌≡◌, ℕ, ◌+◌, ◌<◌, List, [], ◌∷◌, ◌++◌, length, take, drop, filter, Option, Some, None, refl, sym, ap, subst, ◌∙◌, ⊎_elim, inl, inr, append_assoc, arith}
use Rattle.std.specs.Prelude.{◌==◌, ◌⊎◌}
use Rattle.std.specs.List.{AllByRecursion}
use Rattle.slot_plan.specs.declared.params.Params.{Params}
use Rattle.node_kit.specs.declared.course.Kept.{Kept}
use Rattle.node_kit.specs.declared.course.Order.{Order}
use Rattle.run_facts.specs.Order.{Noted}
use Rattle.run_model.specs.Orders.{is_up_to}
use Rattle.run_model.specs.Runs.{IsTimedRun, order_in}
use Rattle.audit_frame.specs.First.{IsFirstFalse}
use Rattle.audit_orders.proofs.Denying.{untimed_denies}
use Rattle.audit_orders.proofs.Earliest.{front_of_front}
use Rattle.audit_orders.proofs.Oneness.{uncarried_is_one, uncommanded_is_one, untimed_is_one}
use Rattle.audit_orders.specs.Commanding.{clock_of}
use Rattle.audit_blocks.specs.Verdicts.{IsFirstWithout, IsServedIn}
use Rattle.audit_waits.specs.Ticks.{IsFirstPassedOver, last_place}
use Rattle.audit_waits.specs.declared.walk.PassedOver.{PassedOver}
use Rattle.audit_verdict.specs.Clocks.{ShowClocks}
use Rattle.audit_verdict.specs.Places.{IsLastLogged, IsLoggedAt, IsLoggedEntry, IsLoggedPlace, IsPassedTick, IsUntimedPlace, IsWhereFalse, place_uncarried, place_uncommanded, place_untimed}
use Rattle.audit_verdict.specs.Verdicts.{PlacesAreOne}
use Rattle.audit_verdict.specs.declared.clause.Clause.TheVariants as clause
use Rattle.audit_verdict.specs.declared.place.EntryPlace.{EntryPlace}
use Rattle.audit_verdict.specs.declared.place.Place.{Place}
use Rattle.audit_verdict.specs.declared.place.Place.TheVariants as place

between : {x y : ℕ} → (x < y → ⊥) → (y < x → ⊥) → x ≡ y
between {x} {y} f g = omega (arith, f, g)

-- ---- places of the log

entries_one : (k : Kept) (i : ℕ) (e f : EntryPlace) → IsLoggedEntry k i e → IsLoggedEntry k i f → e ≡ f
entries_one k i e f x y =
    let both : Some x.noted ≡ Some y.noted = sym x.in_log ∙ y.in_log in
    let same : x.noted ≡ y.noted = cc in
    let node : e.node.0 ≡ f.node.0 = sym x.node ∙ ap (λ (n : Noted). n.node) same ∙ y.node in
    let at : e.place ≡ f.place = x.behind
    ∙ ap (λ (n : ℕ). length (filter (λ (z : Noted). z.node == n) (take i (order_in k)))) node ∙ sym y.behind in
    λ t. record { node = record { 0 = node t }; place = at t }

logged_one : (k : Kept) (i : ℕ) (a b : Place) → IsLoggedPlace k i a → IsLoggedPlace k i b → a ≡ b
logged_one k i (place.Entry e) (place.Entry f) x y = ap (λ (q : EntryPlace). place.Entry q) (entries_one k i e f x y)
logged_one k i (place.Entry e) (place.Order j) x y = absurd y
logged_one k i (place.Entry e) (place.Death node) x y = absurd y
logged_one k i (place.Entry e) (place.Neighbours cub) x y = absurd y
logged_one k i (place.Entry e) (place.Tick cub beat last) x y = absurd y
logged_one k i (place.Order j) b x y = absurd x
logged_one k i (place.Death node) b x y = absurd x
logged_one k i (place.Neighbours cub) b x y = absurd x
logged_one k i (place.Tick cub beat last) b x y = absurd x

logged_at_one : (k : Kept) (Says : ℕ → Type 0) → ((i j : ℕ) → Says i → Says j → i ≡ j) → (a b : Place)
    → IsLoggedAt k Says a → IsLoggedAt k Says b → a ≡ b
logged_at_one k Says one a b x y =
    let same = one x.0 y.0 x.2 y.2 in
    logged_one k y.0 a b (subst (λ (n : ℕ). IsLoggedPlace k n a) same x.1) y.1

first_false : (Claim : List Noted → Type 0) (log : List Noted) (i j : ℕ) → IsFirstFalse Claim log i → IsFirstFalse Claim log j → i ≡ j
first_false Claim log i j a b =
    between (λ low. a.with_it (b.before (i + 1) (omega (arith, low)))) (λ low. b.with_it (a.before (j + 1) (omega (arith, low))))

false_one : (k : Kept) (Claim : List Noted → Type 0) (a b : Place) → IsWhereFalse k Claim a → IsWhereFalse k Claim b → a ≡ b
false_one k Claim a b x y = logged_at_one k (λ i. IsFirstFalse Claim (order_in k) i) (first_false Claim (order_in k)) a b x y

in_the_middle : (P : Noted → Type 0) (xs : List Noted) (x : Noted) (ys : List Noted) → AllByRecursion P (xs ++ x ∷ ys) → P x
in_the_middle P [] x ys h = h.0
in_the_middle P (z ∷ zs) x ys h = in_the_middle P zs x ys h.1

first_without : (P : Noted → Type 0) (log : List Noted) (i j : ℕ) → IsFirstWithout P log i → IsFirstWithout P log j → i ≡ j
first_without P log i j a b = between (λ low. no_earlier i j a b low) (λ low. no_earlier j i b a low)
  where
    no_earlier : (k l : ℕ) → IsFirstWithout P log k → IsFirstWithout P log l → k < l → ⊥
    no_earlier k l x y low =
        let rest = drop (k + 1) (take l log) in
        x.fails (in_the_middle P (take k log) x.entry rest
        (subst (λ (q : List Noted). AllByRecursion P q)
        (sym (front_of_front log (k + 1) l (omega (arith, low))) ∙ ap (λ (q : List Noted). q ++ rest) x.there
        ∙ append_assoc (take k log) (x.entry ∷ []) rest) y.before))

-- ---- ticks

first_ticks : (p : Params) (orders : List Order) (ticked : ℕ → ℕ → ℕ → Type 0) (log : List Noted) (f g : PassedOver)
    → IsFirstPassedOver p orders ticked log f → IsFirstPassedOver p orders ticked log g → f ≡ g
first_ticks p orders ticked log f g a b =
    let beat : f.beat ≡ g.beat = between (λ low. a.passed_over (b.before f.cub.0 f.beat a.reading a.low a.ticks (inl low)))
    (λ low. b.passed_over (a.before g.cub.0 g.beat b.reading b.low b.ticks (inl low))) in
    let cub : f.cub.0 ≡ g.cub.0 = between (λ low. a.passed_over (b.before f.cub.0 f.beat a.reading a.low a.ticks (inr (beat, low))))
    (λ low. b.passed_over (a.before g.cub.0 g.beat b.reading b.low b.ticks (inr (sym beat, low)))) in
    let at : f.place ≡ g.place = a.place
    ∙ ap (λ (n : ℕ). last_place (length (filter (is_up_to n f.cub.0) log))) beat
    ∙ ap (λ (n : ℕ). last_place (length (filter (is_up_to g.beat n) log))) cub ∙ sym b.place in
    λ t. record { cub = record { 0 = cub t }; beat = beat t; place = at t }

last_one : (k : Kept) (o : Option ℕ) (l m : Option EntryPlace) → IsLastLogged k o l → IsLastLogged k o m → l ≡ m
last_one k None None None x y = refl
last_one k None None (Some f) x y = absurd y
last_one k None (Some e) m x y = absurd x
last_one k (Some i) None m x y = absurd x
last_one k (Some i) (Some e) None x y = absurd y
last_one k (Some i) (Some e) (Some f) x y = ap (λ (q : EntryPlace). Some q) (entries_one k i e f x y)

ticks_one : (k : Kept) (a b : Place) → IsPassedTick k a → IsPassedTick k b → a ≡ b
ticks_one k a b x y =
    let same = first_ticks _ _ _ _ x.tick y.tick x.first y.first in
    let last = last_one k y.tick.place x.last y.last
    (subst (λ (q : PassedOver). IsLastLogged k q.place x.last) same x.logged) y.logged in
    x.is ∙ (λ t. place.Tick (same t).cub (same t).beat (last t)) ∙ sym y.is

-- ---- clauses

untimed_one : (k : Kept) (a b : Place) → IsUntimedPlace k a → IsUntimedPlace k b → a ≡ b
untimed_one k a b x y = x.1 ∙ ap place_untimed (untimed_is_one k.course k.journals x.0 y.0 x.2 y.2) ∙ sym y.1

timed_one : (k : Kept) (a b : Place) → IsUntimedPlace k a ⊎ (IsTimedRun k × IsWhereFalse k (ShowClocks k.course) a)
    → IsUntimedPlace k b ⊎ (IsTimedRun k × IsWhereFalse k (ShowClocks k.course) b) → a ≡ b
timed_one k a b x y = ⊎_elim
    (λ (u : IsUntimedPlace k a). ⊎_elim
    (λ (v : IsUntimedPlace k b). untimed_one k a b u v)
    (λ (v : IsTimedRun k × IsWhereFalse k (ShowClocks k.course) b). absurd (untimed_denies k u.0 u.2 v.0))
    y)
    (λ (u : IsTimedRun k × IsWhereFalse k (ShowClocks k.course) a). ⊎_elim
    (λ (v : IsUntimedPlace k b). absurd (untimed_denies k v.0 v.2 u.0))
    (λ (v : IsTimedRun k × IsWhereFalse k (ShowClocks k.course) b). false_one k (ShowClocks k.course) a b u.1 v.1)
    y)
    x

pub places_are_one : PlacesAreOne
places_are_one k clause.Carried a b x y =
    x.1 ∙ ap place_uncarried (uncarried_is_one k.course k.journals x.0 y.0 x.2 y.2) ∙ sym y.1
places_are_one k clause.Timed a b x y = timed_one k a b x y
places_are_one k clause.Commanded a b x y =
    x.1 ∙ ap (place_uncommanded k.course.plan.params)
    (uncommanded_is_one k.course.plan.params k.course.beats (clock_of k.course) k.orders k.journals x.0 y.0 x.2 y.2) ∙ sym y.1
places_are_one k clause.FreePuts a b x y = false_one k _ a b x y
places_are_one k clause.PartViews a b x y = false_one k _ a b x y
places_are_one k clause.NoReturn a b x y = false_one k _ a b x y
places_are_one k clause.OnePerVisit a b x y = false_one k _ a b x y
places_are_one k clause.TrueBelief a b x y = false_one k _ a b x y
places_are_one k clause.TrueFaults a b x y = false_one k _ a b x y
places_are_one k clause.FullDelivery a b x y =
    logged_at_one k (λ i. IsFirstWithout (IsServedIn k) (order_in k) i) (first_without (IsServedIn k) (order_in k)) a b x y
places_are_one k clause.VisitsInOrder a b x y = false_one k _ a b x y
places_are_one k clause.FairStarts a b x y = ticks_one k a b x y
