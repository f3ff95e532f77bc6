-- A walk can name one place only: two places at each of which a claim breaks first are one.
use Rattle.std.proofs.Common.{◌≡◌, ℕ, ◌+◌, ◌<◌, ◌≤◌, List, ◌++◌, take, drop, Option, Some, slice_get, refl, sym, ap, subst, ◌∙◌, ⊎_elim, inl, inr, append_assoc, arith}
use Rattle.std.proofs.lemmas.List.{take-append-drop, take-take}
use Rattle.slot_plan.specs.declared.params.Params.{Params}
use Rattle.node_kit.specs.declared.course.Course.{Course}
use Rattle.node_kit.specs.declared.course.Order.{Order}
use Rattle.node_kit.specs.declared.journal.Entry.{Entry}
use Rattle.node_kit.specs.Life.{back_of}
use Rattle.node_kit.specs.Links.{links_of, controller_of}
use Rattle.run_facts.specs.Commanded.{Dispatch, starts_sent, starts_ordered}
use Rattle.run_model.specs.Runs.{TellsReturn}
use Rattle.audit_orders.specs.Earliest.{IsFirstEntry, IsFirstInRow}
use Rattle.audit_orders.specs.Breaches.{CanGoOn, IsBreach, DecidesList}
use Rattle.audit_orders.specs.Commanding.{IsFrontOf, starts_due, IsWrongStart, IsUnsent, BreaksOrders, OthersStopNone, IsForeignStop}
use Rattle.audit_orders.specs.Returning.{LacksReturn, IsUntoldAt, IsFirstUntold}
use Rattle.audit_orders.specs.Timing.{IsTimedIn, IsFirstFlaw, IsFirstPair}
use Rattle.audit_orders.specs.Verdicts.{UncarriedIsOne, UntimedIsOne, UncommandedIsOne}
use Rattle.audit_orders.specs.declared.carrying.Uncarried.TheVariants as uncarried
use Rattle.audit_orders.specs.declared.commanding.Uncommanded.{Uncommanded}
use Rattle.audit_orders.specs.declared.commanding.Uncommanded.TheVariants as un
use Rattle.audit_orders.specs.declared.flaw.Flaw.{Flaw}
use Rattle.audit_orders.specs.declared.flaw.Flaw.TheVariants as flaw
use Rattle.audit_orders.specs.declared.timing.Untimed.TheVariants as untimed
use Rattle.audit_orders.proofs.Denying.{flaw_denies, gone_denies, ordered_front, sent_front, start_sent, untold_denies, unsent_sent}
use Rattle.audit_orders.proofs.Earliest.{front_of_front, one_journal}

-- ---- places

between : {x y : ℕ} → (x < y → ⊥) → (y < x → ⊥) → x ≡ y
between {x} {y} f g = omega (arith, f, g)

pub first_entries : (Holds : ℕ → ℕ → Type 0) (n i m j : ℕ) → IsFirstEntry Holds n i → IsFirstEntry Holds m j → (n ≡ m) × (i ≡ j)
first_entries Holds n i m j a b =
    let node : n ≡ m = between (λ low. b.none_before n i (inl low) a.here) (λ low. a.none_before m j (inl low) b.here) in (
      node,
      between (λ low. b.none_before n i (inr (node, low)) a.here) (λ low. a.none_before m j (inr (sym node, low)) b.here),
    )

pub first_places : (Holds : ℕ → Type 0) (i j : ℕ) → IsFirstInRow Holds i → IsFirstInRow Holds j → i ≡ j
first_places Holds i j a b = between (λ low. b.none_before i low a.here) (λ low. a.none_before j low b.here)

-- ---- messages

pub uncarried_is_one : UncarriedIsOne
uncarried_is_one c journals (uncarried.Stray n i) (uncarried.Stray m j) a b =
    let same = first_entries _ n.0 i m.0 j a b in
    λ t. uncarried.Stray (record { 0 = same.0 t }) (same.1 t)
uncarried_is_one c journals (uncarried.Stray n i) (uncarried.Got m j) a b = absurd (b.0 n.0 i a.here)
uncarried_is_one c journals (uncarried.Stray n i) (uncarried.Lost m j) a b = absurd (b.0 n.0 i a.here)
uncarried_is_one c journals (uncarried.Got n i) (uncarried.Stray m j) a b = absurd (a.0 m.0 j b.here)
uncarried_is_one c journals (uncarried.Got n i) (uncarried.Got m j) a b =
    let same = first_entries _ n.0 i m.0 j a.1 b.1 in
    λ t. uncarried.Got (record { 0 = same.0 t }) (same.1 t)
uncarried_is_one c journals (uncarried.Got n i) (uncarried.Lost m j) a b = absurd (b.1 n.0 i a.1.here)
uncarried_is_one c journals (uncarried.Lost n i) (uncarried.Stray m j) a b = absurd (a.0 m.0 j b.here)
uncarried_is_one c journals (uncarried.Lost n i) (uncarried.Got m j) a b = absurd (a.1 m.0 j b.1.here)
uncarried_is_one c journals (uncarried.Lost n i) (uncarried.Lost m j) a b =
    let same = first_entries _ n.0 i m.0 j a.2 b.2 in
    λ t. uncarried.Lost (record { 0 = same.0 t }) (same.1 t)

-- ---- times

go_on_front : {X : Type 0} (Claim : List X → Type 0) (xs : List X) (k j : ℕ) → k ≤ j → CanGoOn Claim (take j xs) → CanGoOn Claim (take k xs)
go_on_front {X} Claim xs k j le h = (
  drop k (take j xs) ++ h.0,
  subst Claim (ap (λ (q : List X). q ++ h.0) (sym (front_of_front xs k j le)) ∙ append_assoc (take k xs) (drop k (take j xs)) h.0) h.1,
)

go_on_all : {X : Type 0} (Claim : List X → Type 0) (xs : List X) (k : ℕ) → CanGoOn Claim xs → CanGoOn Claim (take k xs)
go_on_all {X} Claim xs k h = (
  drop k xs ++ h.0,
  subst Claim (ap (λ (q : List X). q ++ h.0) (sym (take-append-drop k xs)) ∙ append_assoc (take k xs) (drop k xs) h.0) h.1,
)

breaches : {X : Type 0} (Claim : List X → Type 0) (xs : List X) (i j : ℕ) → IsBreach Claim xs i → IsBreach Claim xs j → i ≡ j
breaches Claim xs i j a b =
    between (λ low. a.with_it (go_on_front Claim xs (i + 1) j (omega (arith, low)) b.before))
    (λ low. b.with_it (go_on_front Claim xs (j + 1) i (omega (arith, low)) a.before))

flaws : {X : Type 0} (Claim : List X → Type 0) (xs : List X) (f g : Flaw) → DecidesList Claim xs (Some f) → DecidesList Claim xs (Some g) → f ≡ g
flaws Claim xs (flaw.Entry i) (flaw.Entry j) a b = ap (λ (n : ℕ). flaw.Entry n) (breaches Claim xs i j a b)
flaws Claim xs (flaw.Entry i) flaw.Missing a b = absurd (a.with_it (go_on_all Claim xs (i + 1) b.more))
flaws Claim xs flaw.Missing (flaw.Entry j) a b = absurd (b.with_it (go_on_all Claim xs (j + 1) a.more))
flaws Claim xs flaw.Missing flaw.Missing a b = refl

first_flaws : (c : Course) (journals : List (List Entry)) (n m : ℕ) (f g : Flaw) → IsFirstFlaw c journals n f → IsFirstFlaw c journals m g
    → (n ≡ m) × (f ≡ g)
first_flaws c journals n m f g a b =
    let node : n ≡ m = between (λ low. flaw_denies (IsTimedIn c n) a.journal f a.flawed (b.lower n a.journal low a.here))
    (λ low. flaw_denies (IsTimedIn c m) b.journal g b.flawed (a.lower m b.journal low b.here)) in
    let one = one_journal journals m a.journal b.journal (subst (λ (k : ℕ). slice_get journals k ≡ Some a.journal) node a.here) b.here in (
      node,
      flaws (IsTimedIn c m) b.journal f g
          (subst (λ (q : List Entry). DecidesList (IsTimedIn c m) q (Some f)) one
          (subst (λ (k : ℕ). DecidesList (IsTimedIn c k) a.journal (Some f)) node a.flawed)) b.flawed,
    )

first_pairs : (c : Course) (n m : ℕ) → IsFirstPair c n → IsFirstPair c m → n ≡ m
first_pairs c n m a b = between (λ low. a.both (b.lower n low)) (λ low. b.both (a.lower m low))

untold_places : (beats : ℕ) (back : Option ℕ) (journal : List Entry) (i j : ℕ) → IsUntoldAt beats back journal i → IsUntoldAt beats back journal j
    → i ≡ j
untold_places beats back journal i j a b = ⊎_elim
    (λ (x : IsBreach (TellsReturn beats back) journal i). ⊎_elim
    (λ (y : IsBreach (TellsReturn beats back) journal j). breaches (TellsReturn beats back) journal i j x y)
    (λ (y : LacksReturn beats back journal j). absurd (x.with_it (go_on_all (TellsReturn beats back) journal (i + 1) y.unfinished.more)))
    b)
    (λ (x : LacksReturn beats back journal i). ⊎_elim
    (λ (y : IsBreach (TellsReturn beats back) journal j). absurd (y.with_it (go_on_all (TellsReturn beats back) journal (j + 1) x.unfinished.more)))
    (λ (y : LacksReturn beats back journal j). let last = x.last in let other = y.last in omega (arith, last, other))
    b)
    a

first_untold : (c : Course) (journals : List (List Entry)) (n m i j : ℕ) → IsFirstUntold c journals n i → IsFirstUntold c journals m j
    → (n ≡ m) × (i ≡ j)
first_untold c journals n m i j a b =
    let node : n ≡ m = between (λ low. untold_denies c n a.journal i a.untold (b.lower n a.journal low a.here))
    (λ low. untold_denies c m b.journal j b.untold (a.lower m b.journal low b.here)) in
    let one = one_journal journals m a.journal b.journal (subst (λ (k : ℕ). slice_get journals k ≡ Some a.journal) node a.here) b.here in (
      node,
      untold_places c.beats (back_of c m) b.journal i j
          (subst (λ (q : List Entry). IsUntoldAt c.beats (back_of c m) q i) one
          (subst (λ (k : ℕ). IsUntoldAt c.beats (back_of c k) a.journal i) node a.untold)) b.untold,
    )

pub untimed_is_one : UntimedIsOne
untimed_is_one c journals (untimed.Journal n f) (untimed.Journal m g) a b =
    let same = first_flaws c journals n.0 m.0 f g a b in
    λ t. untimed.Journal (record { 0 = same.0 t }) (same.1 t)
untimed_is_one c journals (untimed.Journal n f) (untimed.Neighbours cub) a b =
    absurd (flaw_denies (IsTimedIn c n.0) a.journal f a.flawed (b.0 n.0 a.journal a.here))
untimed_is_one c journals (untimed.Journal n f) (untimed.Return m j) a b =
    absurd (flaw_denies (IsTimedIn c n.0) a.journal f a.flawed (b.0 n.0 a.journal a.here))
untimed_is_one c journals (untimed.Neighbours x) (untimed.Journal m g) a b =
    absurd (flaw_denies (IsTimedIn c m.0) b.journal g b.flawed (a.0 m.0 b.journal b.here))
untimed_is_one c journals (untimed.Neighbours x) (untimed.Neighbours y) a b =
    let same = first_pairs c x.0 y.0 a.1 b.1 in
    λ t. untimed.Neighbours (record { 0 = same t })
untimed_is_one c journals (untimed.Neighbours x) (untimed.Return m j) a b = absurd (a.1.both (b.1.0 x.0 a.1.cub))
untimed_is_one c journals (untimed.Return n i) (untimed.Journal m g) a b =
    absurd (flaw_denies (IsTimedIn c m.0) b.journal g b.flawed (a.0 m.0 b.journal b.here))
untimed_is_one c journals (untimed.Return n i) (untimed.Neighbours y) a b = absurd (b.1.both (a.1.0 y.0 b.1.cub))
untimed_is_one c journals (untimed.Return n i) (untimed.Return m j) a b =
    let same = first_untold c journals n.0 m.0 i j a.1.1 b.1.1 in
    λ t. untimed.Return (record { 0 = same.0 t }) (same.1 t)

-- ---- starts

-- what is made of a list piece by piece is made of each front of it first
shorter : {X : Type 0} (made : List X → List Dispatch) → ((n : ℕ) (xs : List X) → made (take n xs) ++ made (drop n xs) ≡ made xs)
    → (xs : List X) (k j : ℕ) (all : List Dispatch) → k ≤ j → IsFrontOf (made (take j xs)) all → IsFrontOf (made (take k xs)) all
shorter {X} made parts xs k j all le h = (
  made (drop k (take j xs)) ++ h.0,
  sym (append_assoc (made (take k xs)) (made (drop k (take j xs))) h.0)
      ∙ ap (λ (q : List X). (made q ++ made (drop k (take j xs))) ++ h.0) (sym (take-take k j xs le))
      ∙ ap (λ (q : List Dispatch). q ++ h.0) (parts k (take j xs)) ∙ h.1,
)

short : {X : Type 0} (made : List X → List Dispatch) → ((n : ℕ) (xs : List X) → made (take n xs) ++ made (drop n xs) ≡ made xs)
    → (xs : List X) (k : ℕ) (all : List Dispatch) → IsFrontOf (made xs) all → IsFrontOf (made (take k xs)) all
short made parts xs k all h = (
  made (drop k xs) ++ h.0,
  sym (append_assoc (made (take k xs)) (made (drop k xs)) h.0) ∙ ap (λ (q : List Dispatch). q ++ h.0) (parts k xs) ∙ h.1,
)

two_starts : (p : Params) (beats : ℕ) (orders : List Order) (journal : List Entry) (i j : ℕ) → IsWrongStart p beats orders journal i
    → IsWrongStart p beats orders journal j → i ≡ j
two_starts p beats orders journal i j a b =
    let beat : a.beat ≡ b.beat = between (λ low. start_sent p beats orders journal i a (b.lower_beats a.beat low))
    (λ low. start_sent p beats orders journal j b (a.lower_beats b.beat low)) in
    between (λ low. no_earlier i j a b beat low) (λ low. no_earlier j i b a (sym beat) low)
  where
    no_earlier : (k l : ℕ) (x : IsWrongStart p beats orders journal k) (y : IsWrongStart p beats orders journal l) → x.beat ≡ y.beat → k < l → ⊥
    no_earlier k l x y same low =
        x.with_it (shorter (starts_sent p x.beat) (λ n xs. sent_front p x.beat n xs) journal (k + 1) l (starts_due p beats orders x.beat)
        (omega (arith, low))
        (subst (λ (b : ℕ). IsFrontOf (starts_sent p b (take l journal)) (starts_due p beats orders b)) (sym same) y.before))

start_or_unsent : (p : Params) (beats : ℕ) (orders : List Order) (journal : List Entry) (i j : ℕ) → IsWrongStart p beats orders journal i
    → IsUnsent p beats orders journal j → ⊥
start_or_unsent p beats orders journal i j a b =
    let beat : a.beat ≡ b.order.beat = between (λ low. start_sent p beats orders journal i a (b.lower_beats a.beat low))
    (λ low. unsent_sent p beats orders journal j b (a.lower_beats b.order.beat low)) in
    a.with_it (short (starts_sent p a.beat) (λ n xs. sent_front p a.beat n xs) journal (i + 1) (starts_due p beats orders a.beat)
    (subst (λ (x : ℕ). IsFrontOf (starts_sent p x journal) (starts_due p beats orders x)) (sym beat) b.sent))

two_unsent : (p : Params) (beats : ℕ) (orders : List Order) (journal : List Entry) (i j : ℕ) → IsUnsent p beats orders journal i
    → IsUnsent p beats orders journal j → i ≡ j
two_unsent p beats orders journal i j a b =
    let beat : a.order.beat ≡ b.order.beat = between (λ low. unsent_sent p beats orders journal i a (b.lower_beats a.order.beat low))
    (λ low. unsent_sent p beats orders journal j b (a.lower_beats b.order.beat low)) in
    between (λ low. no_earlier i j a b beat low) (λ low. no_earlier j i b a (sym beat) low)
  where
    no_earlier : (k l : ℕ) (x : IsUnsent p beats orders journal k) (y : IsUnsent p beats orders journal l) → x.order.beat ≡ y.order.beat
        → k < l → ⊥
    no_earlier k l x y same low =
        x.lacks (shorter (starts_ordered p x.order.beat) (λ n os. ordered_front p x.order.beat n os) orders (k + 1) l
        (starts_sent p x.order.beat journal) (omega (arith, low))
        (subst (λ (b : ℕ). IsFrontOf (starts_ordered p b (take l orders)) (starts_sent p b journal)) (sym same) y.lower))

-- ---- orders

breaks_one : (p : Params) (beats : ℕ) (reading : ℕ → ℕ) (orders : List Order) (journal : List Entry) (a b : Uncommanded)
    → BreaksOrders p beats reading orders journal a → BreaksOrders p beats reading orders journal b → a ≡ b
breaks_one p beats reading orders journal (un.Foreign node i) y a b = absurd a
breaks_one p beats reading orders journal (un.Start i) (un.Foreign node j) a b = absurd b
breaks_one p beats reading orders journal (un.Start i) (un.Start j) a b =
    ap (λ (n : ℕ). un.Start n) (two_starts p beats orders journal i j a b)
breaks_one p beats reading orders journal (un.Start i) (un.Unsent j) a b = absurd (start_or_unsent p beats orders journal i j a b)
breaks_one p beats reading orders journal (un.Start i) (un.Stop j) a b = absurd (start_sent p beats orders journal i a (b.0 a.beat))
breaks_one p beats reading orders journal (un.Start i) (un.Unstopped j) a b = absurd (start_sent p beats orders journal i a (b.0 a.beat))
breaks_one p beats reading orders journal (un.Unsent i) (un.Foreign node j) a b = absurd b
breaks_one p beats reading orders journal (un.Unsent i) (un.Start j) a b = absurd (start_or_unsent p beats orders journal j i b a)
breaks_one p beats reading orders journal (un.Unsent i) (un.Unsent j) a b =
    ap (λ (n : ℕ). un.Unsent n) (two_unsent p beats orders journal i j a b)
breaks_one p beats reading orders journal (un.Unsent i) (un.Stop j) a b =
    absurd (unsent_sent p beats orders journal i a (b.0 a.order.beat))
breaks_one p beats reading orders journal (un.Unsent i) (un.Unstopped j) a b =
    absurd (unsent_sent p beats orders journal i a (b.0 a.order.beat))
breaks_one p beats reading orders journal (un.Stop i) (un.Foreign node j) a b = absurd b
breaks_one p beats reading orders journal (un.Stop i) (un.Start j) a b = absurd (start_sent p beats orders journal j b (a.0 b.beat))
breaks_one p beats reading orders journal (un.Stop i) (un.Unsent j) a b =
    absurd (unsent_sent p beats orders journal j b (a.0 b.order.beat))
breaks_one p beats reading orders journal (un.Stop i) (un.Stop j) a b = ap (λ (n : ℕ). un.Stop n) (first_places _ i j a.1 b.1)
breaks_one p beats reading orders journal (un.Stop i) (un.Unstopped j) a b = absurd (b.1.none_wrong i a.1.here)
breaks_one p beats reading orders journal (un.Unstopped i) (un.Foreign node j) a b = absurd b
breaks_one p beats reading orders journal (un.Unstopped i) (un.Start j) a b =
    absurd (start_sent p beats orders journal j b (a.0 b.beat))
breaks_one p beats reading orders journal (un.Unstopped i) (un.Unsent j) a b =
    absurd (unsent_sent p beats orders journal j b (a.0 b.order.beat))
breaks_one p beats reading orders journal (un.Unstopped i) (un.Stop j) a b = absurd (a.1.none_wrong j b.1.here)
breaks_one p beats reading orders journal (un.Unstopped i) (un.Unstopped j) a b =
    ap (λ (n : ℕ). un.Unstopped n) (first_places _ i j a.1.first b.1.first)

-- the controller's journal breaks the orders first at one place
abbrev BreaksIn : Params → ℕ → (ℕ → ℕ) → List Order → List (List Entry) → Uncommanded → Type 0
BreaksIn p beats reading orders journals place =
    OthersStopNone (controller_of (links_of p)) journals
    × (journal : List Entry) × (slice_get journals (controller_of (links_of p)) ≡ Some journal)
    × BreaksOrders p beats reading orders journal place

by_controller : (p : Params) (beats : ℕ) (reading : ℕ → ℕ) (orders : List Order) (journals : List (List Entry)) (x y : Uncommanded)
    → BreaksIn p beats reading orders journals x → BreaksIn p beats reading orders journals y → x ≡ y
by_controller p beats reading orders journals x y a b =
    let one = one_journal journals (controller_of (links_of p)) a.1 b.1 a.2 b.2 in
    breaks_one p beats reading orders b.1 x y (subst (λ (q : List Entry). BreaksOrders p beats reading orders q x) one a.3) b.3

no_foreign : (p : Params) (journals : List (List Entry)) (n i : ℕ) → IsForeignStop (controller_of (links_of p)) journals n i
    → OthersStopNone (controller_of (links_of p)) journals → ⊥
no_foreign p journals n i h none = gone_denies h.journal i h.gone (none n h.journal h.other h.here)

pub uncommanded_is_one : UncommandedIsOne
uncommanded_is_one p beats reading orders journals (un.Foreign n i) (un.Foreign m j) a b =
    let same = first_entries _ n.0 i m.0 j a b in
    λ t. un.Foreign (record { 0 = same.0 t }) (same.1 t)
uncommanded_is_one p beats reading orders journals (un.Foreign n i) (un.Start j) a b = absurd (no_foreign p journals n.0 i a.here b.0)
uncommanded_is_one p beats reading orders journals (un.Foreign n i) (un.Unsent j) a b = absurd (no_foreign p journals n.0 i a.here b.0)
uncommanded_is_one p beats reading orders journals (un.Foreign n i) (un.Stop j) a b = absurd (no_foreign p journals n.0 i a.here b.0)
uncommanded_is_one p beats reading orders journals (un.Foreign n i) (un.Unstopped j) a b = absurd (no_foreign p journals n.0 i a.here b.0)
uncommanded_is_one p beats reading orders journals (un.Start i) (un.Foreign m j) a b = absurd (no_foreign p journals m.0 j b.here a.0)
uncommanded_is_one p beats reading orders journals (un.Unsent i) (un.Foreign m j) a b = absurd (no_foreign p journals m.0 j b.here a.0)
uncommanded_is_one p beats reading orders journals (un.Stop i) (un.Foreign m j) a b = absurd (no_foreign p journals m.0 j b.here a.0)
uncommanded_is_one p beats reading orders journals (un.Unstopped i) (un.Foreign m j) a b = absurd (no_foreign p journals m.0 j b.here a.0)
uncommanded_is_one p beats reading orders journals (un.Start i) (un.Start j) a b =
    by_controller p beats reading orders journals (un.Start i) (un.Start j) a b
uncommanded_is_one p beats reading orders journals (un.Start i) (un.Unsent j) a b =
    by_controller p beats reading orders journals (un.Start i) (un.Unsent j) a b
uncommanded_is_one p beats reading orders journals (un.Start i) (un.Stop j) a b =
    by_controller p beats reading orders journals (un.Start i) (un.Stop j) a b
uncommanded_is_one p beats reading orders journals (un.Start i) (un.Unstopped j) a b =
    by_controller p beats reading orders journals (un.Start i) (un.Unstopped j) a b
uncommanded_is_one p beats reading orders journals (un.Unsent i) (un.Start j) a b =
    by_controller p beats reading orders journals (un.Unsent i) (un.Start j) a b
uncommanded_is_one p beats reading orders journals (un.Unsent i) (un.Unsent j) a b =
    by_controller p beats reading orders journals (un.Unsent i) (un.Unsent j) a b
uncommanded_is_one p beats reading orders journals (un.Unsent i) (un.Stop j) a b =
    by_controller p beats reading orders journals (un.Unsent i) (un.Stop j) a b
uncommanded_is_one p beats reading orders journals (un.Unsent i) (un.Unstopped j) a b =
    by_controller p beats reading orders journals (un.Unsent i) (un.Unstopped j) a b
uncommanded_is_one p beats reading orders journals (un.Stop i) (un.Start j) a b =
    by_controller p beats reading orders journals (un.Stop i) (un.Start j) a b
uncommanded_is_one p beats reading orders journals (un.Stop i) (un.Unsent j) a b =
    by_controller p beats reading orders journals (un.Stop i) (un.Unsent j) a b
uncommanded_is_one p beats reading orders journals (un.Stop i) (un.Stop j) a b =
    by_controller p beats reading orders journals (un.Stop i) (un.Stop j) a b
uncommanded_is_one p beats reading orders journals (un.Stop i) (un.Unstopped j) a b =
    by_controller p beats reading orders journals (un.Stop i) (un.Unstopped j) a b
uncommanded_is_one p beats reading orders journals (un.Unstopped i) (un.Start j) a b =
    by_controller p beats reading orders journals (un.Unstopped i) (un.Start j) a b
uncommanded_is_one p beats reading orders journals (un.Unstopped i) (un.Unsent j) a b =
    by_controller p beats reading orders journals (un.Unstopped i) (un.Unsent j) a b
uncommanded_is_one p beats reading orders journals (un.Unstopped i) (un.Stop j) a b =
    by_controller p beats reading orders journals (un.Unstopped i) (un.Stop j) a b
uncommanded_is_one p beats reading orders journals (un.Unstopped i) (un.Unstopped j) a b =
    by_controller p beats reading orders journals (un.Unstopped i) (un.Unstopped j) a b
