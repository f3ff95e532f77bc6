-- What the walks' answers say of the clauses, told as places of the run.
use Rattle.std.proofs.Common.{◌≡◌, ℕ, zero, suc, ◌+◌, ◌<◌, ◌≤◌, Bool, true, false, List, [], ◌∷◌, length, take, filter, Option, Some, None, option_map, refl, sym, ap, subst, ◌∙◌, arith, length-append, ◌⊎◌, ⊎_elim, inl, inr}
use Rattle.std.specs.Prelude.{nat_le}
use Rattle.std.proofs.lemmas.Bool.{cases_Bool, leb-true, leb-false}
use Rattle.std.proofs.lemmas.List.{take_all, length-map}
use Rattle.node_kit.specs.declared.course.Kept.{Kept}
use Rattle.run_facts.specs.Order.{Noted}
use Rattle.run_model.specs.Orders.{is_up_to}
use Rattle.run_model.specs.Runs.{IsTimedRun, order_in}
use Rattle.run_claims.specs.Accounts.{account_of, ticks_in}
use Rattle.run_claims.specs.Claims.{PartViews}
use Rattle.audit_frame.specs.First.{Decides, IsFirstFalse}
use Rattle.audit_frame.specs.Lines.{noted_line, told_by}
use Rattle.audit_frame.specs.declared.lines.Line.{Line}
use Rattle.audit_orders.specs.Carrying.{DecidesCarried}
use Rattle.audit_orders.specs.Commanding.{DecidesCommanded}
use Rattle.audit_orders.specs.Timing.{IsUntimedAt}
use Rattle.audit_orders.specs.Verdicts.{FollowsOrders}
use Rattle.audit_orders.specs.declared.carrying.Uncarried.{Uncarried}
use Rattle.audit_orders.specs.declared.commanding.Uncommanded.{Uncommanded}
use Rattle.audit_orders.specs.declared.timing.Untimed.{Untimed}
use Rattle.audit_orders.proofs.Denying.{untimed_denies, commands_of_accounts, uncommanded_denies}
use Rattle.audit_orders.proofs.Refuting.{uncarried_denies}
use Rattle.audit_views.specs.Verdicts.{ArePartAndLocal}
use Rattle.audit_blocks.specs.Verdicts.{FindsFirst, IsFirstWithout, IsServedIn}
use Rattle.audit_blocks.proofs.Claiming.{delivery_of_accounts}
use Rattle.audit_waits.specs.Ticks.{DecidesPatience, IsFirstPassedOver, last_place}
use Rattle.audit_waits.specs.declared.walk.PassedOver.{PassedOver}
use Rattle.audit_waits.proofs.Saying.{patience_of_accounts}
use Rattle.audit_read.specs.Writable.{IsWritable}
use Rattle.audit_verdict.specs.Clocks.{ShowClocks, ShowsClocks}
use Rattle.audit_verdict.specs.Places.{IsWhereFalse, place_uncarried, place_untimed, place_uncommanded}
use Rattle.audit_verdict.specs.Verdicts.{AnswersClaim, AnswersClause, IsInside, IsLoggedAnswer, IsTickInside, IsTickAnswer}
use Rattle.audit_verdict.specs.declared.clause.Clause.TheVariants as clause
use Rattle.audit_verdict.specs.declared.place.Place.{Place}
use Rattle.audit_verdict.proofs.Needed.{all_journals}

-- ---- the first three

carried_decided : (k : Kept) (found : Option Uncarried) → IsWritable k → DecidesCarried k found
    → AnswersClause k clause.Carried (option_map place_uncarried found)
carried_decided k None w d = d
carried_decided k (Some f) w d = ((λ h. uncarried_denies k f (all_journals k w) d h), (f, refl, d))

commanded_decided : (k : Kept) (found : Option Uncommanded) → DecidesCommanded k found
    → AnswersClause k clause.Commanded (option_map (place_uncommanded k.course.plan.params) found)
commanded_decided k None d = commands_of_accounts k d
commanded_decided k (Some f) d = ((λ h. uncommanded_denies k f d h), (f, refl, d))

-- told as places by whoever answers
pub carried_told : (k : Kept) (found : Option Uncarried) (answer : Option Place) → IsWritable k → DecidesCarried k found
    → answer ≡ option_map place_uncarried found → AnswersClause k clause.Carried answer
carried_told k found answer w d is = subst (λ (o : Option Place). AnswersClause k clause.Carried o) (sym is) (carried_decided k found w d)

pub untimed_told : (k : Kept) (found : Untimed) (here : Place) → IsUntimedAt k.course k.journals found → here ≡ place_untimed found
    → AnswersClause k clause.Timed (Some here)
untimed_told k found here d is = ((λ h. untimed_denies k found d h.0), inl (found, is, d))

pub commanded_told : (k : Kept) (found : Option Uncommanded) (answer : Option Place) → DecidesCommanded k found
    → answer ≡ option_map (place_uncommanded k.course.plan.params) found → AnswersClause k clause.Commanded answer
commanded_told k found answer d is = subst (λ (o : Option Place). AnswersClause k clause.Commanded o) (sym is) (commanded_decided k found d)

-- ---- claims on the log

-- the answer to a claim is that to another one that says the same
same_claim : (A B : Type 0) (Where : Place → Type 0) (result : Option Place) → (A → B) → (B → A)
    → AnswersClaim A Where result → AnswersClaim B Where result
same_claim A B Where None f g h = f h
same_claim A B Where (Some here) f g h = ((λ b. h.0 (g b)), h.1)

pub decided : (k : Kept) (Claim : List Noted → Type 0) (told : List Noted) (answer : Option ℕ) (result : Option Place)
    → told ≡ order_in k → Decides Claim told answer → IsLoggedAnswer k answer result
    → AnswersClaim (Claim (order_in k)) (IsWhereFalse k Claim) result
decided k Claim told None None is d l = subst Claim is d
decided k Claim told (Some i) (Some here) is d l =
    let first = subst (λ (log : List Noted). IsFirstFalse Claim log i) is d in
    (first.whole, (i, l, first))
decided k Claim told None (Some here) is d l = absurd l
decided k Claim told (Some i) None is d l = absurd l

pub inside_log : (Claim : List Noted → Type 0) (lines : List Line) (answer : Option ℕ) → Decides Claim (told_by lines) answer
    → IsInside (length lines) answer
inside_log Claim lines None d = tt
inside_log Claim lines (Some i) d = let low = d.inside in omega (arith, length-map lines noted_line, low)

-- ---- readings

-- of a run that is timed the readings decide
pub readings_told : (k : Kept) (told : List Noted) (answer : Option ℕ) (result : Option Place) → IsTimedRun k → told ≡ order_in k
    → Decides (ShowClocks k.course) told answer → IsLoggedAnswer k answer result → AnswersClause k clause.Timed result
readings_told k told answer result timed is d l = of_timed result (decided k (ShowClocks k.course) told answer result is d l)
  where
    of_timed : (result : Option Place) → AnswersClaim (ShowsClocks k) (IsWhereFalse k (ShowClocks k.course)) result
        → AnswersClause k clause.Timed result
    of_timed None a = (timed, a)
    of_timed (Some here) a = ((λ h. a.0 h.1), inr (timed, a.1))

-- ---- views

pub views_told : (k : Kept) (told : List Noted) (answer : Option ℕ) (result : Option Place) → told ≡ order_in k
    → Decides (ArePartAndLocal k.course.plan.params) told answer → IsLoggedAnswer k answer result → AnswersClause k clause.PartViews result
views_told k told answer result is d l =
    let p = k.course.plan.params in
    same_claim (ArePartAndLocal p (order_in k)) (PartViews (account_of k)) (IsWhereFalse k (ArePartAndLocal p)) result
    (λ h. record { always = h.0; local = h.1 }) (λ c. (c.always, c.local))
    (decided k (ArePartAndLocal p) told answer result is d l)

-- ---- delivery

inside_first : (P : Noted → Type 0) (log : List Noted) (i : ℕ) → IsFirstWithout P log i → i < length log
inside_first P log i first = ⊎_elim (λ low. low) (λ over. absurd (too_long over)) (below (length log) i)
  where
    below : (n i : ℕ) → (i < n) ⊎ (n ≤ i)
    below n i = ⊎_elim (λ (t : nat_le n i ≡ true). inr (leb-true n i t)) (λ (f : nat_le n i ≡ false). inl (leb-false n i f)) (cases_Bool (nat_le n i))

    too_long : length log ≤ i → ⊥
    too_long over =
        let here : take i log ≡ log = take_all i log over in
        let more : take (i + 1) log ≡ log = take_all (i + 1) log (omega (arith, over)) in
        let longer : length log ≡ length log + 1 =
        ap length (sym more ∙ first.there) ∙ length-append (take i log) (first.entry ∷ []) ∙ ap (λ (l : List Noted). length l + 1) here in
        omega (arith, longer)

pub inside_finds : (P : Noted → Type 0) (lines : List Line) (answer : Option ℕ) → FindsFirst P (told_by lines) answer
    → IsInside (length lines) answer
inside_finds P lines None d = tt
inside_finds P lines (Some i) d = omega (arith, length-map lines noted_line, inside_first P (told_by lines) i d)

pub served_decided : (k : Kept) (told : List Noted) (answer : Option ℕ) (result : Option Place) → told ≡ order_in k
    → FindsFirst (IsServedIn k) told answer → IsLoggedAnswer k answer result → AnswersClause k clause.FullDelivery result
served_decided k told None None is d l = delivery_of_accounts k told None is d
served_decided k told (Some i) (Some here) is d l =
    (delivery_of_accounts k told (Some i) is d, (i, l, subst (λ (log : List Noted). IsFirstWithout (IsServedIn k) log i) is d))
served_decided k told None (Some here) is d l = absurd l
served_decided k told (Some i) None is d l = absurd l

-- ---- ticks

last_inside : (n m : ℕ) → m ≤ n → IsInside n (last_place m)
last_inside n zero le = tt
last_inside n (suc m) le = omega (arith, le)

filter_short : (test : Noted → Bool) (xs : List Noted) → length (filter test xs) ≤ length xs
filter_short test [] = omega arith
filter_short test (x ∷ xs) = ⊎_elim
    (λ (t : test x ≡ true). let rest = filter_short test xs in rw t (omega (arith, rest)))
    (λ (f : test x ≡ false). let rest = filter_short test xs in rw f (omega (arith, rest)))
    (cases_Bool (test x))

pub inside_tick : (k : Kept) (lines : List Line) (answer : Option PassedOver)
    → DecidesPatience k.course.plan.params k.orders (ticks_in k.course) (told_by lines) answer → IsTickInside (length lines) answer
inside_tick k lines None d = tt
inside_tick k lines (Some f) d =
    let short = filter_short (is_up_to f.beat f.cub.0) (told_by lines) in
    let few : length (filter (is_up_to f.beat f.cub.0) (told_by lines)) ≤ length lines = omega (arith, short, length-map lines noted_line) in
    subst (λ (o : Option ℕ). IsInside (length lines) o) (sym d.place)
    (last_inside (length lines) (length (filter (is_up_to f.beat f.cub.0) (told_by lines))) few)

pub fair_decided : (k : Kept) (lines : List Line) (answer : Option PassedOver) (result : Option Place) → told_by lines ≡ order_in k
    → FollowsOrders (account_of k)
    → DecidesPatience k.course.plan.params k.orders (ticks_in k.course) (told_by lines) answer
    → IsTickAnswer k answer result → AnswersClause k clause.FairStarts result
fair_decided k lines None None is commanded d l =
    record { patient = patience_of_accounts k lines None is d; commanded = commanded }
fair_decided k lines (Some f) (Some here) is commanded d l = (
  (patience_of_accounts k lines (Some f) is d).1,
  record {
    tick = f;
    last = l.0;
    logged = l.1;
    is = l.2;
    first = subst (λ (log : List Noted). IsFirstPassedOver k.course.plan.params k.orders (ticks_in k.course) log f) is d;
  },
)
fair_decided k lines None (Some here) is commanded d l = absurd l
fair_decided k lines (Some f) None is commanded d l = absurd l
