-- Where a walk names a place, the claim does not hold.
use Rattle.std.proofs.Common.{◌≡◌, ℕ, zero, suc, ◌+◌, ◌≤◌, Bool, true, false, ◌&&◌, ◌||◌, cond, List, [], ◌∷◌, ◌++◌, length, take, drop, filter, Some, slice_get, refl, sym, ap, subst, ◌∙◌, ⊎_elim, arith}
use Rattle.std.specs.Prelude.{◌==◌}
use Rattle.std.specs.List.{list_any}
use Rattle.std.proofs.lemmas.Bool.{eq-eqb, lt-ltb, both_ways, false≢true}
use Rattle.std.proofs.lemmas.Grind.{flat_map-append}
use Rattle.std.proofs.lemmas.List.{take-append-drop, length-append}
use Rattle.std.proofs.lemmas.List.Elements.{filter-append}
use Rattle.tiger_base.specs.declared.number.Instance.{Instance}
use Rattle.slot_plan.specs.declared.params.Params.{Params}
use Rattle.node_kit.specs.declared.course.Course.{Course}
use Rattle.node_kit.specs.declared.course.Order.{Order}
use Rattle.node_kit.specs.declared.journal.Entry.{Entry}
use Rattle.node_kit.specs.declared.journal.What.TheVariants as what
use Rattle.node_kit.specs.Life.{back_of}
use Rattle.run_facts.specs.Commanded.{start_in, starts_sent, starts_at, starts_ordered, is_gone, is_gone_of, gone_in, StopsNone, IsCommanded}
use Rattle.audit_orders.specs.Breaches.{DecidesList}
use Rattle.audit_orders.specs.Commanding.{IsGoneAt, starts_due, IsWrongStart, IsUnsent, IsWrongStop, IsStopMissing, takes_effect, clock_of}
use Rattle.audit_orders.specs.Returning.{IsUntoldAt, TellsReturnIn}
use Rattle.audit_orders.specs.Timing.{IsTimedIn}
use Rattle.audit_orders.specs.Verdicts.{UntimedDenies, CommandsOfAccounts, UncommandedDenies}
use Rattle.audit_orders.specs.declared.commanding.Uncommanded.TheVariants as un
use Rattle.audit_orders.specs.declared.flaw.Flaw.{Flaw}
use Rattle.audit_orders.specs.declared.flaw.Flaw.TheVariants as flaw
use Rattle.audit_orders.specs.declared.timing.Untimed.TheVariants as untimed

-- ---- times

-- a list with a flaw does not meet the claim
pub flaw_denies : {X : Type 0} (Claim : List X → Type 0) (xs : List X) (found : Flaw) → DecidesList Claim xs (Some found) → Claim xs → ⊥
flaw_denies {X} Claim xs (flaw.Entry i) h claim = h.with_it (drop (i + 1) xs, subst Claim (sym (take-append-drop (i + 1) xs)) claim)
flaw_denies Claim xs flaw.Missing h claim = h.not_yet claim

pub untold_denies : (c : Course) (n : ℕ) (journal : List Entry) (i : ℕ) → IsUntoldAt c.beats (back_of c n) journal i → TellsReturnIn c n journal → ⊥
untold_denies c n journal i h told = ⊎_elim
    (λ a. flaw_denies (TellsReturnIn c n) journal (flaw.Entry i) a told)
    (λ a. a.unfinished.not_yet told)
    h

pub untimed_denies : UntimedDenies
untimed_denies k (untimed.Journal node found) h timed =
    flaw_denies (IsTimedIn k.course node.0) h.journal found h.flawed (timed.timed node.0 h.journal h.here)
untimed_denies k (untimed.Neighbours cub) h timed = h.1.both (timed.apart cub.0 h.1.cub)
untimed_denies k (untimed.Return node i) h timed =
    let first = h.1.1 in
    untold_denies k.course node.0 first.journal i first.untold (timed.returns node.0 first.journal first.here)

-- ---- orders

pub commands_of_accounts : CommandsOfAccounts
commands_of_accounts k h = h

-- an element that passes a test
any_there : {X : Type 0} (test : X → Bool) (xs : List X) (i : ℕ) (x : X) → slice_get xs i ≡ Some x → test x ≡ true → list_any test xs ≡ true
any_there test [] i x at t = absurd (cc)
any_there {X} test (y ∷ ys) zero x at t =
    let same : x ≡ y = cc in
    ap (λ (b : Bool). b || list_any test ys) (subst (λ (z : X). test z ≡ true) same t)
any_there test (y ∷ ys) (suc i) x at t = ap (λ (b : Bool). test y || b) (any_there test ys i x at t) ∙ or_true (test y)
  where
    or_true : (b : Bool) → (b || true) ≡ true
    or_true true = refl
    or_true false = refl

pub gone_denies : (journal : List Entry) (i : ℕ) → IsGoneAt journal i → StopsNone journal → ⊥
gone_denies journal i h none =
    both_ways (list_any (λ (e : Entry). is_gone e.what) journal) none (any_there (λ (e : Entry). is_gone e.what) journal i h.0 h.1 h.2)

-- what was sent up to a place is the first of what was sent
pub sent_front : (p : Params) (b n : ℕ) (journal : List Entry) → starts_sent p b (take n journal) ++ starts_sent p b (drop n journal) ≡ starts_sent p b journal
unfolding starts_sent
sent_front p b n journal =
    sym (flat_map-append (start_in p b) (take n journal) (drop n journal)) ∙ ap (starts_sent p b) (take-append-drop n journal)

pub ordered_front : (p : Params) (b n : ℕ) (orders : List Order)
    → starts_ordered p b (take n orders) ++ starts_ordered p b (drop n orders) ≡ starts_ordered p b orders
unfolding starts_ordered
ordered_front p b n orders =
    sym (flat_map-append (starts_at p b) (take n orders) (drop n orders)) ∙ ap (starts_ordered p b) (take-append-drop n orders)

-- a wrong start is of a beat in which what was sent is not what was due, and so is an order whose start was not sent
pub start_sent : (p : Params) (beats : ℕ) (orders : List Order) (journal : List Entry) (i : ℕ) (h : IsWrongStart p beats orders journal i)
    → starts_sent p h.beat journal ≡ starts_due p beats orders h.beat → ⊥
start_sent p beats orders journal i h sent =
    h.with_it (starts_sent p h.beat (drop (i + 1) journal), sent_front p h.beat (i + 1) journal ∙ sent)

pub unsent_sent : (p : Params) (beats : ℕ) (orders : List Order) (journal : List Entry) (j : ℕ) (h : IsUnsent p beats orders journal j)
    → starts_sent p h.order.beat journal ≡ starts_due p beats orders h.order.beat → ⊥
unsent_sent p beats orders journal j h sent =
    let b = h.order.beat in
    h.lacks (
      starts_ordered p b (drop (j + 1) orders),
      ordered_front p b (j + 1) orders
          ∙ sym (ap (λ (t : Bool). cond t (starts_ordered p b orders) []) (lt-ltb b beats h.early)) ∙ sym sent,
    )

start_denies : (p : Params) (beats : ℕ) (reading : ℕ → ℕ) (orders : List Order) (journal : List Entry) (i : ℕ)
    → IsWrongStart p beats orders journal i → IsCommanded p beats reading orders journal → ⊥
start_denies p beats reading orders journal i h all = start_sent p beats orders journal i h (all.starts h.beat)

unsent_denies : (p : Params) (beats : ℕ) (reading : ℕ → ℕ) (orders : List Order) (journal : List Entry) (j : ℕ)
    → IsUnsent p beats orders journal j → IsCommanded p beats reading orders journal → ⊥
unsent_denies p beats reading orders journal j h all = unsent_sent p beats orders journal j h (all.starts h.order.beat)

-- an entry that stops an instance
pub stops_it : (journal : List Entry) (i : ℕ) (e : Entry) (v : Instance) → slice_get journal i ≡ Some e → e.what ≡ what.Gone v
    → gone_in journal v.0 e.stamp.beat ≡ true
unfolding gone_in
stops_it journal i e v at is =
    any_there (λ (x : Entry). (x.stamp.beat == e.stamp.beat) && is_gone_of v.0 x.what) journal i e at
    (ap (λ (b : Bool). b && is_gone_of v.0 e.what) (eq-eqb e.stamp.beat e.stamp.beat refl) ∙ ap (is_gone_of v.0) is ∙ eq-eqb v.0 v.0 refl)

-- one before a place and one at it are two
some_of : {X : Type 0} (test : X → Bool) (xs : List X) → list_any test xs ≡ true → 1 ≤ length (filter test xs)
some_of test [] e = absurd (false≢true e)
some_of {X} test (x ∷ xs) e = by (test x) refl e (λ k. some_of test xs k)
  where
    by : (t : Bool) → test x ≡ t → (t || list_any test xs) ≡ true → (list_any test xs ≡ true → 1 ≤ length (filter test xs))
        → 1 ≤ length (cond t (x ∷ filter test xs) (filter test xs))
    by true is k rest = omega arith
    by false is k rest = rest k

pub two_of : {X : Type 0} (test : X → Bool) (xs : List X) (i : ℕ) (x : X) → slice_get xs i ≡ Some x → test x ≡ true
    → list_any test (take i xs) ≡ true → 2 ≤ length (filter test xs)
two_of {X} test xs i x at t before =
    let first = some_of test (take i xs) before in
    let rest = some_of test (drop i xs) (here xs i at) in
    let all : length (filter test xs) ≡ length (filter test (take i xs)) + length (filter test (drop i xs)) =
    ap (λ (q : List X). length (filter test q)) (sym (take-append-drop i xs))
    ∙ ap length (filter-append test (take i xs) (drop i xs)) ∙ length-append (filter test (take i xs)) (filter test (drop i xs)) in
    omega (arith, first, rest, all)
  where
    here : (ys : List X) (n : ℕ) → slice_get ys n ≡ Some x → list_any test (drop n ys) ≡ true
    here [] n e = absurd (cc)
    here (y ∷ ys) zero e =
        let same : x ≡ y = cc in
        ap (λ (b : Bool). b || list_any test ys) (subst (λ (z : X). test z ≡ true) same t)
    here (y ∷ ys) (suc n) e = here ys n e

stop_denies : (p : Params) (beats : ℕ) (reading : ℕ → ℕ) (orders : List Order) (journal : List Entry) (i : ℕ)
    → IsWrongStop p beats reading orders journal i → IsCommanded p beats reading orders journal → ⊥
stop_denies p beats reading orders journal i h all = ⊎_elim
    (λ (none : takes_effect p beats reading orders journal h.v.0 h.entry.stamp.beat ≡ false).
    both_ways (gone_in journal h.v.0 h.entry.stamp.beat) (all.stops h.v.0 h.entry.stamp.beat ∙ none) (stops_it journal i h.entry h.v h.here h.gone))
    (λ (again : list_any (λ (e : Entry). is_gone_of h.v.0 e.what) (take i journal) ≡ true).
    let two = two_of (λ (e : Entry). is_gone_of h.v.0 e.what) journal i h.entry h.here (ap (is_gone_of h.v.0) h.gone ∙ eq-eqb h.v.0 h.v.0 refl) again in
    let once = all.once h.v.0 in
    omega (arith, two, once))
    h.wrong

unstopped_denies : (p : Params) (beats : ℕ) (reading : ℕ → ℕ) (orders : List Order) (journal : List Entry) (j : ℕ)
    → IsStopMissing p beats reading orders journal j → IsCommanded p beats reading orders journal → ⊥
unstopped_denies p beats reading orders journal j h all =
    both_ways (gone_in journal h.v.0 h.order.beat) h.missing (all.stops h.v.0 h.order.beat ∙ h.effective)

pub uncommanded_denies : UncommandedDenies
uncommanded_denies k (un.Foreign node i) f all =
    let h = f.here in
    gone_denies h.journal i h.gone (all.others node.0 h.journal h.other h.here)
uncommanded_denies k (un.Start i) h all =
    start_denies k.course.plan.params k.course.beats (clock_of k.course) k.orders h.1 i h.3 (all.controller h.1 h.2)
uncommanded_denies k (un.Unsent j) h all =
    unsent_denies k.course.plan.params k.course.beats (clock_of k.course) k.orders h.1 j h.3 (all.controller h.1 h.2)
uncommanded_denies k (un.Stop i) h all =
    stop_denies k.course.plan.params k.course.beats (clock_of k.course) k.orders h.1 i h.3.1.here (all.controller h.1 h.2)
uncommanded_denies k (un.Unstopped j) h all =
    unstopped_denies k.course.plan.params k.course.beats (clock_of k.course) k.orders h.1 j h.3.1.first.here (all.controller h.1 h.2)
