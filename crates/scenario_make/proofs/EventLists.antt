-- What holds of a list of events holds with one event more.
use Rattle.std.proofs.Common.{◌≡◌, ℕ, zero, suc, ◌+◌, ◌-◌, ◌<◌, ◌≤◌, List, [], ◌∷◌, ◌++◌, length, take, Some, slice_get, ◌⊎◌, inl, inr, ap, ◌∙◌, refl, arith, length-append}
use Rattle.std.specs.List.{All}
use Rattle.std.specs.List.Sorted.{IsNonDecreasingBy}
use Rattle.std.proofs.lemmas.List.{take-append-le}
use Rattle.std.proofs.lemmas.List.Elements.{All-push, All-weaker, All-nil, All-get_or}
use Rattle.std.proofs.lemmas.List.Sorted.{IsNonDecreasingBy-push, IsNonDecreasingBy-short}
use Rattle.std.proofs.lemmas.List.Sums.{sum_by-append}
use Rattle.tiger_base.specs.declared.number.FileNo.{FileNo}
use Rattle.scenario_read.specs.declared.scenario.ScEvent.{ScEvent}
use Rattle.scenario_read.specs.declared.scenario.ScEvent.TheVariants.{Begin, Finish}
use Rattle.scenario_read.specs.Events.{beat_of, starts_in}
use Rattle.scenario_read.specs.Sound.{StartsWithin}

-- each stop is of an instance that was started before
pub record StopsStarted (events : List ScEvent) : Type 0 where
  pub stops : (k beat v : ℕ) → slice_get events k ≡ Some (Finish beat (record { 0 = v })) → v < starts_in (take k events)

-- at most so many events, of which so many are starts; the last is in this beat or before it
pub record AreGood (most starts beat : ℕ) (events : List ScEvent) : Type 0 where
  pub few : length events ≤ most
  pub early : All (λ e. beat_of e ≤ beat) events
  pub in_order : IsNonDecreasingBy beat_of events
  pub within : All (StartsWithin 8) events
  pub started : StopsStarted events
  pub count : starts_in events ≡ starts

-- the element at k is there already, or it is the new one
pub slice_get-push : {X : Type 0} (xs : List X) (e x : X) (k : ℕ) → slice_get (xs ++ e ∷ []) k ≡ Some x
    → ((slice_get xs k ≡ Some x) × (k < length xs)) ⊎ ((e ≡ x) × (k ≡ length xs))
slice_get-push [] e x zero h = inr (cc, refl)
slice_get-push [] e x (suc k) h = absurd (cc)
slice_get-push (y ∷ ys) e x zero h = inl (h, omega arith)
slice_get-push (y ∷ ys) e x (suc k) h =
    elim (slice_get-push ys e x k h) [
      | inl p ↦ (let le = p.1 in inl (p.0, omega arith))
      | inr q ↦ (let eq = q.1 in inr (q.0, omega arith))
    ]

starts_in-push : (events : List ScEvent) (e : ScEvent) → starts_in (events ++ e ∷ []) ≡ starts_in events + starts_in (e ∷ [])
starts_in-push events e = sum_by-append _ events (e ∷ [])

stops-push : (events : List ScEvent) (e : ScEvent) → StopsStarted events
    → ((beat v : ℕ) → e ≡ Finish beat (record { 0 = v }) → v < starts_in events) → StopsStarted (events ++ e ∷ [])
stops-push events e before last = record {
  stops = λ k beat v h.
      elim (slice_get-push events e (Finish beat (record { 0 = v })) k h) [
        | inl p ↦ (let le : k ≤ length events = omega (arith, p.1) in rw (take-append-le k events (e ∷ []) le) (before.stops k beat v p.0))
        | inr q ↦
            (let le : k ≤ length events = omega (arith, q.1) in
            let all : take k events ≡ events = rw q.1 (take_all events) in
            rw (take-append-le k events (e ∷ []) le, all) (last beat v q.0))
      ];
} where
  take_all : {X : Type 0} (xs : List X) → take (length xs) xs ≡ xs
  take_all [] = refl
  take_all (x ∷ xs) = ap (λ ys. x ∷ ys) (take_all xs)

order-push : (events : List ScEvent) (e : ScEvent) (beat : ℕ) → All (λ x. beat_of x ≤ beat) events → beat ≤ beat_of e
    → IsNonDecreasingBy beat_of events → IsNonDecreasingBy beat_of (events ++ e ∷ [])
order-push events e beat all le order =
    IsNonDecreasingBy-push beat_of events e order
    (λ d some. let last = All-get_or (λ x. beat_of x ≤ beat) events (length events - 1) d (omega arith) all in omega arith)

abbrev instance_in : ScEvent → ℕ
instance_in (Begin beat file) = 0
instance_in (Finish beat instance) = instance.0

-- no event
pub good-nil : AreGood 0 0 0 []
good-nil = record {
  few = omega arith;
  early = All-nil (λ x. beat_of x ≤ 0);
  in_order = IsNonDecreasingBy-short beat_of [] (omega arith);
  within = All-nil (StartsWithin 8);
  started = record { stops = λ k beat v h. absurd (cc) };
  count = refl;
}

-- the same of more
pub good-weaker : (most more starts beat : ℕ) (events : List ScEvent) → AreGood most starts beat events → most ≤ more → AreGood more starts beat events
good-weaker most more starts beat events good le = record {
  few = omega (arith, good.few);
  early = good.early;
  in_order = good.in_order;
  within = good.within;
  started = good.started;
  count = good.count;
}

-- a start more
pub good-begin : (most starts beat now : ℕ) (file : FileNo) (events : List ScEvent) → AreGood most starts beat events → beat ≤ now → file.0 < 8
    → AreGood (most + 1) (starts + 1) now (events ++ Begin now file ∷ [])
good-begin most starts beat now file events good le small = record {
  few = rw (length-append events (Begin now file ∷ [])) (let few = good.few in omega arith);
  early = All-push (λ x. beat_of x ≤ now) events (Begin now file) (All-weaker (λ e. beat_of e ≤ beat) (λ e. beat_of e ≤ now) (λ e low. omega arith) events good.early) (omega arith);
  in_order = order-push events (Begin now file) beat good.early le good.in_order;
  within = All-push (StartsWithin 8) events (Begin now file) good.within small;
  started = stops-push events (Begin now file) good.started (λ b v e. absurd (cc));
  count = starts_in-push events (Begin now file) ∙ ap (λ (n : ℕ). n + 1) good.count;
}

-- a stop more, of an instance that was started
pub good-finish : (most starts beat v : ℕ) (events : List ScEvent) → AreGood most starts beat events → v < starts
    → AreGood (most + 1) starts beat (events ++ Finish beat (record { 0 = v }) ∷ [])
good-finish most starts beat v events good small =
    let e : ScEvent = Finish beat (record { 0 = v }) in
    record {
      few = rw (length-append events (e ∷ [])) (let few = good.few in omega arith);
      early = All-push (λ x. beat_of x ≤ beat) events e good.early (omega arith);
      in_order = order-push events e beat good.early (omega arith) good.in_order;
      within = All-push (StartsWithin 8) events e good.within tt;
      started = stops-push events e good.started (λ b w same. let eq : v ≡ w = ap instance_in same in rw (good.count, ← eq) small);
      count = starts_in-push events e ∙ (let none : starts_in events + 0 ≡ starts_in events = omega arith in none ∙ good.count);
    }
