-- What is lost by a return: message by message on a link, and link by link.
use Rattle.std.proofs.Common.{◌≡◌, ℕ, zero, suc, ◌+◌, ◌<◌, ◌≤◌, List, [], ◌∷◌, ◌++◌, filter, length, take, drop, true, false}
use Rattle.std.proofs.Common.{Some, refl, ap, sym, ◌∙◌, arith}
use Rattle.std.specs.Prelude.{slice_get, slice_set, nat_lt, nat_le}
use Rattle.std.proofs.lemmas.Bool.Decides.{nat_tests}
use Rattle.std.proofs.lemmas.Option.{none-some}
use Rattle.run_facts.specs.Accounts.{Rising}
use Rattle.run_facts.specs.Events.{Dated}
use Rattle.run_facts.proofs.Rows.{all-weaker, filter-all, filter-none}
use Rattle.ring_world.specs.Machine.{Way, dropped, each_at, rest_of}
use Rattle.world.specs.Posting.{IsInOrder, begins_below}

step_on : {M : Type 0} (beat g : ℕ) (ds : List (Dated M)) → Rising (λ (d : Dated M). d.beat) ds → true ≡ begins_below beat ds
    → ◌≡◌ {A = Way M} (dropped beat (record { gone = g + 1; under_way = rest_of ds })) (dropped beat (record { gone = g; under_way = ds }))
    × Rising (λ (d : Dated M). d.beat) (rest_of ds) × (length (rest_of ds) < length ds)
step_on beat g [] rising low = absurd (cc)
step_on {M} beat g (d ∷ ds) rising low =
    let here : nat_lt d.beat beat ≡ true = sym low in
    let not_from : nat_le beat d.beat ≡ false = grind (arith, nat_tests, here) in
    let more : g + 1 + length (filter (λ (x : Dated M). nat_lt x.beat beat) ds)
    ≡ g + suc (length (filter (λ (x : Dated M). nat_lt x.beat beat) ds)) = omega arith in (
      rw (here, not_from) (ap (λ n. record { gone = n; under_way = filter (λ (x : Dated M). nat_le beat x.beat) ds }) more),
      rising.1,
      omega arith,
    )

-- A message that is older than the return is lost.
pub stale_step : {M : Type 0} (beat : ℕ) (w v : Way M) → IsInOrder w → true ≡ begins_below beat w.under_way
    → v ≡ record { gone = w.gone + 1; under_way = rest_of w.under_way }
    → (dropped beat v ≡ dropped beat w) × IsInOrder v × (length v.under_way < length w.under_way)
stale_step beat w v order low is =
    let s = step_on beat w.gone w.under_way order low in
    rw is (s.0, s.1, s.2)

end_on : {M : Type 0} (beat g : ℕ) (ds : List (Dated M)) → Rising (λ (d : Dated M). d.beat) ds → false ≡ begins_below beat ds
    → ◌≡◌ {A = Way M} (record { gone = g; under_way = ds }) (dropped beat (record { gone = g; under_way = ds }))
end_on beat g [] rising high = let none : g ≡ g + 0 = omega arith in ap (λ n. record { gone = n; under_way = [] }) none
end_on {M} beat g (d ∷ ds) rising high =
    let here : nat_lt d.beat beat ≡ false = sym high in
    let from : nat_le beat d.beat ≡ true = grind (arith, nat_tests, here) in
    let none = filter-none (λ (x : Dated M). nat_lt x.beat beat) ds
    (all-weaker (λ (x : Dated M). d.beat ≤ x.beat) (λ x. nat_lt x.beat beat ≡ false) ds
    (λ x h. grind (arith, nat_tests, here, h)) rising.0) in
    let all = filter-all (λ (x : Dated M). nat_le beat x.beat) ds
    (all-weaker (λ (x : Dated M). d.beat ≤ x.beat) (λ x. nat_le beat x.beat ≡ true) ds
    (λ x h. grind (arith, nat_tests, here, h)) rising.0) in
    let zero_more : g ≡ g + 0 = omega arith in
    rw (here, from, none, all) (ap (λ n. record { gone = n; under_way = d ∷ ds }) zero_more)

-- If the oldest is no older, nothing is lost.
pub fresh_end : {M : Type 0} (beat : ℕ) (w : Way M) → IsInOrder w → false ≡ begins_below beat w.under_way → w ≡ dropped beat w
fresh_end beat w order high = end_on beat w.gone w.under_way order high

-- A list that is changed place by place, at one place more.
pub changed_more : {X : Type 0} (f : ℕ → X → X) (i : ℕ) (xs : List X) (k : ℕ) (x : X) → slice_get xs k ≡ Some x
    → take (suc k) (slice_set xs k (f (i + k) x)) ++ each_at f (i + suc k) (drop (suc k) (slice_set xs k (f (i + k) x)))
    ≡ take k xs ++ each_at f (i + k) (drop k xs)
changed_more f i [] k x at = absurd (none-some x at)
changed_more {X} f i (y ∷ ys) zero x at =
    let same : y ≡ x = cc in
    let none : i + 0 ≡ i = omega arith in
    let one : i + 1 ≡ suc i = omega arith in
    let next : suc (i + 0) ≡ suc i = omega arith in
    ap (λ q. f (i + 0) x ∷ each_at f q ys) (one ∙ sym next) ∙ ap (λ (z : X). f (i + 0) z ∷ each_at f (suc (i + 0)) ys) (sym same)
changed_more f i (y ∷ ys) (suc k) x at =
    let sum : i + suc k ≡ suc i + k = omega arith in
    let more : i + suc (suc k) ≡ suc i + suc k = omega arith in
    let rest = changed_more f (suc i) ys k x at in
    rw (sum, more) (ap (λ zs. y ∷ zs) rest)

-- What stands behind a place that is written.
get_behind : {X : Type 0} (xs : List X) (l k : ℕ) (v : X) → l < k → slice_get (slice_set xs l v) k ≡ slice_get xs k
get_behind [] l k v low = refl
get_behind (y ∷ ys) zero zero v low = absurd (omega (arith, low))
get_behind (y ∷ ys) zero (suc k) v low = refl
get_behind (y ∷ ys) (suc l) zero v low = absurd (omega (arith, low))
get_behind (y ∷ ys) (suc l) (suc k) v low = get_behind ys l k v (omega (arith, low))

set_length : {X : Type 0} (xs : List X) (l : ℕ) (v : X) → length (slice_set xs l v) ≡ length xs
set_length [] l v = refl
set_length (y ∷ ys) zero v = refl
set_length (y ∷ ys) (suc l) v = ap suc (set_length ys l v)

-- What is done and what is left to do, and what is left is in order.
pub record AreFreed {M : Type 0} (f : ℕ → Way M → Way M) (l : ℕ) (xs : List (Way M)) (all : List (Way M)) : Type 0 where
  pub same : take l xs ++ each_at f l (drop l xs) ≡ each_at f 0 all
  pub order : (k : ℕ) (w : Way M) → l ≤ k → slice_get xs k ≡ Some w → IsInOrder w
  pub size : length xs ≡ length all

-- One link more.
pub freed_more : {M : Type 0} (f : ℕ → Way M → Way M) (l : ℕ) (xs all : List (Way M)) (w v : Way M) → AreFreed f l xs all
    → slice_get xs l ≡ Some w → v ≡ f l w → AreFreed f (l + 1) (slice_set xs l v) all
freed_more {M} f l xs all w v done at is =
    let none : 0 + l ≡ l = omega arith in
    let one : l + 1 ≡ suc l = omega arith in
    let next : 0 + suc l ≡ suc l = omega arith in
    let step : take (suc l) (slice_set xs l (f l w)) ++ each_at f (suc l) (drop (suc l) (slice_set xs l (f l w)))
    ≡ take l xs ++ each_at f l (drop l xs) = rw (none, next) at (changed_more f 0 xs l w at) in
    record {
      same = rw (one, is) (step ∙ done.same);
      order = λ k u low there.
          let above : l < k = omega (arith, low) in
          done.order k u (omega (arith, above)) (sym (get_behind xs l k v above) ∙ there);
      size = set_length xs l v ∙ done.size;
    }
