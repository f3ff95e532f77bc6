-- A machine accepts the events of a history in one list, and then has what the history makes of its nodes.
use Rattle.std.proofs.Common.{◌≡◌, ℕ, zero, suc, ◌+◌, ◌<◌, ◌≤◌, List, [], ◌∷◌, length, map, true, false, Some, refl, ap, sym, ◌∙◌, subst, arith, ⊎_elim}
use Rattle.std.specs.Prelude.{slice_get, option_map, ◌==◌}
use Rattle.std.specs.List.{AllByRecursion}
use Rattle.std.proofs.lemmas.Option.{slice_get-map}
use Rattle.std.proofs.lemmas.Bool.{cases_Bool, cases_eq, eq-eqb, ne_eqb}
use Rattle.tiger_base.specs.declared.message.Note.{Note}
use Rattle.slot_plan.specs.declared.params.Params.{Params}
use Rattle.node_kit.specs.Steps.{Input, Deed}
use Rattle.run_facts.specs.Events.{NodeEvent, Past, opening, after_all, stamp_at}
use Rattle.run_facts.specs.Accounts.{Rising}
use Rattle.run_facts.specs.Histories.{History, IsRun, beat, last_of}
use Rattle.run_facts.proofs.Rows.{all-given}
use Rattle.run_facts.proofs.Listed.{listed, events_of, listed-last}
use Rattle.ring_world.specs.declared.event.Event.{Event}
use Rattle.ring_world.specs.Machine.{Machine, Being, being, opening_machine, undying, happens}
use Rattle.ring_world.specs.Faults.{Accepts}
use Rattle.ring_world.specs.Laws.{IsPlace}
use Rattle.ring_world.specs.Merging.{Happening, added, beat_at, own, told_as, told_from}
use Rattle.ring_world.proofs.Accepting.{some-same}
use Rattle.ring_world.proofs.Moving.{Holds}
use Rattle.ring_world.proofs.Runs.{holds-opens}
use Rattle.kept_worlds.specs.Merges.{MayHappen, HasLivedThrough, MergesAreAccepted}
use Rattle.kept_worlds.proofs.Lifeless.{AreTwins, all-twin}
use Rattle.kept_worlds.proofs.Numbers.{all-listed, listed-below}
use Rattle.kept_worlds.proofs.Points.{anywhere, IsLatest, IsAt, IsNext}
use Rattle.kept_worlds.proofs.Going.{beyond, IsStep, stepped}

-- what holds of each of a list holds of each that is a node's own
own-all : {M : Type 0} (P : NodeEvent M → Type 0) (k : ℕ) (xs : List (Happening M))
    → AllByRecursion (λ (x : Happening M). P x.event) xs → AllByRecursion P (own k xs)
own-all P k [] h = tt
own-all P k (x ∷ xs) h = ⊎_elim
    (λ (t : (x.node == k) ≡ true). rw t (h.0, own-all P k xs h.1))
    (λ (t : (x.node == k) ≡ false). rw t (own-all P k xs h.1))
    (cases_Bool (x.node == k))

own-here : {M : Type 0} (x : Happening M) (xs : List (Happening M)) → own x.node (x ∷ xs) ≡ x.event ∷ own x.node xs
own-here x xs = let t : (x.node == x.node) ≡ true = eq-eqb x.node x.node refl in rw t refl

own-other : {M : Type 0} (k : ℕ) (x : Happening M) (xs : List (Happening M)) → (k ≡ x.node → ⊥)
    → own k (x ∷ xs) ≡ own k xs
own-other k x xs ne = let t : (x.node == k) ≡ false = ne_eqb x.node k (λ e. ne (sym e)) in rw t refl

heads : {X : Type 0} (x y : X) (xs ys : List X) → x ∷ xs ≡ y ∷ ys → (x ≡ y) × (xs ≡ ys)
heads x y xs ys e = (cc, cc)

module _ {M S : Type 0} (note : M → Note) (step : S → Input M → Deed M S) (p : Params) (nodes beats : ℕ) (h : History M S)
    (place : IsPlace p nodes beats) (run : IsRun note step p nodes h)
    (may : MayHappen p nodes beats h) where
  -- a list has what is left of a node's events, from a number on
  record IsLeft (k i : ℕ) (xs : List (Happening M)) : Type 0 where
    more : ℕ
    sum : i + more ≡ h.count k
    is : own k xs ≡ listed h k i more

  -- what a machine is by all events that are left
  record IsThrough (m : Machine M S) (events : List Event) : Type 0 where
    end : Machine M S
    es : ℕ → List (NodeEvent M)
    accepts : Accepts note step p nodes beats m events end
    holds : Holds note step anywhere p nodes h.first end es
    all : (k : ℕ) → k < nodes → es k ≡ events_of h k

  -- the first of what is left of its node
  record IsHead (at : ℕ → ℕ) (x : Happening M) (xs : List (Happening M)) : Type 0 where
    here : at x.node < h.count x.node
    event : h.event x.node (at x.node) ≡ x.event
    rest : IsLeft x.node (suc (at x.node)) xs

  head-of : (at : ℕ → ℕ) (x : Happening M) (xs : List (Happening M)) → IsLeft x.node (at x.node) (x ∷ xs) → IsHead at x xs
  head-of at x xs left = by_more left.more refl
    where
      i : ℕ
      i = at x.node

      by_more : (k : ℕ) → left.more ≡ k → IsHead at x xs
      by_more zero none =
          let q : x.event ∷ own x.node xs ≡ [] = sym (own-here x xs) ∙ left.is ∙ ap (listed h x.node (at x.node)) none in absurd (cc)
      by_more (suc k) some =
          let q : x.event ∷ own x.node xs ≡ h.event x.node (at x.node) ∷ listed h x.node (suc (at x.node)) k =
          sym (own-here x xs) ∙ left.is ∙ ap (listed h x.node (at x.node)) some in
          let parts = heads x.event (h.event x.node (at x.node)) (own x.node xs) (listed h x.node (suc (at x.node)) k) q in
          let sum = left.sum in
          record {
            here = omega (arith, sum, some);
            event = sym parts.0;
            rest = record { more = k; sum = omega (arith, sum, some); is = parts.1 };
          }

  next-of : (m : Machine M S) (at : ℕ → ℕ) (x : Happening M) (xs : List (Happening M)) → x.node < nodes
      → m.beat ≤ beat_at x → AllByRecursion (λ (y : Happening M). beat_at x ≤ beat_at y) xs
      → ((k : ℕ) → k < nodes → IsLeft k (at k) (x ∷ xs)) → IsHead at x xs
      → IsNext note step p nodes beats h place run may m at x.node
  next-of m at x xs low goes later left head =
      let same : beat h x.node (at x.node) ≡ beat_at x = ap (λ (y : NodeEvent M). (stamp_at y).beat) head.event in
      record {
        low = low;
        here = head.here;
        goes = omega (arith, same, goes);
        first = λ k j low_k up high.
            let mine = left k low_k in
            let from = own-all (λ (y : NodeEvent M). beat_at x ≤ (stamp_at y).beat) k (x ∷ xs) (omega arith, later) in
            let row = subst (AllByRecursion (λ (y : NodeEvent M). beat_at x ≤ (stamp_at y).beat)) mine.is from in
            let one = all-listed h (λ y. beat_at x ≤ (stamp_at y).beat) k (at k) mine.more (h.count k) mine.sum row j up high in
            omega (arith, one, same);
      }

  left-behind : (at : ℕ → ℕ) (x : Happening M) (xs : List (Happening M)) → ((k : ℕ) → k < nodes → IsLeft k (at k) (x ∷ xs))
      → IsHead at x xs → (k : ℕ) → k < nodes → IsLeft k (beyond x.node at k) xs
  left-behind at x xs left head k low = ⊎_elim
      (λ (same : k ≡ x.node).
      let t : (k == x.node) ≡ true = eq-eqb k x.node same in
      rw t (subst (λ q. IsLeft q (suc (at q)) xs) (sym same) head.rest))
      (λ (other : k ≡ x.node → ⊥).
      let t : (k == x.node) ≡ false = ne_eqb k x.node other in
      let mine = left k low in
      rw t (record { more = mine.more; sum = mine.sum; is = sym (own-other k x xs other) ∙ mine.is }))
      (cases_eq k x.node)

  through : (xs : List (Happening M)) (m : Machine M S) (es : ℕ → List (NodeEvent M)) (at : ℕ → ℕ)
      → IsAt note step p nodes beats h place run may m es at → AllByRecursion (λ (x : Happening M). x.node < nodes) xs
      → AllByRecursion (λ (x : Happening M). m.beat ≤ beat_at x) xs → Rising beat_at xs
      → ((k : ℕ) → k < nodes → IsLeft k (at k) xs) → IsThrough m (told_from h.before es xs)
  through [] m es at point low later rising left = record {
    end = m;
    es = es;
    accepts = refl;
    holds = point.holds;
    all = λ k low_k.
        let mine = left k low_k in
        let sum = mine.sum in
        point.told k low_k ∙ ap (listed h k 0) (none-left k (at k) mine.more mine.is sum);
  }
    where
      none-left : (k i more : ℕ) → ◌≡◌ {A = List (NodeEvent M)} [] (listed h k i more) → i + more ≡ h.count k → i ≡ h.count k
      none-left k i zero is sum = omega (arith, sum)
      none-left k i (suc more) is sum = absurd (cc)
  through (x ∷ xs) m es at point low later rising left =
      let n = x.node in
      let head = head-of at x xs (left n low.0) in
      let next = next-of m at x xs low.0 later.0 rising.0 left head in
      let s = subst (IsStep note step p nodes beats h place run may m es at n) head.event
      (stepped note step p nodes beats h place run may m es at point n next) in
      let new = happens note step p m (told_as h.before (es n) x) in
      let behind = subst (λ b. AllByRecursion (λ (y : Happening M). b ≤ beat_at y) xs) (sym s.dated) rising.0 in
      let rest = through xs new (added n x.event es) (beyond n at) s.point low.1 behind rising.1 (left-behind at x xs left head) in
      record {
        end = rest.end;
        es = rest.es;
        accepts = (s.known, s.free, rest.accepts);
        holds = rest.holds;
        all = rest.all;
      }

  -- then each node has lived through its events, as in the history
  lived-through : (m : Machine M S) (events : List Event) (t : IsThrough m events) (k : ℕ) (low : k < nodes)
      → AreTwins (t.holds.node k low).0.past (last_of note step h k)
  lived-through m events t k low =
      let start = opening (h.first k) undying in
      let there : (t.holds.node k low).0.past ≡ after_all note step (events_of h k) start =
      (t.holds.node k low).2.past ∙ ap (λ es. after_all note step es start) (t.all k low) in
      let twins = all-twin note step (events_of h k) start (opening (h.first k) (h.life k))
      (record { state = refl; journal = refl }) in
      let back = subst (AreTwins (after_all note step (events_of h k) start)) (sym (listed-last note step h k)) twins in
      subst (λ (s : Past S). AreTwins s (last_of note step h k)) (sym there) back

element-of : {X : Type 0} (xs : List X) (k : ℕ) → k < length xs → (x : X) × (slice_get xs k ≡ Some x)
element-of [] k low = absurd (omega (arith, low))
element-of (x ∷ xs) zero low = (x, refl)
element-of (x ∷ xs) (suc k) low = element-of xs k (omega (arith, low))

mapped-at : {X Y : Type 0} (f : X → Y) (xs : List X) (k : ℕ) (x : X) (y : Y) → slice_get xs k ≡ Some x → f x ≡ y
    → slice_get (map f xs) k ≡ Some y
mapped-at f xs k x y here is = slice_get-map f xs k ∙ ap (option_map f) here ∙ ap Some is

module _ {M S : Type 0} (note : M → Note) (step : S → Input M → Deed M S) (p : Params) (beats : ℕ) (given : List S)
    (h : History M S) (place : IsPlace p (length given) beats) (run : IsRun note step p (length given) h)
    (may : MayHappen p (length given) beats h) where
  -- before the first event
  starts-at : ((k : ℕ) → k < length given → slice_get given k ≡ Some (h.first k))
      → IsAt note step p (length given) beats h place run may (opening_machine {M = M} p given) (λ _. []) (λ _. 0)
  starts-at opens = record {
    holds = holds-opens {M = M} note step anywhere p given h.first opens (λ k s at. tt);
    told = λ k low. refl;
    within = λ k low. omega arith;
    last = λ k c low here.
        let is = sym (mapped-at being given k (h.first k) (being (h.first k)) (opens k low) refl) ∙ here in
        subst (IsLatest h k 0) (some-same (being (h.first k)) c is) (refl, refl);
    away = λ k c low here _.
        let is = sym (mapped-at being given k (h.first k) (being (h.first k)) (opens k low) refl) ∙ here in
        subst (λ (a : Being S). a.returned ≡ false) (some-same (being (h.first k)) c is) refl;
  }

  -- behind the last
  lived-of : (events : List Event)
      → IsThrough note step p (length given) beats h place run may (opening_machine p given) events
      → HasLivedThrough note step p beats given h events
  lived-of events t =
      let kept = lived-through note step p (length given) beats h place run may (opening_machine p given) events t in
      record {
        machine = t.end;
        accepts = t.accepts;
        each_has_being = t.holds.size;
        writes = λ k low.
            let own = t.holds.node k low in
            mapped-at (λ (b : Being S). b.past.journal) t.end.beings k own.0 (last_of note step h k).journal own.1 (kept k low).journal;
        ends = λ k low.
            let own = t.holds.node k low in
            mapped-at (λ (b : Being S). b.past.state) t.end.beings k own.0 (last_of note step h k).state own.1 (kept k low).state;
      }

pub merges-accepted : (M S : Type 0) → MergesAreAccepted M S
merges-accepted M S note step p beats given h events place first run may merged =
    let opens : (k : ℕ) → k < length given → slice_get given k ≡ Some (h.first k) = λ k low.
    (let s = element-of given k low in s.1 ∙ ap Some (sym (first k s.0 s.1))) in
    let start = starts-at note step p beats given h place run may opens in
    let left : (k : ℕ) → k < length given → IsLeft note step p (length given) beats h place run may k 0 merged.merged =
    λ k low. record { more = h.count k; sum = omega arith; is = merged.each k low ∙ listed-below h k (h.count k) } in
    let t = through note step p (length given) beats h place run may merged.merged (opening_machine p given)
    (λ _. []) (λ _. 0) start merged.of_nodes
    (all-given (λ (x : Happening M). 0 ≤ beat_at x) merged.merged (λ x. omega arith)) merged.rising left in
    subst (HasLivedThrough note step p beats given h) (sym merged.told)
    (lived-of note step p beats given h place run may (told_from h.before (λ _. []) merged.merged) t)
