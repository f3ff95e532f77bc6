-- The events of a run by their numbers: what was sent and taken by one of them, and which beats come behind it.
use Rattle.std.proofs.Common.{◌≡◌, ℕ, zero, suc, ◌+◌, ◌-◌, ◌<◌, ◌≤◌, List, [], ◌∷◌, ◌++◌, length, Bool, true, false, Option, Some, refl, ap, sym, ◌∙◌, subst, arith, ⊎_elim, inl, inr, eq-or-lt_of_le}
use Rattle.std.specs.Prelude.{slice_get}
use Rattle.std.specs.List.{AllByRecursion}
use Rattle.std.proofs.lemmas.Bool.{cases_Bool, cases_eq, cases_lt, eqb-true}
use Rattle.tiger_base.specs.declared.number.Stamp.{Stamp}
use Rattle.tiger_base.specs.declared.number.LinkNo.{LinkNo}
use Rattle.tiger_base.specs.declared.message.Note.{Note}
use Rattle.slot_plan.specs.declared.params.Params.{Params}
use Rattle.node_kit.specs.Links.{links_of, ends_of}
use Rattle.node_kit.specs.Rows.{each_below}
use Rattle.node_kit.specs.Steps.{Input, Deed}
use Rattle.node_kit.specs.Steps.Input.{Take, Tick}
use Rattle.run_facts.specs.Events.{NodeEvent, Dated, stamp_at, is_tick, is_return, is_take_on, sends_of}
use Rattle.run_facts.specs.Events.NodeEvent.{Does, Ends, Dies, Returns}
use Rattle.run_facts.specs.Histories.{History, CameOn, IsRun, TakesAt, beat, below, open_beat, outs, count_of, place, sent}
use Rattle.run_facts.proofs.Rows.{same-element}
use Rattle.run_facts.proofs.Along.{sends_of-dated}
use Rattle.run_facts.proofs.Counts.{sent-numbered, sent-stays}
use Rattle.run_facts.proofs.Listed.{listed, next-sum}
use Rattle.ring_world.proofs.Lists.{get-all}
use Rattle.ring_world.proofs.Ways.{below-later}
use Rattle.run_facts.proofs.Passing.{taken_between, opens_rise, ends_beat}
use Rattle.kept_worlds.proofs.Returning.{next-back}

-- an element behind others
pub get-after : {X : Type 0} (xs ys : List X) (k j : ℕ) → k ≡ length xs + j → slice_get (xs ++ ys) k ≡ slice_get ys j
get-after [] ys k j e = let same : k ≡ j = omega (arith, e) in ap (slice_get ys) same
get-after (x ∷ xs) ys zero j e = absurd (omega (arith, e))
get-after (x ∷ xs) ys (suc k) j e = get-after xs ys k j (omega (arith, e))

-- the events below a number, and one more
pub listed-more : {M S : Type 0} (h : History M S) (n i k m : ℕ) → i + k ≡ m
    → listed h n i (suc k) ≡ listed h n i k ++ h.event n m ∷ []
listed-more {M} h n i zero m e =
    let same : i ≡ m = omega (arith, e) in ap (λ (j : ℕ). h.event n j ∷ []) same
listed-more h n i (suc k) m e = ap (λ es. h.event n i ∷ es) (listed-more h n (suc i) k m (next-sum i k m e))

pub listed-below : {M S : Type 0} (h : History M S) (n m : ℕ) → each_below (h.event n) m ≡ listed h n 0 m
listed-below h n zero = refl
listed-below h n (suc m) =
    ap (λ es. es ++ h.event n m ∷ []) (listed-below h n m) ∙ sym (listed-more h n 0 m m (omega arith))

-- what holds of a row of events holds of each
pub all-listed : {M S : Type 0} (h : History M S) (P : NodeEvent M → Type 0) (n i k m : ℕ) → i + k ≡ m
    → AllByRecursion P (listed h n i k) → (j : ℕ) → i ≤ j → j < m → P (h.event n j)
all-listed h P n i zero m e all j low high = absurd (omega (arith, e, low, high))
all-listed h P n i (suc k) m e all j low high = ⊎_elim
    (λ (same : i ≡ j). subst (λ q. P (h.event n q)) same all.0)
    (λ (other : i ≡ j → ⊥). all-listed h P n (suc i) k m (next-sum i k m e) all.1 j (omega (arith, low, other)) high)
    (cases_eq i j)

-- a count never falls
pub count-grows : {M S : Type 0} (test : NodeEvent M → Bool) (h : History M S) (n i j : ℕ) → i ≤ j
    → count_of test h n i ≤ count_of test h n j
count-grows test h n i zero low =
    let none : i ≡ 0 = omega (arith, low) in subst (λ q. count_of test h n q ≤ 0) (sym none) (omega arith)
count-grows test h n i (suc j) low = ⊎_elim
    (λ (same : i ≡ suc j).
    subst (λ q. count_of test h n i ≤ count_of test h n q) same (let all : count_of test h n i ≤ count_of test h n i = omega arith in all))
    (λ (below : i < suc j).
    let rest = count-grows test h n i j (omega (arith, below)) in
    ⊎_elim
    (λ (t : test (h.event n j) ≡ true). rw t (omega (arith, rest)))
    (λ (t : test (h.event n j) ≡ false). rw t rest)
    (cases_Bool (test (h.event n j))))
    (eq-or-lt_of_le low)

-- what was sent before a beat was sent before each event from which on the beats are no lower
pub sent-by : {M S : Type 0} (note : M → Note) (step : S → Input M → Deed M S) (l : ℕ) (h : History M S)
    (from j m k b : ℕ) (d : Dated M) → d.beat < b → ((e : ℕ) → j ≤ e → e < m → b ≤ beat h from e)
    → slice_get (sent note step l h from m) k ≡ Some d → slice_get (sent note step l h from j) k ≡ Some d
sent-by {M} note step l h from j m k b d earlier later at =
    let s = sent-numbered note step l h from m k d at in
    let now = beat h from s.at in
    let sends = sends_of l now (outs note step h from s.at) in
    let dated : d.beat ≡ now = get-all (λ (q : Dated M). q.beat ≡ now) sends s.place d s.sends
    (sends_of-dated (λ q. q ≡ now) l now (outs note step h from s.at) refl) in
    let there : slice_get (sent note step l h from (suc s.at)) k ≡ Some d =
    get-after (sent note step l h from s.at) sends k s.place s.number ∙ s.sends in
    ⊎_elim
    (λ (low : s.at < j). sent-stays note step l h from (suc s.at) j k d (omega (arith, low)) there)
    (λ (high : j ≤ s.at). let c = later s.at high s.before in absurd (omega (arith, c, dated, earlier)))
    (cases_lt s.at j)

-- what is sent from an event on, if the beats are no lower than one there, is not below that beat
pub sent-below : {M S : Type 0} (note : M → Note) (step : S → Input M → Deed M S) (l : ℕ) (h : History M S)
    (from b j m : ℕ) → j ≤ m → ((e : ℕ) → j ≤ e → e < m → b ≤ beat h from e)
    → below b (sent note step l h from j) ≡ below b (sent note step l h from m)
sent-below note step l h from b j zero low later =
    let z : j ≡ 0 = omega (arith, low) in ap (λ k. below b (sent note step l h from k)) z
sent-below {M} note step l h from b j (suc m) low later = ⊎_elim
    (λ (e : j ≡ suc m). ap (λ k. below b (sent note step l h from k)) e)
    (λ (more : j < suc m).
    let now = beat h from m in
    let up = later m (omega (arith, more)) (omega arith) in
    sent-below note step l h from b j m (omega (arith, more)) (λ e a c. later e a (omega (arith, c)))
    ∙ sym (below-later b (sent note step l h from m) (sends_of l now (outs note step h from m))
    (sends_of-dated (λ q. b ≤ q) l now (outs note step h from m) up)))
    (eq-or-lt_of_le low)

-- an event that takes something on a link
pub record IsTake {M : Type 0} (l : ℕ) (x : NodeEvent M) : Type 0 where
  pub stamp : Stamp
  pub link : LinkNo
  pub msg : M
  pub is : TakesAt x stamp link msg
  pub on : link.0 ≡ l

pub take-of : {M : Type 0} (l : ℕ) (x : NodeEvent M) → is_take_on l x ≡ true → IsTake l x
take-of l (Does (Take s k m)) t = record { stamp = s; link = k; msg = m; is = inl refl; on = eqb-true _ _ t }
take-of l (Does (Tick s)) t = absurd (cc)
take-of l (Ends (Take s k m) sends) t =
    record { stamp = s; link = k; msg = m; is = inr (sends, refl); on = eqb-true _ _ t }
take-of l (Ends (Tick s) sends) t = absurd (cc)
take-of l (Dies s) t = absurd (cc)
take-of l (Returns s) t = absurd (cc)

-- and when
pub taken-in : {M : Type 0} (x : NodeEvent M) (s : Stamp) (k : LinkNo) (m : M) → TakesAt x s k m → (stamp_at x).beat ≡ s.beat
taken-in {M} x s k m is = ⊎_elim
    (λ (e : x ≡ Does (Take s k m)). ap (λ (y : NodeEvent M). (stamp_at y).beat) e)
    (λ (e : (sends : ℕ) × (x ≡ Ends (Take s k m) sends)). ap (λ (y : NodeEvent M). (stamp_at y).beat) e.1)
    is

tick-here : {M : Type 0} (x : NodeEvent M) → is_tick x ≡ true → is_return x ≡ false
tick-here (Does i) t = refl
tick-here (Ends i sends) t = refl
tick-here (Dies s) t = absurd (cc)
tick-here (Returns s) t = absurd (cc)

tick-or-take : {M : Type 0} (l : ℕ) (x : NodeEvent M) → is_tick x ≡ true → is_take_on l x ≡ true → ⊥
tick-or-take l (Does (Take s k m)) t u = absurd (cc)
tick-or-take l (Does (Tick s)) t u = absurd (cc)
tick-or-take l (Ends (Take s k m) sends) t u = absurd (cc)
tick-or-take l (Ends (Tick s) sends) t u = absurd (cc)
tick-or-take l (Dies s) t u = absurd (cc)
tick-or-take l (Returns s) t u = absurd (cc)

module _ {M S : Type 0} (note : M → Note) (step : S → Input M → Deed M S) (p : Params) (nodes : ℕ) (h : History M S)
    (run : IsRun note step p nodes h) where
  -- what a node takes on a link was sent there with the number of the take
  came-as : (l from n i k : ℕ) (d : Dated M) → n < nodes → i < h.count n → ends_of (links_of p) l ≡ Some (from, n)
      → place l h n i ≡ k → slice_get (sent note step l h from (h.count from)) k ≡ Some d
      → is_take_on l (h.event n i) ≡ true → beat h n i ≤ d.beat + p.delay
  came-as l from n i k d low at ends number was takes_it =
      let t = take-of l (h.event n i) takes_it in
      let came : CameOn note step p nodes h n l (place l h n i) t.stamp.beat t.msg =
      subst (λ q. CameOn note step p nodes h n q (place q h n i) t.stamp.beat t.msg) t.on
      (run.carried n i t.stamp t.link t.msg low at t.is) in
      let both : ◌≡◌ {A = Option (ℕ × ℕ)} (Some (came.from, n)) (Some (from, n)) = sym came.ends ∙ ends in
      let same : came.from ≡ from = first-same came.from from both in
      let was_sent : slice_get (sent note step l h from (h.count from)) k ≡ Some (record { beat = came.when; item = t.msg }) =
      subst (λ q. slice_get (sent note step l h q (h.count q)) k ≡ Some (record { beat = came.when; item = t.msg })) same
      (subst (λ q. slice_get (sent note step l h came.from (h.count came.from)) q
      ≡ Some (record { beat = came.when; item = t.msg })) number came.was_sent) in
      let one : record { beat = came.when; item = t.msg } ≡ d =
      same-element (sent note step l h from (h.count from)) k (record { beat = came.when; item = t.msg }) d was_sent was in
      let when : came.when ≡ d.beat = ap (λ (q : Dated M). q.beat) one in
      let now : beat h n i ≡ t.stamp.beat = taken-in (h.event n i) t.stamp t.link t.msg t.is in
      let soon = came.soon in
      omega (arith, when, now, soon)
    where
      first-same : (a b : ℕ) → ◌≡◌ {A = Option (ℕ × ℕ)} (Some (a, n)) (Some (b, n)) → a ≡ b
      first-same a b e = let pair : ◌≡◌ {A = ℕ × ℕ} (a, n) (b, n) = cc in ap (λ (q : ℕ × ℕ). q.0) pair

  -- what is not taken by a tick may still arrive in a later beat
  pub young-at_tick : (l from n i k : ℕ) (d : Dated M) → from < nodes → n < nodes → i < h.count n
      → ends_of (links_of p) l ≡ Some (from, n) → is_tick (h.event n i) ≡ true
      → slice_get (sent note step l h from (h.count from)) k ≡ Some d → place l h n i ≤ k
      → beat h n i < d.beat + p.delay
  young-at_tick l from n i k d low_from low at ends ticks_it was waits = ⊎_elim
      (λ (young : beat h n i < d.beat + p.delay). young)
      (λ (old : d.beat + p.delay ≤ beat h n i). absurd (late old))
      (cases_lt (beat h n i) (d.beat + p.delay))
    where
      rises : (a b : ℕ) → a ≤ b → b ≤ h.count n → open_beat h n a ≤ open_beat h n b
      rises = opens_rise run n low

      -- by the next return, or by the end, it was taken
      late : d.beat + p.delay ≤ beat h n i → ⊥
      late old =
          let back = next-back h n i (h.count n - i) (h.count n) (omega (arith, at)) in
          let from_here = back.from in
          let up = back.low in
          let ended = ends_beat run n low i at ticks_it in
          let tick_here = tick-here (h.event n i) ticks_it in
          let past_it : suc i ≤ back.at = ⊎_elim
          (λ (same : i ≡ back.at). ⊎_elim
          (λ (end : back.at ≡ h.count n). absurd (omega (arith, same, end, at)))
          (λ (ret : (back.at < h.count n) × (is_return (h.event n back.at) ≡ true)).
          let q : true ≡ false = sym ret.1 ∙ subst (λ q. is_return (h.event n q) ≡ false) same tick_here in absurd (cc))
          back.ends)
          (λ (more : i < back.at). more)
          (eq-or-lt_of_le from_here) in
          let opened = rises (suc i) back.at past_it up in
          let due : d.beat + p.delay < open_beat h n back.at = omega (arith, ended, opened, old) in
          let taken : k < place l h n back.at = ⊎_elim
          (λ (end : back.at ≡ h.count n).
          let few = run.arrives l from n k d.beat d.item low_from low ends was
          (subst (λ q. d.beat + p.delay < open_beat h n q) end due) in
          subst (λ q. k < place l h n q) (sym end) few)
          (λ (ret : (back.at < h.count n) × (is_return (h.event n back.at) ≡ true)).
          run.in_time l from n back.at k d.beat d.item low_from low ends ret.0 ret.1 was due)
          back.ends in
          let c = taken_between l h n i back.at k back.here from_here waits taken in
          let after = c.from in
          let below_it = c.before in
          let soon = came-as l from n c.at k d low (omega (arith, below_it, up)) ends c.is was c.takes in
          ⊎_elim
          (λ (same : i ≡ c.at). tick-or-take l (h.event n c.at) (subst (λ q. is_tick (h.event n q) ≡ true) same ticks_it) c.takes)
          (λ (later : i < c.at).
          let then_on = rises (suc i) c.at later (omega (arith, below_it, up)) in
          let there = run.in_beat n c.at low (omega (arith, below_it, up)) (back.here c.at after below_it) in
          omega (arith, then_on, there, ended, soon, old))
          (eq-or-lt_of_le after)
