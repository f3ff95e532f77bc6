-- What is known of the events of nodes that keep a course, if a death that comes in a tick of which nothing goes out comes
-- in the take before it.
use Rattle.std.proofs.Common.{◌≡◌, ℕ, zero, suc, ◌+◌, ◌%◌, ◌<◌, ◌≤◌, List, [], ◌∷◌, ◌++◌, map, length, Bool, true, false, Some, refl, ap, sym, ◌∙◌, subst, arith, ⊎_elim, inl, inr, append_assoc}
use Rattle.std.specs.Prelude.{◌==◌, ◌&&◌}
use Rattle.std.specs.List.{AllByRecursion}
use Rattle.std.proofs.Math.Nat.{mod-lt}
use Rattle.std.proofs.lemmas.Bool.{cases_Bool, cases_eq, cases_lt}
use Rattle.std.proofs.lemmas.List.{map-append}
use Rattle.tiger_base.specs.declared.number.LinkNo.{LinkNo}
use Rattle.tiger_base.specs.declared.number.Stamp.{Stamp}
use Rattle.tiger_base.specs.declared.message.Note.{Note}
use Rattle.slot_plan.specs.declared.params.Params.{Params}
use Rattle.node_kit.specs.declared.course.Course.{Course}
use Rattle.node_kit.specs.declared.journal.Entry.{Entry}
use Rattle.node_kit.specs.declared.journal.What.TheVariants as what
use Rattle.node_kit.specs.declared.outbox.Out.{Out}
use Rattle.node_kit.specs.declared.outbox.Out.TheVariants as out
use Rattle.node_kit.specs.Courses.{reading_of}
use Rattle.node_kit.specs.Form.{IsInForm}
use Rattle.node_kit.specs.Life.{Lifetime, back_of, cut_of, death_of, ends_in, lifetime_of}
use Rattle.node_kit.specs.Outputs.{begins_lost, cut_at, send_count, with_death}
use Rattle.node_kit.specs.Steps.{Input, Deed, IsAllowed, entries_of, entry_of, what_of}
use Rattle.node_kit.specs.Steps.Input.{Take, Tick}
use Rattle.node_kit.proofs.Cutting.{cut-all}
use Rattle.run_facts.specs.Events.{NodeEvent, Past, Dated, after, after_input, after_cut, behind, kept_outs, left_outs, outs_of, sends_of, stamp_at, is_death, is_return}
use Rattle.run_facts.specs.Events.NodeEvent.{Does, Ends, Dies, Returns}
use Rattle.run_facts.specs.Histories.{History, IsRun, IsUp, TakesAt, past, last_of, beat, open_beat, outs}
use Rattle.run_facts.specs.Kept.{HaveKept}
use Rattle.run_facts.specs.Timed.{DieApart}
use Rattle.run_facts.proofs.Counts.{sent-numbered}
use Rattle.proof_answer.proofs.Left.{stamp-same}
use Rattle.proof_answer.proofs.Lifetimes.{returns-when}
use Rattle.proof_answer.proofs.Lists.{element-of}
use Rattle.proof_turns.specs.Turns.{is_of_take}
use Rattle.proof_turns.specs.Laws.{AreOfTake, BeginsOtherwise, AreToldApart}
use Rattle.ring_world.specs.Laws.{IsPlace}
use Rattle.ring_world.proofs.Lists.{get-all}
use Rattle.kept_worlds.specs.Laws.{CubsStand, ForgetsTicks}
use Rattle.kept_worlds.specs.Merges.{LivesThrough, MayHappen}
use Rattle.kept_worlds.proofs.Ends.{IsOfLife, cut-in, dies-in}
use Rattle.kept_worlds.proofs.Lives.{back-at, death-at, later, of-life, cut-sends, mortal-cub, may-happen, sends_in}
use Rattle.kept_worlds.proofs.Returning.{IsNextBack, next-back, one-death}
use Rattle.kept_worlds.proofs.Said.{death-behind}
use Rattle.kept_worlds.proofs.Forgotten.{IsForgotten, back-next, beat-cut, fate, outs-high, outs-to, run-same, tick-low, up-to}
use Rattle.kept_worlds.proofs.Shorter.{AreAlike, IsCut, beat-same, beside, far, inside, last_in, old, old-low, old-strict, past-same, reading-same, takes-same}
use Rattle.kept_worlds.proofs.Shortened.{is_nothing, shortened, alike, goes-out}
use Rattle.kept_worlds.proofs.Told.{IsTellable, IsOtherwise}
use Rattle.kept_worlds.proofs.Whole.{left-all, count-left}

-- what is left of outputs begins as they do
begins-cut : {M : Type 0} (note : M → Note) (message : Note) (k : ℕ) (os : List (Out M)) → BeginsOtherwise note message os
    → BeginsOtherwise note message (cut_at k os)
begins-cut note message k [] h = tt
begins-cut note message k (o ∷ os) h = ⊎_elim
    (λ (t : (k == 0 && begins_lost (o ∷ os)) ≡ true). rw t tt)
    (λ (t : (k == 0 && begins_lost (o ∷ os)) ≡ false). rw t h)
    (cases_Bool (k == 0 && begins_lost (o ∷ os)))

begins-there : {M : Type 0} (note : M → Note) (message : Note) (os : List (Out M)) → BeginsOtherwise note message os
    → is_nothing os ≡ false → IsOtherwise note message os
begins-there note message [] h some = absurd (cc)
begins-there note message (o ∷ os) h some = h

-- what is sent is in form
sent-in_form : {M : Type 0} (note : M → Note) (p : Params) (n l b : ℕ) (os : List (Out M))
    → AllByRecursion (IsAllowed note p n) os → AllByRecursion (λ (d : Dated M). IsInForm p (note d.item)) (sends_of l b os)
sent-in_form note p n l b [] h = tt
sent-in_form note p n l b (out.Send link msg ∷ os) h = ⊎_elim
    (λ (t : (link.0 == l) ≡ true). rw t (h.0.1, sent-in_form note p n l b os h.1))
    (λ (t : (link.0 == l) ≡ false). rw t (sent-in_form note p n l b os h.1))
    (cases_Bool (link.0 == l))
sent-in_form note p n l b (out.Act w ∷ os) h = sent-in_form note p n l b os h.1

-- what an event that is no death writes is what it puts out
writes-outs : {M S : Type 0} (note : M → Note) (step : S → Input M → Deed M S) (e : NodeEvent M) (x y : Past S)
    → is_death e ≡ false → x.journal ≡ y.journal → outs_of step e x ≡ outs_of step e y
    → (after note step e x).journal ≡ (after note step e y).journal
unfolding after_input kept_outs
writes-outs note step (Does i) x y alive journal outs =
    ap (λ os. x.journal ++ entries_of note i os) outs ∙ ap (λ j. j ++ entries_of note i (step y.state i).outs) journal
writes-outs note step (Ends i k) x y alive journal outs = absurd (cc)
writes-outs note step (Dies t) x y alive journal outs = absurd (cc)
writes-outs note step (Returns t) x y alive journal outs = journal

module _ {M S : Type 0} (note : M → Note) (step : S → Input M → Deed M S) (stands : S → Params → ℕ → Type 0) (c : Course)
    (given nodes : List S) (journals : List (List Entry))
    (forgets : (n back : ℕ) → back_of c n ≡ Some back → ForgetsTicks step stands c.plan.params given)
    (told : AreToldApart note step stands c.plan.params) (cubs : CubsStand stands c.plan.params given)
    (kept : HaveKept note step c given nodes journals) where
  abbrev p : Params
  p = c.plan.params

  abbrev h : History M S
  h = kept.lived.history

  abbrev pub g : History M S
  g = shortened note step h

  pub are-alike : AreAlike note step h g
  are-alike = alike note step h

  run : IsRun note step p (length given) h
  run = kept.lived.run

  -- the number of an event in the first history
  abbrev to : ℕ → ℕ → ℕ
  to n i = old note step h g are-alike n i

  abbrev last : ℕ → ℕ
  last n = last_in note step h g are-alike n

  to-low : (n i : ℕ) → i < g.count n → to n i < h.count n
  to-low n i low = inside note step h g are-alike n i low

  cub-of : (n b : ℕ) → ends_in (lifetime_of c n) b ≡ true → n < p.cubs
  cub-of n b cut = mortal-cub note step c given nodes journals kept.lived n b (cut-in c n b cut)

  cub-dies : (n i : ℕ) → n < length given → i < h.count n → is_death (h.event n i) ≡ true → n < p.cubs
  cub-dies n i low at died =
      mortal-cub note step c given nodes journals kept.lived n (beat h n i)
      (death-at note step c given nodes journals kept.lived n i low at died)

  -- ---- cubs stand where they stood, and messages are in form

  stands-after : (n : ℕ) (e : NodeEvent M) (x : Past S) → stands x.state p n → stands (after note step e x).state p n
  unfolding after_input after_cut
  stands-after n (Does i) x s = told.stays n x.state i s
  stands-after n (Ends i k) x s = told.stays n x.state i s
  stands-after n (Dies t) x s = s
  stands-after n (Returns t) x s = s

  stands-at : (n i : ℕ) → n < length given → n < p.cubs → stands (past note step h n i).state p n
  stands-at n zero low cub =
      let s = element-of given n low in
      subst (λ q. stands q p n) (sym (kept.lived.theirs.opens n s.0 s.1).0) (cubs n s.0 cub s.1)
  stands-at n (suc i) low cub = stands-after n (h.event n i) (past note step h n i) (stands-at n i low cub)

  -- ---- who returns forgets the tick of its death

  module _ (n : ℕ) (low : n < length given) (cub : n < p.cubs) (law : ForgetsTicks step stands p given) where
    fresh-after : (e : NodeEvent M) (x : Past S) (b : ℕ) → stands x.state p n → law.since x.state b ≡ false → is_return e ≡ false
        → (stamp_at e).beat ≡ b → law.since (after note step e x).state (behind e b) ≡ false
    unfolding after_input after_cut
    fresh-after (Does (Take s l m)) x b at fresh here now = law.takes n x.state s l m b at fresh
    fresh-after (Does (Tick s)) x b at fresh here now = law.ticks n x.state s (suc b) at (omega (arith, now))
    fresh-after (Ends (Take s l m) k) x b at fresh here now = law.takes n x.state s l m b at fresh
    fresh-after (Ends (Tick s) k) x b at fresh here now = law.ticks n x.state s (suc b) at (omega (arith, now))
    fresh-after (Dies s) x b at fresh here now = fresh
    fresh-after (Returns s) x b at fresh here now = absurd (cc)

    fresh : (i : ℕ) → i ≤ h.count n → ((j : ℕ) → j < i → is_return (h.event n j) ≡ false)
        → law.since (past note step h n i).state (open_beat h n i) ≡ false
    fresh zero at here =
        let s = element-of given n low in
        subst (λ q. law.since q 0 ≡ false) (sym (kept.lived.theirs.opens n s.0 s.1).0) (law.opens n s.0 cub s.1)
    fresh (suc i) at here =
        fresh-after (h.event n i) (past note step h n i) (open_beat h n i) (stands-at n i low cub)
        (fresh i (omega (arith, at)) (λ j less. here j (omega (arith, less)))) (here i (omega arith))
        (run.in_beat n i low (omega (arith, at)) (here i (omega arith)))

  forgotten : (n : ℕ) (low : n < length given) → IsForgotten note step p (length given) h g are-alike run n low
  unfolding after_cut
  forgotten n low s more w apart =
      let tick : suc (last n) < h.count n = tick-low note step p (length given) h g are-alike run n low s in
      let size = s.size in
      let dies = ap is_death s.ticks in
      let cub = cub-dies n (suc (last n)) low tick dies in
      let back = back-next note step p (length given) h g are-alike run n low s more in
      let high : suc (suc (last n)) < h.count n = omega (arith, size, more) in
      let law = forgets n (beat h n (suc (suc (last n))))
      (returns-when (death_of c n) (cut_of c n) (back_of c n) (beat h n (suc (suc (last n))))
      (back-at note step c given nodes journals kept.lived n (suc (suc (last n))) low high back)) in
      let none : (j : ℕ) → j < suc (last n) → is_return (h.event n j) ≡ false = λ j less. ⊎_elim
      (λ (t : is_return (h.event n j) ≡ true).
      let e = one-death note step p (length given) h run n low (suc (last n)) j tick (omega (arith, less, tick)) dies t in
      absurd (omega (arith, e, less)))
      (λ (f : is_return (h.event n j) ≡ false). f)
      (cases_Bool (is_return (h.event n j))) in
      let x = past note step h n (suc (last n)) in
      let since = fresh n low cub law (suc (last n)) (omega (arith, tick)) none in
      let opened = run.in_beat n (suc (last n)) low tick (ap is_return s.ticks) in
      let now : beat h n (suc (last n)) ≡ s.now.beat = ap (λ (e : NodeEvent M). (stamp_at e).beat) s.ticks in
      let theirs : (past note step h n (suc (suc (last n)))).state ≡ (step x.state (Tick s.now)).state =
      ap (λ (e : NodeEvent M). (after note step e x).state) s.ticks in
      ap (λ q. step q (Tick w)) theirs
      ∙ law.anew n x.state s.now w (stands-at n (suc (last n)) low cub)
      (subst (λ b. law.since x.state b ≡ false) (sym opened ∙ now) since) (omega (arith, now, apart))

  pub run-told : IsRun note step p (length given) g
  run-told = run-same note step p (length given) h g are-alike run forgotten

  outs-told : (n i : ℕ) → n < length given → i < g.count n → outs note step g n i ≡ outs note step h n (to n i)
  outs-told n i low at = outs-to note step p (length given) h g are-alike run n low (forgotten n low) i at

  in-form : (n i : ℕ) (s : Stamp) (l : LinkNo) (m : M) → n < length given → i < h.count n → TakesAt (h.event n i) s l m
      → IsInForm p (note m)
  in-form n i s l m low at takes =
      let came = run.carried n i s l m low at takes in
      let was = sent-numbered note step l.0 h came.from (h.count came.from) _ (record { beat = came.when; item = m }) came.was_sent in
      get-all (λ (d : Dated M). IsInForm p (note d.item)) (sends_of l.0 (beat h came.from was.at) (outs note step h came.from was.at))
      was.place (record { beat = came.when; item = m }) was.sends
      (sent-in_form note p came.from l.0 (beat h came.from was.at) (outs note step h came.from was.at)
      (run.fair came.from was.at came.known was.before))

  -- a cub's take puts out what may come of it
  take-own : (n i : ℕ) (s : Stamp) (l : LinkNo) (m : M) → n < length given → n < p.cubs → TakesAt (h.event n i) s l m
      → AreOfTake note (note m) (outs note step h n i)
  unfolding kept_outs left_outs
  take-own n i s l m low cub takes =
      let x = past note step h n i in
      let own = told.takes n x.state s l m (stands-at n i low cub) in
      ⊎_elim
      (λ (e : h.event n i ≡ Does (Take s l m)).
      subst (λ (y : NodeEvent M). AreOfTake note (note m) (outs_of step y x)) (sym e) own)
      (λ (e : (k : ℕ) × (h.event n i ≡ Ends (Take s l m) k)).
      subst (λ (y : NodeEvent M). AreOfTake note (note m) (outs_of step y x)) (sym e.1)
      (cut-all (λ (o : Out M). is_of_take (note m) (what_of note o) ≡ true) e.0 (step x.state (Take s l m)).outs own))
      takes

  -- ---- the events of the history that is told

  takes-told : (n i : ℕ) (s : Stamp) (l : LinkNo) (m : M) → i < g.count n → TakesAt (g.event n i) s l m
      → TakesAt (h.event n (to n i)) s l m
  takes-told n i s l m at takes =
      takes-same step (past note step h n (to n i)).state (h.event n (to n i)) (g.event n i)
      (beside note step h g are-alike n i at) s l m takes

  own-told : (n i : ℕ) (s : Stamp) (l : LinkNo) (m : M) → n < length given → n < p.cubs → i < g.count n
      → TakesAt (g.event n i) s l m → AreOfTake note (note m) (outs note step g n i)
  own-told n i s l m low cub at takes =
      subst (λ (os : List (Out M)). AreOfTake note (note m) os) (sym (outs-told n i low at))
      (take-own n (to n i) s l m low cub (takes-told n i s l m at takes))

  pub life-told : (n i : ℕ) → n < length given → i < g.count n → IsOfLife (lifetime_of c n) (g.event n i)
  life-told n i low at = ⊎_elim
      (λ (same : g.event n i ≡ h.event n (to n i)).
      subst (IsOfLife (lifetime_of c n)) (sym same) (theirs (to n i) (to-low n i at)))
      (λ q. ⊎_elim
      (λ (below_it : i < last n).
      let is = old-low (last n) i (omega (arith, below_it)) in
      subst (IsOfLife (lifetime_of c n)) (sym ((are-alike.each n).same i below_it)) (theirs i (let a = to-low n i at in omega (arith, a, is))))
      (λ (high : last n ≤ i).
      let s = far note step h g are-alike n i at high in
      let tick = tick-low note step p (length given) h g are-alike run n low s in
      let now = beat-cut note step p (length given) h g are-alike run n low s in
      ⊎_elim
      (λ (is : last n ≡ i).
      let cut : ends_in (lifetime_of c n) s.now.beat ≡ true =
      subst (IsOfLife (lifetime_of c n)) s.ticks (theirs (suc (last n)) tick) in
      let same : s.now.beat ≡ s.stamp.beat =
      sym (ap (λ (e : NodeEvent M). (stamp_at e).beat) s.ticks) ∙ now ∙ ap (λ (e : NodeEvent M). (stamp_at e).beat) s.takes in
      subst (λ (k : ℕ). IsOfLife (lifetime_of c n) (g.event n k)) is
      (subst (IsOfLife (lifetime_of c n)) (sym s.ends) (ap (ends_in (lifetime_of c n)) (sym same) ∙ cut)))
      (λ (other : last n ≡ i → ⊥).
      let size = s.size in
      subst (IsOfLife (lifetime_of c n)) (sym (s.later i (omega (arith, other, high)) at))
      (theirs (suc i) (omega (arith, size, at))))
      (cases_eq (last n) i))
      (cases_lt i (last n)))
      (beside note step h g are-alike n i at)
    where
      theirs : (i : ℕ) → i < h.count n → IsOfLife (lifetime_of c n) (h.event n i)
      theirs i at = of-life note step c given nodes journals kept.lived n i low at

  -- a death that is told of a tick is one in the first history too, with the same events before
  tick-told : (n i k : ℕ) (s : Stamp) → n < length given → i < g.count n → g.event n i ≡ Ends (Tick s) k → i < last n
  tick-told n i k s low at is =
      let f = fate note step p (length given) h g are-alike run n low i at (ap is_death is) in
      ⊎_elim
      (λ (same : (i < last n) × (f.at ≡ i)). same.0)
      (λ (cut : (i ≡ last n) × (f.at ≡ suc (last n)) × IsCut note step h g n (last n)).
      let t : true ≡ false = ap is_cut_take (sym cut.2.ends ∙ ap (g.event n) (sym cut.0) ∙ is) in absurd (cc))
      f.where_it_is
    where
      is_cut_take : NodeEvent M → Bool
      is_cut_take (Does x) = false
      is_cut_take (Ends (Take a b d) k) = true
      is_cut_take (Ends (Tick a) k) = false
      is_cut_take (Dies a) = false
      is_cut_take (Returns a) = false

  tick-otherwise : (n i : ℕ) (s now : Stamp) (l : LinkNo) (m : M) (k : ℕ) → n < length given → suc i < g.count n
      → g.event n i ≡ Does (Take s l m) → g.event n (suc i) ≡ Ends (Tick now) k
      → IsOtherwise note (note m) (outs note step g n (suc i))
  unfolding left_outs after_input
  tick-otherwise n i s now l m k low at takes ticks =
      let x = past note step h n i in
      let cut : ends_in (lifetime_of c n) now.beat ≡ true = subst (IsOfLife (lifetime_of c n)) ticks (life-told n (suc i) low at) in
      let cub = cub-of n now.beat cut in
      let below_it : suc i < last n = tick-told n (suc i) k now low at ticks in
      let took : h.event n i ≡ Does (Take s l m) = sym ((are-alike.each n).same i (omega (arith, below_it))) ∙ takes in
      let there = old-low (last n) i (omega (arith, below_it)) in
      let inner = to-low n i (omega (arith, at)) in
      let form = in-form n i s l m low (omega (arith, inner, there)) (inl took) in
      let os = (step (step x.state (Take s l m)).state (Tick now)).outs in
      let state : (past note step h n (suc i)).state ≡ (step x.state (Take s l m)).state =
      ap (λ (e : NodeEvent M). (after note step e x).state) took in
      let first = begins-cut note (note m) k os (told.ticks n x.state s now l m (stands-at n i low cub) form) in
      let left : left_outs step (Tick now) k (past note step h n (suc i)) ≡ cut_at k os =
      ap (λ q. cut_at k (step q (Tick now)).outs) state in
      let goes = goes-out note step h n i s now l m k at takes ticks
      (λ a la da b lb db. run.once n a b low la lb da db) in
      let same : outs note step g n (suc i) ≡ left_outs step (Tick now) k (past note step h n (suc i)) =
      ap (λ (e : NodeEvent M). outs_of step e (past note step g n (suc i))) ticks
      ∙ ap (λ (y : Past S). left_outs step (Tick now) k y) (past-same note step h g are-alike n (suc i) (omega (arith, below_it))) in
      subst (λ (q : List (Out M)). IsOtherwise note (note m) q) (sym same)
      (begins-there note (note m) (left_outs step (Tick now) k (past note step h n (suc i)))
      (subst (λ (q : List (Out M)). BeginsOtherwise note (note m) q) (sym left) first) goes)

  sends-told : (n i k : ℕ) (x : Input M) → n < length given → i < g.count n → g.event n i ≡ Ends x k
      → send_count (outs note step g n i) ≡ k
  unfolding kept_outs left_outs
  sends-told n i k x low at is =
      let y = past note step h n (to n i) in
      ap send_count (outs-told n i low at) ∙ ⊎_elim
      (λ (e : g.event n i ≡ h.event n (to n i)).
      let theirs : h.event n (to n i) ≡ Ends x k = sym e ∙ is in
      let few = cut-sends note step c given nodes journals kept.lived n (to n i) k x low (to-low n i at) theirs in
      ap (λ (f : NodeEvent M). send_count (outs_of step f y)) theirs ∙ count-left k (step y.state x).outs few)
      (λ e.
      let count : send_count (step y.state (Take e.0 e.1 e.2)).outs ≡ k = ap sends_in (sym e.4 ∙ is) in
      ap (λ (f : NodeEvent M). send_count (outs_of step f y)) e.3 ∙ count)
      (beside note step h g are-alike n i at)

  -- the first life ends with the return, or with all
  pub front : (n : ℕ) → IsNextBack g n 0 (g.count n)
  front n = next-back g n 0 (g.count n) (g.count n) (omega arith)

  -- who has not died in its first life has no other one, and goes on to the end of the beats
  finish-told : (n : ℕ) → n < length given → ((i : ℕ) → i < (front n).at → is_death (g.event n i) ≡ false)
      → open_beat g n (front n).at ≡ c.beats
  finish-told n low alive =
      let f = front n in
      let all : f.at ≡ g.count n = ⊎_elim
      (λ (e : f.at ≡ g.count n). e)
      (λ (back : (f.at < g.count n) × (is_return (g.event n f.at) ≡ true)).
      let r = run-told.returned n f.at low back.0 back.1 in
      let next = r.next in
      let q : true ≡ false = sym r.died ∙ alive r.last (omega (arith, next)) in absurd (cc))
      f.ends in
      let up : IsUp g n = λ i at died.
      (let q : true ≡ false = sym died ∙ alive i (omega (arith, at, all)) in absurd (cc)) in
      let t = up-to note step p (length given) h g are-alike run n low up in
      ap (open_beat g n) all ∙ t.1 ∙ kept.lived.complete.until_end n low t.0

  pub tellable : (n : ℕ) → n < length given → IsTellable note step c n g (front n).at
  tellable n low =
      let f = front n in
      let most = f.low in
      record {
        in_beat = λ i at. run-told.in_beat n i low (omega (arith, at, most)) (f.here i (omega arith) at);
        here = λ i at. f.here i (omega arith) at;
        early = λ i at.
            let within : i < g.count n = omega (arith, at, most) in
            let b = beat-same note step h g are-alike n i within in
            let e = kept.lived.complete.early n (to n i) low (to-low n i within) in omega (arith, b, e);
        lived = λ i at. life-told n i low (omega (arith, at, most));
        ended = λ i at died. ⊎_elim
            (λ (end : i + 1 ≡ g.count n). omega (arith, end, at, most))
            (λ (back : is_return (g.event n (i + 1)) ≡ true). ⊎_elim
            (λ (more : i + 1 < f.at).
            let q : true ≡ false = sym back ∙ f.here (i + 1) (omega arith) more in absurd (cc))
            (λ (end : f.at ≤ i + 1). omega (arith, end, at))
            (cases_lt (i + 1) f.at))
            (run-told.ended n i low (omega (arith, at, most)) died);
        fair = λ i at. run-told.fair n i low (omega (arith, at, most));
        finish = finish-told n low;
        last_take = λ i s l m k at is.
            let within : i < g.count n = omega (arith, at, most) in
            own-told n i s l m low
            (cub-of n s.beat (subst (IsOfLife (lifetime_of c n)) is (life-told n i low within))) within (inr (k, is));
        whole_take = λ i s l m at cut is. own-told n i s l m low (cub-of n s.beat cut) (omega (arith, at, most)) (inl is);
        last_tick = λ i s now l m k at takes ticks. tick-otherwise n i s now l m k low (omega (arith, at, most)) takes ticks;
        sends = λ i k x at is. sends-told n i k x low (omega (arith, at, most)) is;
      }

  -- a death is in the beat of the death
  pub death-told : (n i : ℕ) → n < length given → i < g.count n → is_death (g.event n i) ≡ true
      → death_of c n ≡ Some (beat g n i)
  death-told n i low at died = by_event (g.event n i) refl died (life-told n i low at)
    where
      by_event : (e : NodeEvent M) → g.event n i ≡ e → is_death e ≡ true → IsOfLife (lifetime_of c n) e
          → death_of c n ≡ Some (beat g n i)
      by_event (Does (Take s k m)) is t lives = absurd (cc)
      by_event (Does (Tick s)) is t lives = absurd (cc)
      by_event (Ends x sends) is t lives =
          cut-in c n (stamp_at (Ends x sends)).beat lives ∙ ap (λ (e : NodeEvent M). Some (stamp_at e).beat) (sym is)
      by_event (Dies s) is t lives =
          (dies-in c n s.beat s.beat lives.1).0 ∙ ap (λ (e : NodeEvent M). Some (stamp_at e).beat) (sym is)
      by_event (Returns s) is t lives = absurd (cc)

  pub early-told : (n i : ℕ) → n < length given → i < g.count n → beat g n i < c.beats
  early-told n i low at =
      let b = beat-same note step h g are-alike n i at in
      let e = kept.lived.complete.early n (to n i) low (to-low n i at) in omega (arith, b, e)

  -- who has returned goes on to the end of the beats
  pub later-told : (n : ℕ) → n < length given → (u : ℕ) → u < g.count n → is_return (g.event n u) ≡ true
      → open_beat g n (g.count n) ≡ c.beats
  later-told n low u at back =
      let up : IsUp g n = λ i within died.
      (let e = one-death note step p (length given) g run-told n low i u within at died back in omega (arith, e, at)) in
      let t = up-to note step p (length given) h g are-alike run n low up in
      t.1 ∙ kept.lived.complete.until_end n low t.0

  -- who has died and not returned does not return in the beats of the run
  pub away-told : (n i : ℕ) → n < length given → (front n).at ≡ g.count n → i < g.count n → is_death (g.event n i) ≡ true
      → (back : ℕ) → back_of c n ≡ Some back → c.beats ≤ back
  away-told n i low all at died back is =
      let f = fate note step p (length given) h g are-alike run n low i at died in
      let end : i + 1 ≡ g.count n = ⊎_elim
      (λ (end : i + 1 ≡ g.count n). end)
      (λ (again : is_return (g.event n (i + 1)) ≡ true). ⊎_elim
      (λ (more : i + 1 < g.count n).
      let q : true ≡ false = sym again ∙ (front n).here (i + 1) (omega arith) (omega (arith, more, all)) in absurd (cc))
      (λ (over : g.count n ≤ i + 1). omega (arith, over, at))
      (cases_lt (i + 1) (g.count n)))
      (run-told.ended n i low at died) in
      let last_one : f.at + 1 ≡ h.count n = ⊎_elim
      (λ (same : (i < last n) × (f.at ≡ i)). ⊎_elim
      (λ (s : (g.count n ≡ h.count n) × (h.count n ≤ last n)). let a = s.0 in let b = same.1 in omega (arith, a, b, end))
      (λ (s : IsCut note step h g n (last n)).
      let inner = s.inside in let below_it = same.0 in absurd (omega (arith, inner, below_it, end)))
      (are-alike.each n).kind)
      (λ (cut : (i ≡ last n) × (f.at ≡ suc (last n)) × IsCut note step h g n (last n)).
      let a = cut.0 in let b = cut.1 in let size = cut.2.size in omega (arith, a, b, size, end))
      f.where_it_is in
      kept.lived.complete.comes_back n f.at back low last_one f.died
      (ap (λ (q : Lifetime). q.back) (later note step c given nodes journals kept.lived n f.at low).is ∙ is)

  -- ---- it may happen

  dies-told : (n i : ℕ) (s : Stamp) → i < g.count n → g.event n i ≡ Dies s → h.event n (to n i) ≡ Dies s
  dies-told n i s at is = ⊎_elim
      (λ (e : g.event n i ≡ h.event n (to n i)). sym e ∙ is)
      (λ e. let t : true ≡ false = ap is_cut (sym e.4 ∙ is) in absurd (cc))
      (beside note step h g are-alike n i at)
    where
      is_cut : NodeEvent M → Bool
      is_cut (Does x) = false
      is_cut (Ends x k) = true
      is_cut (Dies a) = false
      is_cut (Returns a) = false

  lives-told : (n : ℕ) → n < length given → LivesThrough h n → LivesThrough g n
  lives-told n low lives i at = ⊎_elim
      (λ (t : is_death (g.event n i) ≡ true).
      let f = fate note step p (length given) h g are-alike run n low i at t in
      let q : true ≡ false = sym f.died ∙ lives f.at f.low in absurd (cc))
      (λ (t : is_death (g.event n i) ≡ false). t)
      (cases_Bool (is_death (g.event n i)))

  pub may-told : IsPlace p (length given) c.beats → DieApart p (lifetime_of c) → MayHappen p (length given) c.beats g
  may-told place apart =
      let may = may-happen note step c given nodes journals kept.lived place apart in
      let beats = beat-same note step h g are-alike in
      record {
        early = λ n i low at.
            let b = beats n i at in
            let e = may.early n (to n i) low (to-low n i at) in omega (arith, b, e);
        cubs = λ n i low at died.
            let f = fate note step p (length given) h g are-alike run n low i at died in
            may.cubs n f.at low f.low f.died;
        idle = λ n j i stamp low before at is.
            let a = beats n j (omega (arith, before, at)) in
            let b = beats n i at in
            let less = old-strict (last n) j i before in
            let e = may.idle n (to n j) (to n i) stamp low less (to-low n i at) (dies-told n i stamp at is) in
            omega (arith, a, b, e);
        apart = λ cub low.
            let cubs = place.cubs in
            let next : (cub + 1) % p.cubs < p.cubs = mod-lt (cub + 1) (omega (arith, low)) in
            ⊎_elim
            (λ lives. inl (lives-told cub (omega (arith, low, cubs)) lives))
            (λ lives. inr (lives-told _ (omega (arith, next, cubs)) lives))
            (may.apart cub low);
      }

  -- ---- and the same is written

  -- the take and the tick are at one reading, since they come in one beat
  same-stamp : (n : ℕ) → n < length given → (s : IsCut note step h g n (last n)) → s.now ≡ s.stamp
  same-stamp n low s =
      let tick = tick-low note step p (length given) h g are-alike run n low s in
      let now : s.now.beat ≡ s.stamp.beat =
      sym (ap (λ (e : NodeEvent M). (stamp_at e).beat) s.ticks) ∙ beat-cut note step p (length given) h g are-alike run n low s
      ∙ ap (λ (e : NodeEvent M). (stamp_at e).beat) s.takes in
      let r : s.now.reading ≡ reading_of c n s.now.beat =
      sym (ap (λ (e : NodeEvent M). (stamp_at e).reading) s.ticks) ∙ kept.keeps.stamped n (suc (last n)) low tick
      ∙ ap (λ (e : NodeEvent M). reading_of c n (stamp_at e).beat) s.ticks in
      let q : s.stamp.reading ≡ reading_of c n s.stamp.beat =
      sym (ap (λ (e : NodeEvent M). (stamp_at e).reading) s.takes) ∙ kept.keeps.stamped n (last n) low (omega (arith, tick))
      ∙ ap (λ (e : NodeEvent M). reading_of c n (stamp_at e).beat) s.takes in
      stamp-same s.now s.stamp now (r ∙ ap (reading_of c n) now ∙ sym q)

  writes-cut : (n : ℕ) → n < length given → (s : IsCut note step h g n (last n))
      → (past note step g n (suc (last n))).journal ≡ (past note step h n (suc (suc (last n)))).journal
  unfolding after_input after_cut kept_outs left_outs
  writes-cut n low s =
      let x = past note step h n (last n) in
      let tick = tick-low note step p (length given) h g are-alike run n low s in
      let os = (step x.state (Take s.stamp s.link s.msg)).outs in
      let fair : AllByRecursion (IsAllowed note p n) os =
      subst (λ (e : NodeEvent M). AllByRecursion (IsAllowed note p n) (outs_of step e x)) s.takes
      (run.fair n (last n) low (omega (arith, tick))) in
      let first : Entry = record { stamp = s.stamp; what = what.Got s.link (note s.msg) } in
      let wrote = map (entry_of note s.stamp) os in
      let one : s.now ≡ s.stamp = same-stamp n low s in
      let mine : (past note step g n (suc (last n))).journal ≡ x.journal ++ first ∷ (wrote ++ (record { stamp = s.stamp; what = what.Died }) ∷ []) =
      ap (λ (e : NodeEvent M). (after note step e (past note step g n (last n))).journal) s.ends
      ∙ ap (λ (y : Past S). (after note step (Ends (Take s.stamp s.link s.msg) (send_count os)) y).journal)
      (past-same note step h g are-alike n (last n) (omega arith))
      ∙ ap (λ (q : List (Out M)). x.journal ++ first ∷ map (entry_of note s.stamp) (with_death q)) (left-all os)
      ∙ ap (λ (q : List (Out M)). x.journal ++ first ∷ map (entry_of note s.stamp) q) (death-behind note p n os fair)
      ∙ ap (λ q. x.journal ++ first ∷ q) (map-append (entry_of note s.stamp) os (out.Act what.Died ∷ [])) in
      let y = past note step h n (suc (last n)) in
      let took : y.journal ≡ x.journal ++ first ∷ wrote = ap (λ (e : NodeEvent M). (after note step e x).journal) s.takes in
      let theirs : (past note step h n (suc (suc (last n)))).journal
      ≡ (x.journal ++ first ∷ wrote) ++ (record { stamp = s.stamp; what = what.Died }) ∷ [] =
      ap (λ (e : NodeEvent M). (after note step e y).journal) s.ticks
      ∙ ap (λ (q : List (Out M)). y.journal ++ map (entry_of note s.now) (with_death q)) s.none
      ∙ ap (λ (t : Stamp). y.journal ++ (record { stamp = t; what = what.Died }) ∷ []) one
      ∙ ap (λ q. q ++ (record { stamp = s.stamp; what = what.Died }) ∷ []) took in
      mine ∙ sym (append_assoc x.journal (first ∷ wrote) ((record { stamp = s.stamp; what = what.Died }) ∷ [])) ∙ sym theirs

  -- behind it comes no other death
  writes-high : (n : ℕ) → n < length given → (s : IsCut note step h g n (last n)) → (i : ℕ) → suc (last n) ≤ i → i ≤ g.count n
      → (past note step g n i).journal ≡ (past note step h n (suc i)).journal
  writes-high n low s zero high at = absurd (omega (arith, high))
  writes-high n low s (suc i) high at = ⊎_elim
      (λ (is : last n ≡ i).
      subst (λ k. (past note step g n (suc k)).journal ≡ (past note step h n (suc (suc k))).journal) is (writes-cut n low s))
      (λ (other : last n ≡ i → ⊥).
      let more : last n < i = omega (arith, other, high) in
      let event = s.later i more (omega (arith, at)) in
      let size = s.size in
      let tick = tick-low note step p (length given) h g are-alike run n low s in
      let alive : is_death (h.event n (suc i)) ≡ false = ⊎_elim
      (λ (t : is_death (h.event n (suc i)) ≡ true).
      let same = run.once n (suc i) (suc (last n)) low (omega (arith, size, at)) tick t (ap is_death s.ticks) in
      absurd (omega (arith, same, more)))
      (λ (t : is_death (h.event n (suc i)) ≡ false). t)
      (cases_Bool (is_death (h.event n (suc i)))) in
      let outs = outs-high note step p (length given) h g are-alike run n low (forgotten n low) s i more (omega (arith, at)) in
      ap (λ (e : NodeEvent M). (after note step e (past note step g n i)).journal) event
      ∙ writes-outs note step (h.event n (suc i)) (past note step g n i) (past note step h n (suc i)) alive
      (writes-high n low s i (omega (arith, more)) (omega (arith, at)))
      (sym (ap (λ (e : NodeEvent M). outs_of step e (past note step g n i)) event) ∙ outs))
      (cases_eq (last n) i)

  pub writes-told : (n : ℕ) → n < length given → (last_of note step g n).journal ≡ (last_of note step h n).journal
  writes-told n low = ⊎_elim
      (λ (s : (g.count n ≡ h.count n) × (h.count n ≤ last n)).
      ap (λ (k : ℕ). (past note step g n k).journal) s.0
      ∙ ap (λ (x : Past S). x.journal) (past-same note step h g are-alike n (h.count n) s.1))
      (λ (s : IsCut note step h g n (last n)).
      writes-high n low s (g.count n) s.inside (omega arith)
      ∙ sym (ap (λ (k : ℕ). (past note step h n k).journal) s.size))
      (are-alike.each n).kind

  -- each event is at what its node's clock shows
  pub stamped-told : (n i : ℕ) → n < length given → i < g.count n → (stamp_at (g.event n i)).reading ≡ reading_of c n (stamp_at (g.event n i)).beat
  stamped-told n i low at =
      let b = beat-same note step h g are-alike n i at in
      let r = reading-same note step h g are-alike n i at in
      r ∙ kept.keeps.stamped n (to n i) low (to-low n i at) ∙ ap (reading_of c n) (sym b)
