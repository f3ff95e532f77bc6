-- The worked history in which one node's death comes in the middle of a step and another node returns.
use Rattle.std.proofs.Common.{◌≡◌, ℕ, zero, suc, ◌+◌, ◌<◌, ◌≤◌, List, [], ◌∷◌, length, true, false, Option, Some}
use Rattle.std.proofs.Common.{None, cond, refl, ap, sym, ◌∙◌, subst, arith, ⊎_elim, inl, inr}
use Rattle.std.specs.Prelude.{slice_get, ◌==◌, ◌⊎◌}
use Rattle.std.specs.List.{AllByRecursion}
use Rattle.std.proofs.Math.Nat.{mul-le-mul_right}
use Rattle.std.proofs.lemmas.Bool.{cases_Bool, eqb-true, false≢true}
use Rattle.std.proofs.lemmas.Option.{none-some}
use Rattle.tiger_base.specs.declared.number.Stamp.{Stamp}
use Rattle.tiger_base.specs.declared.number.LinkNo.{LinkNo}
use Rattle.slot_plan.specs.declared.params.Params.{Params}
use Rattle.slot_plan.specs.Times.{time_of}
use Rattle.node_kit.specs.Life.{acts, dies, returns, cut_to}
use Rattle.node_kit.specs.Links.{links_of, ends_of, IsOutLink}
use Rattle.node_kit.specs.declared.outbox.Out.TheVariants.{Send}
use Rattle.node_kit.specs.Steps.{Input, IsAllowed}
use Rattle.node_kit.specs.Steps.Input.{Take, Tick}
use Rattle.run_facts.specs.Accounts.{AreCounted, IsWhole, event_at, input_in, IsClockOf}
use Rattle.run_facts.specs.Events.{NodeEvent, Past, Dated, after_input, after_cut, kept_outs, left_outs, event_of}
use Rattle.run_facts.specs.Events.{opening, outs_of, stamp_at, is_death, is_return, AreFair}
use Rattle.run_facts.specs.Events.NodeEvent.{Does, Ends, Dies, Returns}
use Rattle.run_facts.specs.Histories.{History, TakesAt, IsUp, CameOn, IsBack, IsRun, IsComplete, past, beat, open_beat}
use Rattle.run_facts.specs.Histories.{place, sent, below}
use Rattle.run_facts.specs.Returning.{IsPair, IsCompleteRun, told, way, sends_two, at, ticks_at, takes_at, lives}
use Rattle.run_facts.specs.Returning.{firsts, lost, events_of, ender, returner, ends_and_returns, returns_at_once}
use Rattle.run_facts.specs.Returning.{takes_what_was_lost, ends_whole, sends_one_more, goes_on_behind_its_end}
use Rattle.run_facts.proofs.Indexed.{all-at, rising-at, counted-at, fair-at, open-front, past-front}
use Rattle.run_facts.proofs.Keeping.{take-input}
use Rattle.run_facts.proofs.Timelines.{rising-counted}

-- the clock of both nodes shows the true time
true-time : (p : Params) → IsClockOf p (at p)
unfolding time_of
true-time p = record {
  dated = λ b. refl;
  low = λ b. omega arith;
  high = λ b. omega arith;
  grows = λ a b h. mul-le-mul_right {m = a} {n = b} p.beat h;
}

module _ (p : Params) (pair : IsPair p) where
  abbrev es : ℕ → List (NodeEvent ℕ)
  es = events_of (ender p (ticks_at p 3) (Ends (Tick (at p 4)) 1)) (returner p (Returns (at p 3)) (takes_at p 4 3))

  abbrev h : History ℕ ℕ
  h = ends_and_returns p

  counted : (n : ℕ) → AreCounted 0 (es n)
  counted zero = (refl, (refl, (refl, (refl, (refl, tt)))))
  counted (suc n) =
      let back : 1 ≤ 3 = omega arith in
      (refl, (refl, (back, (refl, (refl, (refl, (refl, tt)))))))

  stamped : (n : ℕ) → AllByRecursion (λ e. stamp_at e ≡ at p (stamp_at e).beat) (es n)
  stamped zero = (refl, (refl, (refl, (refl, (refl, tt)))))
  stamped (suc n) = (refl, (refl, (refl, (refl, (refl, (refl, (refl, tt)))))))

  early : (n : ℕ) → AllByRecursion (λ e. (stamp_at e).beat < 5) (es n)
  early zero =
      let a : 0 < 5 = omega arith in
      let b : 1 < 5 = omega arith in
      let c : 2 < 5 = omega arith in
      let d : 3 < 5 = omega arith in
      let e : 4 < 5 = omega arith in
      (a, (b, (c, (d, (e, tt)))))
  early (suc n) =
      let a : 0 < 5 = omega arith in
      let b : 1 < 5 = omega arith in
      let d : 3 < 5 = omega arith in
      let e : 4 < 5 = omega arith in
      (a, (b, (d, (d, (e, (e, (e, tt)))))))

  -- where the death and the return stand
  abbrev death_at : ℕ → ℕ
  death_at zero = 4
  death_at (suc n) = 1

  death-place : (n i : ℕ) → i < length (es n) → is_death (event_at (es n) i) ≡ true → i ≡ death_at n
  death-place zero zero low died = absurd (false≢true died)
  death-place zero (suc zero) low died = absurd (false≢true died)
  death-place zero (suc (suc zero)) low died = absurd (false≢true died)
  death-place zero (suc (suc (suc zero))) low died = absurd (false≢true died)
  death-place zero (suc (suc (suc (suc zero)))) low died = refl
  death-place zero (suc (suc (suc (suc (suc i))))) low died = absurd (omega (arith, low))
  death-place (suc n) zero low died = absurd (false≢true died)
  death-place (suc n) (suc zero) low died = refl
  death-place (suc n) (suc (suc zero)) low died = absurd (false≢true died)
  death-place (suc n) (suc (suc (suc zero))) low died = absurd (false≢true died)
  death-place (suc n) (suc (suc (suc (suc zero)))) low died = absurd (false≢true died)
  death-place (suc n) (suc (suc (suc (suc (suc zero))))) low died = absurd (false≢true died)
  death-place (suc n) (suc (suc (suc (suc (suc (suc zero)))))) low died = absurd (false≢true died)
  death-place (suc n) (suc (suc (suc (suc (suc (suc (suc i))))))) low died = absurd (omega (arith, low))

  back-of : (n i : ℕ) → n < 2 → i < length (es n) → is_return (event_at (es n) i) ≡ true → (n ≡ 1) × (i ≡ 2)
  back-of zero zero known low back = absurd (false≢true back)
  back-of zero (suc zero) known low back = absurd (false≢true back)
  back-of zero (suc (suc zero)) known low back = absurd (false≢true back)
  back-of zero (suc (suc (suc zero))) known low back = absurd (false≢true back)
  back-of zero (suc (suc (suc (suc zero)))) known low back = absurd (false≢true back)
  back-of zero (suc (suc (suc (suc (suc i))))) known low back = absurd (omega (arith, low))
  back-of (suc n) zero known low back = absurd (false≢true back)
  back-of (suc n) (suc zero) known low back = absurd (false≢true back)
  back-of (suc n) (suc (suc zero)) known low back = (omega (arith, known), refl)
  back-of (suc n) (suc (suc (suc zero))) known low back = absurd (false≢true back)
  back-of (suc n) (suc (suc (suc (suc zero)))) known low back = absurd (false≢true back)
  back-of (suc n) (suc (suc (suc (suc (suc zero))))) known low back = absurd (false≢true back)
  back-of (suc n) (suc (suc (suc (suc (suc (suc zero)))))) known low back = absurd (false≢true back)
  back-of (suc n) (suc (suc (suc (suc (suc (suc (suc i))))))) known low back = absurd (omega (arith, low))

  returned : (n i : ℕ) → n < 2 → i < length (es n) → is_return (h.event n i) ≡ true → IsBack h n i
  returned n i known low back =
      let place = back-of n i known low back in
      subst (λ m. IsBack h m i) (sym place.0) (subst (λ j. IsBack h 1 j) (sym place.1)
      (record { last = 1; next = refl; died = refl; apart = (let q : 1 + 2 ≤ 3 = omega arith in q) }))

  in-beat : (n i : ℕ) → i < length (es n) → is_return (h.event n i) ≡ false → beat h n i ≡ open_beat h n i
  in-beat n i low here =
      counted-at 0 (es n) i low (counted n) here ∙ sym (open-front firsts lives lost es n i (omega (arith, low)))

  stamp-of : (n i : ℕ) → i < length (es n) → stamp_at (h.event n i) ≡ at p (beat h n i)
  stamp-of n i low = all-at (λ e. stamp_at e ≡ at p (stamp_at e).beat) (es n) i low (stamped n)

  reads : (n i : ℕ) → i < length (es n)
      → (time_of p (beat h n i) ≤ (stamp_at (h.event n i)).reading)
      × ((stamp_at (h.event n i)).reading ≤ time_of p (beat h n i) + p.skew)
  reads n i low =
      let shown = ap (λ (s : Stamp). s.reading) (stamp-of n i low) in
      (omega (arith, shown), omega (arith, shown))

  rises : (n j i : ℕ) → j ≤ i → i < length (es n) → (stamp_at (h.event n j)).reading ≤ (stamp_at (h.event n i)).reading
  rises n j i before low =
      let beats = rising-at (λ e. (stamp_at e).beat) (es n) j i before low (rising-counted 0 (es n) (counted n)).1 in
      let one = ap (λ (s : Stamp). s.reading) (stamp-of n j (omega (arith, before, low))) in
      let two = ap (λ (s : Stamp). s.reading) (stamp-of n i low) in
      let grows = (true-time p).grows (beat h n j) (beat h n i) beats in
      omega (arith, one, two, grows)

  level : (n m i : ℕ) → i < length (es n) → IsUp h m → beat h n i ≤ open_beat h m (h.count m)
  level n zero i low up = let more : 5 < 5 = up 4 (omega arith) refl in absurd (omega (arith, more))
  level n (suc m) i low up =
      let below_end = all-at (λ e. (stamp_at e).beat < 5) (es n) i low (early n) in
      let end : open_beat h (suc m) (h.count (suc m)) ≡ 5 = refl in
      omega (arith, below_end, end)

  ended : (n i : ℕ) → i < length (es n) → is_death (h.event n i) ≡ true
      → (i + 1 ≡ h.count n) ⊎ (is_return (h.event n (i + 1)) ≡ true)
  ended zero i low died = let place = death-place zero i low died in inl (omega (arith, place))
  ended (suc n) i low died =
      let place : i ≡ 1 = death-place (suc n) i low died in
      inr (ap (λ j. is_return (event_at (es (suc n)) (j + 1))) place)

  once : (n j i : ℕ) → j < length (es n) → i < length (es n) → is_death (h.event n j) ≡ true
      → is_death (h.event n i) ≡ true
      → j ≡ i
  once n j i lower low dj di = death-place n j lower dj ∙ sym (death-place n i low di)

  -- what goes out
  fair : (n : ℕ) → n < 2 → AreFair told sends_two p n (es n) (opening (firsts n) (lives n))
  unfolding kept_outs left_outs after_input after_cut
  fair zero known =
      let out : IsOutLink p 0 24 = (1, pair.ends) in
      let both : AllByRecursion (IsAllowed told p 0) (Send way 0 ∷ Send way 0 ∷ []) =
      ((out, refl), ((out, refl), tt)) in
      (both, (both, (both, (both, (((out, refl), tt), tt)))))
  fair (suc n) known = (tt, (tt, (tt, (tt, (tt, (tt, (tt, tt)))))))

  -- what is sent on the link, and on no other
  on-link : sent told sends_two 24 h 0 5 ≡
      (record { beat = 0; item = 0 }) ∷ (record { beat = 0; item = 10 }) ∷ (record { beat = 1; item = 1 })
      ∷ (record { beat = 1; item = 11 }) ∷ (record { beat = 2; item = 2 }) ∷ (record { beat = 2; item = 12 })
      ∷ (record { beat = 3; item = 3 }) ∷ (record { beat = 3; item = 13 }) ∷ (record { beat = 4; item = 4 }) ∷ []
  unfolding kept_outs left_outs after_input after_cut
  on-link = refl

  elsewhere : (l : ℕ) → (24 == l) ≡ false → sent told sends_two l h 0 5 ≡ []
  unfolding kept_outs left_outs after_input after_cut
  elsewhere l other = rw other refl

  nothing : (l n : ℕ) → sent told sends_two l h (suc n) 7 ≡ []
  unfolding kept_outs left_outs after_input after_cut
  nothing l n = refl

  -- what is taken
  abbrev CameAs : ℕ → Input ℕ → Type 0
  CameAs i (Take stamp link msg) = CameOn told sends_two p 2 h 1 link.0 (place link.0 h 1 i) stamp.beat msg
  CameAs i (Tick stamp) = Unit {0}

  first-came : CameOn told sends_two p 2 h 1 24 (place 24 h 1 4) 4 3
  first-came =
      let delay = pair.delay in
      record {
        from = 0;
        known = omega arith;
        ends = pair.ends;
        when = 3;
        was_sent = ap (λ ds. slice_get ds 6) on-link;
        later = omega arith;
        soon = omega (arith, delay);
      }

  second-came : CameOn told sends_two p 2 h 1 24 (place 24 h 1 5) 4 13
  second-came =
      let delay = pair.delay in
      record {
        from = 0;
        known = omega arith;
        ends = pair.ends;
        when = 3;
        was_sent = ap (λ ds. slice_get ds 7) on-link;
        later = omega arith;
        soon = omega (arith, delay);
      }

  -- an event takes a message if its input does
  took : (n i : ℕ) (stamp : Stamp) (link : LinkNo) (msg : ℕ) → TakesAt (h.event n i) stamp link msg
      → input_in (h.event n i) ≡ Some (Take stamp link msg)
  took n i stamp link msg takes = take-input (h.event n i) stamp link msg takes

  tick-takes : (now stamp : Stamp) (link : LinkNo) (msg : ℕ) → Some (Tick now) ≡ Some (Take stamp link msg) → ⊥
  tick-takes now stamp link msg is = absurd (cc)

  none-takes : (stamp : Stamp) (link : LinkNo) (msg : ℕ) → None ≡ Some (Take stamp link msg) → ⊥
  none-takes stamp link msg is = absurd (cc)

  take-same : (now stamp : Stamp) (way_in link : LinkNo) (one msg : ℕ)
      → Some (Take now way_in one) ≡ Some (Take stamp link msg) → Take now way_in one ≡ Take stamp link msg
  take-same now stamp way_in link one msg is = cc

  came : (n i : ℕ) (stamp : Stamp) (link : LinkNo) (msg : ℕ) → n < 2 → i < length (es n)
      → input_in (h.event n i) ≡ Some (Take stamp link msg)
      → CameOn told sends_two p 2 h n link.0 (place link.0 h n i) stamp.beat msg
  came zero zero stamp link msg known low is = absurd (tick-takes (at p 0) stamp link msg is)
  came zero (suc zero) stamp link msg known low is = absurd (tick-takes (at p 1) stamp link msg is)
  came zero (suc (suc zero)) stamp link msg known low is = absurd (tick-takes (at p 2) stamp link msg is)
  came zero (suc (suc (suc zero))) stamp link msg known low is = absurd (tick-takes (at p 3) stamp link msg is)
  came zero (suc (suc (suc (suc zero)))) stamp link msg known low is = absurd (tick-takes (at p 4) stamp link msg is)
  came zero (suc (suc (suc (suc (suc i))))) stamp link msg known low is = absurd (omega (arith, low))
  came (suc zero) zero stamp link msg known low is = absurd (tick-takes (at p 0) stamp link msg is)
  came (suc zero) (suc zero) stamp link msg known low is = absurd (none-takes stamp link msg is)
  came (suc zero) (suc (suc zero)) stamp link msg known low is = absurd (none-takes stamp link msg is)
  came (suc zero) (suc (suc (suc zero))) stamp link msg known low is = absurd (tick-takes (at p 3) stamp link msg is)
  came (suc zero) (suc (suc (suc (suc zero)))) stamp link msg known low is =
      subst (CameAs 4) (take-same (at p 4) stamp way link 3 msg is) first-came
  came (suc zero) (suc (suc (suc (suc (suc zero))))) stamp link msg known low is =
      subst (CameAs 5) (take-same (at p 4) stamp way link 13 msg is) second-came
  came (suc zero) (suc (suc (suc (suc (suc (suc zero)))))) stamp link msg known low is =
      absurd (tick-takes (at p 4) stamp link msg is)
  came (suc zero) (suc (suc (suc (suc (suc (suc (suc i))))))) stamp link msg known low is = absurd (omega (arith, low))
  came (suc (suc n)) i stamp link msg known low is = absurd (omega (arith, known))

  -- what is sent in time is taken, or lost by the return
  sent-early : (k when : ℕ) (msg : ℕ)
      → slice_get (sent told sends_two 24 h 0 5) k ≡ Some (record { beat = when; item = msg })
      → when < 4 → k < 8
  sent-early k when msg was soon = by k (ap (λ ds. slice_get ds k) (sym on-link) ∙ was)
    where
      by : (k : ℕ) → slice_get {X = Dated ℕ} (
          (record { beat = 0; item = 0 }) ∷ (record { beat = 0; item = 10 }) ∷ (record { beat = 1; item = 1 })
          ∷ (record { beat = 1; item = 11 }) ∷ (record { beat = 2; item = 2 }) ∷ (record { beat = 2; item = 12 })
          ∷ (record { beat = 3; item = 3 }) ∷ (record { beat = 3; item = 13 }) ∷ (record { beat = 4; item = 4 }) ∷ []) k
          ≡ Some (record { beat = when; item = msg }) → k < 8
      by zero e = omega arith
      by (suc zero) e = omega arith
      by (suc (suc zero)) e = omega arith
      by (suc (suc (suc zero))) e = omega arith
      by (suc (suc (suc (suc zero)))) e = omega arith
      by (suc (suc (suc (suc (suc zero))))) e = omega arith
      by (suc (suc (suc (suc (suc (suc zero)))))) e = omega arith
      by (suc (suc (suc (suc (suc (suc (suc zero))))))) e = omega arith
      by (suc (suc (suc (suc (suc (suc (suc (suc zero)))))))) e =
          let late : 4 ≡ when = ap (λ (o : Option (Dated ℕ)). (elim o as (λ _. ℕ) [ Some d ↦ d.beat | None ↦ 4 ])) e in
          absurd (omega (arith, soon, late))
      by (suc (suc (suc (suc (suc (suc (suc (suc (suc k))))))))) e =
          absurd (none-some (record { beat = when; item = msg }) e)

  -- the ends of the link, and of any other
  to-other : (l from n : ℕ) → (24 == l) ≡ true → ends_of (links_of p) l ≡ Some (from, n) → (from ≡ 0) × (n ≡ 1)
  to-other l from n e ends =
      let same : 24 ≡ l = eqb-true _ _ e in
      let both : Some (0, 1) ≡ Some (from, n) = sym pair.ends ∙ ap (ends_of (links_of p)) same ∙ ends in (
        sym (ap (λ o. (elim o as (λ _. ℕ) [ Some q ↦ q.0 | None ↦ 0 ])) both),
        sym (ap (λ o. (elim o as (λ _. ℕ) [ Some q ↦ q.1 | None ↦ 1 ])) both),
      )

  -- nothing is sent on another link
  unsent : (l from : ℕ) → (24 == l) ≡ false → from < 2 → sent told sends_two l h from (h.count from) ≡ []
  unsent l zero e known = elsewhere l e
  unsent l (suc n) e known = nothing l n

  arrives : (l from n k when msg : ℕ) → from < 2 → n < 2 → ends_of (links_of p) l ≡ Some (from, n)
      → slice_get (sent told sends_two l h from (h.count from)) k ≡ Some (record { beat = when; item = msg })
      → when + p.delay < open_beat h n (h.count n) → k < place l h n (h.count n)
  arrives l from n k when msg sender known ends was due = ⊎_elim
      (λ (e : (24 == l) ≡ true).
      let both = to-other l from n e ends in
      let same : l ≡ 24 = sym (eqb-true _ _ e) in
      let delay = pair.delay in
      let was_there : slice_get (sent told sends_two 24 h 0 5) k ≡ Some (record { beat = when; item = msg }) =
      subst (λ m. slice_get (sent told sends_two 24 h m (h.count m)) k ≡ Some (record { beat = when; item = msg }))
      both.0
      (subst (λ m. slice_get (sent told sends_two m h from (h.count from)) k ≡ Some
      (record { beat = when; item = msg })) same was) in
      let soon : when + p.delay < 5 = subst (λ m. when + p.delay < open_beat h m (h.count m)) both.1 due in
      let taken : k < place 24 h 1 7 = sent-early k when msg was_there (omega (arith, soon, delay)) in
      subst (λ m. k < place l h m (h.count m)) (sym both.1) (subst (λ m. k < place m h 1 7) (sym same) taken))
      (λ (e : (24 == l) ≡ false).
      absurd (none-some (record { beat = when; item = msg }) (sym (ap (λ ds. slice_get ds k) (unsent l from e sender))
      ∙ was)))
      (cases_Bool (24 == l))

  -- nothing comes to the second node in the one beat that it ends before its return
  in-time : (l from n i k when msg : ℕ) → from < 2 → n < 2 → ends_of (links_of p) l ≡ Some (from, n)
      → i < length (es n) → is_return (h.event n i) ≡ true
      → slice_get (sent told sends_two l h from (h.count from)) k ≡ Some (record { beat = when; item = msg })
      → when + p.delay < open_beat h n i → k < place l h n i
  in-time l from n i k when msg sender known ends low back was due =
      let there = back-of n i known low back in
      let delay = pair.delay in
      let soon : when + p.delay < open_beat h 1 2 =
      subst (λ m. when + p.delay < open_beat h m 2) there.0 (subst (λ j. when + p.delay < open_beat h n j) there.1 due) in
      let one : open_beat h 1 2 ≡ 1 = refl in
      absurd (omega (arith, soon, one, delay))

  before : (l from n i : ℕ) (stamp : Stamp) → from < 2 → n < 2 → ends_of (links_of p) l ≡ Some (from, n)
      → i < length (es n)
      → h.event n i ≡ Returns stamp → h.before l ≡ below stamp.beat (sent told sends_two l h from (h.count from))
  before l from n i stamp sender known ends low is =
      let place = back-of n i known low (ap is_return is) in
      let here : Returns (at p 3) ≡ Returns stamp =
      subst (λ m. h.event m 2 ≡ Returns stamp) place.0 (subst (λ j. h.event n j ≡ Returns stamp) place.1 is) in
      let beat_is : 3 ≡ stamp.beat = ap (λ (e : NodeEvent ℕ). (stamp_at e).beat) here in
      subst (λ b. lost l ≡ below b (sent told sends_two l h from (h.count from))) beat_is (⊎_elim
      (λ (e : (24 == l) ≡ true).
      let both = to-other l from n e ends in
      let same : l ≡ 24 = sym (eqb-true _ _ e) in
      let there : lost 24 ≡ below 3 (sent told sends_two 24 h 0 5) = ap (below 3) (sym on-link) in
      subst (λ m. lost l ≡ below 3 (sent told sends_two l h m (h.count m))) (sym both.0)
      (subst (λ m. lost m ≡ below 3 (sent told sends_two m h 0 5)) (sym same) there))
      (λ (e : (24 == l) ≡ false). ap (λ b. cond b 6 0) e ∙ ap (below 3) (sym (unsent l from e sender)))
      (cases_Bool (24 == l)))

  run : IsRun told sends_two p 2 h
  run = record {
    in_beat = λ n i known low here. in-beat n i low here;
    returned = returned;
    reads = λ n i known low. reads n i low;
    rising = λ n j i known before_it low. rises n j i before_it low;
    level = λ n m i known other low up. level n m i low up;
    ended = λ n i known low died. ended n i low died;
    once = λ n j i known lower low dj di. once n j i lower low dj di;
    fair = λ n i known low.
        subst (λ (s : Past ℕ). AllByRecursion (IsAllowed told p n) (outs_of sends_two (h.event n i) s))
        (sym (past-front told sends_two firsts lives lost es n i (omega (arith, low))))
        (fair-at told sends_two p n (es n) (opening (firsts n) (lives n)) i low (fair n known));
    carried = λ n i stamp link msg known low takes. came n i stamp link msg known low (took n i stamp link msg takes);
    arrives = arrives;
    in_time = in-time;
    before = before;
  }

  -- each event is as its node's life has it
  acting : (n i : ℕ) → n < 2 → i < length (es n) → (input_in (h.event n i) ≡ None → ⊥)
      → acts (past told sends_two h n i).life (beat h n i) ≡ true
  unfolding acts kept_outs left_outs after_input after_cut
  acting zero zero known low steps = refl
  acting zero (suc zero) known low steps = refl
  acting zero (suc (suc zero)) known low steps = refl
  acting zero (suc (suc (suc zero))) known low steps = refl
  acting zero (suc (suc (suc (suc zero)))) known low steps = refl
  acting zero (suc (suc (suc (suc (suc i))))) known low steps = absurd (omega (arith, low))
  acting (suc n) zero known low steps = refl
  acting (suc n) (suc zero) known low steps = absurd (steps refl)
  acting (suc n) (suc (suc zero)) known low steps = absurd (steps refl)
  acting (suc n) (suc (suc (suc zero))) known low steps = refl
  acting (suc n) (suc (suc (suc (suc zero)))) known low steps = refl
  acting (suc n) (suc (suc (suc (suc (suc zero))))) known low steps = refl
  acting (suc n) (suc (suc (suc (suc (suc (suc zero)))))) known low steps = refl
  acting (suc n) (suc (suc (suc (suc (suc (suc (suc i))))))) known low steps = absurd (omega (arith, low))

  whole : (n i : ℕ) → n < 2 → i < length (es n) → IsWhole sends_two (h.event n i) (past told sends_two h n i)
  unfolding cut_to event_of kept_outs left_outs after_input after_cut
  whole zero zero known low = refl
  whole zero (suc zero) known low = refl
  whole zero (suc (suc zero)) known low = refl
  whole zero (suc (suc (suc zero))) known low = refl
  whole zero (suc (suc (suc (suc zero)))) known low = refl
  whole zero (suc (suc (suc (suc (suc i))))) known low = absurd (omega (arith, low))
  whole (suc n) zero known low = refl
  whole (suc n) (suc zero) known low = tt
  whole (suc n) (suc (suc zero)) known low = tt
  whole (suc n) (suc (suc (suc zero))) known low = refl
  whole (suc n) (suc (suc (suc (suc zero)))) known low = refl
  whole (suc n) (suc (suc (suc (suc (suc zero))))) known low = refl
  whole (suc n) (suc (suc (suc (suc (suc (suc zero)))))) known low = refl
  whole (suc n) (suc (suc (suc (suc (suc (suc (suc i))))))) known low = absurd (omega (arith, low))

  -- the one death apart from a step, and the return
  dead-there : (acts (past told sends_two h 1 1).life 1 ≡ false) × (dies (past told sends_two h 1 1).life 1 ≡ true)
  unfolding acts dies after_input
  dead-there = (refl, refl)

  back-there : returns (past told sends_two h 1 2).life 3 ≡ true
  unfolding returns after_input
  back-there = refl

  dying : (n i : ℕ) (stamp : Stamp) → n < 2 → i < length (es n) → h.event n i ≡ Dies stamp
      → (acts (past told sends_two h n i).life stamp.beat ≡ false)
      × (dies (past told sends_two h n i).life stamp.beat ≡ true)
  dying zero i stamp known low is =
      let place = death-place zero i low (ap is_death is) in
      let there : Ends (Tick (at p 4)) 1 ≡ Dies stamp = subst (λ j. h.event 0 j ≡ Dies stamp) place is in absurd (cc)
  dying (suc zero) i stamp known low is =
      let place = death-place 1 i low (ap is_death is) in
      let there : Dies (at p 1) ≡ Dies stamp = subst (λ j. h.event 1 j ≡ Dies stamp) place is in
      let beat_is : 1 ≡ stamp.beat = ap (λ (e : NodeEvent ℕ). (stamp_at e).beat) there in
      subst (λ j. (acts (past told sends_two h 1 j).life stamp.beat ≡ false)
      × (dies (past told sends_two h 1 j).life stamp.beat ≡ true))
      (sym place)
      (subst (λ b. (acts (past told sends_two h 1 1).life b ≡ false) × (dies (past told sends_two h 1 1).life b ≡ true))
      beat_is dead-there)
  dying (suc (suc n)) i stamp known low is = absurd (omega (arith, known))

  returning : (n i : ℕ) (stamp : Stamp) → n < 2 → i < length (es n) → h.event n i ≡ Returns stamp
      → returns (past told sends_two h n i).life stamp.beat ≡ true
  returning n i stamp known low is =
      let place = back-of n i known low (ap is_return is) in
      let there : Returns (at p 3) ≡ Returns stamp =
      subst (λ m. h.event m 2 ≡ Returns stamp) place.0 (subst (λ j. h.event n j ≡ Returns stamp) place.1 is) in
      let beat_is : 3 ≡ stamp.beat = ap (λ (e : NodeEvent ℕ). (stamp_at e).beat) there in
      subst (λ m. returns (past told sends_two h m i).life stamp.beat ≡ true) (sym place.0)
      (subst (λ j. returns (past told sends_two h 1 j).life stamp.beat ≡ true) (sym place.1)
      (subst (λ b. returns (past told sends_two h 1 2).life b ≡ true) beat_is back-there))

  ends-at : (n : ℕ) → n < 2 → IsUp h n → open_beat h n (h.count n) ≡ 5
  ends-at zero known up = let more : 5 < 5 = up 4 (omega arith) refl in absurd (omega (arith, more))
  ends-at (suc n) known up = refl

  never-back : (past told sends_two h 0 4).life.back ≡ None
  unfolding after_input
  never-back = refl

  comes-back : (n i back : ℕ) → n < 2 → i + 1 ≡ h.count n → is_death (h.event n i) ≡ true
      → (past told sends_two h n i).life.back ≡ Some back → 5 ≤ back
  comes-back zero i back known last died is =
      let place = death-place zero i (omega (arith, last)) died in
      let none = subst (λ j. (past told sends_two h 0 j).life.back ≡ Some back) place is in
      let q : None ≡ Some back = sym never-back ∙ none in absurd (cc)
  comes-back (suc n) i back known last died is =
      let place = death-place (suc n) i (omega (arith, last)) died in absurd (omega (arith, last, place))

  complete : IsComplete told sends_two 2 5 h
  complete = record {
    early = λ n i known low. all-at (λ e. (stamp_at e).beat < 5) (es n) i low (early n);
    acting = λ n i input known low is. (
      acting n i known low (λ none. let q : Some input ≡ None = sym (ap input_in is) ∙ none in absurd (cc)),
      subst (λ (e : NodeEvent ℕ). IsWhole sends_two e (past told sends_two h n i)) is (whole n i known low),
    );
    ending = λ n i sends input known low is. (
      acting n i known low (λ none. let q : Some input ≡ None = sym (ap input_in is) ∙ none in absurd (cc)),
      subst (λ (e : NodeEvent ℕ). IsWhole sends_two e (past told sends_two h n i)) is (whole n i known low),
    );
    dying = dying;
    returning = returning;
    until_end = ends-at;
    comes_back = comes-back;
  }

  pub ends_and_returns-holds : IsCompleteRun p h
  ends_and_returns-holds = (run, complete)

-- the return comes too early
pub returns_at_once-fails : (p : Params) → IsPair p → IsCompleteRun p (returns_at_once p) → ⊥
returns_at_once-fails p pair both =
    let back = both.0.returned 1 2 (omega arith) (omega arith) refl in
    let next = back.next in
    let last : back.last ≡ 1 = omega (arith, next) in
    let apart : 1 + 2 ≤ 2 = subst (λ j. beat (returns_at_once p) 1 j + 2 ≤ 2) last back.apart in
    omega (arith, apart)

-- the message of that number is another one
pub takes_what_was_lost-fails : (p : Params) → IsPair p → IsCompleteRun p (takes_what_was_lost p) → ⊥
unfolding kept_outs left_outs after_input after_cut
takes_what_was_lost-fails p pair both =
    let h = takes_what_was_lost p in
    let came = both.0.carried 1 4 (at p 4) way 2 (omega arith) (omega arith) (inl refl) in
    let ends : Some (0, 1) ≡ Some (came.from, 1) = sym pair.ends ∙ came.ends in
    let from_is : came.from ≡ 0 = sym (ap (λ o. (elim o as (λ _. ℕ) [ Some q ↦ q.0 | None ↦ 0 ])) ends) in
    let was : slice_get (sent told sends_two 24 h 0 5) 6 ≡ Some (record { beat = came.when; item = 2 }) =
    subst (λ m. slice_get (sent told sends_two 24 h m (h.count m)) 6 ≡ Some (record { beat = came.when; item = 2 }))
    from_is came.was_sent in
    let item : 3 ≡ 2 = ap (λ (o : Option (Dated ℕ)). (elim o as (λ _. ℕ) [ Some d ↦ d.item | None ↦ 3 ])) was in
    omega (arith, item)

-- its life has the death come in the last step, of which one message goes out
pub ends_whole-fails : (p : Params) → IsPair p → IsCompleteRun p (ends_whole p) → ⊥
unfolding cut_to event_of kept_outs left_outs after_input after_cut
ends_whole-fails p pair both =
    let as_lived = (both.1.acting 0 4 (Tick (at p 4)) (omega arith) (omega arith) refl).1 in
    let q : Ends (Tick (at p 4)) 1 ≡ Does (Tick (at p 4)) = as_lived in absurd (cc)

abbrev sends_in : NodeEvent ℕ → ℕ
sends_in (Does i) = 0
sends_in (Ends i k) = k
sends_in (Dies stamp) = 0
sends_in (Returns stamp) = 0

pub sends_one_more-fails : (p : Params) → IsPair p → IsCompleteRun p (sends_one_more p) → ⊥
unfolding cut_to event_of kept_outs left_outs after_input after_cut
sends_one_more-fails p pair both =
    let as_lived = (both.1.ending 0 4 2 (Tick (at p 4)) (omega arith) (omega arith) refl).1 in
    let q : Ends (Tick (at p 4)) 1 ≡ Ends (Tick (at p 4)) 2 = as_lived in
    let count : 1 ≡ 2 = ap (λ (e : NodeEvent ℕ). sends_in e) q in
    omega (arith, count)

-- behind a death nothing comes but a return
pub goes_on_behind_its_end-fails : (p : Params) → IsPair p → IsCompleteRun p (goes_on_behind_its_end p) → ⊥
goes_on_behind_its_end-fails p pair both = ⊎_elim
    (λ (e : 3 + 1 ≡ 5). omega (arith, e))
    (λ (back : false ≡ true). false≢true back)
    (both.0.ended 0 3 (omega arith) (omega arith) refl)
