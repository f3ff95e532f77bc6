-- The entries of a node that has any life: at readings of its clock, none below the one before it, and Died exactly
-- where
-- its death is.
use Rattle.std.proofs.Common.{◌≡◌, ℕ, ◌<◌, ◌≤◌, List, [], ◌∷◌, ◌++◌, Bool, true, false, Option, Some, None, refl, ap}
use Rattle.std.proofs.Common.{sym, ◌∙◌, subst, cond, arith, append_assoc, ⊎_elim}
use Rattle.std.specs.Prelude.{nat_lt, nat_le, ◌==◌, ◌&&◌, ◌||◌, is_some}
use Rattle.std.specs.List.{AllByRecursion}
use Rattle.std.proofs.lemmas.Bool.{cases_Bool}
use Rattle.std.proofs.lemmas.Bool.Decides.{nat_tests}
use Rattle.tiger_base.specs.declared.number.Stamp.{Stamp}
use Rattle.tiger_base.specs.declared.message.Note.{Note}
use Rattle.slot_plan.specs.declared.params.Params.{Params}
use Rattle.node_kit.specs.declared.journal.Entry.{Entry}
use Rattle.node_kit.specs.Courses.{ReturnsLater}
use Rattle.node_kit.specs.Life.{Lifetime, acts}
use Rattle.node_kit.specs.Steps.{Input, Deed, IsAllowed, stamp_of}
use Rattle.run_facts.specs.Accounts.{Rising, AreCounted, AreAlive, AreHere, LivesBy, GoOn, IsTimeline}
use Rattle.run_facts.specs.Accounts.{IsClockOf}
use Rattle.run_facts.specs.Events.{NodeEvent, Past, after, after_all, behind, outs_of, is_death, stamp_at, AreFair}
use Rattle.run_facts.specs.Events.{entries_at, written}
use Rattle.run_facts.specs.Events.NodeEvent.{Does, Ends, Dies, Returns}
use Rattle.run_facts.specs.Timed.{IsRead, IsNotBelow, AreRising, is_died, death_within, IsUntil, IsLater, EndsInDeath}
use Rattle.run_facts.specs.Timed.{IsDeathOf, IsTimed}
use Rattle.run_facts.proofs.Along.{written-append}
use Rattle.run_facts.proofs.Fronts.{lived}
use Rattle.run_facts.proofs.Journals.{stamped-written, rising-append}
use Rattle.run_facts.proofs.Rows.{all-append, all-left, all-right, all-weaker, all-both}
use Rattle.run_facts.proofs.Timelines.{rising-counted}
use Rattle.run_lives.proofs.Around.{IsAround, around-of, again-of, end-of}
use Rattle.run_lives.proofs.Ending.{ends-parts}
use Rattle.run_lives.proofs.Entries.{died_at, before_cut, cut-writes, cut-undied, cut-stamped, fair-left, fair-right}
use Rattle.run_lives.proofs.Entries.{undied-written}
use Rattle.run_lives.proofs.Standing.{within-of}

-- entries that a clock stamps, in beats that never fall
rising-written : {M S : Type 0} (note : M → Note) (step : S → Input M → Deed M S) (es : List (NodeEvent M))
    (past : Past S) → Rising (λ (e : NodeEvent M). (stamp_at e).beat) es
    → Rising (λ (x : Entry). x.stamp.beat) (written note step es past)
rising-written note step [] past r = tt
rising-written {M} note step (e ∷ es) past r =
    let next = after note step e past in
    rising-append (λ (x : Entry). x.stamp.beat) (stamp_at e).beat (entries_at note step e past)
    (written note step es next)
    (all-left (λ (x : Entry). x.stamp.beat ≡ (stamp_at e).beat) (entries_at note step e past) []
    (stamped-written note step (λ s. s.beat ≡ (stamp_at e).beat) (e ∷ []) past (refl, tt)))
    (stamped-written note step (λ s. (stamp_at e).beat ≤ s.beat) es next r.0) (rising-written note step es next r.1)

module _ (p : Params) (when : ℕ → Stamp) (clock : IsClockOf p when) where
  read-at : (x : Entry) → x.stamp ≡ when x.stamp.beat → IsRead p x
  read-at x h =
      let shown : x.stamp.reading ≡ (when x.stamp.beat).reading = ap (λ (s : Stamp). s.reading) h in
      let low = clock.low x.stamp.beat in
      let high = clock.high x.stamp.beat in
      record { low = omega (arith, shown, low); high = omega (arith, shown, high) }

  not-below : (x y : Entry) → x.stamp ≡ when x.stamp.beat → (x.stamp.beat ≤ y.stamp.beat)
      × (y.stamp ≡ when y.stamp.beat) → IsNotBelow x y
  not-below x y h g =
      let shown : x.stamp.reading ≡ (when x.stamp.beat).reading = ap (λ (s : Stamp). s.reading) h in
      let later : y.stamp.reading ≡ (when y.stamp.beat).reading = ap (λ (s : Stamp). s.reading) g.1 in
      let grows = clock.grows x.stamp.beat y.stamp.beat g.0 in
      record { beat = g.0; reading = omega (arith, shown, later, grows) }

  rising-read : (xs : List Entry) → AllByRecursion (λ (x : Entry). x.stamp ≡ when x.stamp.beat) xs
      → Rising (λ (x : Entry). x.stamp.beat) xs → AreRising xs
  rising-read [] h r = tt
  rising-read (x ∷ xs) h r = (
    all-weaker (λ (y : Entry). (x.stamp.beat ≤ y.stamp.beat) × (y.stamp ≡ when y.stamp.beat)) (IsNotBelow x) xs
        (λ y g. not-below x y h.0 g)
        (all-both (λ (y : Entry). x.stamp.beat ≤ y.stamp.beat) (λ y. y.stamp ≡ when y.stamp.beat) xs r.0 h.1),
    rising-read xs h.1 r.1,
  )

-- who acts up to the beat of its death, and is not cut off there, acts below it
acts-by : (t s z : Bool) → (t || (s && (false && true)) || z) ≡ true → z ≡ false → t ≡ true
acts-by true s z h g = refl
acts-by false true z h g = let q : true ≡ false = sym h ∙ g in absurd (cc)
acts-by false false z h g = let q : true ≡ false = sym h ∙ g in absurd (cc)

acts-below : (d b : ℕ) (back : Option ℕ) → ReturnsLater (Some d) back → b ≤ d → acts (lived (Some d) None back) b ≡ true
    → b < d
unfolding acts
acts-below d b None later low h = let e = acts-by (nat_lt b d) (b == d) false h refl in grind (arith, nat_tests, e)
acts-below d b (Some w) later low h =
    let away : nat_le w b ≡ false = grind (arith, nat_tests, low, later) in
    let e = acts-by (nat_lt b d) (b == d) (nat_le w b) h away in grind (arith, nat_tests, e)

module _ (d : ℕ) (left back : Option ℕ) (later : ReturnsLater (Some d) back) where
  abbrev mortal_life : Lifetime
  mortal_life = lived (Some d) left back

  until-by : (o : Option ℕ) (b : ℕ) → b ≤ d → acts (lived (Some d) o back) b ≡ true → IsUntil o d b
  until-by None b low h = acts-below d b back later low h
  until-by (Some k) b low h = low

  -- the events before the death are until it
  front-until : {M : Type 0} (es : List (NodeEvent M)) → AreAlive es → AreHere es
      → AllByRecursion (λ e. (stamp_at e).beat ≤ d) es → AllByRecursion (LivesBy mortal_life) es
      → AllByRecursion (λ e. IsUntil left d (stamp_at e).beat) es
  front-until [] alive here low lives = tt
  front-until (Does i ∷ es) alive here low lives =
      (until-by left (stamp_of i).beat low.0 lives.0, front-until es alive.1 here.1 low.1 lives.1)
  front-until (Ends i k ∷ es) alive here low lives = absurd (let q = alive.0 in cc)
  front-until (Dies s ∷ es) alive here low lives = absurd (let q = alive.0 in cc)
  front-until (Returns s ∷ es) alive here low lives = absurd (let q = here.0 in cc)

  cut-until : (o : Option ℕ) (b : ℕ) → is_some o ≡ true → b ≡ d → IsUntil o d b
  cut-until None b some h = absurd (cc)
  cut-until (Some k) b some h = let low : b ≤ d = omega (arith, h) in low

  -- what a death writes: Died, and before it what was done in the step that it cuts off
  record Death {M S : Type 0} (note : M → Note) (step : S → Input M → Deed M S) (e : NodeEvent M) (past : Past S)
      : Type 0 where
    before : List Entry
    all : entries_at note step e past ≡ before ++ died_at (stamp_at e) ∷ []
    undied : AllByRecursion (λ (x : Entry). is_died x.what ≡ false) before
    until : AllByRecursion (λ (x : Entry). IsUntil left d x.stamp.beat) before

  death-writes : {M S : Type 0} (note : M → Note) (step : S → Input M → Deed M S) (p : Params) (n : ℕ) (e : NodeEvent M)
      (past : Past S) → is_death e ≡ true → (stamp_at e).beat ≡ d → LivesBy mortal_life e
      → AllByRecursion (IsAllowed note p n) (outs_of step e past) → Death note step e past
  death-writes note step p n (Does i) past died at lives allowed = absurd (cc)
  death-writes note step p n (Ends i k) past died at lives allowed =
      let cut = (ends-parts _ left lives.1).1 in
      record {
        before = before_cut note step i k past;
        all = cut-writes note step p n i k past allowed;
        undied = cut-undied note step p n i k past allowed;
        until = all-weaker (λ (x : Entry). x.stamp ≡ stamp_of i) (λ x. IsUntil left d x.stamp.beat)
            (before_cut note step i k past)
            (λ x h. cut-until left x.stamp.beat cut (ap (λ (s : Stamp). s.beat) h ∙ at))
            (cut-stamped note step i k past);
      }
  death-writes note step p n (Dies s) past died at lives allowed =
      record { before = []; all = refl; undied = tt; until = tt }
  death-writes note step p n (Returns s) past died at lives allowed = absurd (cc)

  -- and what is written behind it
  later-by : {M S : Type 0} (note : M → Note) (step : S → Input M → Deed M S) (p : Params) (n : ℕ) (when : ℕ → Stamp)
      (dated : (b : ℕ) → (when b).beat ≡ b) (next t : ℕ) (o : Option ℕ) (more : List (NodeEvent M)) (past : Past S)
      → AreCounted t more → GoOn when next d (death_within next o) more → AreFair note step p n more past
      → IsLater o (written note step more past)
  later-by note step p n when dated next t None more past counted go fair =
      ap (λ qs. written note step qs past) go
  later-by {M} note step p n when dated next t (Some w) more past counted go fair = ⊎_elim
      (λ (e : nat_lt w next ≡ true).
      let on = again-of when next d w t more dated counted
      (subst (λ q. GoOn {M = M} when next d q more) (ap (λ b. cond b (Some w) None) e) go) in
      let rest_fair = (subst (λ qs. AreFair note step p n qs past) on.all fair).1 in
      subst (λ qs. AllByRecursion (λ (x : Entry). (is_died x.what ≡ false) × (w ≤ x.stamp.beat))
      (written note step qs past)) (sym on.all)
      (all-both (λ (x : Entry). is_died x.what ≡ false) (λ x. w ≤ x.stamp.beat) (written note step on.rest past)
      (undied-written note step p n on.rest past on.alive rest_fair)
      (stamped-written note step (λ s. w ≤ s.beat) on.rest past on.late)))
      (λ (e : nat_lt w next ≡ false).
      let none = subst (λ q. GoOn {M = M} when next d q more) (ap (λ b. cond b (Some w) None) e) go in
      subst (λ qs. AllByRecursion (λ (x : Entry). (is_died x.what ≡ false) × (w ≤ x.stamp.beat))
      (written note step qs past)) (sym none) tt)
      (cases_Bool (nat_lt w next))

  ends-in_death : {M S : Type 0} (note : M → Note) (step : S → Input M → Deed M S) (p : Params) (n : ℕ)
      (when : ℕ → Stamp) (dated : (b : ℕ) → (when b).beat ≡ b) (next : ℕ) (es : List (NodeEvent M)) (past : Past S)
      → IsAround when next d (death_within next back) es → AllByRecursion (LivesBy mortal_life) es
      → AreFair note step p n es past → EndsInDeath mortal_life d (written note step es past)
  ends-in_death {M} note step p n when dated next es past around lives fair =
      let front = around.front in
      let last = around.last in
      let more = around.more in
      let then_past = after_all note step front past in
      let all_lives = subst (AllByRecursion (LivesBy mortal_life)) around.parts lives in
      let all_fair = subst (λ qs. AreFair note step p n qs past) around.parts fair in
      let rest_fair = fair-right note step p n front (last ∷ more) past all_fair in
      let at : (stamp_at last).beat ≡ d = ap (λ (s : Stamp). s.beat) around.at ∙ dated d in
      let death = death-writes note step p n last then_past around.died at
      (all-right (LivesBy mortal_life) front (last ∷ more) all_lives).0 rest_fair.0 in
      let rest = written note step more (after note step last then_past) in
      let firsts = written note step front past in
      let died = died_at (stamp_at last) in
      record {
        before = firsts ++ death.before;
        last = died;
        later = rest;
        all = ap (λ qs. written note step qs past) around.parts ∙ written-append note step front (last ∷ more) past
            ∙ ap (λ qs. firsts ++ (qs ++ rest)) death.all
            ∙ ap (λ qs. firsts ++ qs) (append_assoc death.before (died ∷ []) rest)
            ∙ sym (append_assoc firsts death.before (died ∷ rest));
        died = refl;
        in_beat = at;
        alone = all-both (λ (x : Entry). is_died x.what ≡ false) (λ x. IsUntil left d x.stamp.beat)
            (firsts ++ death.before)
            (all-append (λ (x : Entry). is_died x.what ≡ false) firsts death.before
            (undied-written note step p n front past around.alive
            (fair-left note step p n front (last ∷ more) past all_fair)) death.undied)
            (all-append (λ (x : Entry). IsUntil left d x.stamp.beat) firsts death.before
            (stamped-written note step (λ s. IsUntil left d s.beat) front past
            (front-until front around.alive around.here around.low
            (all-left (LivesBy mortal_life) front (last ∷ more) all_lives))) death.until);
        back = later-by note step p n when dated next (behind last d) back more (after note step last then_past)
            around.counted around.go_on rest_fair.1;
      }

module _ {M S : Type 0} (note : M → Note) (step : S → Input M → Deed M S) (p : Params) (n : ℕ) (when : ℕ → Stamp)
    (clock : IsClockOf p when) (death left back : Option ℕ) (later : ReturnsLater death back) (next : ℕ)
    (es : List (NodeEvent M)) (past : Past S) where
  its-death : (o : Option ℕ) → death_within next death ≡ o → IsTimeline when p n (lived death left back) next es
      → AreFair note step p n es past → IsDeathOf (lived death left back) o (written note step es past)
  its-death None within timeline fair =
      undied-written note step p n es past (end-of when p n (lived death left back) next None es within timeline).0 fair
  its-death (Some d) within timeline fair =
      let died = within-of next d death within in
      let around = around-of when next d (death_within next back) es clock.dated timeline.counted
      (end-of when p n (lived death left back) next (Some d) es within timeline) in
      subst (λ o. EndsInDeath (lived o left back) d (written note step es past)) (sym died.0)
      (ends-in_death d left back (subst (λ o. ReturnsLater o back) died.0 later) note step p n when clock.dated next es
      past around (subst (λ o. AllByRecursion (LivesBy (lived o left back)) es) died.0 timeline.lived) fair)

  -- the journal of a node's events is timed
  pub timed-lives : IsTimeline when p n (lived death left back) next es → AreFair note step p n es past
      → IsTimed p next (lived death left back) (written note step es past)
  timed-lives timeline fair =
      let stamped = stamped-written note step (λ s. s ≡ when s.beat) es past timeline.stamped in
      record {
        reads = all-weaker (λ (x : Entry). x.stamp ≡ when x.stamp.beat) (IsRead p) (written note step es past)
            (λ x h. read-at p when clock x h) stamped;
        rising = rising-read p when clock (written note step es past) stamped
            (rising-written note step es past (rising-counted 0 es timeline.counted).1);
        early = stamped-written note step (λ s. s.beat < next) es past timeline.early;
        death = its-death (death_within next death) refl timeline fair;
      }
