-- What the record of a run gives of a node that may return: how its beats rise, and which event takes which message.
use Rattle.std.proofs.Common.{◌≡◌, ℕ, zero, suc, ◌+◌, ◌<◌, ◌≤◌, Bool, true, false, cond, refl, sym, ap, subst, ◌∙◌}
use Rattle.std.proofs.Common.{arith, ⊎_elim, eq-or-lt_of_le}
use Rattle.std.proofs.lemmas.Bool.{cases_Bool, cases_lt}
use Rattle.tiger_base.specs.declared.message.Note.{Note}
use Rattle.slot_plan.specs.declared.params.Params.{Params}
use Rattle.node_kit.specs.Steps.{Deed, Input}
use Rattle.run_facts.specs.Events.{NodeEvent, behind, is_death, is_return, is_take_on, is_tick, is_tick_input, stamp_at}
use Rattle.run_facts.specs.Events.NodeEvent.{Does, Ends, Dies, Returns}
use Rattle.run_facts.specs.Histories.{History, IsRun, beat, open_beat, place}

-- the beat of a return is open behind it
pub return_opens : {M : Type 0} (e : NodeEvent M) (b : ℕ) → is_return e ≡ true → behind e b ≡ (stamp_at e).beat
return_opens (Does i) b t = absurd (cc)
return_opens (Ends i sends) b t = absurd (cc)
return_opens (Dies stamp) b t = absurd (cc)
return_opens (Returns stamp) b t = refl

-- any other event leaves the open beat, or opens the next one
opens_least : {M : Type 0} (e : NodeEvent M) (b : ℕ) → is_return e ≡ false → (b ≤ behind e b) × (behind e b ≤ b + 1)
opens_least (Does i) b f = ⊎_elim (λ (t : is_tick_input i ≡ true). rw t (omega arith, omega arith))
    (λ (t : is_tick_input i ≡ false). rw t (omega arith, omega arith)) (cases_Bool (is_tick_input i))
opens_least (Ends i sends) b f = ⊎_elim (λ (t : is_tick_input i ≡ true). rw t (omega arith, omega arith))
    (λ (t : is_tick_input i ≡ false). rw t (omega arith, omega arith)) (cases_Bool (is_tick_input i))
opens_least (Dies stamp) b f = (omega arith, omega arith)
opens_least (Returns stamp) b f = absurd (cc)

tick_opens : {M : Type 0} (e : NodeEvent M) (b : ℕ) → is_tick e ≡ true → (behind e b ≡ suc b) × (is_return e ≡ false)
tick_opens (Does i) b t = (ap (λ (x : Bool). cond x (suc b) b) t, refl)
tick_opens (Ends i sends) b t = (ap (λ (x : Bool). cond x (suc b) b) t, refl)
tick_opens (Dies stamp) b t = absurd (cc)
tick_opens (Returns stamp) b t = absurd (cc)

-- a death is no return, and neither is what takes a message
pub death_here : {M : Type 0} (e : NodeEvent M) → is_death e ≡ true → is_return e ≡ false
death_here (Returns stamp) d = absurd (cc)
death_here other d = refl

take_here : {M : Type 0} (l : ℕ) (e : NodeEvent M) → is_take_on l e ≡ true → is_return e ≡ false
take_here l (Returns stamp) t = absurd (cc)
take_here l other t = refl

-- ---- what is taken

module _ {M S : Type 0} (l : ℕ) (h : History M S) (n : ℕ) where
  -- an event that is no return takes the next number of a link, or none
  going_on : (i : ℕ) → is_return (h.event n i) ≡ false
      → place l h n (suc i) ≡ cond (is_take_on l (h.event n i)) (suc (place l h n i)) (place l h n i)
  going_on i here =
      ap (λ (b : Bool). cond b (h.before l) (cond (is_take_on l (h.event n i)) (suc (place l h n i)) (place l h n i)))
      here

  pub takes_next : (i : ℕ) → is_take_on l (h.event n i) ≡ true → place l h n (suc i) ≡ place l h n i + 1
  takes_next i t =
      let next : place l h n (suc i) ≡ suc (place l h n i) =
      going_on i (take_here l (h.event n i) t) ∙ ap (λ (b : Bool). cond b (suc (place l h n i)) (place l h n i)) t in
      omega (arith, next)

  takes_none : (i : ℕ) → is_return (h.event n i) ≡ false → is_take_on l (h.event n i) ≡ false
      → place l h n (suc i) ≡ place l h n i
  takes_none i here f = going_on i here ∙ ap (λ (b : Bool). cond b (suc (place l h n i)) (place l h n i)) f

  -- the numbers never fall while the node does not return
  pub places_rise : (i j : ℕ) → ((k : ℕ) → i ≤ k → k < j → is_return (h.event n k) ≡ false) → i ≤ j
      → place l h n i ≤ place l h n j
  places_rise i zero here le =
      let z : i ≡ 0 = omega (arith, le) in subst (λ k. place l h n k ≤ place l h n 0) (sym z) (omega arith)
  places_rise i (suc j) here le = ⊎_elim
      (λ (e : i ≡ suc j). subst (λ k. place l h n k ≤ place l h n (suc j)) (sym e) (omega arith))
      (λ (less : i < suc j).
      let r = places_rise i j (λ k low high. here k low (omega (arith, high))) (omega (arith, less)) in
      ⊎_elim
      (λ (t : is_take_on l (h.event n j) ≡ true). let next = takes_next j t in omega (arith, r, next))
      (λ (f : is_take_on l (h.event n j) ≡ false).
      let same = takes_none j (here j (omega (arith, less)) (omega arith)) f in omega (arith, r, same))
      (cases_Bool (is_take_on l (h.event n j))))
      (eq-or-lt_of_le le)

  -- an event between two others takes the message of a number
  pub record TakenBetween (i j number : ℕ) : Type 0 where
    pub at : ℕ
    pub from : i ≤ at
    pub before : at < j
    pub takes : is_take_on l (h.event n at) ≡ true
    pub is : place l h n at ≡ number

  -- each number between those of the two is taken so, if there is no return between
  pub taken_between : (i j number : ℕ) → ((k : ℕ) → i ≤ k → k < j → is_return (h.event n k) ≡ false) → i ≤ j
      → place l h n i ≤ number → number < place l h n j → TakenBetween i j number
  taken_between i zero number here le low high =
      let z : i ≡ 0 = omega (arith, le) in
      let q : place l h n i ≡ place l h n 0 = ap (place l h n) z in
      absurd (omega (arith, q, low, high))
  taken_between i (suc j) number here le low high = ⊎_elim
      (λ (e : i ≡ suc j).
      let q : place l h n i ≡ place l h n (suc j) = ap (place l h n) e in absurd (omega (arith, q, low, high)))
      (λ (less : i < suc j). ⊎_elim
      (λ (early : number < place l h n j).
      let r = taken_between i j number (λ k a b. here k a (omega (arith, b))) (omega (arith, less)) low early in
      let before = r.before in
      record { at = r.at; from = r.from; before = omega (arith, before); takes = r.takes; is = r.is })
      (λ (late : place l h n j ≤ number). ⊎_elim
      (λ (t : is_take_on l (h.event n j) ≡ true).
      let next = takes_next j t in record {
        at = j;
        from = omega (arith, less);
        before = omega arith;
        takes = t;
        is = omega (arith, next, late, high);
      })
      (λ (f : is_take_on l (h.event n j) ≡ false).
      let same = takes_none j (here j (omega (arith, less)) (omega arith)) f in
      absurd (omega (arith, same, late, high)))
      (cases_Bool (is_take_on l (h.event n j))))
      (cases_lt number (place l h n j)))
      (eq-or-lt_of_le le)

-- ---- beats

module _ {M S : Type 0} {note : M → Note} {step : S → Input M → Deed M S} {p : Params} {nodes : ℕ} {h : History M S}
    (run : IsRun note step p nodes h) (n : ℕ) (known : n < nodes) where
  -- no beat is open above that of an event before it, and none below it behind the event
  pub opens_by : (i : ℕ) → i < h.count n → open_beat h n i ≤ beat h n i
  opens_by i low = ⊎_elim
      (λ (t : is_return (h.event n i) ≡ true). back t)
      (λ (f : is_return (h.event n i) ≡ false). let b = run.in_beat n i known low f in omega (arith, b))
      (cases_Bool (is_return (h.event n i)))
    where
      back : is_return (h.event n i) ≡ true → open_beat h n i ≤ beat h n i
      back t =
          let b = run.returned n i known low t in
          let next = b.next in
          let here = death_here (h.event n b.last) b.died in
          let in_it = run.in_beat n b.last known (omega (arith, next, low)) here in
          let most = (opens_least (h.event n b.last) (open_beat h n b.last) here).1 in
          let same : open_beat h n i ≡ behind (h.event n b.last) (open_beat h n b.last) = ap (open_beat h n) next in
          let apart = b.apart in
          omega (arith, in_it, most, same, apart)

  pub opens_behind : (i : ℕ) → i < h.count n → beat h n i ≤ open_beat h n (suc i)
  opens_behind i low = ⊎_elim
      (λ (t : is_return (h.event n i) ≡ true).
      let o = return_opens (h.event n i) (open_beat h n i) t in omega (arith, o))
      (λ (f : is_return (h.event n i) ≡ false).
      let b = run.in_beat n i known low f in
      let least = (opens_least (h.event n i) (open_beat h n i) f).0 in
      omega (arith, b, least))
      (cases_Bool (is_return (h.event n i)))

  -- an event that is no return opens the next beat at most
  pub opens_after : (i : ℕ) → i < h.count n → is_return (h.event n i) ≡ false → open_beat h n (suc i) ≤ beat h n i + 1
  opens_after i low here =
      let b = run.in_beat n i known low here in
      let most = (opens_least (h.event n i) (open_beat h n i) here).1 in
      omega (arith, b, most)

  pub opens_rise : (i j : ℕ) → i ≤ j → j ≤ h.count n → open_beat h n i ≤ open_beat h n j
  opens_rise i zero le low =
      let z : i ≡ 0 = omega (arith, le) in subst (λ k. open_beat h n k ≤ open_beat h n 0) (sym z) (omega arith)
  opens_rise i (suc j) le low = ⊎_elim
      (λ (e : i ≡ suc j). subst (λ k. open_beat h n k ≤ open_beat h n (suc j)) (sym e) (omega arith))
      (λ (l : i < suc j).
      let r = opens_rise i j (omega (arith, l)) (omega (arith, low)) in
      let by = opens_by j (omega (arith, low)) in
      let more = opens_behind j (omega (arith, low)) in
      omega (arith, r, by, more))
      (eq-or-lt_of_le le)

  -- beats never fall
  pub beats_never_fall : (i j : ℕ) → i ≤ j → j < h.count n → beat h n i ≤ beat h n j
  beats_never_fall i j le low = ⊎_elim
      (λ (e : i ≡ j). subst (λ k. beat h n k ≤ beat h n j) (sym e) (omega arith))
      (λ (l : i < j).
      let first = opens_behind i (omega (arith, l, low)) in
      let rise = opens_rise (suc i) j l (omega (arith, low)) in
      let by = opens_by j low in
      omega (arith, first, rise, by))
      (eq-or-lt_of_le le)

  -- a tick ends its beat
  pub ends_beat : (i : ℕ) → i < h.count n → is_tick (h.event n i) ≡ true → open_beat h n (suc i) ≡ beat h n i + 1
  ends_beat i low t =
      let o = tick_opens (h.event n i) (open_beat h n i) t in
      let b = run.in_beat n i known low o.1 in
      let more = o.0 in
      omega (arith, b, more)
