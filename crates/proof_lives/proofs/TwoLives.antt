-- What a run gives of the lives of its nodes: which events their inputs are, and that each is a life of a run.
use Rattle.std.proofs.Common.{◌≡◌, ℕ, suc, ◌+◌, ◌-◌, ◌<◌, ◌≤◌, ◌==◌, Bool, true, Option, None, cond, refl, sym, ap, subst, ◌∙◌, arith, ⊎_elim, inl, inr, eq-or-lt_of_le}
use Rattle.std.specs.Prelude.{◌⊎◌}
use Rattle.std.proofs.lemmas.Bool.{cases_lt}
use Rattle.tiger_base.specs.Limits.{most_reading}
use Rattle.tiger_base.specs.Notes.{noted}
use Rattle.tiger_base.specs.declared.message.Msg.{Msg}
use Rattle.tiger_base.specs.declared.number.Stamp.{Stamp}
use Rattle.slot_plan.specs.declared.params.Params.{Params}
use Rattle.slot_plan.specs.Times.{time_of}
use Rattle.node_kit.specs.Steps.{Deed, Input, stamp_of}
use Rattle.node_kit.specs.Steps.Input.{Take, Tick}
use Rattle.node_kit.proofs.Rows.{get-below}
use Rattle.run_facts.specs.Events.{NodeEvent, is_return, is_take_on, is_tick_input, sends_of, stamp_at}
use Rattle.run_facts.specs.Events.NodeEvent.{Does, Ends, Dies, Returns}
use Rattle.run_facts.specs.Histories.{History, IsRun, beat, outs, place, reading}
use Rattle.run_facts.proofs.Counts.{sent-numbered}
use Rattle.lists.proofs.Elements.{chosen}
use Rattle.proof_lives.specs.Lives.{IsLife, beat_at, cut_in, reading_at, ticks_at}
use Rattle.proof_lives.specs.Histories.{acting, cut_of_event, first_events, has_input, input_of, later_from, later_lives_of, lives_of}
use Rattle.proof_lives.specs.TwoLifeRun.{WhichLife, IsOfLife, BeginsAnew, RunsOfTwoLives, event_in, life_in}
use Rattle.proof_lives.specs.TwoLifeRun.WhichLife.{First, Later}
use Rattle.proof_lives.proofs.Acting.{acts_at, among_acting, cut_same, ticks_same}
use Rattle.proof_lives.proofs.Carrying.{sends_in, stamp_same, takes_it}
use Rattle.proof_lives.proofs.Numbers.{sent_below}
use Rattle.proof_lives.proofs.Returns.{beats_never_fall, died, first_back, first_ended, first_here, first_low, later_here, later_input, later_whole, open_back, open_first, open_later}

-- an input of a life comes when its event does
pub stamp_in : {S : Type 0} (h : History Msg S) (w : WhichLife) (n i : ℕ)
    → stamp_at (h.event n (event_in h w n i)) ≡ stamp_of ((life_in h w).input n i)
stamp_in h First n i = stamp_same (h.event n i)
stamp_in h Later n i = stamp_same (h.event n (later_from h n + i))

pub beat_in : {S : Type 0} (h : History Msg S) (w : WhichLife) (n i : ℕ)
    → beat h n (event_in h w n i) ≡ beat_at ((life_in h w).input n) i
beat_in h w n i = ap (λ (s : Stamp). s.beat) (stamp_in h w n i)

pub reading_in : {S : Type 0} (h : History Msg S) (w : WhichLife) (n i : ℕ)
    → reading h n (event_in h w n i) ≡ reading_at ((life_in h w).input n) i
reading_in h w n i = ap (λ (s : Stamp). s.reading) (stamp_in h w n i)

pub input_in : {S : Type 0} (h : History Msg S) (w : WhichLife) (n i : ℕ)
    → (life_in h w).input n i ≡ input_of (h.event n (event_in h w n i))
input_in h First n i = refl
input_in h Later n i = refl

-- the events of a life stand one behind the other
pub events_rise : {S : Type 0} (h : History Msg S) (w : WhichLife) (n i j : ℕ) → i ≤ j
    → event_in h w n i ≤ event_in h w n j
events_rise h First n i j le = le
events_rise h Later n i j le = omega arith

is_returning : (e : NodeEvent Msg) → is_return e ≡ true → e ≡ Returns (stamp_at e)
is_returning (Does i) t = absurd (cc)
is_returning (Ends i sends) t = absurd (cc)
is_returning (Dies stamp) t = absurd (cc)
is_returning (Returns stamp) t = refl

module _ {S : Type 0} {step : S → Input Msg → Deed Msg S} {p : Params} {nodes : ℕ} {h : History Msg S}
    (run : IsRun noted step p nodes h) (n : ℕ) (known : n < nodes) where
  -- ---- events and inputs

  pub within_run : (w : WhichLife) (i : ℕ) → i < (life_in h w).count n → event_in h w n i < h.count n
  within_run First i low =
      let a = acts_at h n (first_here run n known) (first_ended run n known) i low in
      let done = a.done in
      let most = first_low run n known in
      omega arith
  within_run Later i low = omega arith

  pub has_acted : (w : WhichLife) (i : ℕ) → i < (life_in h w).count n → has_input (h.event n (event_in h w n i)) ≡ true
  has_acted First i low = (acts_at h n (first_here run n known) (first_ended run n known) i low).input
  has_acted Later i low = later_input run n known (later_from h n + i) (omega arith) (omega arith)

  pub of_life : (e : ℕ) → e < h.count n → has_input (h.event n e) ≡ true → IsOfLife h n e
  of_life e low acts = ⊎_elim
      (λ (early : e < first_events h n). record {
        which = First;
        at = e;
        done = among_acting h n (first_here run n known) (first_ended run n known) e early acts;
        is = refl;
      })
      (λ (le : first_events h n ≤ e). ⊎_elim
      (λ (same : first_events h n ≡ e).
      let back = subst (λ k. is_return (h.event n k) ≡ true) same (first_back run n known (omega arith)) in
      absurd (not_both (h.event n e) acts back))
      (λ (late : first_events h n < e). record {
        which = Later;
        at = e - later_from h n;
        done = omega arith;
        is = omega arith;
      })
      (eq-or-lt_of_le le))
      (cases_lt e (first_events h n))
    where
      not_both : (e : NodeEvent Msg) → has_input e ≡ true → is_return e ≡ true → ⊥
      not_both (Does i) t b = absurd (cc)
      not_both (Ends i sends) t b = absurd (cc)
      not_both (Dies stamp) t b = absurd (cc)
      not_both (Returns stamp) t b = absurd (cc)

  pub cut_in_run : (w : WhichLife) (i : ℕ) → i < (life_in h w).count n
      → cut_in (life_in h w) n i ≡ cut_of_event (h.event n (event_in h w n i))
  cut_in_run First i low = cut_same h n (first_here run n known) (first_ended run n known) i low
  cut_in_run Later i low =
      chosen (λ (o : Option ℕ). o ≡ None) (suc i == (later_lives_of h).count n) None None (λ _. refl) (λ _. refl)
      ∙ sym (later_whole run n known (later_from h n + i) (omega arith) (omega arith))

  -- ---- the tick of a return

  -- nothing is taken in the beat of a return, so the first event behind it is the tick of that beat
  -- behind a return come the numbers behind those of what was sent below it
  pub lost_by_return : (l : ℕ) → is_return (h.event n (first_events h n)) ≡ true → place l h n (later_from h n) ≡ h.before l
  lost_by_return l back =
      let k : ℕ = place l h n (first_events h n) in
      ap (λ (b : Bool). cond b (h.before l) (cond (is_take_on l (h.event n (first_events h n))) (suc k) k)) back

  pub later_ticks : later_from h n < h.count n → is_tick_input (input_of (h.event n (later_from h n))) ≡ true
  later_ticks low = by_input (input_of (h.event n (later_from h n))) refl
    where
      by_input : (k : Input Msg) → input_of (h.event n (later_from h n)) ≡ k → is_tick_input k ≡ true
      by_input (Tick stamp) e = refl
      by_input (Take stamp link m) e =
          let l : ℕ = link.0 in
          let f : ℕ = first_events h n in
          let from : ℕ = later_from h n in
          let act = later_input run n known from (omega arith) low in
          let k = run.carried n from stamp link m known low (takes_it (h.event n from) stamp link m act e) in
          let back = first_back run n known (omega arith) in
          let number : place l h n from ≡ h.before l = lost_by_return l back in
          let lost = run.before l k.from n f (stamp_at (h.event n f)) k.known known k.ends (omega arith)
          (is_returning (h.event n f) back) in
          let s = sent-numbered noted step l h k.from (h.count k.from) (place l h n from)
          (record { beat = k.when; item = m }) k.was_sent in
          let r = sends_in l (beat h k.from s.at) (outs noted step h k.from s.at) (record { beat = k.when; item = m })
          s.place s.sends in
          let when : k.when ≡ beat h k.from s.at = r.3 in
          let opened = open_back run n known (omega arith) in
          let in_it = run.in_beat n from known low (later_here run n known from (omega arith) low) in
          let now : beat h n from ≡ stamp.beat =
          ap (λ (q : Stamp). q.beat) (stamp_same (h.event n from)) ∙ ap (λ (q : Input Msg). (stamp_of q).beat) e in
          let later = k.later in
          let before = s.before in
          let is_number = s.number in
          let less = sent_below run l k.from k.known (beat h n f) (h.count k.from) s.at s.place (omega arith) before
          (get-below (sends_of l (beat h k.from s.at) (outs noted step h k.from s.at)) s.place
          (record { beat = k.when; item = m }) s.sends)
          (omega arith) in
          absurd (omega arith)

  pub begins_anew : 0 < (later_lives_of h).count n → BeginsAnew h n
  begins_anew some =
      let f : ℕ = first_events h n in
      let from : ℕ = later_from h n in
      let e : from + 0 ≡ from = omega arith in
      let low : from < h.count n = omega arith in
      let d = died run n known (omega arith) in
      let in_it = run.in_beat n from known low (later_here run n known from (omega arith) low) in
      let opened = open_back run n known (omega arith) in
      let same : beat h n (from + 0) ≡ beat h n from = ap (beat h n) e in
      let is = beat_in h Later n 0 in
      record {
        returns = first_back run n known (omega arith);
        tick = subst (λ k. is_tick_input (input_of (h.event n k)) ≡ true) (sym e) (later_ticks low);
        in_beat = omega arith;
        apart = λ i less.
            let next = d.next in
            let apart = d.apart in
            let rise = beats_never_fall run n known i d.at (omega arith) (omega arith) in
            omega arith;
      }

  -- ---- lives

  pub first_beat : (i : ℕ) → i < acting h n → beat_at ((lives_of h).input n) i ≡ ticks_at ((lives_of h).input n) i
  first_beat i low =
      let a = acts_at h n (first_here run n known) (first_ended run n known) i low in
      let done = a.done in
      let most = first_low run n known in
      sym (beat_in h First n i) ∙ run.in_beat n i known (omega arith) (first_here run n known i done)
      ∙ open_first run n known i (omega arith)
      ∙ ticks_same h n (first_here run n known) (first_ended run n known) i done

  later_beat : (i : ℕ) → i < (later_lives_of h).count n
      → beat_at ((later_lives_of h).input n) i ≡ beat h n (first_events h n) + ticks_at ((later_lives_of h).input n) i
  later_beat i low =
      sym (beat_in h Later n i)
      ∙ run.in_beat n (later_from h n + i) known (omega arith)
      (later_here run n known (later_from h n + i) (omega arith) (omega arith))
      ∙ open_later run n known i (omega arith)

  begins_in : (w : WhichLife) → 0 < (life_in h w).count n
      → (beat_at ((life_in h w).input n) 0 ≡ 0) ⊎ (is_tick_input ((life_in h w).input n 0) ≡ true)
  begins_in First some = inl (first_beat 0 some)
  begins_in Later some = inr (begins_anew some).tick

  beats_in : (w : WhichLife) (i : ℕ) → i < (life_in h w).count n
      → beat_at ((life_in h w).input n) i ≡ beat_at ((life_in h w).input n) 0 + ticks_at ((life_in h w).input n) i
  beats_in First i low = let a = first_beat i low in let b = first_beat 0 (omega arith) in omega arith
  beats_in Later i low = let a = later_beat i low in let b = later_beat 0 (omega arith) in omega arith

  pub lived_in : (w : WhichLife) → ((i : ℕ) → i < h.count n → reading h n i ≤ most_reading)
      → IsLife p ((life_in h w).count n) ((life_in h w).input n)
  lived_in w short = record {
    begins = begins_in w;
    in_beat = beats_in w;
    reads = λ i low.
        let r = run.reads n (event_in h w n i) known (within_run w i low) in
        let e = reading_in h w n i in
        let t : time_of p (beat h n (event_in h w n i)) ≡ time_of p (beat_at ((life_in h w).input n) i) =
        ap (λ b. time_of p b) (beat_in h w n i) in
        let r0 = r.0 in
        let r1 = r.1 in
        (omega arith, omega arith);
    rising = λ j i le low.
        let r = run.rising n (event_in h w n j) (event_in h w n i) known (events_rise h w n j i le) (within_run w i low) in
        let a = reading_in h w n j in
        let b = reading_in h w n i in
        omega arith;
    short = λ i low.
        let r = short (event_in h w n i) (within_run w i low) in
        let b = reading_in h w n i in
        omega arith;
  }

pub runs_of_two_lives : (S : Type 0) → RunsOfTwoLives S
runs_of_two_lives S step p nodes h run short = record {
  within = λ w n i known low. within_run run n known w i low;
  acts = λ w n i known low. has_acted run n known w i low;
  others = λ n e known low acts. of_life run n known e low acts;
  cut = λ w n i known low. cut_in_run run n known w i low;
  lived = λ w n known. lived_in run n known w (λ i low. short n i known low);
  anew = λ n known some. begins_anew run n known some;
}
