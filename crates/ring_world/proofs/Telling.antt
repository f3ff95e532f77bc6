-- Lists of events that tell of a run, though neither an end of its beats nor the clocks of its links are known.
use Rattle.std.proofs.Common.{◌≡◌, ℕ, zero, suc, ◌+◌, ◌<◌, ◌≤◌, List, [], ◌∷◌, ◌++◌, length, Bool, true, false, Option}
use Rattle.std.proofs.Common.{Some, refl, ap, sym, ◌∙◌, subst, arith, ⊎_elim}
use Rattle.std.specs.Prelude.{slice_get}
use Rattle.std.specs.List.{AllByRecursion}
use Rattle.tiger_base.specs.declared.number.Stamp.{Stamp}
use Rattle.tiger_base.specs.declared.number.LinkNo.{LinkNo}
use Rattle.tiger_base.specs.declared.message.Note.{Note}
use Rattle.slot_plan.specs.declared.params.Params.{Params}
use Rattle.slot_plan.specs.Times.{time_of}
use Rattle.node_kit.specs.Life.{Lifetime}
use Rattle.node_kit.specs.Links.{links_of, ends_of, IsInLink}
use Rattle.node_kit.specs.Steps.{Input, Deed, IsAllowed}
use Rattle.node_kit.specs.Steps.Input.{Take}
use Rattle.run_facts.specs.Events.{NodeEvent, Past, Dated, opening, outs_of, stamp_at, is_return, AreFair}
use Rattle.run_facts.specs.Events.{sends_along}
use Rattle.run_facts.specs.Events.NodeEvent.{Does, Ends}
use Rattle.run_facts.specs.Histories.{IsRun, IsUp, TakesAt, CameOn, place, place_behind, open_beat, sent, below}
use Rattle.run_facts.specs.Accounts.{Rising, AreCounted, IsLed, event_at, front, history_of, open_after}
use Rattle.run_facts.proofs.Indexed.{past-front, open-front, open-all, sent-all, front-more, front-all, all-at, rising-at}
use Rattle.run_facts.proofs.Indexed.{counted-at, fair-at}
use Rattle.ring_world.specs.Merging.{place_along}
use Rattle.ring_world.proofs.Deaths.{HasDied, IsDeathAt, return-is}
use Rattle.ring_world.proofs.Lists.{get-cases}
use Rattle.ring_world.proofs.Ways.{IsLost, AreCome, AreGone, place-append}

-- an event's reading is the true time of its beat or later, by the skew at most
abbrev pub IsShown : {M : Type 0} → Params → NodeEvent M → Type 0
IsShown p e =
    (time_of p (stamp_at e).beat ≤ (stamp_at e).reading)
    × ((stamp_at e).reading ≤ time_of p (stamp_at e).beat + p.skew)

-- what was sent on link l is what is gone, and what is left, which a receiver with these events may still take
pub record IsPassing {M : Type 0} (most l lost : ℕ) (sent : List (Dated M)) (es : List (NodeEvent M)) : Type 0 where
  pub gone : List (Dated M)
  pub left : List (Dated M)
  pub split : sent ≡ gone ++ left
  pub number : place_along l lost 0 es ≡ length gone
  pub young : AllByRecursion (λ (d : Dated M). open_after 0 es ≤ d.beat + most) left
  pub came : AreCome most l lost sent es
  pub timely : AreGone most l lost sent es
  pub lost_is : IsLost lost sent es

-- the events of all nodes by a beat
pub record IsTold {M S : Type 0} (note : M → Note) (step : S → Input M → Deed M S) (p : Params) (life : ℕ → Lifetime)
    (nodes now : ℕ) (first : ℕ → S) (lost : ℕ → ℕ) (es : ℕ → List (NodeEvent M)) : Type 0 where
  pub counted : (n : ℕ) → n < nodes → AreCounted 0 (es n)
  pub shown : (n : ℕ) → n < nodes → AllByRecursion (IsShown p) (es n)
  pub rising : (n : ℕ) → n < nodes → Rising (λ (e : NodeEvent M). (stamp_at e).reading) (es n)
  pub early : (n : ℕ) → n < nodes → AllByRecursion (λ e. (stamp_at e).beat ≤ now) (es n)
  pub low : (n : ℕ) → n < nodes → ((i : ℕ) → IsDeathAt (es n) i → i + 1 < length (es n)) → now ≤ open_after 0 (es n)
  pub deaths : (n : ℕ) → n < nodes → (dead : Bool) × (death : Option ℕ) × HasDied dead death (es n)
  pub fair : (n : ℕ) → n < nodes → AreFair note step p n (es n) (opening (first n) (life n))
  pub led : (n : ℕ) → n < nodes → AllByRecursion (IsLed p n) (es n)
  pub senders : (l from to : ℕ) → ends_of (links_of p) l ≡ Some (from, to) → from < nodes
  pub links : (l from to : ℕ) → from < nodes → to < nodes → ends_of (links_of p) l ≡ Some (from, to)
      → IsPassing p.delay l (lost l) (sends_along note step l (es from) (opening (first from) (life from))) (es to)

take-link : {M : Type 0} (p : Params) (n : ℕ) (e : NodeEvent M) (stamp : Stamp) (link : LinkNo) (msg : M) → IsLed p n e
    → TakesAt e stamp link msg → IsInLink p n link.0
take-link {M} p n e stamp link msg led takes = ⊎_elim
    (λ (is : e ≡ Does (Take stamp link msg)). subst (λ (f : NodeEvent M). IsLed p n f) is led)
    (λ (cut : (sends : ℕ) × (e ≡ Ends (Take stamp link msg) sends)). subst (λ (f : NodeEvent M). IsLed p n f) cut.1 led)
    takes

-- the number of the next message, in a history of such events
pub place-front : {M S : Type 0} (l : ℕ) (first : ℕ → S) (life : ℕ → Lifetime) (lost : ℕ → ℕ)
    (es : ℕ → List (NodeEvent M)) (n i : ℕ) → i ≤ length (es n)
    → place l (history_of first life lost es) n i ≡ place_along l (lost l) 0 (front i (es n))
place-front l first life lost es n zero low = refl
place-front l first life lost es n (suc i) low =
    ap (place_behind l (lost l) (event_at (es n) i)) (place-front l first life lost es n i (omega (arith, low)))
    ∙ sym (place-append l (lost l) 0 (front i (es n)) (event_at (es n) i ∷ []))
    ∙ sym (ap (place_along l (lost l) 0) (front-more i (es n) (omega (arith, low))))

place-all : {M S : Type 0} (l : ℕ) (first : ℕ → S) (life : ℕ → Lifetime) (lost : ℕ → ℕ)
    (es : ℕ → List (NodeEvent M)) (n : ℕ)
    → place l (history_of first life lost es) n (length (es n)) ≡ place_along l (lost l) 0 (es n)
place-all l first life lost es n =
    place-front l first life lost es n (length (es n)) (omega arith) ∙ ap (place_along l (lost l) 0) (front-all (es n))

module _ {M S : Type 0} (note : M → Note) (step : S → Input M → Deed M S) (p : Params) (life : ℕ → Lifetime)
    (nodes now : ℕ) (first : ℕ → S) (lost : ℕ → ℕ) (es : ℕ → List (NodeEvent M))
    (told : IsTold note step p life nodes now first lost es) where
  in-beat : (n i : ℕ) → n < nodes → i < length (es n) → is_return (event_at (es n) i) ≡ false
      → (stamp_at (event_at (es n) i)).beat ≡ open_beat (history_of first life lost es) n i
  in-beat n i low h here =
      counted-at 0 (es n) i h (told.counted n low) here ∙ sym (open-front first life lost es n i (omega (arith, h)))

  up-told : (n : ℕ) → IsUp (history_of first life lost es) n → (i : ℕ) → IsDeathAt (es n) i → i + 1 < length (es n)
  up-told n up i one = up i one.low one.died

  -- who is up has ended each beat before the last
  pub ticked-told : (m : ℕ) → m < nodes → IsUp (history_of first life lost es) m
      → now ≤ open_beat (history_of first life lost es) m (length (es m))
  ticked-told m low up =
      let theirs = told.low m low (up-told m up) in
      let all = open-all first life lost es m in
      omega (arith, theirs, all)

  level : (n m i : ℕ) → n < nodes → m < nodes → i < length (es n) → IsUp (history_of first life lost es) m
      → (stamp_at (event_at (es n) i)).beat ≤ open_beat (history_of first life lost es) m (length (es m))
  level n m i low low_m h up =
      let mine = all-at (λ e. (stamp_at e).beat ≤ now) (es n) i h (told.early n low) in
      let theirs = ticked-told m low_m up in
      omega (arith, mine, theirs)

  came : (n i : ℕ) (stamp : Stamp) (link : LinkNo) (msg : M) → n < nodes → i < length (es n)
      → TakesAt (event_at (es n) i) stamp link msg
      → CameOn note step p nodes (history_of first life lost es) n link.0
      (place link.0 (history_of first life lost es) n i) stamp.beat msg
  came n i stamp link msg low h takes =
      let l = link.0 in
      let lead = take-link p n (event_at (es n) i) stamp link msg (all-at (IsLed p n) (es n) i h (told.led n low)) takes in
      let from = lead.0 in
      let known = told.senders l from n lead.1 in
      let on = told.links l from n known low lead.1 in
      let number = place-front l first life lost es n i (omega (arith, h)) in
      let one = on.came i stamp link msg h takes refl in
      record {
        from = from;
        known = known;
        ends = lead.1;
        when = one.when;
        was_sent = ap (λ q. slice_get (sent note step l (history_of first life lost es) from (length (es from))) q) number
            ∙ ap (λ q. slice_get q (place_along l (lost l) 0 (front i (es n)))) (sent-all note step l first life lost es from)
            ∙ one.was_sent;
        later = one.later;
        soon = one.soon;
      }

  arrive : (l from n k date : ℕ) (msg : M) → from < nodes → n < nodes → ends_of (links_of p) l ≡ Some (from, n)
      → slice_get (sent note step l (history_of first life lost es) from (length (es from))) k
      ≡ Some (record { beat = date; item = msg })
      → date + p.delay < open_beat (history_of first life lost es) n (length (es n))
      → k < place l (history_of first life lost es) n (length (es n))
  arrive l from n k date msg low_from low ends was due =
      let on = told.links l from n low_from low ends in
      let all = open-all first life lost es n in
      let at : slice_get (on.gone ++ on.left) k ≡ Some (record { beat = date; item = msg }) =
      sym (ap (λ q. slice_get q k) on.split)
      ∙ ap (λ q. slice_get q k) (sym (sent-all note step l first life lost es from)) ∙ was in
      let number = on.number in
      let total = place-all l first life lost es n in
      ⊎_elim
      (λ (early : k < length on.gone). omega (arith, early, number, total))
      (λ young. absurd (omega (arith, young, all, due)))
      (get-cases (λ (d : Dated M). open_after 0 (es n) ≤ d.beat + p.delay) on.gone on.left k
      (record { beat = date; item = msg }) at on.young)

  -- whoever returns had taken what was to arrive below the beat that was open to it
  returned-in_time : (l from n i k date : ℕ) (msg : M) → from < nodes → n < nodes → ends_of (links_of p) l ≡ Some (from, n)
      → i < length (es n) → is_return (event_at (es n) i) ≡ true
      → slice_get (sent note step l (history_of first life lost es) from (length (es from))) k
      ≡ Some (record { beat = date; item = msg })
      → date + p.delay < open_beat (history_of first life lost es) n i → k < place l (history_of first life lost es) n i
  returned-in_time l from n i k date msg low_from low ends at back was due =
      let opens = open-front first life lost es n i (omega (arith, at)) in
      let number = place-front l first life lost es n i (omega (arith, at)) in
      let gone = (told.links l from n low_from low ends).timely i (stamp_at (event_at (es n) i)) k
      (record { beat = date; item = msg }) at (return-is (event_at (es n) i) back)
      (ap (λ q. slice_get q k) (sym (sent-all note step l first life lost es from)) ∙ was) (omega (arith, due, opens)) in
      omega (arith, gone, number)

  pub run-of_told : IsRun note step p nodes (history_of first life lost es)
  run-of_told = record {
    in_beat = in-beat;
    returned = λ n i low h back.
        let one = (told.deaths n low).2.returned i h back in
        record { last = one.last; next = one.next; died = one.died; apart = one.apart };
    reads = λ n i low h. all-at (IsShown p) (es n) i h (told.shown n low);
    rising = λ n j i low before h. rising-at (λ e. (stamp_at e).reading) (es n) j i before h (told.rising n low);
    level = level;
    ended = λ n i low h died. (told.deaths n low).2.ended i (record { low = h; died = died });
    once = λ n j i low hj hi dj di.
        (told.deaths n low).2.once j i (record { low = hj; died = dj }) (record { low = hi; died = di });
    fair = λ n i low h.
        subst (λ (s : Past S). AllByRecursion (IsAllowed note p n) (outs_of step (event_at (es n) i) s))
        (sym (past-front note step first life lost es n i (omega (arith, h))))
        (fair-at note step p n (es n) (opening (first n) (life n)) i h (told.fair n low));
    carried = came;
    arrives = arrive;
    in_time = returned-in_time;
    before = λ l from n i stamp low_from low ends h is.
        (told.links l from n low_from low ends).lost_is i stamp h is
        ∙ ap (below stamp.beat) (sym (sent-all note step l first life lost es from));
  }
