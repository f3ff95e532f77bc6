-- A link beside what was sent on it and the events of its receiver, with one event more.
use Rattle.std.proofs.Common.{◌≡◌, ℕ, suc, ◌+◌, ◌<◌, ◌≤◌, List, [], ◌∷◌, ◌++◌, filter, length, zero, true, false}
use Rattle.std.proofs.Common.{Some, refl, ap, sym, ◌∙◌, subst, arith, ⊎_elim, append_assoc, length-append}
use Rattle.std.specs.Prelude.{slice_get, nat_lt, nat_le, ◌==◌, if◌then◌else◌}
use Rattle.std.specs.List.{AllByRecursion}
use Rattle.std.proofs.lemmas.Bool.{cases_Bool, eq-eqb}
use Rattle.std.proofs.lemmas.Bool.Decides.{nat_tests}
use Rattle.std.proofs.lemmas.List.Elements.{filter-append}
use Rattle.tiger_base.specs.declared.number.Stamp.{Stamp}
use Rattle.tiger_base.specs.declared.number.LinkNo.{LinkNo}
use Rattle.node_kit.specs.Steps.Input.{Take, Tick}
use Rattle.node_kit.proofs.Rows.{get-front}
use Rattle.run_facts.specs.Accounts.{Rising, open_after, event_at, front}
use Rattle.run_facts.specs.Events.{NodeEvent, Dated, stamp_at, is_return, is_take_on, take_on}
use Rattle.run_facts.specs.Events.NodeEvent.{Does, Ends, Dies, Returns}
use Rattle.run_facts.specs.Histories.{TakesAt, below, place_behind}
use Rattle.run_facts.proofs.Rows.{all-append, all-right, all-weaker, filter-all, filter-none, rising-right}
use Rattle.run_facts.proofs.Timelines.{open-append}
use Rattle.ring_world.specs.Machine.{Way, dropped, rest_of}
use Rattle.ring_world.specs.Merging.{place_along}
use Rattle.ring_world.proofs.Lists.{get-behind, event-old, event-new, front-old, length-more, old-or-new, get-cases}
use Rattle.ring_world.proofs.Lists.{split-rising, all-from, all-below, rising-both, rising-same}

-- so many messages were sent below each return among the events
abbrev pub IsLost : {M : Type 0} → ℕ → List (Dated M) → List (NodeEvent M) → Type 0
IsLost lost sent es =
    (i : ℕ) (stamp : Stamp) → i < length es → event_at es i ≡ Returns stamp → lost ≡ below stamp.beat sent

-- a message was sent under a number, from one beat to the greatest delay before it is taken
pub record IsCome {M : Type 0} (most : ℕ) (sent : List (Dated M)) (k now : ℕ) (msg : M) : Type 0 where
  pub when : ℕ
  pub was_sent : slice_get sent k ≡ Some (record { beat = when; item = msg })
  pub later : when < now
  pub soon : now ≤ when + most

-- each message that is taken on link l came so under its number
abbrev pub AreCome : {M : Type 0} → ℕ → ℕ → ℕ → List (Dated M) → List (NodeEvent M) → Type 0
AreCome {M} most l lost sent es =
    (i : ℕ) (stamp : Stamp) (link : LinkNo) (msg : M) → i < length es → TakesAt (event_at es i) stamp link msg
    → link.0 ≡ l → IsCome most sent (place_along l lost 0 (front i es)) stamp.beat msg

-- what was to arrive on link l below the beat that was open before a return had gone before it
abbrev pub AreGone : {M : Type 0} → ℕ → ℕ → ℕ → List (Dated M) → List (NodeEvent M) → Type 0
AreGone {M} most l lost sent es =
    (i : ℕ) (stamp : Stamp) (k : ℕ) (d : Dated M) → i < length es → event_at es i ≡ Returns stamp → slice_get sent k ≡ Some d
    → d.beat + most < open_after 0 (front i es) → k < place_along l lost 0 (front i es)

-- link l by a beat: what was sent on it is gone or under way
pub record IsOnWay {M : Type 0} (most now l : ℕ) (w : Way M) (sent : List (Dated M)) (es : List (NodeEvent M)) : Type 0 where
  pub gone : List (Dated M)
  pub split : sent ≡ gone ++ w.under_way
  pub number : length gone ≡ w.gone
  pub before : AllByRecursion (λ (d : Dated M). d.beat < now) gone
  pub old : AllByRecursion (λ (d : Dated M). d.beat ≤ now) w.under_way
  pub young : AllByRecursion (λ (d : Dated M). open_after 0 es ≤ d.beat + most) w.under_way
  pub rising : Rising (λ (d : Dated M). d.beat) w.under_way
  pub place : (lost : ℕ) → IsLost lost sent es → place_along l lost 0 es ≡ w.gone
  pub came : (lost : ℕ) → IsLost lost sent es → AreCome most l lost sent es
  pub timely : (lost : ℕ) → IsLost lost sent es → AreGone most l lost sent es

-- what an event takes from a link: nothing, or the oldest message under way, which was sent in an earlier beat
pub record IsTakenOff {M : Type 0} (beat l : ℕ) (w : Way M) (x : NodeEvent M) : Type 0 where
  pub head : Dated M
  pub tail : List (Dated M)
  pub all : w.under_way ≡ head ∷ tail
  pub takes : take_on l x ≡ (record { beat = beat; item = head.item }) ∷ []
  pub earlier : head.beat < beat

pub no-take : {M : Type 0} (l : ℕ) (x : NodeEvent M) → is_take_on l x ≡ false → take_on l x ≡ []
no-take l (Does (Take s k m)) h = rw h refl
no-take l (Does (Tick s)) h = refl
no-take l (Ends (Take s k m) sends) h = rw h refl
no-take l (Ends (Tick s) sends) h = refl
no-take l (Dies s) h = refl
no-take l (Returns s) h = refl

-- the link behind a take, and behind sends
abbrev pub taken_off : {M : Type 0} → ℕ → NodeEvent M → Way M → Way M
taken_off l x w = record {
  gone = if is_take_on l x then suc w.gone else w.gone;
  under_way = if is_take_on l x then rest_of w.under_way else w.under_way;
}

abbrev pub put_on : {M : Type 0} → List (Dated M) → Way M → Way M
put_on ds w = record { gone = w.gone; under_way = w.under_way ++ ds }

-- the number of the next message, with more events
pub place-append : {M : Type 0} (l lost k : ℕ) (es fs : List (NodeEvent M))
    → place_along l lost k (es ++ fs) ≡ place_along l lost (place_along l lost k es) fs
place-append l lost k [] fs = refl
place-append l lost k (e ∷ es) fs = place-append l lost (place_behind l lost e k) es fs

-- without returns it is the number of messages taken
pub place-one : {M : Type 0} (l lost k : ℕ) (e : NodeEvent M) → is_return e ≡ false
    → place_behind l lost e k ≡ k + length (take_on l e)
place-one l lost k e here = ⊎_elim
    (λ (t : is_take_on l e ≡ true).
    let one = take-length l e t in rw (here, t) (omega (arith, one)))
    (λ (t : is_take_on l e ≡ false).
    let none = ap length (no-take l e t) in rw (here, t) (omega (arith, none)))
    (cases_Bool (is_take_on l e))
  where
    take-length : {M : Type 0} (l : ℕ) (e : NodeEvent M) → is_take_on l e ≡ true → length (take_on l e) ≡ 1
    take-length l (Does (Take s k m)) h = rw h refl
    take-length l (Does (Tick s)) h = absurd (cc)
    take-length l (Ends (Take s k m) sends) h = rw h refl
    take-length l (Ends (Tick s) sends) h = absurd (cc)
    take-length l (Dies s) h = absurd (cc)
    take-length l (Returns s) h = absurd (cc)

-- how many were sent below a beat, with more sent
below-append : {X : Type 0} (b : ℕ) (xs ys : List (Dated X)) → below b (xs ++ ys) ≡ below b xs + below b ys
below-append {X} b xs ys =
    ap length (filter-append (λ (d : Dated X). nat_lt d.beat b) xs ys)
    ∙ length-append (filter (λ (d : Dated X). nat_lt d.beat b) xs) (filter (λ (d : Dated X). nat_lt d.beat b) ys)

pub below-none : {X : Type 0} (b : ℕ) (ys : List (Dated X)) → AllByRecursion (λ (d : Dated X). b ≤ d.beat) ys
    → below b ys ≡ 0
below-none {X} b ys from =
    ap length (filter-none (λ (d : Dated X). nat_lt d.beat b) ys
    (all-weaker (λ (d : Dated X). b ≤ d.beat) (λ d. nat_lt d.beat b ≡ false) ys
    (λ d h. grind (arith, nat_tests, h)) from))

pub below-later : {X : Type 0} (b : ℕ) (xs ys : List (Dated X)) → AllByRecursion (λ (d : Dated X). b ≤ d.beat) ys
    → below b (xs ++ ys) ≡ below b xs
below-later b xs ys from =
    let both = below-append b xs ys in
    let none = below-none b ys from in
    omega (arith, both, none)

below-all : {X : Type 0} (b : ℕ) (xs : List (Dated X)) → AllByRecursion (λ (d : Dated X). d.beat < b) xs
    → below b xs ≡ length xs
below-all {X} b xs low =
    ap length (filter-all (λ (d : Dated X). nat_lt d.beat b) xs
    (all-weaker (λ (d : Dated X). d.beat < b) (λ d. nat_lt d.beat b ≡ true) xs
    (λ d h. grind (arith, nat_tests, h)) low))

-- what is lost by the first of the events, and before more is sent
pub lost-front : {M : Type 0} (lost : ℕ) (sent : List (Dated M)) (es fs : List (NodeEvent M))
    → IsLost lost sent (es ++ fs) → IsLost lost sent es
lost-front lost sent es fs h i stamp low is =
    let all = length-append es fs in
    h i stamp (omega (arith, low, all)) (event-old es fs i low ∙ is)

pub lost-before : {M : Type 0} (lost beat : ℕ) (sent ds : List (Dated M)) (es : List (NodeEvent M))
    → AllByRecursion (λ (d : Dated M). beat ≤ d.beat) ds
    → ((i : ℕ) → i < length es → (stamp_at (event_at es i)).beat ≤ beat)
    → IsLost lost (sent ++ ds) es → IsLost lost sent es
lost-before {M} lost beat sent ds es from early h i stamp low is =
    let top : stamp.beat ≤ beat = subst (λ (e : NodeEvent M). (stamp_at e).beat ≤ beat) is (early i low) in
    h i stamp low is ∙ below-later stamp.beat sent ds
    (all-weaker (λ (d : Dated M). beat ≤ d.beat) (λ d. stamp.beat ≤ d.beat) ds (λ d g. omega (arith, g, top)) from)

-- the beat goes on
pub way-later : {M : Type 0} (most now beat l : ℕ) (w : Way M) (sent : List (Dated M)) (es : List (NodeEvent M))
    → now ≤ beat → IsOnWay most now l w sent es → IsOnWay most beat l w sent es
way-later {M} most now beat l w sent es goes on = record {
  gone = on.gone;
  split = on.split;
  number = on.number;
  before = all-weaker (λ (d : Dated M). d.beat < now) (λ d. d.beat < beat) on.gone (λ d h. omega (arith, h, goes)) on.before;
  old = all-weaker (λ (d : Dated M). d.beat ≤ now) (λ d. d.beat ≤ beat) w.under_way (λ d h. omega (arith, h, goes)) on.old;
  young = on.young;
  rising = on.rising;
  place = on.place;
  came = on.came;
  timely = on.timely;
}

get-inside : {X : Type 0} (xs ys : List X) (k : ℕ) → k < length xs → slice_get (xs ++ ys) k ≡ slice_get xs k
get-inside [] ys k low = absurd (omega (arith, low))
get-inside (x ∷ xs) ys zero low = refl
get-inside (x ∷ xs) ys (suc k) low = get-inside xs ys k (omega (arith, low))

-- more is sent
pub way-sent : {M : Type 0} (most beat l : ℕ) (w : Way M) (sent ds : List (Dated M)) (es : List (NodeEvent M))
    → AllByRecursion (λ (d : Dated M). d.beat ≡ beat) ds → open_after 0 es ≤ beat + most
    → ((i : ℕ) → i < length es → (stamp_at (event_at es i)).beat ≤ beat)
    → ((i : ℕ) → i < length es → open_after 0 (front i es) ≤ beat)
    → IsOnWay most beat l w sent es → IsOnWay most beat l (put_on ds w) (sent ++ ds) es
way-sent {M} most beat l w sent ds es dated high early opened on =
    let from : AllByRecursion (λ (d : Dated M). beat ≤ d.beat) ds =
    all-weaker (λ (d : Dated M). d.beat ≡ beat) (λ d. beat ≤ d.beat) ds (λ d e. omega (arith, e)) dated in
    record {
      gone = on.gone;
      split = ap (λ xs. xs ++ ds) on.split ∙ append_assoc on.gone w.under_way ds;
      number = on.number;
      before = on.before;
      old = all-append (λ (d : Dated M). d.beat ≤ beat) w.under_way ds on.old
          (all-weaker (λ (d : Dated M). d.beat ≡ beat) (λ d. d.beat ≤ beat) ds (λ d e. omega (arith, e)) dated);
      young = all-append (λ (d : Dated M). open_after 0 es ≤ d.beat + most) w.under_way ds on.young
          (all-weaker (λ (d : Dated M). d.beat ≡ beat) (λ d. open_after 0 es ≤ d.beat + most) ds
          (λ d e. omega (arith, e, high)) dated);
      rising = rising-both (λ (d : Dated M). d.beat) beat w.under_way ds on.rising on.old
          (rising-same (λ (d : Dated M). d.beat) beat ds dated) from;
      place = λ lost is. on.place lost (lost-before lost beat sent ds es from early is);
      came = λ lost is i stamp link msg low takes same.
          let one = on.came lost (lost-before lost beat sent ds es from early is) i stamp link msg low takes same in
          record {
            when = one.when;
            was_sent = get-front sent ds (place_along l lost 0 (front i es)) (record { beat = one.when; item = msg }) one.was_sent;
            later = one.later;
            soon = one.soon;
          };
      timely = λ lost is i stamp k d low back at due.
          let opens = opened i low in
          ⊎_elim
          (λ (inner : k < length sent).
          on.timely lost (lost-before lost beat sent ds es from early is) i stamp k d low back
          (sym (get-inside sent ds k inner) ∙ at) due)
          (λ (new : d.beat ≡ beat). absurd (omega (arith, new, opens, due)))
          (get-cases (λ (q : Dated M). q.beat ≡ beat) sent ds k d at dated);
    }

takes-none : {M : Type 0} (l : ℕ) (x : NodeEvent M) (stamp : Stamp) (link : LinkNo) (msg : M) → TakesAt x stamp link msg
    → link.0 ≡ l → take_on l x ≡ (record { beat = stamp.beat; item = msg }) ∷ []
takes-none {M} l x stamp link msg takes same =
    let hit : (link.0 == l) ≡ true = eq-eqb link.0 l same in
    ⊎_elim
    (λ (is : x ≡ Does (Take stamp link msg)). ap (take_on l) is ∙ (rw hit refl))
    (λ (cut : (sends : ℕ) × (x ≡ Ends (Take stamp link msg) sends)). ap (take_on l) cut.1 ∙ (rw hit refl))
    takes

module _ {M : Type 0} (most now beat l : ℕ) (w : Way M) (sent : List (Dated M)) (es : List (NodeEvent M)) (x : NodeEvent M)
    (goes : now ≤ beat) (on : IsOnWay most now l w sent es) where
  -- the receiver's events with one more: what is taken in it comes under the number that is next
  came-more : (lost : ℕ) → IsLost lost sent (es ++ x ∷ [])
      → ((stamp : Stamp) (link : LinkNo) (msg : M) → TakesAt x stamp link msg → link.0 ≡ l
      → IsCome most sent w.gone stamp.beat msg) → AreCome most l lost sent (es ++ x ∷ [])
  came-more lost is new i stamp link msg low takes same =
      let before = lost-front lost sent es (x ∷ []) is in
      ⊎_elim
      (λ (old : i < length es).
      subst (λ fs. IsCome most sent (place_along l lost 0 fs) stamp.beat msg) (sym (front-old es (x ∷ []) i (omega (arith, old))))
      (on.came lost before i stamp link msg old
      (subst (λ (e : NodeEvent M). TakesAt e stamp link msg) (event-old es (x ∷ []) i old) takes) same))
      (λ (end : i ≡ length es).
      let front_is : front i (es ++ x ∷ []) ≡ es = front-end es x i end in
      subst (λ k. IsCome most sent k stamp.beat msg) (sym (ap (place_along l lost 0) front_is ∙ on.place lost before))
      (new stamp link msg (subst (λ (e : NodeEvent M). TakesAt e stamp link msg) (event-new es x i end) takes) same))
      (old-or-new es x i low)
    where
      front-end : (fs : List (NodeEvent M)) (y : NodeEvent M) (k : ℕ) → k ≡ length fs → front k (fs ++ y ∷ []) ≡ fs
      front-end [] y k end = subst (λ j. front j (y ∷ []) ≡ []) (sym end) refl
      front-end (f ∷ fs) y zero end = absurd (omega (arith, end))
      front-end (f ∷ fs) y (suc k) end = ap (λ gs. f ∷ gs) (front-end fs y k (omega (arith, end)))

  -- and if the further one is a return, what was to arrive before it had gone, since what is under way may arrive later
  timely-more : (lost : ℕ) → IsLost lost sent (es ++ x ∷ []) → AreGone most l lost sent (es ++ x ∷ [])
  timely-more lost is i stamp k d low back at due =
      let before = lost-front lost sent es (x ∷ []) is in
      ⊎_elim
      (λ (old : i < length es).
      let same = front-old es (x ∷ []) i (omega (arith, old)) in
      subst (λ fs. k < place_along l lost 0 fs) (sym same)
      (on.timely lost before i stamp k d old (sym (event-old es (x ∷ []) i old) ∙ back) at
      (subst (λ fs. d.beat + most < open_after 0 fs) same due)))
      (λ (end : i ≡ length es).
      let same = front-old es (x ∷ []) i (omega (arith, end)) ∙ front-whole es i end in
      let opened_by : d.beat + most < open_after 0 es = subst (λ fs. d.beat + most < open_after 0 fs) same due in
      let number = on.number in
      let next = on.place lost before in
      subst (λ fs. k < place_along l lost 0 fs) (sym same) (⊎_elim
      (λ (inner : k < length on.gone). omega (arith, inner, number, next))
      (λ (young : open_after 0 es ≤ d.beat + most). absurd (omega (arith, young, opened_by)))
      (get-cases (λ (q : Dated M). open_after 0 es ≤ q.beat + most) on.gone w.under_way k d
      (ap (λ q. slice_get q k) (sym on.split) ∙ at) on.young)))
      (old-or-new es x i low)
    where
      front-whole : (fs : List (NodeEvent M)) (j : ℕ) → j ≡ length fs → front j fs ≡ fs
      front-whole [] zero end = refl
      front-whole [] (suc j) end = refl
      front-whole (f ∷ fs) zero end = absurd (omega (arith, end))
      front-whole (f ∷ fs) (suc j) end = ap (λ gs. f ∷ gs) (front-whole fs j (omega (arith, end)))

  before-later : AllByRecursion (λ (d : Dated M). d.beat < beat) on.gone
  before-later = all-weaker (λ (d : Dated M). d.beat < now) (λ d. d.beat < beat) on.gone (λ d h. omega (arith, h, goes)) on.before

  old-later : AllByRecursion (λ (d : Dated M). d.beat ≤ beat) w.under_way
  old-later = all-weaker (λ (d : Dated M). d.beat ≤ now) (λ d. d.beat ≤ beat) w.under_way (λ d h. omega (arith, h, goes)) on.old

  opened : open_after 0 (es ++ x ∷ []) ≡ open_after (open_after 0 es) (x ∷ [])
  opened = open-append 0 es (x ∷ [])

  -- it takes nothing here
  pub way-idle : is_return x ≡ false → is_take_on l x ≡ false
      → AllByRecursion (λ (d : Dated M). open_after 0 (es ++ x ∷ []) ≤ d.beat + most) w.under_way
      → IsOnWay most beat l w sent (es ++ x ∷ [])
  way-idle here idle young = record {
    gone = on.gone;
    split = on.split;
    number = on.number;
    before = before-later;
    old = old-later;
    young = young;
    rising = on.rising;
    place = λ lost is.
        let before = lost-front lost sent es (x ∷ []) is in
        place-append l lost 0 es (x ∷ [])
        ∙ (let q : place_along l lost (place_along l lost 0 es) (x ∷ []) ≡ place_along l lost 0 es = rw (here, idle) refl in q)
        ∙ on.place lost before;
    came = λ lost is. came-more lost is (λ stamp link msg takes same.
        let q : ◌≡◌ {A = List (Dated M)} [] ((record { beat = stamp.beat; item = msg }) ∷ []) =
        sym (no-take l x idle) ∙ takes-none l x stamp link msg takes same in absurd (cc));
    timely = timely-more;
  }

  -- it takes the oldest message
  pub way-taken : is_return x ≡ false → is_take_on l x ≡ true → IsTakenOff beat l w x → open_after 0 es ≡ beat
      → open_after 0 (es ++ x ∷ []) ≡ beat → IsOnWay most beat l (taken_off l x w) sent (es ++ x ∷ [])
  way-taken here taking off now_open still_open =
      let young = subst (λ (ws : List (Dated M)). AllByRecursion (λ (d : Dated M). open_after 0 es ≤ d.beat + most) ws) off.all on.young in
      let old = subst (λ (ws : List (Dated M)). AllByRecursion (λ (d : Dated M). d.beat ≤ beat) ws) off.all old-later in
      let rising = subst (λ (ws : List (Dated M)). Rising (λ (d : Dated M). d.beat) ws) off.all on.rising in
      let split : sent ≡ on.gone ++ off.head ∷ off.tail = on.split ∙ ap (λ xs. on.gone ++ xs) off.all in
      let number = on.number in
      let earlier = off.earlier in
      let soon = young.0 in
      let way : taken_off l x w ≡ record { gone = suc w.gone; under_way = off.tail } = rw (taking, off.all) refl in
      subst (λ (v : Way M). IsOnWay most beat l v sent (es ++ x ∷ [])) (sym way)
      (record {
        gone = on.gone ++ off.head ∷ [];
        split = split ∙ sym (append_assoc on.gone (off.head ∷ []) off.tail);
        number = length-more on.gone off.head ∙ ap suc number;
        before = all-append (λ (d : Dated M). d.beat < beat) on.gone (off.head ∷ []) before-later (earlier, tt);
        old = old.1;
        young = all-weaker (λ (d : Dated M). open_after 0 es ≤ d.beat + most)
            (λ d. open_after 0 (es ++ x ∷ []) ≤ d.beat + most) off.tail
            (λ d h. omega (arith, h, now_open, still_open)) young.1;
        rising = rising.1;
        timely = timely-more;
        place = λ lost is.
            let before = lost-front lost sent es (x ∷ []) is in
            place-append l lost 0 es (x ∷ [])
            ∙ (let q : place_along l lost (place_along l lost 0 es) (x ∷ []) ≡ suc (place_along l lost 0 es) = rw (here, taking) refl in q)
            ∙ ap suc (on.place lost before);
        came = λ lost is. came-more lost is (λ stamp link msg takes same.
            let both : (record { beat = stamp.beat; item = msg }) ∷ [] ≡ (record { beat = beat; item = off.head.item }) ∷ [] =
            sym (takes-none l x stamp link msg takes same) ∙ off.takes in
            let one : ◌≡◌ {A = Dated M} (record { beat = stamp.beat; item = msg }) (record { beat = beat; item = off.head.item }) = cc in
            let when : stamp.beat ≡ beat = ap (λ (d : Dated M). d.beat) one in
            let what : msg ≡ off.head.item = ap (λ (d : Dated M). d.item) one in
            record {
              when = off.head.beat;
              was_sent = ap (λ q. slice_get q w.gone) split ∙ get-behind on.gone off.head off.tail w.gone (sym number)
                  ∙ ap (λ (m : M). Some (record { beat = off.head.beat; item = m })) (sym what);
              later = omega (arith, earlier, when);
              soon = omega (arith, soon, now_open, when);
            });
      })

  -- it is the return of the receiver: what was sent in lower beats is lost
  pub way-dropped : (stamp : Stamp) → x ≡ Returns stamp → stamp.beat ≡ beat
      → IsOnWay most beat l (dropped beat w) sent (es ++ x ∷ [])
  way-dropped stamp is dated =
      let below_it = filter (λ (d : Dated M). nat_lt d.beat beat) w.under_way in
      let from_it = filter (λ (d : Dated M). nat_le beat d.beat) w.under_way in
      let parts : w.under_way ≡ below_it ++ from_it = split-rising (λ (d : Dated M). d.beat) beat w.under_way on.rising in
      let number = on.number in
      let both = length-append on.gone below_it in
      let back : is_return x ≡ true = ap is_return is in
      let opens : open_after 0 (es ++ x ∷ []) ≡ beat = opened ∙ ap (λ (e : NodeEvent M). open_after (open_after 0 es) (e ∷ [])) is ∙ dated in
      let split : sent ≡ (on.gone ++ below_it) ++ from_it =
      on.split ∙ ap (λ xs. on.gone ++ xs) parts ∙ sym (append_assoc on.gone below_it from_it) in
      let gone_low = all-append (λ (d : Dated M). d.beat < beat) on.gone below_it before-later
      (all-below (λ (d : Dated M). d.beat) beat w.under_way) in
      let high = all-from (λ (d : Dated M). d.beat) beat w.under_way in
      let counted : below beat sent ≡ length (on.gone ++ below_it) =
      ap (below beat) split ∙ below-later beat (on.gone ++ below_it) from_it high ∙ below-all beat (on.gone ++ below_it) gone_low in
      record {
        gone = on.gone ++ below_it;
        split = split;
        number = omega (arith, both, number);
        before = gone_low;
        old = all-right (λ (d : Dated M). d.beat ≤ beat) below_it from_it
            (subst (AllByRecursion (λ (d : Dated M). d.beat ≤ beat)) parts old-later);
        young = all-weaker (λ (d : Dated M). beat ≤ d.beat) (λ d. open_after 0 (es ++ x ∷ []) ≤ d.beat + most) from_it
            (λ d h. omega (arith, h, opens)) high;
        rising = rising-right (λ (d : Dated M). d.beat) below_it from_it
            (subst (λ (ws : List (Dated M)). Rising (λ (d : Dated M). d.beat) ws) parts on.rising);
        timely = timely-more;
        place = λ lost lost_is.
            let all = length-more es x in
            let known = lost_is (length es) stamp (omega (arith, all)) (event-new es x (length es) refl ∙ is) in
            let known_here : lost ≡ below beat sent = known ∙ ap (λ b. below b sent) dated in
            place-append l lost 0 es (x ∷ [])
            ∙ (let q : place_along l lost (place_along l lost 0 es) (x ∷ []) ≡ lost = rw back refl in q)
            ∙ (let q : lost ≡ w.gone + length below_it = omega (arith, known_here, counted, both, number) in q);
        came = λ lost lost_is. came-more lost lost_is (λ when link msg takes same.
            let q = sym (takes-none l x when link msg takes same) ∙ ap (take_on l) is in absurd (cc));
      }
