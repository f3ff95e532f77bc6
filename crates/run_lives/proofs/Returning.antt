-- A node's events as two lives: those up to its death, and those from its return on.
use Rattle.std.proofs.Common.{◌≡◌, ℕ, zero, suc, ◌+◌, ◌<◌, ◌≤◌, List, [], ◌∷◌, ◌++◌, filter, length, true, false}
use Rattle.std.proofs.Common.{Option}
use Rattle.std.proofs.Common.{Some, None, refl, ap, sym, ◌∙◌, subst, arith, append_assoc, append-nil}
use Rattle.std.specs.Prelude.{nat_lt, nat_le}
use Rattle.std.specs.List.{AllByRecursion}
use Rattle.std.proofs.lemmas.Bool.Decides.{nat_tests}
use Rattle.std.proofs.lemmas.List.Elements.{filter-append}
use Rattle.tiger_base.specs.declared.number.Stamp.{Stamp}
use Rattle.slot_plan.specs.declared.params.Params.{Params}
use Rattle.node_kit.specs.Courses.{ReturnsLater}
use Rattle.node_kit.specs.Life.{Lifetime}
use Rattle.run_facts.specs.Accounts.{open_after, AreAlive, AreHere, EndAt, IsTimeline, event_at}
use Rattle.run_facts.specs.Events.{NodeEvent, Dated, stamp_at, is_death, is_return, takes_along}
use Rattle.run_facts.specs.Events.NodeEvent.{Does, Ends, Dies, Returns}
use Rattle.run_facts.specs.Timed.{death_within}
use Rattle.run_facts.proofs.Along.{takes-append}
use Rattle.run_facts.proofs.Fronts.{lived}
use Rattle.run_facts.proofs.Indexed.{all-at}
use Rattle.run_facts.proofs.Rows.{all-append, all-weaker, filter-all, filter-none}
use Rattle.run_lives.proofs.Around.{around-of, again-of, end-of}
use Rattle.run_lives.proofs.Numbers.{takes-dated}
use Rattle.run_lives.proofs.Picking.{is_below}
use Rattle.run_lives.proofs.Standing.{within-of, open-back}

pub died-here : {M : Type 0} (e : NodeEvent M) → is_death e ≡ true → is_return e ≡ false
died-here (Does i) h = refl
died-here (Ends i k) h = refl
died-here (Dies s) h = refl
died-here (Returns s) h = absurd (cc)

-- a run that comes to a return came to the death
pub dies-before : (next : ℕ) (death back : Option ℕ) (w : ℕ) → ReturnsLater death back → death_within next back ≡ Some w
    → (d : ℕ) × (death_within next death ≡ Some d) × (d + 2 ≤ w)
dies-before next death None w later h = absurd (cc)
dies-before next None (Some x) w later h = absurd later
dies-before next (Some d) (Some x) w later h =
    let at = within-of next w (Some x) h in
    let one : Some x ≡ Some w = at.0 in
    let same : x ≡ w = cc in
    let soon = at.1 in
    let low : nat_lt d next ≡ true = grind (arith, nat_tests, later, same, soon) in
    (d, rw low refl, omega (arith, later, same))

-- a node whose return the run comes to
pub record HasReturned {M : Type 0} (when : ℕ → Stamp) (next death back : ℕ) (es : List (NodeEvent M)) : Type 0 where
  pub front : List (NodeEvent M)
  pub last : NodeEvent M
  pub rest : List (NodeEvent M)
  pub parts : es ≡ (front ++ last ∷ []) ++ Returns (when back) ∷ rest
  pub alive : AreAlive front
  pub opens_first : open_after 0 front ≡ death
  pub died : is_death last ≡ true
  pub at : stamp_at last ≡ when death
  pub here_first : AreHere (front ++ last ∷ [])
  pub low : AllByRecursion (λ e. (stamp_at e).beat ≤ death) (front ++ last ∷ [])
  pub alive_rest : AreAlive rest
  pub here_rest : AreHere rest
  pub late : AllByRecursion (λ e. back ≤ (stamp_at e).beat) rest
  pub apart : death + 2 ≤ back
  pub opens : open_after 0 es ≡ next

module _ {M : Type 0} (when : ℕ → Stamp) (p : Params) (n : ℕ) (death left back : Option ℕ)
    (later : ReturnsLater death back) (dated : (b : ℕ) → (when b).beat ≡ b) (next : ℕ) (es : List (NodeEvent M))
    (timeline : IsTimeline when p n (lived death left back) next es) where
  abbrev its_life : Lifetime
  its_life = lived death left back

  pub ends-by : (o w : Option ℕ) → death_within next death ≡ o → death_within next back ≡ w → EndAt when next o w es
  ends-by o w is there = subst (λ q. EndAt {M = M} when next o q es) there
      (end-of when p n its_life next o es is timeline)

  abbrev pub returned-of : (w : ℕ) → death_within next back ≡ Some w → (d : ℕ) × HasReturned when next d w es
  returned-of w there =
      let died = dies-before next death back w later there in
      let d = died.0 in
      let end = ends-by (Some d) (Some w) died.1 there in
      let a = around-of when next d (Some w) es dated timeline.counted end in
      let on = again-of when next d w _ a.more dated a.counted a.go_on in
      let at : (stamp_at a.last).beat ≡ d = ap (λ (s : Stamp). s.beat) a.at ∙ dated d in (
        d,
        record {
          front = a.front;
          last = a.last;
          rest = on.rest;
          parts = a.parts ∙ ap (λ qs. a.front ++ a.last ∷ qs) on.all
              ∙ sym (append_assoc a.front (a.last ∷ []) (Returns (when w) ∷ on.rest));
          alive = a.alive;
          opens_first = a.opens;
          died = a.died;
          at = a.at;
          here_first = all-append (λ (e : NodeEvent M). is_return e ≡ false) a.front (a.last ∷ []) a.here
              (died-here a.last a.died, tt);
          low = all-append (λ (e : NodeEvent M). (stamp_at e).beat ≤ d) a.front (a.last ∷ []) a.low
              (omega (arith, at), tt);
          alive_rest = on.alive;
          here_rest = on.here;
          late = on.late;
          apart = on.apart;
          opens = open-back when next d w es dated end;
        },
      )

  here-by : (o : Option ℕ) → death_within next death ≡ o → death_within next back ≡ None → AreHere es
  here-by None is there = (ends-by None None is there).1
  here-by (Some d) is there =
      let end = ends-by (Some d) None is there in
      let a = around-of when next d None es dated timeline.counted end in
      subst AreHere (sym (a.parts ∙ ap (λ qs. a.front ++ a.last ∷ qs) a.go_on))
      (all-append (λ (e : NodeEvent M). is_return e ≡ false) a.front (a.last ∷ []) a.here
      (died-here a.last a.died, tt))

  -- and one whose return it does not come to
  pub here-of : death_within next back ≡ None → AreHere es
  here-of there = here-by (death_within next death) refl there

-- what is taken in the first life, and from the return on
module _ {M : Type 0} (when : ℕ → Stamp) (next d w : ℕ) (es : List (NodeEvent M)) (dated : (b : ℕ) → (when b).beat ≡ b)
    (two : HasReturned when next d w es) (l : ℕ) where
  abbrev one : List (NodeEvent M)
  one = two.front ++ two.last ∷ []

  both-takes : takes_along l es ≡ takes_along l one ++ takes_along l two.rest
  both-takes = ap (takes_along l) two.parts ∙ takes-append l one (Returns (when w) ∷ two.rest)

  early-takes : AllByRecursion (λ (x : Dated M). x.beat < w) (takes_along l one)
  early-takes =
      let apart = two.apart in
      takes-dated (λ b. b < w) l one (all-weaker (λ (e : NodeEvent M). (stamp_at e).beat ≤ d)
      (λ e. (stamp_at e).beat < w) one (λ e h. omega (arith, h, apart)) two.low)

  late-takes : AllByRecursion (λ (x : Dated M). w ≤ x.beat) (takes_along l two.rest)
  late-takes = takes-dated (λ b. w ≤ b) l two.rest two.late

  pub taken-first : filter (λ (x : Dated M). is_below (Some w) x.beat) (takes_along l es) ≡ takes_along l one
  taken-first =
      let test = λ (x : Dated M). nat_lt x.beat w in
      let all = filter-all test (takes_along l one) (all-weaker (λ (x : Dated M). x.beat < w) (λ x. test x ≡ true)
      (takes_along l one) (λ x h. grind (arith, nat_tests, h)) early-takes) in
      let none = filter-none test (takes_along l two.rest) (all-weaker (λ (x : Dated M). w ≤ x.beat)
      (λ x. test x ≡ false) (takes_along l two.rest) (λ x h. grind (arith, nat_tests, h)) late-takes) in
      ap (filter test) both-takes ∙ filter-append test (takes_along l one) (takes_along l two.rest)
      ∙ ap (λ qs. qs ++ filter test (takes_along l two.rest)) all ∙ ap (λ qs. takes_along l one ++ qs) none
      ∙ append-nil (takes_along l one)

  pub taken-since : filter (λ (x : Dated M). nat_le w x.beat) (takes_along l es) ≡ takes_along l two.rest
  taken-since =
      let test = λ (x : Dated M). nat_le w x.beat in
      let none = filter-none test (takes_along l one) (all-weaker (λ (x : Dated M). x.beat < w) (λ x. test x ≡ false)
      (takes_along l one) (λ x h. grind (arith, nat_tests, h)) early-takes) in
      let all = filter-all test (takes_along l two.rest) (all-weaker (λ (x : Dated M). w ≤ x.beat)
      (λ x. test x ≡ true) (takes_along l two.rest) (λ x h. grind (arith, nat_tests, h)) late-takes) in
      ap (filter test) both-takes ∙ filter-append test (takes_along l one) (takes_along l two.rest)
      ∙ ap (λ qs. qs ++ filter test (takes_along l two.rest)) none ∙ all

-- where deaths and returns stand
pub death-place : {M : Type 0} (front more : List (NodeEvent M)) (last : NodeEvent M) (i : ℕ) → AreAlive front
    → AreAlive more → i < length (front ++ last ∷ more) → is_death (event_at (front ++ last ∷ more) i) ≡ true
    → i ≡ length front
death-place [] more last zero alive later low died = refl
death-place [] more last (suc i) alive later low died =
    let q : true ≡ false = sym died ∙ all-at (λ e. is_death e ≡ false) more i (omega (arith, low)) later in
    absurd (cc)
death-place (e ∷ es) more last zero alive later low died =
    let q : true ≡ false = sym died ∙ alive.0 in absurd (cc)
death-place (e ∷ es) more last (suc i) alive later low died =
    ap suc (death-place es more last i alive.1 later (omega (arith, low)) died)

pub return-place : {M : Type 0} (one rest : List (NodeEvent M)) (back : NodeEvent M) (i : ℕ) → AreHere one
    → AreHere rest → i < length (one ++ back ∷ rest) → is_return (event_at (one ++ back ∷ rest) i) ≡ true
    → i ≡ length one
return-place [] rest back zero here later low is = refl
return-place [] rest back (suc i) here later low is =
    let q : true ≡ false = sym is ∙ all-at (λ e. is_return e ≡ false) rest i (omega (arith, low)) later in
    absurd (cc)
return-place (e ∷ es) rest back zero here later low is =
    let q : true ≡ false = sym is ∙ here.0 in absurd (cc)
return-place (e ∷ es) rest back (suc i) here later low is =
    ap suc (return-place es rest back i here.1 later (omega (arith, low)) is)

-- the event behind others
pub event-next : {M : Type 0} (es rest : List (NodeEvent M)) (e : NodeEvent M) → event_at (es ++ e ∷ rest)
    (length es) ≡ e
event-next [] rest e = refl
event-next (f ∷ es) rest e = event-next es rest e
