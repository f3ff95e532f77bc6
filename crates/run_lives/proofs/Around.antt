-- A node's events around its death: those before it, the death itself, and those from the return on.
use Rattle.std.proofs.Common.{◌≡◌, ℕ, suc, ◌+◌, ◌≤◌, List, [], ◌∷◌, ◌++◌, Bool, true, false, Option, Some, None, refl}
use Rattle.std.proofs.Common.{sym, subst, cond, arith}
use Rattle.std.specs.List.{AllByRecursion}
use Rattle.tiger_base.specs.declared.number.Stamp.{Stamp}
use Rattle.slot_plan.specs.declared.params.Params.{Params}
use Rattle.node_kit.specs.Life.{Lifetime}
use Rattle.node_kit.specs.Steps.{stamp_of}
use Rattle.run_facts.specs.Accounts.{open_after, IsOpen, AreCounted, AreAlive, AreHere, GoOn, EndAt, IsTimeline}
use Rattle.run_facts.specs.Events.{NodeEvent, stamp_at, is_death, is_tick_input, behind}
use Rattle.run_facts.specs.Events.NodeEvent.{Does, Ends, Dies, Returns}
use Rattle.run_facts.specs.Timed.{death_within}
use Rattle.run_facts.proofs.Rows.{all-weaker}
use Rattle.run_facts.proofs.Timelines.{rising-counted}

pub counted-left : {M : Type 0} (t : ℕ) (es fs : List (NodeEvent M)) → AreCounted t (es ++ fs) → AreCounted t es
counted-left t [] fs h = tt
counted-left t (e ∷ es) fs h = (h.0, counted-left (behind e t) es fs h.1)

pub counted-right : {M : Type 0} (t : ℕ) (es fs : List (NodeEvent M)) → AreCounted t (es ++ fs)
    → AreCounted (open_after t es) fs
counted-right t [] fs h = h
counted-right t (e ∷ es) fs h = counted-right (behind e t) es fs h.1

-- no event is behind the beat that is open when all have happened
step-on : (b : Bool) (t beat : ℕ) → beat ≡ t → (t ≤ cond b (suc t) t) × (beat ≤ cond b (suc t) t)
step-on true t beat h = (omega arith, omega (arith, h))
step-on false t beat h = (omega arith, omega (arith, h))

opens-on : {M : Type 0} (t : ℕ) (e : NodeEvent M) → IsOpen t e → (t ≤ behind e t) × ((stamp_at e).beat ≤ behind e t)
opens-on t (Does i) h = step-on (is_tick_input i) t (stamp_of i).beat h
opens-on t (Ends i sends) h = step-on (is_tick_input i) t (stamp_of i).beat h
opens-on t (Dies s) h = (omega arith, omega (arith, h))
opens-on t (Returns s) h = (h, omega arith)

open-grows : {M : Type 0} (t : ℕ) (es : List (NodeEvent M)) → AreCounted t es → t ≤ open_after t es
open-grows t [] h = omega arith
open-grows t (e ∷ es) h =
    let one = (opens-on t e h.0).0 in
    let rest = open-grows (behind e t) es h.1 in
    omega (arith, one, rest)

pub counted-low : {M : Type 0} (t : ℕ) (es : List (NodeEvent M)) → AreCounted t es
    → AllByRecursion (λ e. (stamp_at e).beat ≤ open_after t es) es
counted-low t [] h = tt
counted-low t (e ∷ es) h =
    let one = (opens-on t e h.0).1 in
    let rest = open-grows (behind e t) es h.1 in
    (omega (arith, one, rest), counted-low (behind e t) es h.1)

-- the events from a return on, which has come
pub record IsAgain {M : Type 0} (when : ℕ → Stamp) (next death back : ℕ) (more : List (NodeEvent M)) : Type 0 where
  pub rest : List (NodeEvent M)
  pub all : more ≡ Returns (when back) ∷ rest
  pub alive : AreAlive rest
  pub here : AreHere rest
  pub opens : open_after back rest ≡ next
  pub apart : death + 2 ≤ back
  pub counted : AreCounted back rest
  pub late : AllByRecursion (λ e. back ≤ (stamp_at e).beat) rest

pub again-of : {M : Type 0} (when : ℕ → Stamp) (next death back t : ℕ) (more : List (NodeEvent M))
    → ((b : ℕ) → (when b).beat ≡ b) → AreCounted t more → GoOn when next death (Some back) more
    → IsAgain when next death back more
again-of {M} when next death back t more dated counted go =
    let now = subst (AreCounted t) go.1 counted in
    let rest = subst (λ k. AreCounted k go.0) (dated back) now.1 in
    record {
      rest = go.0;
      all = go.1;
      alive = go.2;
      here = go.3;
      opens = go.4;
      apart = go.5;
      counted = rest;
      late = (rising-counted back go.0 rest).0;
    }

-- behind a death nothing is a death, and all is two beats later or more
more-alive : {M : Type 0} (when : ℕ → Stamp) (next death : ℕ) (o : Option ℕ) (more : List (NodeEvent M))
    → GoOn when next death o more → AreAlive more
more-alive when next death None more go = subst AreAlive (sym go) tt
more-alive when next death (Some back) more go = subst AreAlive (sym go.1) (refl, go.2)

more-late : {M : Type 0} (when : ℕ → Stamp) (next death t : ℕ) (o : Option ℕ) (more : List (NodeEvent M))
    → ((b : ℕ) → (when b).beat ≡ b) → AreCounted t more → GoOn when next death o more
    → AllByRecursion (λ e. death + 2 ≤ (stamp_at e).beat) more
more-late {M} when next death t None more dated counted go =
    subst (AllByRecursion (λ (e : NodeEvent M). death + 2 ≤ (stamp_at e).beat)) (sym go) tt
more-late {M} when next death t (Some back) more dated counted go =
    let on = again-of when next death back t more dated counted go in
    let apart = on.apart in
    let now = dated back in
    subst (AllByRecursion (λ (e : NodeEvent M). death + 2 ≤ (stamp_at e).beat)) (sym on.all) (
      omega (arith, apart, now),
      all-weaker (λ (e : NodeEvent M). back ≤ (stamp_at e).beat) (λ e. death + 2 ≤ (stamp_at e).beat) on.rest
          (λ e h. omega (arith, h, apart)) on.late,
    )

pub record IsAround {M : Type 0} (when : ℕ → Stamp) (next death : ℕ) (back : Option ℕ) (es : List (NodeEvent M))
    : Type 0 where
  pub front : List (NodeEvent M)
  pub last : NodeEvent M
  pub more : List (NodeEvent M)
  pub parts : es ≡ front ++ last ∷ more
  pub alive : AreAlive front
  pub here : AreHere front
  pub opens : open_after 0 front ≡ death
  pub died : is_death last ≡ true
  pub at : stamp_at last ≡ when death
  pub go_on : GoOn when next death back more
  pub low : AllByRecursion (λ e. (stamp_at e).beat ≤ death) front
  pub counted : AreCounted (behind last death) more
  pub alive_more : AreAlive more
  pub late : AllByRecursion (λ e. death + 2 ≤ (stamp_at e).beat) more

pub around-of : {M : Type 0} (when : ℕ → Stamp) (next death : ℕ) (back : Option ℕ) (es : List (NodeEvent M))
    → ((b : ℕ) → (when b).beat ≡ b) → AreCounted 0 es → EndAt when next (Some death) back es
    → IsAround when next death back es
around-of {M} when next death back es dated counted end =
    let front = end.0 in
    let last = end.1 in
    let more = end.2 in
    let total = end.6 in
    let all = subst (AreCounted 0) end.3 counted in
    let low = counted-low 0 front (counted-left 0 front (last ∷ more) all) in
    let rest = subst (λ t. AreCounted (behind last t) more) total (counted-right 0 front (last ∷ more) all).1 in
    record {
      front = front;
      last = last;
      more = more;
      parts = end.3;
      alive = end.4;
      here = end.5;
      opens = total;
      died = end.7;
      at = end.8;
      go_on = end.9;
      low = subst (λ t. AllByRecursion (λ (e : NodeEvent M). (stamp_at e).beat ≤ t) front) total low;
      counted = rest;
      alive_more = more-alive when next death back more end.9;
      late = more-late when next death (behind last death) back more dated rest end.9;
    }

-- the events of a node, by what its life has for it
pub end-of : {M : Type 0} (when : ℕ → Stamp) (p : Params) (n : ℕ) (life : Lifetime) (next : ℕ) (o : Option ℕ)
    (es : List (NodeEvent M))
    → death_within next life.death ≡ o → IsTimeline when p n life next es
    → EndAt when next o (death_within next life.back) es
end-of {M} when p n life next o es within timeline =
    subst (λ q. EndAt {M = M} when next q (death_within next life.back) es) within timeline.ends
