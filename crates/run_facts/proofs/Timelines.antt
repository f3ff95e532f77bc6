-- One node's events, beat for beat: when they happen, and how they end.
use Rattle.std.proofs.Common.{◌≡◌, ℕ, suc, ◌+◌, ◌<◌, ◌≤◌, List, [], ◌∷◌, ◌++◌, Bool, true, false, Option, Some, None}
use Rattle.std.proofs.Common.{refl, ap, sym, ◌∙◌, subst, arith, cond, ⊎_elim}
use Rattle.std.specs.Prelude.{nat_lt}
use Rattle.std.specs.List.{AllByRecursion}
use Rattle.std.proofs.lemmas.Bool.{cases_Bool}
use Rattle.std.proofs.lemmas.Bool.Decides.{nat_tests}
use Rattle.tiger_base.specs.declared.number.Stamp.{Stamp}
use Rattle.slot_plan.specs.declared.params.Params.{Params}
use Rattle.node_kit.specs.Life.{Lifetime, acts}
use Rattle.node_kit.specs.Steps.{Input, stamp_of}
use Rattle.node_kit.specs.Steps.Input.{Take, Tick}
use Rattle.run_facts.specs.Events.{NodeEvent, IsPlain, stamp_at, is_tick, is_death, is_return}
use Rattle.run_facts.specs.Events.{is_tick_input, behind}
use Rattle.run_facts.specs.Events.NodeEvent.{Does, Ends, Dies, Returns}
use Rattle.run_facts.specs.Timed.{death_within}
use Rattle.run_facts.specs.Accounts.{Rising, tick_count, open_after, IsOpen, AreCounted, AreHere, IsLed}
use Rattle.run_facts.specs.Accounts.{AreTurns, IsInTurn, AreInTurn, LivesBy, EndAt, IsTimeline, IsTakeAt}
use Rattle.run_facts.proofs.Rows.{all-append, all-weaker}

pub timeline-opens : {M : Type 0} (when : ℕ → Stamp) (p : Params) (n : ℕ) (life : Lifetime)
    → IsTimeline {M = M} when p n life 0 []
timeline-opens {M} when p n life = record {
  stamped = tt;
  early = tt;
  counted = tt;
  led = tt;
  in_turn = tt;
  lived = tt;
  ends = subst (λ o. EndAt {M = M} when 0 o (death_within 0 life.back) []) (sym (none-within life.death))
      (tt, tt, refl);
}
  where
    none-within : (o : Option ℕ) → death_within 0 o ≡ None
    none-within None = refl
    none-within (Some d) = let e : nat_lt d 0 ≡ false = grind (arith, nat_tests) in rw e refl

pub counted-append : {M : Type 0} (t : ℕ) (es fs : List (NodeEvent M)) → AreCounted t es
    → AreCounted (open_after t es) fs → AreCounted t (es ++ fs)
counted-append t [] fs h g = g
counted-append t (e ∷ es) fs h g = (h.0, counted-append (behind e t) es fs h.1 g)

pub open-append : {M : Type 0} (t : ℕ) (es fs : List (NodeEvent M))
    → open_after t (es ++ fs) ≡ open_after (open_after t es) fs
open-append t [] fs = refl
open-append t (e ∷ es) fs = open-append (behind e t) es fs

-- without returns the open beat is the number of ticks
pub behind-tick : {M : Type 0} (e : NodeEvent M) (t : ℕ) → is_return e ≡ false → behind e t ≡ cond (is_tick e) (suc t) t
behind-tick (Does i) t h = refl
behind-tick (Ends i sends) t h = refl
behind-tick (Dies stamp) t h = refl
behind-tick (Returns stamp) t h = absurd (cc)

pub open-ticks : {M : Type 0} (t : ℕ) (es : List (NodeEvent M)) → AreHere es → open_after t es ≡ t + tick_count es
open-ticks t [] h = omega arith
open-ticks t (e ∷ es) h =
    let now = behind-tick e t h.0 in
    let rest = open-ticks (behind e t) es h.1 in
    ⊎_elim
    (λ (q : is_tick e ≡ true).
    let more : behind e t ≡ suc t = now ∙ ap (λ b. cond b (suc t) t) q in
    rw q (omega (arith, more, rest)))
    (λ (q : is_tick e ≡ false).
    let more : behind e t ≡ t = now ∙ ap (λ b. cond b (suc t) t) q in
    rw q (omega (arith, more, rest)))
    (cases_Bool (is_tick e))

pub plain-here : {M : Type 0} (e : NodeEvent M) → IsPlain e → is_return e ≡ false
plain-here (Does i) h = refl
plain-here (Ends i sends) h = absurd h
plain-here (Dies stamp) h = refl
plain-here (Returns stamp) h = absurd h

pub turn-append : {M : Type 0} (es fs : List (NodeEvent M)) → AreInTurn es → AreInTurn fs
    → AllByRecursion (λ e. AllByRecursion (IsInTurn e) fs) es → AreInTurn (es ++ fs)
turn-append [] fs h g k = g
turn-append (e ∷ es) fs h g k = (all-append (IsInTurn e) es fs h.0 k.0, turn-append es fs h.1 g k.1)

-- events of different beats are in turn
apart-inputs : {M : Type 0} (i j : Input M) → (stamp_of i).beat < (stamp_of j).beat → AreTurns (Some i) (Some j)
apart-inputs (Take s l m) (Take s' l' m') h = λ q. absurd (omega (arith, h, q))
apart-inputs (Take s l m) (Tick s') h = tt
apart-inputs (Tick s) j h = tt

none-turn : {M : Type 0} (o : Option (Input M)) → AreTurns o None
none-turn None = tt
none-turn (Some (Take s l m)) = tt
none-turn (Some (Tick s)) = tt

apart-turn : {M : Type 0} (e f : NodeEvent M) → (stamp_at e).beat < (stamp_at f).beat → IsInTurn e f
apart-turn (Does i) (Does j) h = apart-inputs i j h
apart-turn (Does i) (Ends j k) h = apart-inputs i j h
apart-turn (Ends i k) (Does j) h = apart-inputs i j h
apart-turn (Ends i k) (Ends j m) h = apart-inputs i j h
apart-turn (Does i) (Dies s) h = none-turn (Some i)
apart-turn (Does i) (Returns s) h = none-turn (Some i)
apart-turn (Ends i k) (Dies s) h = none-turn (Some i)
apart-turn (Ends i k) (Returns s) h = none-turn (Some i)
apart-turn (Dies s) f h = tt
apart-turn (Returns s) f h = tt

apart-one : {M : Type 0} (e : NodeEvent M) (next : ℕ) (fs : List (NodeEvent M)) → (stamp_at e).beat < next
    → AllByRecursion (λ f. (stamp_at f).beat ≡ next) fs → AllByRecursion (IsInTurn e) fs
apart-one e next [] h g = tt
apart-one e next (f ∷ fs) h g = let q = g.0 in (apart-turn e f (omega (arith, h, q)), apart-one e next fs h g.1)

pub apart-all : {M : Type 0} (next : ℕ) (es fs : List (NodeEvent M)) → AllByRecursion (λ e. (stamp_at e).beat < next) es
    → AllByRecursion (λ f. (stamp_at f).beat ≡ next) fs
    → AllByRecursion (λ e. AllByRecursion (IsInTurn e) fs) es
apart-all next [] fs h g = tt
apart-all next (e ∷ es) fs h g = (apart-one e next fs h.0 g, apart-all next es fs h.1 g)

pub take-stamp : {M : Type 0} (now : Stamp) (p : Params) (n : ℕ) (e : NodeEvent M) → IsTakeAt now p n e
    → (stamp_at e ≡ now) × (is_tick e ≡ false) × (is_death e ≡ false) × IsLed p n e × (is_return e ≡ false)
    × ((t : ℕ) → behind e t ≡ t)
take-stamp now p n (Does (Take stamp link msg)) h = (h.0, refl, refl, h.1, refl, λ t. refl)
take-stamp now p n (Does (Tick stamp)) h = absurd h
take-stamp now p n other h = absurd h

pub take-lives : {M : Type 0} (now : Stamp) (p : Params) (n : ℕ) (life : Lifetime) (e : NodeEvent M)
    → acts life now.beat ≡ true → IsTakeAt now p n e → LivesBy life e
take-lives now p n life (Does (Take stamp link msg)) live h = ap (λ (s : Stamp). acts life s.beat) h.0 ∙ live
take-lives now p n life (Does (Tick stamp)) live h = absurd h
take-lives now p n life other live h = absurd h

take-open : {M : Type 0} (now : Stamp) (p : Params) (n : ℕ) (e : NodeEvent M) → IsTakeAt now p n e → IsOpen now.beat e
take-open now p n (Does (Take stamp link msg)) h = ap (λ (s : Stamp). s.beat) h.0
take-open now p n (Does (Tick stamp)) h = absurd h
take-open now p n other h = absurd h

pub takes-open : {M : Type 0} (now : Stamp) (p : Params) (n t : ℕ) (es : List (NodeEvent M))
    → AllByRecursion (IsTakeAt now p n) es → open_after t es ≡ t
takes-open now p n t [] h = refl
takes-open now p n t (e ∷ es) h = takes-open now p n (behind e t) es h.1 ∙ (take-stamp now p n e h.0).5 t

pub takes-counted : {M : Type 0} (now : Stamp) (p : Params) (n : ℕ) (es : List (NodeEvent M))
    → AllByRecursion (IsTakeAt now p n) es → AreCounted now.beat es
takes-counted now p n [] h = tt
takes-counted now p n (e ∷ es) h = (
  take-open now p n e h.0,
  subst (λ t. AreCounted t es) (sym ((take-stamp now p n e h.0).5 now.beat))
      (takes-counted now p n es h.1),
)

-- behind the tick of a beat nothing is in its turn before it
pub before-tick : {M : Type 0} (now : Stamp) (e : NodeEvent M) → IsInTurn e (Does (Tick now))
before-tick now (Does (Take s l m)) = tt
before-tick now (Does (Tick s)) = tt
before-tick now (Ends (Take s l m) k) = tt
before-tick now (Ends (Tick s) k) = tt
before-tick now (Dies s) = tt
before-tick now (Returns s) = tt

pub tick-turn : {M : Type 0} (now : Stamp) (es : List (NodeEvent M))
    → AllByRecursion (λ e. AllByRecursion (IsInTurn e) (Does (Tick now) ∷ [])) es
tick-turn now [] = tt
tick-turn now (e ∷ es) = ((before-tick now e, tt), tick-turn now es)

-- beats never fall
step-on : (b : Bool) (t beat : ℕ) → beat ≡ t → beat ≤ cond b (suc t) t
step-on true t beat h = omega (arith, h)
step-on false t beat h = omega (arith, h)

open-at : {M : Type 0} (t : ℕ) (e : NodeEvent M) → IsOpen t e
    → (t ≤ (stamp_at e).beat) × ((stamp_at e).beat ≤ behind e t)
open-at t (Does i) h = (omega (arith, h), step-on (is_tick_input i) t (stamp_of i).beat h)
open-at t (Ends i sends) h = (omega (arith, h), step-on (is_tick_input i) t (stamp_of i).beat h)
open-at t (Dies stamp) h = (omega (arith, h), omega (arith, h))
open-at t (Returns stamp) h = (h, omega arith)

pub rising-counted : {M : Type 0} (t : ℕ) (es : List (NodeEvent M)) → AreCounted t es
    → AllByRecursion (λ e. t ≤ (stamp_at e).beat) es × Rising (λ (e : NodeEvent M). (stamp_at e).beat) es
rising-counted t [] h = (tt, tt)
rising-counted {M} t (e ∷ es) h =
    let now = open-at t e h.0 in
    let low = now.0 in
    let high = now.1 in
    let rest = rising-counted (behind e t) es h.1 in (
      (
        low,
        all-weaker (λ (f : NodeEvent M). behind e t ≤ (stamp_at f).beat) (λ f. t ≤ (stamp_at f).beat) es
            (λ f l. omega (arith, l, low, high)) rest.0,
      ),
      (
        all-weaker (λ (f : NodeEvent M). behind e t ≤ (stamp_at f).beat) (λ f. (stamp_at e).beat ≤ (stamp_at f).beat) es
            (λ f l. omega (arith, l, high)) rest.0,
        rest.1,
      ),
    )
