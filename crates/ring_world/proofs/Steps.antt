-- One event more: what it makes of its node.
use Rattle.std.proofs.Common.{◌≡◌, ℕ, suc, ◌+◌, ◌≤◌, List, [], ◌∷◌, ◌++◌, Bool, true, false, Some, None, ◌||◌, refl, ap}
use Rattle.std.proofs.Common.{sym, ◌∙◌, subst, arith, cond}
use Rattle.std.specs.List.{AllByRecursion}
use Rattle.tiger_base.specs.declared.message.Note.{Note}
use Rattle.slot_plan.specs.declared.params.Params.{Params}
use Rattle.node_kit.specs.Steps.{Input, Deed, IsAllowed}
use Rattle.run_facts.specs.Events.{NodeEvent, Past, opening, after, after_all, behind, is_tick_input, outs_of, stamp_at}
use Rattle.run_facts.specs.Events.{AreFair}
use Rattle.run_facts.specs.Events.NodeEvent.{Does, Ends, Dies, Returns}
use Rattle.run_facts.specs.Accounts.{Rising, IsOpen, AreCounted, IsLed, open_after}
use Rattle.run_facts.proofs.Along.{after_all-append, fair-append}
use Rattle.run_facts.proofs.Rows.{all-append, all-weaker, rising-push}
use Rattle.run_facts.proofs.Timelines.{counted-append, open-append}
use Rattle.tiger_base.specs.Limits.{most_reading}
use Rattle.ring_world.specs.Machine.{Being, undying, lived}
use Rattle.ring_world.proofs.Deaths.{HasDied, died-step, died-dies, died-returns}
use Rattle.ring_world.proofs.Telling.{IsShown}

-- a node by a beat, and its events
pub record IsLifeline {M S : Type 0} (note : M → Note) (step : S → Input M → Deed M S) (stands : S → Params → ℕ → Type 0)
    (p : Params) (n now : ℕ) (first : S) (b : Being S) (es : List (NodeEvent M)) : Type 0 where
  pub past : b.past ≡ after_all note step es (opening first undying)
  pub ticked : b.ticked ≡ open_after 0 es
  pub high : b.ticked ≤ now + 1
  pub low : b.dead ≡ false → now ≤ b.ticked
  pub early : AllByRecursion (λ (e : NodeEvent M). (stamp_at e).beat ≤ now) es
  pub counted : AreCounted 0 es
  pub shown : AllByRecursion (IsShown p) es
  pub rising : Rising (λ (e : NodeEvent M). (stamp_at e).reading) es
  pub last : AllByRecursion (λ (e : NodeEvent M). (stamp_at e).reading ≤ b.reading) es
  pub deaths : HasDied b.dead b.died es
  pub stands_here : stands b.past.state p n
  pub fair : AreFair note step p n es (opening first undying)
  pub led : AllByRecursion (IsLed p n) es
  pub brief : AllByRecursion (λ (e : NodeEvent M). (stamp_at e).reading ≤ most_reading) es

-- a node to which an event may happen is up; it has never died, if that is a death; and to return it is dead, and has
-- been for two beats or more
abbrev pub MayLive : {M S : Type 0} → Being S → NodeEvent M → Type 0
MayLive b (Does i) = b.dead ≡ false
MayLive b (Ends i sends) = (b.dead ≡ false) × (b.died ≡ None)
MayLive b (Dies stamp) = (b.dead ≡ false) × (b.died ≡ None)
MayLive b (Returns stamp) = (b.dead ≡ true) × (d : ℕ) × (b.died ≡ Some d) × (d + 2 ≤ stamp.beat)

-- what an event needs of its node
pub record IsDue {M S : Type 0} (note : M → Note) (step : S → Input M → Deed M S) (stands : S → Params → ℕ → Type 0)
    (p : Params) (n beat : ℕ) (b : Being S) (x : NodeEvent M) : Type 0 where
  pub lives : MayLive b x
  pub dated : (stamp_at x).beat ≡ beat
  pub open_here : IsOpen b.ticked x
  pub shown : IsShown p x
  pub later : b.reading ≤ (stamp_at x).reading
  pub brief : (stamp_at x).reading ≤ most_reading
  pub led : IsLed p n x
  pub stays : stands (after note step x b.past).state p n
  pub allowed : AllByRecursion (IsAllowed note p n) (outs_of step x b.past)

-- the beat that is open behind an event is its own or the next
step-bounds : (t : Bool) (b : ℕ) → (b ≤ cond t (suc b) b) × (cond t (suc b) b ≤ b + 1)
step-bounds true b = (omega arith, omega arith)
step-bounds false b = (omega arith, omega arith)

pub open-bounds : {M : Type 0} (x : NodeEvent M) (t : ℕ) → IsOpen t x
    → ((stamp_at x).beat ≤ behind x t) × (behind x t ≤ (stamp_at x).beat + 1)
open-bounds (Does i) t is = let q = step-bounds (is_tick_input i) t in let a = q.0 in let b = q.1 in
    (omega (arith, a, is), omega (arith, b, is))
open-bounds (Ends i sends) t is = let q = step-bounds (is_tick_input i) t in let a = q.0 in let b = q.1 in
    (omega (arith, a, is), omega (arith, b, is))
open-bounds (Dies stamp) t is = (omega (arith, is), omega (arith, is))
open-bounds (Returns stamp) t is = (omega arith, omega arith)

-- the deaths of a node behind an event
or-false : (b : Bool) → b || false ≡ b
or-false true = refl
or-false false = refl

or-true : (b : Bool) → b || true ≡ true
or-true true = refl
or-true false = refl

deaths-more : {M S : Type 0} (note : M → Note) (step : S → Input M → Deed M S) (b : Being S) (es : List (NodeEvent M))
    (x : NodeEvent M) → HasDied b.dead b.died es → MayLive b x
    → HasDied (lived note step x b).dead (lived note step x b).died (es ++ x ∷ [])
deaths-more note step b es (Does i) h may =
    subst (λ d. HasDied d b.died (es ++ Does i ∷ [])) (sym (or-false b.dead))
    (died-step es (Does i) b.dead b.died h may refl refl)
deaths-more {M} note step b es (Ends i sends) h may =
    let x : NodeEvent M = Ends i sends in
    subst (λ d. HasDied d (Some (stamp_at x).beat) (es ++ x ∷ [])) (sym (or-true b.dead))
    (died-dies es x b.dead b.died h may.0 may.1 refl refl)
deaths-more {M} note step b es (Dies stamp) h may =
    let x : NodeEvent M = Dies stamp in
    subst (λ d. HasDied d (Some (stamp_at x).beat) (es ++ x ∷ [])) (sym (or-true b.dead))
    (died-dies es x b.dead b.died h may.0 may.1 refl refl)
deaths-more note step b es (Returns stamp) h may =
    died-returns es (Returns stamp) b.dead b.died may.1 h may.0 may.2 may.3 refl refl

pub lifeline-more : {M S : Type 0} (note : M → Note) (step : S → Input M → Deed M S) (stands : S → Params → ℕ → Type 0)
    (p : Params) (n now beat : ℕ) (first : S) (b : Being S) (es : List (NodeEvent M)) (x : NodeEvent M)
    → now ≤ beat → IsLifeline note step stands p n now first b es → IsDue note step stands p n beat b x
    → IsLifeline note step stands p n beat first (lived note step x b) (es ++ x ∷ [])
lifeline-more {M} {S} note step stands p n now beat first b es x goes line due =
    let start = opening first undying in
    let dated = due.dated in
    let later = due.later in
    let bounds = open-bounds x b.ticked due.open_here in
    let down = bounds.0 in
    let up = bounds.1 in
    record {
      past = ap (after note step x) line.past ∙ sym (after_all-append note step es (x ∷ []) start);
      ticked = ap (behind x) line.ticked ∙ sym (open-append 0 es (x ∷ []));
      high = omega (arith, up, dated);
      low = λ _. omega (arith, down, dated);
      early = all-append (λ (e : NodeEvent M). (stamp_at e).beat ≤ beat) es (x ∷ [])
          (all-weaker (λ (e : NodeEvent M). (stamp_at e).beat ≤ now) (λ e. (stamp_at e).beat ≤ beat) es
          (λ e h. omega (arith, h, goes)) line.early) (omega (arith, dated), tt);
      counted = counted-append 0 es (x ∷ []) line.counted
          (subst (λ t. IsOpen t x) line.ticked due.open_here, tt);
      shown = all-append (IsShown p) es (x ∷ []) line.shown (due.shown, tt);
      rising = rising-push (λ (e : NodeEvent M). (stamp_at e).reading) es x line.rising
          (all-weaker (λ (e : NodeEvent M). (stamp_at e).reading ≤ b.reading)
          (λ e. (stamp_at e).reading ≤ (stamp_at x).reading) es (λ e h. omega (arith, h, later)) line.last);
      last = all-append (λ (e : NodeEvent M). (stamp_at e).reading ≤ (stamp_at x).reading) es (x ∷ [])
          (all-weaker (λ (e : NodeEvent M). (stamp_at e).reading ≤ b.reading)
          (λ e. (stamp_at e).reading ≤ (stamp_at x).reading) es (λ e h. omega (arith, h, later)) line.last)
          (omega arith, tt);
      deaths = deaths-more note step b es x line.deaths due.lives;
      stands_here = due.stays;
      fair = fair-append note step p n es (x ∷ []) start line.fair
          (subst (λ (s : Past S). AllByRecursion (IsAllowed note p n) (outs_of step x s)) line.past due.allowed, tt);
      led = all-append (IsLed p n) es (x ∷ []) line.led (due.led, tt);
      brief = all-append (λ (e : NodeEvent M). (stamp_at e).reading ≤ most_reading) es (x ∷ []) line.brief
          (due.brief, tt);
    }

-- the beat goes on for the others
pub lifeline-later : {M S : Type 0} (note : M → Note) (step : S → Input M → Deed M S)
    (stands : S → Params → ℕ → Type 0) (p : Params) (n now beat : ℕ) (first : S) (b : Being S) (es : List (NodeEvent M))
    → now ≤ beat → (b.dead ≡ false → beat ≤ b.ticked) → IsLifeline note step stands p n now first b es
    → IsLifeline note step stands p n beat first b es
lifeline-later note step stands p n now beat first b es goes done line = record {
  past = line.past;
  ticked = line.ticked;
  high = let h = line.high in omega (arith, h, goes);
  low = done;
  early = all-weaker (λ e. (stamp_at e).beat ≤ now) (λ e. (stamp_at e).beat ≤ beat) es
      (λ e h. omega (arith, h, goes)) line.early;
  counted = line.counted;
  shown = line.shown;
  rising = line.rising;
  last = line.last;
  deaths = line.deaths;
  stands_here = line.stands_here;
  fair = line.fair;
  led = line.led;
  brief = line.brief;
}
