-- Without returns the number of a message is the number of those taken before it, and the open beat that of ticks.
use Rattle.std.proofs.Common.{◌≡◌, ℕ, zero, suc, ◌<◌, false, refl, ap, ◌∙◌, arith, cond}
use Rattle.run_facts.specs.Events.{NodeEvent, behind, is_return, is_take_on}
use Rattle.run_facts.specs.Events.NodeEvent.{Does, Ends, Dies, Returns}
use Rattle.run_facts.specs.Histories.{History, ticks, takes, open_beat, place, place_behind}
use Rattle.run_facts.proofs.Timelines.{behind-tick}

place-one : {M : Type 0} (l before k : ℕ) (e : NodeEvent M) → is_return e ≡ false
    → place_behind l before e k ≡ cond (is_take_on l e) (suc k) k
place-one l before k (Does i) h = refl
place-one l before k (Ends i j) h = refl
place-one l before k (Dies s) h = refl
place-one l before k (Returns s) h = absurd (cc)

pub place-takes : {M S : Type 0} (l : ℕ) (h : History M S) (n i : ℕ)
    → ((j : ℕ) → j < i → is_return (h.event n j) ≡ false) → place l h n i ≡ takes l h n i
place-takes l h n zero here = refl
place-takes l h n (suc i) here =
    let before = place-takes l h n i (λ j low. here j (omega (arith, low))) in
    let low : i < suc i = omega arith in
    ap (place_behind l (h.before l) (h.event n i)) before ∙ place-one l (h.before l) (takes l h n i) (h.event n i)
    (here i low)

-- and the open beat is the number of ticks
pub open-ticked : {M S : Type 0} (h : History M S) (n i : ℕ) → ((j : ℕ) → j < i → is_return (h.event n j) ≡ false)
    → open_beat h n i ≡ ticks h n i
open-ticked h n zero here = refl
open-ticked h n (suc i) here =
    let before = open-ticked h n i (λ j low. here j (omega (arith, low))) in
    let low : i < suc i = omega arith in
    ap (behind (h.event n i)) before ∙ behind-tick (h.event n i) (ticks h n i) (here i low)
