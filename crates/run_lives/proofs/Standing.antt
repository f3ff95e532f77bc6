-- A node before a beat: what its events so far have left of its life, and which beat is open behind them.
use Rattle.std.proofs.Common.{◌≡◌, ℕ, suc, ◌+◌, ◌<◌, ◌≤◌, List, [], ◌∷◌, ◌++◌, Bool, true, false, Option, Some, None}
use Rattle.std.proofs.Common.{refl, ap, sym, ◌∙◌, cond, arith, ⊎_elim}
use Rattle.std.specs.Prelude.{nat_lt}
use Rattle.std.proofs.lemmas.Bool.{cases_Bool}
use Rattle.std.proofs.lemmas.Bool.Decides.{nat_tests}
use Rattle.tiger_base.specs.declared.number.Stamp.{Stamp}
use Rattle.tiger_base.specs.declared.message.Note.{Note}
use Rattle.slot_plan.specs.declared.params.Params.{Params}
use Rattle.node_kit.specs.Life.{Lifetime, acts, ends_in}
use Rattle.node_kit.specs.Steps.{Input, Deed}
use Rattle.run_facts.specs.Accounts.{open_after, EndAt, IsTimeline}
use Rattle.run_facts.specs.Events.{NodeEvent, after_all, opening, behind, is_death, is_tick_input}
use Rattle.run_facts.specs.Events.NodeEvent.{Does, Ends, Dies, Returns}
use Rattle.run_facts.specs.Timed.{death_within}
use Rattle.run_facts.proofs.Timelines.{open-append}
use Rattle.run_lives.proofs.Alike.{IsOfLife, of-itself, life-of-events, over-events, acts-of, ends-of, acts-past}
use Rattle.run_lives.proofs.Alike.{ends-past}

-- a death that the run comes to
pub within-of : (next d : ℕ) (o : Option ℕ) → death_within next o ≡ Some d → (o ≡ Some d) × (d < next)
within-of next d None h = absurd (cc)
within-of next d (Some x) h = ⊎_elim
    (λ (e : nat_lt x next ≡ true).
    let is : Some x ≡ Some d = sym (ap (λ t. cond t (Some x) None) e) ∙ h in
    let same : x ≡ d = cc in
    (is, grind (arith, nat_tests, e, same)))
    (λ (e : nat_lt x next ≡ false).
    let none : None ≡ Some d = sym (ap (λ t. cond t (Some x) None) e) ∙ h in absurd (cc))
    (cases_Bool (nat_lt x next))

-- a node with such a life stands in a beat as one whose life it is, if it acts there and is cut off there as that does
pub record StandsAs (life now : Lifetime) (b : ℕ) : Type 0 where
  pub of_life : IsOfLife life now
  pub acts_so : acts now b ≡ acts life b
  pub ends_so : ends_in now b ≡ ends_in life b
  pub not_over : ends_in life b ≡ true → now.over ≡ life.over

module _ {M S : Type 0} (note : M → Note) (step : S → Input M → Deed M S) (when : ℕ → Stamp) (first : S)
    (life : Lifetime) (next : ℕ) (es : List (NodeEvent M)) where
  abbrev now : Lifetime
  now = (after_all note step es (opening first life)).life

  now-of : IsOfLife life now
  now-of = life-of-events note step life es (opening first life) (of-itself life)

  stands-by : (o back : Option ℕ) → death_within next life.death ≡ o → EndAt when next o back es
      → StandsAs life now next
  stands-by None back within end =
      let over = over-events note step es (opening first life) end.0 in
      record {
        of_life = now-of;
        acts_so = acts-of life now next now-of over;
        ends_so = ends-of life now next now-of over;
        not_over = λ ended. over;
      }
  stands-by (Some d) back within end =
      let died = within-of next d life.death within in
      let never = ends-past life life d next died.0 died.1 (of-itself life) in
      record {
        of_life = now-of;
        acts_so = acts-past life now d next died.0 died.1 now-of;
        ends_so = ends-past life now d next died.0 died.1 now-of ∙ sym never;
        not_over = λ ended. let bad : true ≡ false = sym ended ∙ never in absurd (cc);
      }

  pub stands : (p : Params) (n : ℕ) → IsTimeline when p n life next es → StandsAs life now next
  stands p n timeline = stands-by (death_within next life.death) (death_within next life.back) refl timeline.ends

-- a death ends at most its beat
one-more : (b : Bool) (t : ℕ) → cond b (suc t) t ≤ t + 1
one-more true t = omega arith
one-more false t = omega arith

pub behind-death : {M : Type 0} (e : NodeEvent M) (t : ℕ) → is_death e ≡ true → behind e t ≤ t + 1
behind-death (Does i) t h = absurd (cc)
behind-death (Ends i sends) t h = one-more (is_tick_input i) t
behind-death (Dies s) t h = omega arith
behind-death (Returns s) t h = absurd (cc)

-- the beat that is open behind a death, and behind a return
pub open-dead : {M : Type 0} (when : ℕ → Stamp) (next d : ℕ) (es : List (NodeEvent M)) → EndAt when next
    (Some d) None es
    → open_after 0 es ≤ d + 1
open-dead {M} when next d es end =
    let parts : es ≡ end.0 ++ end.1 ∷ [] = end.3 ∙ ap (λ q. end.0 ++ end.1 ∷ q) end.9 in
    let more : open_after 0 es ≡ behind end.1 (open_after 0 end.0) =
    ap (open_after 0) parts ∙ open-append 0 end.0 (end.1 ∷ []) in
    let last = behind-death end.1 (open_after 0 end.0) end.7 in
    let total = end.6 in
    omega (arith, more, last, total)

pub open-back : {M : Type 0} (when : ℕ → Stamp) (next d w : ℕ) (es : List (NodeEvent M)) → ((b : ℕ) → (when b).beat ≡ b)
    → EndAt when next (Some d) (Some w) es → open_after 0 es ≡ next
open-back {M} when next d w es dated end =
    let on = end.9 in
    let parts : es ≡ end.0 ++ end.1 ∷ (Returns (when w) ∷ on.0) = end.3 ∙ ap (λ q. end.0 ++ end.1 ∷ q) on.1 in
    ap (open_after 0) parts ∙ open-append 0 end.0 (end.1 ∷ (Returns (when w) ∷ on.0))
    ∙ ap (λ t. open_after t on.0) (dated w) ∙ on.4
