-- What of a node's life stays along its events: when it dies and returns, and whether its death cuts it off.
use Rattle.std.proofs.Common.{◌≡◌, ℕ, ◌<◌, List, [], ◌∷◌, Bool, true, false, Option, Some, None, refl}
use Rattle.std.proofs.Common.{◌∙◌, cond, arith}
use Rattle.std.specs.Prelude.{◌==◌, is_some}
use Rattle.std.proofs.lemmas.Bool.{ne_eqb}
use Rattle.tiger_base.specs.declared.number.Stamp.{Stamp}
use Rattle.tiger_base.specs.declared.message.Note.{Note}
use Rattle.node_kit.specs.declared.outbox.Out.{Out}
use Rattle.node_kit.specs.Outputs.{send_count}
use Rattle.node_kit.specs.Life.{Lifetime, acts, dies, returns, hears, ends_in, fewer, spent}
use Rattle.node_kit.specs.Steps.{Input, Deed, stamp_of}
use Rattle.run_facts.specs.Accounts.{AreAlive}
use Rattle.run_facts.specs.Events.{NodeEvent, Past, after, after_all, after_input, after_cut, is_death}
use Rattle.run_facts.specs.Events.NodeEvent.{Does, Ends, Dies, Returns}

-- a node has this life, but for how many messages it may still send, and whether its death has come in an event
pub record IsOfLife (life now : Lifetime) : Type 0 where
  pub death : now.death ≡ life.death
  pub cuts : is_some now.left ≡ is_some life.left
  pub back : now.back ≡ life.back

pub of-itself : (life : Lifetime) → IsOfLife life life
of-itself life = record { death = refl; cuts = refl; back = refl }

fewer-some : (n : ℕ) (o : Option ℕ) → is_some (fewer n o) ≡ is_some o
fewer-some n None = refl
fewer-some n (Some k) = refl

spent-by : (life now : Lifetime) (n : ℕ) (t : Bool) → IsOfLife life now
    → IsOfLife life (cond t (record now { left = fewer n now.left }) now)
spent-by life now n true h = record { death = h.death; cuts = fewer-some n now.left ∙ h.cuts; back = h.back }
spent-by life now n false h = h

over-by : (now : Lifetime) (n : ℕ) (t : Bool)
    → (cond t (record now { left = fewer n now.left }) now).over ≡ now.over
over-by now n true = refl
over-by now n false = refl

spent-of : {M : Type 0} (life now : Lifetime) (stamp : Stamp) (outs : List (Out M)) → IsOfLife life now
    → IsOfLife life (spent now stamp outs)
spent-of life now stamp outs h = spent-by life now (send_count outs) _ h

spent-over : {M : Type 0} (now : Lifetime) (stamp : Stamp) (outs : List (Out M)) →
    (spent now stamp outs).over ≡ now.over
spent-over now stamp outs = over-by now (send_count outs) _

module _ {M S : Type 0} (note : M → Note) (step : S → Input M → Deed M S) where
  pub life-of-event : (life : Lifetime) (e : NodeEvent M) (past : Past S) → IsOfLife life past.life
      → IsOfLife life (after note step e past).life
  unfolding after_input after_cut
  life-of-event life (Does i) past h = spent-of life past.life (stamp_of i) (step past.state i).outs h
  life-of-event life (Ends i k) past h = record { death = h.death; cuts = h.cuts; back = h.back }
  life-of-event life (Dies stamp) past h = h
  life-of-event life (Returns stamp) past h = h

  pub life-of-events : (life : Lifetime) (es : List (NodeEvent M)) (past : Past S) → IsOfLife life past.life
      → IsOfLife life (after_all note step es past).life
  life-of-events life [] past h = h
  life-of-events life (e ∷ es) past h = life-of-events life es (after note step e past) (life-of-event life e past h)

  -- a death comes in an event only where it is one
  pub over-event : (e : NodeEvent M) (past : Past S) → is_death e ≡ false
      → (after note step e past).life.over ≡ past.life.over
  unfolding after_input
  over-event (Does i) past alive = spent-over past.life (stamp_of i) (step past.state i).outs
  over-event (Ends i k) past alive = absurd (cc)
  over-event (Dies stamp) past alive = absurd (cc)
  over-event (Returns stamp) past alive = refl

  pub over-events : (es : List (NodeEvent M)) (past : Past S) → AreAlive es
      → (after_all note step es past).life.over ≡ past.life.over
  over-events [] past alive = refl
  over-events (e ∷ es) past alive = over-events es (after note step e past) alive.1 ∙ over-event e past alive.0

-- who has a life acts, dies, returns and hears by it; it acts and ends so as long as its death has not come in an event
pub acts-of : (life now : Lifetime) (b : ℕ) → IsOfLife life now → now.over ≡ life.over → acts now b ≡ acts life b
unfolding acts
acts-of life now b h over = rw (h.death, h.cuts, h.back, over) refl

pub dies-of : (life now : Lifetime) (b : ℕ) → IsOfLife life now → dies now b ≡ dies life b
unfolding dies
dies-of life now b h = rw (h.death, h.cuts) refl

pub returns-of : (life now : Lifetime) (b : ℕ) → IsOfLife life now → returns now b ≡ returns life b
unfolding returns
returns-of life now b h = rw h.back refl

pub hears-of : (life now : Lifetime) (sent b : ℕ) → IsOfLife life now → hears now sent b ≡ hears life sent b
unfolding hears
hears-of life now sent b h = rw h.back refl

some-of : (t : Bool) (a b : Option ℕ) → is_some a ≡ is_some b → is_some (cond t a None) ≡ is_some (cond t b None)
some-of true a b h = h
some-of false a b h = refl

pub ends-of : (life now : Lifetime) (b : ℕ) → IsOfLife life now → now.over ≡ life.over → ends_in now b ≡ ends_in life b
ends-of life now b h over = rw (h.death, over) (some-of _ now.left life.left h.cuts)

-- and behind the beat of its death in any case
pub acts-past : (life now : Lifetime) (d b : ℕ) → life.death ≡ Some d → d < b → IsOfLife life now
    → acts now b ≡ acts life b
unfolding acts
acts-past life now d b died late h =
    let other : (b == d) ≡ false = ne_eqb b d (λ q. omega (arith, q, late)) in
    rw (h.death ∙ died, died, h.back) (rw other refl)

pub ends-past : (life now : Lifetime) (d b : ℕ) → life.death ≡ Some d → d < b → IsOfLife life now
    → ends_in now b ≡ false
ends-past life now d b died late h =
    let other : (b == d) ≡ false = ne_eqb b d (λ q. omega (arith, q, late)) in
    rw (h.death ∙ died) (rw other refl)
