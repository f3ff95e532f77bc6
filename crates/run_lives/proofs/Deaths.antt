-- What the events of a complete history tell of its nodes' lives: who does not return, when a death comes, and who
-- acts till then.
use Rattle.std.proofs.Common.{◌≡◌, ℕ, zero, suc, ◌<◌, Bool, true, false, not, Option, Some, None, refl, sym, ap, ◌∙◌, cond}
use Rattle.std.specs.Prelude.{◌==◌, is_some, ◌&&◌}
use Rattle.std.proofs.lemmas.Bool.{eqb-true}
use Rattle.tiger_base.specs.declared.message.Note.{Note}
use Rattle.node_kit.specs.Life.{Lifetime, dies, returns, left_in, cut_by, cut_to}
use Rattle.node_kit.specs.Steps.{Input, Deed, stamp_of}
use Rattle.run_facts.specs.Events.{NodeEvent, Past, event_of, event_to, is_death, is_return, is_tick_input, stamp_at}
use Rattle.run_facts.specs.Events.NodeEvent.{Does, Ends, Dies, Returns}
use Rattle.run_facts.specs.Histories.{History, IsComplete, IsUp, past, beat, ticks}
use Rattle.run_facts.proofs.Recording.{open-ticked}
use Rattle.run_lives.proofs.Alike.{IsOfLife, of-itself, life-of-event}

-- who may still send messages before its death cuts it off may do so in the beat of its death
in-beat : (death left back : Option ℕ) (over : Bool) (b k : ℕ)
    → left_in (record { death = death; left = left; back = back; over = over }) b ≡ Some k → death ≡ Some b
in-beat None left back over b k t = absurd (cc)
in-beat (Some d) left back over b k t = by (b == d) refl over t
  where
    by : (same : Bool) → (b == d) ≡ same → (over : Bool) → cond (same && not over) left None ≡ Some k → Some d ≡ Some b
    by true e over t = ap (λ (n : ℕ). Some n) (sym (eqb-true b d e))
    by false e over t = absurd (cc)

-- an event that is cut off is one in the beat of the death
ends-in : {M S : Type 0} (step : S → Input M → Deed M S) (i : Input M) (sends : ℕ) (x : Past S)
    → event_of step i x ≡ Ends i sends → x.life.death ≡ Some (stamp_of i).beat
unfolding event_of cut_to
ends-in step i sends x e = by-left (left_in x.life (stamp_of i).beat) refl e
  where
    by-left : (o : Option ℕ) → left_in x.life (stamp_of i).beat ≡ o
        → event_to i (cut_by o (is_tick_input i) (step x.state i).outs) ≡ Ends i sends
        → x.life.death ≡ Some (stamp_of i).beat
    by-left None q e = absurd (cc)
    by-left (Some k) q e = in-beat x.life.death x.life.left x.life.back x.life.over (stamp_of i).beat k q

-- who dies apart from an event does so in the beat of its death
dies-by : (death left back : Option ℕ) (over : Bool) (b : ℕ)
    → dies (record { death = death; left = left; back = back; over = over }) b ≡ true → death ≡ Some b
unfolding dies
dies-by None left back over b t = absurd (cc)
dies-by (Some d) left back over b t = by (b == d) refl t
  where
    by : (same : Bool) → (b == d) ≡ same → (same && not (is_some left)) ≡ true → Some d ≡ Some b
    by true e t = ap (λ (n : ℕ). Some n) (sym (eqb-true b d e))
    by false e t = absurd (cc)

dies-in : (life : Lifetime) (b : ℕ) → dies life b ≡ true → life.death ≡ Some b
dies-in life b t = dies-by life.death life.left life.back life.over b t

returns-never : (life : Lifetime) (b : ℕ) → life.back ≡ None → returns life b ≡ false
unfolding returns
returns-never life b e = rw e refl

module _ {M S : Type 0} (note : M → Note) (step : S → Input M → Deed M S) (nodes beats : ℕ) (h : History M S)
    (complete : IsComplete note step nodes beats h) (n : ℕ) (known : n < nodes) where
  -- a node's life stays but for what is spent of it
  pub along : (i : ℕ) → IsOfLife (h.life n) (past note step h n i).life
  along zero = of-itself (h.life n)
  along (suc i) = life-of-event note step (h.life n) (h.event n i) (past note step h n i) (along i)

  -- who has no return does not return
  pub stays_away : (h.life n).back ≡ None → (i : ℕ) → i < h.count n → is_return (h.event n i) ≡ false
  stays_away none i low = by (h.event n i) refl
    where
      by : (e : NodeEvent M) → h.event n i ≡ e → is_return e ≡ false
      by (Does input) is = refl
      by (Ends input sends) is = refl
      by (Dies stamp) is = refl
      by (Returns stamp) is =
          let back = complete.returning n i stamp known low is in
          let never = returns-never (past note step h n i).life stamp.beat ((along i).back ∙ none) in
          let q : true ≡ false = sym back ∙ never in absurd (cc)

  -- a death comes in its beat
  pub dies_at : (i : ℕ) → i < h.count n → is_death (h.event n i) ≡ true → (h.life n).death ≡ Some (beat h n i)
  dies_at i low died = by (h.event n i) refl died
    where
      by : (e : NodeEvent M) → h.event n i ≡ e → is_death e ≡ true → (h.life n).death ≡ Some (beat h n i)
      by (Does input) is t = absurd (cc)
      by (Ends input sends) is t =
          let cut = (complete.ending n i sends input known low is).1 in
          sym (along i).death ∙ ends-in step input sends (past note step h n i) cut
          ∙ ap (λ (e : NodeEvent M). Some (stamp_at e).beat) (sym is)
      by (Dies stamp) is t =
          let gone = (complete.dying n i stamp known low is).1 in
          sym (along i).death ∙ dies-in (past note step h n i).life stamp.beat gone
          ∙ ap (λ (e : NodeEvent M). Some (stamp_at e).beat) (sym is)
      by (Returns stamp) is t = absurd (cc)

  -- who lives to the end has ticked in each beat, if it does not return
  pub ticked_all : (h.life n).back ≡ None → ((i : ℕ) → i < h.count n → is_death (h.event n i) ≡ false)
      → ticks h n (h.count n) ≡ beats
  ticked_all none alive =
      let up : IsUp h n = λ j below died. let q : true ≡ false = sym died ∙ alive j below in absurd (cc) in
      sym (open-ticked h n (h.count n) (stays_away none)) ∙ complete.until_end n known up
