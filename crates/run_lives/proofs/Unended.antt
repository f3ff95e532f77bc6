-- A beat in which no death is to cut the node off: each message that it takes is a whole step, and so is its tick.
use Rattle.std.proofs.Common.{◌≡◌, ℕ, List, [], ◌∷◌, ◌++◌, map, filter, true, false, refl, ap, ◌∙◌, ⊎_elim}
use Rattle.std.proofs.Common.{append-nil}
use Rattle.std.specs.Prelude.{◌==◌}
use Rattle.std.proofs.lemmas.Bool.{cases_Bool}
use Rattle.tiger_base.specs.declared.number.Stamp.{Stamp}
use Rattle.tiger_base.specs.declared.message.Note.{Note}
use Rattle.node_kit.specs.Life.{Lifetime, acts, ends_in}
use Rattle.node_kit.specs.Steps.{Input, Deed}
use Rattle.node_kit.specs.Steps.Input.{Take, Tick}
use Rattle.run_facts.specs.declared.mail.Letter.{Letter}
use Rattle.run_facts.specs.Accounts.{AreAlive, is_caught}
use Rattle.run_facts.specs.Beats.{is_taken, letter_events, return_events, end_events, beat_events, bring, on_link}
use Rattle.run_facts.specs.Events.{NodeEvent, Past, after, after_all, takes_along}
use Rattle.run_facts.specs.Events.NodeEvent.{Does}
use Rattle.run_facts.specs.Paced.{brought}
use Rattle.run_lives.proofs.Alike.{IsOfLife, of-itself, life-of-event, life-of-events, over-event, over-events}
use Rattle.run_lives.proofs.Alike.{acts-of, hears-of, ends-of}
use Rattle.run_facts.proofs.Along.{event-unended, takes-append}
use Rattle.run_facts.proofs.Beats.{whole_letters, whole_end, whole_beat, end-takes}

module _ {M S : Type 0} (note : M → Note) (step : S → Input M → Deed M S) (stamp : Stamp) where
  one-of-life : (x : Letter M) (past : Past S)
      → IsOfLife past.life (after note step (Does (Take stamp x.link x.msg)) past).life
  one-of-life x past = life-of-event note step past.life (Does (Take stamp x.link x.msg)) past (of-itself past.life)

  one-ends : (x : Letter M) (past : Past S) → ends_in past.life stamp.beat ≡ false
      → ends_in (after note step (Does (Take stamp x.link x.msg)) past).life stamp.beat ≡ false
  one-ends x past h =
      let one : NodeEvent M = Does (Take stamp x.link x.msg) in
      ends-of past.life (after note step one past).life stamp.beat (one-of-life x past)
      (over-event note step one past refl)
      ∙ h

  one-acts : (x : Letter M) (past : Past S)
      → acts (after note step (Does (Take stamp x.link x.msg)) past).life stamp.beat ≡ acts past.life stamp.beat
  one-acts x past =
      let one : NodeEvent M = Does (Take stamp x.link x.msg) in
      acts-of past.life (after note step one past).life stamp.beat (one-of-life x past)
      (over-event note step one past refl)

  pub letters-unended : (ls : List (Letter M)) (past : Past S) → ends_in past.life stamp.beat ≡ false
      → letter_events note step stamp ls past ≡ whole_letters note step stamp ls past
  letters-unended [] past h = refl
  letters-unended (x ∷ xs) past h =
      let one : NodeEvent M = Does (Take stamp x.link x.msg) in
      let is = event-unended step (Take stamp x.link x.msg) past h in
      ⊎_elim
      (λ (e : is_taken past.life x.sent stamp.beat ≡ true). rw (e, is)
      (ap (λ es. one ∷ es) (letters-unended xs (after note step one past) (one-ends x past h))))
      (λ (e : is_taken past.life x.sent stamp.beat ≡ false). rw e (letters-unended xs past h))
      (cases_Bool (is_taken past.life x.sent stamp.beat))

  pub letters-alive : (ls : List (Letter M)) (past : Past S) → AreAlive (whole_letters note step stamp ls past)
  letters-alive [] past = tt
  letters-alive (x ∷ xs) past = ⊎_elim
      (λ (e : is_taken past.life x.sent stamp.beat ≡ true). rw e
      (refl, letters-alive xs (after note step (Does (Take stamp x.link x.msg)) past)))
      (λ (e : is_taken past.life x.sent stamp.beat ≡ false). rw e (letters-alive xs past))
      (cases_Bool (is_taken past.life x.sent stamp.beat))

  end-unended : (past : Past S) → ends_in past.life stamp.beat ≡ false
      → end_events step stamp past ≡ whole_end stamp past.life
  unfolding end_events whole_end
  end-unended past h = rw (event-unended step (Tick stamp) past h) refl

  pub beat-unended : (ls : List (Letter M)) (past : Past S) → ends_in past.life stamp.beat ≡ false
      → beat_events note step stamp ls past ≡ return_events stamp past ++ whole_beat note step stamp ls past
  unfolding beat_events whole_beat
  beat-unended ls past h =
      let es = whole_letters note step stamp ls past in
      let then_past = after_all note step es past in
      let still = ends-of past.life then_past.life stamp.beat
      (life-of-events note step past.life es past (of-itself past.life))
      (over-events note step es past (letters-alive ls past)) ∙ h in
      rw (letters-unended ls past h) (ap (λ qs. return_events stamp past ++ (es ++ qs)) (end-unended then_past still))

  -- what it takes on a link is what that brings and it hears
  letters-heard : (l : ℕ) (life : Lifetime) (ls : List (Letter M)) (past : Past S) → IsOfLife life past.life
      → acts past.life stamp.beat ≡ acts life stamp.beat
      → takes_along l (whole_letters note step stamp ls past) ≡ map brought
      (filter (is_caught life) (map (bring stamp.beat) (filter (on_link l) ls)))
  letters-heard l life [] past of_life same = refl
  letters-heard l life (x ∷ xs) past of_life same =
      let one : NodeEvent M = Does (Take stamp x.link x.msg) in
      let was : is_taken past.life x.sent stamp.beat ≡ is_taken life x.sent stamp.beat =
      rw (same, hears-of life past.life x.sent stamp.beat of_life) refl in
      let later = letters-heard l life xs (after note step one past) (life-of-event note step life one past of_life)
      (one-acts x past ∙ same) in
      let lost = letters-heard l life xs past of_life same in
      ⊎_elim
      (λ (e : is_taken life x.sent stamp.beat ≡ true). ⊎_elim
      (λ (q : (x.link.0 == l) ≡ true). rw (was ∙ e, q, e)
      (ap (λ ds. (record { beat = stamp.beat; item = x.msg }) ∷ ds) later))
      (λ (q : (x.link.0 == l) ≡ false). rw (was ∙ e, q) later)
      (cases_Bool (x.link.0 == l)))
      (λ (e : is_taken life x.sent stamp.beat ≡ false). ⊎_elim
      (λ (q : (x.link.0 == l) ≡ true). rw (was ∙ e, q, e) lost)
      (λ (q : (x.link.0 == l) ≡ false). rw (was ∙ e, q) lost)
      (cases_Bool (x.link.0 == l)))
      (cases_Bool (is_taken life x.sent stamp.beat))

  pub beat-heard : (l : ℕ) (life : Lifetime) (ls : List (Letter M)) (past : Past S) → IsOfLife life past.life
      → acts past.life stamp.beat ≡ acts life stamp.beat
      → takes_along l (whole_beat note step stamp ls past) ≡ map brought
      (filter (is_caught life) (map (bring stamp.beat) (filter (on_link l) ls)))
  unfolding whole_beat
  beat-heard l life ls past of_life same =
      let es = whole_letters note step stamp ls past in
      let end : List (NodeEvent M) = whole_end stamp (after_all note step es past).life in
      takes-append l es end ∙ ap (λ ds. takes_along l es ++ ds)
      (end-takes {M = M} stamp (after_all note step es past).life l)
      ∙ append-nil (takes_along l es) ∙ letters-heard l life ls past of_life same
