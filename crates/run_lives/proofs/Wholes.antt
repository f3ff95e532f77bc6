-- Each event of a beat is at the beat's stamp, and cut off where its node's death comes in it and nowhere else.
use Rattle.std.proofs.Common.{◌≡◌, ℕ, List, [], ◌∷◌, ◌++◌, true, false, Option, Some, None, refl, sym, subst, ⊎_elim}
use Rattle.std.specs.List.{AllByRecursion}
use Rattle.std.proofs.lemmas.Bool.{cases_Bool}
use Rattle.tiger_base.specs.declared.number.Stamp.{Stamp}
use Rattle.tiger_base.specs.declared.message.Note.{Note}
use Rattle.node_kit.specs.Life.{acts, dies, returns, cut_to}
use Rattle.node_kit.specs.Steps.{Input, Deed, stamp_of}
use Rattle.node_kit.specs.Steps.Input.{Take, Tick}
use Rattle.run_facts.specs.declared.mail.Letter.{Letter}
use Rattle.run_facts.specs.Accounts.{IsWhole, AreWhole}
use Rattle.run_facts.specs.Beats.{is_taken, letter_events, return_events, end_events, beat_events}
use Rattle.run_facts.specs.Events.{NodeEvent, Past, after, after_all, event_to, event_of, stamp_at, is_tick_input}
use Rattle.run_facts.proofs.Rows.{all-append}

-- each event of a beat is as its node's life has it then
whole-to : {M S : Type 0} (step : S → Input M → Deed M S) (i : Input M) (past : Past S) (o : Option ℕ)
    → event_of step i past ≡ event_to i o → IsWhole step (event_of step i past) past
whole-to {M} step i past None is = subst (λ (e : NodeEvent M). IsWhole step e past) (sym is) is
whole-to {M} step i past (Some k) is = subst (λ (e : NodeEvent M). IsWhole step e past) (sym is) is

whole-of : {M S : Type 0} (step : S → Input M → Deed M S) (i : Input M) (past : Past S)
    → IsWhole step (event_of step i past) past
unfolding event_of
whole-of step i past = whole-to step i past _ refl

pub whole-append : {M S : Type 0} (note : M → Note) (step : S → Input M → Deed M S) (es fs : List (NodeEvent M))
    (past : Past S)
    → AreWhole note step es past → AreWhole note step fs (after_all note step es past)
    → AreWhole note step (es ++ fs) past
whole-append note step [] fs past h g = g
whole-append note step (e ∷ es) fs past h g = (h.0, whole-append note step es fs (after note step e past) h.1 g)

module _ {M S : Type 0} (note : M → Note) (step : S → Input M → Deed M S) (stamp : Stamp) where
  letters-are_whole : (ls : List (Letter M)) (past : Past S)
      → AreWhole note step (letter_events note step stamp ls past) past
  letters-are_whole [] past = tt
  letters-are_whole (x ∷ xs) past =
      let e = event_of step (Take stamp x.link x.msg) past in
      ⊎_elim
      (λ (t : is_taken past.life x.sent stamp.beat ≡ true). rw t
      (whole-of step (Take stamp x.link x.msg) past, letters-are_whole xs (after note step e past)))
      (λ (t : is_taken past.life x.sent stamp.beat ≡ false). rw t (letters-are_whole xs past))
      (cases_Bool (is_taken past.life x.sent stamp.beat))

  end-is_whole : (past : Past S) → AreWhole note step (end_events step stamp past) past
  unfolding end_events
  end-is_whole past = ⊎_elim
      (λ (t : acts past.life stamp.beat ≡ true). rw t (whole-of step (Tick stamp) past, tt))
      (λ (t : acts past.life stamp.beat ≡ false). ⊎_elim
      (λ (d : dies past.life stamp.beat ≡ true). rw (t, d) (tt, tt))
      (λ (d : dies past.life stamp.beat ≡ false). rw (t, d) tt)
      (cases_Bool (dies past.life stamp.beat)))
      (cases_Bool (acts past.life stamp.beat))

  return-is_whole : (past : Past S) → AreWhole note step (return_events {M = M} stamp past) past
  return-is_whole past = ⊎_elim
      (λ (r : returns past.life stamp.beat ≡ true). rw r (tt, tt))
      (λ (r : returns past.life stamp.beat ≡ false). rw r tt)
      (cases_Bool (returns past.life stamp.beat))

  -- a return leaves the node as it is
  pub return-past : (past : Past S) → after_all note step (return_events stamp past) past ≡ past
  return-past past = ⊎_elim
      (λ (r : returns past.life stamp.beat ≡ true). rw r refl)
      (λ (r : returns past.life stamp.beat ≡ false). rw r refl)
      (cases_Bool (returns past.life stamp.beat))

  pub beat-is_whole : (ls : List (Letter M)) (past : Past S)
      → AreWhole note step (beat_events note step stamp ls past) past
  unfolding beat_events
  beat-is_whole ls past =
      let es = letter_events note step stamp ls past in
      let end = end_events step stamp (after_all note step es past) in
      whole-append note step (return_events stamp past) (es ++ end) past (return-is_whole past)
      (subst (AreWhole note step (es ++ end)) (sym (return-past past))
      (whole-append note step es end past (letters-are_whole ls past)
      (end-is_whole (after_all note step es past))))

  -- and each is at the stamp of the beat
  event-stamped : (i : Input M) (past : Past S) → stamp_of i ≡ stamp → stamp_at (event_of step i past) ≡ stamp
  unfolding event_of
  event-stamped i past at = by (cut_to past.life (stamp_of i) (is_tick_input i) (step past.state i).outs)
    where
      by : (o : Option ℕ) → stamp_at (event_to i o) ≡ stamp
      by None = at
      by (Some k) = at

  letters-stamped : (ls : List (Letter M)) (past : Past S)
      → AllByRecursion (λ e. stamp_at e ≡ stamp) (letter_events note step stamp ls past)
  letters-stamped [] past = tt
  letters-stamped (x ∷ xs) past =
      let e = event_of step (Take stamp x.link x.msg) past in
      ⊎_elim
      (λ (t : is_taken past.life x.sent stamp.beat ≡ true). rw t
      (event-stamped (Take stamp x.link x.msg) past refl, letters-stamped xs (after note step e past)))
      (λ (t : is_taken past.life x.sent stamp.beat ≡ false). rw t (letters-stamped xs past))
      (cases_Bool (is_taken past.life x.sent stamp.beat))

  end-stamped : (past : Past S) → AllByRecursion (λ e. stamp_at e ≡ stamp) (end_events step stamp past)
  unfolding end_events
  end-stamped past = ⊎_elim
      (λ (t : acts past.life stamp.beat ≡ true). rw t (event-stamped (Tick stamp) past refl, tt))
      (λ (t : acts past.life stamp.beat ≡ false). ⊎_elim
      (λ (d : dies past.life stamp.beat ≡ true). rw (t, d) (refl, tt))
      (λ (d : dies past.life stamp.beat ≡ false). rw (t, d) tt)
      (cases_Bool (dies past.life stamp.beat)))
      (cases_Bool (acts past.life stamp.beat))

  return-stamped : (past : Past S) → AllByRecursion (λ e. stamp_at e ≡ stamp) (return_events {M = M} stamp past)
  return-stamped past = ⊎_elim
      (λ (r : returns past.life stamp.beat ≡ true). rw r (refl, tt))
      (λ (r : returns past.life stamp.beat ≡ false). rw r tt)
      (cases_Bool (returns past.life stamp.beat))

  pub beat-stamped : (ls : List (Letter M)) (past : Past S)
      → AllByRecursion (λ e. stamp_at e ≡ stamp) (beat_events note step stamp ls past)
  unfolding beat_events
  beat-stamped ls past =
      let es = letter_events note step stamp ls past in
      let end = end_events step stamp (after_all note step es past) in
      all-append (λ (e : NodeEvent M). stamp_at e ≡ stamp) (return_events stamp past) (es ++ end) (return-stamped past)
      (all-append (λ (e : NodeEvent M). stamp_at e ≡ stamp) es end (letters-stamped ls past)
      (end-stamped (after_all note step es past)))
