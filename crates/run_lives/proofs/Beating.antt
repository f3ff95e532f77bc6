-- A node's beat, whatever befalls it there: with its events the node has come through one beat more.
use Rattle.std.proofs.Common.{◌≡◌, ℕ, ◌+◌, List, [], ◌∷◌, ◌++◌, Bool, true, false, not, Option, Some, None, refl, ap}
use Rattle.std.proofs.Common.{sym, ◌∙◌, subst, arith, append-nil, ⊎_elim}
use Rattle.std.specs.Prelude.{is_some}
use Rattle.std.specs.List.{AllByRecursion}
use Rattle.std.proofs.lemmas.Bool.{cases_Bool}
use Rattle.tiger_base.specs.declared.number.Stamp.{Stamp}
use Rattle.tiger_base.specs.declared.message.Note.{Note}
use Rattle.slot_plan.specs.declared.params.Params.{Params}
use Rattle.node_kit.specs.Courses.{ReturnsLater}
use Rattle.node_kit.specs.Life.{Lifetime, acts, dies, returns, ends_in}
use Rattle.node_kit.specs.Links.{IsInLink}
use Rattle.node_kit.specs.Steps.{Input, Deed}
use Rattle.node_kit.specs.Steps.Input.{Take, Tick}
use Rattle.run_facts.specs.declared.mail.Letter.{Letter}
use Rattle.run_facts.specs.Accounts.{Rising, AreTurns, AreInTurn, IsInTurn, EndAt, IsTimeline, IsTakeAt, input_in}
use Rattle.run_facts.specs.Beats.{letter_events, return_events, end_events, beat_events}
use Rattle.run_facts.specs.Events.{NodeEvent, Past, after_all, event_to, event_of}
use Rattle.run_facts.specs.Events.NodeEvent.{Does, Ends, Returns}
use Rattle.run_facts.specs.Timed.{death_within}
use Rattle.run_facts.proofs.Beats.{whole_letters, whole_beat, end-acting, events-takes, events-in_turn}
use Rattle.run_facts.proofs.Beats.{last-dying, last-idle}
use Rattle.run_facts.proofs.Fronts.{lived}
use Rattle.run_facts.proofs.Rows.{all-given, all-left}
use Rattle.run_facts.proofs.Timelines.{turn-append}
use Rattle.run_lives.proofs.Alike.{of-itself, acts-of, dies-of, returns-of, life-of-events, over-events}
use Rattle.run_lives.proofs.Befalls.{IsFirst, IsLast, IsGone, IsUpAgain, befalls}
use Rattle.run_lives.proofs.Ending.{CutBeat, cut-beat, letters-idle, letters-turn, over-dead}
use Rattle.run_lives.proofs.Standing.{StandsAs, open-dead, open-back}
use Rattle.run_lives.proofs.Stepping.{step-first, step-gone, step-up, step-back, step-dies, step-cut}
use Rattle.run_lives.proofs.Unended.{beat-unended, letters-alive}

-- behind any event a tick is in its turn, and so is what takes nothing
tick-later : {M : Type 0} (stamp : Stamp) (o : Option (Input M)) → AreTurns o (Some (Tick stamp))
tick-later stamp None = tt
tick-later stamp (Some (Take s link msg)) = tt
tick-later stamp (Some (Tick s)) = tt

none-later : {M : Type 0} (o : Option (Input M)) → AreTurns o None
none-later None = tt
none-later (Some (Take s link msg)) = tt
none-later (Some (Tick s)) = tt

tick-to : {M : Type 0} (stamp : Stamp) (o : Option ℕ) → input_in {M = M} (event_to (Tick stamp) o) ≡ Some (Tick stamp)
tick-to stamp None = refl
tick-to stamp (Some k) = refl

tick-input : {M S : Type 0} (step : S → Input M → Deed M S) (stamp : Stamp) (past : Past S)
    → input_in (event_of step (Tick stamp) past) ≡ Some (Tick stamp)
unfolding event_of
tick-input step stamp past = tick-to stamp _

turn-left : {M : Type 0} (es fs : List (NodeEvent M)) → AreInTurn (es ++ fs) → AreInTurn es
turn-left [] fs h = tt
turn-left (e ∷ es) fs h = (all-left (IsInTurn e) es fs h.0, turn-left es fs h.1)

-- the events of a beat are in turn, whatever befalls the node
module _ {M S : Type 0} (note : M → Note) (step : S → Input M → Deed M S) (stamp : Stamp) where
  tick-turns : (e : NodeEvent M) (past : Past S) → IsInTurn e (event_of step (Tick stamp) past)
  tick-turns e past =
      subst (λ o. AreTurns (input_in e) o) (sym (tick-input step stamp past)) (tick-later stamp (input_in e))

  end-turns : (past : Past S) → AreInTurn (end_events step stamp past)
  unfolding end_events
  end-turns past = ⊎_elim
      (λ (t : acts past.life stamp.beat ≡ true). rw t (tt, tt))
      (λ (t : acts past.life stamp.beat ≡ false). ⊎_elim
      (λ (d : dies past.life stamp.beat ≡ true). rw (t, d) (tt, tt))
      (λ (d : dies past.life stamp.beat ≡ false). rw (t, d) tt)
      (cases_Bool (dies past.life stamp.beat)))
      (cases_Bool (acts past.life stamp.beat))

  end-behind : (e : NodeEvent M) (past : Past S) → AllByRecursion (IsInTurn e) (end_events step stamp past)
  unfolding end_events
  end-behind e past = ⊎_elim
      (λ (t : acts past.life stamp.beat ≡ true). rw t (tick-turns e past, tt))
      (λ (t : acts past.life stamp.beat ≡ false). ⊎_elim
      (λ (d : dies past.life stamp.beat ≡ true). rw (t, d) (none-later (input_in e), tt))
      (λ (d : dies past.life stamp.beat ≡ false). rw (t, d) tt)
      (cases_Bool (dies past.life stamp.beat)))
      (cases_Bool (acts past.life stamp.beat))

  return-turns : (past : Past S) (fs : List (NodeEvent M)) → AreInTurn fs → AreInTurn (return_events stamp past ++ fs)
  return-turns past fs h = ⊎_elim
      (λ (r : returns past.life stamp.beat ≡ true). rw r (all-given (IsInTurn (Returns stamp)) fs (λ f. tt), h))
      (λ (r : returns past.life stamp.beat ≡ false). rw r h)
      (cases_Bool (returns past.life stamp.beat))

  pub beat-turn : (ls : List (Letter M)) (past : Past S) → Rising (λ (x : Letter M). x.link.0) ls
      → AreInTurn (beat_events note step stamp ls past)
  unfolding beat_events
  beat-turn ls past rises =
      let es = letter_events note step stamp ls past in
      let then_past = after_all note step es past in
      return-turns past (es ++ end_events step stamp then_past)
      (turn-append es (end_events step stamp then_past) (letters-turn note step stamp ls past rises)
      (end-turns then_past)
      (all-given (λ e. AllByRecursion (IsInTurn e) (end_events step stamp then_past)) es (λ e. end-behind e then_past)))

module _ {M S : Type 0} (note : M → Note) (step : S → Input M → Deed M S) (when : ℕ → Stamp) (p : Params) (n : ℕ)
    (death left back : Option ℕ) (later : ReturnsLater death back) (dated : (b : ℕ) → (when b).beat ≡ b) (next : ℕ)
    (ls : List (Letter M)) (past : Past S) (lead : AllByRecursion (λ (x : Letter M). IsInLink p n x.link.0) ls)
    (rises : Rising (λ (x : Letter M). x.link.0) ls) (stands : StandsAs (lived death left back) past.life next) where
  abbrev its_life : Lifetime
  its_life = lived death left back

  abbrev stamp : Stamp
  stamp = when next

  -- what the node takes, if no death comes in it
  abbrev takes : List (NodeEvent M)
  takes = whole_letters note step stamp ls past

  taken : AllByRecursion (IsTakeAt stamp p n) takes
  taken = events-takes note step stamp p n ls past lead

  in_turn : AreInTurn takes
  in_turn = events-in_turn note step stamp ls past rises

  -- what a life says of the beat
  acts-now : (t : Bool) → acts its_life next ≡ t → acts past.life stamp.beat ≡ t
  acts-now t h = ap (acts past.life) (dated next) ∙ stands.acts_so ∙ h

  ends-now : (t : Bool) → ends_in its_life next ≡ t → ends_in past.life stamp.beat ≡ t
  ends-now t h = ap (ends_in past.life) (dated next) ∙ stands.ends_so ∙ h

  dies-now : (t : Bool) → dies its_life next ≡ t → dies past.life stamp.beat ≡ t
  dies-now t h = ap (dies past.life) (dated next) ∙ dies-of its_life past.life next stands.of_life ∙ h

  returns-now : (t : Bool) → returns its_life next ≡ t → returns past.life stamp.beat ≡ t
  returns-now t h = ap (returns past.life) (dated next) ∙ returns-of its_life past.life next stands.of_life ∙ h

  -- it acts, and no death is to cut it off
  acting : acts its_life next ≡ true → ends_in its_life next ≡ false
      → beat_events note step stamp ls past ≡ return_events stamp past ++ (takes ++ Does (Tick stamp) ∷ [])
  unfolding whole_beat
  acting live whole =
      let then_past = after_all note step takes past in
      let over = over-events note step takes past (letters-alive note step stamp ls past) in
      let still = acts-of past.life then_past.life stamp.beat
      (life-of-events note step past.life takes past (of-itself past.life)) over ∙ acts-now true live in
      beat-unended note step stamp ls past (ends-now false whole)
      ∙ ap (λ qs. return_events stamp past ++ (takes ++ qs)) (end-acting stamp then_past.life still)

  here-first : returns its_life next ≡ false → return_events {M = M} stamp past ≡ []
  here-first here = rw (returns-now false here) refl

  -- it does not act
  idling : acts its_life next ≡ false → returns its_life next ≡ false
      → beat_events note step stamp ls past ≡ end_events step stamp past
  unfolding beat_events
  idling idle here =
      let none = letters-idle note step stamp ls past (acts-now false idle) in
      ap (λ qs. qs ++ (letter_events note step stamp ls past
      ++ end_events step stamp (after_all note step (letter_events note step stamp ls past) past))) (here-first here)
      ∙ ap (λ qs. qs ++ end_events step stamp (after_all note step qs past)) none

  -- what befalls it
  abbrev new : List (NodeEvent M)
  new = beat_events note step stamp ls past

  abbrev Come : ℕ → List (NodeEvent M) → Type 0
  Come b es = IsTimeline when p n its_life b es

  come-first : (es : List (NodeEvent M)) → IsFirst death left back next → Come next es → Come (next + 1) (es ++ new)
  come-first es is timeline =
      let all = acting is.acts_then is.whole
      ∙ ap (λ qs. qs ++ (takes ++ Does (Tick stamp) ∷ [])) (here-first is.here) in
      subst (λ qs. Come (next + 1) (es ++ qs)) (sym all)
      (step-first when p n death left back dated next takes taken in_turn es is timeline)

  come-cut : (es : List (NodeEvent M)) → IsLast death left back next → is_some left ≡ true
      → CutBeat note step stamp p n new → Come next es → Come (next + 1) (es ++ new)
  come-cut es is cut c timeline =
      let turns = subst AreInTurn c.all (beat-turn note step stamp ls past rises) in
      subst (λ qs. Come (next + 1) (es ++ qs)) (sym c.all)
      (step-cut when p n death left back dated next c.early c.takes
      (turn-left c.early (Ends c.input c.sends ∷ []) turns) es c.input c.sends c.at c.leads turns is cut timeline)

  come-last : (es : List (NodeEvent M)) → IsLast death left back next → Come next es → Come (next + 1) (es ++ new)
  come-last es is timeline = ⊎_elim
      (λ (cut : is_some left ≡ true).
      let ended : ends_in its_life stamp.beat ≡ true = ap (ends_in its_life) (dated next) ∙ is.ends_then ∙ cut in
      let here : returns its_life stamp.beat ≡ false = ap (returns its_life) (dated next) ∙ is.here in
      come-cut es is cut (cut-beat note step stamp p n its_life ls past lead stands.of_life
      (stands.not_over (is.ends_then ∙ cut)) ended here (over-dead death left back stamp.beat ended later)) timeline)
      (λ (uncut : is_some left ≡ false).
      let idle = is.acts_then ∙ uncut in
      let all = idling idle is.here
      ∙ last-dying step stamp past (acts-now false idle) (dies-now true (is.dies_then ∙ ap not uncut)) in
      subst (λ qs. Come (next + 1) (es ++ qs)) (sym all)
      (step-dies when p n death left back dated next takes taken in_turn es is uncut timeline))
      (cases_Bool (is_some left))

  come-gone : (es : List (NodeEvent M)) → IsGone death left back next → Come next es → Come (next + 1) (es ++ new)
  come-gone es is timeline =
      let all = idling is.idle is.here
      ∙ last-idle step stamp past (acts-now false is.idle) (dies-now false is.undead) in
      subst (Come (next + 1)) (sym (ap (λ qs. es ++ qs) all ∙ append-nil es))
      (step-gone when p n death left back dated next takes taken in_turn es is timeline)

  come-up : (es : List (NodeEvent M)) → IsUpAgain death left back next → Come next es → Come (next + 1) (es ++ new)
  come-up es is timeline =
      let events = acting is.acts_then is.whole in
      let end = subst (λ o. EndAt {M = M} when next o (death_within next back) es) is.before timeline.ends in
      ⊎_elim
      (λ (now : (is.again ≡ next) × (returns its_life next ≡ true) × (death_within next back ≡ None)).
      let old = subst (λ o. EndAt {M = M} when next (Some is.died) o es) now.2 end in
      let dead = open-dead when next is.died es old in
      let apart = is.apart in
      let same = now.0 in
      let back_here : return_events {M = M} stamp past ≡ Returns stamp ∷ [] = rw (returns-now true now.1) refl in
      let all = events ∙ ap (λ qs. qs ++ (takes ++ Does (Tick stamp) ∷ [])) back_here in
      subst (λ qs. Come (next + 1) (es ++ qs)) (sym all)
      (step-back when p n death left back dated next takes taken in_turn es is now.0 now.1 now.2
      (omega (arith, dead, apart, same)) timeline))
      (λ (before : (returns its_life next ≡ false) × (death_within next back ≡ Some is.again)).
      let old = subst (λ o. EndAt {M = M} when next (Some is.died) o es) before.1 end in
      let all = events ∙ ap (λ qs. qs ++ (takes ++ Does (Tick stamp) ∷ [])) (here-first before.0) in
      subst (λ qs. Come (next + 1) (es ++ qs)) (sym all)
      (step-up when p n death left back dated next takes taken in_turn es is before.1
      (open-back when next is.died is.again es dated old) timeline))
      is.when_back

  -- one beat more
  pub beat-lives : (es : List (NodeEvent M)) → IsTimeline when p n its_life next es
      → IsTimeline when p n its_life (next + 1) (es ++ beat_events note step stamp ls past)
  beat-lives es timeline = ⊎_elim
      (λ is. come-first es is timeline)
      (λ rest. ⊎_elim
      (λ is. come-last es is timeline)
      (λ more. ⊎_elim
      (λ is. come-gone es is timeline)
      (λ is. come-up es is timeline)
      more) rest)
      (befalls death left back next later)
