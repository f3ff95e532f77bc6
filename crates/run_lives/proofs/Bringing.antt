-- A link in its receiver's beat, whatever befalls the receiver: with the events of the beat the link's account goes on.
use Rattle.std.proofs.Common.{◌≡◌, ℕ, ◌+◌, List, [], ◌∷◌, ◌++◌, map, filter, true, false, Option, Some}
use Rattle.std.proofs.Common.{None, refl, ap, sym, ◌∙◌, subst, append-nil, ⊎_elim, inl, inr}
use Rattle.std.specs.Prelude.{◌⊎◌}
use Rattle.std.specs.List.{AllByRecursion}
use Rattle.std.proofs.lemmas.Bool.{cases_Bool}
use Rattle.std.proofs.lemmas.List.Elements.{filter-append}
use Rattle.tiger_base.specs.declared.number.Stamp.{Stamp}
use Rattle.tiger_base.specs.declared.message.Note.{Note}
use Rattle.slot_plan.specs.declared.params.Params.{Params}
use Rattle.link_timing.specs.Clock.{Clock}
use Rattle.node_kit.specs.Courses.{ReturnsLater}
use Rattle.node_kit.specs.Life.{Lifetime, acts, dies, returns, ends_in}
use Rattle.node_kit.specs.Steps.{Input, Deed}
use Rattle.node_kit.specs.Steps.Input.{Tick}
use Rattle.run_facts.specs.declared.mail.Letter.{Letter}
use Rattle.run_facts.specs.Accounts.{Rising, AreAlive, is_caught, arriving, waiting, event_at, HasCutIn, OnLink, EndAt}
use Rattle.run_facts.specs.Accounts.{IsTimeline}
use Rattle.run_facts.specs.Beats.{letter_events, return_events, end_events, beat_events, bring, on_link}
use Rattle.run_facts.specs.Events.{NodeEvent, Past, Dated, after_all, event_to, event_of, takes_along, is_death}
use Rattle.run_facts.specs.Events.{IsCutUpTo}
use Rattle.run_facts.specs.Events.NodeEvent.{Does, Ends, Dies, Returns}
use Rattle.run_facts.specs.Paced.{Passage, brought, AreGot}
use Rattle.run_facts.specs.Timed.{death_within}
use Rattle.run_facts.proofs.Along.{takes-append}
use Rattle.run_facts.proofs.Beats.{whole_beat}
use Rattle.run_facts.proofs.Fronts.{lived}
use Rattle.run_facts.proofs.Indexed.{all-at}
use Rattle.run_facts.proofs.Getting.{got-weaker}
use Rattle.run_facts.proofs.Links.{arriving-now, got-more}
use Rattle.run_facts.proofs.Rows.{all-filter, all-weaker}
use Rattle.run_lives.proofs.Alike.{of-itself, ends-past}
use Rattle.run_lives.proofs.Ending.{cut-takes, over-dead}
use Rattle.run_lives.proofs.Missing.{cut-stays, cut-behind, got-misses, link-goes}
use Rattle.run_lives.proofs.Standing.{StandsAs, within-of}
use Rattle.run_lives.proofs.Unended.{beat-unended, beat-heard}

-- who is alive has not been cut off
cut-dies : {M : Type 0} (l : ℕ) (e : NodeEvent M) → IsCutUpTo l e → is_death e ≡ true
cut-dies l (Does i) h = absurd h
cut-dies l (Ends i sends) h = refl
cut-dies l (Dies s) h = absurd h
cut-dies l (Returns s) h = absurd h

pub alive-uncut : {M : Type 0} (l : ℕ) (es : List (NodeEvent M)) → AreAlive es → HasCutIn l es → ⊥
alive-uncut l es alive cut =
    let died = cut-dies l (event_at es cut.0) cut.2 in
    let q : true ≡ false = sym died ∙ all-at (λ e. is_death e ≡ false) es cut.0 cut.1 alive in absurd (cc)

-- before the beat in which its death is to cut it off no node has been cut off
uncut-by : {M : Type 0} (when : ℕ → Stamp) (l next : ℕ) (life : Lifetime) (o back : Option ℕ) (es : List (NodeEvent M))
    → death_within next life.death ≡ o → EndAt when next o back es → ends_in life next ≡ true → HasCutIn l es → ⊥
uncut-by when l next life None back es within end ended cut = alive-uncut l es end.0 cut
uncut-by when l next life (Some d) back es within end ended cut =
    let died = within-of next d life.death within in
    let q : true ≡ false = sym ended ∙ ends-past life life d next died.0 died.1 (of-itself life) in absurd (cc)

-- neither a return nor the end of a beat takes anything
tick-takes : {M : Type 0} (l : ℕ) (stamp : Stamp) (o : Option ℕ)
    → takes_along {M = M} l (event_to (Tick stamp) o ∷ []) ≡ []
tick-takes l stamp None = refl
tick-takes l stamp (Some k) = refl

module _ {M S : Type 0} (note : M → Note) (step : S → Input M → Deed M S) (stamp : Stamp) (l : ℕ) (past : Past S) where
  last-takes : takes_along l (event_of step (Tick stamp) past ∷ []) ≡ []
  unfolding event_of
  last-takes = tick-takes l stamp _

  end-takes : takes_along l (end_events step stamp past) ≡ []
  unfolding end_events
  end-takes = ⊎_elim
      (λ (t : acts past.life stamp.beat ≡ true). rw t last-takes)
      (λ (t : acts past.life stamp.beat ≡ false). ⊎_elim
      (λ (d : dies past.life stamp.beat ≡ true). rw (t, d) refl)
      (λ (d : dies past.life stamp.beat ≡ false). rw (t, d) refl)
      (cases_Bool (dies past.life stamp.beat)))
      (cases_Bool (acts past.life stamp.beat))

  return-takes : takes_along l (return_events {M = M} stamp past) ≡ []
  return-takes = ⊎_elim
      (λ (r : returns past.life stamp.beat ≡ true). rw r refl)
      (λ (r : returns past.life stamp.beat ≡ false). rw r refl)
      (cases_Bool (returns past.life stamp.beat))

  return-first : (es : List (NodeEvent M)) → takes_along l (return_events stamp past ++ es) ≡ takes_along l es
  return-first es = takes-append l (return_events stamp past) es ∙ ap (λ ds. ds ++ takes_along l es) return-takes

module _ {M S : Type 0} (note : M → Note) (step : S → Input M → Deed M S) (stamp : Stamp) (l : ℕ)
    (ls : List (Letter M)) (past : Past S) where
  -- what a beat takes on a link its letters take
  beat-takes : takes_along l (beat_events note step stamp ls past) ≡ takes_along l
      (letter_events note step stamp ls past)
  unfolding beat_events
  beat-takes =
      let es = letter_events note step stamp ls past in
      let then_past = after_all note step es past in
      return-first note step stamp l past (es ++ end_events step stamp then_past)
      ∙ takes-append l es (end_events step stamp then_past)
      ∙ ap (λ ds. takes_along l es ++ ds) (end-takes note step stamp l then_past)
      ∙ append-nil (takes_along l es)

  beat-cut : HasCutIn l (letter_events note step stamp ls past) → HasCutIn l (beat_events note step stamp ls past)
  unfolding beat_events
  beat-cut cut =
      let es = letter_events note step stamp ls past in
      let end = end_events step stamp (after_all note step es past) in
      cut-behind l (return_events stamp past) (es ++ end) (cut-stays l es end cut)

module _ {M S : Type 0} (note : M → Note) (step : S → Input M → Deed M S) (when : ℕ → Stamp) (p : Params) (n : ℕ)
    (death left back : Option ℕ) (later : ReturnsLater death back) (dated : (b : ℕ) → (when b).beat ≡ b) (next : ℕ)
    (ls : List (Letter M)) (past : Past S) (rises : Rising (λ (x : Letter M). x.link.0) ls)
    (stands : StandsAs (lived death left back) past.life next) where
  abbrev its_life : Lifetime
  its_life = lived death left back

  abbrev stamp : Stamp
  stamp = when next

  abbrev new : List (NodeEvent M)
  new = beat_events note step stamp ls past

  -- what a link brings in the beat
  abbrev brings : ℕ → List (Passage M)
  brings l = map (bring stamp.beat) (filter (on_link l) ls)

  -- all that is heard is taken, if no death is to cut the node off
  heard : (l : ℕ) → ends_in its_life next ≡ false → takes_along l new ≡ map brought
      (filter (is_caught its_life) (brings l))
  heard l whole =
      let unended : ends_in past.life stamp.beat ≡ false = ap (ends_in past.life) (dated next) ∙ stands.ends_so
      ∙ whole in
      let same : acts past.life stamp.beat ≡ acts its_life stamp.beat = ap (acts past.life) (dated next)
      ∙ stands.acts_so ∙ sym (ap (acts its_life) (dated next)) in
      ap (takes_along l) (beat-unended note step stamp ls past unended)
      ∙ return-first note step stamp l past (whole_beat note step stamp ls past)
      ∙ beat-heard note step stamp l its_life ls past stands.of_life same

  -- of what a link brings in the beat is got what was heard, but for what the death came before
  pub got-lives : (l : ℕ) (gone more : List (Passage M)) (old : List (NodeEvent M))
      → IsTimeline when p n its_life next old → AllByRecursion (λ (f : Passage M). f.arrival ≡ next) more
      → map (bring stamp.beat) (filter (on_link l) ls) ≡ more
      → AreGot its_life (HasCutIn l old) (filter (is_caught its_life) gone) (takes_along l old)
      → AreGot its_life (HasCutIn l (old ++ beat_events note step stamp ls past))
      (filter (is_caught its_life) (gone ++ more)) (takes_along l (old ++ beat_events note step stamp ls past))
  got-lives l gone more old timeline now arrive was = ⊎_elim
      (λ (ended : ends_in its_life next ≡ true).
      let ended_there : ends_in its_life stamp.beat ≡ true = ap (ends_in its_life) (dated next) ∙ ended in
      let c = cut-takes note step stamp its_life l ls past rises stands.of_life (stands.not_over ended)
      (over-dead death left back stamp.beat ended_there later) in
      let why : (c.missed ≡ []) ⊎ HasCutIn l new = ⊎_elim
      (λ (none : c.missed ≡ []). inl none)
      (λ (cut : HasCutIn l (letter_events note step stamp ls past)). inr (beat-cut note step stamp l ls past cut))
      c.why in
      got-misses its_life l next old new gone more c.early c.missed ended
      (uncut-by when l next its_life (death_within next death)
      (death_within next back) old refl timeline.ends ended) now
      (ap (filter (is_caught its_life)) (sym arrive) ∙ c.split) (beat-takes note step stamp l ls past
      ∙ c.taken) why was)
      (λ (whole : ends_in its_life next ≡ false).
      let unended = all-weaker (λ (f : Passage M). f.arrival ≡ next) (λ f. ends_in its_life f.arrival ≡ false) more
      (λ f e. ap (ends_in its_life) e ∙ whole) now in
      let both = got-more its_life (HasCutIn l old) (filter (is_caught its_life) gone)
      (filter (is_caught its_life) more) (takes_along l old)
      (all-filter (λ (f : Passage M). ends_in its_life f.arrival ≡ false) (is_caught its_life) more unended) was in
      let got : takes_along l old ++ map brought (filter (is_caught its_life) more) ≡ takes_along l (old ++ new) =
      ap (λ ps. takes_along l old ++ map brought (filter (is_caught its_life) ps)) (sym arrive)
      ∙ ap (λ ds. takes_along l old ++ ds) (sym (heard l whole)) ∙ sym (takes-append l old new) in
      got-weaker its_life (HasCutIn l old) (HasCutIn l (old ++ new)) (filter (is_caught its_life) (gone ++ more))
      (takes_along l (old ++ new)) (cut-stays l old new)
      (subst (λ ps. AreGot its_life (HasCutIn l old) ps (takes_along l (old ++ new)))
      (sym (filter-append (is_caught its_life) gone more))
      (subst (λ ds. AreGot its_life (HasCutIn l old)
      (filter (is_caught its_life) gone ++ filter (is_caught its_life) more) ds) got both)))
      (cases_Bool (ends_in its_life next))

  -- so the link's account goes on
  pub link-lives : (l most : ℕ) (start : Clock) (sent : List (Dated M)) (old : List (NodeEvent M)) (clock : Clock)
      (flights : List (Passage M))
      → IsTimeline when p n its_life next old → map (bring stamp.beat) (filter (on_link l) ls) ≡ arriving next flights
      → OnLink its_life (HasCutIn l old) most start sent (takes_along l old) clock flights next
      → OnLink its_life (HasCutIn l (old ++ beat_events note step stamp ls past)) most start sent
      (takes_along l (old ++ beat_events note step stamp ls past)) clock (waiting next flights) (next + 1)
  link-lives l most start sent old clock flights timeline arrive on =
      link-goes its_life (HasCutIn l old) (HasCutIn l (old ++ new)) most start sent (takes_along l old)
      (takes_along l (old ++ new)) clock flights next on
      (got-lives l on.gone (arriving next flights) old timeline (arriving-now next flights on.ahead) arrive on.got_is)
