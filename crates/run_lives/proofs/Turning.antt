-- What a node missed by its death had not had its turn: of the notes got in the beat of the death the last came on its
-- link or on a lower one.
use Rattle.std.proofs.Common.{◌≡◌, ℕ, suc, zero, ◌+◌, ◌≤◌, List, [], ◌∷◌, ◌++◌, map, false, Option, Some}
use Rattle.std.proofs.Common.{None, refl, ap, sym, ◌∙◌, subst, arith}
use Rattle.std.specs.List.{AllByRecursion}
use Rattle.tiger_base.specs.declared.number.Stamp.{Stamp}
use Rattle.tiger_base.specs.declared.message.Note.{Note}
use Rattle.slot_plan.specs.declared.params.Params.{Params}
use Rattle.node_kit.specs.declared.journal.What.TheVariants as what
use Rattle.node_kit.specs.declared.journal.Entry.{Entry}
use Rattle.node_kit.specs.Life.{Lifetime}
use Rattle.node_kit.specs.Outputs.{with_death}
use Rattle.node_kit.specs.Steps.{Input, Deed, entry_of}
use Rattle.node_kit.specs.Steps.Input.{Take, Tick}
use Rattle.run_facts.specs.Accounts.{AreAlive, HasCutIn, IsTimeline}
use Rattle.run_facts.specs.Events.{NodeEvent, Past, after, after_all, left_outs, stamp_at, AreFair, written}
use Rattle.run_facts.specs.Events.{IsCutUpTo}
use Rattle.run_facts.specs.Events.NodeEvent.{Does, Ends, Dies, Returns}
use Rattle.run_facts.specs.Paced.{DiedInTurn, TurnCameTo, is_got}
use Rattle.run_facts.specs.Timed.{death_within}
use Rattle.run_facts.proofs.Along.{written-append}
use Rattle.run_facts.proofs.Journals.{stamped-written, ungot-death}
use Rattle.run_facts.proofs.Rows.{all-append, all-weaker}
use Rattle.run_lives.proofs.Around.{around-of, end-of}
use Rattle.run_lives.proofs.Bringing.{alive-uncut}
use Rattle.run_lives.proofs.Entries.{fair-right}
use Rattle.run_lives.proofs.Standing.{within-of}

-- among events around a death only that is cut off
pub cut-last : {M : Type 0} (l : ℕ) (front more : List (NodeEvent M)) (last : NodeEvent M) → AreAlive front
    → AreAlive more
    → HasCutIn l (front ++ last ∷ more) → IsCutUpTo l last
cut-last l [] more last alive later (zero, low, cut) = cut
cut-last l [] more last alive later (suc i, low, cut) =
    absurd (alive-uncut l more later (i, omega (arith, low), cut))
cut-last l (e ∷ es) more last alive later (zero, low, cut) =
    absurd (alive-uncut l (e ∷ []) (alive.0, tt) (0, omega arith, cut))
cut-last l (e ∷ es) more last alive later (suc i, low, cut) =
    cut-last l es more last alive.1 later (i, omega (arith, low), cut)

module _ {M S : Type 0} (note : M → Note) (step : S → Input M → Deed M S) (p : Params) (n : ℕ) (when : ℕ → Stamp)
    (dated : (b : ℕ) → (when b).beat ≡ b) (next : ℕ) (past : Past S) (l : ℕ) where
  -- in the journal of events around a death that cuts a take off, this is the last note got in its beat
  turn-at : (death : ℕ) (front more : List (NodeEvent M)) (last : NodeEvent M) → stamp_at last ≡ when death
      → AllByRecursion (λ e. death + 2 ≤ (stamp_at e).beat) more
      → AreFair note step p n (front ++ last ∷ more) past → IsCutUpTo l last
      → TurnCameTo l death (written note step (front ++ last ∷ more) past)
  turn-at death front more (Does i) at late fair cut = absurd cut
  turn-at death front more (Dies s) at late fair cut = absurd cut
  turn-at death front more (Returns s) at late fair cut = absurd cut
  turn-at death front more (Ends (Tick s) k) at late fair cut = absurd cut
  turn-at death front more (Ends (Take s link msg) k) at late fair cut =
      let last : NodeEvent M = Ends (Take s link msg) k in
      let then_past = after_all note step front past in
      let outs = map (entry_of note s) (with_death (left_outs step (Take s link msg) k then_past)) in
      let rest = written note step more (after note step last then_past) in
      let allowed = (fair-right note step p n front (last ∷ more) past fair).0 in
      record {
        before = written note step front past;
        last = record { stamp = s; what = what.Got link (note msg) };
        behind = outs ++ rest;
        split = written-append note step front (last ∷ more) past;
        in_beat = ap (λ (q : Stamp). q.beat) at ∙ dated death;
        got = cut;
        none = all-append (λ (e : Entry). e.stamp.beat ≡ death → is_got e.what ≡ false) outs rest
            (all-weaker (λ (e : Entry). is_got e.what ≡ false)
            (λ e. e.stamp.beat ≡ death → is_got e.what ≡ false) outs
            (λ e h q. h) (ungot-death note p n s (left_outs step (Take s link msg) k then_past) allowed))
            (all-weaker (λ (e : Entry). death + 2 ≤ e.stamp.beat)
            (λ e. e.stamp.beat ≡ death → is_got e.what ≡ false) rest
            (λ e h q. absurd (omega (arith, h, q)))
            (stamped-written note step (λ q. death + 2 ≤ q.beat) more (after note step last then_past) late));
      }

  turn-by : (life : Lifetime) (es : List (NodeEvent M)) (o : Option ℕ) → death_within next life.death ≡ o
      → IsTimeline when p n life next es → AreFair note step p n es past → HasCutIn l es
      → DiedInTurn life.death l (written note step es past)
  turn-by life es None within timeline fair cut =
      absurd (alive-uncut l es (end-of when p n life next None es within timeline).0 cut)
  turn-by life es (Some d) within timeline fair cut =
      let died = within-of next d life.death within in
      let around = around-of when next d (death_within next life.back) es dated timeline.counted
      (end-of when p n life next (Some d) es within timeline) in
      let last_cut = cut-last l around.front around.more around.last around.alive around.alive_more
      (subst (HasCutIn l) around.parts cut) in
      subst (λ q. DiedInTurn q l (written note step es past)) (sym died.0)
      (subst (λ qs. TurnCameTo l d (written note step qs past)) (sym around.parts)
      (turn-at d around.front around.more around.last around.at around.late
      (subst (λ qs. AreFair note step p n qs past) around.parts fair) last_cut))

  pub turn-came : (life : Lifetime) (es : List (NodeEvent M)) → IsTimeline when p n life next es
      → AreFair note step p n es past → HasCutIn l es → DiedInTurn life.death l (written note step es past)
  turn-came life es timeline fair cut =
      turn-by life es (death_within next life.death) refl timeline fair cut
