-- What stands behind a cub's death in its journal is written since its return.
use Rattle.std.proofs.Common.{◌≡◌, ℕ, ◌+◌, ◌<◌, ◌≤◌, List, [], ◌∷◌, ◌++◌, true, false, Some, refl, sym, ap, subst, ◌∙◌, arith, ⊎_elim, inl, eq-or-lt_of_le}
use Rattle.std.specs.Prelude.{slice_get}
use Rattle.std.proofs.lemmas.Bool.{cases_Bool, true≢false}
use Rattle.tiger_base.specs.declared.message.Msg.{Msg}
use Rattle.tiger_base.specs.Notes.{noted}
use Rattle.slot_plan.specs.declared.params.Params.{Params}
use Rattle.node_kit.specs.declared.course.Order.{Order}
use Rattle.node_kit.specs.declared.journal.Entry.{Entry}
use Rattle.node_kit.specs.declared.journal.What.TheVariants as what
use Rattle.node_kit.specs.Steps.{Deed, Input}
use Rattle.run_facts.specs.Events.{NodeEvent, Past, entries_at, is_death, is_return, stamp_at}
use Rattle.run_facts.specs.Events.NodeEvent.{Does, Ends, Dies, Returns}
use Rattle.run_facts.specs.Histories.{History, beat, outs, past}
use Rattle.run_facts.specs.Timed.{is_died}
use Rattle.disk_core.specs.State.{DiskState}
use Rattle.lists.specs.Elements.{In}
use Rattle.lists.proofs.Elements.{in_right}
use Rattle.proof_lives.specs.Histories.{input_of}
use Rattle.proof_lives.specs.Lives.{beat_at}
use Rattle.proof_lives.specs.TwoLifeRun.{event_in}
use Rattle.proof_lives.specs.TwoLifeRun.WhichLife.{Later}
use Rattle.proof_lives.proofs.TwoLives.{beat_in}
use Rattle.proof_moments.specs.Ties.{ReturnedBy}
use Rattle.proof_facts.specs.Beside.{Additions}
use Rattle.proof_facts.specs.Facts.{facts_of}
use Rattle.proof_facts.specs.Lives.{later_lives_of}
use Rattle.proof_journals.proofs.Cutting.{IsCutIn, cut_at_entry}
use Rattle.proof_journals.proofs.Ending.{came_back, death_first}
use Rattle.proof_journals.proofs.Events.{AreKept, beats_rise, cub_inside, fair}
use Rattle.proof_journals.proofs.Journals.{beat_is, wrote}
use Rattle.proof_journals.proofs.Lists.{moved, none_more, past_front}
use Rattle.proof_journals.proofs.Notes.{event_lives, outputs_live}
use Rattle.proof_journals.proofs.Wrote.{death_is, died_entry, died_in, entries_are, got_in, got_no_death, sent_in}

-- A return itself writes nothing.
return_writes_none : {S : Type 0} (step : S → Input Msg → Deed Msg S) (e : NodeEvent Msg) (before : Past S)
    → is_return e ≡ true → entries_at noted step e before ≡ []
return_writes_none step (Does i) before t = absurd (cc)
return_writes_none step (Ends i sends) before t = absurd (cc)
return_writes_none step (Dies stamp) before t = absurd (cc)
return_writes_none step (Returns stamp) before t = refl

module _ {S : Type 0} {step : S → Input Msg → Deed Msg S} {p : Params} {orders : List Order}
    {disk_at : ℕ → DiskState} {added : Additions} {h : History Msg S} {journals : List (List Entry)}
    (kept : AreKept step p orders disk_at added h journals) where
  -- The entry of a death is of the event of the death, and is the last one there.
  record IsDeathIn (n : ℕ) (xs : List Entry) (e : Entry) (ys : List Entry) (c : IsCutIn kept n xs e ys) : Type 0 where
    death : is_death (h.event n c.at) ≡ true
    last : (f : Entry) → In f c.rest → ⊥

  death_in : (n : ℕ) (xs : List Entry) (e : Entry) (ys : List Entry) → (c : IsCutIn kept n xs e ys) → e.what ≡ what.Died
      → IsDeathIn n xs e ys c
  death_in n xs e ys c is =
      let event : NodeEvent Msg = h.event n c.at in
      let before : Past S = past noted step h n c.at in
      let fairly = fair kept n c.at c.known c.done in
      let there : In e (wrote step h n c.at) = moved e c.event_is (in_right e c.part (e ∷ c.rest) (inl refl)) in
      ⊎_elim
      (λ (t : is_death event ≡ true).
      let got = past_front (got_in event) (sent_in step event before ++ died_in event) c.part e c.rest
      (c.event_is ∙ entries_are step p n event before fairly)
      (λ j. true≢false (sym (ap is_died is) ∙ got_no_death (input_of event) e j)) in
      let sent = past_front (sent_in step event before) (died_in event) got.0 e c.rest got.2
      (λ j. outputs_live p n (stamp_at event) (outs noted step h n c.at) e fairly j (ap is_died is)) in
      record {
        death = t;
        last = λ f j. none_more sent.0 e c.rest (died_entry (stamp_at event)) f (sent.2 ∙ death_is event t) j;
      })
      (λ (l : is_death event ≡ false). absurd (event_lives step p n event before e l fairly there (ap is_died is)))
      (cases_Bool (is_death event))

  -- Who writes in an event behind its death has come back by then.
  back_by : (n i k : ℕ) (f : Entry) → n < p.cubs → i < h.count n → is_death (h.event n i) ≡ true → i < k → k < h.count n
      → In f (wrote step h n k) → ReturnedBy (facts_of p orders h) n f.stamp.beat
  back_by n i k f small low dead less done there =
      let known = cub_inside kept n small in
      let last = death_first kept.ring n i known low dead in
      let far : i + 1 < k = ⊎_elim
      (λ (e : i + 1 ≡ k). ⊎_elim
      (λ (end : i + 1 ≡ h.count n). absurd (omega arith))
      (λ (back : is_return (h.event n (i + 1)) ≡ true).
      let t : is_return (h.event n k) ≡ true = subst (λ j. is_return (h.event n j) ≡ true) e back in
      absurd (moved f (return_writes_none step (h.event n k) (past noted step h n k) t) there))
      (kept.ring.run.ended n i known low dead))
      (λ (l : i + 1 < k). l)
      (eq-or-lt_of_le (let z : i + 1 ≤ k = omega arith in z)) in
      let some : 0 < (later_lives_of h).count n = omega arith in
      let when = beat_in h Later n 0 in
      let rise = beats_rise kept n (event_in h Later n 0) k known (omega arith) done in
      let now = beat_is step h n k f there in
      record {
        beat = beat_at ((later_lives_of h).input n) 0;
        returned = came_back kept.ring n small some;
        by = omega arith;
      }

  pub since : (n : ℕ) (xs ys : List Entry) (e f : Entry) → n < p.cubs → slice_get journals n ≡ Some (xs ++ e ∷ ys)
      → e.what ≡ what.Died → In f ys → ReturnedBy (facts_of p orders h) n f.stamp.beat
  since n xs ys e f small at is i =
      let c = cut_at_entry kept n xs e ys at in
      let d = death_in n xs e ys c is in
      ⊎_elim
      (λ j. absurd (d.last f j))
      (λ k. back_by n c.at k.0 f small c.done d.death k.1 k.2 k.3)
      (c.behind f i)
