-- The laws of whole blocks that speak of answers: each ask is answered, and a read that failed was for a record there.
use Rattle.std.proofs.Common.{◌≡◌, ℕ, suc, ◌+◌, ◌*◌, ◌<◌, ◌≤◌, Option, Some, None, refl, ap, subst, ⊎_elim, inl, inr, arith}
use Rattle.std.specs.Prelude.{◌⊎◌}
use Rattle.std.proofs.lemmas.Bool.{cases_lt}
use Rattle.tiger_base.specs.Span.{LibraryPart}
use Rattle.tiger_base.specs.Records.{own_of}
use Rattle.tiger_base.specs.declared.number.Stamp.{Stamp}
use Rattle.tiger_base.specs.declared.tenancy.Rec.{Rec}
use Rattle.tiger_base.specs.declared.tenancy.Tenancy.{Tenancy}
use Rattle.tiger_base.specs.declared.message.Msg.{Msg}
use Rattle.tiger_base.specs.declared.message.Msg.TheVariants as msg
use Rattle.slot_plan.specs.declared.params.Params.{Params}
use Rattle.node_kit.specs.Steps.Input.{Take, Tick}
use Rattle.partial_view.specs.declared.line.Line.{Line}
use Rattle.cub_rules.specs.declared.store.Store.{Store}
use Rattle.disk_core.specs.State.{DiskState}
use Rattle.disk_core.specs.Rules.{read_part}
use Rattle.proof_lives.specs.Lives.{Lives, outs_at, beat_at}
use Rattle.run_facts.specs.Events.{is_tick_input}
use Rattle.lists.specs.Elements.{In}
use Rattle.proof_lives.specs.Facts.{TookMessage}
use Rattle.proof_lives.proofs.Leaving.{stays_or_gone}
use Rattle.proof_lives.proofs.Moves.{taken_out}
use Rattle.proof_lives.proofs.Cuts.{whole_before, whole_by_beat}
use Rattle.proof_lives.proofs.Fitting.{Fits}
use Rattle.proof_lives.proofs.Order.{beats_rise, behind}
use Rattle.proof_schedule.specs.Facts.{Facts}
use Rattle.proof_service.specs.ServiceFacts.{ServiceFacts, IsCutOff}
use Rattle.proof_service.specs.ServiceLaws.{IsAnswered, HasLeft}
use Rattle.proof_service.specs.Disks.{FailedThere, disk_at as disk_of_piece}
use Rattle.proof_parts.proofs.AskLives.{asked_disk}
use Rattle.proof_facts.specs.Blocks.{AnsweredAt, blocks_by}
use Rattle.proof_facts.specs.Carried.{DisksAnswer}
use Rattle.proof_lives.specs.FactsBy.{Beyond, CameToTick, facts_by}
use Rattle.proof_facts.specs.Pieces.{AsksAt, want, pieces_by, before_reading}
use Rattle.proof_facts.specs.Pieces as facts
use Rattle.proof_blocks.proofs.Living.{AreCubs, store_of, asking_kept, beat_is, kept_here, own_here}
use Rattle.proof_blocks.proofs.Serving.{own_line}
use Rattle.proof_blocks.proofs.Tracing.{asking_trail, Trail}
use Rattle.proof_blocks.proofs.Leaving.{own_arises}

module _ (p : Params) (lives : Lives) (cubs : AreCubs p lives) (disk_at : ℕ → DiskState) (beyond : Beyond)
    (fits : Fits p lives beyond) (disks : DisksAnswer p lives beyond disk_at) where
  abbrev r : Facts
  r = facts_by p lives beyond

  abbrev w : ServiceFacts
  w = blocks_by p lives disk_at

  -- an answer that comes for a record that is there is a part, or tells that the read failed
  answered_so : (c : ℕ) (t : Tenancy) (n y : ℕ) (o : Option LibraryPart) → AnsweredAt p lives c t n 0 y o
      → w.Stored c t n 0 y ⊎ w.Failed c t n 0 y
  answered_so c t n y (Some part) a = inl (record { part = part; answered = a })
  answered_so c t n y None a = inr a

  -- an answer meets the own record by which was asked, unless that may have left before
  answer_meets : (c i y : ℕ) (t : Tenancy) (n : ℕ) (o : Option LibraryPart) (x : Line)
      (d : Trail p c (lives.input c) (suc i) i x)
      → x.rec ≡ own_of t n → (g : TookMessage p lives c (msg.ReadDone (want t n 0) o) y) → i < g.at
      → (w.Stored c t n 0 y ⊎ w.Failed c t n 0 y) ⊎ (HasLeft p r c t n 0 y ⊎ IsCutOff r w c t.instance.0 n y)
  answer_meets c i y t n o x d same g less =
      let k : ℕ = g.at in
      let done = g.done in
      let small = g.small in
      let stamp : Stamp = facts.stamp_of y g.reading in
      let m : Msg = msg.ReadDone (want t n 0) o in
      let since = d.before in
      let ek = beat_is p lives cubs c small k (Take stamp g.link m) g.is in
      let taken = subst (λ (q : Rec). In (taken_out q) (outs_at p c (lives.input c) d.at)) same d.taken in
      ⊎_elim
      (λ s. inl (answered_so c t n y o (record {
        small = small;
        at = k;
        done = done;
        reading = g.reading;
        link = g.link;
        is = g.is;
        formed = cubs.formed c small k stamp g.link m done g.is;
        there = inl (refl, s.line, (s.there, s.same));
      })))
      (λ s.
      let before = s.before in
      ⊎_elim
      (λ q.
      let rise = beats_rise p (lives.count c) (lives.input c) (cubs.lived c small) s.at k (omega arith) done in
      inr (inr (inl (record { beat = beat_at (lives.input c) s.at; reached = q; by = omega arith }))))
      (λ q.
      let es = beat_is p lives cubs c small s.at (Tick q.stamp) q.is in
      let lower = behind p (lives.count c) (lives.input c) (cubs.lived c small) s.at k before done
      (ap is_tick_input q.is) in
      inr (inl (record {
        beat = q.stamp.beat;
        reading = q.stamp.reading;
        ticked = record {
          small = small;
          at = s.at;
          done = omega arith;
          is = q.is;
          whole = whole_before lives c s.at k before done;
        };
        before = omega arith;
        past = q.past;
      })))
      s.why)
      (stays_or_gone p cubs.plan lives c d.at k (own_of t n) small (omega arith) (omega arith) taken)

  -- the answer to what an own record asked for
  answer_to : {c : ℕ} {t : Tenancy} {n b e : ℕ} (a : AsksAt p lives c t n 0 b) (x : Line) → CameToTick p lives c e
      → b + 2 * p.delay ≤ e
      → In x (before_reading p c (facts.stamp_of b a.reading) (store_of p lives c a.tick.at)).view.lines
      → x.rec ≡ own_of t n → IsAnswered p r w c t n 0 b
  answer_to {c} {t} {n} {b} {e} a x came late there same =
      let small = a.tick.small in
      let i : ℕ = a.tick.at in
      let low = a.tick.done in
      let stamp : Stamp = facts.stamp_of b a.reading in
      let h : Store = before_reading p c stamp (store_of p lives c i) in
      let may = asking_kept p lives cubs c small i stamp low a.tick.is in
      let disk : ℕ = disk_of_piece p n 0 in
      let ei = beat_is p lives cubs c small i (Tick stamp) a.tick.is in
      let up = came.tick in
      let eu = beat_is p lives cubs c small up.at (Tick (facts.stamp_of e came.reading)) up.is in
      let some_delay = cubs.plan.ranges.delay.0 in
      let whole = whole_by_beat p lives cubs.lived c i up.at small low up.done (omega arith) in
      let ask = asked_disk p cubs.plan lives a whole (own_here p lives cubs c small t n x h may there same) in
      let g = disks.answered c disk b e (want t n 0) ask came late in
      let after = g.after in
      let in_time = g.in_time in
      let later = g.later in
      let soon = g.soon in
      let k : ℕ = g.answer.at in
      let m : Msg = msg.ReadDone (want t n 0) (read_part (disk_at disk) g.taken (want t n 0)) in
      let ek = beat_is p lives cubs c small k (Take (facts.stamp_of g.beat g.answer.reading) g.answer.link m)
      g.answer.is in
      let less : i < k = ⊎_elim
      (λ (z : i < k). z)
      (λ (z : k ≤ i).
      let rise = beats_rise p (lives.count c) (lives.input c) (cubs.lived c small) k i z low in
      absurd (omega arith))
      (cases_lt i k) in
      record {
        beat = g.beat;
        later = omega arith;
        soon = omega arith;
        what = answer_meets c i g.beat t n (read_part (disk_at disk) g.taken (want t n 0)) x
            (asking_trail p c (lives.input c) i stamp x a.tick.is there) same g.answer less;
      }

  -- asks are answered
  pub answers : {c : ℕ} {t : Tenancy} {n b e : ℕ} → AsksAt p lives c t n 0 b → CameToTick p lives c e → b + 2 * p.delay ≤ e
      → IsAnswered p r w c t n 0 b
  answers {c} {t} {n} {b} {e} a came late = ⊎_elim
      (λ k. answer_to a k.1 came late k.2.0 k.2.1)
      (λ k. let some = k.0 in absurd (omega arith))
      a.asks

  -- a read that failed was for a record that is there
  pub failed : {k : ℕ} {t : Tenancy} {n y : ℕ} → AnsweredAt p lives k t n 0 y None
      → FailedThere p r (pieces_by p lives) k t n 0 y
  failed {k} {t} {n} {y} a =
      let h : Store = store_of p lives k a.at in
      let x = own_line h t n a.there in
      let low = a.done in
      let m : Msg = msg.ReadDone (want t n 0) None in
      let ea = beat_is p lives cubs k a.small a.at (Take (facts.stamp_of y a.reading) a.link m) a.is in
      let kept = kept_here p lives cubs k a.small a.at (omega arith) in
      record {
        arises = own_arises p lives cubs beyond fits k a.at y t n x.0 a.small low (omega arith) x.1 x.2;
        here = own_here p lives cubs k a.small t n x.0 h kept x.1 x.2;
        few = omega arith;
      }
