-- The turns of members with out-ports and of those without.
use Rattle.std.proofs.Common.{◌≡◌, ◌≢◌, ℕ, zero, suc, ◌+◌, ◌-◌, ◌<◌, ◌≤◌, List, [], ◌∷◌, length, Some, refl, ap, sym, ◌∙◌, subst, arith}
use Rattle.std.specs.Prelude.{slice_get, slice_set}
use Rattle.std.proofs.lemmas.Option.{none-some}
use Rattle.tiger_base.specs.Limits.{most_beats}
use Rattle.tiger_base.specs.declared.number.NodeNo.{NodeNo}
use Rattle.tiger_base.specs.declared.number.Stamp.{Stamp}
use Rattle.tiger_base.specs.declared.message.Note.{Note}
use Rattle.slot_plan.specs.declared.params.Params.{Params}
use Rattle.node_kit.specs.declared.course.Course.{Course}
use Rattle.node_kit.specs.declared.journal.Entry.{Entry}
use Rattle.node_kit.specs.Courses.{Setting, setting_of, stamp_by}
use Rattle.node_kit.specs.Life.{Lifetime}
use Rattle.node_kit.specs.Links.{Links, in_links_of}
use Rattle.node_kit.specs.Steps.{Input, Deed}
use Rattle.node_kit.proofs.Rows.{get-below}
use Rattle.run_facts.specs.Beats.{beat_events}
use Rattle.run_facts.specs.Rings.{Traffic, Ring}
use Rattle.run_facts.proofs.Rows.{same-element}
use Rattle.ring_engine.specs.Passing.{TookTurns, HaveTakenTurns}
use Rattle.ring_engine.specs.Traffic.{collected}
use Rattle.ring_engine.specs.Turns.{Scene, scene, turn, KeepsReady}
use Rattle.ring_engine.specs.Whole.{with_node}
use Rattle.ring_engine.proofs.Running.{get-set_same, get-set_other, length-set_at}
use Rattle.ring_links.specs.Ends.{LineId}
use Rattle.ring_cells.specs.Moves.{HaveLived}
use Rattle.ring_cells.specs.Shares.{Entrance, Exit, IsLeaving, AreClosedTo, HasEnded}
use Rattle.ring_cells.proofs.Ending.{ended-open}
use Rattle.ring_cells.proofs.Working.{At, work-turn, lived-turn}

no-row : {A : Type 0} (xs : List A) (q : ℕ) (x : A) → length xs ≤ q → slice_get xs q ≡ Some x → ⊥
no-row xs q x long e = let low = get-below xs q x e in omega (arith, low, long)

module _ {M S : Type 0} (note : M → Note) (step : S → Input M → Deed M S) (stands : S → Params → ℕ → Type 0) (courses : List Course) (opened : List S) (line_of : ℕ → LineId)
    (numbers : List NodeNo) (dials : List Setting) (links : Links) (b : ℕ) where
  -- a turn more
  pub record GoesOn (q q' : ℕ) (ring ring' : Ring M S) (ins : List (Entrance M)) (outs' : List (List (Exit M))) : Type 0 where
    pub work : At note step stands courses opened line_of numbers dials links b q' ring' ins outs'
    pub lived : (old : Ring M S) → HaveLived note step dials b q old ring → HaveLived note step dials b q' old ring'

  module _ (q : ℕ) (ring : Ring M S) (ins : List (Entrance M)) (outs : List (List (Exit M))) (h : At note step stands courses opened line_of numbers dials links b q ring ins outs)
      (early : b ≤ most_beats) (shut : AreClosedTo b ins)
      (m : NodeNo) (d : Setting) (stamp : Stamp) (s s' : S) (life life' : Lifetime) (j j' : List Entry) (ts : List (Traffic M))
      (seat : slice_get numbers q ≡ Some m) (its_dial : slice_get dials q ≡ Some d) (shown : stamp ≡ stamp_by d b)
      (node_is : slice_get ring.nodes q ≡ Some s) (life_is : slice_get ring.lives q ≡ Some life) (journal_is : slice_get ring.journals q ≡ Some j)
      (turned : ◌≡◌ {A = Scene M S} (scene s' life' j' ts) (turn note step stamp (in_links_of links m.0) (scene s life j ring.channels)))
      (keeps : KeepsReady note step stands stamp.beat
      (beat_events note step stamp (collected stamp.beat (in_links_of links m.0) ring.channels) (record { state = s; life = life; journal = j })) (scene s life j ring.channels) (scene s' life' j' ts)) where
    -- of a member with out-ports, which has then ended at them
    pub sender-turn : (row row' : List (Exit M)) (channels' : List (Traffic M)) → slice_get outs q ≡ Some row → HasEnded b row ts row' channels'
        → GoesOn q (q + 1) ring (with_node ring q s' life' j' channels') ins (slice_set outs q row')
    sender-turn row row' channels' there ended =
        let outs' = slice_set outs q row' in
        let its_row : (r : List (Exit M)) → slice_get outs q ≡ Some r → r ≡ row = λ r e. same-element outs q r row e there in
        let row_leads : (r : ℕ) (o : Exit M) → slice_get row r ≡ Some o → IsLeaving h.course.plan.params numbers m o.link = λ r o e.
        (let w = h.seated.outs_lead q r row o there e in
        let is : w.0 ≡ m = same-element numbers q w.0 m w.1 seat in
        subst (λ (x : NodeNo). IsLeaving h.course.plan.params numbers x o.link) is w.2) in
        let then_row : slice_get outs q ≡ Some row → slice_get outs' q ≡ Some row' = λ e. get-set_same outs q row' row e in
        let other_rows : (r : ℕ) → r ≢ q → slice_get outs' r ≡ slice_get outs r = λ r other. get-set_other outs q r row' other in
        record {
          work = work-turn note step stands courses opened line_of numbers dials links b q ring ins outs h early shut m d stamp s s' life life' j j' ts channels' seat its_dial shown node_is life_is journal_is turned keeps
              row row' outs' its_row row_leads ended then_row other_rows (length-set_at outs q row');
          lived = lived-turn note step stands courses opened line_of numbers dials links b q ring ins outs h early shut m d stamp s s' life life' j j' ts channels' seat its_dial shown node_is life_is journal_is turned keeps
              row row' outs' its_row row_leads ended then_row other_rows (length-set_at outs q row');
        }

    -- of a member without
    pub other-turn : length outs ≤ q → GoesOn q (q + 1) ring (with_node ring q s' life' j' ts) ins outs
    other-turn long =
        let none : List (Exit M) = [] in
        let its_row : (r : List (Exit M)) → slice_get outs q ≡ Some r → r ≡ none = λ r e. absurd (no-row outs q r long e) in
        let row_leads : (r : ℕ) (o : Exit M) → slice_get none r ≡ Some o → IsLeaving h.course.plan.params numbers m o.link = λ r o e. absurd (none-some o e) in
        let then_row : slice_get outs q ≡ Some none → slice_get outs q ≡ Some none = λ e. e in
        let other_rows : (r : ℕ) → r ≢ q → slice_get outs r ≡ slice_get outs r = λ r other. refl in
        record {
          work = work-turn note step stands courses opened line_of numbers dials links b q ring ins outs h early shut m d stamp s s' life life' j j' ts ts seat its_dial shown node_is life_is journal_is turned keeps
              none none outs its_row row_leads (ended-open b none ts) then_row other_rows refl;
          lived = lived-turn note step stands courses opened line_of numbers dials links b q ring ins outs h early shut m d stamp s s' life life' j j' ts ts seat its_dial shown node_is life_is journal_is turned keeps
              none none outs its_row row_leads (ended-open b none ts) then_row other_rows refl;
        }

  -- the members at the places from one on, which have none, have had their turns
  pub turns-go-on : (more q : ℕ) (ring ring' : Ring M S) (ins : List (Entrance M)) (outs : List (List (Exit M))) → At note step stands courses opened line_of numbers dials links b q ring ins outs
      → b ≤ most_beats → AreClosedTo b ins → length outs ≤ q → TookTurns note step stands numbers dials links b q more ring ring' → GoesOn q (q + more) ring ring' ins outs
  turns-go-on zero q ring ring' ins outs h early shut long same =
      let e : q ≡ q + 0 = omega arith in
      subst (λ x. GoesOn q x ring ring' ins outs) e (subst (λ (r : Ring M S). GoesOn q q ring r ins outs) (sym same) (record { work = h; lived = λ old l. l }))
  turns-go-on (suc more) q ring ring' ins outs h early shut long taken =
      let t = taken.2 in
      let most = turns-go-on more q ring taken.0 ins outs h early shut long taken.1 in
      let one = other-turn (q + more) taken.0 ins outs most.work early shut t.number t.dial t.stamp t.state t.then_state t.life t.then_life t.journal t.then_journal t.then_channels
      t.seat t.clock t.shown t.node_is t.life_is t.journal_is t.turned t.keeps (omega (arith, long)) in
      let e : q + more + 1 ≡ q + suc more = omega arith in
      subst (λ x. GoesOn q x ring ring' ins outs) e
      (subst (λ (r : Ring M S). GoesOn q (q + more + 1) ring r ins outs) (sym t.after) (record { work = one.work; lived = λ old l. one.lived old (most.lived old l) }))

  -- so have all that are left of the beat
  pub goes-over : (first q : ℕ) (ring ring' : Ring M S) (ins : List (Entrance M)) (outs : List (List (Exit M))) → first ≡ q → At note step stands courses opened line_of numbers dials links b q ring ins outs
      → b ≤ most_beats → AreClosedTo b ins → length outs ≤ q → HaveTakenTurns note step stands numbers dials links b first (length numbers) ring ring' → GoesOn q (length numbers) ring ring' ins outs
  goes-over first q ring ring' ins outs same h early shut long taken =
      subst (λ k. GoesOn k (length numbers) ring ring' ins outs) same
      (subst (λ k. GoesOn first k ring ring' ins outs) taken.places
      (turns-go-on taken.more first ring ring' ins outs (subst (λ k. At note step stands courses opened line_of numbers dials links b k ring ins outs) (sym same) h) early shut (omega (arith, long, same)) taken.turns))
