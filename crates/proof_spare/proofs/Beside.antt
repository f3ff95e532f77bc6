-- What cubs whose disks may die add, along their lives, meets its laws: which visits they split, and what they send of these.
use Rattle.std.proofs.Common.{◌≡◌, ℕ, suc, ◌+◌, ◌/◌, ◌<◌, ◌≤◌, true, get_or, List, Option, Some, None, refl, sym, ap, subst, ◌∙◌, arith, ⊎_elim, inl, inr}
use Rattle.std.specs.Prelude.{◌⊎◌, ◌&&◌, nat_le}
use Rattle.std.proofs.lemmas.Bool.{and_from, and_parts, cases_lt, le-leb, leb-true}
use Rattle.tiger_base.specs.Kinds.{is_own}
use Rattle.tiger_base.specs.declared.number.LinkNo.{LinkNo}
use Rattle.tiger_base.specs.declared.number.Stamp.{Stamp}
use Rattle.tiger_base.specs.declared.tenancy.PieceState.{PieceState}
use Rattle.tiger_base.specs.declared.tenancy.Rec.{Rec}
use Rattle.tiger_base.specs.declared.tenancy.Tenancy.{Tenancy}
use Rattle.tiger_base.specs.declared.message.Msg.{Msg}
use Rattle.tiger_base.specs.declared.message.Msg.TheVariants as msg
use Rattle.slot_plan.specs.declared.params.Params.{Params}
use Rattle.slot_plan.specs.Conditions.{IsPlan}
use Rattle.slot_plan.specs.Times.{cub_of, disk_of, due, time_of}
use Rattle.slot_plan.specs.Keys.{due_of}
use Rattle.partial_view.specs.declared.line.Line.{Line}
use Rattle.partial_view.specs.Lines.{key_of}
use Rattle.mirror_pieces.specs.Pieces.{leaving}
use Rattle.mirror_schedule.specs.Pieces.{Pieces, leaving_of}
use Rattle.node_kit.specs.declared.outbox.Out.TheVariants as out
use Rattle.node_kit.specs.Steps.{Deed, Input, stamp_of}
use Rattle.node_kit.specs.Steps.Input.{Tick}
use Rattle.node_kit.specs.Ways.{way_ahead}
use Rattle.cub_rules.specs.State.{IsLineOf, IsRecordOf}
use Rattle.disk_death.specs.Spares.{first_of_visit, is_dead_from, is_forgotten_at, is_on_dead, must_split_own, soonest_split}
use Rattle.lists.specs.Elements.{In}
use Rattle.lists.proofs.Each.{all_in}
use Rattle.run_facts.specs.Events.{is_tick_input}
use Rattle.proof_schedule.specs.Facts.{EnteredBy, Entered, Facts, ReachedBy}
use Rattle.proof_schedule.specs.RunLaws.{RunLaws}
use Rattle.proof_schedule.specs.StateLaws.{IsShown}
use Rattle.proof_pieces.specs.PieceFacts.{PieceFacts}
use Rattle.proof_pieces.specs.PieceLaws.{IsForgotten, IsSpared, IsSpareKilled}
use Rattle.proof_lives.specs.Facts.{ReachedAt, TickedAt}
use Rattle.proof_lives.specs.Facts as life_facts
use Rattle.proof_lives.specs.FactsBy.{ShowsAt}
use Rattle.proof_lives.specs.HoldsHere.{AreAllFormed}
use Rattle.proof_lives.specs.Lives.{AreLives, Lives, beat_at, cut_in, reading_at, store_at}
use Rattle.proof_lives.proofs.Begun.{IsStop}
use Rattle.proof_lives.proofs.Cuts.{was_put_out}
use Rattle.proof_lives.proofs.HoldLaws.{reached_at, stop_in}
use Rattle.proof_lives.proofs.Inputs.{entered_did, ticked_there}
use Rattle.proof_lives.proofs.Leaving.{stays_or_stopped}
use Rattle.proof_lives.proofs.Lines.{kept_at}
use Rattle.proof_lives.proofs.Moves.{Stays, taken_out}
use Rattle.proof_lives.proofs.Order.{beats_rise, behind, not_behind}
use Rattle.proof_lives.proofs.States.{own_kind, own_visit}
use Rattle.proof_facts.specs.Beside.{AddedAt, Additions, beside_by}
use Rattle.proof_facts.specs.Pieces.{piece}
use Rattle.proof_facts.specs.TwoLives.{BesideFacts}
use Rattle.proof_ring.proofs.Below.{one_way}
use Rattle.proof_spare.specs.Added.{adding_at, remembered_at}
use Rattle.proof_spare.proofs.Memory.{Comes, IsMirrorOf, kill_stops, killed_by, mirror_of, remembered_since, split_there}

-- A line that is split is an own record of a visit on a dead disk, which is due late enough.
pub record MustSplit (p : Params) (deaths : List (Option ℕ)) (stamp : Stamp) (x : Line) : Type 0 where
  pub dead : is_on_dead p deaths x.rec.visit stamp.beat ≡ true
  pub own : is_own x.rec.kind ≡ true
  pub soon : stamp.reading + p.read_lead + p.skew + time_of p p.delay + p.beat ≤ due p x.rec.tenancy.slot.0 x.rec.visit

pub must_parts : (p : Params) (deaths : List (Option ℕ)) (stamp : Stamp) (x : Line) → must_split_own p deaths stamp x ≡ true
    → MustSplit p deaths stamp x
unfolding must_split_own soonest_split time_of
must_parts p deaths stamp x e =
    let both = and_parts (is_on_dead p deaths x.rec.visit stamp.beat && is_own x.rec.kind)
    (nat_le (soonest_split p stamp.reading) (due_of p (key_of x))) e in
    let first = and_parts (is_on_dead p deaths x.rec.visit stamp.beat) (is_own x.rec.kind) both.0 in
    record { dead = first.0; own = first.1; soon = leb-true _ _ both.1 }

pub from_parts : (p : Params) (deaths : List (Option ℕ)) (stamp : Stamp) (x : Line) → MustSplit p deaths stamp x
    → must_split_own p deaths stamp x ≡ true
unfolding must_split_own soonest_split time_of
from_parts p deaths stamp x m = and_from _ _ (and_from _ _ m.dead m.own) (le-leb _ _ m.soon)

past_due : (time more play reading : ℕ) → time + more + play ≤ reading → time + play ≤ reading
past_due time more play reading le = omega arith

-- A visit that is forgotten was due a block play time ago.
forgotten_past : (p : Params) (reading : ℕ) (t : Tenancy) (n : ℕ) → is_forgotten_at p reading (piece t n 1) ≡ true
    → due p t.slot.0 n + p.play ≤ reading
unfolding is_forgotten_at leaving_of leaving
forgotten_past p reading t n e = past_due (due p t.slot.0 n) _ p.play reading (leb-true _ _ e)

-- What is told of these lives, in which nobody dies, is what facts tell.
pub record AreTold (p : Params) (lives : Lives) (r : Facts) : Type 0 where
  pub run : RunLaws p r
  pub shown : {c n b : ℕ} {t : Tenancy} → r.Shows c t n b → IsShown p r c t n b
  pub ticked : {c b l : ℕ} → TickedAt p lives c b l → r.Ticked c b l
  pub ticks : {c b l : ℕ} → r.Ticked c b l → TickedAt p lives c b l
  pub reaches : {c v b : ℕ} → ReachedAt p lives c v b → r.Reached c v b
  pub reached : {c v b : ℕ} → r.Reached c v b → ReachedAt p lives c v b
  pub shows : {c n b : ℕ} {t : Tenancy} → ShowsAt p lives c t n b → r.Shows c t n b
  pub entered : {c n b : ℕ} {t : Tenancy} → Entered r c t n b → life_facts.EnteredAt p lives c t n b
  pub calm : (d x : ℕ) → ¬ r.Died d x

module _ (p : Params) (plan : IsPlan p) (lives : Lives) (lived : AreLives p lives) (formed : AreAllFormed p lives)
    (whole : (c i : ℕ) → c < p.cubs → i < lives.count c → cut_in lives c i ≡ None) (deaths : ℕ → List (Option ℕ)) where
  abbrev pub adds : Additions
  adds c i = (adding_at p c (deaths c) (lives.input c) i (remembered_at p c (deaths c) (lives.input c) i)).outs

  abbrev pub x : BesideFacts
  x = beside_by p lives adds

  abbrev deed : ℕ → ℕ → Deed Msg Pieces
  deed c i = adding_at p c (deaths c) (lives.input c) i (remembered_at p c (deaths c) (lives.input c) i)

  abbrev lines : ℕ → ℕ → List Line
  lines c i = (store_at p c (lives.input c) (suc i)).view.lines

  -- ---- what goes out

  pub is_split : {c b : ℕ} {link : LinkNo} {y : PieceState} → (w : AddedAt p lives adds c (out.Send link (msg.MirrorState y)) b)
      → IsMirrorOf p c (deaths c) (lives.input c w.at) (lines c w.at) link y (deed c w.at)
  is_split {c} {b} {link} {y} w =
      mirror_of p c (deaths c) (lives.input c w.at) (lines c w.at) (remembered_at p c (deaths c) (lives.input c) w.at) link y w.did

  -- If one mirror state of a visit goes out, all do.
  pub all_go : {c b : ℕ} {link : LinkNo} {y : PieceState} (k : ℕ) → AddedAt p lives adds c (out.Send link (msg.MirrorState y)) b
      → 1 ≤ k → k ≤ p.pieces
      → AddedAt p lives adds c (out.Send (way_ahead p c k) (msg.MirrorState (piece y.tenancy y.visit k))) b
  all_go {c} {b} {link} {y} k w low high =
      let m = is_split w in
      record {
        small = w.small;
        at = w.at;
        done = w.done;
        in_beat = w.in_beat;
        did = subst (λ (n : ℕ). In (out.Send (way_ahead p c k) (msg.MirrorState (piece y.tenancy n k))) (adds c w.at)) m.visit
            (subst (λ (u : Tenancy). In (out.Send (way_ahead p c k) (msg.MirrorState (piece u m.record_of.visit k))) (adds c w.at))
            m.tenancy (m.split.all k low high));
      }

  pub mirrors : {a k n j b : ℕ} {t : Tenancy} → x.MirrorSent a k t n j b → x.Spared a t n b × ((j ≡ k) × (1 ≤ k))
  mirrors {a} {k} {n} {j} {b} {t} w =
      let m = is_split w.1 in
      let low = m.low in
      let high = m.high in
      (all_go 1 w.1 (omega arith) (omega arith), (sym (one_way p a k j w.0 m.low m.way), w.0))

  -- The mirror states of all pieces of a visit that is split go out.
  pub mirrors_due : {c n b : ℕ} {t : Tenancy} (k : ℕ) → x.Spared c t n b → 1 ≤ k → k ≤ p.pieces → x.MirrorSent c k t n k b
  mirrors_due k w low high = (low, all_go k w low high)

  -- A line behind an input is of this cub.
  line_is : (c i : ℕ) → c < p.cubs → i < lives.count c → (y : Line) → In y (lines c i) → IsRecordOf p c y.rec
  line_is c i small low y there =
      all_in (IsLineOf p c) y (lines c i)
      (kept_at p c plan small (lives.input c) (suc i) (λ k less. (lived c small).short k (omega arith))).lines there

  module _ (r : Facts) (told : AreTold p lives r) where
    -- ---- splits

    pub spares : {c n b : ℕ} {t : Tenancy} → x.Spared c t n b → IsSpared p r c t n b
    spares {c} {n} {b} {t} w =
        let m = is_split w in
        let i : ℕ = w.at in
        let y : Line = m.split.line in
        let now : ℕ = beat_at (lives.input c) i in
        let tick = ticked_there p lives c i m.stamp w.small w.done m.is (whole c i w.small w.done) in
        let reads = told.run.reads (told.ticked tick) in
        let shown : IsShown p r c y.rec.tenancy y.rec.visit now =
        told.shown (told.shows (record {
          reading = m.stamp.reading;
          ticked = tick;
          line = y;
          there = m.split.there;
          tenancy = refl;
          visit = refl;
        })) in
        let must = must_parts p (deaths c) m.stamp y m.split.must in
        let tenancy : y.rec.tenancy ≡ t = ap (λ (q : Rec). q.tenancy) m.split.is ∙ m.tenancy in
        let visit : y.rec.visit ≡ n = ap (λ (q : Rec). q.visit) m.split.is ∙ m.visit in
        let all : IsSpared p r c y.rec.tenancy y.rec.visit now = record {
          reading = m.stamp.reading;
          tick = record { came = told.run.came (told.ticked tick); low = reads.0; high = reads.1 };
          own = own_visit p c y.rec (line_is c i w.small w.done y m.split.there) must.own;
          beat = shown.beat;
          entered = shown.entered;
          by = shown.by;
          since = shown.since;
          soon = must.soon;
          calm = told.calm;
        } in
        subst (λ (z : ℕ). IsSpared p r c t n z) w.in_beat
        (subst (λ (v : ℕ). IsSpared p r c t v now) visit
        (subst (λ (u : Tenancy). IsSpared p r c u y.rec.visit now) tenancy all))

    -- ---- kills

    pub kill_reached : {a k v s n b : ℕ} → x.KillSent a k v s n b → r.Reached a v b
    kill_reached {a} {k} {v} {s} {n} {b} w =
        let d = w.1 in
        let q = kill_stops p a (deaths a) (lives.input a d.at) (lines a d.at) (remembered_at p a (deaths a) (lives.input a) d.at)
        (way_ahead p a k) (record { 0 = v }) (record { 0 = s }) n d.did in
        let stop : IsStop p a (lives.input a) d.at v =
        record { stamp = q.stamp; link = q.link; instance = q.instance; tag = q.tag; is = q.is; same = q.same } in
        told.reaches (subst (λ (z : ℕ). ReachedAt p lives a v z) d.in_beat (reached_at p lives a d.at v d.small d.done stop))

    -- What a cub split is killed by the time that a deschedule reaches it, or forgotten.
    pub kills : (all : PieceFacts) → ((a k v s n b : ℕ) → x.KillSent a k v s n b → all.KillSent a k v s n b)
        → {a n y z : ℕ} {t : Tenancy} → x.Spared a t n y → r.Reached a t.instance.0 z → y < z
        → IsSpareKilled p r all a t n y z ⊎ IsForgotten p r a t n z
    kills all wider {a} {n} {y} {z} {t} w reached less =
        let g = told.reached reached in
        let small : a < p.cubs = w.small in
        let count : ℕ = lives.count a in
        let inputs : ℕ → Input Msg = lives.input a in
        let i : ℕ = w.at in
        let j : ℕ = g.took.at in
        let m = is_split w in
        let low = w.done in
        let high = g.took.done in
        let yb : beat_at inputs i ≡ y = w.in_beat in
        let zb : beat_at inputs j ≡ z = ap (λ (q : Input Msg). (stamp_of q).beat) g.took.is in
        let tick : is_tick_input (inputs i) ≡ true = ap is_tick_input m.is in
        let later : i < j = ⊎_elim
        (λ (l : i < j). l)
        (λ (q : j ≤ i). let rise = beats_rise p count inputs (lived a small) j i q low in absurd (omega arith))
        (cases_lt i j) in
        let there : In (piece t n 1) (deed a i).state.items =
        subst (λ (v : ℕ). In (piece t v 1) (deed a i).state.items) m.visit
        (subst (λ (u : Tenancy). In (piece u m.record_of.visit 1) (deed a i).state.items) m.tenancy m.there) in
        ⊎_elim
        (λ o.
        let after = o.after in
        let by = o.by in
        let done : o.at < count = omega arith in
        let above = behind p count inputs (lived a small) i o.at o.after done tick in
        let below = beats_rise p count inputs (lived a small) o.at j o.by high in
        inl (record {
          beat = beat_at inputs o.at;
          reached = told.reaches (reached_at p lives a o.at t.instance.0 small done o.stop);
          after = omega arith;
          by = omega arith;
          kills = λ k some few. wider a k t.instance.0 t.slot.0 n (beat_at inputs o.at) (
            some,
            record { small = small; at = o.at; done = done; in_beat = refl; did = o.kills k some few },
          );
        }))
        (λ o.
        let before = o.before in
        let done : o.at < count = omega arith in
        let below = behind p count inputs (lived a small) o.at j o.before high (ap is_tick_input o.is) in
        inr (record {
          beat = beat_at inputs o.at;
          reading = o.stamp.reading;
          ticked = told.ticked (ticked_there p lives a o.at o.stamp small done o.is (whole a o.at small done));
          before = omega arith;
          past = forgotten_past p o.stamp.reading t n o.past;
        }))
        (killed_by p a (deaths a) inputs count (formed a small) (piece t n 1) i j high there later (stop_in p lives g))

    -- ---- what is due

    -- Cub c split visit n of t in beat b or before it.
    pub record SplitsBy (c : ℕ) (t : Tenancy) (n b : ℕ) : Type 0 where
      pub beat : ℕ
      pub spared : x.Spared c t n beat
      pub by : beat ≤ b

    -- What is remembered was split before.
    split_by : (c i k : ℕ) (t : Tenancy) (n : ℕ) → c < p.cubs → i ≤ lives.count c → k < i → (q : Input Msg) → lives.input c k ≡ q
        → Comes p c (deaths c) q (lines c k) (piece t n 1) (adds c k) → 1 ≤ p.pieces
        → x.Spared c t n (beat_at (lives.input c) k)
    split_by c i k t n small low less (Tick stamp) is come some =
        let same : piece t n 1 ≡ first_of_visit come.0 = come.1 in
        let tenancy : come.0.tenancy ≡ t = sym (ap (λ (y : PieceState). y.tenancy) same) in
        let visit : come.0.visit ≡ n = sym (ap (λ (y : PieceState). y.visit) same) in
        record {
          small = small;
          at = k;
          done = omega arith;
          in_beat = refl;
          did = subst (λ (v : ℕ). In (out.Send (way_ahead p c 1) (msg.MirrorState (piece t v 1))) (adds c k)) visit
              (subst (λ (u : Tenancy). In (out.Send (way_ahead p c 1) (msg.MirrorState (piece u come.0.visit 1))) (adds c k)) tenancy
              (come.2.all 1 (omega arith) some));
        }
    split_by c i k t n small low less other is come some = absurd come

    -- A cub has split each visit of its own on a dead disk of which it has a record, if it is due late enough.
    pub due_is_split : {c n b l from : ℕ} {t : Tenancy}
        → get_or (deaths c) (disk_of p n / p.cubs) None ≡ Some from → from ≤ b
        → EnteredBy r c t n b → c ≡ cub_of p n → r.Ticked c b l
        → l + p.read_lead + p.skew + time_of p p.delay + p.beat ≤ due p t.slot.0 n
        → SplitsBy c t n b ⊎ ReachedBy r c t.instance.0 b
    due_is_split {c} {n} {b} {l} {from} {t} known dead entered here ticked soon =
        let tick = told.ticks ticked in
        let small : c < p.cubs = tick.small in
        let inputs : ℕ → Input Msg = lives.input c in
        let i : ℕ = tick.at in
        let low = tick.done in
        let ib : beat_at inputs i ≡ b = ap (λ (q : Input Msg). (stamp_of q).beat) tick.is in
        let il : reading_at inputs i ≡ l = ap (λ (q : Input Msg). (stamp_of q).reading) tick.is in
        let did = entered_did p lives (told.entered entered.entered) in
        let z : Rec = record { tenancy = t; visit = n; kind = did.0 } in
        let by = entered.by in
        let jb = did.1.in_beat in
        let beat_long = plan.ranges.beat in
        let first : did.1.at ≤ i =
        not_behind p (lives.count c) inputs (lived c small) did.1.at i low did.1.done (ap is_tick_input tick.is) (omega arith) in
        ⊎_elim
        (λ s. inl (of_line c n b l from t known dead here soon small i low tick.is z refl refl s))
        (λ s. let le = s.2 in inr (record { beat = s.0; reached = told.reaches s.1; by = omega arith }))
        (stays_or_stopped p plan lives lived c did.1.at (suc i) i z small (omega arith) (omega arith) low (omega arith)
        (was_put_out p lives c did.1.at (taken_out z) did.1.did))
      where
        of_line : (c n b l from : ℕ) (t : Tenancy) → get_or (deaths c) (disk_of p n / p.cubs) None ≡ Some from → from ≤ b
            → c ≡ cub_of p n → l + p.read_lead + p.skew + time_of p p.delay + p.beat ≤ due p t.slot.0 n
            → c < p.cubs → (i : ℕ) → i < lives.count c → lives.input c i ≡ Tick (record { beat = b; reading = l })
            → (z : Rec) → z.tenancy ≡ t → z.visit ≡ n → Stays z (lines c i) → SplitsBy c t n b
        of_line c n b l from t known dead here soon small i low is z of_t of_n s =
            let y : Line = s.line in
            let stamp : Stamp = record { beat = b; reading = l } in
            let tenancy : y.rec.tenancy ≡ t = ap (λ (q : Rec). q.tenancy) s.same ∙ of_t in
            let visit : y.rec.visit ≡ n = ap (λ (q : Rec). q.visit) s.same ∙ of_n in
            let own = own_kind p c y.rec plan (line_is c i small low y s.there) (here ∙ ap (cub_of p) (sym visit)) in
            let at_n : is_on_dead p (deaths c) n b ≡ true =
            subst (λ (o : Option ℕ). is_dead_from o b ≡ true) (sym known) (le-leb _ _ dead) in
            let must : MustSplit p (deaths c) stamp y = record {
              dead = subst (λ (v : ℕ). is_on_dead p (deaths c) v b ≡ true) (sym visit) at_n;
              own = own;
              soon = subst (λ (v : ℕ). l + p.read_lead + p.skew + time_of p p.delay + p.beat ≤ due p y.rec.tenancy.slot.0 v) (sym visit)
                  (subst (λ (u : Tenancy). l + p.read_lead + p.skew + time_of p p.delay + p.beat ≤ due p u.slot.0 n) (sym tenancy) soon);
            } in
            let there = split_there p c (deaths c) (lives.input c) i stamp y is s.there (from_parts p (deaths c) stamp y must) in
            let of_it : In (piece t n 1) (remembered_at p c (deaths c) (lives.input c) (suc i)).items =
            subst (λ (v : ℕ). In (piece t v 1) (remembered_at p c (deaths c) (lives.input c) (suc i)).items) visit
            (subst (λ (u : Tenancy). In (piece u y.rec.visit 1) (remembered_at p c (deaths c) (lives.input c) (suc i)).items) tenancy there) in
            let since = remembered_since p c (deaths c) (lives.input c) (suc i) (piece t n 1) of_it in
            let before = since.before in
            let ib : beat_at (lives.input c) i ≡ b = ap (λ (q : Input Msg). (stamp_of q).beat) is in
            let rise = beats_rise p (lives.count c) (lives.input c) (lived c small) since.at i (omega arith) low in
            record {
              beat = beat_at (lives.input c) since.at;
              spared = split_by c (suc i) since.at t n small (omega arith) since.before (lives.input c since.at) refl since.came
                  plan.ranges.pieces.0;
              by = omega arith;
            }
