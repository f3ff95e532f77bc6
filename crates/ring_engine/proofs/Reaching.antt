-- The turns of the nodes at the places from one on: what one turn makes of what is at hand, and the idle nodes among them.
use Rattle.std.proofs.Common.{◌≡◌, ◌≢◌, ℕ, zero, suc, ◌+◌, ◌-◌, ◌<◌, ◌≤◌, List, [], ◌∷◌, length, Some, refl, ap, sym, ◌∙◌, subst, arith, add-one, ⊎_elim}
use Rattle.std.specs.Prelude.{slice_get, slice_set}
use Rattle.std.specs.List.{AllByRecursion}
use Rattle.std.proofs.lemmas.Bool.{cases_eq}
use Rattle.tiger_base.specs.declared.number.LinkNo.{LinkNo}
use Rattle.tiger_base.specs.declared.number.NodeNo.{NodeNo}
use Rattle.tiger_base.specs.declared.number.Stamp.{Stamp}
use Rattle.tiger_base.specs.declared.message.Note.{Note}
use Rattle.slot_plan.specs.declared.params.Params.{Params}
use Rattle.node_kit.specs.declared.course.Course.{Course}
use Rattle.node_kit.specs.declared.journal.Entry.{Entry}
use Rattle.node_kit.specs.Courses.{Setting, setting_of, stamp_by, stamp_in}
use Rattle.node_kit.specs.Life.{Lifetime}
use Rattle.node_kit.specs.Links.{Links, links_of, link_count, in_links_of, viewers_of, IsInLink}
use Rattle.node_kit.specs.Rows.{each_below}
use Rattle.node_kit.specs.Steps.{Input, Deed}
use Rattle.node_kit.proofs.Rows.{get-below, get-each_below, length-each_below, links_into-lead}
use Rattle.run_facts.specs.Beats.{beat_events}
use Rattle.run_facts.specs.Events.{Past, AreFair}
use Rattle.run_facts.specs.Rings.{Traffic, Ring, IsAt}
use Rattle.run_facts.proofs.Rows.{same-element}
use Rattle.ring_engine.specs.Idle.{IsIdle, AreIdle}
use Rattle.ring_engine.specs.Passing.{IsManned, AreAtHand, TookTurn, TookTurns, HaveTakenTurns}
use Rattle.ring_engine.specs.Places.{IsSound, AllHaveLived, numbered}
use Rattle.ring_engine.specs.Traffic.{collected}
use Rattle.ring_engine.specs.Turns.{Scene, scene, IsReady, IsReadyFor, KeepsReady}
use Rattle.ring_engine.specs.Whole.{with_node, HaveTurns}
use Rattle.ring_engine.proofs.Happening.{idle-turned, idle-turned-keeps}
use Rattle.ring_engine.proofs.Idling.{with-same}
use Rattle.ring_engine.proofs.Running.{get-set_same, get-set_other, length-set_at, Midway, midway-on, turns-on}

there : {A : Type 0} (xs : List A) (n : ℕ) → n < length xs → (x : A) × slice_get xs n ≡ Some x
there [] n low = absurd (omega (arith, low))
there (x ∷ xs) zero low = (x, refl)
there (x ∷ xs) (suc n) low = there xs n (omega (arith, low))

module _ {M S : Type 0} (note : M → Note) (step : S → Input M → Deed M S) (stands : S → Params → ℕ → Type 0) (numbers : List NodeNo) (dials : List Setting) (links : Links) (b : ℕ) where
  -- the node at a place is ready for its turn
  pub ready-for : (q : ℕ) (ring : Ring M S) (m : NodeNo) (d : Setting) (stamp : Stamp) (s : S) (life : Lifetime) (j : List Entry) → slice_get numbers q ≡ Some m
      → stamp ≡ stamp_by d b → slice_get ring.nodes q ≡ Some s → AreAtHand stands numbers dials links b ring
      → IsReadyFor stands stamp.beat (in_links_of links m.0) (scene s life j ring.channels)
  ready-for q ring m d stamp s life j seat shown here h =
      let p = h.params in
      subst (λ (x : Stamp). IsReadyFor {M = M} {S = S} stands x.beat (in_links_of links m.0) (scene s life j ring.channels)) (sym shown) (record {
        params = p;
        number = m.0;
        ready = record { stands_here = h.manned.stand q m s seat here; count = h.manned.channels; are_open = h.manned.are_open };
        lead = subst (λ (t : Links). AllByRecursion (λ (k : LinkNo). IsInLink p m.0 k.0) (in_links_of t m.0)) (sym h.links_are) (links_into-lead p m.0 (link_count (links_of p)));
      })

  -- after its turn all are at hand again
  pub at-hand-on : (q : ℕ) (ring new : Ring M S) → AreAtHand stands numbers dials links b ring → TookTurn note step stands numbers dials links b q ring new
      → AreAtHand stands numbers dials links b new
  at-hand-on q ring new h t =
      let p = h.params in
      let m = t.number in
      let old_scene : Scene M S = scene t.state t.life t.journal ring.channels in
      let new_scene : Scene M S = scene t.then_state t.then_life t.then_journal t.then_channels in
      let keeps : KeepsReady note step stands b (beat_events note step t.stamp (collected t.stamp.beat (in_links_of links m.0) ring.channels) (record { state = t.state; life = t.life; journal = t.journal }))
      old_scene new_scene =
      subst (λ (x : Stamp). KeepsReady note step stands x.beat (beat_events note step t.stamp (collected t.stamp.beat (in_links_of links m.0) ring.channels) (record { state = t.state; life = t.life; journal = t.journal }))
      old_scene new_scene) t.shown t.keeps in
      let is = (keeps p m.0 (record { stands_here = h.manned.stand q m t.state t.seat t.node_is; count = h.manned.channels; are_open = h.manned.are_open })).0 in
      subst (AreAtHand stands numbers dials links b) (sym t.after) (record {
        params = p;
        links_are = h.links_are;
        inside = h.inside;
        clocks = h.clocks;
        manned = record {
          stand = λ r n x seat e. ⊎_elim
              (λ (same : r ≡ q).
              let is_m : m ≡ n = same-element numbers q m n t.seat (ap (slice_get numbers) (sym same) ∙ seat) in
              let is_s : t.then_state ≡ x = same-element (slice_set ring.nodes q t.then_state) q t.then_state x (get-set_same ring.nodes q t.then_state t.state t.node_is) (ap (slice_get (slice_set ring.nodes q t.then_state)) (sym same) ∙ e) in
              subst (λ (y : NodeNo). stands x p y.0) is_m (subst (λ y. stands y p m.0) is_s is.stands_here))
              (λ (other : r ≢ q). h.manned.stand r n x seat (sym (get-set_other ring.nodes q r t.then_state other) ∙ e))
              (cases_eq r q);
          nodes = length-set_at ring.nodes q t.then_state ∙ h.manned.nodes;
          lives = length-set_at ring.lives q t.then_life ∙ h.manned.lives;
          journals = length-set_at ring.journals q t.then_journal ∙ h.manned.journals;
          channels = is.count;
          are_open = is.are_open;
        };
      })

  -- the places up to one, and what is at hand then
  pub record Reach (from q : ℕ) (old now : Ring M S) : Type 0 where
    pub turns : HaveTakenTurns note step stands numbers dials links b from q old now
    pub ready : AreAtHand stands numbers dials links b now

  pub reach-none : (from : ℕ) (ring : Ring M S) → AreAtHand stands numbers dials links b ring → Reach from from ring ring
  reach-none from ring ready = record { turns = record { more = 0; places = omega arith; turns = refl }; ready = ready }

  -- one turn more
  pub reach-on : (from q : ℕ) (old now new : Ring M S) → Reach from q old now → TookTurn note step stands numbers dials links b q now new → Reach from (q + 1) old new
  reach-on from q old now new h t = record {
    turns = record {
      more = suc h.turns.more;
      places = (let e = h.turns.places in omega (arith, e));
      turns = (now, h.turns.turns, subst (λ k. TookTurn note step stands numbers dials links b k now new) (sym h.turns.places) t);
    };
    ready = at-hand-on q now new h.ready t;
  }

  -- an idle node has had its turn
  idle-took : (q : ℕ) (ring : Ring M S) (m : NodeNo) (d : Setting) (s : S) (life : Lifetime) (j : List Entry) → slice_get numbers q ≡ Some m → slice_get dials q ≡ Some d
      → slice_get ring.nodes q ≡ Some s → slice_get ring.lives q ≡ Some life → slice_get ring.journals q ≡ Some j
      → IsIdle step (stamp_by d b) (in_links_of links m.0) s life ring.channels → TookTurn note step stands numbers dials links b q ring ring
  idle-took q ring m d s life j seat clock hs hl hj is =
      let here : Scene M S = scene s life j ring.channels in
      let row = in_links_of links m.0 in
      record {
        number = m;
        seat = seat;
        dial = d;
        clock = clock;
        stamp = stamp_by d b;
        shown = refl;
        state = s;
        life = life;
        journal = j;
        node_is = hs;
        life_is = hl;
        journal_is = hj;
        then_state = s;
        then_life = life;
        then_journal = j;
        then_channels = ring.channels;
        turned = idle-turned note step (stamp_by d b) row here is.none is.left is.acts_then is.unended is.rests;
        keeps = idle-turned-keeps note step stands (stamp_by d b) row here is.none is.left is.acts_then is.unended is.rests;
        after = sym (with-same ring q s life j hs hl hj);
      }

  -- so many idle nodes have
  reach-idle : (more from q : ℕ) (old now : Ring M S) → q + more ≤ length numbers → AreIdle step b q (q + more) links numbers dials now.nodes now.lives now.channels
      → Reach from q old now → Reach from (q + more) old now
  reach-idle zero from q old now inside idle h =
      let e : q ≡ q + 0 = omega arith in
      subst (λ k. Reach from k old now) e h
  reach-idle (suc more) from q old now inside idle h =
      let manned = h.ready.manned in
      let m = there numbers q (omega (arith, inside)) in
      let d = there dials q (omega (arith, inside, h.ready.clocks)) in
      let s = there now.nodes q (omega (arith, inside, manned.nodes)) in
      let life = there now.lives q (omega (arith, inside, manned.lives)) in
      let j = there now.journals q (omega (arith, inside, manned.journals)) in
      let one = reach-on from q old now now h
      (idle-took q now m.0 d.0 s.0 life.0 j.0 m.1 d.1 s.1 life.1 j.1 (idle q m.0 d.0 s.0 life.0 (omega arith) (omega arith) m.1 d.1 s.1 life.1)) in
      let e : q + 1 + more ≡ q + suc more = omega arith in
      subst (λ k. Reach from k old now) e
      (reach-idle more from (q + 1) old now (omega (arith, inside)) (λ k n c x life' low high. idle k n c x life' (omega (arith, low)) (omega (arith, high))) one)

  -- all nodes before the next one that is not idle have
  pub reach-to : (from q q' : ℕ) (nodes : List S) (lives : List Lifetime) (old now : Ring M S) → nodes ≡ now.nodes → lives ≡ now.lives → q ≤ q' → q' ≤ length nodes
      → AreIdle step b q q' links numbers dials nodes lives now.channels → Reach from q old now → Reach from q' old now
  reach-to from q q' nodes lives old now all all' low high idle h =
      let e : q + (q' - q) ≡ q' = omega (arith, low) in
      let here : AreIdle step b q q' links numbers dials now.nodes now.lives now.channels =
      subst (λ x. AreIdle step b q q' links numbers dials x now.lives now.channels) all (subst (λ x. AreIdle step b q q' links numbers dials nodes x now.channels) all' idle) in
      subst (λ k. Reach from k old now) e
      (reach-idle (q' - q) from q old now (omega (arith, low, high, ap length all, h.ready.manned.nodes)) (subst (λ k. AreIdle step b q k links numbers dials now.nodes now.lives now.channels) (sym e) here) h)

-- the nodes of a run are at hand
pub sound-at-hand : {M S : Type 0} (stands : S → Params → ℕ → Type 0) (c : Course) (count beat : ℕ) (numbers : List NodeNo) (dials : List Setting) (links : Links) (r : Ring M S)
    → links ≡ links_of c.plan.params → count ≡ viewers_of links + 1 → numbers ≡ each_below numbered count → dials ≡ each_below (setting_of c) count
    → IsSound stands c.plan.params count beat r → AreAtHand stands numbers dials links beat r
sound-at-hand stands c count beat numbers dials links r links_are all numbers_are dials_are sound =
    let size : length numbers ≡ count = ap length numbers_are ∙ length-each_below numbered count in
    let number : (q : ℕ) (n : NodeNo) → slice_get numbers q ≡ Some n → numbered q ≡ n = λ q n seat.
    (let low = get-below numbers q n seat in
    same-element numbers q (numbered q) n (ap (λ xs. slice_get xs q) numbers_are ∙ get-each_below numbered count q (omega (arith, low, size))) seat) in
    record {
      params = c.plan.params;
      links_are = links_are;
      inside = λ q n seat.
          let low = get-below numbers q n seat in
          let is = ap (λ (m : NodeNo). m.0) (number q n seat) in
          omega (arith, low, size, is, all);
      clocks = ap length dials_are ∙ length-each_below (setting_of c) count ∙ sym size;
      manned = record {
        stand = λ q n s seat here. subst (λ (m : NodeNo). stands s c.plan.params m.0) (number q n seat) (sound.stand q s here);
        nodes = sound.nodes ∙ sym size;
        lives = sound.lives ∙ sym size;
        journals = sound.journals ∙ sym size;
        channels = sound.channels;
        are_open = sound.are_open;
      };
    }

-- the nodes of a run below n have had their turns, and what came of it
pub record TurnsTo {M S : Type 0} (note : M → Note) (step : S → Input M → Deed M S) (stands : S → Params → ℕ → Type 0) (c : Course) (count beat n : ℕ) (old now : Ring M S) : Type 0 where
  pub midway : Midway note step stands c count beat n old now
  pub turns : HaveTurns note step c beat n old now

turn-to : {M S : Type 0} (note : M → Note) (step : S → Input M → Deed M S) (stands : S → Params → ℕ → Type 0) (c : Course) (count beat n : ℕ) (numbers : List NodeNo) (dials : List Setting) (links : Links)
    (old now new : Ring M S) → links ≡ links_of c.plan.params → numbers ≡ each_below numbered count → dials ≡ each_below (setting_of c) count → n < count
    → TookTurn note step stands numbers dials links beat n now new → TurnsTo note step stands c count beat n old now → TurnsTo note step stands c count beat (n + 1) old new
turn-to {M} {S} note step stands c count beat n numbers dials links old now new links_are numbers_are dials_are low t come =
    let number : t.number ≡ numbered n = same-element numbers n t.number (numbered n) t.seat (ap (λ xs. slice_get xs n) numbers_are ∙ get-each_below numbered count n low) in
    let dial : t.dial ≡ setting_of c n = same-element dials n t.dial (setting_of c n) t.clock (ap (λ xs. slice_get xs n) dials_are ∙ get-each_below (setting_of c) count n low) in
    let dated : t.stamp ≡ stamp_in c n beat = t.shown ∙ ap (λ k. stamp_by k beat) dial in
    let row = ap (λ (m : NodeNo). in_links_of links m.0) number ∙ ap (λ k. in_links_of k n) links_are in
    subst (λ (r : Ring M S). TurnsTo note step stands c count beat (n + 1) old r) (sym t.after) (record {
      midway = midway-on note step stands c count beat n old now t.stamp (in_links_of links t.number.0) _ t.state t.then_state t.life t.then_life t.journal t.then_journal t.then_channels
          dated t.node_is t.life_is t.journal_is t.turned t.keeps come.midway;
      turns = turns-on note step stands c count beat n old now t.stamp (in_links_of links t.number.0) t.state t.then_state t.life t.then_life t.journal t.then_journal t.then_channels
          dated row t.node_is t.life_is t.journal_is t.turned come.midway.sound t.keeps come.turns;
    })

turns-to : {M S : Type 0} (note : M → Note) (step : S → Input M → Deed M S) (stands : S → Params → ℕ → Type 0) (c : Course) (count beat n : ℕ) (numbers : List NodeNo) (dials : List Setting) (links : Links)
    (old new : Ring M S) → links ≡ links_of c.plan.params → numbers ≡ each_below numbered count → dials ≡ each_below (setting_of c) count → n ≤ count → IsSound stands c.plan.params count beat old
    → TookTurns note step stands numbers dials links beat 0 n old new → TurnsTo note step stands c count beat n old new
turns-to {M} {S} note step stands c count beat zero numbers dials links old new links_are numbers_are dials_are low sound same =
    subst (λ (r : Ring M S). TurnsTo note step stands c count beat 0 old r) (sym same) (record {
      midway = record { sound = sound; ahead = λ k past high at. at; behind = λ k past none at. absurd (omega (arith, none)) };
      turns = refl;
    })
turns-to {M} {S} note step stands c count beat (suc n) numbers dials links old new links_are numbers_are dials_are low sound h =
    let place : 0 + n ≡ n = omega arith in
    let come = turns-to note step stands c count beat n numbers dials links old h.0 links_are numbers_are dials_are (omega (arith, low)) sound h.1 in
    subst (λ k. TurnsTo note step stands c count beat k old new) (add-one n)
    (turn-to note step stands c count beat n numbers dials links old h.0 new links_are numbers_are dials_are (omega (arith, low))
    (subst (λ k. TookTurn note step stands numbers dials links beat k h.0 new) place h.2) come)

-- so have all of them, if those at all places have
pub all-turns : {M S : Type 0} (note : M → Note) (step : S → Input M → Deed M S) (stands : S → Params → ℕ → Type 0) (c : Course) (count beat : ℕ) (numbers : List NodeNo) (dials : List Setting) (links : Links)
    (old new : Ring M S) → links ≡ links_of c.plan.params → numbers ≡ each_below numbered count → dials ≡ each_below (setting_of c) count → IsSound stands c.plan.params count beat old
    → HaveTakenTurns note step stands numbers dials links beat 0 (length numbers) old new → TurnsTo note step stands c count beat count old new
all-turns note step stands c count beat numbers dials links old new links_are numbers_are dials_are sound h =
    let all : h.more ≡ count = let e = h.places in let size = ap length numbers_are ∙ length-each_below numbered count in omega (arith, e, size) in
    subst (λ k. TurnsTo note step stands c count beat k old new) all
    (turns-to note step stands c count beat h.more numbers dials links old new links_are numbers_are dials_are (omega (arith, all)) sound h.turns)

-- each node of a run has lived through the beat
pub all-lived : {M S : Type 0} (note : M → Note) (step : S → Input M → Deed M S) (stands : S → Params → ℕ → Type 0) (c : Course) (count beat : ℕ) (old new : Ring M S) → length old.nodes ≡ count
    → TurnsTo note step stands c count beat count old new → AllHaveLived note step c beat old new
all-lived note step stands c count beat old new size h k past at =
    let low = get-below old.nodes k _ at.state in
    h.midway.behind k past (omega (arith, low, size)) at
