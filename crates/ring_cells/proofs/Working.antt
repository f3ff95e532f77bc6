-- A share in a beat: its members have their turns, one after another, and then the beat is over.
use Rattle.std.proofs.Common.{◌≡◌, ◌≢◌, ℕ, zero, suc, ◌+◌, ◌-◌, ◌<◌, ◌≤◌, List, [], ◌∷◌, ◌++◌, map, length, Bool, true, false, Option, Some, None, refl, ap, sym, ◌∙◌, subst, arith, cond, ⊎_elim, add-one}
use Rattle.std.specs.Prelude.{slice_get, slice_set, ◌==◌}
use Rattle.std.specs.List.{AllByRecursion}
use Rattle.std.proofs.lemmas.Bool.{cases_eq}
use Rattle.std.proofs.lemmas.Option.{none-some}
use Rattle.tiger_base.specs.Limits.{most_beats}
use Rattle.link_timing.specs.Clock.{new_clock}
use Rattle.tiger_base.specs.declared.number.LinkNo.{LinkNo}
use Rattle.tiger_base.specs.declared.number.NodeNo.{NodeNo}
use Rattle.tiger_base.specs.declared.number.Stamp.{Stamp}
use Rattle.tiger_base.specs.declared.message.Note.{Note}
use Rattle.slot_plan.specs.declared.params.Params.{Params}
use Rattle.node_kit.specs.declared.course.Course.{Course}
use Rattle.node_kit.specs.declared.journal.Entry.{Entry}
use Rattle.node_kit.specs.Courses.{Setting, setting_of, stamp_by, stamp_in}
use Rattle.node_kit.specs.Life.{Lifetime, lifetime_of}
use Rattle.node_kit.specs.Links.{Links, links_of, link_count, IsInLink, in_links_of}
use Rattle.node_kit.specs.Steps.{Input, Deed}
use Rattle.node_kit.proofs.Rows.{get-below, links_into-lead}
use Rattle.run_facts.specs.Accounts.{HasCutIn, IsTimeline, OnLink}
use Rattle.run_facts.specs.Beats.{beat_events, after_beat, opening_of, pass}
use Rattle.run_facts.specs.Events.{NodeEvent, Past, AreFair, sends_along, takes_along}
use Rattle.run_facts.specs.Rings.{Traffic, Ring, IsAt}
use Rattle.run_facts.proofs.Rows.{same-element}
use Rattle.ring_engine.specs.Passing.{IsManned}
use Rattle.ring_engine.specs.Traffic.{collected, AreOpen}
use Rattle.ring_engine.specs.Turns.{Scene, scene, turn, IsReady, IsReadyFor, KeepsReady}
use Rattle.ring_engine.specs.Whole.{with_node}
use Rattle.ring_engine.proofs.Running.{get-set_same, get-set_other, length-set_at, elsewhere, turn-past}
use Rattle.ring_links.specs.Ends.{LineId}
use Rattle.ring_cells.specs.Kept.{IsInflow, IsOutflow}
use Rattle.ring_cells.specs.Cells.{IsAtWork}
use Rattle.ring_cells.specs.Moves.{HasGoneThrough, HaveLived}
use Rattle.ring_cells.specs.Shares.{Entrance, Exit, holds, come_to, outflow_of, inflow_of, IsInner, IsEntrance, IsExit, IsShare, IsFitted, IsLeaving, AreClosedTo, HasEnded, HasPoured, links_out, AreApart, gone_out}
use Rattle.ring_engine.proofs.Progressing.{more, same-past}
use Rattle.ring_cells.proofs.Ending.{ended-open, open-ended}
use Rattle.ring_cells.proofs.Pouring.{get-map, get-unmap, get-there}
use Rattle.ring_cells.proofs.Rows.{held-at, come-here, come-none, come-all, come-then}
use Rattle.ring_cells.proofs.Turning.{come_on, then_ring, then_events, turn-share}
use Rattle.ring_cells.proofs.Waiting.{with_channels, wait-seated, wait-manned, wait-share}

-- the same share, if its members have come as far
pub share-at : {M S : Type 0} (note : M → Note) (step : S → Input M → Deed M S) (c : Course) (first : ℕ → S) (line_of : ℕ → LineId) (numbers : List NodeNo) (b b' : ℕ) (at at' : ℕ → ℕ)
    (events : ℕ → List (NodeEvent M)) (ring : Ring M S) (ins : List (Entrance M)) (outs : List (List (Exit M)))
    → ((k : ℕ) → holds numbers k ≡ true → at k ≡ at' k) → ((k : ℕ) → holds numbers k ≡ true → (b' ≤ at k) × (at k ≤ b' + 1)) → b ≤ b'
    → IsShare note step c first line_of numbers b at events ring ins outs → IsShare note step c first line_of numbers b' at' events ring ins outs
share-at note step c first line_of numbers b b' at at' events ring ins outs same soon later st = record {
  here = st.here;
  soon = λ k held. subst (λ x. (b' ≤ x) × (x ≤ b' + 1)) (same k held) (soon k held);
  fair = st.fair;
  whole = st.whole;
  timeline = λ k held. subst (λ x. IsTimeline (stamp_in c k) c.plan.params k (lifetime_of c k) x (events k)) (same k held) (st.timeline k held);
  inner = λ l from to inside inside' ends.
      let w = st.inner l from to inside inside' ends in
      let calm = w.calm in
      record {
        traffic = w.traffic;
        here = w.here;
        calm = omega (arith, calm, later);
        account = subst (λ x. OnLink (lifetime_of c to) (HasCutIn l (events to)) c.plan.params.delay (new_clock l c.delay c.plan.params.delay)
            (sends_along note step l (events from) (opening_of c from (first from))) (takes_along l (events to)) w.traffic.clock (map pass w.traffic.flights) x) (same to inside') w.account;
      };
  into = λ l from to out inside ends.
      let w = st.into l from to out inside ends in
      record {
        place = w.place;
        port = w.port;
        there = w.there;
        number = w.number;
        traffic = w.traffic;
        here = w.here;
        flow = subst (λ x. IsInflow line_of (lifetime_of c to) x (events to) (inflow_of w.port w.traffic)) (same to inside) w.flow;
      };
  out_of = λ l from to inside out ends.
      let w = st.out_of l from to inside out ends in
      record {
        member = w.member;
        is_from = w.is_from;
        row = w.row;
        its_row = w.its_row;
        place = w.place;
        port = w.port;
        there = w.there;
        number = w.number;
        traffic = w.traffic;
        here = w.here;
        all_out = w.all_out;
        flow = subst (λ x. IsOutflow line_of note step c from (first from) x (events from) (outflow_of w.port w.traffic)) (same from inside) w.flow;
      };
}

module _ {M S : Type 0} (note : M → Note) (step : S → Input M → Deed M S) (stands : S → Params → ℕ → Type 0) (courses : List Course) (opened : List S) (line_of : ℕ → LineId)
    (numbers : List NodeNo) (dials : List Setting) (links : Links) (b : ℕ) where
  abbrev pub At : ℕ → Ring M S → List (Entrance M) → List (List (Exit M)) → Type 0
  At q ring ins outs = IsAtWork note step stands courses opened line_of numbers dials links b q ring ins outs

  -- it waits
  pub work-waits : (q : ℕ) (ring : Ring M S) (channels' : List (Traffic M)) (ins ins' : List (Entrance M)) (outs : List (List (Exit M)))
      → HasPoured ring.channels ins channels' ins' → At q ring ins outs → At q (with_channels ring channels') ins' outs
  work-waits q ring channels' ins ins' outs poured h = record {
    course = h.course;
    named = h.named;
    is_course = h.is_course;
    dialled = h.dialled;
    links_are = h.links_are;
    first = h.first;
    opens = h.opens;
    inside = h.inside;
    seated = wait-seated h.course.plan.params numbers ins ins' outs ring.channels channels' poured h.seated;
    senders = h.senders;
    manned = wait-manned stands h.course.plan.params numbers b ring channels' ins ins' poured h.manned;
    events = h.events;
    share = wait-share note step h.course h.first line_of numbers b (come_to numbers b q) h.events ring channels' ins ins' outs h.seated poured h.share;
  }

  -- the clock at a place is that of the node there
  dial-is : (c : Course) → dials ≡ map (λ (n : NodeNo). setting_of c n.0) numbers → (q : ℕ) (m : NodeNo) (d : Setting) → slice_get numbers q ≡ Some m → slice_get dials q ≡ Some d
      → d ≡ setting_of c m.0
  dial-is c all q m d seat there =
      same-element dials q d (setting_of c m.0) there (ap (λ ds. slice_get ds q) all ∙ get-map (λ (n : NodeNo). setting_of c n.0) numbers q m seat)

  stamp-is : (c : Course) → dials ≡ map (λ (n : NodeNo). setting_of c n.0) numbers → (q : ℕ) (m : NodeNo) (d : Setting) (stamp : Stamp) → slice_get numbers q ≡ Some m → slice_get dials q ≡ Some d
      → stamp ≡ stamp_by d b → stamp ≡ stamp_in c m.0 b
  stamp-is c all q m d stamp seat there shown = shown ∙ ap (λ (k : Setting). stamp_by k b) (dial-is c all q m d seat there)

  -- the member at a place is ready for its turn
  pub work-ready : (q : ℕ) (ring : Ring M S) (ins : List (Entrance M)) (outs : List (List (Exit M))) (m : NodeNo) (d : Setting) (stamp : Stamp) (s : S) (life : Lifetime) (j : List Entry)
      → slice_get numbers q ≡ Some m → slice_get dials q ≡ Some d → stamp ≡ stamp_by d b → slice_get ring.nodes q ≡ Some s
      → At q ring ins outs → IsReadyFor stands stamp.beat (in_links_of links m.0) (scene s life j ring.channels)
  work-ready q ring ins outs m d stamp s life j seat there shown here h =
      let p = h.course.plan.params in
      subst (λ (x : Stamp). IsReadyFor {M = M} {S = S} stands x.beat (in_links_of links m.0) (scene s life j ring.channels)) (sym shown) (record {
        params = p;
        number = m.0;
        ready = record { stands_here = h.manned.stand q m s seat here; count = h.manned.channels; are_open = h.manned.are_open };
        lead = subst (λ (t : Links). AllByRecursion (λ (k : LinkNo). IsInLink p m.0 k.0) (in_links_of t m.0)) (sym h.links_are) (links_into-lead p m.0 (link_count (links_of p)));
      })

  -- what the end of a turn makes of a row among the rows
  row-seated : (c : Course) (q : ℕ) (m : NodeNo) (ins : List (Entrance M)) (outs outs' : List (List (Exit M))) (row row' : List (Exit M)) → slice_get numbers q ≡ Some m
      → (slice_get outs q ≡ Some row → slice_get outs' q ≡ Some row') → ((r : ℕ) → r ≢ q → slice_get outs' r ≡ slice_get outs r) → length outs' ≡ length outs
      → ((r : List (Exit M)) → slice_get outs q ≡ Some r → r ≡ row) → links_out row' ≡ links_out row
      → IsFitted c.plan.params numbers ins outs → IsFitted c.plan.params numbers ins outs'
  row-seated c q m ins outs outs' row row' seat then_row other_rows size its_row same h =
      let find : (r : ℕ) (x : List (Exit M)) → slice_get outs' r ≡ Some x → (y : List (Exit M)) × (slice_get outs r ≡ Some y) × (links_out x ≡ links_out y) = λ r x e.
      let low = get-below outs' r x e in
      let was = get-there outs r (omega (arith, low, size)) in
      ⊎_elim
      (λ (here : r ≡ q).
      let mine : slice_get outs q ≡ Some was.0 = ap (slice_get outs) (sym here) ∙ was.1 in
      let is : was.0 ≡ row = its_row was.0 mine in
      let now : row' ≡ x = same-element outs' q row' x (then_row (mine ∙ ap Some is)) (ap (slice_get outs') (sym here) ∙ e) in
      (was.0, was.1, ap links_out (sym now) ∙ same ∙ ap links_out (sym is)))
      (λ (other : r ≢ q). (x, sym (other_rows r other) ∙ e, refl))
      (cases_eq r q) in
      record {
        once = h.once;
        ins_lead = h.ins_lead;
        ins_apart = h.ins_apart;
        outs_lead = λ r k x o ex eo.
            let w = find r x ex in
            let was = get-unmap (λ (z : Exit M). z.link) w.0 k o.link (ap (λ ls. slice_get ls k) (sym w.2) ∙ get-map (λ (z : Exit M). z.link) x k o eo) in
            let lead = h.outs_lead r k w.0 was.0 w.1 was.1 in
            (lead.0, lead.1, subst (IsLeaving c.plan.params numbers lead.0) was.2 lead.2);
        outs_apart = λ r x e. (let w = find r x e in subst AreApart (sym w.2) (h.outs_apart r w.0 w.1));
      }

  module _ (q : ℕ) (ring : Ring M S) (ins : List (Entrance M)) (outs : List (List (Exit M))) (h : At q ring ins outs) (early : b ≤ most_beats) (shut : AreClosedTo b ins)
      (m : NodeNo) (d : Setting) (stamp : Stamp) (s s' : S) (life life' : Lifetime) (j j' : List Entry) (ts channels' : List (Traffic M))
      (seat : slice_get numbers q ≡ Some m) (its_dial : slice_get dials q ≡ Some d) (shown : stamp ≡ stamp_by d b)
      (node_is : slice_get ring.nodes q ≡ Some s) (life_is : slice_get ring.lives q ≡ Some life) (journal_is : slice_get ring.journals q ≡ Some j)
      (turned : ◌≡◌ {A = Scene M S} (scene s' life' j' ts) (turn note step stamp (in_links_of links m.0) (scene s life j ring.channels)))
      (keeps : KeepsReady note step stands stamp.beat
      (beat_events note step stamp (collected stamp.beat (in_links_of links m.0) ring.channels) (record { state = s; life = life; journal = j })) (scene s life j ring.channels) (scene s' life' j' ts))
      (row row' : List (Exit M)) (outs' : List (List (Exit M)))
      (its_row : (r : List (Exit M)) → slice_get outs q ≡ Some r → r ≡ row)
      (row_leads : (r : ℕ) (o : Exit M) → slice_get row r ≡ Some o → IsLeaving h.course.plan.params numbers m o.link)
      (ended : HasEnded b row ts row' channels')
      (then_row : slice_get outs q ≡ Some row → slice_get outs' q ≡ Some row') (other_rows : (r : ℕ) → r ≢ q → slice_get outs' r ≡ slice_get outs r) (size : length outs' ≡ length outs) where
    abbrev p : Params
    p = h.course.plan.params

    abbrev its_past : Past S
    its_past = record { state = s; life = life; journal = j }

    abbrev its_stamp : Stamp
    its_stamp = stamp_in h.course m.0 b

    abbrev its_links : List LinkNo
    its_links = in_links_of (links_of p) m.0

    dated : stamp ≡ its_stamp
    dated = stamp-is h.course h.dialled q m d stamp seat its_dial shown

    turned_so : ◌≡◌ {A = Scene M S} (scene s' life' j' ts) (turn note step its_stamp its_links (scene s life j ring.channels))
    turned_so = turned ∙ ap (λ (x : Stamp). turn note step x (in_links_of links m.0) (scene s life j ring.channels)) dated
        ∙ ap (λ (t : Links). turn note step its_stamp (in_links_of t m.0) (scene s life j ring.channels)) h.links_are

    keeps_so : KeepsReady note step stands b (beat_events note step its_stamp (collected b its_links ring.channels) its_past) (scene s life j ring.channels) (scene s' life' j' ts)
    keeps_so =
        subst (λ (t : Links). KeepsReady note step stands b (beat_events note step its_stamp (collected b (in_links_of t m.0) ring.channels) its_past) (scene s life j ring.channels) (scene s' life' j' ts)) h.links_are
        (subst (λ (x : Stamp). KeepsReady note step stands x.beat (beat_events note step x (collected x.beat (in_links_of links m.0) ring.channels) its_past) (scene s life j ring.channels) (scene s' life' j' ts)) dated keeps)

    kept : IsReady stands p m.0 b (scene s' life' j' ts) × AreFair note step p m.0 (beat_events note step its_stamp (collected b its_links ring.channels) its_past) its_past
    kept = keeps_so p m.0 (record { stands_here = h.manned.stand q m s seat node_is; count = h.manned.channels; are_open = h.manned.are_open })

    abbrev new_ring : Ring M S
    new_ring = with_node ring q s' life' j' channels'

    abbrev its_events : List (NodeEvent M)
    its_events = beat_events note step its_stamp (collected b its_links ring.channels) its_past

    stood : IsAt ring q its_past
    stood = record { state = node_is; life = life_is; journal = journal_is }

    shares : IsShare note step h.course h.first line_of numbers b (come_on m.0 b (come_to numbers b q)) (λ k. h.events k ++ more m.0 its_events k) new_ring ins outs'
    shares =
        subst (λ (x : Scene M S). HasEnded b row x.channels row' channels'
        → IsShare note step h.course h.first line_of numbers b (come_on m.0 b (come_to numbers b q)) (λ k. h.events k ++ more m.0 its_events k)
        (with_node ring q x.past.state x.past.life x.past.journal channels') ins outs') (sym turned_so)
        (λ e. turn-share note step h.course h.is_course h.first line_of numbers b (come_to numbers b q) h.events ring ins outs h.share h.seated.once q m seat
        (come-here numbers b q m h.seated.once seat) early shut its_past stood kept.1 row row' channels' outs' its_row row_leads e then_row other_rows)
        ended

    manned : IsManned stands p numbers b new_ring
    manned = record {
      stand = λ r n x there e. ⊎_elim
          (λ (same : r ≡ q).
          let is_m : m ≡ n = same-element numbers q m n seat (ap (slice_get numbers) (sym same) ∙ there) in
          let is_s : s' ≡ x = same-element (slice_set ring.nodes q s') q s' x (get-set_same ring.nodes q s' s node_is) (ap (slice_get (slice_set ring.nodes q s')) (sym same) ∙ e) in
          subst (λ (y : NodeNo). stands x p y.0) is_m (subst (λ y. stands y p m.0) is_s kept.0.stands_here))
          (λ (other : r ≢ q). h.manned.stand r n x there (sym (get-set_other ring.nodes q r s' other) ∙ e))
          (cases_eq r q);
      nodes = length-set_at ring.nodes q s' ∙ h.manned.nodes;
      lives = length-set_at ring.lives q life' ∙ h.manned.lives;
      journals = length-set_at ring.journals q j' ∙ h.manned.journals;
      channels = kept.0.count ∙ sym ended.same_size;
      are_open = open-ended b row row' ts channels' ended kept.0.are_open;
    }

    -- a member has had its turn
    pub work-turn : At (q + 1) new_ring ins outs'
    work-turn =
        let senders = h.senders in
        record {
          course = h.course;
          named = h.named;
          is_course = h.is_course;
          dialled = h.dialled;
          links_are = h.links_are;
          first = h.first;
          opens = h.opens;
          inside = h.inside;
          seated = row-seated h.course q m ins outs outs' row row' seat then_row other_rows size its_row ended.same_links h.seated;
          senders = omega (arith, senders, size);
          manned = manned;
          events = λ k. h.events k ++ more m.0 its_events k;
          share = share-at note step h.course h.first line_of numbers b b (come_on m.0 b (come_to numbers b q)) (come_to numbers b (q + 1)) (λ k. h.events k ++ more m.0 its_events k) new_ring ins outs'
              (λ k held. come-then numbers b q m k seat ∙ ap (λ x. come_to numbers b x k) (sym (add-one q))) shares.soon (omega arith) shares;
        }

    lived_now : (past : Past S) (k : Setting) → IsAt ring q past → slice_get dials q ≡ Some k → HasGoneThrough note step k b 1 q past new_ring
    lived_now past k at there =
        let letters = collected b its_links ring.channels in
        let was : its_past ≡ past = same-past ring q its_past past stood at in
        let clock : its_stamp ≡ stamp_by k b = ap (λ (x : Setting). stamp_by x b) (sym (dial-is h.course h.dialled q m k seat there)) in
        let is : ◌≡◌ {A = Past S} (record { state = s'; life = life'; journal = j' }) (after_beat note step (stamp_by k b) letters past) =
        ap (λ (x : Scene M S). x.past) turned_so ∙ turn-past note step its_stamp its_links (scene s life j ring.channels)
        ∙ ap (after_beat note step its_stamp letters) was ∙ ap (λ x. after_beat note step x letters past) clock in
        record {
          letters = letters ∷ [];
          each_beat = refl;
          here = record {
            state = get-set_same ring.nodes q s' s node_is ∙ ap (λ (x : Past S). Some x.state) is;
            life = get-set_same ring.lives q life' life life_is ∙ ap (λ (x : Past S). Some x.life) is;
            journal = get-set_same ring.journals q j' j journal_is ∙ ap (λ (x : Past S). Some x.journal) is;
          };
        }

    pub lived-turn : (old : Ring M S) → HaveLived note step dials b q old ring → HaveLived note step dials b (q + 1) old new_ring
    lived-turn old lived = record {
      done = λ r past k low at there. ⊎_elim
          (λ (same : r ≡ q).
          subst (λ x. HasGoneThrough note step k b 1 x past new_ring) (sym same)
          (lived_now past k (lived.still q past (omega arith) (subst (λ x. IsAt old x past) same at)) (ap (slice_get dials) (sym same) ∙ there)))
          (λ (other : r ≢ q).
          let was = lived.done r past k (omega (arith, low, other)) at there in
          record { letters = was.letters; each_beat = was.each_beat; here = elsewhere ring q r s' life' j' channels' _ other was.here })
          (cases_eq r q);
      still = λ r past high at. elsewhere ring q r s' life' j' channels' past (λ same. absurd (omega (arith, same, high))) (lived.still r past (omega (arith, high)) at);
    }

  pub lived-none : (r : Ring M S) → HaveLived note step dials b 0 r r
  lived-none r = record { done = λ q past k low at there. absurd (omega (arith, low)); still = λ q past high at. at }

  -- the beat is over
  pub work-ends : (q : ℕ) (ring : Ring M S) (ins : List (Entrance M)) (outs : List (List (Exit M))) → length numbers ≤ q → At q ring ins outs
      → IsAtWork note step stands courses opened line_of numbers dials links (b + 1) 0 ring ins outs
  work-ends q ring ins outs long h = record {
    course = h.course;
    named = h.named;
    is_course = h.is_course;
    dialled = h.dialled;
    links_are = h.links_are;
    first = h.first;
    opens = h.opens;
    inside = h.inside;
    seated = h.seated;
    senders = h.senders;
    manned = record {
      stand = h.manned.stand;
      nodes = h.manned.nodes;
      lives = h.manned.lives;
      journals = h.manned.journals;
      channels = h.manned.channels;
      are_open = λ k t e. record { unsent = (let low = (h.manned.are_open k t e).unsent in omega (arith, low)); later = (h.manned.are_open k t e).later };
    };
    events = h.events;
    share = share-at note step h.course h.first line_of numbers b (b + 1) (come_to numbers b q) (come_to numbers (b + 1) 0) h.events ring ins outs
        (λ k held. come-all numbers b q k long held ∙ sym (come-none numbers (b + 1) k))
        (λ k held. let all = come-all numbers b q k long held in (omega (arith, all), omega (arith, all))) (omega arith) h.share;
  }
