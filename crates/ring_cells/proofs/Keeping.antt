-- What a share keeps of itself in a call, over its parts.
use Rattle.std.proofs.Common.{◌≡◌, ℕ, ◌+◌, ◌<◌, ◌≤◌, Bool, false, List, [], ◌∷◌, map, length, Some, refl, ap, sym, ◌∙◌, subst, arith}
use Rattle.std.specs.Prelude.{slice_get}
use Rattle.std.proofs.lemmas.List.{length-map}
use Rattle.tiger_base.specs.declared.number.NodeNo.{NodeNo}
use Rattle.tiger_base.specs.declared.message.Note.{Note}
use Rattle.slot_plan.specs.declared.params.Params.{Params}
use Rattle.node_kit.specs.declared.course.Course.{Course}
use Rattle.node_kit.specs.declared.journal.Entry.{Entry}
use Rattle.node_kit.specs.Courses.{IsCourse, Setting, setting_of}
use Rattle.node_kit.specs.Life.{Lifetime, lifetime_of}
use Rattle.node_kit.specs.Links.{Links, links_of, link_count, viewers_of}
use Rattle.node_kit.specs.Rows.{each_below}
use Rattle.node_kit.specs.Steps.{Input, Deed}
use Rattle.run_facts.specs.Rings.{Traffic, Ring}
use Rattle.ring_engine.specs.Passing.{AreAtHand}
use Rattle.ring_engine.specs.Places.{new_channel}
use Rattle.ring_links.specs.Ends.{LineId}
use Rattle.ring_cells.specs.Cells.{Seen, ring_in, IsAtWork, IsMembership, IsShareOf}
use Rattle.ring_cells.specs.Moves.{HaveLived, DidBeat}
use Rattle.ring_cells.specs.Opens.{AreGiven, AreFreshIns, AreFreshOuts}
use Rattle.ring_cells.specs.Shares.{Entrance, Exit, HasPoured}
use Rattle.ring_cells.proofs.Fresh.{work-opens}
use Rattle.ring_cells.proofs.Moving.{did-beat}
use Rattle.ring_cells.proofs.Rows.{held-at}
use Rattle.ring_cells.proofs.Working.{work-waits}

abbrev first_of : Course → List Course → Course
first_of d [] = d
first_of d (c ∷ cs) = c

-- a run is named by one course
one-course : (courses : List Course) (c d : Course) → courses ≡ c ∷ [] → courses ≡ d ∷ [] → c ≡ d
one-course courses c d hc hd = ap (first_of c) (sym hc ∙ hd)

-- there is a clock for each member
pub dials-size : (c : Course) (numbers : List NodeNo) (dials : List Setting) → dials ≡ map (λ (n : NodeNo). setting_of c n.0) numbers → length dials ≡ length numbers
dials-size c numbers dials all = ap length all ∙ length-map numbers (λ (n : NodeNo). setting_of c n.0)

module _ {M S : Type 0} (note : M → Note) (step : S → Input M → Deed M S) (stands : S → Params → ℕ → Type 0) (courses : List Course) (opened : List S) (line_of : ℕ → LineId) where
  -- its members are at hand
  pub work-at-hand : (numbers : List NodeNo) (dials : List Setting) (links : Links) (b q : ℕ) (ring : Ring M S) (ins : List (Entrance M)) (outs : List (List (Exit M)))
      → IsAtWork note step stands courses opened line_of numbers dials links b q ring ins outs → AreAtHand stands numbers dials links b ring
  work-at-hand numbers dials links b q ring ins outs h = record {
    params = h.course.plan.params;
    links_are = h.links_are;
    inside = λ r n seat.
        let low = h.inside n.0 (held-at numbers r n seat) in
        let same = ap viewers_of h.links_are in
        omega (arith, low, same);
    clocks = dials-size h.course numbers dials h.dialled;
    manned = h.manned;
  }

  -- the rows of a share and what is lent of them are the same
  pub work-lent : (numbers numbers' : List NodeNo) (dials dials' : List Setting) (ins ins' : List (Entrance M)) (links : Links) (b q : ℕ) (ring : Ring M S) (outs : List (List (Exit M)))
      → numbers' ≡ numbers → dials' ≡ dials → ins' ≡ ins → IsAtWork note step stands courses opened line_of numbers dials links b q ring ins outs
      → IsAtWork note step stands courses opened line_of numbers' dials' links b q ring ins' outs
  work-lent numbers numbers' dials dials' ins ins' links b q ring outs en ed ei h =
      subst (λ x. IsAtWork note step stands courses opened line_of x dials' links b q ring ins' outs) (sym en)
      (subst (λ x. IsAtWork note step stands courses opened line_of numbers x links b q ring ins' outs) (sym ed)
      (subst (λ x. IsAtWork note step stands courses opened line_of numbers dials links b q ring x outs) (sym ei) h))

  -- it waits
  pub work-poured : (numbers : List NodeNo) (dials : List Setting) (links links' : Links) (b : ℕ) (nodes : List S) (lives : List Lifetime) (journals : List (List Entry))
      (channels channels' : List (Traffic M)) (ins ins' : List (Entrance M)) (outs : List (List (Exit M))) → links' ≡ links → HasPoured channels ins channels' ins'
      → IsAtWork note step stands courses opened line_of numbers dials links b 0 (record { nodes = nodes; lives = lives; journals = journals; channels = channels }) ins outs
      → IsAtWork note step stands courses opened line_of numbers dials links' b 0 (record { nodes = nodes; lives = lives; journals = journals; channels = channels' }) ins' outs
  work-poured numbers dials links links' b nodes lives journals channels channels' ins ins' outs same poured h =
      subst (λ t. IsAtWork note step stands courses opened line_of numbers dials t b 0 (record { nodes = nodes; lives = lives; journals = journals; channels = channels' }) ins' outs) (sym same)
      (work-waits note step stands courses opened line_of numbers dials links b 0 (record { nodes = nodes; lives = lives; journals = journals; channels = channels }) channels' ins ins' outs poured h)

  module _ (home : ℕ → ℕ) where
    -- what is at work in some beat of the same run is that share
    pub share-goes : (s t : Seen M S) → t.number ≡ s.number → t.beats ≡ s.beats → t.numbers ≡ s.numbers → t.next ≤ t.beats
        → IsAtWork note step stands courses opened line_of t.numbers t.dials t.links t.next 0 (ring_in t) t.ins t.outs
        → IsShareOf note step stands courses opened line_of home s → IsShareOf note step stands courses opened line_of home t
    share-goes s t number beats numbers within work h =
        let same : h.work.course ≡ work.course = one-course courses h.work.course work.course h.work.named work.named in
        record {
          work = work;
          membership = subst (λ (c : Course). IsMembership home c.plan.params t.number t.numbers) same
              (subst (λ k. IsMembership home h.work.course.plan.params k t.numbers) (sym number)
              (subst (IsMembership home h.work.course.plan.params s.number) (sym numbers) h.membership));
          length_is = beats ∙ h.length_is ∙ ap (λ (c : Course). c.beats) same;
          within = within;
        }

-- a whole beat of the members, if the links waited for it before
pub beat-lived : {M S : Type 0} (note : M → Note) (step : S → Input M → Deed M S) (s t : Seen M S) (dials : List Setting) (count : ℕ) (channels : List (Traffic M)) → dials ≡ s.dials
    → HaveLived note step dials s.next count (record { nodes = s.nodes; lives = s.lives; journals = s.journals; channels = channels }) (ring_in t)
    → length s.nodes ≤ count → t.next ≡ s.next + 1 → DidBeat note step s t
beat-lived {M} {S} note step s t dials count channels same lived all next =
    let h = subst (λ d. HaveLived note step d s.next count (record { nodes = s.nodes; lives = s.lives; journals = s.journals; channels = channels }) (ring_in t)) same lived in
    did-beat note step s t count (record {
      done = λ r past k low at there. h.done r past k low (record { state = at.state; life = at.life; journal = at.journal }) there;
      still = λ r past high at. h.still r past high (record { state = at.state; life = at.life; journal = at.journal });
    }) all next

-- a fresh share
pub share-opens : {M S : Type 0} (note : M → Note) (step : S → Input M → Deed M S) (stands : S → Params → ℕ → Type 0) (courses : List Course) (c : Course) (opened : List S) (line_of : ℕ → LineId) (home : ℕ → ℕ) (number : ℕ)
    (numbers : List NodeNo) (dials : List Setting) (links : Links) (nodes : List S) (lives : List Lifetime) (journals : List (List Entry)) (channels : List (Traffic M)) (ins : List (Entrance M)) (outs : List (List (Exit M)))
    → courses ≡ c ∷ [] → IsCourse c → links ≡ links_of c.plan.params → dials ≡ map (λ (n : NodeNo). setting_of c n.0) numbers → lives ≡ map (λ (n : NodeNo). lifetime_of c n.0) numbers
    → journals ≡ each_below (λ _. []) (length numbers) → channels ≡ each_below (new_channel c) (link_count links) → IsMembership home c.plan.params number numbers
    → AreGiven stands c.plan.params opened numbers nodes → AreFreshIns line_of c numbers ins → AreFreshOuts line_of c numbers outs
    → IsShareOf note step stands courses opened line_of home (record {
      number = number;
      beats = c.beats;
      next = 0;
      spoilt = false;
      numbers = numbers;
      dials = dials;
      nodes = nodes;
      lives = lives;
      journals = journals;
      links = links;
      channels = channels;
      ins = ins;
      outs = outs;
    })
share-opens note step stands courses c opened line_of home number numbers dials links nodes lives journals channels ins outs named course same dialled lived wrote new members given fresh_ins fresh_outs =
    let work = work-opens note step stands courses c opened line_of home number numbers dials links nodes lives journals channels ins outs named course same dialled lived wrote new members given fresh_ins fresh_outs in
    let is : c ≡ work.course = one-course courses c work.course named work.named in
    record {
      work = work;
      membership = subst (λ (d : Course). IsMembership home d.plan.params number numbers) is members;
      length_is = ap (λ (d : Course). d.beats) is;
      within = omega arith;
    }
