-- From the parts of all shares and the closed links to the run of all nodes.
use Rattle.std.proofs.Common.{◌≡◌, ◌≢◌, ℕ, ◌+◌, ◌<◌, List, [], ◌∷◌, length, true, Option, Some, ap, sym, ◌∙◌, subst, arith}
use Rattle.std.specs.Prelude.{slice_get}
use Rattle.tiger_base.specs.declared.message.Note.{Note}
use Rattle.slot_plan.specs.declared.params.Params.{Params}
use Rattle.node_kit.specs.declared.course.Course.{Course}
use Rattle.node_kit.specs.declared.journal.Entry.{Entry}
use Rattle.node_kit.specs.Courses.{IsCourse}
use Rattle.node_kit.specs.Life.{lifetime_of}
use Rattle.node_kit.specs.Links.{Links, links_of, ends_of, link_count, viewers_of}
use Rattle.node_kit.specs.Steps.{Input, Deed}
use Rattle.node_kit.proofs.Ring.{ends_counted}
use Rattle.run_facts.specs.Carried.{AreCarried}
use Rattle.run_facts.specs.Kept.{HaveKept}
use Rattle.run_facts.specs.Paced.{ArePaced}
use Rattle.run_facts.specs.Rings.{Ring}
use Rattle.run_facts.specs.Timed.{AreTimed}
use Rattle.run_facts.proofs.Kept.{firsts}
use Rattle.run_lives.proofs.Kept.{carried-run, paced-run, timed-run, kept-run}
use Rattle.run_lives.proofs.Progress.{Progress}
use Rattle.ring_links.specs.Ends.{End, LineId}
use Rattle.ring_links.specs.Flights.{IsFront, IsOrdered}
use Rattle.ring_cells.specs.declared.share.ShareParts.{ShareParts}
use Rattle.ring_cells.specs.Cells.{Seen, ring_in}
use Rattle.ring_cells.specs.Meets.{IsOfMember, IsInPort, IsOutPort, HasMet, HaveMet}
use Rattle.ring_cells.specs.Shares.{Entrance, Exit}
use Rattle.ring_cells.proofs.Meeting.{shares-meet}
use Rattle.ring_cells.proofs.Pouring.{get-there}
use Rattle.ring_cells.proofs.Wired.{in-lined, out-lined}
use Rattle.ring_workers.specs.Ends.{HasEnd, AreLined, HasClosed}
use Rattle.ring_workers.specs.Rows.{in_end, out_end}
use Rattle.ring_workers.specs.Runs.{IsRunOf}
use Rattle.ring_workers.specs.Parts.{ArePartsOf, AreAllParts, IsOutOf, IsIntoOf, IsThing}
use Rattle.ring_workers.specs.Sharing.{home_by, goes_between}
use Rattle.ring_workers.proofs.Crossing.{differs-crosses}

module _ {M S : Type 0} (note : M → Note) (step : S → Input M → Deed M S) (stands : S → Params → ℕ → Type 0) (courses : List Course) (opened : List S) (line : ℕ → LineId) (home : ℕ → ℕ)
    (parts : List (ShareParts M S)) (all : AreAllParts note step stands courses opened line home parts) where
  -- the port of an end that was put back
  record OutEndIs (l : ℕ) (e : End M) : Type 0 where
    port : Exit M
    of_share : IsOutPort all.shares l port
    end : e ≡ out_end port

  record InEndIs (l : ℕ) (e : End M) : Type 0 where
    port : Entrance M
    of_share : IsInPort all.shares l port
    end : e ≡ in_end port

  out-end : (l : ℕ) (e : End M) → IsOutOf parts l e → OutEndIs l e
  out-end l e w =
      let s = all.each w.share w.part w.there in
      let rows = w.of_rows in
      let row = rows.of_row in
      record {
        port = row.port;
        of_share = record {
          share = w.share;
          seen = s.0;
          there = s.1;
          member = rows.member;
          row = rows.row;
          its_row = ap (λ (xs : List (List (Exit M))). slice_get xs rows.member) s.2.outs ∙ rows.its_row;
          place = row.place;
          here = row.here;
          number = row.number;
        };
        end = row.end;
      }

  in-end : (l : ℕ) (e : End M) → IsIntoOf parts l e → InEndIs l e
  in-end l e w =
      let s = all.each w.share w.part w.there in
      let row = w.of_row in
      record {
        port = row.port;
        of_share = record {
          share = w.share;
          seen = s.0;
          there = s.1;
          place = row.place;
          here = ap (λ (xs : List (Entrance M)). slice_get xs row.place) s.2.ins ∙ row.here;
          number = row.number;
        };
        end = row.end;
      }

  out-line : (l : ℕ) (port : Exit M) → IsOutPort all.shares l port → port.line ≡ line l
  out-line l port w =
      let s = w.seen in
      let work = (all.come w.share s w.there).kept.work in
      out-lined note step stands courses opened line s.numbers s.dials s.links s.next 0 (ring_in s) s.ins s.outs work w.member w.place w.row port w.its_row w.here ∙ ap line w.number

  in-line : (l : ℕ) (port : Entrance M) → IsInPort all.shares l port → port.line ≡ line l
  in-line l port w =
      let s = w.seen in
      let work = (all.come w.share s w.there).kept.work in
      in-lined note step stands courses opened line s.numbers s.dials s.links s.next 0 (ring_in s) s.ins s.outs work w.place port w.here ∙ ap line w.number

  -- both ends of a link have its name
  pub all-lined : (outs ins : List (Option (End M))) → ((l : ℕ) (e : End M) → HasEnd outs l e → IsOutOf parts l e) → ((l : ℕ) (e : End M) → HasEnd ins l e → IsIntoOf parts l e) → AreLined outs ins
  all-lined outs ins out_of into_of l out into ho hi =
      let o = out-end l out (out_of l out ho) in
      let i = in-end l into (into_of l into hi) in
      ap (λ (e : End M). e.line) o.end ∙ out-line l o.port o.of_share ∙ sym (in-line l i.port i.of_share) ∙ sym (ap (λ (e : End M). e.line) i.end)

  -- a link that was closed has met
  met-of : (outs ins : List (Option (End M))) → ((l : ℕ) (e : End M) → HasEnd outs l e → IsOutOf parts l e) → ((l : ℕ) (e : End M) → HasEnd ins l e → IsIntoOf parts l e)
      → (l : ℕ) → HasClosed outs ins l → HasMet all.shares l
  met-of outs ins out_of into_of l closed =
      let o = out-end l closed.out (out_of l closed.out closed.out_there) in
      let i = in-end l closed.into (into_of l closed.into closed.into_there) in
      record {
        out = o.port;
        is_out = o.of_share;
        into = i.port;
        is_into = i.of_share;
        front = subst (λ (e : End M). IsFront e.closed e.flights o.port.flights) i.end (subst (λ (e : End M). IsFront closed.into.closed closed.into.flights e.flights) o.end closed.front);
        ordered = subst (λ (e : End M). IsOrdered e.flights) o.end closed.ordered;
      }

  -- what is at a node's number is what some share has of it
  member-of : {A : Type 0} (row : Seen M S → List A) (part_row : ShareParts M S → List A) → ((s : Seen M S) (p : ShareParts M S) → ArePartsOf s p → row s ≡ part_row p)
      → (k : ℕ) (x : A) → IsThing part_row parts k x → IsOfMember row all.shares k x
  member-of row part_row same k x w =
      let s = all.each w.share w.part w.there in
      let n = w.of_node in
      record {
        share = w.share;
        seen = s.0;
        there = s.1;
        place = n.place;
        seat = ap (λ (ns : List _). slice_get ns n.place) s.2.numbers ∙ n.seat;
        here = ap (λ (xs : List _). slice_get xs n.place) (same s.0 w.part s.2) ∙ n.here;
      }

  -- so the run is one of the course
  pub run-whole : (c : Course) (given nodes : List S) (journals : List (List Entry)) (outs ins : List (Option (End M))) (links : Links) (homes : List ℕ) → IsCourse c → courses ≡ c ∷ [] → opened ≡ given
      → links ≡ links_of c.plan.params → home ≡ home_by homes → length given ≡ viewers_of links + 1
      → ((l : ℕ) (e : End M) → HasEnd outs l e → IsOutOf parts l e) → ((l : ℕ) (e : End M) → HasEnd ins l e → IsIntoOf parts l e)
      → ((l : ℕ) → l < link_count links → goes_between links homes l ≡ true → HasClosed outs ins l)
      → length nodes ≡ viewers_of links + 1 → length journals ≡ viewers_of links + 1
      → ((k : ℕ) (x : S) → slice_get nodes k ≡ Some x → IsThing (λ (p : ShareParts M S). p.nodes.items) parts k x)
      → ((k : ℕ) (x : List Entry) → slice_get journals k ≡ Some x → IsThing (λ (p : ShareParts M S). p.journals.items) parts k x)
      → IsRunOf {M = M} note step c given nodes journals
  run-whole c given nodes journals outs ins links homes course named opens same home_is size out_of into_of closed back wrote nodes_of journals_of =
      let p = c.plan.params in
      let many : length given ≡ viewers_of (links_of p) + 1 = size ∙ ap (λ (t : Links). viewers_of t + 1) same in
      let first = firsts given (omega (arith, many)) in
      let opens_at : (k : ℕ) → k < length given → slice_get opened k ≡ Some (first.0 k) = λ k low. ap (λ (xs : List S). slice_get xs k) opens ∙ first.1 k low in
      let met : HaveMet p home all.shares = λ l from to ends other.
      (let counted = ends_counted (links_of p) l (from, to) ends in
      let ends' : ends_of links l ≡ Some (from, to) = ap (λ (t : Links). ends_of t l) same ∙ ends in
      let low : l < link_count links = subst (λ (t : Links). l < link_count t) (sym same) counted in
      let other' : home_by homes from ≢ home_by homes to = λ e. other (ap (λ (f : ℕ → ℕ). f from) home_is ∙ e ∙ sym (ap (λ (f : ℕ → ℕ). f to) home_is)) in
      met-of outs ins out_of into_of l (closed l low (differs-crosses homes (ends_of links l) from to ends' other'))) in
      let run = shares-meet note step stands c courses named opened line home first.0 (length given) many opens_at all.shares all.come met nodes journals (wrote ∙ sym size)
      (λ k low. let x = get-there nodes k (omega (arith, low, size, back)) in (x.0, x.1, member-of (λ (s : Seen M S). s.nodes) (λ (q : ShareParts M S). q.nodes.items) (λ s q h. h.nodes) k x.0 (nodes_of k x.0 x.1)))
      (λ k low. let x = get-there journals k (omega (arith, low, size, wrote)) in (x.0, x.1, member-of (λ (s : Seen M S). s.journals) (λ (q : ShareParts M S). q.journals.items) (λ s q h. h.journals) k x.0 (journals_of k x.0 x.1))) in
      let r : Ring M S = run.0 in
      let st : Progress note step c (length given) first.0 c.beats 0 r = run.3 in
      record {
        kept = subst (λ js. HaveKept {M = M} note step c given nodes js) run.2
            (subst (λ ns. HaveKept {M = M} note step c given ns r.journals) run.1 (kept-run note step c given first.0 r course many st first.1 (ap length run.1 ∙ back ∙ sym size)));
        carried = subst (AreCarried p c.beats (lifetime_of c)) run.2 (carried-run note step c given first.0 r course many st);
        paced = subst (ArePaced c) run.2 (paced-run note step c given first.0 r course many st);
        timed = subst (AreTimed p c.beats (lifetime_of c)) run.2 (timed-run note step c given first.0 r course many st);
      }
