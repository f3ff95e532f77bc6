-- What the journals of a run of nodes of any lives are: paced, timed and carried.
use Rattle.std.proofs.Common.{◌≡◌, ℕ, ◌<◌, List, map, filter, length, Some, refl, ap, sym, ◌∙◌, subst, arith}
use Rattle.std.specs.Prelude.{slice_get}
use Rattle.std.specs.List.{AllByRecursion}
use Rattle.tiger_base.specs.declared.number.Stamp.{Stamp}
use Rattle.tiger_base.specs.declared.message.Note.{Note}
use Rattle.link_timing.specs.Clock.{new_clock}
use Rattle.node_kit.specs.declared.course.Course.{Course}
use Rattle.node_kit.specs.declared.journal.Entry.{Entry}
use Rattle.node_kit.specs.Courses.{IsCourse, reading_of, stamp_in}
use Rattle.node_kit.specs.Life.{lifetime_of, death_of, cut_of, back_of}
use Rattle.node_kit.specs.Links.{links_of, ends_of}
use Rattle.node_kit.specs.Steps.{Input, Deed}
use Rattle.node_kit.proofs.Rows.{get-below}
use Rattle.run_facts.specs.Accounts.{HasCutIn, AreAccounted}
use Rattle.run_facts.specs.Beats.{opening_of}
use Rattle.run_facts.specs.Carried.{sent_on, got_on, IsAtItsEnd, AreCarried}
use Rattle.run_facts.specs.Events.{NodeEvent, Dated, sends_along, takes_along, written, noted_as}
use Rattle.run_facts.specs.Paced.{passages, is_heard, DiedInTurn, ArePacedOn, AreByLink, ArePaced}
use Rattle.run_facts.specs.Timed.{IsTimed, AreTimed}
use Rattle.run_facts.proofs.Accounts.{clock-of}
use Rattle.run_facts.proofs.Along.{sent-written, got-written}
use Rattle.run_facts.proofs.Getting.{got-weaker}
use Rattle.run_facts.proofs.Journals.{stamped-written, placed-written, linked-written}
use Rattle.run_facts.proofs.Links.{link-ends}
use Rattle.run_facts.proofs.Noting.{paced-noted}
use Rattle.run_facts.proofs.Pacing.{paced_is_carried}
use Rattle.run_facts.proofs.Rows.{all-weaker, same-element}
use Rattle.run_lives.proofs.Dated.{timed-lives}
use Rattle.run_lives.proofs.Turning.{turn-came}

module _ {M S : Type 0} (note : M → Note) (step : S → Input M → Deed M S) (c : Course) (count : ℕ) (first : ℕ → S)
    (lost : ℕ → ℕ) (events : ℕ → List (NodeEvent M)) (course : IsCourse c)
    (accounts : AreAccounted note step c.plan.params (stamp_in c) (lifetime_of c)
    (λ l. new_clock l c.delay c.plan.params.delay) count c.beats first lost events)
    (journals : List (List Entry)) (size : length journals ≡ count)
    (theirs : (n : ℕ) → n < count
    → slice_get journals n ≡ Some (written note step (events n) (opening_of c n (first n)))) where
  -- a journal is what its node's events write
  record IsWritten (n : ℕ) (journal : List Entry) : Type 0 where
    low : n < count
    is : journal ≡ written note step (events n) (opening_of c n (first n))

  is-written : (n : ℕ) (journal : List Entry) → slice_get journals n ≡ Some journal → IsWritten n journal
  is-written n journal h =
      let within = get-below journals n journal h in
      let low : n < count = omega (arith, within, size) in
      record { low = low; is = same-element journals n journal _ h (theirs n low) }

  sent-notes : (n l : ℕ) (journal : List Entry) → IsWritten n journal
      → map (noted_as note) (sends_along note step l (events n) (opening_of c n (first n))) ≡ sent_on l journal
  sent-notes n l journal t =
      sym (sent-written note step c.plan.params n l (events n) (opening_of c n (first n)) (accounts.fair n t.low))
      ∙ ap (sent_on l) (sym t.is)

  got-notes : (n l : ℕ) (journal : List Entry) → IsWritten n journal
      → map (noted_as note) (takes_along l (events n)) ≡ got_on l journal
  got-notes n l journal t =
      sym (got-written note step c.plan.params n l (events n) (opening_of c n (first n)) (accounts.fair n t.low))
      ∙ ap (got_on l) (sym t.is)

  paced-link : (l from to : ℕ) (sender receiver : List Entry) → ends_of (links_of c.plan.params) l ≡ Some (from, to)
      → IsWritten from sender → IsWritten to receiver
      → ArePacedOn (new_clock l c.delay c.plan.params.delay) (lifetime_of c to) c.beats
      (DiedInTurn (death_of c to) l receiver) (sent_on l sender) (got_on l receiver)
  paced-link l from to sender receiver ends hs hr =
      let start = new_clock l c.delay c.plan.params.delay in
      let life = lifetime_of c to in
      let Came = HasCutIn l (events to) in
      let on = accounts.links l from to hs.low hr.low ends in
      let sends = sends_along note step l (events from) (opening_of c from (first from)) in
      let takes = takes_along l (events to) in
      let Paced : List (Dated Note) → List (Dated Note) → Type 0 = ArePacedOn start life c.beats Came in
      let notes = paced-noted note start life c.beats Came sends takes
      (link-ends life Came c.plan.params.delay start sends takes on.0 on.1 c.beats on.2) in
      let noted = subst (λ q. Paced q (got_on l receiver)) (sent-notes from l sender hs)
      (subst (λ q. Paced (map (noted_as note) sends) q) (got-notes to l receiver hr) notes) in
      got-weaker life Came (DiedInTurn (death_of c to) l receiver)
      (filter (is_heard life c.beats) (passages start (sent_on l sender))) (got_on l receiver)
      (λ cut. subst (DiedInTurn (death_of c to) l) (sym hr.is)
      (turn-came note step c.plan.params to (stamp_in c to) (λ b. refl) c.beats (opening_of c to (first to)) l life
      (events to) (accounts.timeline to hr.low) (accounts.fair to hr.low) cut)) noted

  pub paced-lives : ArePaced c journals
  paced-lives = record {
    on_links = λ l from to sender receiver ends hs hr.
        paced-link l from to sender receiver ends (is-written from sender hs) (is-written to receiver hr);
    readings = λ n journal h.
        let t = is-written n journal h in
        subst (AllByRecursion (λ (e : Entry). e.stamp.reading ≡ reading_of c n e.stamp.beat)) (sym t.is)
        (all-weaker (λ (e : Entry). e.stamp ≡ stamp_in c n e.stamp.beat)
        (λ e. e.stamp.reading ≡ reading_of c n e.stamp.beat)
        (written note step (events n) (opening_of c n (first n)))
        (λ e q. ap (λ (s : Stamp). s.reading) q)
        (stamped-written note step (λ s. s ≡ stamp_in c n s.beat) (events n) (opening_of c n (first n))
        (accounts.timeline n t.low).stamped));
    by_link = λ n journal h.
        let t = is-written n journal h in
        subst AreByLink (sym t.is)
        (linked-written note step c.plan.params (stamp_in c n) n (lifetime_of c n) c.beats (events n)
        (opening_of c n (first n)) (accounts.timeline n t.low) (accounts.fair n t.low));
  }

  pub timed-journals : AreTimed c.plan.params c.beats (lifetime_of c) journals
  timed-journals n journal h =
      let t = is-written n journal h in
      subst (IsTimed c.plan.params c.beats (lifetime_of c n)) (sym t.is)
      (timed-lives note step c.plan.params n (stamp_in c n) (clock-of c n course) (death_of c n) (cut_of c n)
      (back_of c n) (course.returns_later n) c.beats (events n) (opening_of c n (first n)) (accounts.timeline n t.low)
      (accounts.fair n t.low))

  -- and what is paced and timed is carried
  pub carried-lives : AreCarried c.plan.params c.beats (lifetime_of c) journals
  carried-lives = record {
    on_links = paced_is_carried c journals course paced-lives timed-journals;
    at_ends = λ n journal h.
        let t = is-written n journal h in
        subst (AllByRecursion (λ (e : Entry). IsAtItsEnd c.plan.params n e.what)) (sym t.is)
        (placed-written note step c.plan.params n (events n) (opening_of c n (first n)) (accounts.timeline n t.low).led
        (accounts.fair n t.low));
  }
