-- Beat by beat all nodes have the same events, in whatever runs they begin alike and live through one course.
use Rattle.std.proofs.Common.{◌≡◌, ℕ, zero, suc, ◌<◌, ◌≤◌, List, [], ◌∷◌, filter, map, false, true, Some, refl, ap, sym, ◌∙◌, arith, ⊎_elim}
use Rattle.std.specs.Prelude.{nat_lt}
use Rattle.std.proofs.lemmas.Bool.Decides.{nat_tests}
use Rattle.tiger_base.specs.declared.message.Note.{Note}
use Rattle.tiger_base.specs.Limits.{most_beats}
use Rattle.link_timing.specs.Clock.{new_clock}
use Rattle.link_timing.proofs.Arrivals.{IsClock-new_clock}
use Rattle.node_kit.specs.declared.course.Course.{Course}
use Rattle.node_kit.specs.Courses.{IsCourse, reading_of}
use Rattle.node_kit.specs.Life.{lifetime_of, death_of, cut_of, back_of}
use Rattle.node_kit.specs.Links.{links_of, ends_of}
use Rattle.node_kit.specs.Steps.{Input, Deed}
use Rattle.run_facts.specs.Events.{NodeEvent, Dated, opening, stamp_at, sends_along, takes_along}
use Rattle.run_facts.specs.Paced.{Passage, brought, is_heard, passages}
use Rattle.run_facts.proofs.Rows.{all-weaker, filter-all}
use Rattle.run_facts.proofs.Timelines.{rising-counted}
use Rattle.proof_answer.proofs.Alike.{AreAlikeOn, TakeAlike, alike-none}
use Rattle.proof_answer.proofs.Bringing.{heard_up_to, heard-below}
use Rattle.proof_answer.proofs.Dated.{events_below, dated_below}
use Rattle.proof_answer.proofs.Determined.{one-below}
use Rattle.proof_answer.proofs.Lived.{HaveLived, none-or-from}
use Rattle.proof_answer.proofs.Missing.{alike-heard}
use Rattle.proof_answer.proofs.Stages.Stage.{Alive}
use Rattle.proof_answer.proofs.Sending.{sends-below, order-sends}

nothing-below : {M : Type 0} (es : List (NodeEvent M)) → events_below 0 es ≡ []
nothing-below [] = refl
nothing-below (e ∷ es) =
    let late : nat_lt (stamp_at e).beat 0 ≡ false = grind (arith, nat_tests) in
    rw late (nothing-below es)

module _ {M S : Type 0} (note : M → Note) (step : S → Input M → Deed M S) (c : Course) (course : IsCourse c)
    (nodes : ℕ) (first : ℕ → S) where
  -- what a link brings that is heard, if these are the events of its sender, and so up to a beat
  abbrev heard_by : (l from to : ℕ) → List (NodeEvent M) → List (Passage M)
  heard_by l from to es =
      filter (is_heard (lifetime_of c to) c.beats) (passages (new_clock l c.delay c.plan.params.delay)
      (sends_along note step l es (opening (first from) (lifetime_of c from))))

  abbrev brought_by : (b l from to : ℕ) → List (NodeEvent M) → List (Dated M)
  brought_by b l from to es =
      heard_up_to (new_clock l c.delay c.plan.params.delay) (lifetime_of c to) c.beats b
      (sends_along note step l es (opening (first from) (lifetime_of c from)))

  brings : (events : ℕ → List (NodeEvent M)) → HaveLived note step c nodes first events
      → (b l from to : ℕ) → from < nodes
      → dated_below (suc b) (map brought (heard_by l from to (events from))) ≡ brought_by b l from to (events_below b (events from))
  brings events lived b l from to low_from =
      let delay = c.plan.sound.ranges.delay in
      let start = new_clock l c.delay c.plan.params.delay in
      let past = opening (first from) (lifetime_of c from) in
      let theirs = lived.all from low_from in
      let rising = rising-counted 0 (events from) theirs.counted in
      let most = course.beats in
      let few = all-weaker (λ (e : NodeEvent M). (stamp_at e).beat < c.beats) (λ e. (stamp_at e).beat ≤ most_beats)
      (events from) (λ e h. omega (arith, h, most)) theirs.early in
      let is_clock = IsClock-new_clock l c.delay c.plan.params.delay delay.0 delay.1 course.delay in
      let order = order-sends note step l 0 (events from) past rising.0 few rising.1 in
      let sends = sends_along note step l (events from) past in
      heard-below start (lifetime_of c to) c.beats b sends is_clock order
      ∙ ap (heard_up_to start (lifetime_of c to) c.beats b) (sends-below note step b l (events from) past rising.1)

  module _ (es fs : ℕ → List (NodeEvent M)) (one : HaveLived note step c nodes first es)
      (two : HaveLived note step c nodes first fs) where
    -- if the events below a beat are the same, what is taken up to it is alike
    takes-alike : (b : ℕ) → ((n : ℕ) → n < nodes → events_below b (es n) ≡ events_below b (fs n))
        → (n : ℕ) → n < nodes → TakeAlike (lifetime_of c n) (suc b) (es n) (fs n)
    takes-alike b same n low l = ⊎_elim
        (λ (none : takes_along l (es n) ≡ []). ⊎_elim
        (λ (also : takes_along l (fs n) ≡ []). alike-none (lifetime_of c n) (suc b) l (es n) (fs n) none also)
        (λ lead. by_link lead.0 lead.1 lead.2)
        (none-or-from c.plan.params nodes n l (fs n) (two.come n low)))
        (λ lead. by_link lead.0 lead.1 lead.2)
        (none-or-from c.plan.params nodes n l (es n) (one.come n low))
      where
        by_link : (from : ℕ) → from < nodes → ends_of (links_of c.plan.params) l ≡ Some (from, n)
            → AreAlikeOn (lifetime_of c n) (suc b) l (es n) (fs n)
        by_link from low_from ends =
            alike-heard (lifetime_of c n) (suc b) l (es n) (fs n) (heard_by l from n (es from)) (heard_by l from n (fs from))
            (one.paced l from n low_from low ends) (two.paced l from n low_from low ends)
            (brings es one b l from n low_from
            ∙ ap (brought_by b l from n) (same from low_from)
            ∙ sym (brings fs two b l from n low_from))

    -- all nodes have the same events below each beat
    same-below : (b n : ℕ) → n < nodes → events_below b (es n) ≡ events_below b (fs n)
    same-below zero n low = nothing-below (es n) ∙ sym (nothing-below (fs n))
    same-below (suc b) n low =
        one-below note step (reading_of c n) (death_of c n) (cut_of c n) (back_of c n) (course.returns_later n) c.beats
        (suc b) Alive 0 (opening (first n) (lifetime_of c n)) (es n) (fs n) (one.all n low) (two.all n low)
        (takes-alike b (λ m h. same-below b m h) n low)

    -- so all their events are the same, since none lies past the run's beats
    pub all-same : (n : ℕ) → n < nodes → es n ≡ fs n
    all-same n low = sym (whole es one) ∙ same-below c.beats n low ∙ whole fs two
      where
        whole : (events : ℕ → List (NodeEvent M)) → HaveLived note step c nodes first events
            → events_below c.beats (events n) ≡ events n
        whole events lived = filter-all (λ e. nat_lt (stamp_at e).beat c.beats) (events n)
            (all-weaker (λ (e : NodeEvent M). (stamp_at e).beat < c.beats) (λ e. nat_lt (stamp_at e).beat c.beats ≡ true)
            (events n) (λ e h. grind (arith, nat_tests, h)) (lived.all n low).early)
