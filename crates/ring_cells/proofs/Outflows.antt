-- An out-link in a beat: messages are sent on it, and then the beat is over.
use Rattle.std.proofs.Common.{◌≡◌, ℕ, ◌+◌, ◌≤◌, List, [], ◌∷◌, ◌++◌, map, refl, ap, sym, ◌∙◌, subst, arith, append_assoc, append-nil}
use Rattle.std.specs.List.{AllByRecursion}
use Rattle.std.proofs.lemmas.List.{map-append}
use Rattle.tiger_base.specs.Limits.{most_beats}
use Rattle.tiger_base.specs.declared.number.LinkNo.{LinkNo}
use Rattle.tiger_base.specs.declared.message.Note.{Note}
use Rattle.link_timing.specs.Clock.{Clock, new_clock, arrival_at}
use Rattle.node_kit.specs.declared.course.Course.{Course}
use Rattle.node_kit.specs.Life.{Lifetime, lifetime_of}
use Rattle.node_kit.specs.Steps.{Input, Deed}
use Rattle.run_facts.specs.declared.mail.Flight.{Flight}
use Rattle.run_facts.specs.Accounts.{OnLink}
use Rattle.run_facts.specs.Beats.{pass, opening_of}
use Rattle.run_facts.specs.Events.{NodeEvent, Past, Dated, after_all, sends_along}
use Rattle.run_facts.proofs.Along.{sends-append}
use Rattle.run_facts.proofs.Links.{link-sends}
use Rattle.ring_links.specs.Ends.{LineId}
use Rattle.ring_cells.specs.Flows.{Outflow, sent_through, done}
use Rattle.ring_cells.specs.Kept.{IsOutflow}

module _ {M : Type 0} where
  -- several messages are sent
  abbrev pub sent_all : List (Dated M) → Outflow M → Outflow M
  sent_all [] o = o
  sent_all (d ∷ ds) o = sent_all ds (sent_through d.beat d.item o)

  pub sent_all-link : (ds : List (Dated M)) (o : Outflow M) → (sent_all ds o).link ≡ o.link
  sent_all-link [] o = refl
  sent_all-link (d ∷ ds) o = sent_all-link ds (sent_through d.beat d.item o)

  sent_all-line : (ds : List (Dated M)) (o : Outflow M) → (sent_all ds o).line ≡ o.line
  sent_all-line [] o = refl
  sent_all-line (d ∷ ds) o = sent_all-line ds (sent_through d.beat d.item o)

  -- the account of a link along what is sent
  sends-kept : (life : Lifetime) (most : ℕ) (start : Clock) (sent : List (Dated M)) (o : Outflow M) (beat : ℕ) (ds : List (Dated M)) → AllByRecursion (λ (d : Dated M). d.beat ≡ beat) ds
      → o.clock.last_send ≤ beat → beat ≤ most_beats → OnLink life ⊥ most start sent [] o.clock (map pass o.flights) 0
      → OnLink life ⊥ most start (sent ++ ds) [] (sent_all ds o).clock (map pass (sent_all ds o).flights) 0 × ((sent_all ds o).clock.last_send ≤ beat)
  sends-kept life most start sent o beat [] dated low early on =
      (subst (λ ss. OnLink life ⊥ most start ss [] o.clock (map pass o.flights) 0) (sym (append-nil sent)) on, low)
  sends-kept life most start sent o beat (d ∷ ds) dated low early on =
      let now = dated.0 in
      let next : Outflow M = sent_through d.beat d.item o in
      let flight : Flight M = record { sent = d.beat; arrival = arrival_at o.clock d.beat; msg = d.item } in
      let sends = link-sends life ⊥ most start sent [] o.clock (map pass o.flights) 0 d.beat d.item (omega (arith, now, low)) (omega (arith, now, early)) (omega arith) on in
      let again : OnLink life ⊥ most start (sent ++ d ∷ []) [] next.clock (map pass next.flights) 0 =
      subst (λ fs. OnLink life ⊥ most start (sent ++ d ∷ []) [] next.clock fs 0) (sym (map-append pass o.flights (flight ∷ []))) sends in
      let rest = sends-kept life most start (sent ++ d ∷ []) next beat ds dated.1 (omega (arith, now)) early again in
      (subst (λ ss. OnLink life ⊥ most start ss [] (sent_all ds next).clock (map pass (sent_all ds next).flights) 0) (append_assoc sent (d ∷ []) ds) rest.0, rest.1)

  pub outflow-passes : {S : Type 0} (line_of : ℕ → LineId) (note : M → Note) (step : S → Input M → Deed M S) (c : Course) (n : ℕ) (first : S) (next : ℕ) (events es : List (NodeEvent M)) (past : Past S) (o : Outflow M)
      → past ≡ after_all note step events (opening_of c n first) → next ≤ most_beats → AllByRecursion (λ (d : Dated M). d.beat ≡ next) (sends_along note step o.link.0 es past)
      → IsOutflow line_of note step c n first next events o → IsOutflow line_of note step c n first (next + 1) (events ++ es) (done next (sent_all (sends_along note step o.link.0 es past) o))
  outflow-passes {S} line_of note step c n first next events es past o here early dated h =
      let life = lifetime_of c n in
      let most = c.plan.params.delay in
      let opening : Past S = opening_of c n first in
      let ds = sends_along note step o.link.0 es past in
      let new : Outflow M = sent_all ds o in
      let start = new_clock o.link.0 c.delay most in
      let old = sends_along note step o.link.0 events opening in
      let link : new.link ≡ o.link = sent_all-link ds o in
      let kept = sends-kept life most start old o next ds dated h.calm early h.account in
      let calm = kept.1 in
      let all : old ++ ds ≡ sends_along note step o.link.0 (events ++ es) opening =
      ap (λ (q : Past S). old ++ sends_along note step o.link.0 es q) here ∙ sym (sends-append note step o.link.0 events es opening) in
      let account : OnLink life ⊥ most start (sends_along note step o.link.0 (events ++ es) opening) [] new.clock (map pass new.flights) 0 =
      subst (λ q. OnLink life ⊥ most start q [] new.clock (map pass new.flights) 0) all kept.0 in
      record {
        its_line = sent_all-line ds o ∙ h.its_line ∙ ap (λ (l : LinkNo). line_of l.0) (sym link);
        its_closed = refl;
        calm = omega (arith, calm);
        account = subst (λ (l : LinkNo). OnLink life ⊥ most (new_clock l.0 c.delay most) (sends_along note step l.0 (events ++ es) opening) [] new.clock (map pass new.flights) 0) (sym link) account;
      }
