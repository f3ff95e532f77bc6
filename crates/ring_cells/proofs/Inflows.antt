-- An in-link in a beat: messages are received, and what arrives is taken out.
use Rattle.std.proofs.Common.{◌≡◌, ℕ, zero, suc, ◌+◌, ◌<◌, ◌≤◌, List, [], ◌∷◌, ◌++◌, map, filter, length, false, refl, ap, sym, ◌∙◌, subst, arith, append_assoc}
use Rattle.std.proofs.lemmas.List.{map-append}
use Rattle.std.proofs.lemmas.List.Elements.{filter-append}
use Rattle.std.specs.List.{AllByRecursion}
use Rattle.node_kit.specs.Life.{Lifetime, ends_in}
use Rattle.run_facts.specs.declared.mail.Flight.{Flight}
use Rattle.run_facts.specs.Accounts.{Rising, is_caught, arriving, waiting, event_at, HasCutIn}
use Rattle.run_facts.specs.Beats.{pass}
use Rattle.run_facts.specs.Events.{NodeEvent, takes_along, IsCutUpTo}
use Rattle.run_facts.specs.Paced.{Passage, AreGot, brought}
use Rattle.run_facts.proofs.Along.{takes-append}
use Rattle.run_facts.proofs.Beats.{under_way-waiting}
use Rattle.run_facts.proofs.Getting.{got-weaker}
use Rattle.run_facts.proofs.Links.{arriving-waiting, arriving-low, arriving-now, waiting-high, got-more}
use Rattle.run_facts.proofs.Rows.{all-append, all-filter, all-weaker, rising-right}
use Rattle.ring_links.specs.Ends.{LineId}
use Rattle.ring_links.specs.Flights.{AllFollow, IsOrdered, AllFrom}
use Rattle.ring_cells.specs.Flows.{Inflow, HasReceived, emptied}
use Rattle.ring_cells.specs.Kept.{IsInflow}

module _ {M : Type 0} where
  ordered-right : (xs ys : List (Flight M)) → IsOrdered (xs ++ ys) → IsOrdered ys
  ordered-right [] ys h = h
  ordered-right (x ∷ xs) ys h = ordered-right xs ys h.2

  later-arrivals : (p : Flight M) (ps : List (Flight M)) → AllFollow p ps → AllByRecursion (λ (f : Passage M). p.arrival ≤ f.arrival) (map pass ps)
  later-arrivals p [] h = tt
  later-arrivals p (q ∷ qs) h = (h.0.1, later-arrivals p qs h.1)

  -- arrivals rise
  pub arrivals-rise : (ps : List (Flight M)) → IsOrdered ps → Rising (λ (f : Passage M). f.arrival) (map pass ps)
  arrivals-rise [] h = tt
  arrivals-rise (p ∷ ps) h = (later-arrivals p ps h.1, arrivals-rise ps h.2)

  -- what was sent in an open beat arrives past it
  pub arrive-late : (closed next : ℕ) (ps : List (Flight M)) → next ≤ closed + 1 → AllFrom closed ps → IsOrdered ps → AllByRecursion (λ (f : Passage M). next ≤ f.arrival) (map pass ps)
  arrive-late closed next [] far from ordered = tt
  arrive-late closed next (p ∷ ps) far from ordered =
      let low = from.0 in
      let ahead = ordered.0 in
      (omega (arith, far, low, ahead), arrive-late closed next ps far from.1 ordered.2)

  pub behind-late : (closed next : ℕ) (xs ys : List (Flight M)) → next ≤ closed + 1 → AllFrom closed ys → IsOrdered (xs ++ ys) → AllByRecursion (λ (f : Passage M). next ≤ f.arrival) (map pass ys)
  behind-late closed next xs ys far from ordered = arrive-late closed next ys far from (ordered-right xs ys ordered)

module _ {M : Type 0} (line_of : ℕ → LineId) (life : Lifetime) where
  pub inflow-waits : (next : ℕ) (events : List (NodeEvent M)) (i j : Inflow M) → IsInflow line_of life next events i → HasReceived i j → IsInflow line_of life next events j
  inflow-waits next events i j h r =
      let more : List (Flight M) = r.more in
      let ordered : IsOrdered j.flights = r.in_order h.ordered in
      let whole : IsOrdered (i.flights ++ more) = subst IsOrdered r.all ordered in
      let far = h.far in
      let rises = r.rises in
      let waits : map pass j.waiting ≡ map pass i.waiting ++ map pass more = ap (map pass) r.waits ∙ map-append pass i.waiting more in
      record {
        its_line = r.same_line ∙ h.its_line ∙ ap (λ (l : _). line_of l.0) (sym r.same_link);
        ordered = ordered;
        gone = h.gone;
        split = ap (map pass) r.all ∙ map-append pass i.flights more ∙ ap (λ l. l ++ map pass more) h.split ∙ append_assoc h.gone (map pass i.waiting) (map pass more) ∙ ap (λ l. h.gone ++ l) (sym waits);
        got_is = subst (λ (l : _). AreGot life (HasCutIn l.0 events) (filter (is_caught life) h.gone) (takes_along l.0 events))
            (sym r.same_link) h.got_is;
        behind = h.behind;
        ahead = subst (AllByRecursion (λ (f : Passage M). next ≤ f.arrival)) (sym waits)
            (all-append (λ (f : Passage M). next ≤ f.arrival) (map pass i.waiting) (map pass more) h.ahead (behind-late i.closed next i.flights more far r.of_open whole));
        far = omega (arith, far, rises);
      }

  pub inflow-passes : (next : ℕ) (events es : List (NodeEvent M)) (i : Inflow M) → (h : IsInflow line_of life next events i) → next ≤ i.closed
      → AreGot life (HasCutIn i.link.0 (events ++ es)) (filter (is_caught life) (h.gone ++ arriving next (map pass i.waiting))) (takes_along i.link.0 (events ++ es))
      → IsInflow line_of life (next + 1) (events ++ es) (emptied next i)
  inflow-passes next events es i h closed got =
      let fs : List (Passage M) = map pass i.waiting in
      let parts = arriving-waiting next fs in
      record {
        its_line = h.its_line;
        ordered = h.ordered;
        gone = h.gone ++ arriving next fs;
        split = h.split ∙ ap (λ ps. h.gone ++ ps) parts ∙ sym (append_assoc h.gone (arriving next fs) (waiting next fs)) ∙ ap (λ ps. (h.gone ++ arriving next fs) ++ ps) (sym (under_way-waiting next i.waiting));
        got_is = got;
        behind = all-append (λ (f : Passage M). f.arrival < next + 1) h.gone (arriving next fs)
            (all-weaker (λ (f : Passage M). f.arrival < next) (λ (f : Passage M). f.arrival < next + 1) h.gone (λ f l. omega (arith, l)) h.behind) (arriving-low next fs);
        ahead = subst (AllByRecursion (λ (f : Passage M). next + 1 ≤ f.arrival)) (sym (under_way-waiting next i.waiting))
            (waiting-high next fs (rising-right (λ (f : Passage M). f.arrival) h.gone fs (subst (Rising (λ (f : Passage M). f.arrival)) h.split (arrivals-rise i.flights h.ordered))));
        far = omega (arith, closed);
      }
