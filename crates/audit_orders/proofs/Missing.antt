-- The entry or the order at which stops are not right is the first such one.
use Rattle.std.proofs.Common.{◌≡◌, ℕ, zero, suc, ◌<◌, ◌≤◌, Bool, true, false, not, ◌&&◌, ◌||◌, nat_lt, List, [], ◌∷◌, length, take, drop, Option, Some, None, slice_get, refl, sym, ap, subst, ◌∙◌, ⊎_elim, arith}
use Rattle.std.specs.Prelude.{◌==◌}
use Rattle.std.specs.List.{AllByRecursion, list_any}
use Rattle.std.proofs.lemmas.Bool.{eqb-true, eq-eqb, ltb-true, lt-ltb, leb-true, false≢true, both_ways}
use Rattle.std.proofs.lemmas.List.{take-append-drop, take-take, take_all}
use Rattle.std.proofs.lemmas.List.Folds.{list_any-append}
use Rattle.std.proofs.lemmas.Option.{slice_get_within}
use Rattle.node_kit.specs.declared.course.Course.{Course}
use Rattle.node_kit.specs.declared.course.Order.{Order}
use Rattle.node_kit.specs.declared.journal.Entry.{Entry}
use Rattle.run_facts.specs.Commanded.{is_gone_of, gone_before, is_finish_of, stop_ordered, place_known, is_over}
use Rattle.run_facts.specs.Timed.{AreRising, IsNotBelow}
use Rattle.audit_frame.specs.Tables.{MarkNumbers, mark_under}
use Rattle.audit_orders.specs.Commanding.{IsWrongStop, IsStopMissing, IsFirstUnstopped, takes_effect, clock_of}
use Rattle.audit_orders.specs.Stops.{KnownPlaces, TellsPlaces, TellsFinishes, is_mark, is_marked_before, is_marked_by, TellsGone, NoneIsMissed}
use Rattle.audit_orders.proofs.Denying.{stops_it, two_of}
use Rattle.audit_orders.proofs.Earliest.{in_front}
use Rattle.audit_orders.proofs.Stopping.{AnswersMissed, AreInTime, all_true, is_ordered, marked_by, may_is, missed_here, over_is, true_parts}

-- ---- what stands behind an entry

from_on : (i : ℕ) (e : Entry) (es : List Entry) → AllByRecursion (IsNotBelow e) es
    → AllByRecursion (λ (f : Entry). e.stamp.beat ≤ f.stamp.beat) (drop i es)
from_on zero e [] h = tt
from_on zero e (f ∷ fs) h = (h.0.beat, from_on zero e fs h.1)
from_on (suc i) e [] h = tt
from_on (suc i) e (f ∷ fs) h = from_on i e fs h.1

not_below : (journal : List Entry) (i j : ℕ) (e : Entry) → AreRising journal → slice_get journal j ≡ Some e → j < i
    → AllByRecursion (λ (f : Entry). e.stamp.beat ≤ f.stamp.beat) (drop i journal)
not_below [] i j e rises at low = absurd (cc)
not_below (x ∷ xs) zero j e rises at low = absurd (omega (arith, low))
not_below (x ∷ xs) (suc i) zero e rises at low =
    let same : x ≡ e = cc in
    from_on i e xs (subst (λ (y : Entry). AllByRecursion (IsNotBelow y) xs) same rises.0)
not_below (x ∷ xs) (suc i) (suc j) e rises at low = not_below xs i j e rises.1 at (omega (arith, low))

not_less : (x b : ℕ) → b ≤ x → nat_lt x b ≡ false
not_less x b le = by (nat_lt x b) refl
  where
    by : (t : Bool) → nat_lt x b ≡ t → t ≡ false
    by true e = let low = ltb-true x b e in absurd (omega (arith, le, low))
    by false e = refl

none_gone_before : (v b : ℕ) (es : List Entry) → AllByRecursion (λ (f : Entry). b ≤ f.stamp.beat) es → gone_before es v b ≡ false
unfolding gone_before
none_gone_before v b [] h = refl
none_gone_before v b (e ∷ es) h =
    ap (λ (t : Bool). (t && is_gone_of v e.what) || gone_before es v b) (not_less e.stamp.beat b h.0) ∙ none_gone_before v b es h.1

-- who stops before a beat does so before a place, if all from there on is not below the beat
before_place : (v b i : ℕ) (journal : List Entry) → AllByRecursion (λ (f : Entry). b ≤ f.stamp.beat) (drop i journal)
    → gone_before (take i journal) v b ≡ false → gone_before journal v b ≡ false
unfolding gone_before
before_place v b i journal later none =
    ap (list_any (λ (x : Entry). nat_lt x.stamp.beat b && is_gone_of v x.what)) (sym (take-append-drop i journal))
    ∙ list_any-append (λ (x : Entry). nat_lt x.stamp.beat b && is_gone_of v x.what) (take i journal) (drop i journal)
    ∙ ap (λ (t : Bool). t || gone_before (drop i journal) v b) none
    ∙ none_gone_before v b (drop i journal) later

-- ---- entries

mark_of : (b : ℕ) (mark : Option ℕ) → is_mark b mark ≡ true → mark ≡ Some b
mark_of b None e = absurd (false≢true e)
mark_of b (Some x) e = ap (λ (n : ℕ). Some n) (eqb-true x b e)

-- of the entries up to a place, each of which passed its test, none stops an instance wrongly
pub none_wrong : (c : Course) (finishes : List (ℕ × ℕ)) (places : KnownPlaces) (gone : MarkNumbers) (orders : List Order)
    (journal : List Entry) (i : ℕ) → TellsFinishes finishes orders → TellsPlaces c.plan.params places journal → AreRising journal
    → TellsGone gone (take i journal) → AreInTime c finishes places gone
    → (j : ℕ) → j < i → IsWrongStop c.plan.params c.beats (clock_of c) orders journal j → ⊥
none_wrong c finishes places gone orders journal i tells known rises written right j low h =
    let v = h.v.0 in
    let b = h.entry.stamp.beat in
    let front = take i journal in
    let at = in_front journal i j h.entry low h.here in
    let mark = mark_of b (mark_under v gone) (sym ((written v).in_beat b) ∙ stops_it front j h.entry h.v at h.gone) in
    let over = is_over c.plan.params (clock_of c b) (place_known c.plan.params journal v b) in
    let may = sym (may_is c finishes places orders journal v b tells known rises) ∙ right v b mark in
    let parts = may_parts (nat_lt b c.beats) (stop_ordered orders v b) over may in
    let before = before_place v b i journal (not_below journal i j h.entry rises h.here low)
    ((written v).before b ∙ ap (is_marked_before b) mark ∙ not_less b b (omega arith)) in
    ⊎_elim
    (λ (none : takes_effect c.plan.params c.beats (clock_of c) orders journal v b ≡ false).
    both_ways (takes_effect c.plan.params c.beats (clock_of c) orders journal v b) none
    (all_true (nat_lt b c.beats) (stop_ordered orders v b) (gone_before journal v b) over parts.0 parts.1 before parts.2))
    (λ (again : list_any (λ (e : Entry). is_gone_of v e.what) (take j journal) ≡ true).
    let two = two_of (λ (e : Entry). is_gone_of v e.what) front j h.entry at (ap (is_gone_of v) h.gone ∙ eq-eqb v v refl)
    (ap (list_any (λ (e : Entry). is_gone_of v e.what)) (take-take j i journal (omega (arith, low))) ∙ again) in
    let once = (written v).count ∙ ap count_of mark in
    omega (arith, two, once))
    h.wrong
  where
    count_of : Option ℕ → ℕ
    count_of None = 0
    count_of (Some x) = 1

    may_parts : (x a o : Bool) → (x && (a && not o)) ≡ true → (x ≡ true) × (a ≡ true) × (o ≡ false)
    may_parts true true false e = (refl, refl, refl)
    may_parts true true true e = absurd (false≢true e)
    may_parts true false o e = absurd (false≢true e)
    may_parts false a o e = absurd (false≢true e)

-- ---- orders

no_mark : (b : ℕ) (mark : Option ℕ) → is_marked_by b mark ≡ true → is_marked_before b mark ≡ false → is_mark b mark ≡ false → ⊥
no_mark b None e f g = false≢true e
no_mark b (Some y) e f g =
    below (λ (low : y < b). both_ways (nat_lt y b) f (lt-ltb y b low)) (λ (same : y ≡ b). both_ways (y == b) g (eq-eqb y b same))
    (leb-true y b e)
  where
    below : (y < b → ⊥) → (y ≡ b → ⊥) → y ≤ b → ⊥
    below n m le = omega (arith, n, m, le)

-- of the orders below one, none of which has a stop that is missed, no stop is missing
pub none_missing : (c : Course) (places : KnownPlaces) (gone : MarkNumbers) (orders : List Order) (journal : List Entry) (j : ℕ)
    → TellsPlaces c.plan.params places journal → AreRising journal → TellsGone gone journal → NoneIsMissed c places gone (take j orders)
    → (k : ℕ) → k < j → IsStopMissing c.plan.params c.beats (clock_of c) orders journal k → ⊥
none_missing c places gone orders journal j known rises written none k low h =
    let v = h.v.0 in
    let b = h.order.beat in
    let at = in_front orders j k h.order low h.here in
    let ordered = is_ordered (take j orders) k v h.order at (ap (is_finish_of v) h.finish ∙ eq-eqb v v refl) in
    let x = nat_lt b c.beats in
    let over = is_over c.plan.params (clock_of c b) (place_known c.plan.params journal v b) in
    let marked = is_marked_by b (mark_under v gone) in
    let parts = true_parts x (stop_ordered orders v b) (gone_before journal v b) over h.effective in
    let by_now = marked_by x over marked parts.0 parts.3
    (ap (λ (t : Bool). x && (not t && not marked)) (sym (over_is c places journal v b known rises)) ∙ none v b ordered) in
    no_mark b (mark_under v gone) by_now (sym ((written v).before b) ∙ parts.2) (sym ((written v).in_beat b) ∙ h.missing)

-- what the look at the orders finds, behind a walk that found no entry
pub missed_found : (c : Course) (finishes : List (ℕ × ℕ)) (places : KnownPlaces) (gone : MarkNumbers) (orders : List Order)
    (journal : List Entry) (i : ℕ) (answer : Option ℕ) → TellsFinishes finishes orders → TellsPlaces c.plan.params places journal
    → AreRising journal → length journal ≤ i → TellsGone gone (take i journal) → AreInTime c finishes places gone
    → AnswersMissed c places gone orders answer → (j : ℕ) → answer ≡ Some j
    → IsFirstUnstopped c.plan.params c.beats (clock_of c) orders journal j
missed_found c finishes places gone orders journal i answer tells known rises over written right says j is =
    let f = subst (AnswersMissed c places gone orders) is says in
    let all = subst (λ (q : List Entry). TellsGone gone q) (take_all i journal over) written in
    record {
      none_wrong = λ k h.
          let low = slice_get_within journal k h.entry h.here in
          none_wrong c finishes places gone orders journal i tells known rises written right k (omega (arith, low, over)) h;
      first = record {
        here = missed_here c places gone orders journal j f.0 known rises all f.1 f.2;
        none_before = none_missing c places gone orders journal j known rises all f.3;
      };
    }
