-- Journals follow the orders if the controller's does and no other has a stop.
use Rattle.std.proofs.Common.{◌≡◌, ℕ, ◌+◌, ◌<◌, ◌≤◌, Bool, true, false, ◌||◌, List, [], ◌∷◌, length, take, get_or, Option, Some, None, slice_get, MatchOption, refl, sym, ap, subst, ◌∙◌, ⊎_elim, arith}
use Rattle.std.specs.Prelude.{◌≢◌, slice_index_or}
use Rattle.std.specs.List.{list_any}
use Rattle.std.proofs.lemmas.Bool.{cases_eq}
use Rattle.std.proofs.lemmas.List.{take_all}
use Rattle.std.proofs.lemmas.List.Folds.{list_any-append}
use Rattle.std.proofs.lemmas.Option.{slice_get-get_or, slice_get_within}
use Rattle.slot_plan.specs.declared.params.Params.{Params}
use Rattle.node_kit.specs.declared.course.Kept.{Kept}
use Rattle.node_kit.specs.declared.course.Order.{Order}
use Rattle.node_kit.specs.declared.journal.Entry.{Entry}
use Rattle.node_kit.specs.Links.{links_of, controller_of}
use Rattle.run_facts.specs.Commanded.{is_gone, StopsNone, IsCommanded}
use Rattle.audit_orders.specs.Earliest.{IsFirstEntry, IsFirstInRow}
use Rattle.audit_orders.specs.Commanding.{IsGoneAt, IsForeignStop, OthersStopNone, AreSent, DecidesStops, DecidesController, DecidesCommanded, clock_of}
use Rattle.audit_orders.specs.declared.commanding.Uncommanded.{Uncommanded}
use Rattle.audit_orders.specs.declared.commanding.Uncommanded.TheVariants as un
use Rattle.audit_orders.proofs.Denying.{gone_denies}
use Rattle.audit_orders.proofs.Earliest.{in_front, none_earlier, one_journal}
use Rattle.audit_orders.proofs.Walks.{one_more}

-- ---- the stops of one journal

gone_there : (journal : List Entry) (i : ℕ) (e : Entry) → i < length journal → ((d : Entry) → slice_index_or journal i d ≡ e)
    → is_gone e.what ≡ true → IsGoneAt journal i
gone_there journal i e low is gone = (e, slice_get-get_or journal i e low ∙ ap (λ (x : Entry). Some x) (is e), gone)

pub first_gone_there : (journal : List Entry) (i : ℕ) (e : Entry) → i < length journal → ((d : Entry) → slice_index_or journal i d ≡ e)
    → is_gone e.what ≡ true → StopsNone (take i journal) → IsFirstInRow (IsGoneAt journal) i
first_gone_there journal i e low is gone none = record {
  here = gone_there journal i e low is gone;
  none_before = λ j above h. gone_denies (take i journal) j (h.0, in_front journal i j h.0 above h.1, h.2) none;
}

pub none_gone_more : (journal : List Entry) (i : ℕ) (e : Entry) → i < length journal → ((d : Entry) → slice_index_or journal i d ≡ e)
    → is_gone e.what ≡ false → StopsNone (take i journal) → StopsNone (take (i + 1) journal)
none_gone_more journal i e low is not before =
    ap (list_any (λ (x : Entry). is_gone x.what)) (one_more journal i e low is)
    ∙ list_any-append (λ (x : Entry). is_gone x.what) (take i journal) (e ∷ [])
    ∙ ap (λ (b : Bool). b || (is_gone e.what || false)) before
    ∙ ap (λ (b : Bool). b || false) not

pub none_gone : (journal : List Entry) (i : ℕ) → length journal ≤ i → StopsNone (take i journal) → StopsNone journal
none_gone journal i over h = ap (list_any (λ (x : Entry). is_gone x.what)) (sym (take_all i journal over)) ∙ h

-- ---- of all journals

-- of the journals so far those of other nodes stop none
abbrev pub OthersSoFar : ℕ → ℕ → List (List Entry) → Type 0
OthersSoFar controller n journals =
    (m : ℕ) (journal : List Entry) → m < n → m ≢ controller → slice_get journals m ≡ Some journal → StopsNone journal

journal_at : (journals : List (List Entry)) (n : ℕ) (journal : List Entry) → n < length journals → journal ≡ get_or journals n journal
    → slice_get journals n ≡ Some journal
journal_at journals n journal low is = rw (slice_get-get_or journals n journal low, ← is) refl

pub others_more : (controller n : ℕ) (journals : List (List Entry)) (journal : List Entry) → n < length journals
    → journal ≡ get_or journals n journal → (n ≢ controller → StopsNone journal) → OthersSoFar controller n journals
    → OthersSoFar controller (n + 1) journals
others_more controller n journals journal low is here lower m other below ne at = ⊎_elim
    (λ (e : m ≡ n).
    let there : Some journal ≡ Some other = sym (journal_at journals n journal low is) ∙ subst (λ (k : ℕ). slice_get journals k ≡ Some other) e at in
    let same : journal ≡ other = cc in
    subst StopsNone same (here (subst (λ (k : ℕ). k ≢ controller) e ne)))
    (λ (other_one : m ≡ n → ⊥). lower m other (omega (arith, below, other_one)) ne at)
    (cases_eq m n)

pub all_others : (controller n : ℕ) (journals : List (List Entry)) → length journals ≤ n → OthersSoFar controller n journals
    → OthersStopNone controller journals
all_others controller n journals over lower m journal ne at =
    let low = slice_get_within journals m journal at in
    lower m journal (omega (arith, over, low)) ne at

pub foreign_found : (controller n i : ℕ) (journals : List (List Entry)) (journal : List Entry) → n < length journals
    → journal ≡ get_or journals n journal → n ≢ controller → IsFirstInRow (IsGoneAt journal) i → OthersSoFar controller n journals
    → IsFirstEntry (IsForeignStop controller journals) n i
foreign_found controller n i journals journal low is ne first lower =
    let at = journal_at journals n journal low is in
    record {
      here = record { other = ne; journal = journal; here = at; gone = first.here };
      none_before = none_earlier (IsForeignStop controller journals) n i
          (λ m j below h. gone_denies h.journal j h.gone (lower m h.journal below h.other h.here))
          (λ j above h.
          let one = one_journal journals n h.journal journal h.here at in
          first.none_before j above (subst (λ (q : List Entry). IsGoneAt q j) one h.gone));
    }

-- what is said of a journal is said of one of another node
pub other_says : (n controller : ℕ) (journal : List Entry) (answer : Option ℕ) → (n ≡ controller → ⊥)
    → MatchOption answer (StopsNone journal) (IsFirstInRow (IsGoneAt journal))
    → MatchOption answer (n ≢ controller → StopsNone journal) (λ i. (n ≢ controller) × IsFirstInRow (IsGoneAt journal) i)
other_says n controller journal None ne h = λ other. h
other_says n controller journal (Some i) ne h = (ne, h)

-- ---- the controller's journal

pub orders_decide : (p : Params) (beats : ℕ) (reading : ℕ → ℕ) (orders : List Order) (journal : List Entry) (answer : Option Uncommanded)
    → AreSent p beats orders journal → DecidesStops p beats reading orders journal answer → DecidesController p beats reading orders journal answer
orders_decide p beats reading orders journal None sent h = record { starts = sent; stops = h.stops; once = h.once }
orders_decide p beats reading orders journal (Some (un.Foreign node i)) sent h = absurd h
orders_decide p beats reading orders journal (Some (un.Start i)) sent h = absurd h
orders_decide p beats reading orders journal (Some (un.Unsent j)) sent h = absurd h
orders_decide p beats reading orders journal (Some (un.Stop i)) sent h = (sent, h)
orders_decide p beats reading orders journal (Some (un.Unstopped j)) sent h = (sent, h)

-- ---- and all

pub controller_decides : (k : Kept) (controller : ℕ) (journal : List Entry) (answer : Option Uncommanded)
    → controller ≡ controller_of (links_of k.course.plan.params) → slice_get k.journals controller ≡ Some journal
    → OthersStopNone controller k.journals
    → DecidesController k.course.plan.params k.course.beats (clock_of k.course) k.orders journal answer → DecidesCommanded k answer
controller_decides k controller journal answer is at others h = by answer h
    (subst (λ (n : ℕ). slice_get k.journals n ≡ Some journal) is at) (subst (λ (n : ℕ). OthersStopNone n k.journals) is others)
  where
    by : (found : Option Uncommanded) → DecidesController k.course.plan.params k.course.beats (clock_of k.course) k.orders journal found
        → slice_get k.journals (controller_of (links_of k.course.plan.params)) ≡ Some journal
        → OthersStopNone (controller_of (links_of k.course.plan.params)) k.journals → DecidesCommanded k found
    by None follows there none = record {
      controller = λ other at_it.
          let both : Some journal ≡ Some other = sym there ∙ at_it in
          let same : journal ≡ other = cc in
          subst (IsCommanded k.course.plan.params k.course.beats (clock_of k.course) k.orders) same follows;
      others = λ n other ne at_it. none n other ne at_it;
    }
    by (Some (un.Foreign node i)) follows there none = absurd follows
    by (Some (un.Start i)) follows there none = (none, journal, there, follows)
    by (Some (un.Unsent j)) follows there none = (none, journal, there, follows)
    by (Some (un.Stop i)) follows there none = (none, journal, there, follows)
    by (Some (un.Unstopped j)) follows there none = (none, journal, there, follows)

pub no_controller : (k : Kept) (controller : ℕ) → controller ≡ controller_of (links_of k.course.plan.params)
    → slice_get k.journals controller ≡ None → OthersStopNone controller k.journals → DecidesCommanded k None
no_controller k controller is none others = record {
  controller = λ other there.
      let both : None ≡ Some other = sym none ∙ subst (λ (n : ℕ). slice_get k.journals n ≡ Some other) (sym is) there in
      absurd (cc);
  others = λ n other ne there. others n other (λ same. ne (same ∙ is)) there;
}
