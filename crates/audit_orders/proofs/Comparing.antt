-- A walk along the controller's journal that compares the starts that were sent with those that are wanted.
use Rattle.std.proofs.Common.{◌≡◌, ℕ, zero, suc, ◌+◌, ◌<◌, ◌≤◌, List, [], ◌∷◌, ◌++◌, map, length, take, drop, get_or, Option, Some, None, slice_get, refl, sym, ap, subst, ◌∙◌, append_assoc, append-nil, arith}
use Rattle.std.specs.Prelude.{slice_index_or}
use Rattle.std.specs.List.{AllByRecursion}
use Rattle.std.specs.List.Sorted.{IsNonDecreasingBy}
use Rattle.std.proofs.lemmas.List.{take_all, drop_more}
use Rattle.std.proofs.lemmas.Option.{slice_get_within}
use Rattle.slot_plan.specs.declared.params.Params.{Params}
use Rattle.node_kit.specs.declared.course.Order.{Order}
use Rattle.node_kit.specs.declared.journal.Entry.{Entry}
use Rattle.run_facts.specs.Timed.{AreRising}
use Rattle.audit_orders.specs.Commanding.{IsWrongStart, IsUnsent, AreSent}
use Rattle.audit_orders.specs.Starts.{wants_by, wanted_from, dated_of, sent_by, all_sent, IsNotNext, Meets, Leaves}
use Rattle.audit_orders.specs.declared.starts.Meeting.{Meeting}
use Rattle.audit_orders.specs.declared.starts.Meeting.TheVariants as meeting
use Rattle.audit_orders.specs.declared.starts.Wanted.{Wanted}
use Rattle.audit_orders.proofs.Walks.{one_more}
use Rattle.audit_orders.proofs.Starting.{next_met, other_met, surplus, all_met, lacking, behind_beat, nothing_behind}

-- a turn of the loop that lists what is wanted, and its end
pub wanted_next : (p : Params) (beats j : ℕ) (orders : List Order) (d : Order) (old new all : List Wanted) → j < length orders
    → new ≡ old ++ wants_by p beats j (get_or orders j d).beat (get_or orders j d).what
    → old ++ wanted_from p beats j (drop j orders) ≡ all → new ++ wanted_from p beats (j + 1) (drop (j + 1) orders) ≡ all
wanted_next p beats j orders d old new all low pushed before =
    let o = get_or orders j d in
    let here = wants_by p beats j o.beat o.what in
    let rest = wanted_from p beats (j + 1) (drop (j + 1) orders) in
    ap (λ (q : List Wanted). q ++ rest) pushed ∙ append_assoc old here rest
    ∙ ap (λ (q : List Order). old ++ wanted_from p beats j q) (sym (drop_more orders j d low)) ∙ before

pub wanted_end : (p : Params) (beats j : ℕ) (orders : List Order) (old all : List Wanted) → length orders ≤ j
    → old ++ wanted_from p beats j (drop j orders) ≡ all → old ≡ all
wanted_end p beats j orders old all over before =
    sym (append-nil old) ∙ ap (λ (q : List Order). old ++ wanted_from p beats j q) (sym (drop_all j orders over)) ∙ before
  where
    drop_all : (k : ℕ) (xs : List Order) → length xs ≤ k → drop k xs ≡ []
    drop_all zero [] h = refl
    drop_all zero (x ∷ xs) h = absurd (omega (arith, h))
    drop_all (suc k) [] h = refl
    drop_all (suc k) (x ∷ xs) h = drop_all k xs (omega (arith, h))

-- a turn of the walk
pub still_met : (p : Params) (wanted : List Wanted) (next i : ℕ) (journal : List Entry) (e : Entry) (m : Meeting) → i < length journal
    → ((d : Entry) → slice_index_or journal i d ≡ e) → all_sent p (take i journal) ≡ map dated_of (take next wanted)
    → Meets wanted next e.stamp.beat (sent_by p e.stamp.beat e.what) m → m ≡ meeting.Other
    → all_sent p (take (i + 1) journal) ≡ map dated_of (take next wanted)
still_met p wanted next i journal e m low at met meets is =
    ap (all_sent p) (one_more journal i e low at)
    ∙ other_met p wanted next (take i journal) e (subst (Meets wanted next e.stamp.beat (sent_by p e.stamp.beat e.what)) is meets) met

pub met_more : (p : Params) (wanted : List Wanted) (next i : ℕ) (journal : List Entry) (e : Entry) (m : Meeting) → i < length journal
    → ((d : Entry) → slice_index_or journal i d ≡ e) → all_sent p (take i journal) ≡ map dated_of (take next wanted)
    → Meets wanted next e.stamp.beat (sent_by p e.stamp.beat e.what) m → m ≡ meeting.Next
    → (all_sent p (take (i + 1) journal) ≡ map dated_of (take (next + 1) wanted)) × (next + 1 ≤ length wanted)
met_more p wanted next i journal e m low at met meets is =
    let f = subst (Meets wanted next e.stamp.beat (sent_by p e.stamp.beat e.what)) is meets in
    let inside = slice_get_within wanted next f.0 f.1 in (
      ap (all_sent p) (one_more journal i e low at) ∙ next_met p wanted next (take i journal) e f.0 f.1 f.2 met,
      omega (arith, inside),
    )

-- and where it stops
pub surplus_here : (p : Params) (wanted : List Wanted) (next i : ℕ) (journal : List Entry) (e : Entry) (m : Meeting) → AreRising journal → i < length journal
    → ((d : Entry) → slice_index_or journal i d ≡ e) → all_sent p (take i journal) ≡ map dated_of (take next wanted)
    → Meets wanted next e.stamp.beat (sent_by p e.stamp.beat e.what) m → m ≡ meeting.Surplus
    → (beats : ℕ) (orders : List Order) → wanted ≡ wanted_from p beats 0 orders → IsNonDecreasingBy (λ (o : Order). o.beat) orders
    → IsWrongStart p beats orders journal i
surplus_here p wanted next i journal e m rising low at met meets is beats orders all rises =
    let f = subst (Meets wanted next e.stamp.beat (sent_by p e.stamp.beat e.what)) is meets in
    surplus p beats orders next i journal e f.0 rises rising low at (one_more journal i e low at)
    (subst (λ (ws : List Wanted). all_sent p (take i journal) ≡ map dated_of (take next ws)) all met) f.1
    (subst (λ (ws : List Wanted). IsNotNext f.0 (drop next ws)) all f.2)

-- the place of the order of a start that is wanted
lacking_here : (p : Params) (wanted : List Wanted) (next i j : ℕ) (journal : List Entry) (w : Wanted) → slice_get wanted next ≡ Some w
    → w.order ≡ j → all_sent p (take i journal) ≡ map dated_of (take next wanted)
    → AllByRecursion (λ (e : Entry). w.beat < e.stamp.beat) (drop i journal)
    → (beats : ℕ) (orders : List Order) → wanted ≡ wanted_from p beats 0 orders → IsNonDecreasingBy (λ (o : Order). o.beat) orders
    → IsUnsent p beats orders journal j
lacking_here p wanted next i j journal w at is met later beats orders all rises =
    subst (λ (k : ℕ). IsUnsent p beats orders journal k) is
    (lacking p beats orders next i journal w rises (subst (λ (ws : List Wanted). slice_get ws next ≡ Some w) all at)
    (subst (λ (ws : List Wanted). all_sent p (take i journal) ≡ map dated_of (take next ws)) all met) later)

pub late_here : (p : Params) (wanted : List Wanted) (next i j : ℕ) (journal : List Entry) (e : Entry) (m : Meeting) → AreRising journal
    → i < length journal → ((d : Entry) → slice_index_or journal i d ≡ e) → all_sent p (take i journal) ≡ map dated_of (take next wanted)
    → Meets wanted next e.stamp.beat (sent_by p e.stamp.beat e.what) m → m ≡ meeting.Late j
    → (beats : ℕ) (orders : List Order) → wanted ≡ wanted_from p beats 0 orders → IsNonDecreasingBy (λ (o : Order). o.beat) orders
    → IsUnsent p beats orders journal j
late_here p wanted next i j journal e m rising low at met meets is beats orders all rises =
    let f = subst (Meets wanted next e.stamp.beat (sent_by p e.stamp.beat e.what)) is meets in
    lacking_here p wanted next i j journal f.0 f.1 f.2 met (behind_beat journal i e f.0.beat rising low at f.3) beats orders all rises

pub end_here : (p : Params) (wanted : List Wanted) (next i : ℕ) (journal : List Entry) (answer : Option ℕ) → length journal ≤ i
    → all_sent p (take i journal) ≡ map dated_of (take next wanted) → Leaves wanted next answer → (j : ℕ) → answer ≡ Some j
    → (beats : ℕ) (orders : List Order) → wanted ≡ wanted_from p beats 0 orders → IsNonDecreasingBy (λ (o : Order). o.beat) orders
    → IsUnsent p beats orders journal j
end_here p wanted next i journal answer over met leaves j is beats orders all rises =
    let f = subst (Leaves wanted next) is leaves in
    lacking_here p wanted next i j journal f.0 f.1 f.2 met (nothing_behind journal i f.0.beat over) beats orders all rises

pub all_here : (p : Params) (wanted : List Wanted) (next i : ℕ) (journal : List Entry) (answer : Option ℕ) → length journal ≤ i
    → all_sent p (take i journal) ≡ map dated_of (take next wanted) → Leaves wanted next answer → answer ≡ None
    → (beats : ℕ) (orders : List Order) → wanted ≡ wanted_from p beats 0 orders → AreSent p beats orders journal
all_here p wanted next i journal answer over met leaves is beats orders all =
    let f = subst (Leaves wanted next) is leaves in
    all_met p beats orders next journal (subst (λ (ws : List Wanted). length ws ≤ next) all f)
    (subst (λ (ws : List Wanted). all_sent p journal ≡ map dated_of (take next ws)) all
    (ap (all_sent p) (sym (take_all i journal over)) ∙ met))
