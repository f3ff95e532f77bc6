-- What holds of runs in which nothing or one Put is written, or two entries, and each of which breaks some promise.
use Rattle.std.proofs.Common.{◌≡◌, ◌≢◌, ℕ, zero, suc, ◌+◌, ◌<◌, Bool, true, false, List, [], ◌∷◌, Option, Some, None, refl, sym, ap, subst, ◌∙◌, arith, ⊎_elim, inl, inr}
use Rattle.std.specs.List.{flat_map}
use Rattle.std.proofs.lemmas.Bool.{false≢true}
use Rattle.tiger_base.specs.declared.tenancy.Tenancy.{Tenancy}
use Rattle.slot_plan.specs.Conditions.{IsPlan}
use Rattle.slot_plan.specs.Samples.{small}
use Rattle.node_kit.specs.declared.course.Kept.{Kept}
use Rattle.node_kit.specs.declared.course.Order.{Order}
use Rattle.node_kit.specs.declared.course.ReadFault.{ReadFault}
use Rattle.node_kit.specs.declared.journal.Entry.{Entry}
use Rattle.node_kit.specs.declared.journal.What.TheVariants as what
use Rattle.node_kit.specs.Life.{lifetime_of}
use Rattle.run_facts.specs.Order.{Noted, journal_of, journals_from, order_of}
use Rattle.run_facts.proofs.Orders.{order_found}
use Rattle.run_model.specs.Fronts.{AnyByRecursion}
use Rattle.run_model.specs.Moments.{moment_at, view_of}
use Rattle.run_model.specs.Orders.{IsOfRecentlyStopped, end_of_tick}
use Rattle.run_model.specs.Schedule.{is_stopped}
use Rattle.run_model.specs.Samples.{IsOfTen, ten, all, begins, put, seat_in}
use Rattle.run_model.specs.Served.{IsPut, journal_at, whole_in, piece_in, wholes_got, pieces_got, pieces_numbered, CameWhole, CameInPieces}
use Rattle.run_model.proofs.OnSamples.{of-eight}
use Rattle.lists.specs.Elements.{In}
use Rattle.proof_moments.proofs.Lists.{any_by}
use Rattle.run_promises.specs.Kept.{after_tick}
use Rattle.run_promises.specs.Placing.{HasRoom}
use Rattle.run_promises.specs.Samples.{one_block, placed, run_of, stopped_log, two_lost, unanswered, unstopped_log, wait}
use Rattle.run_promises.specs.Served.{Came, OnlyOneDies}
use Rattle.run_promises.specs.Waits.{IsOver, IsTakenAt}
use Rattle.run_promises.proofs.Fronts.{in_front_journal}
use Rattle.run_promises.proofs.Worked.{no_stop_among}

-- ---- a run in which nothing is written

nothing_noted : order_of 1600 (all []) ≡ []
nothing_noted = order_found 18 1600 [] tt

-- nobody is put or stopped
pub never_over : (k : Kept) (plan : IsPlan small) (s : IsOfTen) (beat : ℕ) → IsOver (unanswered k plan s) (wait 0 2 1520) beat → ⊥
unfolding moment_at
never_over k plan s beat h = ⊎_elim
    (λ put. false≢true (subst (λ (log : List Noted). (end_of_tick beat 0 log).put 0 ≡ true) nothing_noted put))
    (λ gone. false≢true (subst (λ (log : List Noted). is_stopped 0 (end_of_tick beat 0 log).schedule.stops ≡ true) nothing_noted gone))
    h

-- nobody has a slot
pub no_holder : (k : Kept) (plan : IsPlan small) (s : IsOfTen) (c beat slot : ℕ) (t : Tenancy)
    → (after_tick (unanswered k plan s) c beat).schedule.holder slot ≡ Some t → ⊥
unfolding moment_at
no_holder k plan s c beat slot t held =
    let none : None ≡ Some t = subst (λ (log : List Noted). (end_of_tick beat c log).schedule.holder slot ≡ Some t) nothing_noted held in
    absurd (cc)

-- and no visit is taken
pub never_taken : (k : Kept) (plan : IsPlan small) (s : IsOfTen) (c beat slot visit : ℕ) → IsTakenAt (unanswered k plan s) c beat slot visit → ⊥
unfolding moment_at
never_taken k plan s c beat slot visit taken = ⊎_elim
    (λ held. no_holder k plan s c beat slot held.0 held.1)
    (λ recent. subst (λ (log : List Noted). AnyByRecursion (IsOfRecentlyStopped small (end_of_tick beat c log) beat slot visit)
    (view_of (end_of_tick beat c log) c)) nothing_noted recent)
    taken

-- so there is room
pub has_room : (k : Kept) (plan : IsPlan small) (s : IsOfTen) → HasRoom (unanswered k plan s) (wait 0 2 1520)
has_room k plan s = record {
  others = [];
  all = λ beat slot t low high held other. absurd (no_holder k plan s 0 beat slot t held);
  few = omega arith;
  stops = λ v beat o. absurd (no_stop_among (begins one_block) v beat (tt, tt) o);
}

-- ---- a run in which one Put is written

-- it is put by the end of a tick, or not, as the one entry says
pub placed_by : (k : Kept) (plan : IsPlan small) (s : IsOfTen) (beat slot visit last : ℕ) (b : Bool) → beat < 1600
    → (end_of_tick last 0 (put 0 beat (seat_in slot 0 visit visit) ∷ [])).put 0 ≡ b
    → (after_tick (placed k plan s beat slot visit) 0 last).put 0 ≡ b
placed_by k plan s beat slot visit last b early is =
    let log : List Noted = put 0 beat (seat_in slot 0 visit visit) ∷ [] in
    let found : order_of 1600 (all log) ≡ log = order_found 18 1600 log (omega arith, early, tt, tt) in
    subst (λ (xs : List Noted). (end_of_tick last 0 xs).put 0 ≡ b) (sym found) is

-- what stands in a journal stands in the log
in_journals : (n nodes : ℕ) (log : List Noted) (j : List Entry) (e : Entry) → In j (journals_from n nodes log) → In e j
    → (x : Noted) × In x log × (x.entry ≡ e)
in_journals n zero log j e i h = absurd i
in_journals n (suc nodes) log j e i h = ⊎_elim
    (λ (own : j ≡ journal_of n log).
    let x = in_front_journal log n e (subst (λ (es : List Entry). In e es) own h) in
    (x.0, x.1, x.3))
    (λ later. in_journals (n + 1) nodes log j e later h)
    i

-- so no tenancy is put but one
pub one_put : (beat : ℕ) (u t : Tenancy) → IsPut (all (put 0 beat u ∷ [])) t → u ≡ t
one_put beat u t h =
    let log : List Noted = put 0 beat u ∷ [] in
    let j = any_by (λ (journal : List Entry). AnyByRecursion (λ (e : Entry). e.what ≡ what.Put t) journal) (all log) h in
    let e = any_by (λ (e : Entry). e.what ≡ what.Put t) j.0 j.2 in
    let x = in_journals 0 18 log j.0 e.0 j.1 e.1 in
    ⊎_elim
    (λ (alone : x.0 ≡ put 0 beat u).
    let both : what.Put u ≡ what.Put t = sym (ap (λ (x : Noted). x.entry.what) alone) ∙ ap (λ (e : Entry). e.what) x.2 ∙ e.2 in
    let same : u ≡ t = cc in same)
    (λ none. absurd none)
    x.1

-- ---- a run in which the viewers get nothing

pub nothing_came : (k : Kept) (plan : IsPlan small) (s : IsOfTen) (deaths : List (Option ℕ)) (faults : List ReadFault)
    (orders : List Order) (log : List Noted) (t : Tenancy) (visit : ℕ) → journal_of 17 log ≡ []
    → Came (run_of k plan s deaths faults orders log) t visit → ⊥
unfolding journal_at wholes_got pieces_got
nothing_came k plan s deaths faults orders log t visit silent came =
    ⊎_elim
    (λ (c : CameWhole small (ten s) (all log) came.tenancy visit).
    let u : ℕ = came.tenancy.instance.0 in
    let none : [] ≡ c.parcel ∷ [] = subst (λ (es : List Entry). flat_map (λ (e : Entry). whole_in u visit e.what) es ≡ c.parcel ∷ []) silent c.once in
    absurd (cc))
    (λ (c : CameInPieces small (ten s) (all log) came.tenancy visit).
    let u : ℕ = came.tenancy.instance.0 in
    let x = c.pieces 1 (omega arith) (omega arith) in
    let none : [] ≡ x.parcel ∷ [] = subst (λ (es : List Entry). pieces_numbered 1 (flat_map (λ (e : Entry). piece_in u visit e.what) es) ≡ x.parcel ∷ []) silent x.once in
    absurd (cc))
    came.came

-- ---- the others

pub only_cub_one : (k : Kept) (plan : IsPlan small) (s : IsOfTen) → OnlyOneDies (two_lost k plan s) 1
only_cub_one k plan s = of-eight (λ n. n ≢ 1 → (lifetime_of (two_lost k plan s).course n).death ≡ None)
    (λ ne. refl) (λ ne. absurd (ne refl)) (λ ne. refl) (λ ne. refl) (λ ne. refl) (λ ne. refl) (λ ne. refl) (λ ne. refl)

pub unstopped_order : unstopped_log ≡ order_of 1600 (all unstopped_log)
unstopped_order = sym (order_found 18 1600 unstopped_log (omega arith, omega arith, (inl (omega arith), tt), (omega arith, omega arith, tt, tt)))

pub stopped_order : stopped_log 121 ≡ order_of 1600 (all (stopped_log 121))
stopped_order = sym (order_found 18 1600 (stopped_log 121) (
  omega arith,
  omega arith,
  (inr (refl, omega arith), (inl (omega arith), (inl (omega arith), tt))),
  (
    omega arith,
    omega arith,
    (inl (omega arith), (inl (omega arith), tt)),
    (omega arith, omega arith, (inl (omega arith), tt), (omega arith, omega arith, tt, tt)),
  ),
))
