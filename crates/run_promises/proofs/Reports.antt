-- A block that is told to be missing neither came nor was stopped, so that its excuse is the printed reason.
use Rattle.std.proofs.Common.{◌≡◌, ℕ, zero, suc, ◌+◌, ◌<◌, ◌≤◌, Bool, true, false, IsTrue, List, [], ◌∷◌, cond, map, Option, Some, None, refl, sym, ap, subst, ◌∙◌, arith, ⊎_elim, inl, inr}
use Rattle.std.specs.Prelude.{◌↔◌, ◌⊎◌, filter, find, option_map, slice_get, unwrap_or}
use Rattle.std.specs.List.{list_any, range_with_len}
use Rattle.std.specs.Option.{option_or}
use Rattle.std.proofs.lemmas.Bool.{cases_Bool, lt-ltb, false≢true, true≢false}
use Rattle.tiger_base.specs.declared.tenancy.Tenancy.{Tenancy}
use Rattle.slot_plan.specs.declared.params.Params.{Params}
use Rattle.slot_plan.specs.Times.{due, cub_of, time_of, takeover}
use Rattle.node_kit.specs.declared.course.Kept.{Kept}
use Rattle.node_kit.specs.declared.journal.Entry.{Entry}
use Rattle.node_kit.specs.Links.{links_of, controller_of}
use Rattle.run_facts.specs.Commanded.{is_gone_of}
use Rattle.run_model.specs.declared.parcels.Parcel.{Parcel}
use Rattle.run_model.specs.Fronts.{AnyByRecursion}
use Rattle.run_model.specs.Served.{journal_at, wholes_got, pieces_got, pieces_numbered, CameWhole, CameInPieces}
use Rattle.run_model.specs.Excuses.{IsFailedRead, IsStopOf, ReadFailed, LostInPieces, DiedTooLate, LostInDeath, WasStopped}
use Rattle.run_model.specs.Tests.{read_failed, lost_in_death}
use Rattle.run_model.proofs.Reasons.{read_fails, stop_of, late_death}
use Rattle.run_model.proofs.Reflects.{any}
use Rattle.run_report.specs.declared.outcome.BlockKind.{BlockKind}
use Rattle.run_report.specs.declared.outcome.BlockKind.TheVariants as kind
use Rattle.run_report.specs.declared.outcome.Reason.{Reason}
use Rattle.run_report.specs.declared.outcome.Reason.TheVariants as reason
use Rattle.run_report.specs.Outcomes as outcomes
use Rattle.run_report.specs.Outcomes.{first_sent, whole_sent, piece_sent, all_there, pieces_sent, is_stopped_below, reason_of, missing_of, kind_of, span_at}
use Rattle.lists.specs.Elements.{In}
use Rattle.proof_moments.proofs.Lists.{any_by}
use Rattle.lists.proofs.Elements.{in_filter}
use Rattle.run_promises.specs.Kept.{IsKeptWell}
use Rattle.run_promises.specs.Served.{Came}
use Rattle.run_promises.specs.Reports.{IsTrueReason, EachReasonIsTrue}
use Rattle.run_promises.proofs.Journals.{stands_at, stands_some, some_stands, only_one}
use Rattle.run_promises.proofs.Served.{came_or_excused, died_at}
use Rattle.run_promises.proofs.Stops.{stop_is, gone_by, by_controller}

-- ---- what came has another line

whole_is_told : (p : Params) (journals : List (List Entry)) (v visit : ℕ) (x : Parcel) → wholes_got p journals v visit ≡ x ∷ []
    → whole_sent p journals v visit ≡ Some x.sent
unfolding whole_sent
whole_is_told p journals v visit x e = ap first_sent e

piece_is_told : (p : Params) (journals : List (List Entry)) (v visit k : ℕ) (x : Parcel) → pieces_numbered k (pieces_got p journals v visit) ≡ x ∷ []
    → piece_sent p journals v visit k ≡ Some x.sent
unfolding piece_sent
piece_is_told p journals v visit k x e = ap first_sent e

all_are_there : (f : ℕ → Option ℕ) (from n : ℕ) → ((k : ℕ) → from ≤ k → k < from + n → (b : ℕ) × (f k ≡ Some b))
    → (bs : List ℕ) × (all_there (map f (range_with_len from n)) ≡ Some bs)
all_are_there f from zero h = ([], refl)
all_are_there f from (suc n) h =
    let one = h from (omega arith) (omega arith) in
    let rest = all_are_there f (from + 1) n (λ k low high. h k (omega arith) (omega arith)) in
    (one.0 ∷ rest.0, rw (one.1, rest.1) refl)

pieces_are_told : (p : Params) (journals : List (List Entry)) (v visit : ℕ)
    → ((k : ℕ) → 1 ≤ k → k ≤ p.pieces → (x : Parcel) × (pieces_numbered k (pieces_got p journals v visit) ≡ x ∷ []))
    → (bs : List ℕ) × (pieces_sent p journals v visit ≡ Some bs)
unfolding pieces_sent
pieces_are_told p journals v visit h = all_are_there (piece_sent p journals v visit) 1 p.pieces
    (λ k low high. let q = h k low (omega arith) in (q.0.sent, piece_is_told p journals v visit k q.0 q.1))

-- what a block's line is, by when the whole block and the pieces were sent
abbrev line_of : ℕ → Option ℕ → Option (List ℕ) → Option BlockKind → Option BlockKind
line_of len whole pieces missing =
    option_or (option_map (λ sent. kind.Whole len sent) whole) (option_or (option_map (λ sent. kind.Pieces len sent) pieces) missing)

not_whole : (len sent : ℕ) (whole : Option ℕ) (pieces : Option (List ℕ)) (missing : Option BlockKind) (why : Reason) → whole ≡ Some sent
    → line_of len whole pieces missing ≡ Some (kind.Missing why) → ⊥
not_whole len sent None pieces missing why e h = absurd (cc)
not_whole len sent (Some c) pieces missing why e h = absurd (cc)

not_pieces : (len : ℕ) (sent : List ℕ) (whole : Option ℕ) (pieces : Option (List ℕ)) (missing : Option BlockKind) (why : Reason) → pieces ≡ Some sent
    → line_of len whole pieces missing ≡ Some (kind.Missing why) → ⊥
not_pieces len sent None None missing why e h = absurd (cc)
not_pieces len sent None (Some c) missing why e h = absurd (cc)
not_pieces len sent (Some c) pieces missing why e h = absurd (cc)

is_missing : (len : ℕ) (whole : Option ℕ) (pieces : Option (List ℕ)) (missing : Option BlockKind) (why : Reason)
    → line_of len whole pieces missing ≡ Some (kind.Missing why) → missing ≡ Some (kind.Missing why)
is_missing len None None missing why h = h
is_missing len None (Some c) missing why h = absurd (cc)
is_missing len (Some c) pieces missing why h = absurd (cc)

did_not_come : (k : Kept) (t : Tenancy) (visit : ℕ) (why : Reason) → kind_of k.course.plan.params k.catalogue k.journals t visit ≡ Some (kind.Missing why)
    → Came k t visit → ⊥
unfolding kind_of
did_not_come k t visit why h came =
    let p = k.course.plan.params in
    let v : ℕ = t.instance.0 in
    let same = came.visited.instance in
    ⊎_elim
    (λ (c : CameWhole p k.catalogue k.journals came.tenancy visit).
    not_whole (span_at k.catalogue t visit).len c.parcel.sent (whole_sent p k.journals v visit) (pieces_sent p k.journals v visit)
    (missing_of p k.journals t visit) why
    (whole_is_told p k.journals v visit c.parcel (subst (λ (u : ℕ). wholes_got p k.journals u visit ≡ c.parcel ∷ []) same c.once)) h)
    (λ (c : CameInPieces p k.catalogue k.journals came.tenancy visit).
    let bs = pieces_are_told p k.journals v visit (λ n low high.
    let x = c.pieces n low high in
    (x.parcel, subst (λ (u : ℕ). pieces_numbered n (pieces_got p k.journals u visit) ≡ x.parcel ∷ []) same x.once)) in
    not_pieces (span_at k.catalogue t visit).len bs.0 (whole_sent p k.journals v visit) (pieces_sent p k.journals v visit)
    (missing_of p k.journals t visit) why bs.1 h)
    came.came

-- ---- who was stopped has no line

-- the first that passes, if one at most does
finds_it : (test : Entry → Bool) (es : List Entry) (e : Entry) → In e es → test e ≡ true → ((x : Entry) → In x es → test x ≡ true → x ≡ e) → find test es ≡ Some e
finds_it test [] e i t one = absurd i
finds_it test (y ∷ es) e i t one = ⊎_elim
    (λ (a : test y ≡ true). rw a (ap (λ (x : Entry). Some x) (one y (inl refl) a)))
    (λ (b : test y ≡ false). ⊎_elim
    (λ s. absurd (false≢true (sym b ∙ ap test (sym s) ∙ t)))
    (λ j. rw b (finds_it test es e j t (λ x k u. one x (inr k) u)))
    i)
    (cases_Bool (test y))

journal_is : (js : List (List Entry)) (n : ℕ) (j : List Entry) → slice_get js n ≡ Some j → journal_at js n ≡ j
unfolding journal_at
journal_is js n j at = ap (λ (o : Option (List Entry)). unwrap_or o []) at

below : (p : Params) (time beat : ℕ) (stop : Option ℕ) → stop ≡ Some beat → time_of p beat < time → is_stopped_below p time stop ≡ true
below p time beat stop is l = subst (λ (o : Option ℕ). is_stopped_below p time o ≡ true) (sym is) (lt-ltb (time_of p beat) time l)

stop_is_told : (k : Kept) (t : Tenancy) (visit : ℕ) → IsKeptWell k → WasStopped k.course.plan.params k.journals t visit
    → is_stopped_below k.course.plan.params (due k.course.plan.params t.slot.0 visit + k.course.plan.params.play)
    (outcomes.stop_of k.course.plan.params k.journals t.instance.0) ≡ true
unfolding outcomes.stop_of
stop_is_told k t visit w h =
    let p = k.course.plan.params in
    let v : ℕ = t.instance.0 in
    let here : ℕ = controller_of (links_of p) in
    let time : ℕ = due p t.slot.0 visit + p.play in
    let s = stands_some (λ (e : Entry). IsStopOf v e.what × (time_of p e.stamp.beat < time)) k.journals h in
    let c = by_controller k v w (gone_by k v s.0 s.1 w s.2 (stop_is v s.1.what s.3.0)) in
    let test : Entry → Bool = λ x. is_gone_of v x.what in
    let passes = (stop_of v s.1.what).1 s.3.0 in
    let found : find test (journal_at k.journals here) ≡ Some s.1 =
    ap (λ (es : List Entry). find test es) (journal_is k.journals here c.journal c.at)
    ∙ finds_it test c.journal s.1 c.there passes (λ x i u.
    only_one (filter test c.journal) x s.1 ((w.claims.starts.commanded.controller c.journal c.at).once v)
    (in_filter test x c.journal i u) (in_filter test s.1 c.journal c.there passes)) in
    below p time s.1.stamp.beat _ (ap (option_map (λ (e : Entry). e.stamp.beat)) found) s.3.1

-- ---- the reason

missing_is : (stopped : Bool) (r why : Reason) → cond stopped None (Some (kind.Missing r)) ≡ Some (kind.Missing why) → (stopped ≡ false) × (r ≡ why)
missing_is true r why h = absurd (cc)
missing_is false r why h = let e : r ≡ why = cc in (refl, e)

by_tests : (P : Reason → Type 0) (read dead : Bool) (why : Reason) → cond read reason.Read (cond dead reason.Dead reason.Piece) ≡ why
    → (read ≡ true → P reason.Read) → (read ≡ false → dead ≡ true → P reason.Dead) → (read ≡ false → dead ≡ false → P reason.Piece) → P why
by_tests P true dead why e f g h = subst P e (f refl)
by_tests P false true why e f g h = subst P e (g refl refl)
by_tests P false false why e f g h = subst P e (h refl refl)

pub reads_fail : (journals : List (List Entry)) (v visit : ℕ)
    → IsTrue (list_any (read_failed v visit 0) journals) ↔ AnyByRecursion (λ journal. AnyByRecursion (λ e. IsFailedRead v visit 0 e.what) journal) journals
reads_fail journals v visit = any (λ journal. AnyByRecursion (λ e. IsFailedRead v visit 0 e.what) journal) (read_failed v visit 0)
    (λ journal. read_fails v visit 0 journal) journals

failed_somewhere : (journals : List (List Entry)) (v visit n : ℕ) → ReadFailed journals n v visit 0 → list_any (read_failed v visit 0) journals ≡ true
failed_somewhere journals v visit n h =
    let Is : Entry → Type 0 = λ e. IsFailedRead v visit 0 e.what in
    let e = any_by Is (journal_at journals n) h in
    (reads_fail journals v visit).1 (some_stands Is journals n e.0 (stands_at journals n e.0 e.1) e.2)

-- a cub that dies too late for its visit to be taken over did not die long before
not_both : (k : Kept) (t : Tenancy) (visit : ℕ) → IsKeptWell k → LostInPieces k.course.plan.params k.journals t visit
    → DiedTooLate k.course.plan.params k.journals t visit → ⊥
not_both k t visit w pieces death =
    let p = k.course.plan.params in
    let d : ℕ = due p t.slot.0 visit in
    let far = died_at k (cub_of p visit) (λ x. x + takeover p ≤ d) w pieces.died in
    let near = died_at k (cub_of p visit) (λ x. (x < d + p.beat) × (d < x + takeover p)) w death in
    let both : Some far.0 ≡ Some near.0 = sym far.1 ∙ near.1 in
    let same : far.0 ≡ near.0 = cc in
    let early : time_of p near.0 + takeover p ≤ d = subst (λ (b : ℕ). time_of p b + takeover p ≤ d) same far.2 in
    let late = near.2.1 in
    omega (arith, early, late)

pub each_reason_is_true : (k : Kept) → IsKeptWell k → EachReasonIsTrue k
unfolding kind_of missing_of reason_of
each_reason_is_true k w t visit why put v h =
    let p = k.course.plan.params in
    let js = k.journals in
    let u : ℕ = t.instance.0 in
    let miss = missing_is _ (reason_of p js t visit) why
    (is_missing (span_at k.catalogue t visit).len (whole_sent p js u visit) (pieces_sent p js u visit) (missing_of p js t visit) why h) in
    let unstopped : WasStopped p js t visit → ⊥ = λ s. true≢false (sym (stop_is_told k t visit w s) ∙ miss.0) in
    let by_a_death : list_any (read_failed u visit 0) js ≡ false → LostInPieces p js t visit ⊎ LostInDeath p js t visit = λ a. ⊎_elim
    (λ came. absurd (did_not_come k t visit why h came))
    (λ x. ⊎_elim
    (λ read. absurd (false≢true (sym a ∙ failed_somewhere js u visit (cub_of p visit) read)))
    (λ y. ⊎_elim (λ pieces. inl pieces) (λ z. ⊎_elim (λ death. inr death) (λ stop. absurd (unstopped stop)) z) y) x)
    (came_or_excused k t visit w put v) in (
      by_tests (IsTrueReason p js t visit) (list_any (read_failed u visit 0) js) (lost_in_death p js t visit) why miss.1
          (λ a. (reads_fail js u visit).0 a)
          (λ a b. ⊎_elim
          (λ pieces. absurd (not_both k t visit w pieces ((late_death p js t visit).0 b)))
          (λ death. death) (by_a_death a))
          (λ a b. ⊎_elim
          (λ pieces. pieces)
          (λ death. absurd (false≢true (sym b ∙ (late_death p js t visit).1 death.0))) (by_a_death a)),
      unstopped,
    )
