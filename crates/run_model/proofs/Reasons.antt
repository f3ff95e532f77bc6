-- The tests of what is excused are true exactly of what is.
use Rattle.std.proofs.Common.{◌≡◌, ℕ, ◌+◌, ◌-◌, ◌<◌, ◌≤◌, Bool, true, false, not, ◌&&◌, ◌||◌, IsTrue, nat_lt, nat_le, List, refl, sym, ◌∙◌, subst, arith}
use Rattle.std.specs.Prelude.{◌==◌, ◌↔◌, ◌⊎◌}
use Rattle.std.specs.List.{list_any}
use Rattle.std.proofs.lemmas.Bool.{false≢true, true≢false, false_from_ne_true}
use Rattle.tiger_base.specs.declared.tenancy.Tenancy.{Tenancy}
use Rattle.slot_plan.specs.declared.params.Params.{Params}
use Rattle.slot_plan.specs.Times.{due, cub_of, time_of, takeover}
use Rattle.mirror_pieces.specs.Pieces.{leaving}
use Rattle.node_kit.specs.declared.journal.What.{What}
use Rattle.node_kit.specs.declared.journal.What.TheVariants as what
use Rattle.node_kit.specs.declared.journal.Entry.{Entry}
use Rattle.run_facts.specs.Commanded.{is_gone_of}
use Rattle.run_facts.specs.Timed.{is_died, is_returned}
use Rattle.run_model.specs.Fronts.{AnyByRecursion}
use Rattle.run_model.specs.Served.{journal_at}
use Rattle.run_model.specs.Excuses.{IsFailedRead, IsDeath, IsReturn, IsStopOf, ReadFailed, serves_after, lets_in_after, WasBackBy, DiedBeforePiece, PieceIsLost, IsUnservedBack, LostInPieces, DiedTooLate, LostInDeath, WasStopped, IsExcused}
use Rattle.run_model.specs.Tests.{some_below, is_failed_read, read_failed, died_between, died_before, was_back_by, died_before_piece, piece_is_lost, is_unserved_back, lost_in_pieces, lost_in_death, stopped_before, was_stopped, has_excuse, some_tenancy}
use Rattle.run_model.proofs.Reflects.{and_both, and_left, and_right, both, either, equal, less, at_most, any, some_found, some_gives, negated}
use Rattle.run_model.proofs.Deliveries.{tenancy_found, tenancy_gives}

-- what an entry says
failed_read : (v n k : ℕ) (w : What) → IsTrue (is_failed_read v n k w) ↔ IsFailedRead v n k w
failed_read v n k (what.ReadFailed want) =
    let a = want.instance.0 == v in
    let b = want.visit == n in
    let c = want.piece == k in (
      (λ h.
          let ab = and_left (a && b) c h in
          ((equal want.instance.0 v).0 (and_left a b ab), (equal want.visit n).0 (and_right a b ab), (equal want.piece k).0 (and_right (a && b) c h))),
      (λ g. and_both (a && b) c (and_both a b ((equal want.instance.0 v).1 g.0) ((equal want.visit n).1 g.1)) ((equal want.piece k).1 g.2)),
    )
failed_read v n k other = ((λ h. absurd (false≢true h)), (λ e. absurd e))

death : (w : What) → IsTrue (is_died w) ↔ IsDeath w
death what.Died = ((λ h. tt), (λ g. refl))
death other = ((λ h. absurd (false≢true h)), (λ e. absurd e))

pub return_said : (w : What) → IsTrue (is_returned w) ↔ IsReturn w
return_said what.Returned = ((λ h. tt), (λ g. refl))
return_said other = ((λ h. absurd (false≢true h)), (λ e. absurd e))

-- what a test denies is not so
pub denied : (a : Bool) (P : Type 0) → IsTrue a ↔ P → IsTrue (not a) ↔ (P → ⊥)
denied a P p = (
  (λ h q. true≢false (sym (p.1 q) ∙ (negated a).0 h)),
  (λ g. (negated a).1 (false_from_ne_true a (λ t. g (p.0 t)))),
)

pub stop_of : (v : ℕ) (w : What) → IsTrue (is_gone_of v w) ↔ IsStopOf v w
stop_of v (what.Gone instance) = equal instance.0 v
stop_of v other = ((λ h. absurd (false≢true h)), (λ e. absurd e))

-- what a journal says
pub read_fails : (v n k : ℕ) (journal : List Entry) → IsTrue (read_failed v n k journal) ↔ AnyByRecursion (λ e. IsFailedRead v n k e.what) journal
read_fails v n k journal = any (λ e. IsFailedRead v n k e.what) (λ e. is_failed_read v n k e.what) (λ e. failed_read v n k e.what) journal

dies_before : (p : Params) (early time : ℕ) (journal : List Entry)
    → IsTrue (died_before p early time journal) ↔ AnyByRecursion (λ e. IsDeath e.what × (time_of p e.stamp.beat + early ≤ time)) journal
dies_before p early time journal =
    any (λ e. IsDeath e.what × (time_of p e.stamp.beat + early ≤ time)) (λ e. is_died e.what && nat_le (time_of p e.stamp.beat + early) time)
    (λ e. both (is_died e.what) (nat_le (time_of p e.stamp.beat + early) time) (IsDeath e.what) (time_of p e.stamp.beat + early ≤ time) (death e.what) (at_most (time_of p e.stamp.beat + early) time))
    journal

-- below a time is by one before it
dies_below : (p : Params) (time : ℕ) (journal : List Entry)
    → IsTrue (died_before p 1 time journal) ↔ AnyByRecursion (λ e. IsDeath e.what × (time_of p e.stamp.beat < time)) journal
dies_below p time journal =
    any (λ e. IsDeath e.what × (time_of p e.stamp.beat < time)) (λ e. is_died e.what && nat_le (time_of p e.stamp.beat + 1) time)
    (λ e. both (is_died e.what) (nat_le (time_of p e.stamp.beat + 1) time) (IsDeath e.what) (time_of p e.stamp.beat < time) (death e.what) (
      (λ h. let l = (at_most (time_of p e.stamp.beat + 1) time).0 h in omega arith),
      (λ (g : time_of p e.stamp.beat < time). (at_most (time_of p e.stamp.beat + 1) time).1 (omega arith)),
    ))
    journal

dies_between : (p : Params) (late time end : ℕ) (journal : List Entry)
    → IsTrue (died_between p late time end journal)
    ↔ AnyByRecursion (λ e. IsDeath e.what × ((time_of p e.stamp.beat < end) × (time < time_of p e.stamp.beat + late))) journal
dies_between p late time end journal =
    any (λ e. IsDeath e.what × ((time_of p e.stamp.beat < end) × (time < time_of p e.stamp.beat + late)))
    (λ e. is_died e.what && nat_lt time (time_of p e.stamp.beat + late) && nat_lt (time_of p e.stamp.beat) end)
    (λ e.
    let a = is_died e.what in
    let b = nat_lt time (time_of p e.stamp.beat + late) in
    let c = nat_lt (time_of p e.stamp.beat) end in (
      (λ h.
          let ab = and_left (a && b) c h in
          ((death e.what).0 (and_left a b ab), ((less (time_of p e.stamp.beat) end).0 (and_right (a && b) c h), (less time (time_of p e.stamp.beat + late)).0 (and_right a b ab)))),
      (λ g. and_both (a && b) c (and_both a b ((death e.what).1 g.0) ((less time (time_of p e.stamp.beat + late)).1 g.1.1)) ((less (time_of p e.stamp.beat) end).1 g.1.0)),
    ))
    journal

stops_before : (p : Params) (v time : ℕ) (journal : List Entry)
    → IsTrue (stopped_before p v time journal) ↔ AnyByRecursion (λ e. IsStopOf v e.what × (time_of p e.stamp.beat < time)) journal
stops_before p v time journal =
    any (λ e. IsStopOf v e.what × (time_of p e.stamp.beat < time)) (λ e. is_gone_of v e.what && nat_lt (time_of p e.stamp.beat) time)
    (λ e. both (is_gone_of v e.what) (nat_lt (time_of p e.stamp.beat) time) (IsStopOf v e.what) (time_of p e.stamp.beat < time) (stop_of v e.what) (less (time_of p e.stamp.beat) time))
    journal

pub comes_back_by : (span time : ℕ) (journal : List Entry)
    → IsTrue (was_back_by span time journal) ↔ AnyByRecursion (λ e. IsReturn e.what × (e.stamp.reading + span ≤ time)) journal
comes_back_by span time journal =
    any (λ e. IsReturn e.what × (e.stamp.reading + span ≤ time)) (λ e. is_returned e.what && nat_le (e.stamp.reading + span) time)
    (λ e. both (is_returned e.what) (nat_le (e.stamp.reading + span) time) (IsReturn e.what) (e.stamp.reading + span ≤ time) (return_said e.what) (at_most (e.stamp.reading + span) time))
    journal

pub piece_dead : (p : Params) (journals : List (List Entry)) (t : Tenancy) (n k : ℕ)
    → IsTrue (died_before_piece p (leaving (due p t.slot.0 n) k p.play p.pieces) (journal_at journals (cub_of p (n + k))))
    ↔ DiedBeforePiece p journals t n k
piece_dead p journals t n k =
    let time = leaving (due p t.slot.0 n) k p.play p.pieces in
    let own = journal_at journals (cub_of p (n + k)) in
    let back = WasBackBy journals (cub_of p (n + k)) (lets_in_after p) time in
    both (died_before p 1 (time + p.beat) own) (not (was_back_by (lets_in_after p) time own))
    (AnyByRecursion (λ e. IsDeath e.what × (time_of p e.stamp.beat < time + p.beat)) own) (back → ⊥)
    (dies_below p (time + p.beat) own) (denied (was_back_by (lets_in_after p) time own) back (comes_back_by (lets_in_after p) time own))

pub unserved_back : (p : Params) (journals : List (List Entry)) (t : Tenancy) (n : ℕ)
    → IsTrue (is_unserved_back p journals t n) ↔ IsUnservedBack p journals t n
unserved_back p journals t n =
    let time = due p t.slot.0 n in
    let own = journal_at journals (cub_of p n) in
    let back = WasBackBy journals (cub_of p n) (serves_after p) time in
    either (n == t.first) (not (was_back_by (serves_after p) time own)) (n ≡ t.first) (back → ⊥)
    (equal n t.first) (denied (was_back_by (serves_after p) time own) back (comes_back_by (serves_after p) time own))

-- the four excuses
piece_loss : (p : Params) (journals : List (List Entry)) (t : Tenancy) (n k : ℕ) → IsTrue (piece_is_lost p journals t n k) ↔ PieceIsLost p journals t n k
unfolding piece_is_lost
piece_loss p journals t n k =
    let v = t.instance.0 in
    let time = leaving (due p t.slot.0 n) k p.play p.pieces in
    let own = journal_at journals (cub_of p (n + k)) in
    either (list_any (read_failed v n k) journals) (died_before_piece p time own)
    (AnyByRecursion (λ journal. AnyByRecursion (λ e. IsFailedRead v n k e.what) journal) journals)
    (DiedBeforePiece p journals t n k)
    (any (λ journal. AnyByRecursion (λ e. IsFailedRead v n k e.what) journal) (read_failed v n k) (read_fails v n k) journals)
    (piece_dead p journals t n k)

pieces_loss : (p : Params) (journals : List (List Entry)) (t : Tenancy) (n : ℕ) → IsTrue (lost_in_pieces p journals t n) ↔ LostInPieces p journals t n
unfolding lost_in_pieces
pieces_loss p journals t n =
    let own = journal_at journals (cub_of p n) in
    let a = died_before p (takeover p) (due p t.slot.0 n) own in
    let test : ℕ → Bool = λ before. piece_is_lost p journals t n (before + 1) in
    let b = some_below test p.pieces in
    let away = is_unserved_back p journals t n in (
      (λ h.
          let rest = and_right a (away && b) h in
          let f = some_found test p.pieces (and_right away b rest) in
          let l : f.0 < p.pieces = f.1 in
          record {
            died = (dies_before p (takeover p) (due p t.slot.0 n) own).0 (and_left a (away && b) h);
            away = (unserved_back p journals t n).0 (and_left away b rest);
            piece = f.0 + 1;
            low = omega arith;
            high = omega arith;
            lost = (piece_loss p journals t n (f.0 + 1)).0 f.2;
          }),
      (λ g.
          let low = g.low in
          let high = g.high in
          let e : g.piece ≡ g.piece - 1 + 1 = omega arith in
          let lost = subst (λ (k : ℕ). PieceIsLost p journals t n k) e g.lost in
          and_both a (away && b) ((dies_before p (takeover p) (due p t.slot.0 n) own).1 g.died)
          (and_both away b ((unserved_back p journals t n).1 g.away)
          (some_gives test p.pieces (g.piece - 1) (omega arith) ((piece_loss p journals t n (g.piece - 1 + 1)).1 lost)))),
    )

pub late_death : (p : Params) (journals : List (List Entry)) (t : Tenancy) (n : ℕ) → IsTrue (lost_in_death p journals t n) ↔ DiedTooLate p journals t n
unfolding lost_in_death
late_death p journals t n =
    dies_between p (takeover p) (due p t.slot.0 n) (due p t.slot.0 n + p.beat) (journal_at journals (cub_of p n))

pub death_loss : (p : Params) (journals : List (List Entry)) (t : Tenancy) (n : ℕ)
    → IsTrue (lost_in_death p journals t n && is_unserved_back p journals t n) ↔ LostInDeath p journals t n
death_loss p journals t n =
    both (lost_in_death p journals t n) (is_unserved_back p journals t n) (DiedTooLate p journals t n) (IsUnservedBack p journals t n)
    (late_death p journals t n) (unserved_back p journals t n)

stop_loss : (p : Params) (journals : List (List Entry)) (t : Tenancy) (n : ℕ) → IsTrue (was_stopped p journals t n) ↔ WasStopped p journals t n
unfolding was_stopped
stop_loss p journals t n =
    let v = t.instance.0 in
    let time = due p t.slot.0 n + p.play in
    any (λ journal. AnyByRecursion (λ e. IsStopOf v e.what × (time_of p e.stamp.beat < time)) journal) (stopped_before p v time) (stops_before p v time) journals

abbrev HasExcuse : Params → List (List Entry) → ℕ → Tenancy → Type 0
HasExcuse p journals n t = ReadFailed journals (cub_of p n) t.instance.0 n 0
    ⊎ (LostInPieces p journals t n ⊎ (LostInDeath p journals t n ⊎ WasStopped p journals t n))

excuse : (p : Params) (journals : List (List Entry)) (t : Tenancy) (n : ℕ) → IsTrue (has_excuse p journals n t) ↔ HasExcuse p journals n t
unfolding has_excuse
excuse p journals t n =
    let own = journal_at journals (cub_of p n) in
    let a = read_failed t.instance.0 n 0 own in
    let b = lost_in_pieces p journals t n in
    let c = lost_in_death p journals t n && is_unserved_back p journals t n in
    let d = was_stopped p journals t n in
    either a (b || (c || d)) (ReadFailed journals (cub_of p n) t.instance.0 n 0) (LostInPieces p journals t n ⊎ (LostInDeath p journals t n ⊎ WasStopped p journals t n))
    (read_fails t.instance.0 n 0 own)
    (either b (c || d) (LostInPieces p journals t n) (LostInDeath p journals t n ⊎ WasStopped p journals t n) (pieces_loss p journals t n)
    (either c d (LostInDeath p journals t n) (WasStopped p journals t n) (death_loss p journals t n) (stop_loss p journals t n)))

-- the test of what is excused is true exactly of what is
pub excused : (p : Params) (journals : List (List Entry)) (v n : ℕ)
    → IsTrue (some_tenancy journals v n (has_excuse p journals n)) ↔ IsExcused p journals v n
excused p journals v n = (
  (λ h.
      let q = tenancy_found journals v n (has_excuse p journals n) h in
      record { tenancy = q.0; visited = q.1; excuse = (excuse p journals q.0 n).0 q.2 }),
  (λ g. tenancy_gives journals v n (has_excuse p journals n) g.tenancy g.visited ((excuse p journals g.tenancy n).1 g.excuse)),
)
