-- A test of the excuses of a run in which disks may die, by which a worked log is shown to have one, or none.
use Rattle.std.proofs.Common.{◌≡◌, ℕ, ◌+◌, ◌-◌, ◌<◌, Bool, ◌&&◌, ◌||◌, IsTrue, nat_lt, List, Option, Some, None, subst, arith}
use Rattle.std.specs.Prelude.{◌↔◌, ◌⊎◌}
use Rattle.tiger_base.specs.declared.tenancy.Tenancy.{Tenancy}
use Rattle.slot_plan.specs.declared.params.Params.{Params}
use Rattle.slot_plan.specs.Times.{due, cub_of, disk_of, time_of}
use Rattle.node_kit.specs.declared.journal.Entry.{Entry}
use Rattle.run_facts.specs.Commanded.{is_gone_of}
use Rattle.run_model.specs.Fronts.{AnyByRecursion}
use Rattle.run_model.specs.Served.{journal_at}
use Rattle.run_model.specs.Excuses.{IsStopOf, ReadFailed, WasStopped}
use Rattle.run_model.specs.Tests.{some_below, read_failed, stopped_before, was_stopped, some_tenancy}
use Rattle.run_model.proofs.Reflects.{both, either, less, any, some_found, some_gives}
use Rattle.run_model.proofs.Deliveries.{tenancy_found, tenancy_gives}
use Rattle.run_model.proofs.Reasons.{read_fails, stop_of}
use Rattle.spare_claims.specs.Delivery.{lead_of_splits, PieceReadFailed, IsTooSoon, IsExcusedByDisk, IsSpareExcused}

-- whether the read of a piece failed at its cub, and whether that of the whole block did too soon behind a death
abbrev pub piece_read_failed : Params → List (List Entry) → Tenancy → ℕ → Bool
piece_read_failed p journals t visit =
    some_below (λ before. read_failed t.instance.0 visit (before + 1) (journal_at journals (cub_of p (visit + (before + 1))))) p.pieces

abbrev pub is_too_soon : Params → List (List Entry) → ℕ → Tenancy → ℕ → Bool
is_too_soon p journals from t visit =
    read_failed t.instance.0 visit 0 (journal_at journals (cub_of p visit))
    && nat_lt (due p t.slot.0 visit) (time_of p from + lead_of_splits p)

-- whether a visit is excused by its disk, and whether it is by that or by a stop
abbrev pub by_disk : Params → List (List Entry) → Option ℕ → Tenancy → ℕ → Bool
by_disk p journals None t visit = read_failed t.instance.0 visit 0 (journal_at journals (cub_of p visit))
by_disk p journals (Some from) t visit = piece_read_failed p journals t visit || is_too_soon p journals from t visit

abbrev pub has_spare_excuse : Params → List (List Entry) → (ℕ → Option ℕ) → ℕ → Tenancy → Bool
has_spare_excuse p journals death visit t =
    by_disk p journals (death (disk_of p visit)) t visit || was_stopped p journals t visit

pub piece_lost : (p : Params) (journals : List (List Entry)) (t : Tenancy) (n : ℕ)
    → IsTrue (piece_read_failed p journals t n) ↔ PieceReadFailed p journals t n
piece_lost p journals t n =
    let v = t.instance.0 in
    let test : ℕ → Bool = λ before. read_failed v n (before + 1) (journal_at journals (cub_of p (n + (before + 1)))) in (
      (λ h.
          let f = some_found test p.pieces h in
          let l : f.0 < p.pieces = f.1 in
          record {
            piece = f.0 + 1;
            low = omega arith;
            high = omega arith;
            failed = (read_fails v n (f.0 + 1) (journal_at journals (cub_of p (n + (f.0 + 1))))).0 f.2;
          }),
      (λ g.
          let low = g.low in
          let high = g.high in
          let e : g.piece ≡ g.piece - 1 + 1 = omega arith in
          let failed = subst (λ (k : ℕ). ReadFailed journals (cub_of p (n + k)) v n k) e g.failed in
          some_gives test p.pieces (g.piece - 1) (omega arith)
          ((read_fails v n (g.piece - 1 + 1) (journal_at journals (cub_of p (n + (g.piece - 1 + 1))))).1 failed)),
    )

too_soon : (p : Params) (journals : List (List Entry)) (from : ℕ) (t : Tenancy) (n : ℕ)
    → IsTrue (is_too_soon p journals from t n) ↔ IsTooSoon p journals from t n
too_soon p journals from t n =
    let own = journal_at journals (cub_of p n) in
    let whole =
    both (read_failed t.instance.0 n 0 own) (nat_lt (due p t.slot.0 n) (time_of p from + lead_of_splits p))
    (ReadFailed journals (cub_of p n) t.instance.0 n 0) (due p t.slot.0 n < time_of p from + lead_of_splits p)
    (read_fails t.instance.0 n 0 own) (less (due p t.slot.0 n) (time_of p from + lead_of_splits p)) in (
      (λ h. let f = whole.0 h in record { failed = f.0; soon = f.1 }),
      (λ g. whole.1 (g.failed, g.soon)),
    )

excused_by_disk : (p : Params) (journals : List (List Entry)) (death : Option ℕ) (t : Tenancy) (n : ℕ)
    → IsTrue (by_disk p journals death t n) ↔ IsExcusedByDisk p journals death t n
excused_by_disk p journals None t n = read_fails t.instance.0 n 0 (journal_at journals (cub_of p n))
excused_by_disk p journals (Some from) t n =
    either (piece_read_failed p journals t n) (is_too_soon p journals from t n) (PieceReadFailed p journals t n) (IsTooSoon p journals from t n)
    (piece_lost p journals t n) (too_soon p journals from t n)

stops_before : (p : Params) (v time : ℕ) (journal : List Entry)
    → IsTrue (stopped_before p v time journal) ↔ AnyByRecursion (λ e. IsStopOf v e.what × (time_of p e.stamp.beat < time)) journal
stops_before p v time journal =
    any (λ e. IsStopOf v e.what × (time_of p e.stamp.beat < time)) (λ e. is_gone_of v e.what && nat_lt (time_of p e.stamp.beat) time)
    (λ e. both (is_gone_of v e.what) (nat_lt (time_of p e.stamp.beat) time) (IsStopOf v e.what) (time_of p e.stamp.beat < time) (stop_of v e.what) (less (time_of p e.stamp.beat) time))
    journal

stop_loss : (p : Params) (journals : List (List Entry)) (t : Tenancy) (n : ℕ) → IsTrue (was_stopped p journals t n) ↔ WasStopped p journals t n
unfolding was_stopped
stop_loss p journals t n =
    let v = t.instance.0 in
    let time = due p t.slot.0 n + p.play in
    any (λ journal. AnyByRecursion (λ e. IsStopOf v e.what × (time_of p e.stamp.beat < time)) journal) (stopped_before p v time) (stops_before p v time) journals

excuse : (p : Params) (journals : List (List Entry)) (death : ℕ → Option ℕ) (t : Tenancy) (n : ℕ)
    → IsTrue (has_spare_excuse p journals death n t) ↔ (IsExcusedByDisk p journals (death (disk_of p n)) t n ⊎ WasStopped p journals t n)
excuse p journals death t n =
    either (by_disk p journals (death (disk_of p n)) t n) (was_stopped p journals t n)
    (IsExcusedByDisk p journals (death (disk_of p n)) t n) (WasStopped p journals t n)
    (excused_by_disk p journals (death (disk_of p n)) t n) (stop_loss p journals t n)

-- a visit is excused if the test says so of some tenancy, and the other way round
pub excused-by-test : (p : Params) (journals : List (List Entry)) (death : ℕ → Option ℕ) (v n : ℕ)
    → IsTrue (some_tenancy journals v n (has_spare_excuse p journals death n)) → IsSpareExcused p journals death v n
excused-by-test p journals death v n h =
    let q = tenancy_found journals v n (has_spare_excuse p journals death n) h in
    record { tenancy = q.0; visited = q.1; excuse = (excuse p journals death q.0 n).0 q.2 }

pub excused-to-test : (p : Params) (journals : List (List Entry)) (death : ℕ → Option ℕ) (v n : ℕ)
    → IsSpareExcused p journals death v n → IsTrue (some_tenancy journals v n (has_spare_excuse p journals death n))
excused-to-test p journals death v n g =
    tenancy_gives journals v n (has_spare_excuse p journals death n) g.tenancy g.visited ((excuse p journals death g.tenancy n).1 g.excuse)
