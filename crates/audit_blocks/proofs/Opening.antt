-- Empty tables tell of no entry.
use Rattle.std.proofs.Common.{◌≡◌, ℕ, List, [], refl, sym, ap, subst}
use Rattle.tiger_base.specs.declared.tenancy.Tenancy.{Tenancy}
use Rattle.slot_plan.specs.declared.params.Params.{Params}
use Rattle.audit_frame.specs.Tables.{MarkNumbers, mark_under}
use Rattle.audit_blocks.specs.declared.dispatches.Dispatch.{Dispatch}
use Rattle.audit_blocks.specs.declared.tables.Tables.{Tables}
use Rattle.audit_blocks.specs.Groups.{GroupsOf, group_under}
use Rattle.audit_blocks.specs.Parts.{PartNumbers, has_part}
use Rattle.audit_blocks.specs.Receipts.{KeptArrivals, came_under}
use Rattle.audit_blocks.specs.Dispatches.{has_dispatch}
use Rattle.audit_blocks.specs.Told.{AreToldBy, TellsCame, is_stop_below}

nothing_came : (v n k : ℕ) (came : KeptArrivals) → came ≡ [] → TellsCame (came_under v n k came) []
nothing_came v n k came e = subst (λ (rows : KeptArrivals). TellsCame (came_under v n k rows) []) (sym e) (record { any = refl; one = refl })

pub nothing_told : (p : Params) (t : Tables) → t.puts ≡ [] → t.deaths ≡ [] → t.returns ≡ [] → t.stops ≡ [] → t.failed ≡ [] → t.failed_whole ≡ [] → t.sent ≡ []
    → t.wholes ≡ [] → t.pieces ≡ [] → t.visits ≡ [] → AreToldBy p [] t
nothing_told p t puts deaths returns stops failed failed_whole sent wholes pieces visits = record {
  put = λ v. ap (λ (rows : GroupsOf Tenancy). group_under v rows) puts;
  died = λ n. ap (λ (rows : GroupsOf ℕ). group_under n rows) deaths;
  returned = λ n. ap (λ (rows : GroupsOf ℕ). group_under n rows) returns;
  stopped = λ v time. ap (λ (rows : MarkNumbers). is_stop_below p time (mark_under v rows)) stops;
  failed = λ v n k. ap (λ (rows : PartNumbers). has_part v n k rows) failed;
  failed_whole = λ v n. ap (λ (rows : PartNumbers). has_part v n 0 rows) failed_whole;
  sent = λ c w r. ap (λ (rows : List Dispatch). has_dispatch c w r rows) sent;
  whole = λ v n. nothing_came v n 0 t.wholes wholes;
  piece = λ v n k. nothing_came v n k t.pieces pieces;
  pieces = λ v n. ap (λ (rows : PartNumbers). has_part v n 0 rows) visits;
}
