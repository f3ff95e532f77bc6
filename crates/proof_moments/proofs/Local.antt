-- What a cub takes and sends is local.
use Rattle.std.proofs.Common.{◌≡◌, ℕ, ◌<◌, List, ◌∷◌, ◌++◌, Some, refl, sym, ap, ◌∙◌, arith}
use Rattle.std.specs.Prelude.{slice_get}
use Rattle.tiger_base.specs.declared.number.LinkNo.{LinkNo}
use Rattle.tiger_base.specs.declared.tenancy.Rec.{Rec}
use Rattle.tiger_base.specs.declared.tenancy.State.{State}
use Rattle.tiger_base.specs.declared.message.Note.TheVariants as note
use Rattle.slot_plan.specs.declared.params.Params.{Params}
use Rattle.node_kit.specs.declared.course.Order.{Order}
use Rattle.node_kit.specs.declared.journal.What.{What}
use Rattle.node_kit.specs.declared.journal.What.TheVariants as what
use Rattle.node_kit.specs.declared.journal.Entry.{Entry}
use Rattle.run_facts.specs.Order.{Noted, beat_of, journal_of, order_of}
use Rattle.run_model.specs.Moments.{moment_at}
use Rattle.run_model.specs.Parts.{IsLocalRecord, IsLocalEntry, EntriesAreLocal}
use Rattle.run_model.proofs.Moments.{local_at_fronts}
use Rattle.proof_schedule.specs.Facts.{Facts}
use Rattle.proof_moments.specs.Ties.{StandsIn, Locals}
use Rattle.proof_moments.specs.Recorded.{IsRecorded}
use Rattle.proof_moments.proofs.Bridge as bridge
use Rattle.proof_moments.proofs.Free as free

module _ (p : Params) (r : Facts) (orders : List Order) (journals : List (List Entry)) (w : IsRecorded p r orders journals) (locals : Locals p journals) (beats : ℕ)
    (front : List Noted) (x : Noted) (back : List Noted) (is_log : front ++ x ∷ back ≡ order_of beats journals) (small : x.node < p.cubs) where
  stands : StandsIn journals x.node x.entry
  stands = bridge.stands p r orders journals w beats x (free.here p r orders journals w beats front x back is_log)

  -- its journal, cut at the entry
  cut : (more : List Entry) × (slice_get journals x.node ≡ Some (journal_of x.node front ++ x.entry ∷ more))
  cut =
      let c = bridge.journal_cut p r orders journals w beats front (x ∷ back) is_log x.node stands.journal stands.at in
      let whole : journal_of x.node front ++ x.entry ∷ (journal_of x.node back ++ c.0) ≡ stands.journal = ap (λ (l : List Entry). journal_of x.node front ++ (l ++ c.0)) (sym (bridge.own_first x back)) ∙ c.1 in
      (journal_of x.node back ++ c.0, stands.at ∙ ap (λ (l : List Entry). Some l) (sym whole))

  local_record : (q : Rec) → x.entry.what ≡ what.Took q → IsLocalRecord p (moment_at front) x.node x.entry.stamp.reading q
  unfolding moment_at
  local_record q is =
      let e = w.tells.took x.node x.entry q stands is in
      let s = w.one.soon x.node q.visit (beat_of x) q.tenancy e in
      let l = locals.read x.node x.entry small stands in
      record {
        for_cub = locals.for_cub x.node x.entry q small stands is;
        came = locals.brings x.node (journal_of x.node front) cut.0 x.entry q small cut.1 is;
        soon = omega arith;
      }

  local_sent : (link : LinkNo) (s : State) → x.entry.what ≡ what.Sent link (note.ViewerState s) → IsLocalEntry p (moment_at front) x.node x.entry.stamp.reading (what.Sent link (note.ViewerState s))
  unfolding moment_at
  local_sent link s is = locals.sent x.node (journal_of x.node front) cut.0 x.entry link s small cut.1 is

  local_entry : (v : What) → x.entry.what ≡ v → IsLocalEntry p (moment_at front) x.node x.entry.stamp.reading v
  local_entry (what.Took q) is = local_record q is
  local_entry (what.Sent link (note.ViewerState s)) is = local_sent link s is
  local_entry other is = tt

pub entries_are_local : (p : Params) (r : Facts) (orders : List Order) (journals : List (List Entry)) (beats : ℕ) → IsRecorded p r orders journals → Locals p journals → EntriesAreLocal p (order_of beats journals)
entries_are_local p r orders journals beats w locals = (local_at_fronts p (order_of beats journals)).1
    (λ front x back is_log small. local_entry p r orders journals w locals beats front x back is_log small x.entry.what refl)
