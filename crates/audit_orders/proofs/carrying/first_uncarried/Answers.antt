use Rattle.std.proofs.lemmas.Result.{IfOk-weaker}
use Rattle.audit_orders.specs.Carrying.{TellsGot, IsUncarriedAt, all_entries}
use Rattle.audit_orders.proofs.Posting.{if_none}
use Rattle.audit_orders.proofs.Delivering.{lost_decides}
use Rattle.audit_orders.proofs.carrying.first_uncarried.Goals as goal

pub get_all-requires-clause-at_ends : goal.get_all-requires-clause-at_ends
get_all-requires-clause-at_ends c = c.in_default.ensures

pub first_lost-requires-clause-at_ends : goal.first_lost-requires-clause-at_ends
first_lost-requires-clause-at_ends c = c.in_default.ensures

pub first_lost-requires-clause-got : goal.first_lost-requires-clause-got
first_lost-requires-clause-got c =
    let k = c.args.k.now in
    let journals = c.as_slice-journals.result.now in
    if_none c.in_ok-found.field-0 (TellsGot k.course (all_entries journals) c.get_all.new.got (all_entries journals)) (IsUncarriedAt k.course journals)
    c.in_ok-found.ensures c.in_default-2.is

pub returns : goal.returns
returns c =
    let k = c.args.k.now in
    let journals = c.as_slice-journals.result.now in
    IfOk-weaker c.first_lost.result _ _ (λ answer h.
    lost_decides k journals c.get_all.new.got answer c.as_slice-journals.ensures c.in_default.ensures
    (if_none c.in_ok-found.field-0 (TellsGot k.course (all_entries journals) c.get_all.new.got (all_entries journals)) (IsUncarriedAt k.course journals)
    c.in_ok-found.ensures c.in_default-2.is) h)
    c.first_lost.ensures
