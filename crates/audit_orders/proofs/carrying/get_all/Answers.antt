use Rattle.std.proofs.Common.{List, sym, subst, take, ◌++◌}
use Rattle.node_kit.specs.declared.journal.Entry.{Entry}
use Rattle.audit_orders.specs.Carrying.{all_entries, TellsGot, IsWrongIn}
use Rattle.audit_orders.proofs.Posting.{if_some, if_none, none_got, entries_more, entries_all}
use Rattle.audit_orders.proofs.Earliest.{nowhere_stray, wrong_found}
use Rattle.audit_orders.proofs.carrying.get_all.Goals as goal

pub loop-n-init : goal.loop-n-init
loop-n-init c = record { got = none_got c.args.course.now (all_entries c.args.journals.now) _ c.requires.empty }

pub returns-in-Some : goal.returns-in-Some
returns-in-Some c =
    let course = c.args.course.now in
    let journals = c.args.journals.now in
    let all = all_entries journals in
    let front = all_entries (take c.loop-n.n journals) in
    let journal = c.journal_at.result.now in
    let found = wrong_found course journals c.loop-n.n c.in-Some.place journal c.journal_at.ensures
    (if_some _ (TellsGot course all c.get_journal.new.got (front ++ journal)) (IsWrongIn course all front journal) c.in-Some.place
    (c.in_ok-place.ensures all front c.requires.post c.loop-n.invariant.got) c.in-Some.is) in
    (nowhere_stray course journals c.requires.at_ends, found)

pub loop-n-preserved : goal.loop-n-preserved
loop-n-preserved c =
    let course = c.args.course.now in
    let journals = c.args.journals.now in
    let all = all_entries journals in
    let front = all_entries (take c.loop-n.n journals) in
    let journal = c.journal_at.result.now in
    record {
      got = subst (λ (q : List Entry). TellsGot course all c.get_journal.new.got q)
          (sym (entries_more journals c.loop-n.n journal c.journal_at.ensures))
          (if_none _ (TellsGot course all c.get_journal.new.got (front ++ journal)) (IsWrongIn course all front journal)
          (c.in_ok-place.ensures all front c.requires.post c.loop-n.invariant.got) c.in_default.is);
    }

pub returns : goal.returns
returns c =
    subst (λ (q : List Entry). TellsGot c.args.course.now (all_entries c.args.journals.now) c.loop-n.got q)
    (entries_all c.args.journals.now c.loop-n.n c.loop-n-test.false) c.loop-n.invariant.got
