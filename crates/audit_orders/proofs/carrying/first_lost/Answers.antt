use Rattle.std.proofs.Common.{List, sym, subst, take, ◌++◌}
use Rattle.node_kit.specs.declared.journal.Entry.{Entry}
use Rattle.audit_orders.specs.Carrying.{all_entries, TellsSent, NoneIsLost, IsLostIn}
use Rattle.audit_orders.proofs.Posting.{if_some, if_none, none_counted, none_lost, entries_more, entries_all}
use Rattle.audit_orders.proofs.Earliest.{nowhere_stray, nowhere_wrong, lost_found}
use Rattle.audit_orders.proofs.carrying.first_lost.Goals as goal

pub loop-n-init : goal.loop-n-init
loop-n-init c = record {
  sent = none_counted c.args.course.now _ c.new-sent.ensures;
  none = none_lost c.args.course.now c.args.got.now;
}

pub returns-in-Some : goal.returns-in-Some
returns-in-Some c =
    let course = c.args.course.now in
    let journals = c.args.journals.now in
    let got = c.args.got.now in
    let front = all_entries (take c.loop-n.n journals) in
    let journal = c.journal_at.result.now in
    let found = lost_found course journals got c.loop-n.n c.in-Some.place journal (λ s. (c.requires.got s).count) c.journal_at.ensures
    (if_some _ (TellsSent course c.lost_in.new.sent (front ++ journal) × NoneIsLost course got (front ++ journal)) (IsLostIn course got front journal)
    c.in-Some.place (c.in_ok-place.ensures front c.loop-n.invariant.sent c.loop-n.invariant.none) c.in-Some.is) in
    (nowhere_stray course journals c.requires.at_ends, nowhere_wrong course journals (λ s. (c.requires.got s).first), found)

pub loop-n-preserved : goal.loop-n-preserved
loop-n-preserved c =
    let course = c.args.course.now in
    let journals = c.args.journals.now in
    let got = c.args.got.now in
    let front = all_entries (take c.loop-n.n journals) in
    let journal = c.journal_at.result.now in
    let more = entries_more journals c.loop-n.n journal c.journal_at.ensures in
    let both = if_none _ (TellsSent course c.lost_in.new.sent (front ++ journal) × NoneIsLost course got (front ++ journal))
    (IsLostIn course got front journal) (c.in_ok-place.ensures front c.loop-n.invariant.sent c.loop-n.invariant.none) c.in_default.is in
    record {
      sent = subst (λ (q : List Entry). TellsSent course c.lost_in.new.sent q) (sym more) both.0;
      none = subst (λ (q : List Entry). NoneIsLost course got q) (sym more) both.1;
    }

pub returns : goal.returns
returns c =
    subst (λ (q : List Entry). NoneIsLost c.args.course.now c.args.got.now q) (entries_all c.args.journals.now c.loop-n.n c.loop-n-test.false)
    c.loop-n.invariant.none
