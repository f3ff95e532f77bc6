use Rattle.std.proofs.Common.{List, sym, subst, take}
use Rattle.node_kit.specs.declared.journal.Entry.{Entry}
use Rattle.audit_orders.specs.Carrying.{all_entries, TellsPost, TellsSent}
use Rattle.audit_orders.proofs.Posting.{none_posted, none_counted, entries_more, entries_all}
use Rattle.audit_orders.proofs.carrying.send_all.Goals as goal

pub loop-n-init : goal.loop-n-init
loop-n-init c = record {
  post = none_posted c.args.course.now _ c.requires.empty;
  counts = none_counted c.args.course.now _ c.new-counts.ensures;
}

pub loop-n-preserved : goal.loop-n-preserved
loop-n-preserved c =
    let course = c.args.course.now in
    let journals = c.args.journals.now in
    let front = all_entries (take c.loop-n.n journals) in
    let both = c.in_ok-send_journal.ensures front c.loop-n.invariant.post c.loop-n.invariant.counts in
    let more = entries_more journals c.loop-n.n c.journal_at.result.now c.journal_at.ensures in
    record {
      post = subst (λ (q : List Entry). TellsPost course c.send_journal.new.post q) (sym more) both.0;
      counts = subst (λ (q : List Entry). TellsSent course c.send_journal.new.counts q) (sym more) both.1;
    }

pub returns : goal.returns
returns c =
    subst (λ (q : List Entry). TellsPost c.args.course.now c.loop-n.post q) (entries_all c.args.journals.now c.loop-n.n c.loop-n-test.false)
    c.loop-n.invariant.post
