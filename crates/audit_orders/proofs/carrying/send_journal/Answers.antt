use Rattle.std.proofs.Common.{List, sym, subst, take, ◌++◌}
use Rattle.node_kit.specs.declared.journal.Entry.{Entry}
use Rattle.audit_orders.specs.Carrying.{TellsPost, TellsSent}
use Rattle.audit_orders.proofs.Posting.{front_none, front_more, front_all, post_more, counts_more}
use Rattle.audit_orders.proofs.carrying.send_journal.Goals as goal

pub loop-i-init : goal.loop-i-init
loop-i-init c = record {
  post = λ front h k. subst (λ (q : List Entry). TellsPost c.args.course.now c.args.post.now q) (sym (front_none front c.args.journal.now)) h;
  counts = λ front h k. subst (λ (q : List Entry). TellsSent c.args.course.now c.args.counts.now q) (sym (front_none front c.args.journal.now)) k;
}

pub loop-i-preserved : goal.loop-i-preserved
loop-i-preserved c =
    let course = c.args.course.now in
    let journal = c.args.journal.now in
    let e = c.entry_at-e.result in
    record {
      post = λ front h k.
          subst (λ (q : List Entry). TellsPost course c.send_entry.new.post q)
          (sym (front_more front journal c.loop-i.i e c.loop-i-test.true c.entry_at-e.ensures))
          (post_more course _ _ _ (front ++ take c.loop-i.i journal) e c.in_ok-send_entry.ensures.post
          (c.loop-i.invariant.post front h k) (c.loop-i.invariant.counts front h k));
      counts = λ front h k.
          subst (λ (q : List Entry). TellsSent course c.send_entry.new.counts q)
          (sym (front_more front journal c.loop-i.i e c.loop-i-test.true c.entry_at-e.ensures))
          (counts_more course _ _ (front ++ take c.loop-i.i journal) e c.in_ok-send_entry.ensures.counts
          (c.loop-i.invariant.counts front h k));
    }

pub returns : goal.returns
returns c = λ front h k. (
  subst (λ (q : List Entry). TellsPost c.args.course.now c.loop-i.post q) (front_all front c.args.journal.now c.loop-i.i c.loop-i-test.false)
      (c.loop-i.invariant.post front h k),
  subst (λ (q : List Entry). TellsSent c.args.course.now c.loop-i.counts q) (front_all front c.args.journal.now c.loop-i.i c.loop-i-test.false)
      (c.loop-i.invariant.counts front h k),
)
