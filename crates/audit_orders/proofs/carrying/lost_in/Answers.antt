use Rattle.std.proofs.Common.{List, sym, subst, take, ◌++◌}
use Rattle.std.proofs.lemmas.Bool.{both_ways}
use Rattle.node_kit.specs.declared.journal.Entry.{Entry}
use Rattle.audit_orders.specs.Carrying.{TellsSent, NoneIsLost}
use Rattle.audit_orders.proofs.Posting.{front_none, front_more, front_all, counts_more, lost_more, lost_here}
use Rattle.audit_orders.proofs.carrying.lost_in.Goals as goal

pub loop-i-init : goal.loop-i-init
loop-i-init c = record {
  sent = λ front h. subst (λ (q : List Entry). TellsSent c.args.course.now c.args.sent.now q) (sym (front_none front c.args.journal.now)) h;
  none = λ front h k. subst (λ (q : List Entry). NoneIsLost c.args.course.now c.args.got.now q) (sym (front_none front c.args.journal.now)) k;
}

pub returns-then-not-is_got_or_lost : goal.returns-then-not-is_got_or_lost
returns-then-not-is_got_or_lost c = λ front h k.
    lost_here c.args.course.now c.args.got.now _ front c.args.journal.now c.loop-i.i c.entry_at-e.result c.loop-i-test.true
    c.entry_at-e.ensures (c.loop-i.invariant.sent front h)
    (λ fine. both_ways c.is_got_or_lost.result c.if-not-is_got_or_lost.true (c.is_got_or_lost.ensures.1 fine))
    (c.loop-i.invariant.none front h k)

pub loop-i-preserved : goal.loop-i-preserved
loop-i-preserved c =
    let course = c.args.course.now in
    let journal = c.args.journal.now in
    let e = c.entry_at-e.result in
    record {
      sent = λ front h.
          subst (λ (q : List Entry). TellsSent course c.take_sent.new.sent q)
          (sym (front_more front journal c.loop-i.i e c.loop-i-test.true c.entry_at-e.ensures))
          (counts_more course _ _ (front ++ take c.loop-i.i journal) e c.in_ok-take_sent.ensures (c.loop-i.invariant.sent front h));
      none = λ front h k.
          subst (λ (q : List Entry). NoneIsLost course c.args.got.now q)
          (sym (front_more front journal c.loop-i.i e c.loop-i-test.true c.entry_at-e.ensures))
          (lost_more course c.args.got.now _ (front ++ take c.loop-i.i journal) e (c.loop-i.invariant.sent front h)
          (c.is_got_or_lost.ensures.0 c.if-not-is_got_or_lost.false) (c.loop-i.invariant.none front h k));
    }

pub returns : goal.returns
returns c = λ front h k. (
  subst (λ (q : List Entry). TellsSent c.args.course.now c.loop-i.sent q) (front_all front c.args.journal.now c.loop-i.i c.loop-i-test.false)
      (c.loop-i.invariant.sent front h),
  subst (λ (q : List Entry). NoneIsLost c.args.course.now c.args.got.now q) (front_all front c.args.journal.now c.loop-i.i c.loop-i-test.false)
      (c.loop-i.invariant.none front h k),
)
