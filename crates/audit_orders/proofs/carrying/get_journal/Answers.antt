use Rattle.std.proofs.Common.{List, sym, subst, take, ◌++◌}
use Rattle.std.proofs.lemmas.Bool.{both_ways}
use Rattle.node_kit.specs.declared.journal.Entry.{Entry}
use Rattle.audit_orders.specs.Carrying.{TellsGot}
use Rattle.audit_orders.proofs.Posting.{front_none, front_more, front_all, got_one_more, wrong_got}
use Rattle.audit_orders.proofs.carrying.get_journal.Goals as goal

pub loop-i-init : goal.loop-i-init
loop-i-init c = record {
  got = λ all front told h. subst (λ (q : List Entry). TellsGot c.args.course.now all c.args.got.now q) (sym (front_none front c.args.journal.now)) h;
}

pub returns-then-not-fits_next : goal.returns-then-not-fits_next
returns-then-not-fits_next c = λ all front told h.
    wrong_got c.args.course.now all front c.args.journal.now c.loop-i.i c.args.post.now _ c.entry_at-e.result c.loop-i-test.true
    c.entry_at-e.ensures told (c.loop-i.invariant.got all front told h)
    (λ fits. both_ways c.fits_next.result c.if-not-fits_next.true (c.fits_next.ensures.1 fits))

pub loop-i-preserved : goal.loop-i-preserved
loop-i-preserved c =
    let course = c.args.course.now in
    let journal = c.args.journal.now in
    let e = c.entry_at-e.result in
    record {
      got = λ all front told h.
          subst (λ (q : List Entry). TellsGot course all c.take_got.new.got q)
          (sym (front_more front journal c.loop-i.i e c.loop-i-test.true c.entry_at-e.ensures))
          (got_one_more course all (front ++ take c.loop-i.i journal) c.args.post.now _ _ e told c.in_ok-take_got.ensures
          (c.fits_next.ensures.0 c.if-not-fits_next.false) (c.loop-i.invariant.got all front told h));
    }

pub returns : goal.returns
returns c = λ all front told h.
    subst (λ (q : List Entry). TellsGot c.args.course.now all c.loop-i.got q) (front_all front c.args.journal.now c.loop-i.i c.loop-i-test.false)
    (c.loop-i.invariant.got all front told h)
