use Rattle.std.proofs.Common.{sym, subst, arith}
use Rattle.audit_read.specs.Reached.{Reached}
use Rattle.audit_read.specs.declared.draft.Draft.{Draft}
use Rattle.audit_read.proofs.Fronts.{at_start, at_next, fault_at_line, none_read, some_read, shorter}
use Rattle.audit_read.proofs.read.read_lines.Goals as goal

pub loop-first-init : goal.loop-first-init
loop-first-init c =
    let bytes = c.args.bytes.now in
    record {
      reached = subst (λ (q : Draft). Reached bytes q 1 bytes) (sym c.requires) (at_start bytes);
      within = omega arith;
    }

pub returns-then-not-yes-clause-cause : goal.returns-then-not-yes-clause-cause
returns-then-not-yes-clause-cause c =
    fault_at_line c.args.bytes.now c.loop-first.draft c.loop-first.line c.loop-first.rest.now c.in-Some.first.line.now c.in-Some.first.behind.now
    c.loop-first.invariant.reached c.in-Some.ensures.parts c.in-Some.ensures.free
    (none_read c.loop-first.draft c.in-Some.first.line.now c.read_next.new.draft c.in_ok-yes.yes c.in_ok-yes.ensures c.if-not-yes.true)

pub loop-first-preserved : goal.loop-first-preserved
loop-first-preserved c = record {
  reached =
      at_next c.args.bytes.now c.loop-first.draft c.read_next.new.draft c.loop-first.line c.loop-first.rest.now c.in-Some.first.line.now c.in-Some.first.behind.now
      c.loop-first.invariant.reached c.in-Some.ensures.parts
      (some_read c.loop-first.draft c.in-Some.first.line.now c.read_next.new.draft c.in_ok-yes.yes c.in_ok-yes.ensures c.if-not-yes.false);
  within =
      omega (arith, c.loop-first.invariant.within, shorter c.loop-first.rest.now c.in-Some.first.line.now c.in-Some.first.behind.now c.in-Some.ensures.parts);
}
