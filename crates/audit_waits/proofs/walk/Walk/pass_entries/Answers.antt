use Rattle.std.proofs.Common.{arith}
use Rattle.audit_waits.proofs.Passing.{all_passed}
use Rattle.audit_waits.proofs.walk.Walk.pass_entries.Goals as goal

pub loop-line-init : goal.loop-line-init
loop-line-init c = record { marks = c.requires.marks; stands = λ orders h. h }

pub pass_entry-requires-clause-inside : goal.pass_entry-requires-clause-inside
pass_entry-requires-clause-inside c = c.in-Some.ensures.0

pub pass_entry-requires-clause-line : goal.pass_entry-requires-clause-line
pass_entry-requires-clause-line c = c.in-Some.ensures.1

pub loop-line-smaller : goal.loop-line-smaller
loop-line-smaller c = omega (arith, c.in-Some.ensures.0, c.in_ok-pass_entry.ensures.place)

pub loop-line-preserved : goal.loop-line-preserved
loop-line-preserved c = record {
  marks = c.in_ok-pass_entry.ensures.marks;
  stands = λ orders h. c.in_ok-pass_entry.ensures.stands orders c.args.beat c.args.cub.0 c.in-Some.ensures.2 (c.loop-line.invariant.stands orders h);
}

pub returns-clause-stands : goal.returns-clause-stands
returns-clause-stands c = c.loop-line.invariant.stands

pub returns-clause-all : goal.returns-clause-all
returns-clause-all c = λ orders h.
    all_passed c.args.beat c.args.cub.0 c.args.log.now c.loop-line.self.place c.requires.order (c.loop-line.invariant.stands orders h).early c.in_default.ensures
