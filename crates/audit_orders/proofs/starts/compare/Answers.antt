use Rattle.std.proofs.Common.{◌+◌, ◌≤◌, ℕ, length, map, take, refl, sym, ap, subst, ◌∙◌, arith}
use Rattle.audit_orders.specs.Starts.{all_sent, dated_of}
use Rattle.audit_orders.proofs.Comparing.{still_met, met_more, surplus_here, late_here, end_here, all_here}
use Rattle.audit_orders.proofs.starts.compare.Goals.{in-Other, in-Next}
use Rattle.audit_orders.proofs.starts.compare.Goals as goal

pub loop-i-init : goal.loop-i-init
loop-i-init c = record { inside = omega arith; met = refl }

pub loop-i-preserved : goal.loop-i-preserved
loop-i-preserved c =
    let p = c.args.plan.now.params in
    let wanted = c.args.wanted.now in
    let sent = all_sent p (take (c.loop-i.i + 1) c.args.journal.now) in
    elim c.match-meet.branch [
      | in-Other w ↦ record {
        inside = subst (λ (n : ℕ). n ≤ length wanted) (sym w.next-is) c.loop-i.invariant.inside;
        met = still_met p wanted c.loop-i.next c.loop-i.i c.args.journal.now c.entry_at-e.result c.meet.result c.loop-i-test.true
            c.entry_at-e.ensures c.loop-i.invariant.met c.meet.ensures w.in-Other.is
            ∙ ap (λ (n : ℕ). map dated_of (take n wanted)) (sym w.next-is);
      }
      | in-Next w ↦
          let more = met_more p wanted c.loop-i.next c.loop-i.i c.args.journal.now c.entry_at-e.result c.meet.result c.loop-i-test.true
          c.entry_at-e.ensures c.loop-i.invariant.met c.meet.ensures w.in-Next.is in
          record {
            inside = subst (λ (n : ℕ). n ≤ length wanted) (sym w.next-is) more.1;
            met = more.0 ∙ ap (λ (n : ℕ). map dated_of (take n wanted)) (sym w.next-is);
          }
    ]

pub returns-in-Surplus : goal.returns-in-Surplus
returns-in-Surplus c = λ beats orders all rises.
    surplus_here c.args.plan.now.params c.args.wanted.now c.loop-i.next c.loop-i.i c.args.journal.now c.entry_at-e.result c.meet.result
    c.requires.rising c.loop-i-test.true c.entry_at-e.ensures c.loop-i.invariant.met c.meet.ensures c.in-Surplus.is beats orders all rises

pub returns-in-Late : goal.returns-in-Late
returns-in-Late c = λ beats orders all rises.
    late_here c.args.plan.now.params c.args.wanted.now c.loop-i.next c.loop-i.i c.in-Late.order c.args.journal.now c.entry_at-e.result c.meet.result
    c.requires.rising c.loop-i-test.true c.entry_at-e.ensures c.loop-i.invariant.met c.meet.ensures c.in-Late.is beats orders all rises

pub returns-in-Some : goal.returns-in-Some
returns-in-Some c = λ beats orders all rises.
    end_here c.args.plan.now.params c.args.wanted.now c.loop-i.next c.loop-i.i c.args.journal.now c.unsent.result c.loop-i-test.false
    c.loop-i.invariant.met c.unsent.ensures c.in-Some.order c.in-Some.is beats orders all rises

pub returns-in-None : goal.returns-in-None
returns-in-None c = λ beats orders all rises.
    all_here c.args.plan.now.params c.args.wanted.now c.loop-i.next c.loop-i.i c.args.journal.now c.unsent.result c.loop-i-test.false
    c.loop-i.invariant.met c.unsent.ensures c.in-None.is beats orders all
