use Rattle.std.proofs.Common.{◌≡◌, ◌≤◌}
use Rattle.net_read.specs.Plans.{NetSaid}
use Rattle.net_run.specs.Runs.{standings}
use Rattle.outside.specs.Memory.{sunk_in}
use Rattle.tiger_input.specs.Ending.{IsWritten}
use Rattle.net_promises.specs.Promises.{IsPrintedOf, NeverExceeds, peak_in, ring_at_end}
use Rattle.net_promises.proofs.Causes.{lines_written, told_of_plan, runnable, plan_cause}
use Rattle.net_promises.proofs.Lines.{printed, never_exceeds, few_peak}
use Rattle.net_promises.proofs.net_in_memory.Goals as goal

pub returns-clause-lines : goal.returns-clause-lines
returns-clause-lines g c = λ name ask is.
    lines_written c.args.files.now.entries name c.args.out.now c.tiger_top.new.out (c.tiger_top.ensures.net_done name ask is)

pub returns-clause-printed : goal.returns-clause-printed
returns-clause-printed g c = λ name ask is.
    told_of_plan c.args.files.now.entries name (IsWritten (sunk_in c.args.out.now) (sunk_in c.tiger_top.new.out))
    (λ (plan : NetSaid). IsPrintedOf plan (standings plan.orders (ring_at_end plan))) (c.tiger_top.ensures.net_done name ask is) printed

pub returns-clause-capacity : goal.returns-clause-capacity
returns-clause-capacity g c = λ name ask is.
    told_of_plan c.args.files.now.entries name (IsWritten (sunk_in c.args.out.now) (sunk_in c.tiger_top.new.out))
    NeverExceeds (c.tiger_top.ensures.net_done name ask is) never_exceeds

pub returns-clause-peak : goal.returns-clause-peak
returns-clause-peak g c = λ name ask is.
    told_of_plan c.args.files.now.entries name (IsWritten (sunk_in c.args.out.now) (sunk_in c.tiger_top.new.out))
    (λ (plan : NetSaid). (peak_in plan).sum ≤ plan.ring.capacity) (c.tiger_top.ensures.net_done name ask is) few_peak

pub returns-clause-cause : goal.returns-clause-cause
returns-clause-cause g c = λ name ask.
    plan_cause c.args.files.now c.tiger_top.new.files name c.tiger_top.result.status (c.tiger_top.ensures.net_input name ask)

pub returns-clause-complete : goal.returns-clause-complete
returns-clause-complete g c = λ name ask told none_failed put_all.
    c.tiger_top.ensures.net_complete name ask (runnable c.args.files.now.entries name (λ (plan : NetSaid). plan ≡ plan) told) none_failed put_all
