use Rattle.scenario_read.proofs.EventFacts.{few_blocks-kept, few_blocks-broken}
use Rattle.scenario_read.proofs.events.few_blocks.Goals as goal

pub returns-then-blocks-le400000 : goal.returns-then-blocks-le400000
returns-then-blocks-le400000 c = few_blocks-kept c.args.plan.now.params c.args.beats _ c.starts_in.result c.starts_in.ensures.value c.if-blocks-le400000.true

pub returns-else-blocks-le400000 : goal.returns-else-blocks-le400000
returns-else-blocks-le400000 c = rw c.exceeded.ensures (few_blocks-broken c.args.plan.now.params c.args.beats _ c.starts_in.result c.starts_in.ensures.value c.if-blocks-le400000.false)
