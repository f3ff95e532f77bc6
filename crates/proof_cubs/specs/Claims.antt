-- What is claimed of cubs: their rules meet the laws of one life of each, whatever befalls them.
use Rattle.std.specs.Prelude.{List}
use Rattle.slot_plan.specs.declared.params.Params.{Params}
use Rattle.slot_plan.specs.Conditions.{IsPlan}
use Rattle.node_kit.specs.declared.course.Order.{Order}
use Rattle.proof_lives.specs.Lives.{Lives}
use Rattle.proof_lives.specs.InOrder.{AreInOrder}
use Rattle.proof_lives.specs.FactsBy.{facts_by, facts_among, cubs_alone}
use Rattle.proof_facts.specs.Laws.{LifeLaws}

-- Whatever befalls cubs in a life, from beat 0 or from a return on, if their messages are in form
-- and in order, they meet the laws of records, starts, heartbeats and deschedules.
abbrev pub CubsMeetTheLaws : Type 0
CubsMeetTheLaws = (p : Params) (lives : Lives) (orders : List Order)
    → IsPlan p → AreInOrder p lives (cubs_alone p lives) orders
    → LifeLaws p (facts_by p lives (cubs_alone p lives)) (facts_among p lives (cubs_alone p lives))
