-- The visits of an instance are served one after another.
use Rattle.std.specs.Prelude.{◌≡◌, ◌<◌, List}
use Rattle.std.specs.List.{AllByRecursion}
use Rattle.tiger_base.specs.declared.tenancy.Want.{Want}
use Rattle.slot_plan.specs.declared.params.Params.{Params}
use Rattle.run_facts.specs.Events.{Dated}
use Rattle.run_facts.specs.Order.{Noted}
use Rattle.run_claims.specs.Deliveries.{sent_in, got_in}

-- if both are of one instance, and what is sent is of a later visit, then the other was got in an earlier beat
abbrev pub IsGotBefore : Dated Want → Dated Want → Type 0
IsGotBefore got sent =
    got.item.instance ≡ sent.item.instance → got.item.visit < sent.item.visit
    → got.beat < sent.beat

-- and so for all that the viewers got and all that was sent
abbrev pub AreInTurn : Params → List Noted → Type 0
AreInTurn p log = AllByRecursion (λ got. AllByRecursion (IsGotBefore got) (sent_in log)) (got_in p log)
