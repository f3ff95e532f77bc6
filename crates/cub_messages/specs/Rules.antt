-- What the rules on messages say of themselves beside their deeds.
use Rattle.std.specs.Prelude.{◌≡◌, ◌+◌, ◌≤◌, ◌<◌, []}
use Rattle.tiger_base.specs.declared.message.Msg.{Msg}
use Rattle.tiger_base.specs.Limits.{most_visit}
use Rattle.slot_plan.specs.declared.params.Params.{Params}
use Rattle.slot_plan.specs.Keys.{Key}
use Rattle.node_kit.specs.Steps.{Deed}
use Rattle.cub_rules.specs.declared.store.Store.{Store}

-- a deed that puts nothing out, and its state
abbrev pub DidQuietly : Deed Msg Store → Store → Type 0
DidQuietly deed h = (deed.outs ≡ []) × (h ≡ deed.state)

-- a position that a message in form, or a record of the cub, can give
abbrev pub IsNear : Params → Key → Type 0
IsNear p k = (k.0.0 < p.slots) × (k.1 ≤ most_visit + 1)
