-- What a toy node does and where it stands, by the links that it may have: one for what its ticks send, and one for what
-- it passes on.
use Rattle.std.specs.Prelude.{◌≡◌, ℕ, Bool, List, [], ◌∷◌, Option, Some, if◌then◌else◌}
use Rattle.std.specs.Option.{ForSome, option_map_or}
use Rattle.tiger_base.specs.declared.number.LinkNo.{LinkNo}
use Rattle.tiger_base.specs.declared.message.Msg.{Msg}
use Rattle.tiger_base.specs.declared.message.Msg.TheVariants.{Heartbeat}
use Rattle.node_kit.specs.declared.outbox.Out.{Out}
use Rattle.node_kit.specs.declared.journal.What.TheVariants.{Gone}
use Rattle.node_kit.specs.declared.outbox.Out.TheVariants.{Act, Send}
use Rattle.node_kit.specs.Links.{Links, ends_of}
use Rattle.node_kit.specs.Steps.{Deed, Input}
use Rattle.node_kit.specs.Steps.Input.{Take, Tick}

-- a heartbeat on a link, if there is one
abbrev pub beat_on : Option LinkNo → List (Out Msg)
beat_on link = option_map_or (λ l. Send l Heartbeat ∷ []) link []

-- the same, or two of them
abbrev pub beats_on : Bool → Option LinkNo → List (Out Msg)
beats_on twice link =
    option_map_or (λ l. if twice then Send l Heartbeat ∷ Send l Heartbeat ∷ [] else Send l Heartbeat ∷ []) link []

-- a message is passed on, and a tick sends once or twice, each if there is a link for that
abbrev pub toy_step : {S : Type 0} → (S → Option LinkNo) → (S → Option LinkNo) → (S → Bool) → S → Input Msg
    → Deed Msg S
toy_step out relay twice s (Take stamp link msg) = record { outs = beat_on (relay s); state = s }
toy_step out relay twice s (Tick stamp) = record { outs = beats_on (twice s) (out s); state = s }

-- the links lead from node n
abbrev pub LeadFrom : Links → ℕ → Option LinkNo → Option LinkNo → Type 0
LeadFrom links n out relay = ForSome out (λ l. (to : ℕ) × (ends_of links l.0 ≡ Some (n, to)))
    × ForSome relay (λ l. (to : ℕ) × (ends_of links l.0 ≡ Some (n, to)))

-- a node in the place of cub 2 sends to cub 3: one message at each that it takes, and two at a tick, with an entry
-- between them
abbrev to_cub_3 : Out Msg
to_cub_3 = Send (record { 0 = 28 }) Heartbeat

abbrev pub talk : {S : Type 0} → S → Input Msg → Deed Msg S
talk s (Take stamp link msg) = record { outs = to_cub_3 ∷ []; state = s }
talk s (Tick stamp) = record { outs = to_cub_3 ∷ Act (Gone (record { 0 = 1 })) ∷ to_cub_3 ∷ []; state = s }
