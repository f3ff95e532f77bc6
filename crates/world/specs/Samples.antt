-- Small links and outputs, and one refused event, of which the worked rows speak. Messages and states are numbers.
use Rattle.std.specs.Prelude.{ℕ, Bool, List, [], ◌∷◌}
use Rattle.slot_plan.specs.Samples.{small}
use Rattle.node_kit.specs.declared.journal.What.TheVariants.{Gone}
use Rattle.node_kit.specs.declared.outbox.Out.{Out}
use Rattle.node_kit.specs.declared.outbox.Out.TheVariants as out
use Rattle.run_facts.specs.Events.{Dated}
use Rattle.ring_world.specs.Machine.{Way}
use Rattle.ring_world.specs.Samples.{living, machine, tick}
use Rattle.world.specs.declared.error.StepError.{StepError}
use Rattle.world.specs.Running.{IsCause}

-- A link from which so many messages are gone, with these under way.
abbrev pub way : ℕ → List (Dated ℕ) → Way ℕ
way gone under = record { gone = gone; under_way = under }

-- A message of a beat.
abbrev pub dated : ℕ → ℕ → Dated ℕ
dated beat msg = record { beat = beat; item = msg }

-- A message is sent on a link; an entry is written.
abbrev pub send : ℕ → ℕ → Out ℕ
send link msg = out.Send (record { 0 = link }) msg

abbrev pub entry : Out ℕ
entry = out.Act (Gone (record { 0 = 0 }))

-- Why a machine in a beat, with one node that lives, makes no step of a tick of that node in beat 2.
abbrev pub cause : Bool → ℕ → StepError → Type 0
cause spoilt now err =
    IsCause (record { params = small; beats = 10; machine = machine now (living 2 ∷ []); spoilt = spoilt })
    (record { stamp = record { beat = 2; reading = 20000 }; act = tick 0 }) err
