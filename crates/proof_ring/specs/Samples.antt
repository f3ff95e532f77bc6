-- A short history of which the worked rows speak.
use Rattle.std.specs.Prelude.{ℕ, ◌*◌, None}
use Rattle.tiger_base.specs.declared.message.Msg.{Msg}
use Rattle.node_kit.specs.Life.{mortal}
use Rattle.node_kit.specs.Steps.Input.{Tick}
use Rattle.run_facts.specs.Events.NodeEvent.{Does}
use Rattle.run_facts.specs.Histories.{History}

-- Each node ticks in beats 0 and 1, and its clock gains 100 micros in a beat.
abbrev pub two_beats : History Msg ℕ
two_beats = record {
  first = λ n. 0;
  life = λ n. mortal None;
  count = λ n. 2;
  event = λ n i. Does (Tick (record { beat = i; reading = i * 10100 }));
  before = λ l. 0;
}
