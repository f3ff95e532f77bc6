use Rattle.std.proofs.Common.{◌≤◌, length, drop}
use Rattle.std.specs.Prelude.{◌↔◌}
use Rattle.run_facts.specs.Carried.{sent_on}
use Rattle.run_model.specs.Ways.{halved, CarriesOn, HalfCarries, got_from}
use Rattle.run_model.proofs.carrying.half_carries.Given as goal

-- what is left of both journals decides
abbrev pub invariant-loop-e : goal.invariant-loop-e
invariant-loop-e l = record {
  inside : l.next ≤ length l.receiver;
  rest : HalfCarries l.way l.sender l.receiver
      ↔ CarriesOn l.way (halved l.way (sent_on l.way.link.0 (drop l.e-index l.sender))) (got_from l.way l.next l.receiver);
}
