-- The plan of worked examples and of tests.
use Rattle.slot_plan.specs.declared.params.Params.{Params}

-- Eight cubs of one disk each, and sixteen slots: visit 0 of slot 1 is due after half a second. A
-- block play time has 100 beats, each of 10000 microseconds; a block has two mirror pieces, and a
-- message takes at most two beats.
abbrev pub small : Params
small = record {
  cubs = 8;
  disks = 1;
  slots = 16;
  play = 1000000;
  pieces = 2;
  block = 4;
  beat = 10000;
  delay = 2;
  skew = 4000;
  window_a = 800000;
  window_b = 200000;
  read_lead = 100000;
  min_lead = 3000000;
  max_lead = 4000000;
  batch = 20;
  heart = 50;
  deadman = 1000000;
  hold = 3000000;
}
