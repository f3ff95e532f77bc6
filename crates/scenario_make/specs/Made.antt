-- The scenario that is made of a number, and its library.
use Rattle.std.specs.Prelude.{ℕ, List}
use Rattle.rand_pcg.specs.Lcg.{Lcg}
use Rattle.link_timing.specs.declared.Delay.TheVariants.{Drawn}
use Rattle.slot_plan.specs.declared.params.Params.{Params}
use Rattle.scenario_read.specs.Meaning.{Said, of_none}
use Rattle.scenario_make.specs.Draws.{generator_of, after}
use Rattle.scenario_make.specs.Events.{events_by}
use Rattle.scenario_make.specs.Files.{lines_by, contents_by}
use Rattle.scenario_make.specs.Troubles.{offsets_by, deaths_by, faults_by}

-- the plan: 14 cubs of four disks, 602 slots, and blocks of 64 bytes
unfoldable pub made_plan : Params
made_plan = record {
  cubs = 14;
  disks = 4;
  slots = 602;
  play = 1000000;
  pieces = 4;
  block = 64;
  beat = 10000;
  delay = 2;
  skew = 4000;
  window_a = 800000;
  window_b = 200000;
  read_lead = 100000;
  min_lead = 4000000;
  max_lead = 9000000;
  batch = 20;
  heart = 50;
  deadman = 2000000;
  hold = 3000000;
}

-- what a scenario says that is drawn from a generator, and whose links draw from this number. In order 15 draws are
-- for the clocks, 24 for the files, 660 for the events, 4 for the deaths and 30 for the read faults
abbrev pub scenario_by : ℕ → Lcg → Said
scenario_by number g = record {
  plan = made_plan;
  beats = 6000;
  offsets = offsets_by g 15;
  deaths = deaths_by (after 699 g);
  cuts = of_none 14;
  backs = of_none 14;
  faults = faults_by (after 703 g) 10;
  delay = Drawn number;
  files = lines_by (after 15 g) 8;
  events = events_by (after 39 g) 300;
}

-- what the scenario says that is made of a number
unfoldable pub made_scenario : ℕ → Said
made_scenario number = scenario_by number (generator_of number)

-- the bytes of its files
unfoldable pub made_library : ℕ → List (List ℕ)
made_library number = contents_by (after 15 (generator_of number)) 8
