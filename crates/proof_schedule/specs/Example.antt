-- Two runs of the small plan in which one viewer is put, as lists of facts that meet the laws. In
-- the second one a cub dies and comes back.
use Rattle.std.specs.Prelude.{ℕ, zero, suc, ◌+◌, List, [], ◌∷◌}
use Rattle.tiger_base.specs.declared.tenancy.Ask.{Ask}
use Rattle.tiger_base.specs.declared.tenancy.Tenancy.{Tenancy}
use Rattle.slot_plan.specs.Conditions.{IsPlan}
use Rattle.slot_plan.specs.Samples.{small}
use Rattle.proof_schedule.specs.Laws.{Laws}
use Rattle.proof_schedule.specs.Logs.{Fact, facts_in, Came, Ticked, Put, Inserted, Shows, Sent, Begun, Asked, Died, Returned, Beat, Heard}

-- The order of one viewer, for a file of one block on disk 0.
abbrev pub order : Ask
order = record {
  instance = record { 0 = 0 };
  file = record { 0 = 0 };
  count = 1;
  disk = record { 0 = 0 };
}

-- What cub 0 makes of it: a tenancy of visit 0 of slot 1.
abbrev pub viewer : Tenancy
viewer = record {
  instance = record { 0 = 0 };
  file = record { 0 = 0 };
  slot = record { 0 = 1 };
  first = 0;
  last = 0;
}

-- In beat 0 each of the first n cubs ticks, and sends a heartbeat.
abbrev pub first_beat : ℕ → List Fact
first_beat zero = []
first_beat (suc c) = Came c 0 ∷ Ticked c 0 0 ∷ Beat c 0 ∷ first_beat c

-- The controller sends the order's starts in beat 0. In beat 1 cub 0 gets the plain one and puts
-- the viewer at its tick.
abbrev pub one_put : List Fact
one_put =
    Begun order 0
    ∷ Asked 0 order 1
    ∷ Came 0 1
    ∷ Ticked 0 1 10000
    ∷ Put 0 viewer 1
    ∷ Inserted 0 viewer 0 1
    ∷ Sent 0 1 viewer 0 1
    ∷ Shows 0 viewer 0 1
    ∷ first_beat 8

-- Cub c lives: in beat 1 it hears its predecessor, and it ticks in beats 1 and 2. Then come other
-- facts.
abbrev pub lives : ℕ → List Fact → List Fact
lives c more =
    Heard c 1
    ∷ Came c 1
    ∷ Ticked c 1 10000
    ∷ Came c 2
    ∷ Ticked c 2 20000
    ∷ more

-- So do n cubs from cub 2 on, after the first beat of all cubs.
abbrev pub others : ℕ → List Fact
others zero = first_beat 8
others (suc n) = lives (n + 2) (others n)

-- Cub 0 puts the viewer, as above, and sends its state to cub 1. But cub 1 dies in beat 1. So the
-- state is lost, and so is cub 0's heartbeat of beat 0. In beat 3, by which both would have come,
-- cub 1 comes back: it comes to its tick and ends the beat.
abbrev pub one_return : List Fact
one_return =
    Begun order 0
    ∷ Asked 0 order 1
    ∷ Put 0 viewer 1
    ∷ Inserted 0 viewer 0 1
    ∷ Sent 0 1 viewer 0 1
    ∷ Shows 0 viewer 0 1
    ∷ Died 1 1
    ∷ Returned 1 3
    ∷ Came 1 3
    ∷ Ticked 1 3 30000
    ∷ lives 0 (others 6)

-- The laws can be met, in a run in which a Put is made, and in one in which the cub to which the
-- Put's state is sent dies, comes back and ends a beat.
abbrev pub LawsCanBeMet : Type 0
LawsCanBeMet = IsPlan small
    × Laws small (facts_in one_put)
    × (facts_in one_put).Put 0 viewer 1
    × Laws small (facts_in one_return)
    × (facts_in one_return).Sent 0 1 viewer 0 1
    × (facts_in one_return).Died 1 1
    × (facts_in one_return).Returned 1 3
    × (facts_in one_return).Ticked 1 3 30000
