-- What goes amiss: clocks that are ahead, two deaths, and disks that fail to read.
use Rattle.std.specs.Prelude.{ℕ, ◌+◌, ◌*◌, ◌%◌, ◌==◌, if◌then◌else◌, List, map, Option, Some, None}
use Rattle.std.specs.List.{range_with_len}
use Rattle.rand_pcg.specs.Lcg.{Lcg}
use Rattle.node_kit.specs.declared.course.ReadFault.{ReadFault}
use Rattle.scenario_make.specs.Draws.{after, draw}

-- how far the first n clocks are ahead, in microseconds
unfoldable pub offsets_by : Lcg → ℕ → List ℕ
offsets_by g n = map (λ i. draw g i 4001) (range_with_len 0 n)

-- when a cub dies, where only two do
abbrev pub death_among : ℕ × ℕ → ℕ × ℕ → ℕ → Option ℕ
death_among first second cub = if cub == first.0 then Some first.1 else if cub == second.0 then Some second.1 else None

-- the same for each of the first n cubs
unfoldable pub two_deaths : ℕ × ℕ → ℕ × ℕ → ℕ → List (Option ℕ)
two_deaths first second n = map (death_among first second) (range_with_len 0 n)

-- the first death, of one of 14 cubs
abbrev pub first_death : Lcg → ℕ × ℕ
first_death g = (draw g 0 14, 1000 + draw g 1 1000)

-- the second death, of a cub that is from 2 to 12 places further on in the ring
abbrev pub second_death : Lcg → ℕ × ℕ
second_death g = ((draw g 0 14 + 2 + draw g 2 11) % 14, 2500 + draw g 3 1000)

-- when each cub dies
unfoldable pub deaths_by : Lcg → List (Option ℕ)
deaths_by g = two_deaths (first_death g) (second_death g) 14

-- a read fault of one of 56 disks, for up to 200 beats
unfoldable pub fault_by : Lcg → ReadFault
fault_by g = record { disk = record { 0 = draw g 0 56 }; from = draw g 1 5000; until = draw g 1 5000 + 1 + draw g 2 200 }

-- the first n read faults, of three draws each
unfoldable pub faults_by : Lcg → ℕ → List ReadFault
faults_by g n = map (λ i. fault_by (after (3 * i) g)) (range_with_len 0 n)
