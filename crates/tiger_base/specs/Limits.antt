-- The limits of the numbers of a run, each by its name.
use Rattle.std.specs.Prelude.{ℕ}

-- the latest reading of a clock, in microseconds
abbrev pub most_reading : ℕ
most_reading = 1000000000000

-- the number of beats of the longest run, which is above that of each beat
abbrev pub most_beats : ℕ
most_beats = 100000

-- the last visit of a slot that a message in form may name
abbrev pub most_visit : ℕ
most_visit = 2147483648

-- how many bytes the largest file has
abbrev pub most_file : ℕ
most_file = 16777216

-- how many blocks a start may ask for: as many as the largest file has bytes
abbrev pub most_blocks : ℕ
most_blocks = 16777216
