-- A bound of the bytes that a run keeps, beside those of its files.
use Rattle.std.specs.Prelude.{ℕ, ◌+◌, ◌*◌, ◌/◌, min}
use Rattle.slot_plan.specs.declared.params.Params.{Params}
use Rattle.scenario_read.specs.Events.{most_blocks}

-- what the program takes before a run, and for each cub and each disk
abbrev pub base_bytes : ℕ
base_bytes = 33554432

abbrev pub cub_bytes : ℕ
cub_bytes = 65536

-- for each slot, and for each start
abbrev pub slot_bytes : ℕ
slot_bytes = 1024

abbrev pub start_bytes : ℕ
start_bytes = 16384

-- for each start at each cub: what is sent ahead of it there, and what is passed on of its stop
abbrev pub passing_bytes : ℕ
passing_bytes = 1024

-- for each time that a cub says that it lives
abbrev pub heart_bytes : ℕ
heart_bytes = 1024

-- for each block that may be due, of at most as many viewers as there are slots, and for each piece that it may come in
abbrev pub due_bytes : ℕ
due_bytes = 2048

abbrev pub piece_bytes : ℕ
piece_bytes = 1024

-- the bytes of a run of so many beats with so many starts
abbrev pub memory_bound : Params → ℕ → ℕ → ℕ
memory_bound p beats starts =
    base_bytes + cub_bytes * (p.cubs * (p.disks + 1)) + slot_bytes * p.slots
    + (start_bytes + passing_bytes * p.cubs) * starts
    + heart_bytes * (p.cubs * (beats / p.heart + 1))
    + (due_bytes + piece_bytes * p.pieces) * most_blocks p beats (min starts p.slots)
