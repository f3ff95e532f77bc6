-- Things that are kept beside a time, and plans under which the times of visits are the same.
use Rattle.std.specs.Prelude.{ℕ, ◌+◌, ◌==◌, ◌&&◌, Bool, List, map}
use Rattle.slot_plan.specs.declared.params.Params.{Params}
use Rattle.slot_plan.specs.Keys.{Key, due_of}

-- the things alone
abbrev pub untimed : {X : Type 0} → List (X × ℕ) → List X
untimed xs = map (λ x. x.0) xs

-- the end of a visit's play time
abbrev pub end_of : Params → Key → ℕ
end_of p k = due_of p k + p.play

-- whether two plans are the same in the numbers that the times of visits come of
abbrev pub has_same_times : Params → Params → Bool
has_same_times p q = p.cubs == q.cubs && p.disks == q.disks && p.slots == q.slots && p.play == q.play
