-- What files in memory tell after one was put.
use Rattle.std.proofs.Common.{◌≡◌, ℕ, List, true, false, cond, Option, Some, refl, Vec, Global}
use Rattle.std.specs.Map.{update}
use Rattle.std.specs.Str.{bytes_eq}
use Rattle.outside.specs.Told.{bytes}
use Rattle.outside.specs.Memory.{found_bytes, with_file}

pub found_bytes-update : (files : List ℕ → Option (Vec ℕ Global)) (name other : List ℕ) (v : Vec ℕ Global)
    → found_bytes (update bytes_eq files name (Some v) other) ≡ with_file (λ n. found_bytes (files n)) name v.items other
found_bytes-update files name other v =
    elim (bytes_eq name other) as (λ b. found_bytes (cond b (Some v) (files other)) ≡ cond b (bytes v.items) (found_bytes (files other))) [ true ↦ refl | false ↦ refl ]
