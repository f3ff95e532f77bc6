-- What a library is seen as.
use Rattle.std.specs.Prelude.{ℕ, List, map}
use Rattle.std.specs.declared.vec.Vec.{Vec}
use Rattle.std.specs.declared.alloc.Global.{Global}

-- the bytes of each file
abbrev pub contents : List (Vec ℕ Global) → List (List ℕ)
contents files = map (λ v. v.items) files
