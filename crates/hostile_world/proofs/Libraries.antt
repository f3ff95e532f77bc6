-- What one file more makes of a library's contents.
use Rattle.std.proofs.Common.{◌≡◌, ℕ, List, [], ◌∷◌, ◌++◌, length}
use Rattle.std.proofs.lemmas.List.{length-map, map-append}
use Rattle.std.specs.declared.vec.Vec.{Vec}
use Rattle.std.specs.declared.alloc.Global.{Global}
use Rattle.tiger_base.specs.Library.{contents}

pub length-contents : (files : List (Vec ℕ Global)) → length (contents files) ≡ length files
length-contents files = length-map files (λ v. v.items)

pub contents-push : (files : List (Vec ℕ Global)) (file : Vec ℕ Global)
    → contents (files ++ file ∷ []) ≡ contents files ++ file.items ∷ []
contents-push files file = map-append (λ (v : Vec ℕ Global). v.items) files (file ∷ [])
