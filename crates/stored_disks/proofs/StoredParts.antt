-- Parts that stand one behind the other on a device that tells its bytes.
use Rattle.std.proofs.Common.{◌≡◌, ℕ, zero, suc, ◌+◌, ◌<◌, List, [], ◌∷◌, ◌++◌, length, get_or, Option, Some, None, Contains, refl, ap, ◌∙◌, subst, arith}
use Rattle.std.proofs.lemmas.List.{length-append, get_or_append_left, get_or-append-add}
use Rattle.file_disk.specs.Devices.{StandAt}
use Rattle.file_disk.specs.Extents.{NamedPart, all_bytes, extent_at, placed}
use Rattle.file_disk.specs.Fetching.{HasKept, StandsWhole}
use Rattle.file_disk.specs.declared.directory.Extent.{Extent}

-- the first of two runs of bytes, and the second
stand-front : (told : Option (List ℕ)) (at : ℕ) (xs ys : List ℕ) → StandAt told at (xs ++ ys) → StandAt told at xs
stand-front None at xs ys all = tt
stand-front (Some t) at xs ys all = λ i h. all i (omega (arith, h, length-append xs ys)) ∙ get_or_append_left xs ys 0 i h

stand-back : (told : Option (List ℕ)) (at : ℕ) (xs ys : List ℕ) → StandAt told at (xs ++ ys) → StandAt told (at + length xs) ys
stand-back None at xs ys all = tt
stand-back (Some t) at xs ys all = λ i h.
    let place : at + length xs + i ≡ at + (length xs + i) = omega arith in
    ap (λ (n : ℕ). get_or t n 0) place ∙ all (length xs + i) (omega (arith, h, length-append xs ys)) ∙ get_or-append-add xs ys i 0

-- the bytes that are kept of a part stand at its place
pub record IsStored (told : Option (List ℕ)) (e : Extent) : Type 0 where
  pub bytes : List ℕ
  pub has : HasKept e bytes
  pub stands : StandAt told e.at bytes

stored-at : (told : Option (List ℕ)) (at : ℕ) (ps : List NamedPart) (k : ℕ) (e : Extent) → k < length (placed at ps)
    → get_or (placed at ps) k e ≡ e → StandAt told at (all_bytes ps) → IsStored told e
stored-at told at [] k e h same all = absurd (omega (arith, h))
stored-at told at (p ∷ ps) zero e h same all =
    let one : IsStored told (extent_at at p) = record {
      bytes = p.bytes;
      has = record { len = refl; digest = refl };
      stands = stand-front told at p.bytes (all_bytes ps) all;
    } in
    subst (λ (x : Extent). IsStored told x) same one
stored-at told at (p ∷ ps) (suc k) e h same all =
    stored-at told (at + length p.bytes) ps k e (omega (arith, h)) same (stand-back told at p.bytes (all_bytes ps) all)

pub stored-in : (told : Option (List ℕ)) (at : ℕ) (ps : List NamedPart) (e : Extent) → Contains (placed at ps) e → StandAt told at (all_bytes ps) → IsStored told e
stored-in told at ps e in_list all = stored-at told at ps in_list.0 e in_list.1 in_list.2 all

-- so a device that tells of none that it stands whole tells nothing
pub tells-none : (told : Option (List ℕ)) (e : Extent) → IsStored told e → ((bytes : List ℕ) → StandsWhole (Some e) told bytes → ⊥) → told ≡ None
tells-none None e stored not_whole = refl
tells-none (Some t) e stored not_whole = absurd (not_whole stored.bytes (stored.has, stored.stands))

-- as many are kept as there are
pub length-placed : (at : ℕ) (ps : List NamedPart) → length (placed at ps) ≡ length ps
length-placed at [] = refl
length-placed at (p ∷ ps) = ap suc (length-placed (at + length p.bytes) ps)
