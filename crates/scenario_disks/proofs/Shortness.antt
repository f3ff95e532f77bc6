-- The files of a scenario's catalogue are few and short.
use Rattle.std.proofs.Common.{◌≡◌, ℕ, zero, suc, ◌<◌, ◌≤◌, List, [], ◌∷◌, length, map, drop, get_or, All, ap, sym, ◌∙◌, arith}
use Rattle.std.proofs.lemmas.List.{length-map}
use Rattle.stripe_layout.specs.declared.catalogue.FileInfo.{FileInfo}

abbrev sizes : List (List ℕ) → List ℕ
sizes library = map (λ bytes. length bytes) library

abbrev lengths_of : List FileInfo → List ℕ
lengths_of files = map (λ (info : FileInfo). info.len) files

first-same : (x y : ℕ) (xs ys : List ℕ) → x ∷ xs ≡ y ∷ ys → x ≡ y
first-same x y xs ys e = ap (λ (zs : List ℕ). get_or zs 0 0) e

rest-same : (x y : ℕ) (xs ys : List ℕ) → x ∷ xs ≡ y ∷ ys → xs ≡ ys
rest-same x y xs ys e = ap (λ (zs : List ℕ). drop 1 zs) e

at-number : (most : ℕ) (b : List ℕ) (bs : List (List ℕ)) (f : FileInfo) (fs : List FileInfo) → length b ≡ f.len → length b ≤ most
    → All (λ (info : FileInfo). info.len ≤ most) fs → (k : ℕ) (d : FileInfo) → k < length (f ∷ fs) → (get_or (f ∷ fs) k d).len ≤ most
at-number most b bs f fs e h rest zero d lt = omega (arith, e, h)
at-number most b bs f fs e h rest (suc k) d lt = rest k d (omega (arith, lt))

pub short-files : (most : ℕ) (library : List (List ℕ)) (files : List FileInfo) → sizes library ≡ lengths_of files
    → All (λ (bytes : List ℕ). length bytes ≤ most) library → All (λ (info : FileInfo). info.len ≤ most) files
short-files most library [] e all = λ k d lt. absurd (omega (arith, lt))
short-files most [] (f ∷ fs) e all = absurd (cc)
short-files most (b ∷ bs) (f ∷ fs) e all = λ k d lt.
    at-number most b bs f fs (first-same (length b) f.len (sizes bs) (lengths_of fs) e) (all 0 b (omega arith))
    (short-files most bs fs (rest-same (length b) f.len (sizes bs) (lengths_of fs) e) (λ j x h. all (suc j) x (omega (arith, h)))) k d lt

pub as-many : (library : List (List ℕ)) (files : List FileInfo) → sizes library ≡ lengths_of files → length files ≡ length library
as-many library files e =
    sym (length-map files (λ (info : FileInfo). info.len)) ∙ sym (ap length e) ∙ length-map library (λ (bytes : List ℕ). length bytes)
