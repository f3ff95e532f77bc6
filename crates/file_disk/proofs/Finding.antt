-- The extent of a name among extents whose names rise.
use Rattle.std.proofs.Common.{◌≡◌, ◌≢◌, ℕ, zero, suc, ◌+◌, ◌<◌, ◌≤◌, Bool, true, false, cond, nat_lt, if◌then◌else◌, List, [], ◌∷◌, length, get_or, Option, Some, None, option_and_then, slice_get, IfSome, refl, sym, ap, ◌∙◌, subst, arith, ltb-true, ltb-false}
use Rattle.std.specs.List.{AllByRecursion}
use Rattle.std.proofs.lemmas.List.Sums.{sum_by-cons}
use Rattle.std.proofs.lemmas.List.{length-append}
use Rattle.file_disk.specs.Devices.{last_end}
use Rattle.file_disk.specs.Extents.{NamedPart, all_bytes, extent_at, placed, total_len, rank, Rise, extent_names, same_name, extent_of, above_ranks}
use Rattle.file_disk.specs.declared.directory.Extent.{Extent}
use Rattle.file_disk.specs.declared.directory.PartName.{PartName}
use Rattle.file_disk.proofs.Names.{other_rank}

-- none comes before the number from which they rise
rise-low : (es : List Extent) (low high : ℕ) → Rise low (extent_names es) high
    → (j : ℕ) (d : Extent) → j < length es → low ≤ rank (get_or es j d).name
rise-low [] low high r j d h = absurd (omega (arith, h))
rise-low (e ∷ es) low high r zero d h = r.0
rise-low (e ∷ es) low high r (suc j) d h =
    let later = rise-low es (rank e.name + 1) high r.1 j d (omega (arith, h)) in
    omega (arith, r.0, later)

-- as a search by halving wants it
pub rise-ordered : (es : List Extent) (low high : ℕ) → Rise low (extent_names es) high
    → (i j : ℕ) (d : Extent) → i ≤ j → j < length es → rank (get_or es i d).name ≤ rank (get_or es j d).name
rise-ordered [] low high r i j d le h = absurd (omega (arith, h))
rise-ordered (e ∷ es) low high r zero zero d le h = omega arith
rise-ordered (e ∷ es) low high r zero (suc j) d le h =
    let later = rise-low es (rank e.name + 1) high r.1 j d (omega (arith, h)) in
    omega (arith, later)
rise-ordered (e ∷ es) low high r (suc i) zero d le h = absurd (omega (arith, le))
rise-ordered (e ∷ es) low high r (suc i) (suc j) d le h =
    rise-ordered es (rank e.name + 1) high r.1 i j d (omega (arith, le)) (omega (arith, h))

-- no name among those that rise from above it
none-above : (name : PartName) (es : List Extent) (low high : ℕ) → Rise low (extent_names es) high → rank name < low → extent_of es name ≡ None
none-above name [] low high r above = refl
none-above name (e ∷ es) low high r above =
    let differs : rank e.name ≢ rank name = λ same. omega (arith, same, r.0, above) in
    rw (other_rank e.name name differs) (none-above name es (rank e.name + 1) high r.1 (omega (arith, r.0, above)))

-- an extent, if it is that of a name
abbrev pub if_named : PartName → Extent → Option Extent
if_named name e = if same_name e.name name then Some e else None

first-at : (e : Extent) (rest : Option Extent) (b : Bool) → rest ≡ None → cond b (Some e) rest ≡ cond b (Some e) None
first-at e rest true none = refl
first-at e rest false none = none

-- what stands where the names are no longer before a name is what is kept of it, or nothing is
pub found : (name : PartName) (es : List Extent) (i low high : ℕ) → Rise low (extent_names es) high
    → ((k : ℕ) (d : Extent) → 0 ≤ k → k < i → nat_lt (rank (get_or es k d).name) (rank name) ≡ true)
    → ((k : ℕ) (d : Extent) → i ≤ k → k < length es → nat_lt (rank (get_or es k d).name) (rank name) ≡ false)
    → extent_of es name ≡ option_and_then (if_named name) (slice_get es i)
found name [] i low high r before behind = refl
found name (e ∷ es) zero low high r before behind =
    let reached = ltb-false (rank e.name) (rank name) (behind zero e (omega arith) (omega arith)) in
    let none = none-above name es (rank e.name + 1) high r.1 (omega (arith, reached)) in
    first-at e (extent_of es name) (same_name e.name name) none
found name (e ∷ es) (suc i) low high r before behind =
    let below = ltb-true (rank e.name) (rank name) (before zero e (omega arith) (omega arith)) in
    let differs : rank e.name ≢ rank name = λ same. omega (arith, same, below) in
    rw (other_rank e.name name differs)
    (found name es i (rank e.name + 1) high r.1
    (λ k d l h. before (suc k) d (omega arith) (omega (arith, h)))
    (λ k d l h. behind (suc k) d (omega (arith, l)) (omega (arith, h))))

-- what a search by halving finds is what is kept
pub find-value : (es self : List Extent) (name : PartName) (i : ℕ) (o r : Option Extent) → es ≡ self → Rise 0 (extent_names es) above_ranks
    → ((k : ℕ) (d : Extent) → 0 ≤ k → k < i → nat_lt (rank (get_or es k d).name) (rank name) ≡ true)
    → ((k : ℕ) (d : Extent) → i ≤ k → k < length es → nat_lt (rank (get_or es k d).name) (rank name) ≡ false)
    → o ≡ slice_get es i → r ≡ option_and_then (if_named name) o → r ≡ extent_of self name
find-value es self name i o r same rise before behind there is =
    is ∙ ap (option_and_then (if_named name)) there ∙ sym (found name es i 0 above_ranks rise before behind)
    ∙ ap (λ (xs : List Extent). extent_of xs name) same

-- and it ends no later than all do
within-ends : (es : List Extent) (i : ℕ) (e : Extent) → AllByRecursion (λ (x : Extent). x.at + x.len ≤ last_end) es → slice_get es i ≡ Some e → e.at + e.len ≤ last_end
within-ends [] i e all there = absurd (cc)
within-ends (x ∷ xs) zero e all there =
    let same : x ≡ e = cc in subst (λ (y : Extent). y.at + y.len ≤ last_end) same all.0
within-ends (x ∷ xs) (suc i) e all there = within-ends xs i e all.1 there

pub get-end : (es : List Extent) (i : ℕ) (o : Option Extent) → AllByRecursion (λ (x : Extent). x.at + x.len ≤ last_end) es → o ≡ slice_get es i
    → IfSome o (λ x. x.at + x.len ≤ last_end)
get-end es i None all there = tt
get-end es i (Some e) all there = within-ends es i e all (sym there)

if-ends : (b : Bool) (e : Extent) → e.at + e.len ≤ last_end → IfSome (if b then Some e else None) (λ x. x.at + x.len ≤ last_end)
if-ends true e h = h
if-ends false e h = tt

named-ends : (es : List Extent) (name : PartName) (i : ℕ) (o : Option Extent) → AllByRecursion (λ (x : Extent). x.at + x.len ≤ last_end) es
    → slice_get es i ≡ o → IfSome (option_and_then (if_named name) o) (λ x. x.at + x.len ≤ last_end)
named-ends es name i None all there = tt
named-ends es name i (Some e) all there = if-ends (same_name e.name name) e (within-ends es i e all there)

pub find-end : (es : List Extent) (name : PartName) (i : ℕ) (o r : Option Extent) → AllByRecursion (λ (x : Extent). x.at + x.len ≤ last_end) es
    → o ≡ slice_get es i → r ≡ option_and_then (if_named name) o → IfSome r (λ x. x.at + x.len ≤ last_end)
find-end es name i o r all there is =
    subst (λ (q : Option Extent). IfSome q (λ x. x.at + x.len ≤ last_end)) (sym is) (named-ends es name i o all (sym there))

-- no part of those that are placed ends past their end
pub ends-placed : (at : ℕ) (ps : List NamedPart) → at + length (all_bytes ps) ≤ last_end
    → AllByRecursion (λ (e : Extent). e.at + e.len ≤ last_end) (placed at ps)
ends-placed at [] h = tt
ends-placed at (p ∷ ps) h =
    let whole = length-append p.bytes (all_bytes ps) in
    (omega (arith, h, whole), ends-placed (at + length p.bytes) ps (omega (arith, h, whole)))

-- the sum of their bytes
pub total-placed : (at : ℕ) (ps : List NamedPart) → total_len (placed at ps) ≡ length (all_bytes ps)
total-placed at [] = refl
total-placed at (p ∷ ps) =
    let more = sum_by-cons (λ (e : Extent). e.len) (extent_at at p) (placed (at + length p.bytes) ps) in
    more ∙ omega (arith, total-placed (at + length p.bytes) ps, length-append p.bytes (all_bytes ps))
