-- Parts of numbers one after another.
use Rattle.std.proofs.Common.{◌≡◌, ℕ, zero, suc, ◌+◌, ◌<◌, ◌≤◌, List, ◌++◌, length, ap, sym, ◌∙◌, append_assoc, arith}
use Rattle.std.specs.List.{flat_map, range_with_len}
use Rattle.std.proofs.lemmas.List.{append-nil}
use Rattle.file_disk.specs.Devices.{DeviceState}
use Rattle.file_disk.specs.Extents.{NamedPart, all_bytes}
use Rattle.file_disk.specs.Storing.{Progress, Stored, StoreCause}
use Rattle.file_disk.specs.declared.putting.StoreFault.{StoreFault}
use Rattle.file_disk.proofs.Joining.{size-append, stored-join, stored-as, cause-join}

-- the parts of n numbers from one on
abbrev pub parts_in : (ℕ → List NamedPart) → ℕ → ℕ → List NamedPart
parts_in g a n = flat_map g (range_with_len a n)

parts-suc : (g : ℕ → List NamedPart) (a n j : ℕ) → a + n ≡ j → parts_in g a (suc n) ≡ parts_in g a n ++ g j
parts-suc g a zero j e =
    let same : a ≡ j = omega (arith, e) in append-nil (g a) ∙ ap g same
parts-suc g a (suc n) j e =
    ap (λ (ps : List NamedPart). g a ++ ps) (parts-suc g (a + 1) n j (omega (arith, e)))
    ∙ sym (append_assoc (g a) (parts_in g (a + 1) n) (g j))

-- one number more
pub parts-more : (g : ℕ → List NamedPart) (a n m j : ℕ) → m ≡ n + 1 → a + n ≡ j → parts_in g a n ++ g j ≡ parts_in g a m
parts-more g a n m j e at =
    let same : suc n ≡ m = omega (arith, e) in
    sym (parts-suc g a n j at) ∙ ap (λ (k : ℕ). parts_in g a k) same

-- the bytes of the first ones, and of the next
pub parts-front : (g : ℕ → List NamedPart) (a n m j : ℕ) → n < m → a + n ≡ j
    → length (all_bytes (parts_in g a n)) + length (all_bytes (g j)) ≤ length (all_bytes (parts_in g a m))
parts-front g a n zero j lt e = absurd (omega (arith, lt))
parts-front g a zero (suc m) j lt e =
    let same : a ≡ j = omega (arith, e) in
    let here : length (all_bytes (g a)) ≡ length (all_bytes (g j)) = ap (λ (k : ℕ). length (all_bytes (g k))) same in
    omega (arith, here, size-append (g a) (parts_in g (a + 1) m))
parts-front g a (suc n) (suc m) j lt e =
    let rest = parts-front g (a + 1) n m j (omega (arith, lt)) (omega (arith, e)) in
    omega (arith, rest, size-append (g a) (parts_in g (a + 1) n), size-append (g a) (parts_in g (a + 1) m))

-- one turn of a loop
pub turned : (g : ℕ → List NamedPart) (a n m j : ℕ) (old mid new : Progress) → m ≡ n + 1 → a + n ≡ j
    → Stored old mid (parts_in g a n) → Stored mid new (g j) → Stored old new (parts_in g a m)
turned g a n m j old mid new e at s t =
    stored-as old new (parts_in g a n ++ g j) (parts_in g a m) (parts-more g a n m j e at)
    (stored-join old mid new (parts_in g a n) (g j) s t)

-- a turn that was cut short
pub cut-turn : (g : ℕ → List NamedPart) (a n m j : ℕ) (old mid : Progress) (d : DeviceState) (fault : StoreFault)
    → n < m → a + n ≡ j → Stored old mid (parts_in g a n)
    → StoreCause mid.device d mid.next (length (all_bytes (g j))) fault
    → StoreCause old.device d old.next (length (all_bytes (parts_in g a m))) fault
cut-turn g a n m j old mid d fault lt at s cause =
    cause-join old mid d (parts_in g a n) (length (all_bytes (g j))) (length (all_bytes (parts_in g a m))) fault s (parts-front g a n m j lt at) cause
