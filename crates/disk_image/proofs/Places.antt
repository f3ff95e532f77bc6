-- What the place of a block is in a library whose lengths the catalogue has.
use Rattle.std.proofs.Common.{◌≡◌, ℕ, ◌+◌, ◌%◌, ◌<◌, ◌≤◌, List, length, map, Option, Some, None, slice_get, option_map, refl, ap, sym, subst, inl, inr, ◌∙◌, arith}
use Rattle.std.proofs.lemmas.List.{length-map}
use Rattle.std.proofs.lemmas.Option.{slice_get_cases, slice_get_past, slice_get-map}
use Rattle.tiger_base.specs.declared.number.FileNo.{FileNo}
use Rattle.stripe_layout.specs.Places.{place_of, block_count, place_in}
use Rattle.stripe_layout.specs.declared.catalogue.FileInfo.{FileInfo}
use Rattle.stripe_layout.specs.declared.catalogue.Catalogue.{Catalogue}
use Rattle.stripe_layout.specs.declared.place.Place.{Place}
use Rattle.stripe_layout.proofs.Blocks.{place_of-some, IsPlace-place_in, place_of-there, block_count-there}
use Rattle.std.proofs.Math.Nat.{mod-add-mod}
use Rattle.disk_image.specs.Image.{HasLengths}

-- a block that has a place is one of a file
pub place_file : (c : Catalogue) (file : FileNo) (block : ℕ) (p : Place) → place_of c file block ≡ Some p → (info : FileInfo) × (slice_get c.files file.0 ≡ Some info)
unfolding place_of
place_file c file block p e =
    elim (slice_get_cases c.files file.0).1 [
      | inl here ↦ (here.0, here.2)
      | inr past ↦ let none = rw past.1 at e in absurd (cc)
    ]

-- its length is that of the library's file
pub same_length : (library : List (List ℕ)) (c : Catalogue) (n : ℕ) (info : FileInfo) (bytes : List ℕ) → HasLengths library c → slice_get c.files n ≡ Some info
    → slice_get library n ≡ Some bytes → info.len ≡ length bytes
same_length library c n info bytes lengths e h =
    let a : option_map (λ (i : FileInfo). i.len) (slice_get c.files n) ≡ Some info.len = ap (option_map (λ (i : FileInfo). i.len)) e in
    let b : option_map (λ (x : List ℕ). length x) (slice_get library n) ≡ Some (length bytes) = ap (option_map (λ (x : List ℕ). length x)) h in
    let la = slice_get-map (λ (i : FileInfo). i.len) c.files n in
    let lb = slice_get-map (λ (x : List ℕ). length x) library n in
    let l : slice_get (map (λ (x : List ℕ). length x) library) n ≡ slice_get (map (λ (i : FileInfo). i.len) c.files) n = ap (λ (xs : List ℕ). slice_get xs n) lengths in
    let joined : Some info.len ≡ Some (length bytes) = sym a ∙ sym la ∙ sym l ∙ lb ∙ b in
    cc

-- the place of a block is in its file, and no longer than a full block
pub record IsFitting (file : FileNo) (bytes : List ℕ) (p : Place) : Type 0 where
  pub same : p.span.file ≡ file
  pub short : p.span.len ≤ 1048576
  pub inside : p.span.from + p.span.len ≤ length bytes

pub place_fits : (library : List (List ℕ)) (c : Catalogue) (file : FileNo) (block : ℕ) (p : Place) (bytes : List ℕ) → HasLengths library c
    → place_of c file block ≡ Some p → slice_get library file.0 ≡ Some bytes → IsFitting file bytes p
place_fits library c file block p bytes lengths e h =
    let at = place_file c file block p e in
    let there = place_of-some c file at.0 block p at.1 e in
    let is = IsPlace-place_in c file at.0 block there.0 in
    let len = same_length library c file.0 at.0 bytes lengths at.1 h in
    let Fits : Place → Type 0 = λ q. IsFitting file bytes q in
    subst Fits (sym there.1) (record { same = is.file_same; short = omega (arith, is.short, c.sound.block_high); inside = omega (arith, is.inside) })

-- its disk
pub place_disk : (c : Catalogue) (file : FileNo) (block : ℕ) (p : Place) → place_of c file block ≡ Some p
    → (first : Place) × (place_of c file 0 ≡ Some first) × (p.disk.0 ≡ (first.disk.0 + block) % c.disks) × (block < block_count c file.0)
place_disk c file block p e =
    let at = place_file c file block p e in
    let info = at.0 in
    let there = place_of-some c file info block p at.1 e in
    let zero = place_of-there c file info 0 at.1 (omega (arith, there.0)) in
    let none : info.disk.0 + 0 ≡ info.disk.0 = omega arith in
    let turned : ((info.disk.0 + 0) % c.disks + block) % c.disks ≡ (info.disk.0 + block) % c.disks =
    mod-add-mod (info.disk.0 + 0) c.disks block ∙ ap (λ (n : ℕ). (n + block) % c.disks) none in
    let own : p.disk.0 ≡ (info.disk.0 + block) % c.disks = ap (λ (q : Place). q.disk.0) there.1 in
    (place_in c file info 0, zero, own ∙ sym turned, omega (arith, block_count-there c file.0 info at.1, there.0))

-- a file that has a block is one of the library
pub file_there : (library : List (List ℕ)) (c : Catalogue) (n block : ℕ) → HasLengths library c → block < block_count c n → (bytes : List ℕ) × (slice_get library n ≡ Some bytes)
unfolding block_count
file_there library c n block lengths h =
    elim (slice_get_cases library n).1 [
      | inl here ↦ (here.0, here.2)
      | inr past ↦
          let none : slice_get c.files n ≡ None = slice_get_past c.files n (omega (arith, past.0, ap length lengths, length-map library (λ (x : List ℕ). length x), length-map c.files (λ (i : FileInfo). i.len))) in
          let zero = rw none at h in
          absurd (omega arith)
    ]

-- a block that has a place lies in a file of the library
pub place_in_library : (library : List (List ℕ)) (c : Catalogue) (file : FileNo) (block : ℕ) (p : Place) → HasLengths library c
    → place_of c file block ≡ Some p
    → (bytes : List ℕ) × (slice_get library file.0 ≡ Some bytes) × IsFitting file bytes p
place_in_library library c file block p lengths e =
    let there = file_there library c file.0 block lengths (place_disk c file block p e).3 in
    (there.0, there.1, place_fits library c file block p there.0 lengths e there.1)
