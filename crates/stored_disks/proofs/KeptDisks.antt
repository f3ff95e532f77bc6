-- Disks that are kept one behind the other.
use Rattle.std.proofs.Common.{◌≡◌, ℕ, zero, suc, ◌+◌, ◌*◌, ◌^◌, ◌<◌, ◌≤◌, inl, inr, List, ◌++◌, length, Option, Some, None, All, refl, sym, ap, ◌∙◌, subst, arith}
use Rattle.std.proofs.lemmas.Bool.{cases_lt}
use Rattle.tiger_base.specs.declared.number.DiskNo.{DiskNo}
use Rattle.stripe_layout.specs.declared.catalogue.FileInfo.{FileInfo}
use Rattle.disk_image.specs.Image.{Image}
use Rattle.file_disk.specs.Devices.{DeviceState, StandAt, AreSameOutside, AreWrittenAt}
use Rattle.file_disk.specs.Extents.{all_bytes, placed, total_len}
use Rattle.file_disk.specs.Parts.{disk_parts}
use Rattle.file_disk.specs.Storing.{StoreCause}
use Rattle.file_disk.specs.declared.directory.Extent.{Extent}
use Rattle.file_disk.specs.declared.putting.StoreFault.{StoreFault}
use Rattle.file_disk.specs.declared.putting.StoreFault.TheVariants as storing
use Rattle.file_disk.proofs.Finding.{total-placed}
use Rattle.file_disk.proofs.Joining.{same-refl, same-wider, same-trans}
use Rattle.file_disk.proofs.Sizes.{disk-short}
use Rattle.stored_disks.specs.Disks.{Disks, image_of, parts_on, bytes_on, start_of, extents_on, parts_before, line_text, disk_lines}
use Rattle.stored_disks.specs.Kept.{IsDiskKept, AreDisksKept, StandEach}
use Rattle.stored_disks.specs.Reading.{ArePartsRead}
use Rattle.stored_disks.specs.Faults.{IsPartDamaged, DisksCause, PartsCause, fault_by_store}
use Rattle.stored_disks.specs.declared.fault.DisksFault.{DisksFault}
use Rattle.stored_disks.specs.declared.fault.DisksFault.TheVariants as faults
use Rattle.stored_disks.proofs.ReadParts.{reads-of}
use Rattle.stored_disks.proofs.StoredParts.{stored-in, tells-none, length-placed}

-- so many reads were answered, nothing else was counted, and no image was opened
pub record HaveCounted (old new : DeviceState) (n : ℕ) : Type 0 where
  pub names : new.names ≡ old.names
  pub faults : new.faults ≡ old.faults
  pub reads : new.reads ≡ old.reads + n
  pub refusals : new.refusals ≡ old.refusals

pub disk-counted : (s : Disks) (d : ℕ) (a b : DeviceState) → IsDiskKept s d a b → HaveCounted a b (length (parts_on s d))
disk-counted s d a b k =
    let reads = reads-of k.stored b (extents_on s d) k.read in
    let number = length-placed (start_of s d) (parts_on s d) in
    record {
      names = reads.names ∙ k.written.names;
      faults = reads.faults ∙ k.written.faults;
      reads = omega (arith, reads.reads, k.written.reads, number);
      refusals = reads.refusals ∙ k.written.refusals;
    }

pub disks-counted : (s : Disks) (n : ℕ) (a b : DeviceState) → AreDisksKept s n a b → HaveCounted a b (parts_before s n)
disks-counted s zero a b k =
    record {
      names = ap (λ (x : DeviceState). x.names) k;
      faults = ap (λ (x : DeviceState). x.faults) k;
      reads = omega (arith, ap (λ (x : DeviceState). x.reads) k);
      refusals = ap (λ (x : DeviceState). x.refusals) k;
    }
disks-counted s (suc n) a b k =
    let first = disks-counted s n a k.0 k.1 in
    let last = disk-counted s n k.0 b k.2 in
    record {
      names = last.names ∙ first.names;
      faults = last.faults ∙ first.faults;
      reads = omega (arith, first.reads, last.reads);
      refusals = last.refusals ∙ first.refusals;
    }

-- nothing but a disk's own bytes changed
disk-outside : (s : Disks) (d : ℕ) (a b : DeviceState) → IsDiskKept s d a b → AreSameOutside a.told b.told (start_of s d) (length (bytes_on s d))
disk-outside s d a b k =
    let reads = reads-of k.stored b (extents_on s d) k.read in
    subst (λ (t : Option (List ℕ)). AreSameOutside a.told t (start_of s d) (length (bytes_on s d))) (sym reads.told) k.written.outside

-- and these stand
disk-stands : (s : Disks) (d : ℕ) (a b : DeviceState) → IsDiskKept s d a b → StandAt b.told (start_of s d) (bytes_on s d)
disk-stands s d a b k =
    let reads = reads-of k.stored b (extents_on s d) k.read in
    subst (λ (t : Option (List ℕ)). StandAt t (start_of s d) (bytes_on s d)) (sym reads.told) k.written.there

pub disks-outside : (s : Disks) (n : ℕ) (a b : DeviceState) → AreDisksKept s n a b → AreSameOutside a.told b.told 0 (start_of s n)
disks-outside s zero a b k = subst (λ (x : DeviceState). AreSameOutside a.told x.told 0 0) (sym k) (same-refl a.told 0 0)
disks-outside s (suc n) a b k =
    let len = start_of s n + length (bytes_on s n) in
    let first = same-wider a.told k.0.told 0 (start_of s n) 0 len (omega arith) (omega arith) (disks-outside s n a k.0 k.1) in
    let last = same-wider k.0.told b.told (start_of s n) (length (bytes_on s n)) 0 len (omega arith) (omega arith) (disk-outside s n k.0 b k.2) in
    same-trans a.told k.0.told b.told 0 len first last

-- bytes stand still if only bytes behind them changed
stands-still : (a b : Option (List ℕ)) (at at' len : ℕ) (bytes : List ℕ) → at + length bytes ≤ at' → AreSameOutside a b at' len → StandAt a at bytes → StandAt b at bytes
stands-still None None at at' len bytes before same stand = tt
stands-still None (Some y) at at' len bytes before same stand = absurd same
stands-still (Some x) None at at' len bytes before same stand = absurd same
stands-still (Some x) (Some y) at at' len bytes before same stand = λ i h. same (at + i) (inl (omega (arith, before, h))) ∙ stand i h

start-behind : (s : Disks) (d n : ℕ) → d < n → start_of s d + length (bytes_on s d) ≤ start_of s n
start-behind s d zero lt = absurd (omega (arith, lt))
start-behind s d (suc n) lt = elim (cases_lt d n) [
  | inl before ↦ omega (arith, start-behind s d n before)
  | inr last ↦
      let same : n ≡ d = omega (arith, lt, last) in
      subst (λ (k : ℕ). start_of s d + length (bytes_on s d) ≤ start_of s k + length (bytes_on s k)) (sym same) (omega arith)
]

pub stand-each : (s : Disks) (n : ℕ) (a b : DeviceState) → AreDisksKept s n a b → StandEach s n b.told
stand-each s zero a b k = λ d lt. absurd (omega (arith, lt))
stand-each s (suc n) a b k = λ d lt. elim (cases_lt d n) [
  | inl before ↦
      stands-still k.0.told b.told (start_of s d) (start_of s n) (length (bytes_on s n)) (bytes_on s d) (start-behind s d n before)
      (disk-outside s n k.0 b k.2) (stand-each s n a k.0 k.1 d before)
  | inr last ↦
      let same : n ≡ d = omega (arith, lt, last) in
      subst (λ (j : ℕ). StandAt b.told (start_of s j) (bytes_on s j)) same (disk-stands s n k.0 b k.2)
]

-- what tells nothing in the end told nothing before
none-before : (a b : Option (List ℕ)) (at len : ℕ) → AreSameOutside a b at len → b ≡ None → a ≡ None
none-before None b at len same none = refl
none-before (Some x) None at len same none = absurd same
none-before (Some x) (Some y) at len same none = absurd (cc)

-- why a disk was not kept
pub disk-cause : (s : Disks) (disk : DiskNo) (a b c : DeviceState) (fault : DisksFault) → disk.0 < s.catalogue.disks
    → AreWrittenAt a b (start_of s disk.0) (bytes_on s disk.0) → PartsCause disk (extents_on s disk.0) b c fault → DisksCause s a c fault
disk-cause s disk a b c faults.Device lt w cause = omega (arith, cause, w.faults)
disk-cause s disk a b c (faults.Damaged d at kept found) lt w cause =
    let e = cause.2.extent in
    let among = cause.2.stored in
    let other = cause.2.is in
    let stored = stored-in b.told (start_of s disk.0) (parts_on s disk.0) e among w.there in
    let none = none-before a.told b.told (start_of s disk.0) (length (bytes_on s disk.0)) w.outside (tells-none b.told e stored other.not_whole) in
    let here : IsPartDamaged s a.told disk.0 at kept found = record {
      there = lt;
      extent = e;
      stored = among;
      place = other.place;
      was = other.was;
      other = other.other;
      untold = none;
    } in
    (cause.0 ∙ w.faults, subst (λ (x : DiskNo). IsPartDamaged s a.told x.0 at kept found) (sym cause.1) here)
disk-cause s disk a b c faults.NoMemory lt w cause = cause ∙ w.faults

-- why a disk behind others was not
pub disks-cause : (s : Disks) (n : ℕ) (a b c : DeviceState) (fault : DisksFault) → AreDisksKept s n a b → DisksCause s b c fault → DisksCause s a c fault
disks-cause s n a b c faults.Device k cause = omega (arith, cause, (disks-counted s n a b k).faults)
disks-cause s n a b c (faults.Damaged d at kept found) k cause =
    let damaged = cause.1 in (
      cause.0 ∙ (disks-counted s n a b k).faults,
      record {
        there = damaged.there;
        extent = damaged.extent;
        stored = damaged.stored;
        place = damaged.place;
        was = damaged.was;
        other = damaged.other;
        untold = none-before a.told b.told 0 (start_of s n) (disks-outside s n a b k) damaged.untold;
      },
    )
disks-cause s n a b c faults.NoMemory k cause = cause ∙ (disks-counted s n a b k).faults

-- where a disk begins
pub start-low : (s : Disks) (n : ℕ) → length s.catalogue.files ≤ 64 → All (λ (info : FileInfo). info.len ≤ 2 ^ 24) s.catalogue.files → start_of s n ≤ n * 2 ^ 35
start-low s zero few lengths = omega arith
start-low s (suc n) few lengths = omega (arith, start-low s n few lengths, disk-short (image_of s n) few lengths)

-- what is kept of a disk that was stored
pub kept-extents : (s : Disks) (d : ℕ) (m : Image) (at : ℕ) (es : List Extent) → m ≡ image_of s d → at ≡ start_of s d
    → es ≡ placed at (disk_parts m) → es ≡ extents_on s d
kept-extents s d m at es is place extents =
    extents ∙ ap (λ (x : Image). placed at (disk_parts x)) is ∙ ap (λ (n : ℕ). placed n (parts_on s d)) place

-- a disk was stored and read
pub kept-disk : (s : Disks) (d : ℕ) (m : Image) (at : ℕ) (a b c : DeviceState) (es : List Extent) → m ≡ image_of s d → at ≡ start_of s d
    → AreWrittenAt a b at (all_bytes (disk_parts m)) → es ≡ placed at (disk_parts m) → ArePartsRead b c es → IsDiskKept s d a c
kept-disk s d m at a b c es is place written extents read =
    let here : AreWrittenAt a b at (bytes_on s d) = subst (λ (x : Image). AreWrittenAt a b at (all_bytes (disk_parts x))) is written in
    record {
      stored = b;
      written = subst (λ (n : ℕ). AreWrittenAt a b n (bytes_on s d)) place here;
      read = subst (λ (xs : List Extent). ArePartsRead b c xs) (kept-extents s d m at es is place extents) read;
    }

-- why a disk that was stored was not read
pub not-read : (s : Disks) (disk : DiskNo) (m : Image) (at : ℕ) (a b c : DeviceState) (es : List Extent) (fault : DisksFault) → m ≡ image_of s disk.0 → at ≡ start_of s disk.0
    → disk.0 < s.catalogue.disks → AreWrittenAt a b at (all_bytes (disk_parts m)) → es ≡ placed at (disk_parts m) → PartsCause disk es b c fault → DisksCause s a c fault
not-read s disk m at a b c es fault is place lt written extents cause =
    let here : AreWrittenAt a b at (bytes_on s disk.0) = subst (λ (x : Image). AreWrittenAt a b at (all_bytes (disk_parts x))) is written in
    disk-cause s disk a b c fault lt
    (subst (λ (n : ℕ). AreWrittenAt a b n (bytes_on s disk.0)) place here)
    (subst (λ (xs : List Extent). PartsCause disk xs b c fault) (kept-extents s disk.0 m at es is place extents) cause)

-- why a disk was not stored
pub store-cause : (s : Disks) (a b : DeviceState) (at len : ℕ) (fault : StoreFault) → StoreCause a b at len fault → DisksCause s a b (fault_by_store fault)
store-cause s a b at len storing.Failed cause = cause.faults
store-cause s a b at len storing.NoMemory cause = omega (arith, cause.faults)

pub store-refuses : (a b : DeviceState) (at len : ℕ) (fault : StoreFault) → StoreCause a b at len fault → b.refusals ≡ a.refusals
store-refuses a b at len storing.Failed cause = cause.refusals
store-refuses a b at len storing.NoMemory cause = cause.refusals

pub store-opens-none : (a b : DeviceState) (at len : ℕ) (fault : StoreFault) → StoreCause a b at len fault → b.names ≡ a.names
store-opens-none a b at len storing.Failed cause = cause.names
store-opens-none a b at len storing.NoMemory cause = cause.names

-- one disk more
pub more-kept : (s : Disks) (d : ℕ) (a b c : DeviceState) → AreDisksKept s d a b → IsDiskKept s d b c → AreDisksKept s (d + 1) a c
more-kept s d a b c kept one =
    let same : suc d ≡ d + 1 = omega arith in
    subst (λ (k : ℕ). AreDisksKept s k a c) same (b, kept, one)

pub more-bytes : (s : Disks) (d at n : ℕ) (es : List Extent) → at ≡ start_of s d → es ≡ extents_on s d → n ≡ total_len es → at + n ≡ start_of s (d + 1)
more-bytes s d at n es place extents size =
    let same : suc d ≡ d + 1 = omega arith in
    let total : n ≡ length (bytes_on s d) = size ∙ ap total_len extents ∙ total-placed (start_of s d) (parts_on s d) in
    let sum : at + n ≡ start_of s d + length (bytes_on s d) = omega (arith, place, total) in
    sum ∙ ap (start_of s) same

pub more-lines : (s : Disks) (d : ℕ) (text new : List ℕ) (es : List Extent) → text ≡ disk_lines s d → es ≡ extents_on s d
    → new ≡ text ++ line_text d (length es) (total_len es) → new ≡ disk_lines s (d + 1)
more-lines s d text new es before extents is =
    let same : suc d ≡ d + 1 = omega arith in
    let parts : length es ≡ length (parts_on s d) = ap length extents ∙ length-placed (start_of s d) (parts_on s d) in
    let bytes : total_len es ≡ length (bytes_on s d) = ap total_len extents ∙ total-placed (start_of s d) (parts_on s d) in
    is
    ∙ ap (λ (t : List ℕ). t ++ line_text d (length es) (total_len es)) before
    ∙ ap (λ (n : ℕ). disk_lines s d ++ line_text d n (total_len es)) parts
    ∙ ap (λ (n : ℕ). disk_lines s d ++ line_text d (length (parts_on s d)) n) bytes
    ∙ ap (disk_lines s) same
