-- What reading parts leaves as it was, and why it ends.
use Rattle.std.proofs.Common.{◌≡◌, ℕ, zero, suc, ◌+◌, List, [], ◌∷◌, ◌++◌, length, take, Option, Some, slice_get, refl, sym, ap, ◌∙◌, subst, arith}
use Rattle.std.specs.List.{AllByRecursion}
use Rattle.std.proofs.lemmas.List.{take_more}
use Rattle.std.proofs.lemmas.Option.{slice_get_within, get_or_from_slice_get}
use Rattle.tiger_base.specs.declared.number.DiskNo.{DiskNo}
use Rattle.file_disk.specs.Devices.{DeviceState}
use Rattle.file_disk.specs.Fetching.{FetchCause, StandsWhole}
use Rattle.file_disk.specs.declared.directory.Extent.{Extent}
use Rattle.file_disk.specs.declared.getting.FetchFault.{FetchFault}
use Rattle.file_disk.specs.declared.getting.FetchFault.TheVariants as fetching
use Rattle.file_disk.proofs.Fetched.{whole-fault}
use Rattle.stored_disks.specs.Reading.{IsPartRead, IsNumberRead, ArePartsRead}
use Rattle.stored_disks.specs.Faults.{PartCause, NumberCause, PartsCause, fault_by_fetch}
use Rattle.stored_disks.specs.declared.fault.DisksFault.{DisksFault}
use Rattle.stored_disks.specs.declared.fault.DisksFault.TheVariants as faults

-- so many reads were answered, and nothing else changed
pub record AreReads (old new : DeviceState) (n : ℕ) : Type 0 where
  pub told : new.told ≡ old.told
  pub names : new.names ≡ old.names
  pub faults : new.faults ≡ old.faults
  pub reads : new.reads ≡ old.reads + n
  pub refusals : new.refusals ≡ old.refusals

pub reads-of : (a b : DeviceState) (es : List Extent) → ArePartsRead a b es → AreReads a b (length es)
reads-of a b [] r =
    record {
      told = ap (λ (s : DeviceState). s.told) r;
      names = ap (λ (s : DeviceState). s.names) r;
      faults = ap (λ (s : DeviceState). s.faults) r;
      reads = omega (arith, ap (λ (s : DeviceState). s.reads) r);
      refusals = ap (λ (s : DeviceState). s.refusals) r;
    }
reads-of a b (e ∷ es) r =
    let one = r.1.read in
    let rest = reads-of r.0 b es r.2 in
    record {
      told = rest.told ∙ one.told;
      names = rest.names ∙ one.names;
      faults = rest.faults ∙ one.faults;
      reads = omega (arith, rest.reads, one.reads);
      refusals = rest.refusals ∙ one.refusals;
    }

-- one part more
read-more : (a b c : DeviceState) (es : List Extent) (e : Extent) → ArePartsRead a b es → IsPartRead b c e → ArePartsRead a c (es ++ e ∷ [])
read-more a b c [] e r p = (c, subst (λ (s : DeviceState). IsPartRead s c e) r p, refl)
read-more a b c (x ∷ es) e r p = (r.0, r.1, read-more r.0 b c es e r.2 p)

pub read-turn : (a b c : DeviceState) (es : List Extent) (n : ℕ) → ArePartsRead a b (take n es) → IsNumberRead es n b c → ArePartsRead a c (take (n + 1) es)
read-turn a b c es n r p =
    let e = p.extent in
    let one = get_or_from_slice_get es n e e p.there in
    let more : take (n + 1) es ≡ take n es ++ e ∷ [] =
    take_more es n e (slice_get_within es n e p.there) ∙ ap (λ (x : Extent). take n es ++ x ∷ []) one in
    subst (λ (xs : List Extent). ArePartsRead a c xs) (sym more) (read-more a b c (take n es) e r p.read)

-- why a part was not given
pub part-cause : (disk : DiskNo) (e : Extent) (a b : DeviceState) (fault : FetchFault) → FetchCause (Some e) a b fault
    → PartCause disk e a b (fault_by_fetch disk fault)
part-cause disk e a b fetching.Failed cause = cause.faults
part-cause disk e a b (fetching.Damaged at kept found) cause = (
  cause.read.faults,
  refl,
  record {
    place = cause.place;
    was = cause.was;
    other = cause.other;
    not_whole = whole-fault e a b (fetching.Damaged at kept found) cause;
  },
)
part-cause disk e a b fetching.NoMemory cause = ap (λ (s : DeviceState). s.faults) cause

pub fetch-refuses : (e : Extent) (a b : DeviceState) (fault : FetchFault) → FetchCause (Some e) a b fault → b.refusals ≡ a.refusals
fetch-refuses e a b fetching.Failed cause = cause.refusals
fetch-refuses e a b (fetching.Damaged at kept found) cause = cause.read.refusals
fetch-refuses e a b fetching.NoMemory cause = ap (λ (s : DeviceState). s.refusals) cause

pub fetch-opens-none : (e : Extent) (a b : DeviceState) (fault : FetchFault) → FetchCause (Some e) a b fault → b.names ≡ a.names
fetch-opens-none e a b fetching.Failed cause = cause.names
fetch-opens-none e a b (fetching.Damaged at kept found) cause = cause.read.names
fetch-opens-none e a b fetching.NoMemory cause = ap (λ (s : DeviceState). s.names) cause

-- what holds of each of some parts holds of that of a number
pub element-at : (P : Extent → Type 0) (es : List Extent) (i : ℕ) (e : Extent) → AllByRecursion P es → slice_get es i ≡ Some e → P e
element-at P [] i e all there = absurd (cc)
element-at P (x ∷ es) zero e all there =
    let same : x ≡ e = cc in subst P same all.0
element-at P (x ∷ es) (suc i) e all there = element-at P es i e all.1 there

-- why a part behind others was not read
behind : (disk : DiskNo) (es : List Extent) (n k : ℕ) (e : Extent) (a b c : DeviceState) (fault : DisksFault) → slice_get es n ≡ Some e
    → AreReads a b k → PartCause disk e b c fault → PartsCause disk es a c fault
behind disk es n k e a b c faults.Device there r cause = omega (arith, cause, r.faults)
behind disk es n k e a b c (faults.Damaged d at kept found) there r cause =
    let other = cause.2 in (
      cause.0 ∙ r.faults,
      cause.1,
      record {
        extent = e;
        stored = (n, slice_get_within es n e there, get_or_from_slice_get es n e e there);
        is = record {
          place = other.place;
          was = other.was;
          other = other.other;
          not_whole = λ bytes whole. other.not_whole bytes (subst (λ (t : Option (List ℕ)). StandsWhole (Some e) t bytes) (sym r.told) whole);
        };
      },
    )
behind disk es n k e a b c faults.NoMemory there r cause = cause ∙ r.faults

pub cause-behind : (disk : DiskNo) (es : List Extent) (n : ℕ) (a b c : DeviceState) (fault : DisksFault) → ArePartsRead a b (take n es)
    → NumberCause disk es n b c fault → PartsCause disk es a c fault
cause-behind disk es n a b c fault r cause =
    behind disk es n (length (take n es)) cause.extent a b c fault cause.there (reads-of a b (take n es) r) cause.cause
