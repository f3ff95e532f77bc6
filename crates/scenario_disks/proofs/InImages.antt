-- That disks are in an image, or why they are not.
use Rattle.std.proofs.Common.{◌≡◌, ℕ, ◌+◌, ◌≤◌, inl, inr, List, [], ◌∷◌, ◌++◌, Bool, Option, Some, None, Result, Ok, Err, String, Global, string_bytes, refl, ap, ◌∙◌, arith}
use Rattle.std.specs.Prelude.{IfOk, IfErr}
use Rattle.scenario_read.specs.declared.scenario.Scenario.{Scenario}
use Rattle.scenario_read.specs.Orders.{IsCatalogueOf}
use Rattle.stripe_layout.specs.declared.catalogue.Catalogue.{Catalogue}
use Rattle.file_disk.specs.Devices.{DeviceState, HasOpened, OpensOnly, IsOpened, OpenCause, HasNoBytes, AreSameOutside}
use Rattle.file_disk.specs.declared.device.OpenFault.{OpenFault}
use Rattle.file_disk.specs.declared.device.OpenFault.TheVariants as opening
use Rattle.stored_disks.specs.Disks.{Disks, disks_of, start_of, part_count}
use Rattle.stored_disks.specs.Kept.{AreDisksKept, StandEach}
use Rattle.stored_disks.specs.Faults.{DisksCause}
use Rattle.stored_disks.specs.declared.fault.DisksFault.{DisksFault}
use Rattle.stored_disks.specs.declared.fault.DisksFault.TheVariants as faults
use Rattle.scenario_disks.specs.Images.{OfScenario, AreInImage, all_lines, most_parts}
use Rattle.scenario_disks.specs.Stops.{KeepCause, ImageCause, stop_by_open, stop_by_disks}
use Rattle.scenario_disks.specs.declared.stop.DisksStop.{DisksStop}
use Rattle.scenario_disks.specs.declared.stop.DisksStop.TheVariants as stops

-- what an image tells of nothing after it was opened it told of nothing before
none-before : (a b : Option (List ℕ)) → HasNoBytes a b → b ≡ None → a ≡ None
none-before None b empty none = refl
none-before (Some x) None empty none = absurd empty
none-before (Some x) (Some y) empty none = absurd (cc)

pub in-image : (name : List ℕ) (s : Disks) (a b c : DeviceState) → part_count s.catalogue s.pieces ≤ most_parts → IsOpened name a b → AreDisksKept s s.catalogue.disks b c
    → StandEach s s.catalogue.disks c.told → AreSameOutside b.told c.told 0 (start_of s s.catalogue.disks)
    → c.reads ≡ b.reads + part_count s.catalogue s.pieces → c.faults ≡ b.faults → c.names ≡ b.names → c.refusals ≡ b.refusals → AreInImage name s a c
in-image name s a b c few begun kept stand outside reads no_fault names refusals =
    record {
      few = few;
      opened = b;
      begun = begun;
      kept = kept;
      stand = stand;
      outside = outside;
      named = names ∙ begun.named;
      faults = no_fault ∙ begun.faults;
      reads = omega (arith, reads, begun.reads);
      refusals = refusals ∙ begun.refusals;
    }

pub not-opened : (name : List ℕ) (s : Disks) (over : Bool) (a b : DeviceState) (fault : OpenFault) → OpenCause over a b fault → ImageCause name s over a b (stop_by_open fault)
not-opened name s over a b opening.Failed cause = cause.faults
not-opened name s over a b opening.Exists cause = cause
not-opened name s over a b opening.NoMemory cause = ap (λ (x : DeviceState). x.faults) cause

-- no image was opened, or that of the name alone
pub opens-none : (name : List ℕ) (over : Bool) (a b : DeviceState) (fault : OpenFault) → OpenCause over a b fault → OpensOnly name a b
opens-none name over a b opening.Failed cause = inl cause.names
opens-none name over a b opening.Exists cause = inl cause.names
opens-none name over a b opening.NoMemory cause = inl (ap (λ (x : DeviceState). x.names) cause)

pub opens-one : (name : List ℕ) (a b c : DeviceState) → IsOpened name a b → c.names ≡ b.names → OpensOnly name a c
opens-one name a b c begun names = inr (names ∙ begun.named)

pub not-kept : (name : List ℕ) (s : Disks) (over : Bool) (a b c : DeviceState) (fault : DisksFault) → IsOpened name a b → c.names ≡ b.names → DisksCause s b c fault → ImageCause name s over a c (stop_by_disks fault)
not-kept name s over a b c faults.Device begun names cause = omega (arith, cause, begun.faults)
not-kept name s over a b c (faults.Damaged disk at kept found) begun names cause =
    let damaged = cause.1 in (
      cause.0 ∙ begun.faults,
      names ∙ begun.named,
      record {
        there = damaged.there;
        extent = damaged.extent;
        stored = damaged.stored;
        place = damaged.place;
        was = damaged.was;
        other = damaged.other;
        untold = none-before a.told b.told begun.empty damaged.untold;
      },
    )
not-kept name s over a b c faults.NoMemory begun names cause = cause ∙ begun.faults

-- the same of a scenario's disks
pub of-scenario : (name : List ℕ) (s : Scenario) (library : List (List ℕ)) (c : Catalogue) (over : Bool) (a b : DeviceState) (stop : DisksStop) → IsCatalogueOf s library c
    → ImageCause name (disks_of library c s.course.plan.params.pieces) over a b stop → KeepCause name s library over a b stop
of-scenario name s library c over a b (stops.TooMany parts) is cause = absurd cause
of-scenario name s library c over a b stops.Exists is cause = cause
of-scenario name s library c over a b stops.Device is cause = cause
of-scenario name s library c over a b (stops.Damaged disk at kept found) is cause = (cause.0, cause.1, record { catalogue = c; is = is; holds = cause.2 })
of-scenario name s library c over a b stops.NoMemory is cause = cause

-- and so it is of whatever came of them
pub kept-of : (name : List ℕ) (s : Scenario) (library : List (List ℕ)) (c : Catalogue) (r : Result (String Global) DisksStop) (a b : DeviceState) → IsCatalogueOf s library c
    → IfOk r (λ text. AreInImage name (disks_of library c s.course.plan.params.pieces) a b)
    → IfOk r (λ text. string_bytes text ≡ all_lines (disks_of library c s.course.plan.params.pieces))
    → IfOk r (λ text. OfScenario s library (λ disks. AreInImage name disks a b × (string_bytes text ≡ all_lines disks)))
kept-of name s library c (Ok text) a b is kept lines = record { catalogue = c; is = is; holds = (kept, lines) }
kept-of name s library c (Err stop) a b is kept lines = tt

pub cause-of : (name : List ℕ) (s : Scenario) (library : List (List ℕ)) (c : Catalogue) (over : Bool) (r : Result (String Global) DisksStop) (a b : DeviceState) → IsCatalogueOf s library c
    → IfErr r (ImageCause name (disks_of library c s.course.plan.params.pieces) over a b) → IfErr r (KeepCause name s library over a b)
cause-of name s library c over (Ok text) a b is cause = tt
cause-of name s library c over (Err stop) a b is cause = of-scenario name s library c over a b stop is cause
