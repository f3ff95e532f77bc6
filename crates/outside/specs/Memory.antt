-- What files in memory and a sink in memory are seen as.
use Rattle.std.specs.Prelude.{◌≡◌, ℕ, ◌==◌, Bool, true, false, if◌then◌else◌, List, ◌++◌, take, Option, Some, None, Vec, String, string_bytes, option_map, find}
use Rattle.std.specs.List.{list_any}
use Rattle.std.specs.Str.{bytes_eq}
use Rattle.std.specs.BTreeMap.{is_at}
use Rattle.std.specs.Cmp.Lexicographic.{slice_cmp}
use Rattle.std.specs.Map.{lookup}
use Rattle.std.specs.Ordering.{nat_cmp}
use Rattle.std.specs.declared.alloc.Global.{Global}
use Rattle.outside.specs.Told.{Told, bytes, absent, untold, Counts, FilesState}
use Rattle.outside.specs.Written.{SinkState}
use Rattle.outside.specs.declared.mem_sink.FailingPut.{FailingPut}
use Rattle.outside.specs.declared.sink.SinkFault.{SinkFault}
use Rattle.outside.specs.declared.sink.SinkFault.TheVariants.{Failed, NoMemory}

-- names of files with their bytes
abbrev pub Entries : Type 0
Entries = List (String Global × Vec ℕ Global)

-- files in memory: names with their bytes, the calls that fail, and the counts
pub record MemoryFiles : Type 0 where
  pub entries : Entries
  pub failing : List ℕ
  pub counts : Counts

abbrev pub found_bytes : Option (Vec ℕ Global) → Told
found_bytes (Some v) = bytes v.items
found_bytes None = absent

-- everything is told: a name's bytes, or that it is absent
abbrev pub told_of : Entries → List ℕ → Told
told_of entries name =
    found_bytes (lookup (is_at (λ k. slice_cmp nat_cmp name (string_bytes k))) entries)

-- the same, but for one name, of which these bytes are told
abbrev pub with_file : (List ℕ → Told) → List ℕ → List ℕ → List ℕ → Told
with_file told name content other = if bytes_eq name other then bytes content else told other

-- these entries tell the same as those, but for one name, of which they tell these bytes
abbrev pub AreWith : Entries → List ℕ → List ℕ → Entries → Type 0
AreWith old name content new =
    (other : List ℕ) → told_of new other ≡ with_file (told_of old) name content other

abbrev pub is_absent : Told → Bool
is_absent (bytes b) = false
is_absent absent = true
is_absent untold = false

-- one if the test holds
abbrev pub one_if : Bool → ℕ
one_if test = if test then 1 else 0

-- the next call is made to fail
abbrev pub fails_next : MemoryFiles → Bool
fails_next m = list_any (λ call. call == m.counts.calls) m.failing

-- a file of this name was not put
abbrev pub lacks : MemoryFiles → List ℕ → Bool
lacks m name = is_absent (told_of m.entries name)

-- files in memory as a source
abbrev pub source_of : MemoryFiles → FilesState
source_of m = record { told = told_of m.entries; counts = m.counts }

-- a sink in memory: its bytes, the puts that fail, and how many puts and faults there were
pub record MemorySink : Type 0 where
  pub bytes : List ℕ
  pub failing : List FailingPut
  pub calls : ℕ
  pub faults : ℕ

-- how many bytes the put of a number keeps, if it is to fail
abbrev pub kept_at : List FailingPut → ℕ → Option ℕ
kept_at failing call = option_map (λ f. f.keep) (find (λ f. f.call == call) failing)

-- how many bytes the next put keeps, if it is to fail
abbrev pub kept_next : MemorySink → Option ℕ
kept_next m = kept_at m.failing m.calls

-- a put that failed was made to, and kept that much of its piece
abbrev pub KeepsOnly : MemorySink → MemorySink → List ℕ → SinkFault → Type 0
KeepsOnly old new piece Failed =
    (keep : ℕ) × (kept_next old ≡ Some keep) × (new.bytes ≡ old.bytes ++ take keep piece)
KeepsOnly old new piece NoMemory = Unit {0}

-- a sink in memory tells what was written
abbrev pub sunk_in : MemorySink → SinkState
sunk_in m = record { written = Some m.bytes; faults = m.faults }
