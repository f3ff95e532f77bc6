-- Reading files in order.
use Rattle.std.proofs.Common.{◌≡◌, ℕ, zero, suc, ◌+◌, ◌<◌, ◌≤◌, ◌==◌, List, [], ◌∷◌, ◌++◌, length, get_or, vec_len, Vec, Result, Global, Bool, cond, nat_lt, Option, Some, None, Ok, refl, sym, ap, subst, inr, arith}
use Rattle.std.specs.List.{All, position, position_or_len, slice_get}
use Rattle.std.proofs.lemmas.List.Sums.{fails_before_first, sum_by_push}
use Rattle.std.proofs.lemmas.List.Elements.{All-push}
use Rattle.std.proofs.lemmas.Bool.Decides.{nat_tests}
use Rattle.std.proofs.lemmas.List.{length-map, map-append}
use Rattle.tiger_base.specs.Library.{contents}
use Rattle.outside.specs.Told.{Told, FilesState, AreTold}
use Rattle.tiger_base.specs.declared.number.FileNo.{FileNo}
use Rattle.scenario_read.specs.declared.scenario.FileLine.{FileLine}
use Rattle.scenario_read.specs.declared.stop.ScenarioFault.{ScenarioFault}
use Rattle.scenario_read.specs.Fault.{broken}
use Rattle.std.specs.Prelude.{option_map}
use Rattle.tiger_base.specs.Limits.{most_file}
use Rattle.scenario_read.specs.Meaning.{Said, meaning}
use Rattle.tiger_input.specs.declared.status.Status.{Status}
use Rattle.tiger_input.specs.declared.status.Status.TheVariants as statuses
use Rattle.tiger_input.specs.Inputs.{AreFirst, AreRead, AreFiles, IsRead, MadeCalls, names_of, most_after, first_empty}
use Rattle.tiger_input.specs.Inputs.{StopsAt, StopsAtFile, HasEmptyFile, IsMissing, IsUnread, IsTooLong, FilesCause, LibraryCause, OneCause, InputsCause}

pub AreFirst-push : (told : List ℕ → Told) (names cs : List (List ℕ)) (name c : List ℕ) → AreFirst told names cs → slice_get names (length cs) ≡ Some name → AreTold (told name) c → AreFirst told names (cs ++ c ∷ [])
AreFirst-push told [] [] name c first at is = absurd (cc)
AreFirst-push told [] (d ∷ cs) name c first at is = first
AreFirst-push told (n ∷ ns) [] name c first at is = let e : n ≡ name = cc in (rw e is, tt)
AreFirst-push told (n ∷ ns) (d ∷ cs) name c first at is = (first.0, AreFirst-push told ns cs name c first.1 at is)

pub length-names_of : (lines : List FileLine) → length (names_of lines) ≡ length lines
length-names_of [] = refl
length-names_of (l ∷ lines) = ap suc (length-names_of lines)

pub names_of-at : (lines : List FileLine) (i : ℕ) (line : FileLine) → i < length lines → line ≡ get_or lines i line → slice_get (names_of lines) i ≡ Some line.name
names_of-at [] i line lt is = absurd (omega arith)
names_of-at (l ∷ lines) zero line lt is = ap (λ (x : FileLine). Some x.name) (sym is)
names_of-at (l ∷ lines) (suc i) line lt is = names_of-at lines i line (omega arith) is

-- one more file was read
pub AreRead-push : (told : List ℕ → Told) (names cs : List (List ℕ)) (name c : List ℕ)
    → AreRead told names cs → slice_get names (length cs) ≡ Some name → AreTold (told name) c
    → length c ≤ most_after cs → AreRead told names (cs ++ c ∷ [])
AreRead-push told names cs name c read at is within = record {
  first = AreFirst-push told names cs name c read.first at is;
  short = All-push (λ b. length b ≤ most_file) cs c read.short (omega arith);
  few = rw (sum_by_push length cs c) (omega (arith, read.few));
}

-- the reading stops at the next file
StopsAt-next : (told : List ℕ → Told) (names before : List (List ℕ)) (name : List ℕ) (f limit : ℕ) (P : ℕ → Told → Type 0)
    → AreRead told names before → length before ≡ f → slice_get names f ≡ Some name → limit ≡ most_after before
    → P limit (told name) → StopsAt told names f P
StopsAt-next told names before name f limit P read count named is why = record {
  before = before;
  read = read;
  count = count;
  name = name;
  named = named;
  why = subst (λ (n : ℕ). P n (told name)) is why;
}

-- the cause of the next file is the files' cause
pub FilesCause-next : (status : Status) (names before : List (List ℕ)) (name : List ℕ) (old mid new : FilesState) (f : FileNo) (limit : ℕ)
    → mid.told ≡ old.told → AreRead old.told names before → length before ≡ f.0 → limit ≡ most_after before → slice_get names f.0 ≡ Some name
    → mid.counts.calls ≡ old.counts.calls + f.0 → new.counts.calls ≡ mid.counts.calls + 1
    → old.counts.faults ≤ mid.counts.faults → old.counts.absences ≤ mid.counts.absences
    → OneCause (Some f) name limit mid new status → FilesCause names old new status
FilesCause-next (statuses.Absent file) names before name old mid new f limit same read n is at calls one faults absences cause =
    let P : Option FileNo → Type 0 = λ o. FilesCause names old new (statuses.Absent o) in
    let why : IsMissing limit (old.told name) = subst (λ (t : List ℕ → Told). IsMissing limit (t name)) same cause.2 in
    let stops = StopsAt-next old.told names before name f.0 limit IsMissing read n at is why in
    subst P (sym cause.0) (omega arith, omega (arith, cause.1), stops)
FilesCause-next (statuses.ReadFault file) names before name old mid new f limit same read n is at calls one faults absences cause =
    let P : Option FileNo → Type 0 = λ o. FilesCause names old new (statuses.ReadFault o) in
    let stops = StopsAt-next old.told names before name f.0 limit IsUnread read n at is tt in
    subst P (sym cause.0) (omega arith, omega (arith, cause.1), stops)
FilesCause-next (statuses.TooLong file given most) names before name old mid new f limit same read n is at calls one faults absences cause =
    let P : Option FileNo → Type 0 = λ o. FilesCause names old new (statuses.TooLong o given most) in
    let why : IsTooLong given most limit (old.told name) = subst (λ (t : List ℕ → Told). IsTooLong given most limit (t name)) same cause.1 in
    let stops = StopsAt-next old.told names before name f.0 limit (IsTooLong given most) read n at is why in
    subst P (sym cause.0) (omega arith, stops)
FilesCause-next statuses.NoMemory names before name old mid new f limit same read n is at calls one faults absences cause = tt
FilesCause-next statuses.Done names before name old mid new f limit same read n is at calls one faults absences cause = cause
FilesCause-next statuses.Words names before name old mid new f limit same read n is at calls one faults absences cause = cause
FilesCause-next statuses.WriteFault names before name old mid new f limit same read n is at calls one faults absences cause = cause
FilesCause-next (statuses.Scenario fault) names before name old mid new f limit same read n is at calls one faults absences cause = cause

pub length-contents : (vs : List (Vec ℕ Global)) → length (contents vs) ≡ length vs
length-contents vs = length-map vs (λ v. v.items)

pub contents-push : (vs : List (Vec ℕ Global)) (v : Vec ℕ Global) → contents (vs ++ v ∷ []) ≡ contents vs ++ v.items ∷ []
contents-push vs v = map-append (λ (w : Vec ℕ Global). w.items) vs (v ∷ [])

places : (vs : List (Vec ℕ Global)) → position_or_len (λ v. vec_len v == 0) vs ≡ position_or_len (λ bytes. length bytes == 0) (contents vs)
places [] = refl
places (v ∷ vs) =
    let same : vec_len v ≡ length v.items = omega (arith, v.ok.0) in
    rw (same, places vs) refl

-- the first vector with no elements is the least empty file
pub position-contents : (vs : List (Vec ℕ Global)) → position (λ v. vec_len v == 0) vs ≡ first_empty (contents vs)
position-contents vs = rw (places vs, length-contents vs) refl

-- the reading stops at a file of the scenario that was read
StopsAtFile-of : (old mid : FilesState) (name bytes : List ℕ) (said : Said) (f : ℕ) (P : ℕ → Told → Type 0)
    → mid.told ≡ old.told → IsRead (old.told name) bytes → meaning bytes ≡ Ok said
    → StopsAt mid.told (names_of said.files) f P → StopsAtFile old.told name f P
StopsAtFile-of old mid name bytes said f P same read means stops = record {
  bytes = bytes;
  read = read;
  said = said;
  means = means;
  holds = subst (λ (t : List ℕ → Told). StopsAt t (names_of said.files) f P) same stops;
}

-- all files were read, and one is empty
pub empty_file : (lines : List FileLine) (read : List (List ℕ)) (f : ℕ) (old new : FilesState) → MadeCalls (length lines) old new
    → AreFiles old.told (names_of lines) read → first_empty read ≡ Some f → LibraryCause lines old new (statuses.Scenario (broken 13 f))
empty_file lines read f old new calls all empty = (calls, read, all, ap (option_map (λ k. broken 13 k)) empty)

-- one was not read
pub library_refused : (status : Status) (lines : List FileLine) (old new : FilesState) → FilesCause (names_of lines) old new status
    → LibraryCause lines old new status
library_refused (statuses.Scenario fault) lines old new cause = absurd cause
library_refused (statuses.Absent file) lines old new cause = cause
library_refused (statuses.ReadFault file) lines old new cause = cause
library_refused (statuses.TooLong file given most) lines old new cause = cause
library_refused statuses.NoMemory lines old new cause = cause
library_refused statuses.Done lines old new cause = cause
library_refused statuses.Words lines old new cause = cause
library_refused statuses.WriteFault lines old new cause = cause

-- so it is seen from before the scenario was read
pub HasEmptyFile-of : (fault : ScenarioFault) (said : Said) (old mid new : FilesState) → mid.told ≡ old.told → mid.counts.calls ≡ old.counts.calls + 1
    → LibraryCause said.files mid new (statuses.Scenario fault) → HasEmptyFile old new fault said
HasEmptyFile-of fault said old mid new same one cause =
    (omega (arith, cause.0), cause.1, subst (λ (t : List ℕ → Told). AreFiles t (names_of said.files) cause.1) same cause.2, cause.3)

-- the cause of the files is the inputs' cause
pub InputsCause-library : (status : Status) (name bytes : List ℕ) (said : Said) (old mid new : FilesState)
    → mid.told ≡ old.told → IsRead (old.told name) bytes → meaning bytes ≡ Ok said → mid.counts.calls ≡ old.counts.calls + 1
    → old.counts.faults ≤ mid.counts.faults → old.counts.absences ≤ mid.counts.absences
    → LibraryCause said.files mid new status → InputsCause name old new status
InputsCause-library (statuses.Absent None) name bytes said old mid new same read means one faults absences cause = absurd cause
InputsCause-library (statuses.Absent (Some f)) name bytes said old mid new same read means one faults absences cause =
    (omega (arith, cause.0), omega (arith, cause.1), StopsAtFile-of old mid name bytes said f.0 IsMissing same read means cause.2)
InputsCause-library (statuses.ReadFault None) name bytes said old mid new same read means one faults absences cause = absurd cause
InputsCause-library (statuses.ReadFault (Some f)) name bytes said old mid new same read means one faults absences cause =
    (omega (arith, cause.0), omega (arith, cause.1), StopsAtFile-of old mid name bytes said f.0 IsUnread same read means cause.2)
InputsCause-library (statuses.TooLong None given most) name bytes said old mid new same read means one faults absences cause = absurd cause
InputsCause-library (statuses.TooLong (Some f) given most) name bytes said old mid new same read means one faults absences cause =
    (omega (arith, cause.0), StopsAtFile-of old mid name bytes said f.0 (IsTooLong given most) same read means cause.1)
InputsCause-library (statuses.Scenario fault) name bytes said old mid new same read means one faults absences cause =
    inr (record { bytes = bytes; read = read; said = said; means = means; holds = HasEmptyFile-of fault said old mid new same one cause })
InputsCause-library statuses.NoMemory name bytes said old mid new same read means one faults absences cause = tt
InputsCause-library statuses.Done name bytes said old mid new same read means one faults absences cause = cause
InputsCause-library statuses.Words name bytes said old mid new same read means one faults absences cause = cause
InputsCause-library statuses.WriteFault name bytes said old mid new same read means one faults absences cause = cause

unfound : (n m : ℕ) → cond (nat_lt n m) (Some n) None ≡ None → m ≤ n
unfound n m none = grind (arith, nat_tests)

-- if there is no least empty file, no file is empty
pub first_empty-None : (read : List (List ℕ)) → first_empty read ≡ None → All (λ bytes. 1 ≤ length bytes) read
first_empty-None read none = λ k d lt.
    let p : List ℕ → Bool = λ bytes. length bytes == 0 in
    let all = unfound (position_or_len p read) (length read) none in
    let no = fails_before_first p read k d (omega arith) in
    grind (arith, nat_tests)

-- what a text says is one
abbrev pub said_ok : Said → Result Said ScenarioFault
said_ok s = Ok s

pub ok_said : (s t : Said) → said_ok s ≡ said_ok t → s ≡ t
ok_said s t e = cc
