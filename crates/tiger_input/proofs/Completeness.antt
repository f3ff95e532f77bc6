-- If nothing stands in its way, a run ends with `Done`, or memory ran out.
use Rattle.std.proofs.Common.{◌≡◌, ℕ, ◌+◌, ◌<◌, ◌≤◌, ◌==◌, List, [], ◌∷◌, length, map, sum_by, get_or, Bool, false, cond, nat_lt, Option, Some, None, refl, sym, ap, ◌∙◌, subst, arith, inl, inr, ◌⊎◌}
use Rattle.std.specs.List.{All, slice_get, position_or_len}
use Rattle.std.specs.Prelude.{option_map}
use Rattle.std.proofs.lemmas.List.Elements.{All-head, All-tail}
use Rattle.std.proofs.lemmas.List.Sums.{sum_by-cons, position_or_len_is}
use Rattle.std.proofs.lemmas.Bool.Decides.{nat_tests}
use Rattle.tiger_base.specs.Limits.{most_file}
use Rattle.outside.specs.Told.{Told, FilesState, AreTold, NoneTold, HasBytes, bytes}
use Rattle.outside.specs.Written.{SinkState}
use Rattle.node_kit.specs.declared.course.Kept.{Kept}
use Rattle.scenario_read.specs.declared.stop.ScenarioFault.{ScenarioFault}
use Rattle.scenario_read.specs.Fault.{broken}
use Rattle.scenario_read.specs.Meaning.{Said, meaning}
use Rattle.tiger_input.specs.declared.status.Status.{Status}
use Rattle.tiger_input.specs.declared.status.Status.TheVariants as statuses
use Rattle.tiger_input.specs.Inputs.{AreFirst, names_of, first_empty, files_fault, ReadAs, StopsAt, IsMissing, IsTooLong, HasEmptyFile, InputsCause}
use Rattle.tiger_input.specs.Runnable.{IsRunnable, NoReadFailed, NoPutFailed}
use Rattle.tiger_input.specs.Ending.{EndsSink, EndsInputs}

-- what is told are these bytes
AreTold-bytes : (told : Told) (content given : List ℕ) → told ≡ bytes content → AreTold told given → given ≡ content
AreTold-bytes told content given is are = subst (λ (t : Told). AreTold t given) is are

NoneTold-bytes : (told : Told) (content : List ℕ) → told ≡ bytes content → NoneTold told → ⊥
NoneTold-bytes told content is none = subst NoneTold is none

HasBytes-bytes : (told : Told) (content : List ℕ) (given : ℕ) → told ≡ bytes content → HasBytes told given → given ≤ length content
HasBytes-bytes told content given is has = subst (λ (t : Told). HasBytes t given) is has

-- a file has bytes, and these fit behind those of the files before it
record HasRoom (told : Told) (before total : ℕ) : Type 0 where
  content : List ℕ
  is_told : told ≡ bytes content
  short : length content ≤ most_file
  fits : before + length content ≤ total

room_for : (told : List ℕ → Told) (names files before : List (List ℕ)) (name : List ℕ)
    → map told names ≡ map bytes files → All (λ file. length file ≤ most_file) files
    → AreFirst told names before → slice_get names (length before) ≡ Some name
    → HasRoom (told name) (sum_by length before) (sum_by length files)
room_for told [] files before name same short first at = absurd (cc)
room_for told (n ∷ ns) [] before name same short first at = absurd (cc)
room_for told (n ∷ ns) (file ∷ files) [] name same short first at =
    let heads : told n ≡ bytes file = cc in
    let e : n ≡ name = cc in
    record {
      content = file;
      is_told = sym (ap told e) ∙ heads;
      short = All-head (λ f. length f ≤ most_file) file files short;
      fits = omega (arith, sum_by-cons length file files);
    }
room_for told (n ∷ ns) (file ∷ files) (b ∷ bs) name same short first at =
    let heads : told n ≡ bytes file = cc in
    let tails : map told ns ≡ map bytes files = cc in
    let read : length b ≡ length file = ap length (AreTold-bytes (told n) file b heads first.0) in
    let rest = room_for told ns files bs name tails (All-tail (λ f. length f ≤ most_file) file files short) first.1 at in
    record {
      content = rest.content;
      is_told = rest.is_told;
      short = rest.short;
      fits = omega (arith, rest.fits, sum_by-cons length b bs, sum_by-cons length file files);
    }

-- the files that were read are the files
read_all : (told : List ℕ → Told) (names files read : List (List ℕ)) → map told names ≡ map bytes files
    → AreFirst told names read × (length read ≡ length names) → read ≡ files
read_all told [] [] [] same are = refl
read_all told [] [] (r ∷ rs) same are = absurd are.0
read_all told [] (file ∷ files) read same are = absurd (cc)
read_all told (n ∷ ns) [] read same are = absurd (cc)
read_all told (n ∷ ns) (file ∷ files) [] same are = absurd (omega (arith, are.1))
read_all told (n ∷ ns) (file ∷ files) (r ∷ rs) same are =
    let heads : told n ≡ bytes file = cc in
    let tails : map told ns ≡ map bytes files = cc in
    let first : r ≡ file = AreTold-bytes (told n) file r heads are.0.0 in
    let rest : rs ≡ files = read_all told ns files rs tails (are.0.1, omega (arith, are.1)) in
    cc

filled_fails : (file : List ℕ) → 1 ≤ length file → (length file == 0) ≡ false
filled_fails file some = grind (arith, nat_tests)

unfound : (n : ℕ) → cond (nat_lt n n) (Some n) None ≡ None
unfound n = grind (arith, nat_tests)

-- no file is empty, so none is the first one that is
no_fault : (files : List (List ℕ)) (fault : ScenarioFault) → All (λ file. 1 ≤ length file) files → files_fault files ≡ Some fault → ⊥
no_fault files fault filled e =
    let p : List ℕ → Bool = λ file. length file == 0 in
    let passes_none : (k : ℕ) → k < length files → p (get_or files k []) ≡ false = λ k lt. filled_fails (get_or files k []) (filled k [] lt) in
    let all : position_or_len p files ≡ length files = position_or_len_is p files (length files) [] (omega arith) passes_none (λ lt. absurd (omega arith)) in
    let past : first_empty files ≡ None = rw all (unfound (length files)) in
    let none = ap (option_map (λ f. broken 13 f)) past in
    cc

-- what was read of a runnable scenario says what it says
said_as : (told : List ℕ → Told) (name : List ℕ) (P : Said → Type 0) (r : IsRunnable told name) → ReadAs (told name) P → P r.said
said_as told name P r read =
    let same : read.bytes ≡ r.scenario = AreTold-bytes (told name) r.scenario read.bytes r.is_told read.read.0 in
    let e : read.said ≡ r.said = (let a = read.means in let b = r.is_sound in let m = ap meaning same in cc) in
    subst P e read.holds

-- where the reading of a runnable scenario stops, there is a file with bytes
room_at : (told : List ℕ → Told) (names files : List (List ℕ)) (f : ℕ) (P : ℕ → Told → Type 0)
    → map told names ≡ map bytes files → All (λ file. length file ≤ most_file) files
    → (stops : StopsAt told names f P) → HasRoom (told stops.name) (sum_by length stops.before) (sum_by length files)
room_at told names files f P same short stops =
    let at : slice_get names (length stops.before) ≡ Some stops.name = ap (slice_get names) stops.count ∙ stops.named in
    room_for told names files stops.before stops.name same short stops.read.first at

-- no input of a runnable scenario is refused but for a call that failed
unrefused : (status : Status) (name : List ℕ) (old new : FilesState) → IsRunnable old.told name → NoReadFailed old new
    → InputsCause name old new status → status ≡ statuses.NoMemory
unrefused (statuses.Absent None) name old new r same cause = absurd (NoneTold-bytes (old.told name) r.scenario r.is_told cause.2)
unrefused (statuses.Absent (Some f)) name old new r same cause =
    let names = names_of r.said.files in
    let stops = said_as old.told name (λ said. StopsAt old.told (names_of said.files) f.0 IsMissing) r cause.2 in
    let room = room_at old.told names r.files f.0 IsMissing r.are_told r.are_short stops in
    absurd (NoneTold-bytes (old.told stops.name) room.content room.is_told stops.why)
unrefused (statuses.ReadFault None) name old new r same cause = absurd (omega (arith, cause.1))
unrefused (statuses.ReadFault (Some f)) name old new r same cause = absurd (omega (arith, cause.1))
unrefused (statuses.TooLong None given most) name old new r same cause =
    let why = cause.1 in
    let has = HasBytes-bytes (old.told name) r.scenario given r.is_told why.2 in
    absurd (omega (arith, has, r.is_short, why.0, why.1))
unrefused (statuses.TooLong (Some f) given most) name old new r same cause =
    let names = names_of r.said.files in
    let stops = said_as old.told name (λ said. StopsAt old.told (names_of said.files) f.0 (IsTooLong given most)) r cause.1 in
    let room = room_at old.told names r.files f.0 (IsTooLong given most) r.are_told r.are_short stops in
    let why = stops.why in
    let has = HasBytes-bytes (old.told stops.name) room.content given room.is_told why.2 in
    absurd (omega (arith, has, room.short, room.fits, r.are_few, why.0, why.1))
unrefused (statuses.Scenario fault) name old new r same (inl cause) =
    let breaks = cause.1 in
    let text : breaks.bytes ≡ r.scenario = AreTold-bytes (old.told name) r.scenario breaks.bytes r.is_told breaks.read.0 in
    let a = breaks.means in
    let b = r.is_sound in
    let m = ap meaning text in
    absurd (cc)
unrefused (statuses.Scenario fault) name old new r same (inr empty) =
    let why = said_as old.told name (HasEmptyFile old new fault) r empty in
    let read : why.1 ≡ r.files = read_all old.told (names_of r.said.files) r.files why.1 r.are_told (why.2.0.first, why.2.1) in
    absurd (no_fault r.files fault r.are_filled (sym (ap files_fault read) ∙ why.3))
unrefused statuses.NoMemory name old new r same cause = refl
unrefused statuses.Done name old new r same cause = absurd cause
unrefused statuses.Words name old new r same cause = absurd cause
unrefused statuses.WriteFault name old new r same cause = absurd cause

-- nor does its run end in another way, but for a put that failed
pub run_completes : (status : Status) (name : List ℕ) (old_files new_files : FilesState) (old new : SinkState) (text : Kept → List ℕ) (kept : Option Kept)
    → IsRunnable old_files.told name → NoReadFailed old_files new_files → NoPutFailed old new
    → EndsInputs name old_files new_files status → EndsSink old new text kept status
    → (status ≡ statuses.Done) ⊎ (status ≡ statuses.NoMemory)
run_completes statuses.Done name of nf old new text kept r same puts ends sink = inl refl
run_completes statuses.WriteFault name of nf old new text kept r same puts ends sink = absurd (omega (arith, sink.0, puts))
run_completes statuses.NoMemory name of nf old new text kept r same puts ends sink = inr refl
run_completes statuses.Words name of nf old new text kept r same puts ends sink = absurd ends
run_completes (statuses.Absent file) name of nf old new text kept r same puts ends sink = inr (unrefused (statuses.Absent file) name of nf r same ends)
run_completes (statuses.ReadFault file) name of nf old new text kept r same puts ends sink = inr (unrefused (statuses.ReadFault file) name of nf r same ends)
run_completes (statuses.Scenario fault) name of nf old new text kept r same puts ends sink = inr (unrefused (statuses.Scenario fault) name of nf r same ends)
run_completes (statuses.TooLong file given most) name of nf old new text kept r same puts ends sink = inr (unrefused (statuses.TooLong file given most) name of nf r same ends)
