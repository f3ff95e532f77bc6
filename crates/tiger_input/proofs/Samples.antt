-- What the words and the sources of the worked rows are, and are not.
use Rattle.std.proofs.Common.{◌≡◌, ℕ, ◌<◌, ◌≤◌, ◌^◌, List, [], ◌∷◌, length, map, get_or, refl, sym, ap, subst, ◌∙◌, arith, codes}
use Rattle.std.specs.Prelude.{Result, Ok, Err}
use Rattle.std.specs.List.{All}
use Rattle.std.specs.Fmt.{decimal}
use Rattle.std.proofs.lemmas.Fmt.{decimal_injective}
use Rattle.std.proofs.lemmas.List.Elements.{All-head}
use Rattle.outside.specs.Told.{Told, bytes, absent}
use Rattle.scenario_read.specs.declared.stop.ScenarioFault.{ScenarioFault}
use Rattle.scenario_read.specs.Meaning.{Said, meaning}
use Rattle.tiger_input.specs.Words.{IsRun, IsMake}
use Rattle.tiger_input.specs.Inputs.{ReadAs, Breaks, names_of}
use Rattle.tiger_input.specs.Runnable.{IsRunnable}
use Rattle.tiger_input.proofs.Readings.{ok_said}
use Rattle.tiger_input.specs.Samples.{runs, makes, here, there, tells, IsOfFilm}

-- ---- words

pub run_is : (name other : List ℕ) (n m : ℕ) → IsRun (runs name n) other m → n < 2 ^ 64 → (name ≡ other) × (n ≡ m)
run_is name other n m run small =
    let e : codes "run" ∷ name ∷ decimal n ∷ [] ≡ codes "run" ∷ other ∷ decimal m ∷ [] = run.form in
    let called : name ≡ other = cc in
    let same : decimal n ≡ decimal m = cc in
    let few = run.few in
    (called, decimal_injective n m small (omega (arith, few)) same)

pub make_is : (n m : ℕ) → IsMake (makes n) m → n < 2 ^ 64 → n ≡ m
make_is n m make small =
    let e : codes "make" ∷ decimal n ∷ [] ≡ codes "make" ∷ decimal m ∷ [] = make.form in
    let same : decimal n ≡ decimal m = cc in
    decimal_injective n m small make.fits same

abbrev count : List (List ℕ) → ℕ
count words = length words

pub run_is_no_make : (name : List ℕ) (n number : ℕ) → IsMake (runs name n) number → ⊥
run_is_no_make name n number make = let e = ap count make.form in omega (arith, e)

pub make_is_no_run : (number n : ℕ) (name : List ℕ) → IsRun (makes number) name n → ⊥
make_is_no_run number n name run = let e = ap count run.form in omega (arith, e)

pub nothing_is_no_run : (n : ℕ) (name : List ℕ) → IsRun [] name n → ⊥
nothing_is_no_run n name run = let e = ap count run.form in omega (arith, e)

pub nothing_is_no_make : (number : ℕ) → IsMake [] number → ⊥
nothing_is_no_make number make = let e = ap count make.form in omega (arith, e)

-- The two names differ.
pub two_names : here ≡ there → ⊥
two_names e = let first = ap (λ (w : List ℕ). get_or w 0 0) e in omega (arith, first)

pub some_workers : (name : List ℕ) (n : ℕ) → 1 ≤ n → n ≤ 64 → IsRun (runs name n) name n
some_workers name n some few = record { form = refl; some = some; few = few }

-- ---- the scenario that names one file

abbrev text_ok : Said → Result Said ScenarioFault
text_ok s = Ok s

abbrev text_err : ScenarioFault → Result Said ScenarioFault
text_err f = Err f

pub said_is : (text other : List ℕ) (said again : Said) → IsOfFilm text said → other ≡ text → meaning other ≡ Ok again → again ≡ said
said_is text other said again of_film same means =
    let e : text_ok again ≡ text_ok said = sym means ∙ ap meaning same ∙ of_film.means in ok_said again said e

-- What is read of it is what it says.
pub read_is : (file : Told) (text name : List ℕ) (said : Said) (P : Said → Type 0) → IsOfFilm text said → here ≡ name
    → ReadAs (tells file (bytes text) name) P → P said
read_is file text name said P of_film e read =
    let r : ReadAs (tells file (bytes text) here) P = subst (λ (n : List ℕ). ReadAs (tells file (bytes text) n) P) (sym e) read in
    subst P (said_is text r.bytes said r.said of_film r.read.0 r.means) r.holds

-- What is runnable of it is told of its file.
pub runnable_is : (file : Told) (text : List ℕ) (said : Said) → IsOfFilm text said → (k : IsRunnable (tells file (bytes text)) here)
    → file ∷ [] ≡ map bytes k.files
runnable_is file text said of_film k =
    let is : bytes text ≡ bytes k.scenario = k.is_told in
    let same : k.scenario ≡ text = cc in
    let names = said_is text k.scenario said k.said of_film same k.is_sound in
    let one : map (tells file (bytes text)) (names_of k.said.files) ≡ file ∷ [] =
    ap (λ (s : Said). map (tells file (bytes text)) (names_of s.files)) names
    ∙ ap (λ (ns : List (List ℕ)). map (tells file (bytes text)) ns) of_film.files in
    sym one ∙ k.are_told

pub not_empty : (files : List (List ℕ)) → bytes [] ∷ [] ≡ map bytes files → All (λ file. 1 ≤ length file) files → ⊥
not_empty [] e filled = absurd (cc)
not_empty (file ∷ files) e filled =
    let none : [] ≡ file = cc in
    let some = All-head (λ f. 1 ≤ length f) file files filled in
    let size = ap (λ (f : List ℕ). length f) none in
    omega (arith, size, some)

pub not_absent : (files : List (List ℕ)) → absent ∷ [] ≡ map bytes files → ⊥
not_absent [] e = absurd (cc)
not_absent (file ∷ files) e = absurd (cc)

-- ---- the empty scenario

pub fault_is : (fault other : ScenarioFault) → meaning [] ≡ Err fault → Breaks (bytes []) other → other ≡ fault
fault_is fault other means breaks =
    let e : text_err other ≡ text_err fault = sym breaks.means ∙ ap meaning breaks.read.0 ∙ means in cc

pub says_nothing : (fault : ScenarioFault) (P : Said → Type 0) → meaning [] ≡ Err fault → ReadAs (bytes []) P → ⊥
says_nothing fault P means read =
    let e : text_ok read.said ≡ text_err fault = sym read.means ∙ ap meaning read.read.0 ∙ means in absurd (cc)
