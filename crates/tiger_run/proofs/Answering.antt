-- There is one answer to the same words over files of which the same is told.
use Rattle.std.proofs.Common.{◌≡◌, ℕ, List, [], ◌∷◌, length, refl, ap, sym, subst, inl, inr, ◌∙◌, ⊎_elim, arith}
use Rattle.std.specs.Prelude.{codes, Option, Some, None, IfSome}
use Rattle.std.specs.Fmt.{decimal}
use Rattle.std.proofs.lemmas.Fmt.{decimal_injective}
use Rattle.node_kit.specs.declared.course.Kept.{Kept}
use Rattle.outside.specs.Told.{Told, FilesState, AreTold, bytes, absent, untold}
use Rattle.scenario_read.specs.declared.scenario.Scenario.{Scenario}
use Rattle.scenario_read.specs.Meaning.{meaning}
use Rattle.tiger_run.specs.Ending.{IsRingRun, IsRunOf, IsNamedRun, IsMadeRun, IsAskedRun, text_for}
use Rattle.proof_answer.proofs.Scenarios.{scenarios_are_what_they_say}
use Rattle.scenario_make.specs.Made.{made_library}
use Rattle.tiger_input.specs.declared.inputs.Inputs.{Inputs}
use Rattle.tiger_input.specs.Words.{IsRun, IsMake}
use Rattle.tiger_input.specs.Inputs.{AreFirst, AreInputs, names_of}
use Rattle.tiger_input.specs.Tellings.{TellsAll}
use Rattle.tiger_run.specs.Answers.{AskTheSame, IsTheAnswer}
use Rattle.tiger_run.proofs.Endings.{text_for-run, text_for-make}
use Rattle.tiger_input.proofs.Readings.{ok_said}
use Rattle.tiger_input.proofs.WordLists.{IsRun-name}

-- what is told of a name is one list of bytes, if something is told of it
told_once : (t : Told) (a b : List ℕ) → (t ≡ untold → ⊥) → AreTold t a → AreTold t b → a ≡ b
told_once (bytes c) a b told one two = one ∙ sym two
told_once absent a b told one two = absurd one
told_once untold a b told one two = absurd (told refl)

first_once : (told : List ℕ → Told) (names these those : List (List ℕ)) → TellsAll told → AreFirst told names these → AreFirst told names those
    → length these ≡ length those → these ≡ those
first_once told names [] [] all one two same = refl
first_once told names [] (b ∷ ys) all one two same = absurd (omega (arith, same))
first_once told names (a ∷ xs) [] all one two same = absurd (omega (arith, same))
first_once told [] (a ∷ xs) (b ∷ ys) all one two same = absurd one
first_once told (n ∷ ns) (a ∷ xs) (b ∷ ys) all one two same =
    rw (told_once (told n) a b (all n) one.0 two.0, first_once told ns xs ys all one.1 two.1 (omega (arith, same))) refl

-- the inputs of one name are one
scenario_once : (told : List ℕ → Told) (name : List ℕ) (i j : Inputs) → TellsAll told → AreInputs told name i → AreInputs told name j → i.scenario ≡ j.scenario
scenario_once told name i j all a b =
    let same : a.bytes ≡ b.bytes = told_once (told name) a.bytes b.bytes (all name) a.read.0 b.read.0 in
    scenarios_are_what_they_say i.scenario j.scenario (ok_said _ _ (sym a.means ∙ ap meaning same ∙ b.means))

library_once : (told : List ℕ → Told) (name : List ℕ) (i j : Inputs) → TellsAll told → AreInputs told name i → AreInputs told name j → i.library ≡ j.library
library_once told name i j all a b =
    let same : names_of i.scenario.files ≡ names_of j.scenario.files =
    ap (λ (s : Scenario). names_of s.files) (scenario_once told name i j all a b) in
    first_once told (names_of i.scenario.files) i.library j.library all a.files.0.first
    (subst (λ (ns : List (List ℕ)). AreFirst told ns j.library) (sym same) b.files.0.first)
    (a.files.1 ∙ ap length same ∙ sym b.files.1)

-- of one scenario and library the same is kept
kept_once : (G : Type 0) (s t : Scenario) (xs ys : List (List ℕ)) (k l : Kept) → s ≡ t → xs ≡ ys → IsRunOf G s xs k → IsRunOf G t ys l → l ≡ k
kept_once G s t xs ys k l same equal a b =
    let moved : IsRingRun G s xs l =
    subst (λ (u : Scenario). IsRingRun G u xs l) (sym same) (subst (λ (zs : List (List ℕ)). IsRingRun G t zs l) (sym equal) b.ran) in
    a.only l moved

-- of the scenario of one name the same is kept
pub named_once : (G : Type 0) (old new was now : FilesState) (name : List ℕ) (k l : Kept) → TellsAll old.told → was.told ≡ old.told
    → IsNamedRun G old new name k → IsNamedRun G was now name l → l ≡ k
named_once G old new was now name k l all same a b =
    let read : AreInputs old.told name b.inputs = subst (λ (t : List ℕ → Told). AreInputs t name b.inputs) same b.read in
    kept_once G a.inputs.scenario b.inputs.scenario a.inputs.library b.inputs.library k l
    (scenario_once old.told name a.inputs b.inputs all a.read read) (library_once old.told name a.inputs b.inputs all a.read read) a.run b.run

made_once : (G : Type 0) (number : ℕ) (k l : Kept) → IsMadeRun G number k → IsMadeRun G number l → l ≡ k
made_once G number k l a b =
    kept_once G a.scenario b.scenario (made_library number) (made_library number) k l
    (scenarios_are_what_they_say a.scenario b.scenario (a.made ∙ sym b.made)) refl a.run b.run

-- words do not name a scenario and a number at once
run_or_make : (words : List (List ℕ)) (name : List ℕ) (workers number : ℕ) → IsRun words name workers → IsMake words number → ⊥
run_or_make words name workers number run make = let e = ap length (sym run.form ∙ make.form) in absurd (omega (arith, e))

one_number : (words : List (List ℕ)) (m n : ℕ) → IsMake words m → IsMake words n → m ≡ n
one_number words m n a b =
    let e : codes "make" ∷ decimal m ∷ [] ≡ codes "make" ∷ decimal n ∷ [] = sym a.form ∙ b.form in
    let same : decimal m ≡ decimal n = cc in
    decimal_injective m n a.fits b.fits same

-- the text that is asked for is the same if the same is asked for
same_text : (words others : List (List ℕ)) → AskTheSame words others → text_for others ≡ text_for words
same_text words others alike =
    ⊎_elim
    (λ (run : (name : List ℕ) × (some : ℕ) × (more : ℕ) × IsRun words name some × IsRun others name more).
    text_for-run others run.0 run.2 run.4 ∙ sym (text_for-run words run.0 run.1 run.3))
    (λ (make : (number : ℕ) × IsMake words number × IsMake others number).
    text_for-make others make.0 make.2 ∙ sym (text_for-make words make.0 make.1))
    alike

text_once : (words others : List (List ℕ)) (k l : Kept) → AskTheSame words others → l ≡ k → text_for others l ≡ text_for words k
text_once words others k l alike same =
    ap (λ (text : Kept → List ℕ). text l) (same_text words others alike) ∙ ap (text_for words) same

-- whoever asks the same of the same files keeps the same
module _ (G : Type 0) (old new : FilesState) (words : List (List ℕ)) (k : Kept) (all : TellsAll old.told) where
  kept_again : (was now : FilesState) (others : List (List ℕ)) (other : Kept) → was.told ≡ old.told → AskTheSame words others
      → IsAskedRun G old new words k → IsAskedRun G was now others other → other ≡ k
  kept_again was now others other same (inl alike) (inl one) (inl two) =
      let here : one.0 ≡ alike.0 = IsRun-name words one.0 alike.0 one.1 alike.1 one.2 alike.3 in
      let there : two.0 ≡ alike.0 = IsRun-name others two.0 alike.0 two.1 alike.2 two.2 alike.4 in
      named_once G old new was now alike.0 k other all same
      (subst (λ (n : List ℕ). IsNamedRun G old new n k) here one.3) (subst (λ (n : List ℕ). IsNamedRun G was now n other) there two.3)
  kept_again was now others other same (inl alike) (inr one) two = absurd (run_or_make words alike.0 alike.1 one.0 alike.3 one.1)
  kept_again was now others other same (inl alike) (inl one) (inr two) = absurd (run_or_make others alike.0 alike.2 two.0 alike.4 two.1)
  kept_again was now others other same (inr alike) (inl one) two = absurd (run_or_make words one.0 one.1 alike.0 one.2 alike.1)
  kept_again was now others other same (inr alike) (inr one) (inl two) = absurd (run_or_make others two.0 two.1 alike.0 two.2 alike.2)
  kept_again was now others other same (inr alike) (inr one) (inr two) =
      let here : one.0 ≡ alike.0 = one_number words one.0 alike.0 one.1 alike.1 in
      let there : two.0 ≡ alike.0 = one_number others two.0 alike.0 two.1 alike.2 in
      made_once G alike.0 k other (subst (λ (n : ℕ). IsMadeRun G n k) here one.2) (subst (λ (n : ℕ). IsMadeRun G n other) there two.2)

answers_all : (G : Type 0) (old new : FilesState) (words : List (List ℕ)) (k : Kept) → TellsAll old.told → IsAskedRun G old new words k
    → IsTheAnswer G old.told words k
answers_all G old new words k all ran was now others other same alike again =
    let kept = kept_again G old new words k all was now others other same alike ran again in
    (kept, text_once words others k other alike kept)

-- so it is with what is kept of a run, if something is
pub one_answer : (G : Type 0) (old new : FilesState) (words : List (List ℕ)) (kept : Option Kept) → TellsAll old.told
    → IfSome kept (IsAskedRun G old new words) → IfSome kept (IsTheAnswer G old.told words)
one_answer G old new words None all ran = tt
one_answer G old new words (Some k) all ran = answers_all G old new words k all ran

pub asked_by_name : (G : Type 0) (old new : FilesState) (words : List (List ℕ)) (name : List ℕ) (workers : ℕ) (kept : Option Kept) → IsRun words name workers
    → IfSome kept (IsNamedRun G old new name) → IfSome kept (IsAskedRun G old new words)
asked_by_name G old new words name workers None run ran = tt
asked_by_name G old new words name workers (Some k) run ran = inl (name, workers, run, ran)

pub asked_by_number : (G : Type 0) (old new : FilesState) (words : List (List ℕ)) (number : ℕ) (kept : Option Kept) → IsMake words number
    → IfSome kept (IsMadeRun G number) → IfSome kept (IsAskedRun G old new words)
asked_by_number G old new words number None make ran = tt
asked_by_number G old new words number (Some k) make ran = inr (number, make, ran)
