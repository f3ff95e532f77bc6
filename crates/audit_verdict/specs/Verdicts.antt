-- What is found of a kept run: that all twelve clauses hold of it, or the first that does not, and where it is broken.
use Rattle.std.specs.Prelude.{◌≡◌, ℕ, ◌<◌, ◌==◌, List, length, take, filter, Option, Some, None}
use Rattle.node_kit.specs.declared.course.Kept.{Kept}
use Rattle.audit_frame.specs.Lines.{told_by}
use Rattle.audit_frame.specs.declared.lines.Line.{Line}
use Rattle.audit_waits.specs.declared.walk.PassedOver.{PassedOver}
use Rattle.audit_verdict.specs.Clauses.{number_of_clause, MeetsClause, MeetsAllClauses}
use Rattle.audit_verdict.specs.Places.{IsLastLogged, IsLoggedPlace, IsPlaceOf}
use Rattle.audit_verdict.specs.declared.clause.Clause.{Clause}
use Rattle.audit_verdict.specs.declared.place.EntryPlace.{EntryPlace}
use Rattle.audit_verdict.specs.declared.place.Place.{Place}
use Rattle.audit_verdict.specs.declared.place.Place.TheVariants as place
use Rattle.audit_verdict.specs.declared.verdict.Verdict.{Verdict}
use Rattle.audit_verdict.specs.declared.verdict.Verdict.TheVariants as verdict

-- all clauses below a number hold, and all that come before a clause
abbrev pub MeetsBelow : Kept → ℕ → Type 0
MeetsBelow k n = (d : Clause) → number_of_clause d < n → MeetsClause k d

abbrev pub MeetsBefore : Kept → Clause → Type 0
MeetsBefore k c = MeetsBelow k (number_of_clause c)

-- a clause is the first that does not hold, and it is broken here
pub record IsFirstBroken (k : Kept) (c : Clause) (here : Place) : Type 0 where
  pub lower : MeetsBefore k c
  pub broken : MeetsClause k c → ⊥
  pub where_it_is : IsPlaceOf k c here

-- a clause is broken at one place
abbrev pub PlacesAreOne : Type 0
PlacesAreOne = (k : Kept) (c : Clause) (a b : Place) → IsPlaceOf k c a → IsPlaceOf k c b → a ≡ b

-- a verdict says of a kept run what is so
abbrev pub IsVerdictOn : Kept → Verdict → Type 0
IsVerdictOn k verdict.Yes = MeetsAllClauses k
IsVerdictOn k (verdict.No c here) = IsFirstBroken k c here

-- ---- of one clause

-- what an answer says: that a claim holds, or that it does not and where it is broken
abbrev pub AnswersClaim : Type 0 → (Place → Type 0) → Option Place → Type 0
AnswersClaim Claim Where None = Claim
AnswersClaim Claim Where (Some here) = (Claim → ⊥) × Where here

abbrev pub AnswersClause : Kept → Clause → Option Place → Type 0
AnswersClause k c answer = AnswersClaim (MeetsClause k c) (IsPlaceOf k c) answer

-- ---- of a log

-- an answer names an entry of a log of so many
abbrev pub IsInside : ℕ → Option ℕ → Type 0
IsInside n None = Unit {0}
IsInside n (Some i) = i < n

-- an answer by a place of the log is told as a place of the run
abbrev pub IsLoggedAnswer : Kept → Option ℕ → Option Place → Type 0
IsLoggedAnswer k None None = Unit {0}
IsLoggedAnswer k (Some i) (Some here) = IsLoggedPlace k i here
IsLoggedAnswer k None (Some here) = ⊥
IsLoggedAnswer k (Some i) None = ⊥

-- how many of the lines before a place are of a node
abbrev pub count_before : List Line → ℕ → ℕ → ℕ
count_before lines n i = length (filter (λ y. y.node == n) (take i (told_by lines)))

-- the same of a tick that an answer names, by the last entry up to it
abbrev pub IsTickInside : ℕ → Option PassedOver → Type 0
IsTickInside n None = Unit {0}
IsTickInside n (Some f) = IsInside n f.place

abbrev pub IsTickAnswer : Kept → Option PassedOver → Option Place → Type 0
IsTickAnswer k None None = Unit {0}
IsTickAnswer k (Some f) (Some here) =
    (last : Option EntryPlace) × IsLastLogged k f.place last × (here ≡ place.Tick f.cub f.beat last)
IsTickAnswer k None (Some here) = ⊥
IsTickAnswer k (Some f) None = ⊥
