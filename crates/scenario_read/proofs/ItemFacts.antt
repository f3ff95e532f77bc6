-- What holds of the items of an array that was read.
use Rattle.std.proofs.Common.{◌≡◌, ℕ, ◌+◌, ◌≤◌, cond, ◌&&◌, nat_le, List, [], ◌∷◌, ◌++◌, length, length-append, Option, Some, None, Result, Ok, subst, ap, ◌∙◌, arith}
use Rattle.std.specs.List.{All}
use Rattle.std.proofs.lemmas.List.Elements.{All-push}
use Rattle.serde_json.specs.Data.{Data}
use Rattle.scenario_read.specs.declared.stop.ScenarioFault.{ScenarioFault}
use Rattle.scenario_read.specs.Fault.{broken, found}
use Rattle.json_look.specs.Json.{array_of, sized_array}
use Rattle.scenario_read.specs.Items.{items_after, items_of, given_or}
use Rattle.json_look.proofs.Inversions.{then-some, tested-some, in-range}
use Rattle.scenario_read.proofs.Inversions.{bind-ok, ok-same, found-ok}
use Rattle.std.proofs.lemmas.Option.{same_Some}

-- an item that is read behind a front keeps what holds of the front
abbrev pub Keeps : {X : Type 0} → (List X → Data → Option X) → (List X → Type 0) → Type 0
Keeps {X} next I = (front : List X) (d : Data) (x : X) → I front → next front d ≡ Some x → I (front ++ x ∷ [])

pub items_after-keep : {X : Type 0} (rule : ℕ) (next : List X → Data → Option X) (I : List X → Type 0) (front : List X) (ds : List Data) (xs : List X)
    → Keeps next I → I front → items_after rule next front ds ≡ Ok xs → I xs
unfolding items_after
items_after-keep {X = X} rule next I front [] xs keeps i e = subst I (ok-same front xs e) i
items_after-keep {X = X} rule next I front (d ∷ ds) xs keeps i e =
    let b = bind-ok (found (next front d) (broken rule (length front))) (λ (x : X). items_after rule next (front ++ x ∷ []) ds) xs e in
    items_after-keep rule next I (front ++ b.0 ∷ []) ds xs keeps (keeps front d b.0 i (found-ok (next front d) _ b.0 b.1)) b.2

pub items_after-length : {X : Type 0} (rule : ℕ) (next : List X → Data → Option X) (front : List X) (ds : List Data) (xs : List X)
    → items_after rule next front ds ≡ Ok xs → length xs ≡ length front + length ds
unfolding items_after
items_after-length {X = X} rule next front [] xs e = omega (arith, ap (λ (ys : List X). length ys) (ok-same front xs e))
items_after-length {X = X} rule next front (d ∷ ds) xs e =
    let b = bind-ok (found (next front d) (broken rule (length front))) (λ (x : X). items_after rule next (front ++ x ∷ []) ds) xs e in
    omega (arith, items_after-length rule next (front ++ b.0 ∷ []) ds xs b.2, length-append front (b.0 ∷ []))

-- what was read, and how many items there are
pub record AreRead {X : Type 0} (I : List X → Type 0) (least most : ℕ) (xs : List X) : Type 0 where
  pub kept : I xs
  pub low : least ≤ length xs
  pub high : length xs ≤ most

sized-range : (least most : ℕ) (d : Data) (ds : List Data) → sized_array least most d ≡ Some ds → (least ≤ length ds) × (length ds ≤ most)
unfolding sized_array
sized-range least most d ds e =
    let a = then-some (λ (es : List Data). cond (nat_le least (length es) && nat_le (length es) most) (Some es) None) (array_of d) ds e in
    let b = tested-some (nat_le least (length a.0) && nat_le (length a.0) most) (Some a.0) ds a.2 in
    subst (λ (es : List Data). (least ≤ length es) × (length es ≤ most)) (same_Some a.0 ds b.1) (in-range least most (length a.0) b.0)

pub items_of-read : {X : Type 0} (rule least most beyond : ℕ) (next : List X → Data → Option X) (I : List X → Type 0) (d : Data) (xs : List X)
    → Keeps next I → I [] → items_of rule least most beyond next d ≡ Ok xs → AreRead I least most xs
unfolding items_of
items_of-read {X = X} rule least most beyond next I d xs keeps i e =
    let b = bind-ok (found (sized_array least most d) (broken rule beyond)) (items_after rule next []) xs e in
    let r : (least ≤ length b.0) × (length b.0 ≤ most) = sized-range least most d b.0 (found-ok (sized_array least most d) (broken rule beyond) b.0 b.1) in
    let n : length xs ≡ length b.0 = items_after-length rule next [] b.0 xs b.2 ∙ omega arith in
    record { kept = items_after-keep rule next I [] b.0 xs keeps i b.2; low = omega arith; high = omega arith }

-- the same under a key that may be missing
pub given_or-read : {X : Type 0} (P : X → Type 0) (absent : X) (meaning : Data → Result X ScenarioFault) (o : Option Data) (x : X)
    → P absent → ((d : Data) → meaning d ≡ Ok x → P x) → given_or absent meaning o ≡ Ok x → P x
given_or-read P absent meaning None x here there e = subst P (ok-same absent x e) here
given_or-read P absent meaning (Some d) x here there e = there d e

-- each item is such by itself
pub Keeps-each : {X : Type 0} (next : List X → Data → Option X) (P : X → Type 0) → ((front : List X) (d : Data) (x : X) → next front d ≡ Some x → P x) → Keeps next (All P)
Keeps-each next P each front d x all e = All-push P front x all (each front d x e)
