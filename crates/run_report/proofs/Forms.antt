-- Where an instance was put is in form.
use Rattle.std.proofs.Common.{◌≡◌, ℕ, List, [], ◌∷◌, ◌++◌, Bool, true, false, ◌&&◌, ◌==◌, nat_lt, Option, Some, None, IfSome, IsTrue, option_map, if◌then◌else◌, refl}
use Rattle.std.specs.List.{flat_map}
use Rattle.std.proofs.lemmas.Bool.{false≢true}
use Rattle.slot_plan.specs.declared.params.Params.{Params}
use Rattle.node_kit.specs.Form.{is_tenancy}
use Rattle.node_kit.specs.declared.journal.Entry.{Entry}
use Rattle.node_kit.specs.declared.journal.What.{What}
use Rattle.node_kit.specs.declared.journal.What.TheVariants as what
use Rattle.run_report.specs.declared.placed.Placed.{Placed}
use Rattle.run_report.specs.Outcomes.{put_by, puts_of, sooner, earliest, placed_of}

abbrev InForm : Params → Placed → Type 0
InForm p x = is_tenancy p x.tenancy ≡ true

abbrev AllInForm : Params → List Placed → Type 0
AllInForm p [] = Unit {0}
AllInForm p (x ∷ xs) = InForm p x × AllInForm p xs

abbrev FormIfAny : Params → Option Placed → Type 0
FormIfAny p None = Unit {0}
FormIfAny p (Some x) = InForm p x

pub and_right : (x y : Bool) → (x && y) ≡ true → y ≡ true
and_right true y e = e
and_right false y e = absurd (false≢true e)

append_form : (p : Params) (xs ys : List Placed) → AllInForm p xs → AllInForm p ys → AllInForm p (xs ++ ys)
append_form p [] ys hx hy = hy
append_form p (x ∷ xs) ys hx hy = (hx.0, append_form p xs ys hx.1 hy)

if_form : (p : Params) (test : Bool) (x : Placed) → (test ≡ true → InForm p x) → AllInForm p (if test then x ∷ [] else [])
if_form p true x h = (h refl, tt)
if_form p false x h = tt

put_form : (p : Params) (v beat : ℕ) (w : What) → AllInForm p (put_by p v beat w)
put_form p v beat (what.Put t) =
    if_form p (t.instance.0 == v && is_tenancy p t) (record { beat = beat; tenancy = t }) (λ e. and_right (t.instance.0 == v) (is_tenancy p t) e)
put_form p v beat other = tt

journal_form : (p : Params) (v : ℕ) (es : List Entry) → AllInForm p (flat_map (λ e. put_by p v e.stamp.beat e.what) es)
journal_form p v [] = tt
journal_form p v (e ∷ es) =
    append_form p (put_by p v e.stamp.beat e.what) (flat_map (λ e. put_by p v e.stamp.beat e.what) es)
    (put_form p v e.stamp.beat e.what) (journal_form p v es)

journals_form : (p : Params) (v : ℕ) (js : List (List Entry))
    → AllInForm p (flat_map (λ journal. flat_map (λ e. put_by p v e.stamp.beat e.what) journal) js)
journals_form p v [] = tt
journals_form p v (j ∷ js) =
    append_form p (flat_map (λ e. put_by p v e.stamp.beat e.what) j)
    (flat_map (λ journal. flat_map (λ e. put_by p v e.stamp.beat e.what) journal) js) (journal_form p v j) (journals_form p v js)

sooner_form : (p : Params) (x : Placed) (o : Option Placed) → InForm p x → FormIfAny p o → InForm p (sooner x o)
sooner_form p x None hx ho = hx
sooner_form p x (Some y) hx hy = by_test (nat_lt y.beat x.beat)
  where
    by_test : (b : Bool) → InForm p (if b then y else x)
    by_test true = hy
    by_test false = hx

earliest_form : (p : Params) (xs : List Placed) → AllInForm p xs → FormIfAny p (earliest xs)
earliest_form p [] h = tt
earliest_form p (x ∷ xs) h = sooner_form p x (earliest xs) h.0 (earliest_form p xs h.1)

mapped_form : (p : Params) (o : Option Placed) → FormIfAny p o → IfSome (option_map (λ x. x.tenancy) o) (λ t. IsTrue (is_tenancy p t))
mapped_form p None h = tt
mapped_form p (Some x) h = h

pub placed_form : (p : Params) (js : List (List Entry)) (v : ℕ) → IfSome (placed_of p js v) (λ t. IsTrue (is_tenancy p t))
unfolding placed_of puts_of
placed_form p js v = mapped_form p (earliest (puts_of p js v)) (earliest_form p (puts_of p js v) (journals_form p v js))
