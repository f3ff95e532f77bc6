-- Where the records that a cub keeps let it stand.
use Rattle.std.proofs.Common.{◌≡◌, ◌≤◌, ◌<◌, ◌&&◌, nat_lt, nat_le, ℕ, Bool, true, false, cond, List, [], ◌∷◌, Option, Some, None, option_map, find, IsTrue, refl, sym, subst, arith}
use Rattle.std.specs.List.{AllByRecursion}
use Rattle.std.proofs.lemmas.Bool.{and_parts, ltb-true, leb-true}
use Rattle.tiger_base.specs.declared.number.Instance.{Instance}
use Rattle.tiger_base.specs.declared.tenancy.Kind.{Kind}
use Rattle.tiger_base.specs.declared.tenancy.Kind.TheVariants.{Own, Backup}
use Rattle.tiger_base.specs.declared.tenancy.Rec.{Rec}
use Rattle.tiger_base.specs.declared.tenancy.Tenancy.{Tenancy}
use Rattle.tiger_base.specs.Limits.{most_visit}
use Rattle.slot_plan.specs.declared.params.Params.{Params}
use Rattle.slot_plan.specs.Keys.{Key}
use Rattle.node_kit.specs.Form.{is_tenancy}
use Rattle.partial_view.specs.declared.line.Line.{Line}
use Rattle.partial_view.specs.Views.{line_at, first_of}
use Rattle.cub_rules.specs.State.{IsRecordOf, IsLineOf, visit_here}
use Rattle.cub_rules.specs.Messages.{position_of}
use Rattle.cub_messages.specs.Rules.{IsNear}

-- what is found has what all have
found_at : {X : Type 0} (P : X → Type 0) (test : X → Bool) (y : X) (ys : List X) (x : X) (t : Bool) → P y → (find test ys ≡ Some x → P x)
    → cond t (Some y) (find test ys) ≡ Some x → P x
found_at P test y ys x true here rest e = let same : y ≡ x = cc in subst P same here
found_at P test y ys x false here rest e = rest e

pub found_has : {X : Type 0} (P : X → Type 0) (test : X → Bool) (xs : List X) (x : X) → AllByRecursion P xs → find test xs ≡ Some x → P x
found_has P test [] x all e = absurd (cc)
found_has P test (y ∷ ys) x all e = found_at P test y ys x (test y) all.0 (found_has P test ys x all.1) e

pub line_has : (p : Params) (cub : ℕ) (k : Key) (lines : List Line) (x : Line) → AllByRecursion (IsLineOf p cub) lines → Some x ≡ line_at k lines → IsRecordOf p cub x.rec
unfolding line_at
line_has p cub k lines x all e = found_has (IsLineOf p cub) _ lines x all (sym e)

first_line : (p : Params) (cub : ℕ) (v : Instance) (lines : List Line) (x : Line) → AllByRecursion (IsLineOf p cub) lines → first_of v lines ≡ Some x → IsLineOf p cub x
unfolding first_of
first_line p cub v lines x all e = found_has (IsLineOf p cub) _ lines x all e

pub first_has : (p : Params) (cub : ℕ) (v : Instance) (lines : List Line) (r : Rec) → AllByRecursion (IsLineOf p cub) lines
    → Some r ≡ option_map (λ x. x.rec) (first_of v lines) → IsRecordOf p cub r
first_has p cub v lines r all e = by_line (first_of v lines) refl e
  where
    there : (x : Line) → first_of v lines ≡ Some x → IsLineOf p cub x
    there x f = first_line p cub v lines x all f

    by_line : (o : Option Line) → first_of v lines ≡ o → Some r ≡ option_map (λ x. x.rec) o → IsRecordOf p cub r
    by_line None f e = absurd (cc)
    by_line (Some x) f e = let same : x.rec ≡ r = cc in subst (λ (s : Rec). IsRecordOf p cub s) same (there x f)

-- a tenancy in form
pub record IsFit (p : Params) (t : Tenancy) : Type 0 where
  pub slot : t.slot.0 < p.slots
  pub ordered : t.first ≤ t.last
  pub last : t.last ≤ most_visit

pub fit : (p : Params) (t : Tenancy) → IsTrue (is_tenancy p t) → IsFit p t
fit p t h =
    let both = and_parts (nat_lt t.slot.0 p.slots && nat_le t.first t.last) (nat_le t.last most_visit) h in
    let first = and_parts (nat_lt t.slot.0 p.slots) (nat_le t.first t.last) both.0 in
    record { slot = ltb-true _ _ first.0; ordered = leb-true _ _ first.1; last = leb-true _ _ both.1 }

pub record_small : (p : Params) (cub : ℕ) (r : Rec) → IsRecordOf p cub r → r.visit ≤ most_visit
record_small p cub r h = omega (arith, h.not_over, (fit p r.tenancy h.in_form).last)

pub record_near : (p : Params) (cub : ℕ) (r : Rec) → IsRecordOf p cub r → IsNear p (position_of r)
record_near p cub r h = ((fit p r.tenancy h.in_form).slot, by_kind r.kind)
  where
    by_kind : (k : Kind) → visit_here k r.visit ≤ 2147483649
    by_kind Own = omega (arith, record_small p cub r h)
    by_kind Backup = omega (arith, record_small p cub r h)
