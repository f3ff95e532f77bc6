-- What a table has under each key after a change.
use Rattle.std.proofs.Common.{◌≡◌, ℕ, Bool, true, false, cond, ◌==◌, Option, Some, None, if◌then◌else◌, refl, sym, ap, ◌∙◌}
use Rattle.std.specs.Cmp.{unsigned_tied}
use Rattle.std.specs.Ordering.{is_eq, nat_cmp}
use Rattle.std.proofs.lemmas.Bool.{eqb-true}
use Rattle.run_report.specs.declared.placed.Placed.{Placed}
use Rattle.run_report.specs.Tables.{Placings, put_under, both}

pub both_none : (o : Option Placed) → both o None ≡ o
both_none None = refl
both_none (Some x) = refl

-- a Put that is earlier than what stands there, if anything does, enters
pub put_new : (q : ℕ) (put : Placed) (old mid new : Placings) (other : Option Placed) (first : Bool) → mid ≡ old
    → other ≡ put_under put.tenancy.instance.0 old → both other (Some put) ≡ (if first then Some put else other) → first ≡ true
    → put_under q new ≡ cond (is_eq (nat_cmp put.tenancy.instance.0 q)) (Some put) (put_under q mid)
    → put_under q new ≡ both (put_under q old) (if put.tenancy.instance.0 == q then Some put else None)
put_new q put old mid new other first view at choice so e =
    e ∙ (ap (λ x. cond x (Some put) (put_under q mid)) (unsigned_tied put.tenancy.instance.0 q)
    ∙ (ap (λ (b : Placings). cond (put.tenancy.instance.0 == q) (Some put) (put_under q b)) view ∙ by_test (put.tenancy.instance.0 == q) refl))
  where
    wins : both (put_under put.tenancy.instance.0 old) (Some put) ≡ Some put
    wins = ap (λ o. both o (Some put)) (sym at) ∙ (choice ∙ ap (λ b. if b then Some put else other) so)

    by_test : (b : Bool) → (put.tenancy.instance.0 == q) ≡ b
        → cond b (Some put) (put_under q old) ≡ both (put_under q old) (if b then Some put else None)
    by_test true f = sym (ap (λ x. both (put_under x old) (Some put)) (sym (eqb-true put.tenancy.instance.0 q f)) ∙ wins)
    by_test false f = sym (both_none (put_under q old))
