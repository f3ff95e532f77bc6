-- Whether a visit is one of a tenancy's, from whether the tenancy has a state of it.
use Rattle.std.proofs.Common.{◌≡◌, ℕ, Bool, true, false, Some, None, cond, refl}
use Rattle.tiger_base.specs.declared.tenancy.State.{State}
use Rattle.tiger_base.specs.declared.tenancy.Tenancy.{Tenancy}
use Rattle.viewer_state.specs.States.{is_visit_of, state_for}

-- a test whose outcome is an option
some_where : {X : Type 0} (b : Bool) (x y : X) → Some y ≡ cond b (Some x) None → b ≡ true
some_where true x y e = refl
some_where false x y e = absurd (cc)

none_where : {X : Type 0} (b : Bool) (x : X) → None ≡ cond b (Some x) None → b ≡ false
none_where true x e = absurd (cc)
none_where false x e = refl

pub has_state : (t : Tenancy) (visit : ℕ) (s : State) → Some s ≡ state_for t visit → is_visit_of t visit ≡ true
has_state t visit s e = some_where (is_visit_of t visit) (record { tenancy = t; visit = visit }) s e

pub has_no_state : (t : Tenancy) (visit : ℕ) → None ≡ state_for t visit → is_visit_of t visit ≡ false
has_no_state t visit e = none_where (is_visit_of t visit) (record { tenancy = t; visit = visit }) e
