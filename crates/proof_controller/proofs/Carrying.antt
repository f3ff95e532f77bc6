-- What a controller puts out in a beat: its orders' starts, and Gone of the instances that are stopped there.
use Rattle.std.proofs.Common.{◌≡◌, ℕ, List, [], ◌∷◌, ◌++◌, length, Bool, true, false, cond, not, ◌&&◌, ◌||◌, ◌==◌, nat_lt, Option, Some, None, IsTrue, IfSome, refl, sym, ap, subst, ◌∙◌}
use Rattle.tiger_base.specs.declared.number.Instance.{Instance}
use Rattle.tiger_base.specs.declared.tenancy.Ask.{Ask}
use Rattle.tiger_base.specs.declared.tenancy.Tag.{Tag}
use Rattle.tiger_base.specs.declared.tenancy.Tenancy.{Tenancy}
use Rattle.tiger_base.specs.declared.message.Msg.{Msg}
use Rattle.slot_plan.specs.declared.params.Params.{Params}
use Rattle.slot_plan.specs.Conditions.{IsPlan}
use Rattle.node_kit.specs.declared.course.Order.{Order}
use Rattle.node_kit.specs.declared.course.OrderKind.{OrderKind}
use Rattle.node_kit.specs.declared.course.OrderKind.TheVariants.{Begin, Finish}
use Rattle.node_kit.specs.declared.outbox.Out.{Out}
use Rattle.node_kit.specs.Form.{is_tenancy}
use Rattle.node_kit.specs.Steps.{Deed}
use Rattle.node_kit.specs.Deeds.{nothing}
use Rattle.run_facts.specs.Commanded.{is_gone_of, is_finish_of, is_over, place_of}
use Rattle.controller_core.specs.declared.known.Known.{Known}
use Rattle.controller_core.specs.Orders as orders
use Rattle.controller_core.specs.State.{AreInForm, tenancy_of, is_gone}
use Rattle.controller_core.specs.Rules.{starts, gone_from, visit_due, stops_at, stops_start, stops, stopping, carries, carrying}
use Rattle.controller_core.proofs.InForm.{found_in_form}
use Rattle.proof_controller.proofs.Late.{late_is_due}
use Rattle.proof_controller.proofs.Noted.{any_out, count_out, flat_out}
use Rattle.std.proofs.lemmas.Bool.{eqb-true}

abbrev pub one_if : Bool → ℕ
one_if b = cond b 1 0

-- What a deed does for an instance: whether it says that it is gone, for an instance that is not gone before and
-- not over, and that no tenancy changes.
pub record Says (v : Instance) (stopped : Bool) (known : Known) (d : Deed Msg Known) : Type 0 where
  pub said : any_out (is_gone_of v.0) d.outs ≡ stopped
  pub after : is_gone d.state.gone v ≡ (is_gone known.gone v || stopped)
  pub count : count_out (is_gone_of v.0) d.outs ≡ one_if stopped
  pub placed : d.state.placed ≡ known.placed
  pub silent : (p : Params) → flat_out (place_of p) d.outs ≡ []

or_false : (b : Bool) → b ≡ (b || false)
or_false true = refl
or_false false = refl

pub nothing_says : (v : Instance) (known : Known) → Says v false known (nothing known)
nothing_says v known = record { said = refl; after = or_false _; count = refl; placed = refl; silent = λ p. refl }

is_gone-more : (gone : List Instance) (v w : Instance) → is_gone (gone ++ w ∷ []) v ≡ (is_gone gone v || (w.0 == v.0))
is_gone-more [] v w = sym (or_false _)
is_gone-more (x ∷ gone) v w = ap (λ b. (x.0 == v.0) || b) (is_gone-more gone v w) ∙ assoc (x.0 == v.0) (is_gone gone v) (w.0 == v.0)
  where
    assoc : (a b c : Bool) → (a || (b || c)) ≡ ((a || b) || c)
    assoc true b c = refl
    assoc false b c = refl

one_count : (b : Bool) (X : Type 0) (x : X) → length (cond b (x ∷ []) []) ≡ one_if b
one_count true X x = refl
one_count false X x = refl

gone_says : (p : Params) (v w : Instance) (tag : Option Tag) (n : ℕ) (known : Known) → Says v (w.0 == v.0) known (gone_from p w tag n known)
unfolding gone_from
gone_says p v w tag n known = record {
  said = sym (or_false _);
  after = is_gone-more known.gone v w;
  count = one_count (w.0 == v.0) (Out Msg) _;
  placed = refl;
  silent = λ p. refl;
}

and_false : (b : Bool) → (b && false) ≡ false
and_false true = refl
and_false false = refl

and_true : (b : Bool) → (b && true) ≡ b
and_true true = refl
and_true false = refl

stops_by_test : (p : Params) (v w : Instance) (t : Tenancy) (n : ℕ) (known : Known) (b : Bool)
    → Says v ((w.0 == v.0) && not b) known (cond b (nothing known) (gone_from p w (Some (record { slot = t.slot; visit = n })) n known))
stops_by_test p v w t n known true = subst (λ b. Says v b known (nothing known)) (sym (and_false (w.0 == v.0))) (nothing_says v known)
stops_by_test p v w t n known false =
    let tag : Option Tag = Some (record { slot = t.slot; visit = n }) in
    subst (λ b. Says v b known (gone_from p w tag n known)) (sym (and_true (w.0 == v.0))) (gone_says p v w tag n known)

-- a stop of a tenancy
stops_at_says : (p : Params) (r : ℕ) (v w : Instance) (t : Tenancy) (known : Known) → IsPlan p → IsTrue (is_tenancy p t)
    → Says v ((w.0 == v.0) && not (is_over p r (Some t))) known (stops_at p w t (visit_due p t r) known)
stops_at_says p r v w t known plan form =
    subst (λ b. Says v ((w.0 == v.0) && not b) known (stops_at p w t (visit_due p t r) known)) (late_is_due p t r plan form)
    (stops_by_test p v w t (visit_due p t r) known (nat_lt t.last (visit_due p t r)))

stops_says : (p : Params) (os : List Order) (r : ℕ) (v w : Instance) (o : Option Tenancy) (ask : Ask) (known : Known) → IsPlan p
    → IfSome o (λ t. IsTrue (is_tenancy p t)) → orders.start_of os w ≡ Some ask
    → Says v ((w.0 == v.0) && not (is_over p r o)) known (stops p os r w o known)
stops_says p os r v w (Some t) ask known plan form e = stops_at_says p r v w t known plan form
stops_says p os r v w None ask known plan form e =
    subst (λ (x : Option Ask). Says v ((w.0 == v.0) && true) known (stops_start p w x known)) (sym e)
    (subst (λ b. Says v b known (gone_from p w None ask.disk.0 known)) (sym (and_true (w.0 == v.0))) (gone_says p v w None ask.disk.0 known))

unless_gone_says : (p : Params) (os : List Order) (r : ℕ) (v w : Instance) (ask : Ask) (known : Known) (b : Bool) → IsPlan p → AreInForm p known
    → orders.start_of os w ≡ Some ask
    → Says v ((w.0 == v.0) && (not b && not (is_over p r (tenancy_of known.placed w)))) known
    (cond b (nothing known) (stops p os r w (tenancy_of known.placed w) known))
unless_gone_says p os r v w ask known true plan form e = subst (λ b. Says v b known (nothing known)) (sym (and_false (w.0 == v.0))) (nothing_says v known)
unless_gone_says p os r v w ask known false plan form e = stops_says p os r v w (tenancy_of known.placed w) ask known plan (found_in_form p known w form) e

-- whether a stop of an instance takes effect
abbrev pub takes_effect : Params → ℕ → Known → Instance → Bool
takes_effect p r known v = not (is_gone known.gone v) && not (is_over p r (tenancy_of known.placed v))

same_instance : (p : Params) (r : ℕ) (known : Known) (v w : Instance)
    → ((w.0 == v.0) && takes_effect p r known w) ≡ ((w.0 == v.0) && takes_effect p r known v)
same_instance p r known v w = by_test (w.0 == v.0) refl
  where
    by_test : (b : Bool) → (w.0 == v.0) ≡ b → (b && takes_effect p r known w) ≡ (b && takes_effect p r known v)
    by_test true e = ap (λ n. takes_effect p r known (record { 0 = n })) (eqb-true w.0 v.0 e)
    by_test false e = refl

stopping_says : (p : Params) (os : List Order) (r : ℕ) (v w : Instance) (ask : Ask) (known : Known) → IsPlan p → AreInForm p known
    → orders.start_of os w ≡ Some ask → Says v ((w.0 == v.0) && takes_effect p r known v) known (stopping p os r w known)
unfolding stopping
stopping_says p os r v w ask known plan form e =
    subst (λ b. Says v b known (stopping p os r w known)) (same_instance p r known v w)
    (unless_gone_says p os r v w ask known (is_gone known.gone w) plan form e)

-- where an order stops an instance, that instance has a start
abbrev pub HasStart : List Order → Order → Type 0
HasStart os o = (w : Instance) → o.what ≡ Finish w → (ask : Ask) × (orders.start_of os w ≡ Some ask)

carries_says : (p : Params) (os : List Order) (r : ℕ) (v : Instance) (kind : OrderKind) (known : Known) → IsPlan p → AreInForm p known
    → ((w : Instance) → kind ≡ Finish w → (ask : Ask) × (orders.start_of os w ≡ Some ask))
    → Says v (is_finish_of v.0 kind && takes_effect p r known v) known (carries p os r kind known)
unfolding starts
carries_says p os r v (Begin ask) known plan form has = record { said = refl; after = or_false _; count = refl; placed = refl; silent = λ p. refl }
carries_says p os r v (Finish w) known plan form has = let found = has w refl in stopping_says p os r v w found.0 known plan form found.1

pub carrying_says : (p : Params) (os : List Order) (r : ℕ) (v : Instance) (o : Order) (known : Known) → IsPlan p → AreInForm p known → HasStart os o
    → Says v (is_finish_of v.0 o.what && takes_effect p r known v) known (carrying p os r o known)
unfolding carrying
carrying_says p os r v o known plan form has = carries_says p os r v o.what known plan form has
