-- Which records are one.
use Rattle.std.proofs.Common.{◌≡◌, ◌&&◌, IsTrue, refl, subst}
use Rattle.std.specs.Prelude.{◌==◌}
use Rattle.std.proofs.lemmas.Bool.{eqb-true, eq-eqb, false≢true}
use Rattle.tiger_base.specs.declared.tenancy.Kind.{Kind}
use Rattle.tiger_base.specs.declared.tenancy.Kind.TheVariants.{Own, Backup}
use Rattle.tiger_base.specs.declared.tenancy.Rec.{Rec}
use Rattle.tiger_base.specs.declared.tenancy.Tenancy.{Tenancy}
use Rattle.run_model.specs.Views.{same_kind, same_tenancy, same_record}
use Rattle.run_model.proofs.Reflects.{and_both, and_left, and_right}
use Rattle.audit_frame.proofs.Spans.{same_test}

pub one_tenancy : (t u : Tenancy) → IsTrue (same_tenancy t u) → t ≡ u
one_tenancy t u h =
    let a = t.instance.0 == u.instance.0 in
    let b = t.file.0 == u.file.0 in
    let c = t.slot.0 == u.slot.0 in
    let d = t.first == u.first in
    let e = t.last == u.last in
    let h4 = and_left (((a && b) && c) && d) e h in
    let h3 = and_left ((a && b) && c) d h4 in
    let h2 = and_left (a && b) c h3 in
    let instance = eqb-true t.instance.0 u.instance.0 (and_left a b h2) in
    let file = eqb-true t.file.0 u.file.0 (and_right a b h2) in
    let slot = eqb-true t.slot.0 u.slot.0 (and_right (a && b) c h3) in
    let first = eqb-true t.first u.first (and_right ((a && b) && c) d h4) in
    let last = eqb-true t.last u.last (and_right (((a && b) && c) && d) e h) in
    λ i. record {
      instance = record { 0 = instance i };
      file = record { 0 = file i };
      slot = record { 0 = slot i };
      first = first i;
      last = last i;
    }

pub tenancy_itself : (t : Tenancy) → IsTrue (same_tenancy t t)
tenancy_itself t =
    let a = t.instance.0 == t.instance.0 in
    let b = t.file.0 == t.file.0 in
    let c = t.slot.0 == t.slot.0 in
    let d = t.first == t.first in
    let e = t.last == t.last in
    and_both (((a && b) && c) && d) e
    (and_both ((a && b) && c) d
    (and_both (a && b) c
    (and_both a b (eq-eqb t.instance.0 t.instance.0 refl) (eq-eqb t.file.0 t.file.0 refl))
    (eq-eqb t.slot.0 t.slot.0 refl))
    (eq-eqb t.first t.first refl))
    (eq-eqb t.last t.last refl)

one_kind : (a b : Kind) → IsTrue (same_kind a b) → a ≡ b
one_kind Own Own h = refl
one_kind Backup Backup h = refl
one_kind Own Backup h = absurd (false≢true h)
one_kind Backup Own h = absurd (false≢true h)

kind_itself : (a : Kind) → IsTrue (same_kind a a)
kind_itself Own = refl
kind_itself Backup = refl

pub one_record : (r q : Rec) → IsTrue (same_record r q) → r ≡ q
unfolding same_record
one_record r q h =
    let a = same_tenancy r.tenancy q.tenancy in
    let b = r.visit == q.visit in
    let c = same_kind r.kind q.kind in
    let h1 = and_left (a && b) c h in
    let tenancy = one_tenancy r.tenancy q.tenancy (and_left a b h1) in
    let visit = eqb-true r.visit q.visit (and_right a b h1) in
    let kind = one_kind r.kind q.kind (and_right (a && b) c h) in
    λ i. record { tenancy = tenancy i; visit = visit i; kind = kind i }

pub record_itself : (r : Rec) → IsTrue (same_record r r)
unfolding same_record
record_itself r =
    and_both (same_tenancy r.tenancy r.tenancy && (r.visit == r.visit)) (same_kind r.kind r.kind)
    (and_both (same_tenancy r.tenancy r.tenancy) (r.visit == r.visit) (tenancy_itself r.tenancy) (eq-eqb r.visit r.visit refl))
    (kind_itself r.kind)

pub same_turned : (r q : Rec) → same_record r q ≡ same_record q r
same_turned r q = same_test (same_record r q) (same_record q r)
    (λ h. subst (λ (k : Rec). IsTrue (same_record k r)) (one_record r q h) (record_itself r))
    (λ h. subst (λ (k : Rec). IsTrue (same_record k q)) (one_record q r h) (record_itself q))
