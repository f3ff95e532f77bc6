-- What a set of wants has after one more.
use Rattle.std.proofs.Common.{◌≡◌, ℕ, Bool, true, false, ◌&&◌, ◌||◌, ◌==◌, cond, refl, ap, ◌∙◌}
use Rattle.std.specs.declared.cmp.Ordering.{Ordering}
use Rattle.std.specs.Cmp.{unsigned_tied}
use Rattle.std.specs.Ordering.{is_eq, nat_cmp, ordering_then}
use Rattle.tiger_base.specs.Records.{same_want}
use Rattle.tiger_base.specs.declared.tenancy.Want.{Want}
use Rattle.audit_frame.specs.Wanted.{WantNumbers, want_key, key_cmp, has_want}
use Rattle.audit_frame.specs.declared.wants.Key.{Key}
use Rattle.audit_frame.proofs.Tabled.{both_equal, added}

one_number : (m k : ℕ) (rest : Ordering) (same : Bool) → is_eq rest ≡ same
    → is_eq (ordering_then (nat_cmp m k) rest) ≡ ((m == k) && same)
one_number m k rest same e =
    both_equal (nat_cmp m k) rest
    ∙ ap (λ (b : Bool). b && is_eq rest) (unsigned_tied m k)
    ∙ ap (λ (b : Bool). (m == k) && b) e

-- tests one after another, from either end
nested : (a b c d e f : Bool) → (a && (b && (c && (d && (e && f))))) ≡ (((((a && b) && c) && d) && e) && f)
nested false b c d e f = refl
nested true false c d e f = refl
nested true true false d e f = refl
nested true true true false e f = refl
nested true true true true false f = refl
nested true true true true true f = refl

keys_same : (a b : Want) → is_eq (key_cmp (want_key a) (want_key b)) ≡ same_want a b
keys_same a b =
    one_number a.instance.0 b.instance.0 _ _ (one_number a.slot.0 b.slot.0 _ _ (one_number a.visit b.visit _ _
    (one_number a.file.0 b.file.0 _ _ (one_number a.block b.block _ _ (unsigned_tied a.piece b.piece)))))
    ∙ nested (a.instance.0 == b.instance.0) (a.slot.0 == b.slot.0) (a.visit == b.visit) (a.file.0 == b.file.0) (a.block == b.block)
    (a.piece == b.piece)

pub want_added : (want w : Want) (key : Key) (old mid new : WantNumbers) → mid ≡ old → key ≡ want_key want
    → has_want w new ≡ cond (is_eq (key_cmp key (want_key w))) true (has_want w mid)
    → has_want w new ≡ (has_want w old || same_want want w)
want_added want w key old mid new view is e =
    e ∙ ap (λ (k : Key). cond (is_eq (key_cmp k (want_key w))) true (has_want w mid)) is
    ∙ added (same_want want w) (is_eq (key_cmp (want_key want) (want_key w))) (has_want w mid) (keys_same want w)
    ∙ ap (λ (rows : WantNumbers). has_want w rows || same_want want w) view
