-- What stands in the view of a cub.
use Rattle.std.proofs.Common.{◌≡◌, ℕ, ◌<◌, Bool, true, false, not, ◌||◌, ◌==◌, IsTrue, nat_lt, cond, List, [], ◌∷◌, filter, Option, Some, None, is_some, Bor, refl, ap, sym, subst, ⊎_elim, ◌∙◌}
use Rattle.std.specs.Prelude.{◌↔◌}
use Rattle.std.specs.Map.Iter.{TakesFirst, deref}
use Rattle.std.specs.List.{AllByRecursion, list_any}
use Rattle.std.proofs.lemmas.Bool.{false≢true}
use Rattle.tiger_base.specs.declared.tenancy.Rec.{Rec}
use Rattle.slot_plan.specs.declared.params.Params.{Params}
use Rattle.run_model.specs.Views.{same_record}
use Rattle.run_model.specs.Moments.{Moment}
use Rattle.run_model.specs.Parts.{IsPart, ViewsArePart}
use Rattle.run_model.proofs.Reflects.{and_both, and_left, and_right, or_either, or_first, or_second, less}
use Rattle.audit_frame.specs.declared.records.Held.{Held}
use Rattle.audit_frame.proofs.Recorded.{one_record, record_itself}
use Rattle.audit_views.specs.Views.{is_in_view}

-- ---- the records of a list

of_members : (P : Rec → Type 0) (xs : List Rec) → AllByRecursion P xs → (r : Rec) → IsTrue (list_any (same_record r) xs) → P r
of_members P [] h r t = absurd (false≢true t)
of_members P (x ∷ xs) h r t = ⊎_elim
    (λ a. subst P (sym (one_record r x a)) h.0)
    (λ b. of_members P xs h.1 r b)
    (or_either (same_record r x) (list_any (same_record r) xs) t)

to_members : (P : Rec → Type 0) (xs : List Rec) → ((r : Rec) → IsTrue (list_any (same_record r) xs) → P r) → AllByRecursion P xs
to_members P [] f = tt
to_members P (x ∷ xs) f = (
  f x (or_first (same_record x x) (list_any (same_record x) xs) (record_itself x)),
  to_members P xs (λ r t. f r (or_second (same_record r x) (list_any (same_record r) xs) t)),
)

kept_one : (t k : Rec → Bool) (x : Rec) (xs : List Rec) (b : Bool) → (IsTrue (list_any t (filter k xs)) → IsTrue (list_any t xs))
    → IsTrue (list_any t (cond b (x ∷ filter k xs) (filter k xs))) → IsTrue (t x || list_any t xs)
kept_one t k x xs true f h = ⊎_elim
    (λ a. or_first (t x) (list_any t xs) a)
    (λ a. or_second (t x) (list_any t xs) (f a))
    (or_either (t x) (list_any t (filter k xs)) h)
kept_one t k x xs false f h = or_second (t x) (list_any t xs) (f h)

-- what is kept of some stood among them
pub kept_stood : (t k : Rec → Bool) (xs : List Rec) → IsTrue (list_any t (filter k xs)) → IsTrue (list_any t xs)
kept_stood t k [] h = h
kept_stood t k (x ∷ xs) h = kept_one t k x xs (k x) (λ a. kept_stood t k xs a) h

-- ---- views

-- what a view has is a cub's
pub of_cub : (p : Params) (m : Moment) (c : ℕ) (r : Rec) → IsTrue (is_in_view p m c r) → c < p.cubs
of_cub p m c r t = (less c p.cubs).0 (and_left (nat_lt c p.cubs) (list_any (same_record r) (m.records c)) t)

pub stands : (p : Params) (m : Moment) (c : ℕ) (r : Rec) → c < p.cubs → IsTrue (list_any (same_record r) (m.records c))
    → IsTrue (is_in_view p m c r)
stands p m c r low t = and_both (nat_lt c p.cubs) (list_any (same_record r) (m.records c)) ((less c p.cubs).1 low) t

pub all_part : (p : Params) (m : Moment) → ViewsArePart p m → (c : ℕ) (r : Rec) → IsTrue (is_in_view p m c r)
    → IsPart p m r.tenancy r.visit
all_part p m h c r t =
    of_members (λ q. IsPart p m q.tenancy q.visit) (m.records c) (h c (of_cub p m c r t))
    r (and_right (nat_lt c p.cubs) (list_any (same_record r) (m.records c)) t)

pub from_part : (p : Params) (m : Moment) → ((c : ℕ) (r : Rec) → IsTrue (is_in_view p m c r) → IsPart p m r.tenancy r.visit)
    → ViewsArePart p m
from_part p m f c low =
    to_members (λ q. IsPart p m q.tenancy q.visit) (m.records c) (λ r t. f c r (stands p m c r low t))

-- ---- the records of an instance

-- what is first of no records
pub first_of_none : (o : Option (Bor Held)) (r : Bool) (v : ℕ) (part rest held : List Held) → is_some o ≡ not r
    → TakesFirst deref part o rest → part ≡ filter (λ h. h.under == v) held
    → IsTrue r ↔ (filter (λ h. h.under == v) held ≡ [])
first_of_none None r v part rest held e takes is = ((λ t. sym is ∙ takes.0), (λ none. is_set r (sym e)))
  where
    is_set : (b : Bool) → not b ≡ false → b ≡ true
    is_set true q = refl
    is_set false q = absurd (false≢true (sym q))
first_of_none (Some x) r v part rest held e takes is = (
  (λ t. absurd (false≢true (sym (e ∙ ap not t)))),
  (λ none. absurd (false≢true (ap some_first (sym none ∙ (sym is ∙ takes))))),
)
  where
    some_first : List Held → Bool
    some_first [] = false
    some_first (h ∷ hs) = true
