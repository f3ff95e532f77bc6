-- What a set of records has after a change, and which of them stand under a number.
use Rattle.std.proofs.Common.{◌≡◌, ℕ, ◌+◌, nat_lt, nat_le, Bool, true, false, not, ◌&&◌, ◌||◌, ◌==◌, IsTrue, cond, List, filter, refl, sym, ap, subst, ◌∙◌}
use Rattle.std.specs.declared.ops.Bound.TheVariants.{Included, Excluded}
use Rattle.std.specs.BTreeMap.Range.{range_contains}
use Rattle.std.specs.Ordering.{is_eq, is_le, nat_cmp}
use Rattle.std.proofs.lemmas.Bool.{eqb-true, eq-eqb}
use Rattle.tiger_base.specs.declared.tenancy.Kind.{Kind}
use Rattle.tiger_base.specs.declared.tenancy.Kind.TheVariants.{Own, Backup}
use Rattle.tiger_base.specs.declared.tenancy.Rec.{Rec}
use Rattle.run_model.specs.Views.{same_record}
use Rattle.run_model.proofs.Reflects.{and_both, and_left, and_right}
use Rattle.audit_frame.specs.Records.{backs_up, has_held, held_by, held_cmp, is_held_at, is_same, kind_by, lowest_held, record_of}
use Rattle.audit_frame.specs.declared.records.By.{By}
use Rattle.audit_frame.specs.declared.records.By.TheVariants as way
use Rattle.audit_frame.specs.declared.records.Held.{Held}
use Rattle.audit_frame.proofs.Added.{turned}
use Rattle.audit_frame.proofs.Keyed.{and_not, any_filtered, between, filter_alike, flag, le_by, le_is, le_then, least_flag, low, one, one_between, or_turned, own_flag, own_number}
use Rattle.audit_frame.proofs.Recorded.{one_record, record_itself}
use Rattle.audit_frame.proofs.Spans.{same_test}

-- ---- numbers in one order are the same numbers

pub one_held : (a b : Held) → IsTrue (is_eq (held_cmp a b)) → a ≡ b
one_held a b h =
    let e = one a.under b.under _ _ (one a.cub b.cub _ _ (one a.visit b.visit _ _ (one a.beside b.beside _ _
    (one a.file b.file _ _ (one a.first b.first _ _ (one a.last b.last _ _ (flag a.backup b.backup))))))) h in
    λ i. record {
      under = e.0 i;
      cub = e.1.0 i;
      visit = e.1.1.0 i;
      beside = e.1.1.1.0 i;
      file = e.1.1.1.1.0 i;
      first = e.1.1.1.1.1.0 i;
      last = e.1.1.1.1.1.1.0 i;
      backup = e.1.1.1.1.1.1.1 i;
    }

pub held_itself : (a : Held) → IsTrue (is_eq (held_cmp a a))
held_itself a = own_number a.under _ (own_number a.cub _ (own_number a.visit _ (own_number a.beside _ (own_number a.file _
    (own_number a.first _ (own_number a.last _ (own_flag a.backup)))))))

-- a record is that of its numbers, and numbers are those of their record
kind_again : (k : Kind) → kind_by (backs_up k) ≡ k
kind_again Own = refl
kind_again Backup = refl

flag_again : (b : Bool) → backs_up (kind_by b) ≡ b
flag_again true = refl
flag_again false = refl

pub record_again : (w : By) (c : ℕ) (r : Rec) → record_of w (held_by w c r) ≡ r
record_again way.Instance c r = ap (λ (k : Kind). record { tenancy = r.tenancy; visit = r.visit; kind = k }) (kind_again r.kind)
record_again way.Slot c r = ap (λ (k : Kind). record { tenancy = r.tenancy; visit = r.visit; kind = k }) (kind_again r.kind)

abbrev with_flag : Held → Bool → Held
with_flag h b = record {
  under = h.under;
  cub = h.cub;
  visit = h.visit;
  beside = h.beside;
  file = h.file;
  first = h.first;
  last = h.last;
  backup = b;
}

pub held_again : (w : By) (h : Held) → held_by w h.cub (record_of w h) ≡ h
held_again way.Instance h = ap (with_flag h) (flag_again h.backup)
held_again way.Slot h = ap (with_flag h) (flag_again h.backup)

-- the numbers of two records of cubs are one if the cubs and the records are
pub same_is : (w : By) (n c : ℕ) (r q : Rec) → is_eq (held_cmp (held_by w n r) (held_by w c q)) ≡ is_same n r c q
same_is w n c r q = same_test (is_eq (held_cmp (held_by w n r) (held_by w c q))) (is_same n r c q)
    (λ h.
    let e = one_held (held_by w n r) (held_by w c q) h in
    let same : r ≡ q = sym (record_again w n r) ∙ (ap (record_of w) e ∙ record_again w c q) in
    and_both (n == c) (same_record r q) (eq-eqb n c (ap (λ (k : Held). k.cub) e))
    (subst (λ (k : Rec). IsTrue (same_record r k)) same (record_itself r)))
    (λ h.
    let same = one_record r q (and_right (n == c) (same_record r q) h) in
    let cub = eqb-true n c (and_left (n == c) (same_record r q) h) in
    subst (λ (k : ℕ). IsTrue (is_eq (held_cmp (held_by w n r) (held_by w k q)))) cub
    (subst (λ (k : Rec). IsTrue (is_eq (held_cmp (held_by w n r) (held_by w n k)))) same (held_itself (held_by w n r))))

-- ---- a record more, and one less

pub record_added : (w : By) (n c : ℕ) (r q : Rec) (key : Held) (old mid new : List Held) → mid ≡ old → key ≡ held_by w n r
    → has_held w c q new ≡ cond (is_eq (held_cmp key (held_by w c q))) true (has_held w c q mid)
    → has_held w c q new ≡ (has_held w c q old || is_same n r c q)
record_added w n c r q key old mid new view is e =
    e ∙ ap (λ (k : Held). cond (is_eq (held_cmp k (held_by w c q))) true (has_held w c q mid)) is
    ∙ ap (λ (b : Bool). cond b true (has_held w c q mid)) (same_is w n c r q)
    ∙ or_turned (is_same n r c q) (has_held w c q mid)
    ∙ ap (λ (rows : List Held). has_held w c q rows || is_same n r c q) view

pub record_removed : (w : By) (n c : ℕ) (r q : Rec) (key : Held) (old mid new : List Held) → mid ≡ old → key ≡ held_by w n r
    → has_held w c q new ≡ cond (is_eq (held_cmp key (held_by w c q))) false (has_held w c q mid)
    → has_held w c q new ≡ (has_held w c q old && not (is_same n r c q))
record_removed w n c r q key old mid new view is e =
    e ∙ ap (λ (k : Held). cond (is_eq (held_cmp k (held_by w c q))) false (has_held w c q mid)) is
    ∙ ap (λ (b : Bool). cond b false (has_held w c q mid)) (same_is w n c r q)
    ∙ and_not (is_same n r c q) (has_held w c q mid)
    ∙ ap (λ (rows : List Held). has_held w c q rows && not (is_same n r c q)) view

-- none of one cub is left
pub cub_cleared : (w : By) (n c : ℕ) (q : Rec) (old mid new : List Held) → mid ≡ old → new ≡ filter (λ h. not (n == h.cub)) mid
    → has_held w c q new ≡ (has_held w c q old && not (n == c))
cub_cleared w n c q old mid new view is =
    ap (has_held w c q) is
    ∙ any_filtered (λ h. is_eq (held_cmp (held_by w c q) h)) (λ h. not (n == h.cub)) (not (n == c)) mid
    (λ h e. ap (λ (k : Held). not (n == k.cub)) (sym (one_held (held_by w c q) h e)))
    ∙ ap (λ (rows : List Held). has_held w c q rows && not (n == c)) view

-- ---- the records under a number stand between two keys

from_number : (v : ℕ) (h : Held) → is_le (held_cmp (lowest_held v 0 0) h) ≡ nat_le v h.under
from_number v h =
    le_then (nat_cmp v h.under) _ (low h.cub _ (low h.visit _ (low h.beside _ (low h.file _ (low h.first _ (low h.last _ (least_flag h.backup)))))))
    ∙ le_is v h.under

in_number : (v : ℕ) (h : Held)
    → range_contains held_cmp (Included (lowest_held v 0 0)) (Excluded (lowest_held (v + 1) 0 0)) h ≡ (h.under == v)
in_number v h =
    ap (λ (b : Bool). b && not (is_le (held_cmp (lowest_held (v + 1) 0 0) h))) (from_number v h)
    ∙ ap (λ (b : Bool). nat_le v h.under && not b) (from_number (v + 1) h)
    ∙ one_between v h.under

-- and so do those that a cub has of a visit
abbrev not_above : ℕ → ℕ → ℕ → Held → Bool
not_above number c visit h = nat_lt number h.under || ((number == h.under) && (nat_lt c h.cub || ((c == h.cub) && nat_le visit h.visit)))

from_visit : (number c visit : ℕ) (h : Held) → is_le (held_cmp (lowest_held number c visit) h) ≡ not_above number c visit h
from_visit number c visit h =
    le_by number h.under _
    ∙ ap (λ (b : Bool). nat_lt number h.under || ((number == h.under) && b)) (le_by c h.cub _)
    ∙ ap (λ (b : Bool). nat_lt number h.under || ((number == h.under) && (nat_lt c h.cub || ((c == h.cub) && b))))
    (le_then (nat_cmp visit h.visit) _ (low h.beside _ (low h.file _ (low h.first _ (low h.last _ (least_flag h.backup)))))
    ∙ le_is visit h.visit)

in_visit : (number c visit : ℕ) (h : Held)
    → range_contains held_cmp (Included (lowest_held number c visit)) (Excluded (lowest_held number c (visit + 1))) h ≡ is_held_at number c visit h
in_visit number c visit h =
    ap (λ (b : Bool). b && not (is_le (held_cmp (lowest_held number c (visit + 1)) h))) (from_visit number c visit h)
    ∙ ap (λ (b : Bool). not_above number c visit h && not b) (from_visit number c (visit + 1) h)
    ∙ between number h.under _ _
    ∙ ap (λ (b : Bool). (number == h.under) && b) (between c h.cub (nat_le visit h.visit) (nat_le (visit + 1) h.visit))
    ∙ ap (λ (b : Bool). (number == h.under) && ((c == h.cub) && b)) (one_between visit h.visit)
    ∙ ap (λ (b : Bool). b && ((c == h.cub) && (h.visit == visit))) (turned number h.under)
    ∙ ap (λ (b : Bool). (h.under == number) && (b && (h.visit == visit))) (turned c h.cub)
    ∙ swapped (h.under == number) (h.cub == c) (h.visit == visit)
  where
    swapped : (a b d : Bool) → (a && (b && d)) ≡ (b && (a && d))
    swapped true true d = refl
    swapped true false d = refl
    swapped false true d = refl
    swapped false false d = refl

pub between_keys : (from to : Held) (test : Held → Bool)
    → ((h : Held) → range_contains held_cmp (Included from) (Excluded to) h ≡ test h)
    → (lo hi : Held) (keys all : List Held) → lo ≡ from → hi ≡ to → keys ≡ all
    → filter (range_contains held_cmp (Included lo) (Excluded hi)) keys ≡ filter test all
between_keys from to test same lo hi keys all is_lo is_hi view =
    ap (λ (ks : List Held). filter (range_contains held_cmp (Included lo) (Excluded hi)) ks) view
    ∙ ap (λ (k : Held). filter (range_contains held_cmp (Included k) (Excluded hi)) all) is_lo
    ∙ ap (λ (k : Held). filter (range_contains held_cmp (Included from) (Excluded k)) all) is_hi
    ∙ filter_alike (range_contains held_cmp (Included from) (Excluded to)) test all same

pub between_numbers : (v : ℕ) (lo hi : Held) (keys all : List Held) → lo ≡ lowest_held v 0 0 → hi ≡ lowest_held (v + 1) 0 0 → keys ≡ all
    → filter (range_contains held_cmp (Included lo) (Excluded hi)) keys ≡ filter (λ h. h.under == v) all
between_numbers v = between_keys (lowest_held v 0 0) (lowest_held (v + 1) 0 0) (λ h. h.under == v) (in_number v)

pub between_visits : (number c visit : ℕ) (lo hi : Held) (keys all : List Held) → lo ≡ lowest_held number c visit
    → hi ≡ lowest_held number c (visit + 1) → keys ≡ all
    → filter (range_contains held_cmp (Included lo) (Excluded hi)) keys ≡ filter (is_held_at number c visit) all
between_visits number c visit =
    between_keys (lowest_held number c visit) (lowest_held number c (visit + 1)) (is_held_at number c visit) (in_visit number c visit)
