-- Deschedules of which none ends before the one that came before it: those that have ended stand in front.
use Rattle.std.proofs.Common.{◌≡◌, ◌∙◌, ℕ, ◌-◌, ◌<◌, ◌≤◌, zero, suc, Bool, true, false, cond, not, ◌||◌, ◌&&◌, ◌==◌, List, [], ◌∷◌, ◌++◌, length, get_or, Option, Some, None, refl, ap, sym, subst, arith}
use Rattle.std.specs.Prelude.{slice_set}
use Rattle.std.specs.List.{list_any}
use Rattle.std.proofs.Math.Bool.{and-true}
use Rattle.std.proofs.lemmas.Bool.Decides.{nat_tests}
use Rattle.std.proofs.lemmas.List.{get_or_default}
use Rattle.std.proofs.lemmas.List.Elements.{recursion_from_All}
use Rattle.std.proofs.lemmas.List.Sorted.{IsNonDecreasingBy-push}
use Rattle.tiger_base.specs.declared.number.Instance.{Instance}
use Rattle.deschedule.specs.declared.held.Holding.{Holding}
use Rattle.deschedule.specs.Holds.{AreFrom, is_kept, is_of, has_ended, holds_at, with_pass}
use Rattle.deschedule.specs.Order.{EndInOrder, first_ended, but_first_ended}
use Rattle.instance_marks.proofs.Marked.{dropped-mark}
use Rattle.deschedule.proofs.Ends.{all_stay}

order_rest : (h : Holding) (hs : List Holding) → EndInOrder (h ∷ hs) → EndInOrder hs
order_rest h hs o = λ i j d a b. o (suc i) (suc j) d (omega (arith, a)) (omega (arith, b))

-- none ends before the first
from_first : (h : Holding) (hs : List Holding) → EndInOrder (h ∷ hs) → AreFrom h.until (h ∷ hs)
from_first h hs o = recursion_from_All (λ (g : Holding). h.until ≤ g.until) (h ∷ hs) (λ i d l. o 0 i d (omega arith) l)

pub from_front : (x : Holding) (hs : List Holding) → EndInOrder hs → x ≡ get_or hs 0 x → AreFrom x.until hs
from_front x [] o e = tt
from_front x (h ∷ hs) o e = subst (λ (y : Holding). AreFrom y.until (h ∷ hs)) (sym e) (from_first h hs o)

pub from_none : (time n : ℕ) (hs : List Holding) → n ≡ length hs → (0 < n → ⊥) → AreFrom time hs
from_none time n [] e empty = tt
from_none time n (h ∷ hs) e empty = absurd (empty (omega (arith, e)))

-- nothing has ended before the time from which they end
none_ended : (time reading : ℕ) (hs : List Holding) (v : Instance) → AreFrom time hs → reading < time → has_ended hs reading v ≡ false
none_ended time reading [] v from early = refl
none_ended time reading (h ∷ hs) v from early =
    let kept : is_kept reading h ≡ true = grind (arith, nat_tests) in
    rw kept (not_here (is_of v h) _ (none_ended time reading hs v from.1 early))
  where
    not_here : (a b : Bool) → b ≡ false → ((a && false) || b) ≡ false
    not_here true b e = e
    not_here false b e = e

module _ (reading : ℕ) where
  -- the first one has ended
  pub record IsFirstEnded (h : Holding) (items now : List Holding) : Type 0 where
    pub whole : items ≡ h ∷ now
    pub ended : is_kept reading h ≡ false

  pub first_one : (h : Holding) (items now : List Holding) → Some h ≡ first_ended reading items → now ≡ but_first_ended reading items → IsFirstEnded h items now
  first_one h [] now e f = absurd (cc)
  first_one h (x ∷ xs) now e f = at (is_kept reading x) refl e f
    where
      at : (t : Bool) → is_kept reading x ≡ t → Some h ≡ cond t None (Some x) → now ≡ cond t (x ∷ xs) xs → IsFirstEnded h (x ∷ xs) now
      at true is e f = absurd (cc)
      at false is e f =
          let same : h ≡ x = cc in
          record {
            whole = ap (λ (y : Holding). y ∷ xs) (sym same) ∙ ap (λ (ys : List Holding). h ∷ ys) (sym f);
            ended = subst (λ (y : Holding). is_kept reading y ≡ false) (sym same) is;
          }

  -- none has
  pub record IsNoneEnded (items now : List Holding) : Type 0 where
    pub same : now ≡ items
    pub left : holds_at items reading ≡ items
    pub ended : (v : Instance) → has_ended items reading v ≡ false

  pub no_one : (items now : List Holding) → EndInOrder items → None ≡ first_ended reading items → now ≡ but_first_ended reading items → IsNoneEnded items now
  no_one [] now o e f = record { same = f; left = refl; ended = λ v. refl }
  no_one (x ∷ xs) now o e f = at (is_kept reading x) refl e f
    where
      at : (t : Bool) → is_kept reading x ≡ t → None ≡ cond t None (Some x) → now ≡ cond t (x ∷ xs) xs → IsNoneEnded (x ∷ xs) now
      at false is e f = absurd (cc)
      at true is e f =
          let early : reading < x.until = grind (arith, nat_tests) in
          record {
            same = f;
            left = all_stay x.until reading (x ∷ xs) (from_first x xs o) early;
            ended = λ v. none_ended x.until reading (x ∷ xs) v (from_first x xs o) early;
          }

  -- what the marks tell beside those that have ended
  abbrev pub told : List Bool → List Holding → Instance → Bool
  told marks holds v = get_or marks v.0 false && not (has_ended holds reading v)

  -- the loop: what is released is released either way
  pub record AreReleasing (old items : List Holding) (held_old held_now unpassed_old unpassed_now : List Bool) : Type 0 where
    pub order : EndInOrder items
    pub left : holds_at items reading ≡ holds_at old reading
    pub held : (v : Instance) → told held_now items v ≡ told held_old old v
    pub unpassed : (v : Instance) → told unpassed_now items v ≡ told unpassed_old old v

  dropped_too : (m e r : Bool) → ((m && not e) && not r) ≡ (m && not ((e && true) || r))
  dropped_too true true r = refl
  dropped_too true false r = refl
  dropped_too false e r = refl

  told_without : (h : Holding) (items now : List Holding) (marks after : List Bool) → IsFirstEnded h items now → after ≡ slice_set marks h.instance.0 false → (v : Instance) → told after now v ≡ told marks items v
  told_without h items now marks after is put v =
      let of : Bool = h.instance.0 == v.0 in
      let rest : Bool = has_ended now reading v in
      let behind : has_ended (h ∷ now) reading v ≡ ((of && true) || rest) = ap (λ b. (of && not b) || rest) is.ended in
      ap (λ (ms : List Bool). get_or ms v.0 false && not rest) put
      ∙ (ap (λ b. b && not rest) (dropped-mark marks h.instance.0 v.0)
      ∙ (dropped_too (get_or marks v.0 false) of rest
      ∙ (ap (λ b. get_or marks v.0 false && not b) (sym behind) ∙ ap (λ (hs : List Holding). told marks hs v) (sym is.whole))))

  module _ (old items now : List Holding) (held_old held_now unpassed_old unpassed_now : List Bool) (l : AreReleasing old items held_old held_now unpassed_old unpassed_now) where
    pub one_released : (h : Holding) (held_after unpassed_after : List Bool) → Some h ≡ first_ended reading items → now ≡ but_first_ended reading items → held_after ≡ slice_set held_now h.instance.0 false
        → unpassed_after ≡ slice_set unpassed_now h.instance.0 false → AreReleasing old now held_old held_after unpassed_old unpassed_after
    one_released h held_after unpassed_after e f held_is unpassed_is =
        let is = first_one h items now e f in
        let gone : holds_at (h ∷ now) reading ≡ holds_at now reading = rw (is.ended) refl in
        record {
          order = order_rest h now (subst (λ (hs : List Holding). EndInOrder hs) is.whole l.order);
          left = sym gone ∙ (ap (λ (hs : List Holding). holds_at hs reading) (sym is.whole) ∙ l.left);
          held = λ v. told_without h items now held_now held_after is held_is v ∙ l.held v;
          unpassed = λ v. told_without h items now unpassed_now unpassed_after is unpassed_is v ∙ l.unpassed v;
        }

    pub one_fewer : (h : Holding) → Some h ≡ first_ended reading items → now ≡ but_first_ended reading items → length now < length items
    one_fewer h e f = omega (arith, ap (λ (hs : List Holding). length hs) (first_one h items now e f).whole)

    module _ (e : None ≡ first_ended reading items) (f : now ≡ but_first_ended reading items) where
      abbrev none : IsNoneEnded items now
      none = no_one items now l.order e f

      pub all_left : now ≡ holds_at old reading
      all_left = none.same ∙ (sym none.left ∙ l.left)

      pub still_in_order : EndInOrder now
      still_in_order = subst (λ (hs : List Holding). EndInOrder hs) (sym none.same) l.order

      told_all : (marks marks_old : List Bool) → ((v : Instance) → told marks items v ≡ told marks_old old v) → (v : Instance) → get_or marks v.0 false ≡ told marks_old old v
      told_all marks marks_old is v =
          sym (ap (λ b. get_or marks v.0 false && not b) (none.ended v) ∙ and-true (get_or marks v.0 false)) ∙ is v

      pub held_told : (v : Instance) → get_or held_now v.0 false ≡ told held_old old v
      held_told v = told_all held_now held_old l.held v

      pub unpassed_told : (v : Instance) → get_or unpassed_now v.0 false ≡ told unpassed_old old v
      unpassed_told v = told_all unpassed_now unpassed_old l.unpassed v

-- with a further one behind the others
pub order_one : (n : ℕ) (hs : List Holding) (h : Holding) → n ≡ length hs → (0 < n → ⊥) → EndInOrder (hs ++ h ∷ [])
order_one n [] h e empty = λ i j d a b.
    let same : i ≡ j = omega (arith, a, b) in
    subst (λ (k : ℕ). (get_or (h ∷ []) i d).until ≤ (get_or (h ∷ []) k d).until) same (omega arith)
order_one n (x ∷ xs) h e empty = absurd (empty (omega (arith, e)))

pub order_more : (hs : List Holding) (last h : Holding) → EndInOrder hs → last ≡ get_or hs (length hs - 1) last → 0 < length hs → last.until ≤ h.until → EndInOrder (hs ++ h ∷ [])
order_more hs last h o e some behind =
    IsNonDecreasingBy-push (λ (g : Holding). g.until) hs h o
    (λ d l. subst (λ (g : Holding). g.until ≤ h.until) (e ∙ get_or_default hs (length hs - 1) last d (omega (arith, l))) behind)

-- with one passed on
until-pass : (hs : List Holding) (v : Instance) (i : ℕ) (d : Holding) → i < length hs → (get_or (with_pass hs v) i d).until ≡ (get_or hs i d).until
until-pass [] v i d l = absurd (omega arith)
until-pass (h ∷ hs) v zero d l = elim (is_of v h) as (λ b. (cond b (record h { passed = true }) h).until ≡ h.until) [ true ↦ refl | false ↦ refl ]
until-pass (h ∷ hs) v (suc i) d l = until-pass hs v i d (omega (arith, l))

length-pass : (hs : List Holding) (v : Instance) → length (with_pass hs v) ≡ length hs
length-pass [] v = refl
length-pass (h ∷ hs) v = ap suc (length-pass hs v)

pub order_pass : (hs : List Holding) (v : Instance) → EndInOrder hs → EndInOrder (with_pass hs v)
order_pass hs v o = λ i j d a b.
    let there = length-pass hs v in
    omega (arith, until-pass hs v i d (omega (arith, a, b, there)), until-pass hs v j d (omega (arith, b, there)), o i j d a (omega (arith, b, there)))
