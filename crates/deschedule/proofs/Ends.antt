-- What keeps that none ends before a time, and that all are held still until then.
use Rattle.std.proofs.Common.{◌≡◌, ◌∙◌, ℕ, ◌<◌, ◌≤◌, Bool, true, false, cond, not, ◌&&◌, List, [], ◌∷◌, ◌++◌, length, get_or, refl, ap, sym, subst, arith}
use Rattle.std.specs.Prelude.{slice_set}
use Rattle.std.proofs.lemmas.Bool.Decides.{nat_tests}
use Rattle.tiger_base.specs.declared.number.Instance.{Instance}
use Rattle.deschedule.specs.declared.held.Holding.{Holding}
use Rattle.deschedule.specs.Holds.{AreFrom, AreHeld, is_held, is_kept, is_of, has_ended, holds_at, must_pass, with_pass}
use Rattle.instance_marks.specs.Marks.{most_marked}
use Rattle.instance_marks.proofs.Marked.{marked_less, marked_more}
use Rattle.deschedule.proofs.Marked.{held_left_marks, held_with, marked_left, unpassed_left, unpassed_pass, unpassed_with}
use Rattle.deschedule.proofs.Once.{IsOnce-holds_at, IsOnce-more, IsOnce-with_pass, with_pass-held}

from_more : (time least : ℕ) (holds : List Holding) (new : Holding) → AreFrom time holds → least ≤ time → least ≤ new.until → AreFrom least (holds ++ new ∷ [])
from_more time least [] new h below here = (here, tt)
from_more time least (x ∷ xs) new h below here = (omega (arith, below, h.0), from_more time least xs new h.1 below here)

from_pass : (time : ℕ) (holds : List Holding) (v : Instance) → AreFrom time holds → AreFrom time (with_pass holds v)
from_pass time [] v h = tt
from_pass time (x ∷ xs) v h =
    (elim (is_of v x) as (λ b. time ≤ (cond b (record x { passed = true }) x).until) [ true ↦ h.0 | false ↦ h.0 ], from_pass time xs v h.1)

-- all are held still at a reading before the time
pub all_stay : (time reading : ℕ) (holds : List Holding) → AreFrom time holds → reading < time → holds_at holds reading ≡ holds
all_stay time reading [] h early = refl
all_stay time reading (x ∷ xs) h early =
    let kept : is_kept reading x ≡ true = grind (arith, nat_tests) in
    rw kept (ap (λ ys. x ∷ ys) (all_stay time reading xs h.1 early))

module _ (time : ℕ) (held_marks unpassed_marks : List Bool) (holds : List Holding) (h : AreHeld time held_marks unpassed_marks holds) where
  -- with a further one, under a time that it does not end before
  pub held_more : (least : ℕ) (held_grown unpassed_grown held_now unpassed_now : List Bool) (now : List Holding) (v : Instance) (until : ℕ) → is_held holds v ≡ false
      → ((n : ℕ) → get_or held_grown n false ≡ get_or held_marks n false) → (v.0 < most_marked → v.0 < length held_grown) → held_now ≡ slice_set held_grown v.0 true
      → ((n : ℕ) → get_or unpassed_grown n false ≡ get_or unpassed_marks n false) → (v.0 < most_marked → v.0 < length unpassed_grown) → unpassed_now ≡ slice_set unpassed_grown v.0 true
      → now ≡ holds ++ record { instance = v; until = until; passed = false } ∷ [] → least ≤ time → least ≤ until → AreHeld least held_now unpassed_now now
  held_more least held_grown unpassed_grown held_now unpassed_now now v until e held_same held_place held_is unpassed_same unpassed_place unpassed_is is below here =
      let new : Holding = record { instance = v; until = until; passed = false } in
      rw is record {
        once = IsOnce-more holds new h.once e;
        from = from_more time least holds new h.from below here;
        held = marked_more held_marks held_grown held_now (is_held holds) (is_held (holds ++ new ∷ [])) v h.held held_same held_place held_is (held_with holds new);
        unpassed = marked_more unpassed_marks unpassed_grown unpassed_now (must_pass holds) (must_pass (holds ++ new ∷ [])) v h.unpassed unpassed_same unpassed_place unpassed_is (λ w. unpassed_with holds new w refl);
      }

  -- with one passed on
  pub held_passed : (unpassed_now : List Bool) (v : Instance) → unpassed_now ≡ slice_set unpassed_marks v.0 false → AreHeld time held_marks unpassed_now (with_pass holds v)
  held_passed unpassed_now v is = record {
    once = IsOnce-with_pass holds v h.once;
    from = from_pass time holds v h.from;
    held = λ w small. h.held w small ∙ sym (with_pass-held holds v w);
    unpassed = marked_less unpassed_marks unpassed_now (must_pass holds) (must_pass (with_pass holds v)) v h.unpassed is (unpassed_pass holds v);
  }

  -- what is left at a reading, under a time of its own
  pub held_left : (least reading : ℕ) (held_now unpassed_now : List Bool) (now : List Holding)
      → ((v : Instance) → get_or held_now v.0 false ≡ (get_or held_marks v.0 false && not (has_ended holds reading v)))
      → ((v : Instance) → get_or unpassed_now v.0 false ≡ (get_or unpassed_marks v.0 false && not (has_ended holds reading v))) → now ≡ holds_at holds reading → AreFrom least now → AreHeld least held_now unpassed_now now
  held_left least reading held_now unpassed_now now held_is unpassed_is is from =
      let from_left : AreFrom least (holds_at holds reading) = subst (λ (hs : List Holding). AreFrom least hs) is from in
      rw is record {
        once = IsOnce-holds_at holds reading h.once;
        from = from_left;
        held = marked_left held_marks held_now (is_held holds) (is_held (holds_at holds reading)) holds reading h.held held_is (λ w. held_left_marks holds reading w h.once);
        unpassed = marked_left unpassed_marks unpassed_now (must_pass holds) (must_pass (holds_at holds reading)) holds reading h.unpassed unpassed_is (λ w. unpassed_left holds reading w h.once);
      }
