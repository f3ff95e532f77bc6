-- How a part is found by when its want leaves.
use Rattle.std.proofs.Common.{◌≡◌, ℕ, ◌+◌, ◌<◌, ◌≤◌, ◌&&◌, suc, Bool, true, false, cond, nat_lt, List, [], ◌∷◌, length, get_or, map, drop, find, Option, Some, None, option_map, refl, sym, ap, ap₂, ◌∙◌, ⊎_elim, arith}
use Rattle.std.specs.List.{All, filter}
use Rattle.std.specs.List.Sorted.{IsNonDecreasingBy}
use Rattle.std.proofs.lemmas.List.{get_or_default}
use Rattle.std.proofs.lemmas.Bool.{and_left, and_parts, and_right, cases_Bool, eqb-true, le-ltb, lt-ltb, ltb-true}
use Rattle.tiger_base.specs.declared.tenancy.Want.{Want}
use Rattle.tiger_base.specs.Records.{same_want}
use Rattle.slot_plan.specs.declared.params.Params.{Params}
use Rattle.slot_plan.specs.Times.{due}
use Rattle.mirror_pieces.specs.Pieces.{leaving}
use Rattle.cub_rules.specs.declared.parts.KeptPart.{KeptPart}
use Rattle.cub_rules.specs.Fresh.{end_of, leaves_at, is_fresh, fresh_parts, IsTimed, first_part}
use Rattle.cub_rules.specs.Records.{stored_for}
use Rattle.cub_rules.proofs.Filters.{find-passed}

-- no part before a place is for a want, if the tops there are earlier than it leaves
pub passed_by_top : (want : Want) (time n : ℕ) (ks : List KeptPart) → All (λ (k : KeptPart). same_want want k.stored.want ≡ true → time ≤ k.top) ks → ((i : ℕ) (d : KeptPart) → 0 ≤ i → i < n → nat_lt (get_or ks i d).top time ≡ true) → n ≤ length ks
    → first_part (λ k. same_want want k.stored.want) (drop n ks) ≡ first_part (λ k. same_want want k.stored.want) ks
passed_by_top want time n ks above early inside =
    ap (λ (o : Option KeptPart). option_map (λ k. k.stored.part) o) (find-passed (λ k. same_want want k.stored.want) n ks
    (λ i d b l. ⊎_elim
    (λ (same : same_want want (get_or ks i d).stored.want ≡ true). absurd (omega (arith, above i d l same, ltb-true (get_or ks i d).top time (early i d (omega arith) b))))
    (λ (other : same_want want (get_or ks i d).stored.want ≡ false). other)
    (cases_Bool (same_want want (get_or ks i d).stored.want))))

-- nor is one before a part whose top is earlier
pub passed_before : (want : Want) (time far : ℕ) (x : KeptPart) (ks : List KeptPart) → IsNonDecreasingBy (λ (k : KeptPart). k.top) ks → All (λ (k : KeptPart). same_want want k.stored.want ≡ true → time ≤ k.top) ks → far < length ks → (get_or ks far x).top < time
    → first_part (λ k. same_want want k.stored.want) (drop far ks) ≡ first_part (λ k. same_want want k.stored.want) ks
passed_before want time far x ks order above inside early =
    passed_by_top want time far ks above
    (λ i d b l. lt-ltb (get_or ks i d).top time (omega (arith, order i far d (omega (arith, l)) inside, top_is d, early)))
    (omega (arith, inside))
  where
    top_is : (d : KeptPart) → (get_or ks far d).top ≡ (get_or ks far x).top
    top_is d = ap (λ (k : KeptPart). k.top) (get_or_default ks far d x inside)

module _ (want : Want) (time : ℕ) where
  next : (test : KeptPart → Bool) (k : KeptPart) (ks left : List KeptPart) (b s t : Bool) → b ≡ (s && t) → same_want want k.stored.want ≡ t → first_part test ks ≡ stored_for want (map (λ (l : KeptPart). l.stored) left)
      → option_map (λ (l : KeptPart). l.stored.part) (cond b (Some k) (find test ks)) ≡ stored_for want (map (λ (l : KeptPart). l.stored) (cond s (k ∷ left) left))
  unfolding stored_for
  next test k ks left b true true e d rest = rw (e, d) refl
  next test k ks left b true false e d rest = rw (e, d) rest
  next test k ks left b false t e d rest = rw e rest

  -- a test that tells which parts are for a want and are not forgotten
  pub found_fresh : (test : KeptPart → Bool) (ks : List KeptPart) → All (λ (k : KeptPart). test k ≡ (is_fresh time k && same_want want k.stored.want)) ks → first_part test ks ≡ stored_for want (fresh_parts time ks)
  unfolding stored_for
  found_fresh test [] h = refl
  found_fresh test (k ∷ ks) h =
      next test k ks (filter (is_fresh time) ks) (test k) (is_fresh time k) (same_want want k.stored.want) (h 0 k (omega arith)) refl (found_fresh test ks (λ i d l. h (suc i) d (omega (arith, l))))

  -- if none is, none is found
  pub none_fresh : (ks : List KeptPart) → All (λ (k : KeptPart). false ≡ (is_fresh time k && same_want want k.stored.want)) ks → None ≡ stored_for want (fresh_parts time ks)
  none_fresh ks h = none_passes ks ∙ found_fresh (λ k. false) ks h
    where
      none_passes : (ls : List KeptPart) → None ≡ first_part (λ k. false) ls
      none_passes [] = refl
      none_passes (l ∷ ls) = none_passes ls

-- wants that are the same have the same end, and leave at the same time
module _ (p : Params) (a b : Want) (same : same_want a b ≡ true) where
  same_piece : a.piece ≡ b.piece
  same_piece = eqb-true _ _ (and_parts _ _ same).1

  same_due : due p a.slot.0 a.visit ≡ due p b.slot.0 b.visit
  same_due =
      let block = and_parts _ _ (and_parts _ _ same).0 in
      let file = and_parts _ _ block.0 in
      let visit = and_parts _ _ file.0 in
      let slot = and_parts _ _ visit.0 in
      ap₂ (λ (s v : ℕ). due p s v) (eqb-true _ _ slot.1) (eqb-true _ _ visit.1)

  same_end : end_of p a ≡ end_of p b
  same_end = ap (λ (n : ℕ). n + p.play) same_due

  same_leaving : leaves_at p a ≡ leaves_at p b
  same_leaving = ap₂ (λ (n k : ℕ). leaving n k p.play p.pieces) same_due same_piece

-- by times under a plan's numbers: only a part with the end of the want's visit can be for it
module _ (p : Params) (want : Want) (ks : List KeptPart) (timed : All (IsTimed p) ks) where
  -- no part for it has a top before it leaves
  pub tops_of : (leaves : ℕ) → leaves ≡ leaves_at p want → All (λ (k : KeptPart). same_want want k.stored.want ≡ true → leaves ≤ k.top) ks
  tops_of leaves is = λ i d l same. omega (arith, is, same_leaving p want (get_or ks i d).stored.want same, (timed i d l).top)

  module _ (end time : ℕ) (at : end ≡ end_of p want) where
    has_end : (k : KeptPart) → IsTimed p k → same_want want k.stored.want ≡ true → k.end ≡ end
    has_end k is same = is.end ∙ sym (at ∙ same_end p want k.stored.want same)

    still_fresh : time < end → (k : KeptPart) → IsTimed p k → same_want want k.stored.want ≡ (is_fresh time k && same_want want k.stored.want)
    still_fresh later k is =
        ⊎_elim
        (λ same. rw (same, lt-ltb time k.end (omega (arith, later, has_end k is same))) refl)
        (λ other. other ∙ sym (and_right _ _ other))
        (cases_Bool (same_want want k.stored.want))

    too_early : end ≤ time → (k : KeptPart) → IsTimed p k → false ≡ (is_fresh time k && same_want want k.stored.want)
    too_early before k is =
        ⊎_elim
        (λ same. sym (and_left _ _ (le-ltb time k.end (omega (arith, before, has_end k is same)))))
        (λ other. sym (and_right _ _ other))
        (cases_Bool (same_want want k.stored.want))

    pub found_in_time : time < end → first_part (λ k. same_want want k.stored.want) ks ≡ stored_for want (fresh_parts time ks)
    found_in_time later = found_fresh want time (λ k. same_want want k.stored.want) ks (λ i d l. still_fresh later (get_or ks i d) (timed i d l))

    pub none_in_time : end ≤ time → None ≡ stored_for want (fresh_parts time ks)
    none_in_time before = none_fresh want time ks (λ i d l. too_early before (get_or ks i d) (timed i d l))
