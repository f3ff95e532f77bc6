-- What becomes of parts beside their ends, and of those that are not forgotten.
use Rattle.std.proofs.Common.{◌≡◌, ℕ, ◌-◌, ◌<◌, ◌≤◌, ◌==◌, ◌&&◌, max, Bool, true, cond, not, nat_le, nat_lt, List, [], ◌∷◌, ◌++◌, length, get_or, map, refl, sym, ap, ◌∙◌, ⊎_elim, arith}
use Rattle.std.specs.List.{All, AllByRecursion, filter}
use Rattle.std.proofs.lemmas.Bool.{and_parts, and_right, cases_lt, eqb-true, le-ltb, le-leb, lt-leb, lt-ltb}
use Rattle.std.proofs.lemmas.List.{map_push}
use Rattle.std.proofs.lemmas.List.Elements.{All-filter, All-push, filter-append}
use Rattle.std.proofs.lemmas.List.Kept.{IsNonDecreasingBy-filter}
use Rattle.std.proofs.lemmas.List.Sorted.{IsNonDecreasingBy-push}
use Rattle.slot_plan.specs.declared.params.Params.{Params}
use Rattle.tiger_base.specs.declared.tenancy.Want.{Want}
use Rattle.mirror_pieces.specs.Pieces.{leaving}
use Rattle.mirror_schedule.specs.Timed.{has_same_times}
use Rattle.mirror_schedule.proofs.Timed.{ends_alike}
use Rattle.partial_view.proofs.Dues.{map-filter}
use Rattle.cub_rules.specs.declared.parts.KeptPart.{KeptPart}
use Rattle.cub_rules.specs.declared.store.StoredPart.{StoredPart}
use Rattle.cub_rules.specs.Fresh.{end_of, leaves_at, leaves_alike, is_fresh, fresh_parts, IsTimed, AreKept, is_stale_here}
use Rattle.cub_rules.specs.State.{IsPartHere}
use Rattle.cub_rules.specs.Ticks.{is_stale}
use Rattle.cub_rules.proofs.Filters.{filter-swap, filter-twice}

-- the part of what is kept
abbrev part_of : KeptPart → StoredPart
part_of k = k.stored

-- a test of the parts alone leaves the same, whether the forgotten are left out before it or behind it
pub fresh-filter : (test : StoredPart → Bool) (time : ℕ) (ks : List KeptPart) → fresh_parts time (filter (λ k. test k.stored) ks) ≡ filter test (fresh_parts time ks)
fresh-filter test time ks =
    ap (λ (ls : List KeptPart). map part_of ls) (filter-swap (λ k. test k.stored) (is_fresh time) ks) ∙ map-filter part_of test (filter (is_fresh time) ks)

fresher : (time earlier end : ℕ) → earlier ≤ time → nat_lt time end ≡ (nat_lt time end && nat_lt earlier end)
fresher time earlier end e =
    ⊎_elim
    (λ (l : time < end). rw (lt-ltb time end l, lt-ltb earlier end (omega (arith, e, l))) refl)
    (λ (l : end ≤ time). rw (le-ltb time end l) refl)
    (cases_lt time end)

-- the forgotten are swept out
pub fresh-swept : (time earlier : ℕ) (ks : List KeptPart) → earlier ≤ time → fresh_parts earlier (filter (is_fresh time) ks) ≡ fresh_parts time ks
fresh-swept time earlier ks e =
    ap (λ (ls : List KeptPart). map part_of ls) (filter-twice (is_fresh time) (is_fresh time) (is_fresh earlier) ks (λ i d l. fresher time earlier (get_or ks i d).end e))

later_too : (time reading later end : ℕ) → later ≡ max time reading → nat_lt later end ≡ (nat_lt time end && not (nat_le end reading))
later_too time reading later end is =
    ⊎_elim
    (λ (l : later < end). rw (lt-ltb later end l, lt-ltb time end (omega (arith, is, l)), lt-leb end reading (omega (arith, is, l))) refl)
    (λ (l : end ≤ later). ⊎_elim
    (λ (m : time < end). rw (le-ltb later end l, le-leb end reading (omega (arith, is, l, m))) (sym (and_right _ _ refl)))
    (λ (m : end ≤ time). rw (le-ltb later end l, le-ltb time end m) refl)
    (cases_lt time end))
    (cases_lt later end)

-- more is forgotten: what is stale by the ends under a plan's numbers
pub fresh-later : (p q : Params) (time reading later : ℕ) (ks : List KeptPart) → has_same_times p q ≡ true → All (IsTimed p) ks → later ≡ max time reading → fresh_parts later ks ≡ filter (λ x. not (is_stale q reading x)) (fresh_parts time ks)
fresh-later p q time reading later ks alike timed is =
    ap (λ (ls : List KeptPart). map part_of ls) (sym (filter-twice (is_fresh later) (is_fresh time) (λ k. not (is_stale q reading k.stored)) ks (λ i d l. here (get_or ks i d) (timed i d l))))
    ∙ map-filter part_of (λ x. not (is_stale q reading x)) (filter (is_fresh time) ks)
  where
    here : (k : KeptPart) → IsTimed p k → is_fresh later k ≡ (is_fresh time k && not (is_stale q reading k.stored))
    here k own =
        later_too time reading later k.end is
        ∙ ap (λ (n : ℕ). is_fresh time k && not (nat_le n reading)) (own.end ∙ ends_alike p q (k.stored.want.slot, k.stored.want.visit) alike)

-- if all parts are of visits of a plan, a test of that changes nothing
pub stale_here : (p : Params) (reading : ℕ) (xs : List StoredPart) → AllByRecursion (IsPartHere p) xs → filter (λ x. not (is_stale_here p reading x)) xs ≡ filter (λ x. not (is_stale p reading x)) xs
stale_here p reading [] h = refl
stale_here p reading (x ∷ xs) h = rw (h.0, stale_here p reading xs h.1) refl

-- a part comes behind the others
pub fresh-push : (time : ℕ) (k : KeptPart) (ks : List KeptPart) → time < k.end → fresh_parts time (ks ++ k ∷ []) ≡ fresh_parts time ks ++ k.stored ∷ []
fresh-push time k ks l =
    ap (λ (ls : List KeptPart). map part_of ls) (filter-append (is_fresh time) ks (k ∷ []) ∙ ap (λ (b : Bool). filter (is_fresh time) ks ++ cond b (k ∷ []) []) (lt-ltb time k.end l))
    ∙ map_push part_of (filter (is_fresh time) ks) k

-- what is known of the ends stays if some parts go
pub kept-filter : (p : Params) (timed : Bool) (test : KeptPart → Bool) (ks : List KeptPart) → AreKept p timed ks → AreKept p timed (filter test ks)
kept-filter p timed test ks h = record {
  exact = λ so. All-filter test (IsTimed p) ks (h.exact so);
  order = IsNonDecreasingBy-filter (λ (k : KeptPart). k.top) test ks h.order;
}

-- under plans whose times of leaving are the same, each want leaves at the same time
leave_alike : (p q : Params) (want : Want) → leaves_alike p q ≡ true → leaves_at p want ≡ leaves_at q want
leave_alike p q want h =
    let both = and_parts (has_same_times p q) (p.pieces == q.pieces) h in
    let play : p.play ≡ q.play = eqb-true _ _ (and_parts (p.cubs == q.cubs && p.disks == q.disks && p.slots == q.slots) (p.play == q.play) both.0).1 in
    alike _ _ _ _ _ _ want.piece (omega (arith, play, ends_alike p q (want.slot, want.visit) both.0)) play (eqb-true _ _ both.1)
  where
    alike : (a b c d e f piece : ℕ) → a ≡ d → b ≡ e → c ≡ f → leaving a piece b c ≡ leaving d piece e f
    alike a b c d e f piece i j k = rw (i, j, k) refl

-- and if one comes, under a plan with the same times or under another one
pub kept-push : (p q : Params) (own t : Bool) (k : KeptPart) (ks : List KeptPart) → t ≡ (own && leaves_alike p q) → k.end ≡ end_of q k.stored.want → leaves_at q k.stored.want ≤ k.top → All (λ (other : KeptPart). other.top ≤ k.top) ks
    → AreKept p own ks → AreKept p t (ks ++ k ∷ [])
kept-push p q own t k ks is end top tops h = record {
  exact = λ so.
      let both = and_parts own (leaves_alike p q) (sym is ∙ so) in
      All-push (IsTimed p) ks k (h.exact both.0) (here both.1);
  order = IsNonDecreasingBy-push (λ (other : KeptPart). other.top) ks k h.order (λ d some. tops (length ks - 1) d (omega (arith, some)));
}
  where
    here : leaves_alike p q ≡ true → IsTimed p k
    here alike = record {
      end = end ∙ sym (ends_alike p q (k.stored.want.slot, k.stored.want.visit) (and_parts (has_same_times p q) (p.pieces == q.pieces) alike).0);
      top = omega (arith, top, leave_alike p q k.stored.want alike);
    }
