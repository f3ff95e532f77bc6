-- Each step of a pass keeps the rule of the queue.
use Rattle.std.proofs.Common.{◌≡◌, ◌≢◌, ℕ, zero, suc, ◌<◌, true, false, true≢false, List, [], ◌∷◌, ◌++◌, length, set, sym, refl, ap, ◌∙◌, subst, ⊎_elim, append_assoc, arith, length-append}
use mathlib.Core.Option.{some, some-ne-none}
use lib.ListN.{get_elem?}
use Rattle.crossbeam_queue.specs.Fifo.{Pushes, Pops, Forks, Merges, Learns}
use Rattle.crossbeam_queue.proofs.Lists.{at_set, at_snoc}
use Rattle.run_facts.specs.declared.mail.Flight.{Flight}
use Rattle.ring_links.specs.declared.line.Side.{Side}
use Rattle.ring_links.specs.Flights.{IsOrdered}
use Rattle.ring_links.specs.Linked.{side, Fits, most, Linked, Takes, Covers}
use Rattle.ring_links.proofs.Orders.{ordered_along}

module _ {M : Type 0} where
  at_end : (l : List (Side M)) (a b : Side M) (j : ℕ) → get_elem? l j ≢ some b → get_elem? (l ++ a ∷ []) j ≡ some b → j ≡ length l
  at_end [] a b zero n e = refl
  at_end [] a b (suc j) n e = absurd (some-ne-none b (sym e))
  at_end (x ∷ xs) a b zero n e = absurd (n e)
  at_end (x ∷ xs) a b (suc j) n e = ap suc (at_end xs a b j n e)

  abbrev All : (ℕ → Side M → Type 0) → List (Side M) → Type 0
  All F views = (port : ℕ) (v : Side M) → get_elem? views port ≡ some v → F port v

  all_set : (F : ℕ → Side M → Type 0) (views : List (Side M)) (port : ℕ) (w : Side M) → F port w → ((j : ℕ) (u : Side M) → j ≢ port → get_elem? views j ≡ some u → F j u) → All F (set views port w)
  all_set F views port w mine others j u e = ⊎_elim (λ (x : (j ≡ port) × (w ≡ u)). subst (λ (y : ℕ × Side M). F y.0 y.1) (λ i. (sym x.0 i, x.1 i)) mine)
      (λ (x : (j ≢ port) × (get_elem? views j ≡ some u)). others j u x.0 x.1) (at_set views port j w u e)

  pub begins : Linked {M = M} [] (side true true [] [] ∷ [])
  begins = (0, 0, [], [], refl, tt, omega arith, all_set (Fits 0 0 [] []) (side true true [] [] ∷ []) 0 (side true true [] []) ((λ _. (refl, refl)), λ _. (refl, refl)) (λ j u other e. absurd (other (at_end [] _ u j (λ x. some-ne-none u (sym x)) e))))

  pub sends : (n port : ℕ) (v : Side M) (x : Flight M) → v.sends ≡ true → IsOrdered (v.sent ++ x ∷ []) → length v.sent < most → Pushes Linked n port v x (λ w. w ≡ side v.sends v.takes (v.sent ++ x ∷ []) v.got)
  sends n port v x may ordered short items views _ h at = let w : Side M = side v.sends v.takes (v.sent ++ x ∷ []) v.got in let mine = h.7 port v at in let sent = h.2 ++ x ∷ [] in
      let is : v.sent ≡ h.2 = (mine.0 may).1 in (
        w,
        (
          h.0,
          h.1,
          sent,
          h.3,
          ap (λ l. l ++ x ∷ []) h.4 ∙ append_assoc h.3 items (x ∷ []),
          subst (λ l. IsOrdered (l ++ x ∷ [])) is ordered,
          omega (arith, length-append h.2 (x ∷ []), ap length is, short),
          all_set (Fits h.0 h.1 sent h.3) views port w ((λ _. ((mine.0 may).0, ap (λ l. l ++ x ∷ []) is)), mine.1)
              (λ j u other e. ((λ p. absurd (other (((h.7 j u e).0 p).0 ∙ sym (mine.0 may).0))), (h.7 j u e).1)),
        ),
        refl,
      )

  pub takes : (port : ℕ) (v : Side M) → v.takes ≡ true → Pops Linked port v (Takes v)
  takes port v may x items views h at = let w : Side M = side v.sends v.takes v.sent (v.got ++ x ∷ []) in let mine = h.7 port v at in let got = h.3 ++ x ∷ [] in
      let is : v.got ≡ h.3 = (mine.1 may).1 in
      let all : h.2 ≡ got ++ items = h.4 ∙ sym (append_assoc h.3 (x ∷ []) items) in
      let mine_is : v.got ++ x ∷ [] ≡ got = ap (λ l. l ++ x ∷ []) is in
      let ordered : IsOrdered got = ordered_along h.2 got items all h.5 in (
        w,
        (
          h.0,
          h.1,
          h.2,
          got,
          all,
          h.5,
          h.6,
          all_set (Fits h.0 h.1 h.2 got) views port w (mine.0, λ _. ((mine.1 may).0, mine_is))
              (λ j u other e. ((h.7 j u e).0, λ p. absurd (other (((h.7 j u e).1 p).0 ∙ sym (mine.1 may).0)))),
        ),
        (refl, subst IsOrdered (sym mine_is) ordered, omega (arith, ap length all, length-append got items, ap length mine_is, h.6)),
      )

  pub covers : (port : ℕ) (v : Side M) → v.takes ≡ true → Learns Linked port v (Covers v)
  covers port v may items views h at = (h.2, h.4 ∙ ap (λ l. l ++ items) (sym ((h.7 port v at).1 may).1), h.5)

  pub forks : (port : ℕ) (v : Side M) → v.sends ≡ true → v.takes ≡ true → Forks Linked port v (side true false v.sent []) (side false true [] v.got)
  forks port v a b items views h at = let l : Side M = side true false v.sent [] in let r : Side M = side false true [] v.got in let mine = h.7 port v at in let vs : List (Side M) = set views port l in
      let Old : ℕ → Side M → Type 0 = λ j u. (u.sends ≡ true → (j ≡ h.0) × (u.sent ≡ h.2)) × (u.takes ≢ true) in
      let old : All Old vs = all_set Old views port l ((λ _. mine.0 a), λ p. true≢false (sym p)) (λ j u other e. ((h.7 j u e).0, λ p. other (((h.7 j u e).1 p).0 ∙ sym (mine.1 b).0))) in (
        h.0,
        length vs,
        h.2,
        h.3,
        h.4,
        h.5,
        h.6,
        λ j u e. ⊎_elim (λ x. ((old j u x).0, λ p. absurd ((old j u x).1 p)))
            (λ (is : r ≡ u). ((λ p. absurd (true≢false (sym (ap (λ (y : Side M). y.sends) is ∙ p)))), λ p. (at_end vs r u j (λ x. (old j u x).1 p) e, ap (λ (y : Side M). y.got) (sym is) ∙ (mine.1 b).1))) (at_snoc vs r u j e),
      )

  pub merges : (port : ℕ) (v : Side M) (other : ℕ) (u : Side M) → v.sends ≡ true → u.takes ≡ true → Merges Linked port v other u (side true true v.sent u.got) (side false false [] [])
  merges port v other u a b items views h at two at' = let both : Side M = side true true v.sent u.got in let mine = h.7 port v at in let vs : List (Side M) = set views port both in
      let was : get_elem? views other ≡ some u = ⊎_elim (λ x. absurd (two x.0)) (λ x. x.1) (at_set views port other both u at') in let theirs = (h.7 other u was).1 b in
      let Now : ℕ → Side M → Type 0 = λ j y. j ≢ other → Fits h.0 port h.2 h.3 j y in
      let now : All Now vs = all_set Now views port both (λ _. ((λ _. mine.0 a), λ _. (refl, theirs.1))) (λ j y _ e apart. ((h.7 j y e).0, λ p. absurd (apart (((h.7 j y e).1 p).0 ∙ sym theirs.0)))) in
      (h.0, port, h.2, h.3, h.4, h.5, h.6, all_set (Fits h.0 port h.2 h.3) vs other (side false false [] []) ((λ p. absurd (true≢false (sym p))), λ p. absurd (true≢false (sym p))) (λ j y apart e. now j y e apart))
