-- What goes out of outputs of which all messages may go out, and how many messages are among those that are left.
use Rattle.std.proofs.Common.{◌≡◌, ℕ, zero, suc, ◌-◌, ◌≤◌, List, [], ◌∷◌, true, false, ◌&&◌, Bool, refl, ap, ◌∙◌, arith, ⊎_elim}
use Rattle.std.specs.Prelude.{◌==◌}
use Rattle.std.proofs.lemmas.Bool.{cases_Bool, cases_eq, eq-eqb, ne_eqb}
use Rattle.node_kit.specs.declared.outbox.Out.{Out}
use Rattle.node_kit.specs.declared.outbox.Out.TheVariants as out
use Rattle.node_kit.specs.Outputs.{is_put, is_took_own, send_count, begins_send, begins_taking, begins_lost, cut_at}

-- without a message nothing is lost
none-begins : {M : Type 0} (os : List (Out M)) → send_count os ≡ 0 → begins_send os ≡ false
none-begins [] h = refl
none-begins (out.Send link msg ∷ os) h = absurd (omega (arith, h))
none-begins (out.Act w ∷ os) h = refl

none-taking : {M : Type 0} (os : List (Out M)) → send_count os ≡ 0 → begins_taking os ≡ false
none-taking [] h = refl
none-taking (out.Send link msg ∷ os) h = refl
none-taking {M} (out.Act w ∷ os) h = both (is_took_own {M = M} (out.Act w)) (begins_send os) (none-begins os h)
  where
    both : (a b : Bool) → b ≡ false → (a && b) ≡ false
    both true b h = h
    both false b h = refl

none-lost : {M : Type 0} (os : List (Out M)) → send_count os ≡ 0 → begins_lost os ≡ false
none-lost [] h = refl
none-lost (out.Send link msg ∷ os) h = absurd (omega (arith, h))
none-lost {M} (out.Act w ∷ os) h = both (is_put {M = M} (out.Act w)) (begins_taking os) (none-taking os h)
  where
    both : (a b : Bool) → b ≡ false → (a && b) ≡ false
    both true b h = h
    both false b h = refl

kept-first : {M : Type 0} (k : ℕ) (o : Out M) (os : List (Out M)) → send_count (o ∷ os) ≡ k
    → (k == 0 && begins_lost (o ∷ os)) ≡ false
kept-first k o os h = ⊎_elim
    (λ (zero_left : k ≡ 0).
    let t : (k == 0) ≡ true = eq-eqb k 0 zero_left in
    let lost : begins_lost (o ∷ os) ≡ false = none-lost (o ∷ os) (h ∙ zero_left) in rw (t, lost) refl)
    (λ (more : k ≡ 0 → ⊥). let t : (k == 0) ≡ false = ne_eqb k 0 more in rw t refl)
    (cases_eq k 0)

-- if as many messages may go out as there are, all goes out
pub left-all : {M : Type 0} (os : List (Out M)) → cut_at (send_count os) os ≡ os
left-all os = of_count (send_count os) os refl
  where
    of_count : {M : Type 0} (k : ℕ) (os : List (Out M)) → send_count os ≡ k → cut_at k os ≡ os
    of_count k [] h = refl
    of_count k (out.Send link msg ∷ os) h =
        let keep = kept-first k (out.Send link msg) os h in
        rw keep (ap (λ xs. out.Send link msg ∷ xs) (of_count (k - 1) os (omega (arith, h))))
    of_count k (out.Act w ∷ os) h =
        let keep = kept-first k (out.Act w) os h in
        rw keep (ap (λ xs. out.Act w ∷ xs) (of_count k os h))

-- and of fewer as many go out as may
pub count-left : {M : Type 0} (k : ℕ) (os : List (Out M)) → k ≤ send_count os → send_count (cut_at k os) ≡ k
count-left k [] h = omega (arith, h)
count-left zero (out.Send link msg ∷ os) h = refl
count-left (suc k) (out.Send link msg ∷ os) h =
    let same : suc k - 1 ≡ k = omega arith in
    let more : (suc k == 0) ≡ false = ne_eqb (suc k) 0 (λ e. omega (arith, e)) in
    rw more (ap suc (ap (λ q. send_count (cut_at q os)) same ∙ count-left k os (omega (arith, h))))
count-left zero (out.Act w ∷ os) h = ⊎_elim
    (λ (t : begins_lost (out.Act w ∷ os) ≡ true). rw t refl)
    (λ (t : begins_lost (out.Act w ∷ os) ≡ false). rw t (count-left 0 os (omega arith)))
    (cases_Bool (begins_lost (out.Act w ∷ os)))
count-left (suc k) (out.Act w ∷ os) h =
    let more : (suc k == 0) ≡ false = ne_eqb (suc k) 0 (λ e. omega (arith, e)) in
    rw more (count-left (suc k) os h)
