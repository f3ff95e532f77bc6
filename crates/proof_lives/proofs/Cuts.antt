-- What a death leaves of outputs: what goes out was put out, and what stands before it goes out too.
use Rattle.std.proofs.Common.{◌≡◌, ℕ, suc, ◌-◌, ◌<◌, ◌≤◌, List, [], ◌∷◌, ◌++◌, Bool, true, false, Option, Some, None, cond, refl, sym, ap, subst, ◌∙◌, arith, ⊎_elim, inl, inr, eq-or-lt_of_le}
use Rattle.std.specs.Prelude.{◌==◌, ◌&&◌, ◌||◌}
use Rattle.std.specs.List.{AllByRecursion}
use Rattle.std.proofs.lemmas.Bool.{cases_lt}
use Rattle.std.proofs.lemmas.Bool.Decides.{nat_tests}
use Rattle.tiger_base.specs.declared.message.Msg.{Msg}
use Rattle.slot_plan.specs.declared.params.Params.{Params}
use Rattle.node_kit.specs.declared.outbox.Out.{Out}
use Rattle.node_kit.specs.Outputs.{is_send, is_put, begins_taking, begins_lost, fewer_behind, cut_at}
use Rattle.run_facts.specs.Events.{is_tick_input}
use Rattle.lists.specs.Elements.{In}
use Rattle.lists.proofs.Elements.{chosen, in_left}
use Rattle.proof_lives.specs.Lives.{Lives, AreLives, GoesOut, beat_at, outs_at, cut_in, cut_outs, outs_in}
use Rattle.proof_lives.proofs.Order.{beats_rise, not_behind}

-- ---- what is cut off

-- whether the outputs are cut off here
abbrev pub is_end : {M : Type 0} → ℕ → List (Out M) → Bool
is_end k os = k == 0 && begins_lost os

-- what goes out is the front of what was put out
pub cut_front : {M : Type 0} (k : ℕ) (os : List (Out M)) → (rest : List (Out M)) × (cut_at k os ++ rest ≡ os)
cut_front k [] = ([], refl)
cut_front {M} k (x ∷ os) =
    chosen (λ (ws : List (Out M)). (rest : List (Out M)) × (ws ++ rest ≡ x ∷ os)) (is_end k (x ∷ os)) [] (x ∷ cut_at (fewer_behind k x) os)
    (λ _. (x ∷ os, refl))
    (λ _. let r = cut_front (fewer_behind k x) os in (r.0, ap (λ (ws : List (Out M)). x ∷ ws) r.1))

-- so it was put out
pub from_cut : {M : Type 0} (k : ℕ) (o : Out M) (os : List (Out M)) → In o (cut_at k os) → In o os
from_cut {M} k o os i =
    let f = cut_front k os in subst (λ (ws : List (Out M)). In o ws) f.1 (in_left o (cut_at k os) f.0 i)

-- if an output that does not stand in front goes out, all that stand in front do
pub front_goes : {M : Type 0} (k : ℕ) (o x : Out M) (xs ys : List (Out M)) → In o (cut_at k (xs ++ ys)) → (In o xs → ⊥) → In x xs
    → In x (cut_at k (xs ++ ys))
front_goes k o x [] ys i out j = absurd j
front_goes {M} k o x (z ∷ zs) ys i out j =
    chosen (λ (ws : List (Out M)). In o ws → In x ws) (is_end k (z ∷ zs ++ ys)) [] (z ∷ cut_at (fewer_behind k z) (zs ++ ys))
    (λ _ q. absurd q)
    (λ _ q. ⊎_elim
    (λ (e : o ≡ z). absurd (out (inl e)))
    (λ r. ⊎_elim (λ e. inl e) (λ l. inr (front_goes (fewer_behind k z) o x zs ys r (λ w. out (inr w)) l)) j)
    q)
    i

-- ---- what is not cut off

-- an output is no message, and no Put
abbrev pub IsKept : {M : Type 0} → Out M → Type 0
IsKept o = (is_send o ≡ false) × (is_put o ≡ false)

none_lost : (k b s t : Bool) → s ≡ false → t ≡ false → (k && (s || (t && b))) ≡ false
none_lost true b s t e f = rw (e, f) refl
none_lost false b s t e f = refl

-- all such outputs in front go out
pub kept_go : {M : Type 0} (k : ℕ) (xs ys : List (Out M)) → AllByRecursion IsKept xs → cut_at k (xs ++ ys) ≡ xs ++ cut_at k ys
kept_go k [] ys h = refl
kept_go {M} k (x ∷ xs) ys h =
    let stays : is_end k (x ∷ xs ++ ys) ≡ false = none_lost (k == 0) (begins_taking (xs ++ ys)) (is_send x) (is_put x) h.0.0 h.0.1 in
    let same : fewer_behind k x ≡ k = ap (λ b. cond b (k - 1) k) h.0.0 in
    let one : cut_at k (x ∷ xs ++ ys) ≡ x ∷ cut_at (fewer_behind k x) (xs ++ ys) =
    ap (λ b. cond b [] (x ∷ cut_at (fewer_behind k x) (xs ++ ys))) stays in
    one ∙ ap (λ n. x ∷ cut_at n (xs ++ ys)) same ∙ ap (λ (ws : List (Out M)). x ∷ ws) (kept_go k xs ys h.1)

-- so what stands among them goes out
pub kept_goes : {M : Type 0} (k : ℕ) (o : Out M) (xs ys : List (Out M)) → AllByRecursion IsKept xs → In o xs → In o (cut_at k (xs ++ ys))
kept_goes {M} k o xs ys h i = subst (λ (ws : List (Out M)). In o ws) (sym (kept_go k xs ys h)) (in_left o xs (cut_at k ys) i)

-- ---- cut off or not

pub from_cut_outs : {M : Type 0} (cut : Option ℕ) (o : Out M) (os : List (Out M)) → In o (cut_outs cut os) → In o os
from_cut_outs None o os i = i
from_cut_outs (Some k) o os i = from_cut k o os i

-- what stands in front of what goes out goes out
pub front_goes_out : {M : Type 0} (cut : Option ℕ) (o x : Out M) (xs ys : List (Out M)) → In o (cut_outs cut (xs ++ ys)) → (In o xs → ⊥)
    → In x xs → In x (cut_outs cut (xs ++ ys))
front_goes_out None o x xs ys i out j = in_left x xs ys j
front_goes_out (Some k) o x xs ys i out j = front_goes k o x xs ys i out j

-- acts in front of the first message go out, if none of them is a Put
pub kept_goes_out : {M : Type 0} (cut : Option ℕ) (o : Out M) (xs ys : List (Out M)) → AllByRecursion IsKept xs → In o xs → In o (cut_outs cut (xs ++ ys))
kept_goes_out None o xs ys h i = in_left o xs ys i
kept_goes_out (Some k) o xs ys h i = kept_goes k o xs ys h i

-- ---- the inputs of lives

pub differ : (n m : ℕ) → n < m → (n == m) ≡ false
differ n m l = grind (arith, nat_tests, l)

module _ (lives : Lives) where
  -- an input that is not the last is whole
  pub whole_before : (c i j : ℕ) → i < j → j < lives.count c → cut_in lives c i ≡ None
  whole_before c i j l low =
      ap (λ b. cond b (lives.cut c) None) (differ (suc i) (lives.count c) (omega (arith, l, low)))

module _ (p : Params) (lives : Lives) where
  -- what goes out at an input was put out there
  pub was_put_out : (c i : ℕ) (o : Out Msg) → In o (outs_in p lives c i) → In o (outs_at p c (lives.input c) i)
  was_put_out c i o k = from_cut_outs (cut_in lives c i) o (outs_at p c (lives.input c) i) k

  -- at a whole input all that is put out goes out
  pub whole_outs : (c i : ℕ) → cut_in lives c i ≡ None → outs_in p lives c i ≡ outs_at p c (lives.input c) i
  whole_outs c i whole = ap (λ o. cut_outs o (outs_at p c (lives.input c) i)) whole

  pub goes_whole : (c i : ℕ) (o : Out Msg) → cut_in lives c i ≡ None → In o (outs_at p c (lives.input c) i) → In o (outs_in p lives c i)
  goes_whole c i o whole k = subst (λ os. In o os) (sym (whole_outs c i whole)) k

  pub goes_out : (c i : ℕ) (o : Out Msg) → GoesOut p lives c i o → In o (outs_at p c (lives.input c) i) → In o (outs_in p lives c i)
  goes_out c i o g k = ⊎_elim (λ whole. goes_whole c i o whole k) (λ w. w) g

module _ (p : Params) (lives : Lives) (are : AreLives p lives) where
  -- A message of a later tick's beat, or of a lower one, was taken in a whole step.
  pub whole_by_tick : (c i j : ℕ) → c < p.cubs → i < lives.count c → j < lives.count c
      → is_tick_input (lives.input c i) ≡ false → is_tick_input (lives.input c j) ≡ true
      → beat_at (lives.input c) i ≤ beat_at (lives.input c) j → cut_in lives c i ≡ None
  whole_by_tick c i j small low high message tick le = ⊎_elim
      (λ (e : i ≡ j). let z : true ≡ false = sym tick ∙ (ap (λ n. is_tick_input (lives.input c n)) (sym e) ∙ message) in absurd (cc))
      (λ l. whole_before lives c i j l high)
      (eq-or-lt_of_le (not_behind p (lives.count c) (lives.input c) (are c small) i j high low tick le))

  -- And so was each input of a lower beat.
  pub whole_by_beat : (c i j : ℕ) → c < p.cubs → i < lives.count c → j < lives.count c
      → beat_at (lives.input c) i < beat_at (lives.input c) j → cut_in lives c i ≡ None
  whole_by_beat c i j small low high le = ⊎_elim
      (λ (l : i < j). whole_before lives c i j l high)
      (λ (g : j ≤ i). let r = beats_rise p (lives.count c) (lives.input c) (are c small) j i g low in absurd (omega arith))
      (cases_lt i j)
