use Rattle.std.proofs.Common.{◌≡◌, ℕ, false, IsTrue, List, [], ◌∷◌, Option, Some, None, refl, sym, ap, subst, ⊎_elim, arith}
use Rattle.std.specs.Prelude.{slice_get, unwrap_or, ◌==◌}
use Rattle.std.proofs.lemmas.Bool.{false≢true, ne_eqb, cases_eq}
use Rattle.tiger_base.specs.declared.message.Note.{Note}
use Rattle.tiger_base.specs.declared.message.Note.TheVariants.{Heartbeat}
use Rattle.slot_plan.specs.Conditions.{IsPlan}
use Rattle.slot_plan.specs.Samples.{small}
use Rattle.node_kit.specs.declared.course.Kept.{Kept}
use Rattle.node_kit.specs.declared.journal.Entry.{Entry}
use Rattle.node_kit.specs.Links.{links_of, ends_of}
use Rattle.node_kit.specs.Life.{Lifetime, back_of, lifetime_of}
use Rattle.run_facts.specs.Events.{Dated}
use Rattle.run_facts.specs.Carried.{AreFrontOn, AreCarriedBy, AreCarriedOn, sent_on, got_on}
use Rattle.run_model.specs.Samples.{all, sends, gets, dying, kept}
use Rattle.run_model.specs.Tests.{is_empty}
use Rattle.run_model.specs.Ways.{LinkCarries}
use Rattle.run_model.proofs.Ends.{carried}
use Rattle.run_model.proofs.Timely.{numbered_found}
use Rattle.run_model.proofs.OnSamples.{on_samples}
use Rattle.run_model.proofs.rows.carried_run.Goals as goal

abbrev run : Kept → IsPlan small → Kept
run k plan = kept k plan 10 (dying None None None) [] (sends 0 3 Heartbeat ∷ gets 0 5 Heartbeat ∷ [])

abbrev journals : List (List Entry)
journals = all (sends 0 3 Heartbeat ∷ gets 0 5 Heartbeat ∷ [])

is-empty : {X : Type 0} (xs : List X) → IsTrue (is_empty xs) → xs ≡ []
is-empty [] h = refl
is-empty (x ∷ xs) h = absurd (false≢true h)

-- on another link than 16 nothing is sent, and nothing is got
none-sent : (l : ℕ) → (16 == l) ≡ false → (from : ℕ) (sender : List Entry) → slice_get journals from ≡ Some sender → sent_on l sender ≡ []
unfolding on_samples
none-sent l f from sender a =
    is-empty (sent_on l sender) (numbered_found (λ n journal. is_empty (sent_on l journal)) 0 journals (rw f refl) from sender a)

none-got : (l : ℕ) → (16 == l) ≡ false → (to : ℕ) (receiver : List Entry) → slice_get journals to ≡ Some receiver → got_on l receiver ≡ []
unfolding on_samples
none-got l f to receiver a =
    is-empty (got_on l receiver) (numbered_found (λ n journal. is_empty (got_on l journal)) 0 journals (rw f refl) to receiver a)

-- nothing that was sent carries as nothing that was got
none-carried : (life : Lifetime) (back : Option ℕ) → AreCarriedBy 2 10 life back [] []
none-carried life None = tt
none-carried life (Some back) = (tt, tt)

-- what is carried to a node that does not return
carried-whole : (life : Lifetime) → life.back ≡ None → (sent got : List (Dated Note)) → AreFrontOn 2 10 life sent got
    → AreCarriedOn 2 10 life sent got
carried-whole life e sent got h = by-back life.back e h
  where
    by-back : (o : Option ℕ) → o ≡ None → AreFrontOn 2 10 life sent got → AreCarriedBy 2 10 life o sent got
    by-back None e h = h
    by-back (Some back) e h = absurd (cc)

-- link 16 leads from node 0 to node 17
on-sixteen : (k : Kept) (plan : IsPlan small) (from to : ℕ) (sender receiver : List Entry)
    → ends_of (links_of small) 16 ≡ Some (from, to)
    → slice_get journals from ≡ Some sender → slice_get journals to ≡ Some receiver
    → AreCarriedOn 2 10 (lifetime_of (run k plan).course to) (sent_on 16 sender) (got_on 16 receiver)
unfolding on_samples
on-sixteen k plan from to sender receiver e a b =
    let life = lifetime_of (run k plan).course to in
    let f : 0 ≡ from = ap (λ (o : Option (ℕ × ℕ)). (unwrap_or o (0, 0)).0) e in
    let t : 17 ≡ to = ap (λ (o : Option (ℕ × ℕ)). (unwrap_or o (0, 0)).1) e in
    let s : unwrap_or (slice_get journals 0) [] ≡ sender =
    ap (λ (o : Option (List Entry)). unwrap_or o []) (subst (λ (n : ℕ). slice_get journals n ≡ Some sender) (sym f) a) in
    let r : unwrap_or (slice_get journals 17) [] ≡ receiver =
    ap (λ (o : Option (List Entry)). unwrap_or o []) (subst (λ (n : ℕ). slice_get journals n ≡ Some receiver) (sym t) b) in
    subst (λ (x : List Entry). AreCarriedOn 2 10 life (sent_on 16 x) (got_on 16 receiver)) s
    (subst (λ (y : List Entry). AreCarriedOn 2 10 life (sent_on 16 (unwrap_or (slice_get journals 0) [])) (got_on 16 y)) r
    (carried-whole life (subst (λ (n : ℕ). back_of (run k plan).course n ≡ None) t refl) _ _
    (refl, omega arith, omega arith, tt)))

on-each : (k : Kept) (plan : IsPlan small) (l : ℕ) → LinkCarries (run k plan) l
on-each k plan l from to sender receiver e a b =
    let life = lifetime_of (run k plan).course to in
    ⊎_elim
    (λ (same : 16 ≡ l). subst (λ (m : ℕ). AreCarriedOn 2 10 life (sent_on m sender) (got_on m receiver)) same
    (on-sixteen k plan from to sender receiver (subst (λ (m : ℕ). ends_of (links_of small) m ≡ Some (from, to)) (sym same) e) a b))
    (λ (other : 16 ≡ l → ⊥). rw (none-sent l (ne_eqb 16 l other) from sender a, none-got l (ne_eqb 16 l other) to receiver b) (none-carried life life.back))
    (cases_eq 16 l)

pub returns-clause-in_time : goal.returns-clause-in_time
unfolding on_samples
returns-clause-in_time c k plan = (carried (run k plan) (links_of small) refl (on-each k plan)).0 refl

pub returns-clause-late : goal.returns-clause-late
unfolding on_samples
returns-clause-late c k plan h = let late = (h.on_links 16 0 17 _ _ refl refl refl).2 in omega (arith, late)

pub returns-clause-at_once : goal.returns-clause-at_once
unfolding on_samples
returns-clause-at_once c k plan h = let early = (h.on_links 16 0 17 _ _ refl refl refl).1 in omega (arith, early)

pub returns-clause-lost : goal.returns-clause-lost
unfolding on_samples
returns-clause-lost c k plan h = ⊎_elim (λ end. omega (arith, end)) (λ n. n.0) (h.on_links 16 0 17 _ _ refl refl refl).0

pub returns-clause-never_sent : goal.returns-clause-never_sent
unfolding on_samples
returns-clause-never_sent c k plan h = h.on_links 16 0 17 _ _ refl refl refl
