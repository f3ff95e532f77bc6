-- What follows for the worked links and shares.
use Rattle.std.proofs.Common.{◌≡◌, ℕ, zero, suc, ◌+◌, ◌<◌, List, [], ◌∷◌, ◌++◌, map, filter, length, Some, None, refl, ap, sym, ◌∙◌, subst, arith, append-nil}
use Rattle.std.proofs.lemmas.Option.{none-some}
use Rattle.std.specs.Prelude.{slice_get}
use Rattle.std.specs.List.{AllByRecursion}
use Rattle.tiger_base.specs.declared.message.Note.{Note}
use Rattle.node_kit.specs.Courses.{Setting}
use Rattle.node_kit.specs.Life.{acts, hears}
use Rattle.node_kit.specs.Steps.{Input, Deed}
use Rattle.run_facts.specs.Accounts.{is_caught}
use Rattle.run_facts.specs.Beats.{pass}
use Rattle.run_facts.specs.Events.{Dated, Past}
use Rattle.run_facts.specs.Paced.{Passage, AreGot, brought}
use Rattle.run_facts.specs.Rings.{IsAt}
use Rattle.run_facts.proofs.Getting.{got-whole}
use Rattle.run_facts.proofs.Rows.{same-element}
use Rattle.ring_links.specs.Ends.{LineId}
use Rattle.ring_cells.specs.Cells.{ring_in}
use Rattle.ring_cells.specs.Moves.{after_beats_by, HasGoneThrough, DidBeats}
use Rattle.ring_cells.specs.Samples.{five, for_ever, dial, worked_share, silent}

-- if message 5 waits no more it was taken in beat 1
pub taken-is : (got : List (Dated ℕ)) (gone : List (Passage ℕ)) → (Came : Type 0) → pass five ∷ [] ≡ gone ++ []
    → AreGot for_ever Came (filter (is_caught for_ever) gone) got
    → got ≡ (record { beat = 1; item = 5 }) ∷ []
unfolding acts hears
taken-is got gone Came split is =
    let all : gone ≡ pass five ∷ [] = sym (append-nil gone) ∙ sym split in
    got-whole None for_ever Came (filter (is_caught for_ever) gone) got refl is ∙ ap (λ q. map brought (filter (is_caught for_ever) q)) all

abbrev beat_of : List (Dated ℕ) → ℕ
beat_of [] = 0
beat_of (d ∷ ds) = d.beat

pub same-beat : (xs ys : List (Dated ℕ)) → xs ≡ ys → beat_of xs ≡ beat_of ys
same-beat xs ys e = ap beat_of e

-- of messages that were sent none is gone before beat 0, and none waits that was not sent
pub none-gone : (p : Passage ℕ) (gone : List (Passage ℕ)) → AllByRecursion (λ (f : Passage ℕ). f.arrival < 0) gone → p ∷ [] ≡ gone ++ [] → ⊥
none-gone p [] h e = absurd (cc)
none-gone p (x ∷ xs) h e = let low = h.0 in absurd (omega (arith, low))

pub none-made_up : (p : Passage ℕ) (gone : List (Passage ℕ)) → [] ≡ gone ++ p ∷ [] → ⊥
none-made_up p [] e = absurd (cc)
none-made_up p (x ∷ xs) e = absurd (cc)

-- a share to whose member no letter comes does its beats
length-silent : (k : ℕ) → length (silent k) ≡ k
length-silent zero = refl
length-silent (suc k) = ap suc (length-silent k)

did-each : (line : LineId) (note : ℕ → Note) (step : ℕ → Input ℕ → Deed ℕ ℕ) (past : Past ℕ) (next closed k q : ℕ) (p : Past ℕ) (d : Setting)
    → IsAt (ring_in (worked_share line next closed past)) q p → slice_get (dial ∷ []) q ≡ Some d
    → HasGoneThrough note step d next k q p (ring_in (worked_share line (next + k) closed (after_beats_by note step dial next (silent k) past)))
did-each line note step past next closed k (suc q) p d at there = absurd (none-some d there)
did-each line note step past next closed k zero p d at there =
    let es : past.state ≡ p.state = same-element (past.state ∷ []) 0 past.state p.state refl at.state in
    let el : past.life ≡ p.life = same-element (past.life ∷ []) 0 past.life p.life refl at.life in
    let ej : past.journal ≡ p.journal = same-element (past.journal ∷ []) 0 past.journal p.journal refl at.journal in
    let ed : dial ≡ d = same-element (dial ∷ []) 0 dial d refl there in
    let is : ◌≡◌ {A = Past ℕ} (after_beats_by note step dial next (silent k) past) (after_beats_by note step d next (silent k) p) =
    λ i. after_beats_by note step (ed i) next (silent k) (record { state = es i; life = el i; journal = ej i }) in
    record {
      letters = silent k;
      each_beat = length-silent k;
      here = subst (λ (x : Past ℕ). IsAt (ring_in (worked_share line (next + k) closed (after_beats_by note step dial next (silent k) past))) 0 x) is (record { state = refl; life = refl; journal = refl });
    }

pub did-silent : (line : LineId) (note : ℕ → Note) (step : ℕ → Input ℕ → Deed ℕ ℕ) (past : Past ℕ) (next closed k : ℕ)
    → DidBeats note step k (worked_share line next closed past) (worked_share line (next + k) closed (after_beats_by note step dial next (silent k) past))
did-silent line note step past next closed k = record { each = did-each line note step past next closed k; further = refl }
