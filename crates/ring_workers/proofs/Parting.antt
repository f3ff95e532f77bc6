-- The parts of shares that have done all their beats.
use Rattle.std.proofs.Common.{◌≡◌, ℕ, ◌+◌, List, [], ◌∷◌, ◌++◌, length, Option, Some, refl, ap, sym, ◌∙◌, subst, ⊎_elim, length-append}
use Rattle.std.specs.Prelude.{slice_get, ◌⊎◌}
use Rattle.std.proofs.lemmas.Option.{none-some}
use Rattle.tiger_base.specs.declared.message.Note.{Note}
use Rattle.tiger_base.specs.declared.number.NodeNo.{NodeNo}
use Rattle.slot_plan.specs.declared.params.Params.{Params}
use Rattle.node_kit.specs.declared.course.Course.{Course}
use Rattle.node_kit.specs.Steps.{Input, Deed}
use Rattle.node_kit.proofs.Rows.{get-front, get-pushed}
use Rattle.ring_links.specs.Ends.{End, LineId}
use Rattle.ring_cells.specs.declared.share.ShareParts.{ShareParts}
use Rattle.ring_cells.specs.Cells.{Seen}
use Rattle.ring_cells.specs.Meets.{HasFinished}
use Rattle.ring_workers.specs.Ends.{HasEnd}
use Rattle.ring_workers.specs.Rows.{IsOfIn, IsOfOuts, IsOfNode}
use Rattle.ring_workers.specs.Parts.{ArePartsOf, AreAllParts, IsOutOf, IsIntoOf, IsThing}
use Rattle.ring_workers.proofs.Walks.{next-at}

module _ {M S : Type 0} (note : M → Note) (step : S → Input M → Deed M S) (stands : S → Params → ℕ → Type 0) (courses : List Course) (opened : List S) (line : ℕ → LineId) (home : ℕ → ℕ) where
  pub parts-none : (ps : List (ShareParts M S)) → ps ≡ [] → AreAllParts note step stands courses opened line home ps
  parts-none ps none = subst (λ (l : List (ShareParts M S)). AreAllParts note step stands courses opened line home l) (sym none) (record {
    shares = [];
    come = λ i s e. absurd (none-some s e);
    size = refl;
    each = λ i p e. absurd (none-some p e);
  })

  -- the parts of one share more
  pub parts-more : (ps ps' : List (ShareParts M S)) (p : ShareParts M S) (s : Seen M S) → ps' ≡ ps ++ p ∷ [] → HasFinished note step stands courses opened line home (length ps) s → ArePartsOf s p
      → AreAllParts note step stands courses opened line home ps → AreAllParts note step stands courses opened line home ps'
  parts-more ps ps' p s pushed finished parts h =
      let shares' = h.shares ++ s ∷ [] in
      let size = h.size in
      subst (λ (l : List (ShareParts M S)). AreAllParts note step stands courses opened line home l) (sym pushed) (record {
        shares = shares';
        come = λ i t e. ⊎_elim
            (λ (old : slice_get h.shares i ≡ Some t). h.come i t old)
            (λ (new : (i ≡ length h.shares) × (s ≡ t)).
            subst (λ k. HasFinished note step stands courses opened line home k t) (sym (new.0 ∙ size)) (subst (HasFinished note step stands courses opened line home (length ps)) new.1 finished))
            (get-pushed h.shares s t i e);
        size = length-append h.shares (s ∷ []) ∙ ap (λ n. n + 1) size ∙ sym (length-append ps (p ∷ []));
        each = λ i x e. ⊎_elim
            (λ (old : slice_get ps i ≡ Some x). let w = h.each i x old in (w.0, get-front h.shares (s ∷ []) i w.0 w.1, w.2))
            (λ (new : (i ≡ length ps) × (p ≡ x)). (s, ap (slice_get shares') (new.0 ∙ sym size) ∙ next-at shares' h.shares s (s ∷ []) [] (length h.shares) refl refl refl, subst (ArePartsOf s) new.1 parts))
            (get-pushed ps p x i e);
      })

module _ {M S : Type 0} where
  -- the ends of one share more are put back
  pub outs-on : (all done : List (ShareParts M S)) (p : ShareParts M S) (rest rest' : List (ShareParts M S)) (ends ends' : List (Option (End M))) → done ++ rest ≡ all → rest ≡ p ∷ rest'
      → ((l : ℕ) (e : End M) → HasEnd ends l e → IsOutOf all l e) → ((l : ℕ) (e : End M) → HasEnd ends' l e → (HasEnd ends l e) ⊎ (IsOfOuts p.outs.items l e)) → (l : ℕ) (e : End M) → HasEnd ends' l e → IsOutOf all l e
  outs-on all done p rest rest' ends ends' whole next h put l e there = ⊎_elim
      (λ (old : HasEnd ends l e). h l e old)
      (λ (new : IsOfOuts p.outs.items l e). record { share = length done; part = p; there = next-at all done p rest rest' (length done) whole next refl; of_rows = new })
      (put l e there)

  pub ins-on : (all done : List (ShareParts M S)) (p : ShareParts M S) (rest rest' : List (ShareParts M S)) (ends ends' : List (Option (End M))) → done ++ rest ≡ all → rest ≡ p ∷ rest'
      → ((l : ℕ) (e : End M) → HasEnd ends l e → IsIntoOf all l e) → ((l : ℕ) (e : End M) → HasEnd ends' l e → (HasEnd ends l e) ⊎ (IsOfIn p.ins.items l e)) → (l : ℕ) (e : End M) → HasEnd ends' l e → IsIntoOf all l e
  ins-on all done p rest rest' ends ends' whole next h put l e there = ⊎_elim
      (λ (old : HasEnd ends l e). h l e old)
      (λ (new : IsOfIn p.ins.items l e). record { share = length done; part = p; there = next-at all done p rest rest' (length done) whole next refl; of_row = new })
      (put l e there)

  -- and so are its members' things
  pub things-on : {A : Type 0} (row : ShareParts M S → List A) (all done : List (ShareParts M S)) (p : ShareParts M S) (rest rest' : List (ShareParts M S)) (slots slots' : List (Option A)) (numbers : List NodeNo) → done ++ rest ≡ all → rest ≡ p ∷ rest'
      → ((k : ℕ) (x : A) → HasEnd slots k x → IsThing row all k x) → numbers ≡ p.numbers.items → ((k : ℕ) (x : A) → HasEnd slots' k x → (HasEnd slots k x) ⊎ (IsOfNode numbers (row p) k x)) → (k : ℕ) (x : A) → HasEnd slots' k x → IsThing row all k x
  things-on row all done p rest rest' slots slots' numbers whole next h same put k x there = ⊎_elim
      (λ (old : HasEnd slots k x). h k x old)
      (λ (new : IsOfNode numbers (row p) k x). record { share = length done; part = p; there = next-at all done p rest rest' (length done) whole next refl; of_node = subst (λ ns. IsOfNode ns (row p) k x) same new })
      (put k x there)
