-- The ends of ports that are put back among the ends by link number.
use Rattle.std.proofs.Common.{◌≡◌, ℕ, List, ◌∷◌, ◌++◌, length, Option, refl, ap, sym, subst, ◌∙◌, ⊎_elim, inr}
use Rattle.std.specs.Prelude.{◌⊎◌}
use Rattle.tiger_base.specs.declared.number.LinkNo.{LinkNo}
use Rattle.ring_links.specs.Ends.{End, LineId}
use Rattle.ring_cells.specs.Shares.{Entrance, Exit}
use Rattle.ring_workers.specs.Ends.{HasEnd, AreLeft, AreNamed, AreUnsent}
use Rattle.ring_workers.specs.Rows.{in_end, out_end, IsOfIn, IsOfOut, IsOfOuts}
use Rattle.ring_workers.proofs.Walks.{next-at}

module _ {M : Type 0} where
  pub named-unsent : (line : ℕ → LineId) (ends : List (Option (End M))) → AreNamed line ends → AreUnsent ends
  named-unsent line ends named l e there = ((named l e there).flights, (named l e there).closed)

  pub unsent-left : (old new : List (Option (End M))) → AreUnsent old → AreLeft old new → AreUnsent new
  unsent-left old new h left l e there = h l e (left l e there)

  same-end : (e f : End M) → e.line ≡ f.line → e.flights ≡ f.flights → e.closed ≡ f.closed → e ≡ f
  same-end e f line flights closed = λ i. record { line = line i; flights = flights i; closed = closed i }

  -- the end of one in-port more
  pub put-in : (all done : List (Entrance M)) (x : Entrance M) (link : LinkNo) (rest rest' : List (Entrance M)) (was ends ends' : List (Option (End M))) (end : End M) → done ++ rest ≡ all → rest ≡ x ∷ rest'
      → ((l : ℕ) (e : End M) → HasEnd ends l e → (HasEnd was l e) ⊎ (IsOfIn all l e)) → ((l : ℕ) (e : End M) → HasEnd ends' l e → (HasEnd ends l e) ⊎ ((link.0 ≡ l) × (e ≡ end)))
      → link ≡ x.link → end.line ≡ x.line → end.flights ≡ x.flights → end.closed ≡ x.closed → (l : ℕ) (e : End M) → HasEnd ends' l e → (HasEnd was l e) ⊎ (IsOfIn all l e)
  put-in all done x link rest rest' was ends ends' end whole next h put same line flights closed l e there = ⊎_elim
      (λ (old : HasEnd ends l e). h l e old)
      (λ (new : (link.0 ≡ l) × (e ≡ end)). inr (record {
        place = length done;
        port = x;
        here = next-at all done x rest rest' (length done) whole next refl;
        number = ap (λ (q : LinkNo). q.0) (sym same) ∙ new.0;
        end = new.1 ∙ same-end end (in_end x) line flights closed;
      }))
      (put l e there)

  -- and of one out-port more
  pub put-out : (all done : List (Exit M)) (x : Exit M) (link : LinkNo) (rest rest' : List (Exit M)) (was ends ends' : List (Option (End M))) (end : End M) → done ++ rest ≡ all → rest ≡ x ∷ rest'
      → ((l : ℕ) (e : End M) → HasEnd ends l e → (HasEnd was l e) ⊎ (IsOfOut all l e)) → ((l : ℕ) (e : End M) → HasEnd ends' l e → (HasEnd ends l e) ⊎ ((link.0 ≡ l) × (e ≡ end)))
      → link ≡ x.link → end.line ≡ x.line → end.flights ≡ x.flights → end.closed ≡ x.closed → (l : ℕ) (e : End M) → HasEnd ends' l e → (HasEnd was l e) ⊎ (IsOfOut all l e)
  put-out all done x link rest rest' was ends ends' end whole next h put same line flights closed l e there = ⊎_elim
      (λ (old : HasEnd ends l e). h l e old)
      (λ (new : (link.0 ≡ l) × (e ≡ end)). inr (record {
        place = length done;
        port = x;
        here = next-at all done x rest rest' (length done) whole next refl;
        number = ap (λ (q : LinkNo). q.0) (sym same) ∙ new.0;
        end = new.1 ∙ same-end end (out_end x) line flights closed;
      }))
      (put l e there)

  -- those of one row more
  pub put-outs-row : (all done : List (List (Exit M))) (row its : List (Exit M)) (rest rest' : List (List (Exit M))) (was ends ends' : List (Option (End M))) → done ++ rest ≡ all → rest ≡ row ∷ rest' → its ≡ row
      → ((l : ℕ) (e : End M) → HasEnd ends l e → (HasEnd was l e) ⊎ (IsOfOuts all l e)) → ((l : ℕ) (e : End M) → HasEnd ends' l e → (HasEnd ends l e) ⊎ (IsOfOut its l e))
      → (l : ℕ) (e : End M) → HasEnd ends' l e → (HasEnd was l e) ⊎ (IsOfOuts all l e)
  put-outs-row all done row its rest rest' was ends ends' whole next same h put l e there = ⊎_elim
      (λ (old : HasEnd ends l e). h l e old)
      (λ (new : IsOfOut its l e). inr (record {
        member = length done;
        row = row;
        its_row = next-at all done row rest rest' (length done) whole next refl;
        of_row = subst (λ r. IsOfOut r l e) same new;
      }))
      (put l e there)
