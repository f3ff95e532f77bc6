-- Links that are opened one after another, and the names of their ends.
use Rattle.std.proofs.Common.{◌≡◌, ℕ, zero, suc, List, [], ◌∷◌, ◌++◌, Option, Some, None, refl, sym, subst}
use Rattle.std.proofs.lemmas.Option.{none-some}
use Rattle.ring_links.specs.Ends.{End, LineId, AreOfNewLink, AreNewLinks}
use Rattle.ring_workers.specs.Ends.{AreLeft, AreOpened, IsNew, AreNamed, line_at}

module _ {M : Type 0} where
  -- the ends of one link more are put into the rows, or none
  pub opened-more : (outs outs' ins ins' : List (Option (End M))) (out into : Option (End M)) → outs' ≡ outs ++ out ∷ [] → ins' ≡ ins ++ into ∷ []
      → AreOpened outs ins → AreOpened (out ∷ []) (into ∷ []) → AreOpened outs' ins'
  opened-more outs outs' ins ins' out into eo ei h new =
      subst (λ q. AreOpened q ins') (sym eo) (subst (λ q. AreOpened (outs ++ out ∷ []) q) (sym ei) (opened-last outs ins out into h new))
    where
      opened-last : (outs ins : List (Option (End M))) (out into : Option (End M)) → AreOpened outs ins → AreOpened (out ∷ []) (into ∷ [])
          → AreOpened (outs ++ out ∷ []) (ins ++ into ∷ [])
      opened-last [] [] out into h new = new
      opened-last [] (x ∷ ins) out into h new = absurd h
      opened-last (None ∷ outs) [] out into h new = absurd h
      opened-last (None ∷ outs) (None ∷ ins) out into h new = opened-last outs ins out into h new
      opened-last (None ∷ outs) (Some y ∷ ins) out into h new = absurd h
      opened-last (Some x ∷ outs) [] out into h new = absurd h
      opened-last (Some x ∷ outs) (None ∷ ins) out into h new = absurd h
      opened-last (Some x ∷ outs) (Some y ∷ ins) out into h new = (h.0, opened-last outs ins out into h.1 new)

  pub opened-none : (outs ins : List (Option (End M))) → outs ≡ [] → ins ≡ [] → AreOpened outs ins
  opened-none outs ins eo ei = subst (λ q. AreOpened q ins) (sym eo) (subst (λ q. AreOpened [] q) (sym ei) tt)

  -- the last of some new links, and the others
  new-apart : (links : List (End M × End M)) (x : End M × End M) → AreNewLinks (links ++ x ∷ []) → AreNewLinks links × AreOfNewLink x.0 x.1
  new-apart [] x h = (tt, h.0)
  new-apart (y ∷ links) x h = let rest = new-apart links x h.1 in ((h.0, rest.0), rest.1)

  pub new-last : (links links' : List (End M × End M)) (x : End M × End M) → links ≡ links' ++ x ∷ [] → AreNewLinks links
      → AreNewLinks links' × AreOpened (Some x.0 ∷ []) (Some x.1 ∷ [])
  new-last links links' x is h =
      let both = new-apart links' x (subst (λ (l : List (End M × End M)). AreNewLinks l) is h) in (both.0, (both.1, tt))

  nothing-there : (e : End M) → ◌≡◌ {A = Option (Option (End M))} (Some None) (Some (Some e)) → ⊥
  nothing-there e same = none-some e (let is : ◌≡◌ {A = Option (End M)} None (Some e) = cc in is)

  -- the ends of open links have the names of the ends that send
  pub outs-named : (outs ins : List (Option (End M))) → AreOpened outs ins → AreNamed (line_at outs) outs
  outs-named [] ins h l e there = absurd (none-some (Some e) there)
  outs-named (None ∷ outs) [] h l e there = absurd h
  outs-named (None ∷ outs) (None ∷ ins) h zero e there = absurd (nothing-there e there)
  outs-named (None ∷ outs) (None ∷ ins) h (suc l) e there = outs-named outs ins h l e there
  outs-named (None ∷ outs) (Some y ∷ ins) h l e there = absurd h
  outs-named (Some x ∷ outs) [] h l e there = absurd h
  outs-named (Some x ∷ outs) (None ∷ ins) h l e there = absurd h
  outs-named (Some x ∷ outs) (Some y ∷ ins) h zero e there =
      let same : x ≡ e = cc in
      subst (IsNew x.line) same (record { line = refl; flights = h.0.sent; closed = h.0.out_closed })
  outs-named (Some x ∷ outs) (Some y ∷ ins) h (suc l) e there = outs-named outs ins h.1 l e there

  pub ins-named : (outs ins : List (Option (End M))) → AreOpened outs ins → AreNamed (line_at outs) ins
  ins-named [] [] h l e there = absurd (none-some (Some e) there)
  ins-named [] (x ∷ ins) h l e there = absurd h
  ins-named (None ∷ outs) [] h l e there = absurd h
  ins-named (None ∷ outs) (None ∷ ins) h zero e there = absurd (nothing-there e there)
  ins-named (None ∷ outs) (None ∷ ins) h (suc l) e there = ins-named outs ins h l e there
  ins-named (None ∷ outs) (Some y ∷ ins) h l e there = absurd h
  ins-named (Some x ∷ outs) [] h l e there = absurd h
  ins-named (Some x ∷ outs) (None ∷ ins) h l e there = absurd h
  ins-named (Some x ∷ outs) (Some y ∷ ins) h zero e there =
      let same : y ≡ e = cc in
      subst (IsNew x.line) same (record { line = sym h.0.line; flights = h.0.received; closed = h.0.in_closed })
  ins-named (Some x ∷ outs) (Some y ∷ ins) h (suc l) e there = ins-named outs ins h.1 l e there

  pub named-left : (line : ℕ → LineId) (old new : List (Option (End M))) → AreNamed line old → AreLeft old new → AreNamed line new
  named-left line old new h left l e there = h l e (left l e there)
