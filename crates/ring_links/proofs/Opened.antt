-- Links that are opened one after another.
use Rattle.std.proofs.Common.{◌≡◌, List, [], ◌∷◌, ◌++◌, sym, subst}
use Rattle.ring_links.specs.Ends.{End, AreOfNewLink, AreNewLinks}
use Rattle.ring_links.proofs.Kept.{all_next}

module _ {M : Type 0} where
  pub none_new : (links : List (End M × End M)) → links ≡ [] → AreNewLinks links
  none_new links e = subst (λ (l : List (End M × End M)). AreNewLinks l) (sym e) tt

  pub one_more : (links links' : List (End M × End M)) (link : End M × End M) → links' ≡ links ++ link ∷ [] → AreNewLinks links
      → link.0.line ≡ link.1.line → (link.0.flights ≡ []) × (link.1.flights ≡ []) → (link.0.closed ≡ 0) × (link.1.closed ≡ 0) → AreNewLinks links'
  one_more links links' link e h line flights closed =
      subst (λ (l : List (End M × End M)). AreNewLinks l) (sym e)
      (all_next (λ (x : End M × End M). AreOfNewLink x.0 x.1) links link h
      (record { line = line; sent = flights.0; received = flights.1; out_closed = closed.0; in_closed = closed.1 }))
