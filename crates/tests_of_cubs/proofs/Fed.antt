-- A cub that was fed on a link that leads to it.
use Rattle.std.proofs.Common.{◌≡◌, ℕ, Some, ap, subst, ◌∙◌}
use Rattle.slot_plan.specs.declared.params.Params.{Params}
use Rattle.node_kit.specs.Links.{Links, links_of, ends_of, IsInLink}

-- the link that a table shows leads to the cub
pub in_link : (p : Params) (t : Links) (link from to n : ℕ) → t ≡ links_of p → ends_of t link ≡ Some (from, to) → to ≡ n → IsInLink p n link
in_link p t link from to n table ends same =
    (from, subst (λ (x : Links). ends_of x link ≡ Some (from, n)) table (ends ∙ ap (λ (m : ℕ). Some (from, m)) same))
