-- An event that may be asked of a machine.
use Rattle.std.proofs.Common.{◌≡◌, ℕ, ◌<◌, Bool, Some, sym, ap, ◌∙◌, subst, arith}
use Rattle.std.specs.Bool.{OnTrue}
use Rattle.std.specs.Prelude.{nat_lt}
use Rattle.std.proofs.lemmas.Bool.Decides.{nat_tests}
use Rattle.std.proofs.lemmas.Bool.{OnTrue_at, OnTrue_from}
use Rattle.tiger_base.specs.declared.number.LinkNo.{LinkNo}
use Rattle.slot_plan.specs.declared.params.Params.{Params}
use Rattle.node_kit.specs.Links.{Links, links_of, ends_of}
use Rattle.ring_world.specs.declared.event.Act.{Act}
use Rattle.ring_world.specs.declared.event.Act.TheVariants as act
use Rattle.ring_world.specs.declared.event.Event.{Event}
use Rattle.ring_world.specs.declared.event.Last.{Last}
use Rattle.ring_world.specs.declared.event.Last.TheVariants as last
use Rattle.ring_world.specs.Faults.{IsActOf, IsLastOf, IsEventOf}
use Rattle.world.specs.Running.{Running, nodes_of}

pub is_link : (p : Params) (nodes : ℕ) (a : Act) (link : LinkNo) (number from to : ℕ) (links : Links) → a ≡ act.Get link number → links ≡ links_of p
    → ◌≡◌ (ends_of links link.0) (Some (from, to)) → IsActOf p nodes a
is_link p nodes a link number from to links is table ends =
    subst (IsActOf p nodes) (sym is) (from, to, ap (λ (t : Links). ends_of t link.0) (sym table) ∙ ends)

pub is_last : (p : Params) (a : Last) (link : LinkNo) (number from to : ℕ) (links : Links) → a ≡ last.Get link number
    → links ≡ links_of p → ◌≡◌ (ends_of links link.0) (Some (from, to)) → OnTrue (nat_lt to p.cubs) (IsLastOf p a)
is_last p a link number from to links is table ends =
    OnTrue_from (nat_lt to p.cubs) (IsLastOf p a) (λ h.
    let low : to < p.cubs = grind (arith, nat_tests, h) in
    subst (IsLastOf p) (sym is) (from, to, ap (λ (x : Links). ends_of x link.0) (sym table) ∙ ends, low))

pub is_event : {M S : Type 0} (r now : Running M S) (e : Event) (t : Bool) → r ≡ now → e.stamp.beat < r.beats
    → OnTrue t (IsActOf r.params (nodes_of r.params) e.act) → OnTrue t (IsEventOf now.params (nodes_of now.params) now.beats e)
is_event {M} {S} r now e t is low may =
    OnTrue_from t (IsEventOf now.params (nodes_of now.params) now.beats e)
    (λ h. subst (λ (q : Running M S). IsEventOf q.params (nodes_of q.params) q.beats e) is (low, OnTrue_at h may))
