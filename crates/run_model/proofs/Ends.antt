-- The tests of what is carried are true exactly of what is.
use Rattle.std.proofs.Common.{◌≡◌, ℕ, ◌+◌, IsTrue, List, Option, Some, None, refl, sym, ap, subst, arith}
use Rattle.std.specs.Prelude.{◌↔◌, unwrap_or}
use Rattle.std.specs.List.{AllByRecursion}
use Rattle.std.proofs.lemmas.Bool.{false≢true}
use Rattle.slot_plan.specs.declared.params.Params.{Params}
use Rattle.node_kit.specs.declared.course.Kept.{Kept}
use Rattle.node_kit.specs.declared.journal.What.{What}
use Rattle.node_kit.specs.declared.journal.What.TheVariants as what
use Rattle.node_kit.specs.declared.journal.Entry.{Entry}
use Rattle.node_kit.specs.Links.{Links, links_of, ends_of, leads_to, leads_from}
use Rattle.run_facts.specs.Carried.{IsAtItsEnd}
use Rattle.run_model.specs.Runs.{IsCarriedRun}
use Rattle.run_model.specs.Tests.{each_from, at_its_end, at_ends}
use Rattle.run_model.specs.Ways.{LinkCarries}
use Rattle.run_model.proofs.Reflects.{equal, all}
use Rattle.run_model.proofs.Timely.{numbered_found, numbered_gives}

leads_to_is : (o : Option (ℕ × ℕ)) (n : ℕ) → IsTrue (leads_to n o) ↔ ((from : ℕ) × ◌≡◌ {A = Option (ℕ × ℕ)} o (Some (from, n)))
leads_to_is None n = ((λ h. absurd (false≢true h)), (λ g. absurd (cc (g.1))))
leads_to_is (Some ends) n = (
  (λ h. let e : ends.1 ≡ n = (equal ends.1 n).0 h in (ends.0, λ i. Some (ends.0, e i))),
  (λ g. (equal ends.1 n).1 (ap (λ (o : Option (ℕ × ℕ)). (unwrap_or o (0, 0)).1) g.1)),
)

leads_from_is : (o : Option (ℕ × ℕ)) (n : ℕ) → IsTrue (leads_from n o) ↔ ((to : ℕ) × ◌≡◌ {A = Option (ℕ × ℕ)} o (Some (n, to)))
leads_from_is None n = ((λ h. absurd (false≢true h)), (λ g. absurd (cc (g.1))))
leads_from_is (Some ends) n = (
  (λ h. let e : ends.0 ≡ n = (equal ends.0 n).0 h in (ends.1, λ i. Some (e i, ends.1))),
  (λ g. (equal ends.0 n).1 (ap (λ (o : Option (ℕ × ℕ)). (unwrap_or o (0, 0)).0) g.1)),
)

-- an entry stands at its link's end
at_end : (p : Params) (n : ℕ) (w : What) → IsTrue (at_its_end (links_of p) n w) ↔ IsAtItsEnd p n w
at_end p n (what.Got link message) = leads_to_is (ends_of (links_of p) link.0) n
at_end p n (what.Sent link message) = leads_from_is (ends_of (links_of p) link.0) n
at_end p n other = ((λ h. tt), (λ g. refl))

all_at_end : (p : Params) (n : ℕ) (journal : List Entry)
    → IsTrue (at_ends (links_of p) n journal) ↔ AllByRecursion (λ e. IsAtItsEnd p n e.what) journal
all_at_end p n journal = all (λ e. IsAtItsEnd p n e.what) (λ e. at_its_end (links_of p) n e.what) (λ e. at_end p n e.what) journal

-- where all links carry, the test of the ends is true exactly of a run that is carried
pub carried : (k : Kept) (t : Links) → t ≡ links_of k.course.plan.params
    → ((l : ℕ) → LinkCarries k l)
    → IsTrue (each_from (at_ends t) 0 k.journals) ↔ IsCarriedRun k
carried k t e on =
    let p = k.course.plan.params in (
      (λ h. record {
        on_links = on;
        at_ends = λ n journal at.
            let here = numbered_found (at_ends t) 0 k.journals h n journal at in
            let same : 0 + n ≡ n = omega arith in
            (all_at_end p n journal).0
            (subst (λ (m : ℕ). IsTrue (at_ends (links_of p) m journal)) same (subst (λ (u : Links). IsTrue (at_ends u (0 + n) journal)) e here));
      }),
      (λ g. numbered_gives (at_ends t) 0 k.journals
          (λ n journal at.
          let same : n ≡ 0 + n = omega arith in
          let here = (all_at_end p n journal).1 (g.at_ends n journal at) in
          subst (λ (u : Links). IsTrue (at_ends u (0 + n) journal)) (sym e) (subst (λ (m : ℕ). IsTrue (at_ends (links_of p) m journal)) same here))),
    )
