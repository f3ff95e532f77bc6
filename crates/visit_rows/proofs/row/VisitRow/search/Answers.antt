use Rattle.std.proofs.Common.{rules}
use Rattle.std.proofs.lemmas.List.Sorted.{answers_always}
use Rattle.visit_rows.proofs.Rows.{searched}
use Rattle.visit_rows.proofs.row.VisitRow.search.Goals as goal

-- the closure gives an entry's position, and the slice is the row's entries
pub returns : goal.returns
returns g c =
    let facts = c.binary_search_by_key.ensures in
    let by_key = facts.position (λ e. e.0) (answers_always _ _ _ (λ f a r g called. search rules)) in
    rw (← c.self.view_is, ← c.deref.ensures.value)
    (searched c.deref.result.now (rw c.deref.ensures.value c.self.invariant.0) c.args.position _ facts.bound by_key)
