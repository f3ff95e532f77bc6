-- No visit is settled after one that is not.
use Rattle.std.proofs.Common.{◌≡◌, ℕ, zero, suc, ◌+◌, ◌-◌, ◌*◌, ◌≤◌, false, List, [], ◌∷◌, ◌++◌, arith, refl, sym, ap, ◌∙◌}
use Rattle.std.specs.List.{flat_map, range_with_len}
use Rattle.std.proofs.lemmas.Bool.{leb-false, lt-leb}
use Rattle.std.proofs.lemmas.List.{append-nil}
use Rattle.std.proofs.lemmas.List.Concat.{flat_map-append}
use Rattle.tiger_base.specs.declared.tenancy.Tenancy.{Tenancy}
use Rattle.slot_plan.specs.declared.params.Params.{Params}
use Rattle.slot_plan.specs.Times.{due, first_due, time_of}
use Rattle.stripe_layout.specs.declared.catalogue.Catalogue.{Catalogue}
use Rattle.node_kit.specs.declared.course.Course.{Course}
use Rattle.node_kit.specs.declared.journal.Entry.{Entry}
use Rattle.run_report.specs.Outcomes.{is_settled, settled_block, visits_of}

due_more : (p : Params) (slot visit : ℕ) → due p slot visit ≤ due p slot (visit + 1)
unfolding due
due_more p slot visit = by_product (first_due p slot) (visit * p.play) ((visit + 1) * p.play) (product visit p.play)
  where
    product : (n k : ℕ) → n * k ≤ (n + 1) * k
    product n k = grind arith

    by_product : (a m n : ℕ) → m ≤ n → a + m ≤ a + n
    by_product a m n le = omega arith

not_after : (c : Course) (slot visit : ℕ) → is_settled c slot visit ≡ false → is_settled c slot (visit + 1) ≡ false
unfolding is_settled
not_after c slot visit e =
    let more = due_more c.plan.params slot visit in
    let late = leb-false (due c.plan.params slot visit + 2 * c.plan.params.play) (time_of c.plan.params c.beats) e in
    lt-leb (due c.plan.params slot (visit + 1) + 2 * c.plan.params.play) (time_of c.plan.params c.beats) (omega arith)

one_not : (c : Course) (l : Catalogue) (js : List (List Entry)) (t : Tenancy) (visit : ℕ) → is_settled c t.slot.0 visit ≡ false
    → settled_block c l js t visit ≡ []
unfolding settled_block
one_not c l js t visit e = rw e refl

none_after : (c : Course) (l : Catalogue) (js : List (List Entry)) (t : Tenancy) (visit n : ℕ) → is_settled c t.slot.0 visit ≡ false
    → flat_map (settled_block c l js t) (range_with_len visit n) ≡ []
none_after c l js t visit zero e = refl
none_after c l js t visit (suc n) e =
    ap (λ (front : List _). front ++ flat_map (settled_block c l js t) (range_with_len (visit + 1) n)) (one_not c l js t visit e)
    ∙ none_after c l js t (visit + 1) n (not_after c t.slot.0 visit e)

range_split : (a m n k b : ℕ) → m + n ≡ k → a + m ≡ b → range_with_len a k ≡ range_with_len a m ++ range_with_len b n
range_split a zero n k b sum at =
    let all : k ≡ n = omega arith in
    let same : a ≡ b = omega arith in
    ap (λ j. range_with_len a j) all ∙ ap (λ j. range_with_len j n) same
range_split a (suc m) n zero b sum at = absurd (omega arith)
range_split a (suc m) n (suc k) b sum at = ap (λ (rest : List ℕ). a ∷ rest) (range_split (a + 1) m n k b (omega arith) (omega arith))

-- the blocks up to a visit that is not settled are all blocks
pub all_before : (c : Course) (l : Catalogue) (js : List (List Entry)) (t : Tenancy) (visit : ℕ) → t.first ≤ visit → visit ≤ t.last + 1
    → is_settled c t.slot.0 visit ≡ false
    → flat_map (settled_block c l js t) (range_with_len t.first (visit - t.first)) ≡ flat_map (settled_block c l js t) (visits_of t)
all_before c l js t visit low high e =
    let f = settled_block c l js t in
    let m = visit - t.first in
    let n = t.last + 1 - visit in
    let sum : m + n ≡ t.last + 1 - t.first = omega arith in
    let at : t.first + m ≡ visit = omega arith in
    sym (ap (flat_map f) (range_split t.first m n (t.last + 1 - t.first) visit sum at)
    ∙ (flat_map-append f (range_with_len t.first m) (range_with_len visit n)
    ∙ (ap (λ rest. flat_map f (range_with_len t.first m) ++ rest) (none_after c l js t visit n e)
    ∙ append-nil (flat_map f (range_with_len t.first m)))))
