-- Pieces that are taken out in the order of their leaving times.
use Rattle.std.proofs.Common.{◌≡◌, ◌==◌, ℕ, ◌<◌, ◌≤◌, Bool, true, false, cond, not, ◌&&◌, nat_lt, List, [], ◌∷◌, ◌++◌, length, Option, Some, None, is_some, refl, sym, ap, subst, ◌∙◌, ⊎_elim, arith, append_assoc}
use Rattle.std.specs.List.{AllByRecursion, filter, flat_map}
use Rattle.std.proofs.lemmas.List.{append-nil}
use Rattle.std.proofs.lemmas.Grind.{flat_map-append}
use Rattle.std.proofs.lemmas.Bool.{and_parts, or_cases, ltb-true, leb-false, lt-leb, eqb-true}
use Rattle.tiger_base.specs.declared.tenancy.PieceState.{PieceState}
use Rattle.slot_plan.specs.declared.params.Params.{Params}
use Rattle.mirror_schedule.specs.Sorted.{is_less, first_if, but_first_if}
use Rattle.mirror_schedule.specs.Pieces as pieces
use Rattle.mirror_schedule.specs.Pieces.{Pieces, IsPieces, comes_before, numbers_of, leaving_of}
use Rattle.mirror_schedule.proofs.Orders.{all_more}
use Rattle.cub_rules.specs.Records.{pieces_but}
use Rattle.cub_rules.specs.Ticks.{leaves_by}
use Rattle.cub_tick.specs.Leavings.{first_leaving, but_first_leaving, TakenOut}

-- what is seen of a set of pieces
abbrev pub seen : Params → List PieceState → Pieces
seen p items = record { params = p; items = items }

-- the first piece that leaves by a time, of a set of the plan, and what is left
pub first_taken : (p : Params) (time : ℕ) (before : Pieces) → before.params ≡ p → (o : Option PieceState) → o ≡ first_if (pieces.leaves_by before.params time) before.items → o ≡ first_leaving p time before.items
unfolding leaves_by
first_taken p time before plan o e = e ∙ ap (λ (q : Params). first_if (pieces.leaves_by q time) before.items) plan

pub first_left : (p : Params) (time : ℕ) (before after : Pieces) → before.params ≡ p → after ≡ record before { items = but_first_if (pieces.leaves_by before.params time) before.items }
    → after ≡ record before { items = but_first_leaving p time before.items }
unfolding leaves_by
first_left p time before after plan e = e ∙ ap (λ (q : Params). seen before.params (but_first_if (pieces.leaves_by q time) before.items)) plan

-- a piece that comes behind another leaves no earlier
leaves_later : (p : Params) (x y : PieceState) → comes_before p x y ≡ true → leaving_of p x ≤ leaving_of p y
unfolding comes_before
leaves_later p x y h =
    ⊎_elim (λ less. let l : leaving_of p x < leaving_of p y = ltb-true _ _ less in omega (arith, l))
    (λ same. let e : leaving_of p x ≡ leaving_of p y = eqb-true _ _ (and_parts _ _ same).0 in omega (arith, e))
    (or_cases (nat_lt (leaving_of p x) (leaving_of p y)) (leaving_of p x == leaving_of p y && is_less (numbers_of x) (numbers_of y)) h)

late_behind : (p : Params) (time : ℕ) (x y : PieceState) → leaves_by p time x ≡ false → comes_before p x y ≡ true → leaves_by p time y ≡ false
unfolding leaves_by
late_behind p time x y h before =
    let late : time < leaving_of p x = leb-false _ _ h in
    lt-leb (leaving_of p y) time (omega (arith, late, leaves_later p x y before))

none_left : (p : Params) (time : ℕ) (items : List PieceState) → IsPieces p items → None ≡ first_leaving p time items → AllByRecursion (λ y. leaves_by p time y ≡ false) items
none_left p time [] w e = tt
none_left p time (x ∷ xs) w e = by_test (leaves_by p time x) refl e
  where
    by_test : (t : Bool) → leaves_by p time x ≡ t → None ≡ cond t (Some x) None → AllByRecursion (λ y. leaves_by p time y ≡ false) (x ∷ xs)
    by_test true is e = absurd (cc)
    by_test false is e = (is, all_more (λ y. comes_before p x y ≡ true) (λ y. leaves_by p time y ≡ false) (λ y before. late_behind p time x y is before) xs w.order.0)

same_left : (p : Params) (time : ℕ) (items : List PieceState) → None ≡ first_leaving p time items → but_first_leaving p time items ≡ items
same_left p time [] e = refl
same_left p time (x ∷ xs) e = by_test (leaves_by p time x) e
  where
    by_test : (t : Bool) → None ≡ cond t (Some x) None → cond t xs (x ∷ xs) ≡ x ∷ xs
    by_test true e = absurd (cc)
    by_test false e = refl

-- a list of which a front passes a test and the rest does not
parted_true : {X : Type 0} (test : X → Bool) (done rest : List X) → AllByRecursion (λ x. test x ≡ true) done → AllByRecursion (λ x. test x ≡ false) rest → filter test (done ++ rest) ≡ done
parted_true test [] [] h g = refl
parted_true test [] (y ∷ ys) h g = rw g.0 (parted_true test [] ys h g.1)
parted_true test (x ∷ xs) rest h g = rw h.0 (ap (λ zs. x ∷ zs) (parted_true test xs rest h.1 g))

parted_false : {X : Type 0} (test : X → Bool) (done rest : List X) → AllByRecursion (λ x. test x ≡ true) done → AllByRecursion (λ x. test x ≡ false) rest → filter (λ x. not (test x)) (done ++ rest) ≡ rest
parted_false test [] [] h g = refl
parted_false test [] (y ∷ ys) h g = rw g.0 (ap (λ zs. y ∷ zs) (parted_false test [] ys h g.1))
parted_false test (x ∷ xs) rest h g = rw h.0 (parted_false test xs rest h.1 g)

all_append : {X : Type 0} (P : X → Type 0) (xs : List X) (x : X) → AllByRecursion P xs → P x → AllByRecursion P (xs ++ x ∷ [])
all_append P [] x h here = (here, tt)
all_append P (y ∷ ys) x h here = (h.0, all_append P ys x h.1 here)

-- what holds of all pieces holds of those behind a front
all_behind : {X : Type 0} (P : X → Type 0) (front back : List X) → AllByRecursion P (front ++ back) → AllByRecursion P back
all_behind P [] back h = h
all_behind P (x ∷ xs) back h = all_behind P xs back h.1

module _ (p : Params) (time : ℕ) (x : PieceState) where
  -- the first piece is taken out
  record Next (items : List PieceState) : Type 0 where
    back : List PieceState
    parts : items ≡ x ∷ back
    left : but_first_leaving p time items ≡ back
    leaves : leaves_by p time x ≡ true

  next : (items : List PieceState) → Some x ≡ first_leaving p time items → Next items
  next [] e = absurd (cc)
  next (y ∷ ys) e = by_test (leaves_by p time y) refl e
    where
      by_test : (b : Bool) → leaves_by p time y ≡ b → Some x ≡ cond b (Some y) None → Next (y ∷ ys)
      by_test false is e = absurd (cc)
      by_test true is e =
          let same : y ≡ x = cc in
          record {
            back = ys;
            parts = ap (λ (z : PieceState). z ∷ ys) same;
            left = ap (λ (b : Bool). cond b ys (y ∷ ys)) is;
            leaves = sym (ap (λ (z : PieceState). leaves_by p time z) same) ∙ is;
          }

module _ {X : Type 0} {p : Params} {time : ℕ} {outs_of : PieceState → List X} {before : Pieces} {outs_before : List X} where
  module _ {now after : Pieces} {outs_now : List X} (t : TakenOut p time outs_of before outs_before now outs_now) {x : PieceState}
      (first : Some x ≡ first_leaving p time now.items) (step : after ≡ record now { items = but_first_leaving p time now.items }) where
    items_after : after.items ≡ (next p time x now.items first).back
    items_after = ap (λ (q : Pieces). q.items) step ∙ (next p time x now.items first).left

    pub taken_fewer : length after.items < length now.items
    taken_fewer =
        let n = next p time x now.items first in
        let longer : length now.items ≡ length (x ∷ n.back) = ap length n.parts in
        let same : length after.items ≡ length n.back = ap length items_after in
        omega (arith, longer, same)

    pub taken_more : {outs_after : List X} → outs_after ≡ outs_now ++ outs_of x → TakenOut p time outs_of before outs_before after outs_after
    taken_more {outs_after} e =
        let n = next p time x now.items first in
        record {
          done = t.done ++ x ∷ [];
          parts = t.parts ∙ (ap (λ (ys : List PieceState). t.done ++ ys) (n.parts ∙ ap (λ (ys : List PieceState). x ∷ ys) (sym items_after)) ∙ sym (append_assoc t.done (x ∷ []) after.items));
          leave = all_append (λ y. leaves_by p time y ≡ true) t.done x t.leave n.leaves;
          params = t.params;
          params_now = ap (λ (q : Pieces). q.params) step ∙ t.params_now;
          outs =
              e ∙ (ap (λ (zs : List X). zs ++ outs_of x) t.outs
              ∙ (append_assoc outs_before (flat_map outs_of t.done) (outs_of x)
              ∙ ap (λ (zs : List X). outs_before ++ zs) (sym (flat_map-append outs_of t.done (x ∷ []) ∙ ap (λ (zs : List X). flat_map outs_of t.done ++ zs) (append-nil (outs_of x))))));
        }

    -- what holds of all pieces holds of it
    pub of_taken : (P : PieceState → Type 0) → AllByRecursion P before.items → P x
    of_taken P all =
        let n = next p time x now.items first in
        let behind : AllByRecursion P (x ∷ n.back) =
        subst (λ (ys : List PieceState). AllByRecursion P ys) n.parts (all_behind P t.done now.items (subst (λ (ys : List PieceState). AllByRecursion P ys) t.parts all)) in
        behind.0

  module _ {now : Pieces} {outs_now : List X} (t : TakenOut p time outs_of before outs_before now outs_now)
      (last : None ≡ first_leaving p time now.items) (order : IsPieces p now.items) where
    -- at last exactly those are taken out that leave by the time
    pub taken_pieces : {after : Pieces} → after ≡ record now { items = but_first_leaving p time now.items } → after ≡ pieces_but (leaves_by p time) before
    taken_pieces {after} step =
        let rest : filter (λ y. not (leaves_by p time y)) before.items ≡ now.items =
        ap (λ (ys : List PieceState). filter (λ y. not (leaves_by p time y)) ys) t.parts ∙ parted_false (leaves_by p time) t.done now.items t.leave (none_left p time now.items order last) in
        step ∙ (ap (λ (ys : List PieceState). seen now.params ys) (same_left p time now.items last ∙ sym rest) ∙ ap (λ (q : Params). seen q (filter (λ y. not (leaves_by p time y)) before.items)) (t.params_now ∙ sym t.params))

    pub taken_outs : outs_now ≡ outs_before ++ flat_map outs_of (filter (leaves_by p time) before.items)
    taken_outs =
        t.outs ∙ ap (λ (ys : List PieceState). outs_before ++ flat_map outs_of ys)
        (sym (ap (λ (ys : List PieceState). filter (leaves_by p time) ys) t.parts ∙ parted_true (leaves_by p time) t.done now.items t.leave (none_left p time now.items order last)))

-- pieces that are taken out and give nothing out
abbrev pub nothing : List ℕ
nothing = []

module _ {p : Params} {time : ℕ} {before now after : Pieces} (t : TakenOut p time (λ _. nothing) before nothing now nothing) where
  pub dropped_more : (o : Option PieceState) → is_some o ≡ true → o ≡ first_leaving p time now.items → after ≡ record now { items = but_first_leaving p time now.items }
      → TakenOut p time (λ _. nothing) before nothing after nothing
  dropped_more None some e step = absurd (cc)
  dropped_more (Some x) some e step = taken_more t e step refl

  pub dropped_fewer : (o : Option PieceState) → is_some o ≡ true → o ≡ first_leaving p time now.items → after ≡ record now { items = but_first_leaving p time now.items } → length after.items < length now.items
  dropped_fewer None some e step = absurd (cc)
  dropped_fewer (Some x) some e step = taken_fewer t e step

  pub dropped_all : (o : Option PieceState) → is_some o ≡ false → o ≡ first_leaving p time now.items → IsPieces p now.items → after ≡ record now { items = but_first_leaving p time now.items }
      → after ≡ pieces_but (leaves_by p time) before
  dropped_all None some e order step = taken_pieces t e order step
  dropped_all (Some x) some e order step = absurd (cc)
