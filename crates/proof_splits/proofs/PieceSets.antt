-- What a change makes of the two sets of piece records: those kept, and those of them still to be asked for.
use Rattle.std.proofs.Common.{◌≡◌, ℕ, List, [], ◌∷◌, filter, Bool, true, false, not, refl, sym, ap, subst, ⊎_elim, inl, inr}
use Rattle.std.specs.Prelude.{◌⊎◌, ◌==◌, ◌||◌}
use Rattle.std.specs.List.{list_any}
use Rattle.std.proofs.lemmas.Bool.{cases_Bool, and_parts, and_from, eqb-true, eq-eqb}
use Rattle.tiger_base.specs.declared.tenancy.PieceState.{PieceState}
use Rattle.slot_plan.specs.declared.params.Params.{Params}
use Rattle.mirror_schedule.specs.Pieces.{Pieces, numbers_of, comes_before, is_same, is_in, with_piece}
use Rattle.mirror_schedule.specs.Sorted.{are_same, with_one}
use Rattle.mirror_schedule.proofs.Ranks.{pieces_same}
use Rattle.cub_rules.specs.declared.store.Store.{Store}
use Rattle.cub_rules.specs.Records.{pieces_with, with_piece_record}
use Rattle.cub_rules.specs.Ticks.{with_each}
use Rattle.cub_changes.proofs.Messages.{with_piece_of}
use Rattle.lists.specs.Elements.{In}
use Rattle.proof_lives.proofs.HoldLaws.{no_both}
use Rattle.lists.proofs.Elements.{chosen, in_filter, from_filter}

-- ---- a piece and its numbers

made : ℕ → ℕ → ℕ → ℕ → ℕ → ℕ → ℕ → PieceState
made slot visit piece instance file first last = record {
  tenancy = record {
    instance = record { 0 = instance };
    file = record { 0 = file };
    slot =
        record { 0 = slot };
    first = first;
    last = last;
  };
  visit = visit;
  piece = piece;
}

is_made : (x : PieceState) → x ≡ made x.tenancy.slot.0 x.visit x.piece x.tenancy.instance.0 x.tenancy.file.0
    x.tenancy.first x.tenancy.last
unfolding made
is_made x = refl

same_numbers : (x y : PieceState) → are_same (numbers_of x) (numbers_of y) ≡ true → x ≡ y
same_numbers x y e =
    let a = and_parts (x.tenancy.slot.0 == y.tenancy.slot.0) _ e in
    let b = and_parts (x.visit == y.visit) _ a.1 in
    let c = and_parts (x.piece == y.piece) _ b.1 in
    let d = and_parts (x.tenancy.instance.0 == y.tenancy.instance.0) _ c.1 in
    let f = and_parts (x.tenancy.file.0 == y.tenancy.file.0) _ d.1 in
    let g = and_parts (x.tenancy.first == y.tenancy.first) _ f.1 in
    let h = and_parts (x.tenancy.last == y.tenancy.last) _ g.1 in
    let e1 : x.tenancy.slot.0 ≡ y.tenancy.slot.0 = eqb-true _ _ a.0 in
    let e2 : x.visit ≡ y.visit = eqb-true _ _ b.0 in
    let e3 : x.piece ≡ y.piece = eqb-true _ _ c.0 in
    let e4 : x.tenancy.instance.0 ≡ y.tenancy.instance.0 = eqb-true _ _ d.0 in
    let e5 : x.tenancy.file.0 ≡ y.tenancy.file.0 = eqb-true _ _ f.0 in
    let e6 : x.tenancy.first ≡ y.tenancy.first = eqb-true _ _ g.0 in
    let e7 : x.tenancy.last ≡ y.tenancy.last = eqb-true _ _ h.0 in
    let made_x = is_made x in
    let made_y = is_made y in
    cc

-- pieces that the test takes for one are one
pub same_piece : (x y : PieceState) → is_same x y ≡ true → x ≡ y
unfolding is_same
same_piece x y e = same_numbers x y e

alike : (ns : List ℕ) → are_same ns ns ≡ true
alike [] = refl
alike (n ∷ ns) = and_from (n == n) (are_same ns ns) (eq-eqb n n refl) (alike ns)

is_itself : (x : PieceState) → is_same x x ≡ true
unfolding is_same
is_itself x = alike (numbers_of x)

-- the test whether a piece is among some tells whether it is an element
pub is_in_there : (x : PieceState) (ys : List PieceState) → In x ys → is_in x ys ≡ true
unfolding is_in
is_in_there x [] i = absurd i
is_in_there x (y ∷ ys) i = ⊎_elim
    (λ (e : x ≡ y). let t : is_same x y ≡ true = subst (λ (z : PieceState). is_same x z ≡ true) e
    (is_itself x) in rw t refl)
    (λ k. ⊎_elim (λ (t : is_same x y ≡ true). rw t refl) (λ (f : is_same x y ≡ false). rw f (is_in_there x ys k))
    (cases_Bool (is_same x y)))
    i

-- what the test finds among some is an element
pub there_is_in : (x : PieceState) (ys : List PieceState) → is_in x ys ≡ true → In x ys
unfolding is_in
there_is_in x [] e = absurd (cc)
there_is_in x (y ∷ ys) e = ⊎_elim
    (λ (t : is_same x y ≡ true). inl (same_piece x y t))
    (λ (f : is_same x y ≡ false). inr
    (there_is_in x ys (subst (λ (b : Bool). (b || list_any (is_same x) ys) ≡ true) f e)))
    (cases_Bool (is_same x y))

-- ---- a list with one piece more

one_more_from : {X : Type 0} (before : X → X → Bool) (x y : X) (ys : List X) → In y (with_one before x ys) → (y ≡ x)
    ⊎ In y ys
one_more_from before x y [] i = ⊎_elim (λ e. inl e) (λ e. absurd e) i
one_more_from {X} before x y (z ∷ zs) i =
    chosen (λ (ls : List X). In y ls → (y ≡ x) ⊎ In y (z ∷ zs)) (before x z) (x ∷ z ∷ zs) _
    (λ _ k. k)
    (λ _. chosen (λ (ls : List X). In y ls → (y ≡ x) ⊎ In y (z ∷ zs)) (before z x) (z ∷ with_one before x zs) (z ∷ zs)
    (λ _ k. ⊎_elim (λ e. inr (inl e)) (λ e. ⊎_elim (λ q. inl q) (λ q. inr (inr q)) (one_more_from before x y zs e)) k)
    (λ _ k. inr k))
    i

-- the elements stay
pub one_more_stays : {X : Type 0} (before : X → X → Bool) (x y : X) (ys : List X) → In y ys
    → In y (with_one before x ys)
one_more_stays before x y [] i = absurd i
one_more_stays {X} before x y (z ∷ zs) i =
    chosen (λ (ls : List X). In y ls) (before x z) (x ∷ z ∷ zs) _
    (λ _. inr i)
    (λ _. chosen (λ (ls : List X). In y ls) (before z x) (z ∷ with_one before x zs) (z ∷ zs)
    (λ _. ⊎_elim (λ e. inl e) (λ e. inr (one_more_stays before x y zs e)) i)
    (λ _. i))

-- what comes neither before an element nor behind it is that element
pub one_more_there : {X : Type 0} (before : X → X → Bool)
    → ((x z : X) → before x z ≡ false → before z x ≡ false → x ≡ z) → (x : X) (ys : List X)
    → In x (with_one before x ys)
one_more_there before same x [] = inl refl
one_more_there {X} before same x (z ∷ zs) =
    chosen (λ (ls : List X). In x ls) (before x z) (x ∷ z ∷ zs) _
    (λ _. inl refl)
    (λ f. chosen (λ (ls : List X). In x ls) (before z x) (z ∷ with_one before x zs) (z ∷ zs)
    (λ _. inr (one_more_there before same x zs))
    (λ g. inl (same x z f g)))

pub with_piece_from : (p : Params) (x y : PieceState) (ys : List PieceState) → In y (with_piece p x ys) → (y ≡ x) ⊎ In y ys
unfolding with_piece
with_piece_from p x y ys i = one_more_from (comes_before p) x y ys i

pub with_piece_stays : (p : Params) (x y : PieceState) (ys : List PieceState) → In y ys → In y (with_piece p x ys)
unfolding with_piece
with_piece_stays p x y ys i = one_more_stays (comes_before p) x y ys i

pub with_piece_there : (p : Params) (x : PieceState) (ys : List PieceState) → In x (with_piece p x ys)
unfolding with_piece
with_piece_there p x ys = one_more_there (comes_before p)
    (λ a b f g. same_piece a b ((pieces_same p).neither a b f g)) x ys

-- ---- the two sets

-- How the sets of k come from those of h. Why tells why a record may enter, Go why one may go, and Asked which pieces
-- were asked for.
pub record Moves (Why Go Asked : PieceState → Type 0) (h k : Store) : Type 0 where
  -- what is kept afterwards was kept, or enters
  pub back : (x : PieceState) → In x k.pieces.items → In x h.pieces.items ⊎ Why x
  -- what was kept is kept, or goes
  pub stays : (x : PieceState) → In x h.pieces.items → In x k.pieces.items ⊎ Go x
  -- if all that is to be asked for was kept, it is
  pub within : ((x : PieceState) → In x h.unasked.items → In x h.pieces.items) → (x : PieceState) → In x k.unasked.items
      → In x k.pieces.items
  -- what is to be asked for was so, or was not kept, if it does not go
  pub unasked_back : (x : PieceState) → In x k.unasked.items → In x h.unasked.items ⊎ (In x h.pieces.items → Go x)
  -- what is to be asked for was so, or enters
  pub unasked_why : (x : PieceState) → In x k.unasked.items → In x h.unasked.items ⊎ Why x
  -- if all that was kept was to be asked for or had been asked for, that stays so
  pub unasked : ((x : PieceState) → In x h.pieces.items → In x h.unasked.items ⊎ Asked x) → (x : PieceState)
      → In x k.pieces.items
      → In x k.unasked.items ⊎ Asked x

module _ (Why Go Asked : PieceState → Type 0) where
  -- both sets stay as they are
  pub moves_same : (h k : Store) → k.pieces ≡ h.pieces → k.unasked ≡ h.unasked → Moves Why Go Asked h k
  moves_same h k e f =
      let pieces_back : (x : PieceState) → In x k.pieces.items
      → In x h.pieces.items = λ x i. subst (λ (s : Pieces). In x s.items) e i in
      let pieces_on : (x : PieceState) → In x h.pieces.items
      → In x k.pieces.items = λ x i. subst (λ (s : Pieces). In x s.items) (sym e) i in
      let back : (x : PieceState) → In x k.unasked.items
      → In x h.unasked.items = λ x i. subst (λ (s : Pieces). In x s.items) f i in
      let on : (x : PieceState) → In x h.unasked.items
      → In x k.unasked.items = λ x i. subst (λ (s : Pieces). In x s.items) (sym f) i in
      record {
        back = λ x i. inl (pieces_back x i);
        stays = λ x i. inl (pieces_on x i);
        within = λ w x i. pieces_on x (w x (back x i));
        unasked_back = λ x i. inl (back x i);
        unasked_why = λ x i. inl (back x i);
        unasked = λ w x i. ⊎_elim (λ k. inl (on x k)) (λ a. inr a) (w x (pieces_back x i));
      }

  -- one change after another
  pub moves_then : (h k l : Store) → Moves Why Go Asked h k → Moves Why Go Asked k l → Moves Why Go Asked h l
  moves_then h k l one two = record {
    back = λ x i. ⊎_elim (λ a. one.back x a) (λ a. inr a) (two.back x i);
    stays = λ x i. ⊎_elim (λ a. two.stays x a) (λ a. inr a) (one.stays x i);
    within = λ w. two.within (one.within w);
    unasked_back = λ x i. ⊎_elim
        (λ a. one.unasked_back x a)
        (λ a. inr (λ t. ⊎_elim (λ q. a q) (λ q. q) (one.stays x t)))
        (two.unasked_back x i);
    unasked_why = λ x i. ⊎_elim (λ a. one.unasked_why x a) (λ a. inr a) (two.unasked_why x i);
    unasked = λ w. two.unasked (one.unasked w);
  }

  -- a record more, if there is none of that piece
  pub moves_more : (x : PieceState) (h : Store) → Why x → is_in x h.pieces.items ≡ false
      → Moves Why Go Asked h (record h { pieces = pieces_with x h.pieces; unasked = pieces_with x h.unasked })
  moves_more x h why new =
      let of_x : (y : PieceState) → y ≡ x → Why y = λ y e. subst Why (sym e) why in
      record {
        back = λ y i. ⊎_elim (λ e. inr (of_x y e)) (λ e. inl e) (with_piece_from h.pieces.params x y h.pieces.items i);
        stays = λ y i. inl (with_piece_stays h.pieces.params x y h.pieces.items i);
        within = λ w y i. ⊎_elim
            (λ (e : y ≡ x). subst (λ (z : PieceState). In z (with_piece h.pieces.params x h.pieces.items)) (sym e)
            (with_piece_there h.pieces.params x h.pieces.items))
            (λ e. with_piece_stays h.pieces.params x y h.pieces.items (w y e))
            (with_piece_from h.unasked.params x y h.unasked.items i);
        unasked_back = λ y i. ⊎_elim
            (λ (e : y ≡ x). inr (λ t. absurd
            (no_both (is_in_there x h.pieces.items (subst (λ (z : PieceState). In z h.pieces.items) e t)) new)))
            (λ e. inl e)
            (with_piece_from h.unasked.params x y h.unasked.items i);
        unasked_why = λ y i. ⊎_elim (λ e. inr (of_x y e)) (λ e. inl e)
            (with_piece_from h.unasked.params x y h.unasked.items i);
        unasked = λ w y i. ⊎_elim
            (λ (e : y ≡ x). inl (subst (λ (z : PieceState). In z (with_piece h.unasked.params x h.unasked.items))
            (sym e) (with_piece_there h.unasked.params x h.unasked.items)))
            (λ e. ⊎_elim (λ q. inl (with_piece_stays h.unasked.params x y h.unasked.items q)) (λ q. inr q) (w y e))
            (with_piece_from h.pieces.params x y h.pieces.items i);
      }

  -- those that pass a test go from both
  pub moves_fewer : (test : PieceState → Bool) (h k : Store)
      → k.pieces.items ≡ filter (λ x. not (test x)) h.pieces.items
      → k.unasked.items ≡ filter (λ x. not (test x)) h.unasked.items → ((x : PieceState) → test x ≡ true → Go x)
      → Moves Why Go Asked h k
  moves_fewer test h k e f go =
      let keep : PieceState → Bool = λ x. not (test x) in
      let from : (x : PieceState) → In x k.pieces.items → In x h.pieces.items
      × (keep x ≡ true) = λ x i. from_filter keep x h.pieces.items
      (subst (λ (ls : List PieceState). In x ls) e i) in
      let on : (x : PieceState) → In x h.pieces.items → keep x ≡ true
      → In x k.pieces.items = λ x i t. subst (λ (ls : List PieceState). In x ls) (sym e)
      (in_filter keep x h.pieces.items i t) in
      let from_unasked : (x : PieceState) → In x k.unasked.items → In x h.unasked.items
      × (keep x ≡ true) = λ x i. from_filter keep x h.unasked.items
      (subst (λ (ls : List PieceState). In x ls) f i) in
      let on_unasked : (x : PieceState) → In x h.unasked.items → keep x ≡ true
      → In x k.unasked.items = λ x i t. subst (λ (ls : List PieceState). In x ls) (sym f)
      (in_filter keep x h.unasked.items i t) in
      record {
        back = λ x i. inl (from x i).0;
        stays = λ x i. ⊎_elim (λ (t : test x ≡ true). inr (go x t)) (λ (t : test x ≡ false). inl (on x i (ap not t)))
            (cases_Bool (test x));
        within = λ w x i. let r = from_unasked x i in on x (w x r.0) r.1;
        unasked_back = λ x i. inl (from_unasked x i).0;
        unasked_why = λ x i. inl (from_unasked x i).0;
        unasked = λ w x i. let r = from x i in ⊎_elim (λ q. inl (on_unasked x q r.1)) (λ q. inr q) (w x r.0);
      }

  -- those that pass a test are asked for
  pub moves_asked : (test : PieceState → Bool) (h k : Store) → k.pieces ≡ h.pieces
      → k.unasked.items ≡ filter (λ x. not (test x)) h.unasked.items
      → ((x : PieceState) → In x h.unasked.items → test x ≡ true → Asked x) → Moves Why Go Asked h k
  moves_asked test h k e f asked =
      let keep : PieceState → Bool = λ x. not (test x) in
      let back : (x : PieceState) → In x k.pieces.items
      → In x h.pieces.items = λ x i. subst (λ (s : Pieces). In x s.items) e i in
      let on : (x : PieceState) → In x h.pieces.items
      → In x k.pieces.items = λ x i. subst (λ (s : Pieces). In x s.items) (sym e) i in
      let from : (x : PieceState) → In x k.unasked.items
      → In x h.unasked.items = λ x i.
      (from_filter keep x h.unasked.items (subst (λ (ls : List PieceState). In x ls) f i)).0 in
      record {
        back = λ x i. inl (back x i);
        stays = λ x i. inl (on x i);
        within = λ w x i. on x (w x (from x i));
        unasked_back = λ x i. inl (from x i);
        unasked_why = λ x i. inl (from x i);
        unasked = λ w x i. ⊎_elim
            (λ q. ⊎_elim
            (λ (t : test x ≡ true). inr (asked x q t))
            (λ (t : test x ≡ false). inl (subst (λ (ls : List PieceState). In x ls) (sym f)
            (in_filter keep x h.unasked.items q (ap not t))))
            (cases_Bool (test x)))
            (λ q. inr q)
            (w x (back x i));
      }

  -- a piece record is added, if there is none of that piece
  pub moves_with : (x : PieceState) (h : Store) → Why x → Moves Why Go Asked h (with_piece_record x h)
  moves_with x h why =
      with_piece_of (λ (k : Store). Moves Why Go Asked h k) x h (λ _. moves_same h h refl refl) (λ new. moves_more x h why new)

  -- some records are added, one after another
  pub moves_with_each : (xs : List PieceState) (h : Store) → ((x : PieceState) → In x xs → Why x)
      → Moves Why Go Asked h (with_each with_piece_record xs h)
  moves_with_each [] h why = moves_same h h refl refl
  moves_with_each (x ∷ xs) h why =
      moves_then h (with_piece_record x h) (with_each with_piece_record xs (with_piece_record x h))
      (moves_with x h (why x (inl refl)))
      (moves_with_each xs (with_piece_record x h) (λ y i. why y (inr i)))

-- what is added stands then
pub with_there : (x : PieceState) (h : Store) → In x (with_piece_record x h).pieces.items
with_there x h =
    with_piece_of (λ (k : Store). In x k.pieces.items) x h (λ t. there_is_in x h.pieces.items t)
    (λ _. with_piece_there h.pieces.params x h.pieces.items)

with_each_stays : (x : PieceState) (xs : List PieceState) (h : Store) → In x h.pieces.items
    → In x (with_each with_piece_record xs h).pieces.items
with_each_stays x xs h i =
    ⊎_elim (λ k. k) (λ k. absurd k) ((moves_with_each (λ y. Unit {0}) (λ y. ⊥) (λ y. ⊥) xs h (λ y k. tt)).stays x i)

-- what is added with others stands then
pub with_each_there : (x : PieceState) (xs : List PieceState) (h : Store) → In x xs
    → In x (with_each with_piece_record xs h).pieces.items
with_each_there x [] h i = absurd i
with_each_there x (y ∷ ys) h i = ⊎_elim
    (λ (e : x ≡ y). with_each_stays x ys (with_piece_record y h)
    (subst (λ (z : PieceState). In z (with_piece_record y h).pieces.items) (sym e) (with_there y h)))
    (λ k. with_each_there x ys (with_piece_record y h) k)
    i
