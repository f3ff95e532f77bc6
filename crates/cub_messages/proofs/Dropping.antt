-- What becomes of a view as the lines of an instance are taken out of it, one after another.
use Rattle.std.proofs.Common.{◌≡◌, ◌∙◌, ◌++◌, ◌<◌, Bool, true, false, cond, List, [], ◌∷◌, length, Option, Some, None, option_map, find, filter, map, not, refl, sym, ap, subst, arith, append_assoc}
use Rattle.std.proofs.lemmas.List.{append-nil}
use Rattle.tiger_base.specs.declared.number.Instance.{Instance}
use Rattle.tiger_base.specs.declared.tenancy.Rec.{Rec}
use Rattle.tiger_base.specs.declared.message.Msg.{Msg}
use Rattle.slot_plan.specs.declared.params.Params.{Params}
use Rattle.slot_plan.specs.Keys.{IsKey, is_earlier}
use Rattle.node_kit.specs.declared.outbox.Out.{Out}
use Rattle.node_kit.specs.declared.outbox.Out.TheVariants as out
use Rattle.node_kit.specs.declared.journal.What.TheVariants as what
use Rattle.partial_view.specs.declared.line.Line.{Line}
use Rattle.partial_view.specs.Lines.{key_of, visit_of, is_of}
use Rattle.partial_view.specs.Views.{Seen, IsWalk, first_of, without, without_instance}
use Rattle.partial_view.proofs.Calls.{record_of}
use Rattle.partial_view.proofs.Laws.{without-front, without-here}
use Rattle.cub_rules.specs.Records.{dropped}
use Rattle.cub_messages.proofs.Standing.{found_has}

-- the first line of an instance, and the others
record IsFirst (p : Params) (v : Instance) (xs : List Line) (x : Line) : Type 0 where
  key : IsKey p (key_of x)
  first : filter (is_of v) xs ≡ x ∷ filter (is_of v) (without (key_of x) xs)
  others : filter (λ y. not (is_of v y)) (without (key_of x) xs) ≡ filter (λ y. not (is_of v y)) xs
  fewer : length (without (key_of x) xs) < length xs

module _ (p : Params) (v : Instance) where
  first_here : (x : Line) (xs : List Line) → is_of v x ≡ true → IsWalk p (x ∷ xs) → IsFirst p v (x ∷ xs) x
  first_here x xs is walk =
      let gone = without-here p x xs walk.1 in
      record { key = walk.0; first = rw (gone, is) refl; others = rw (gone, is) refl; fewer = rw gone (omega arith) }

  first_later : (x y : Line) (xs : List Line) → is_of v x ≡ false → is_earlier p (key_of x) (key_of y) ≡ true → IsFirst p v xs y → IsFirst p v (x ∷ xs) y
  first_later x y xs is earlier r =
      let gone : without (key_of y) (x ∷ xs) ≡ x ∷ without (key_of y) xs = without-front p (key_of y) (x ∷ []) xs (earlier, tt) in
      record {
        key = r.key;
        first = rw (gone, is) r.first;
        others = rw (gone, is) (ap (λ (ys : List Line). x ∷ ys) r.others);
        fewer = rw gone (omega (arith, r.fewer));
      }

  first_in : (xs : List Line) (y : Line) → IsWalk p xs → find (is_of v) xs ≡ Some y → IsFirst p v xs y
  first_in [] y walk e = absurd (cc)
  first_in (x ∷ xs) y walk e = cases (is_of v x) refl e (first_in xs y walk.2)
    where
      cases : (t : Bool) → is_of v x ≡ t → cond t (Some x) (find (is_of v) xs) ≡ Some y → (find (is_of v) xs ≡ Some y → IsFirst p v xs y) → IsFirst p v (x ∷ xs) y
      cases true is e rest =
          let same : x ≡ y = cc in
          subst (λ (z : Line). IsFirst p v (x ∷ xs) z) same (first_here x xs is walk)
      cases false is e rest =
          first_later x y xs is (found_has (λ z. is_earlier p (key_of x) (key_of z) ≡ true) (is_of v) xs y walk.1 e) (rest e)

-- no line is of the instance
module _ (v : Instance) where
  none_in : (xs : List Line) → find (is_of v) xs ≡ None → (filter (is_of v) xs ≡ []) × (filter (λ y. not (is_of v y)) xs ≡ xs)
  none_in [] e = (refl, refl)
  none_in (x ∷ xs) e = cases (is_of v x) refl e (none_in xs)
    where
      cases : (t : Bool) → is_of v x ≡ t → cond t (Some x) (find (is_of v) xs) ≡ None → (find (is_of v) xs ≡ None → (filter (is_of v) xs ≡ []) × (filter (λ y. not (is_of v y)) xs ≡ xs))
          → (filter (is_of v) (x ∷ xs) ≡ []) × (filter (λ y. not (is_of v y)) (x ∷ xs) ≡ x ∷ xs)
      cases true is e rest = absurd (cc)
      cases false is e rest = let r = rest e in (rw is r.0, rw is (ap (λ (ys : List Line). x ∷ ys) r.1))

-- some lines of an instance are taken out, and written down
pub record Dropping (v : Instance) (before : Seen) (outs_before : List (Out Msg)) (now : Seen) (outs_now : List (Out Msg)) : Type 0 where
  pub params : now.params ≡ before.params
  pub outs : outs_now ++ map dropped (filter (is_of v) now.lines) ≡ outs_before ++ map dropped (filter (is_of v) before.lines)
  pub left : filter (λ y. not (is_of v y)) now.lines ≡ filter (λ y. not (is_of v y)) before.lines

-- a record that is the first one of an instance in a view
record IsFirstRec (v : Instance) (now : Seen) (r : Rec) : Type 0 where
  line : Line
  is : line.rec ≡ r
  first : IsFirst now.params v now.lines line

first_rec : (v : Instance) (now : Seen) (r : Rec) → IsWalk now.params now.lines → Some r ≡ option_map (λ x. x.rec) (first_of v now.lines) → IsFirstRec v now r
unfolding first_of
first_rec v now r walk e = by_line (find (is_of v) now.lines) refl e
  where
    by_line : (o : Option Line) → find (is_of v) now.lines ≡ o → Some r ≡ option_map (λ x. x.rec) o → IsFirstRec v now r
    by_line None f e = absurd (cc)
    by_line (Some x) f e = let same : x.rec ≡ r = cc in record { line = x; is = same; first = first_in now.params v now.lines x walk f }

none_of : (v : Instance) (xs : List Line) → None ≡ option_map (λ x. x.rec) (first_of v xs) → (filter (is_of v) xs ≡ []) × (filter (λ y. not (is_of v y)) xs ≡ xs)
unfolding first_of
none_of v xs e = by_line (find (is_of v) xs) refl e
  where
    by_line : (o : Option Line) → find (is_of v) xs ≡ o → None ≡ option_map (λ x. x.rec) o → (filter (is_of v) xs ≡ []) × (filter (λ y. not (is_of v y)) xs ≡ xs)
    by_line None f e = none_in v xs f
    by_line (Some x) f e = absurd (cc)

-- so there is no first one
pub none_left : (v : Instance) (xs : List Line) → None ≡ option_map (λ x. x.rec) (first_of v xs) → first_of v xs ≡ None
none_left v xs e = by_line (first_of v xs) e
  where
    by_line : (o : Option Line) → None ≡ option_map (λ x. x.rec) o → o ≡ None
    by_line None e = refl
    by_line (Some x) e = absurd (cc)

-- nothing is taken out yet
pub dropping : (v : Instance) (s : Seen) (outs : List (Out Msg)) → Dropping v s outs s outs
dropping v s outs = record { params = refl; outs = refl; left = refl }

module _ {v : Instance} {before : Seen} {outs_before : List (Out Msg)} {now : Seen} {outs_now : List (Out Msg)} (h : Dropping v before outs_before now outs_now) where
  -- the first line that is left is taken out
  module _ (r : Rec) (first : Some r ≡ option_map (λ x. x.rec) (first_of v now.lines)) (walk : IsWalk now.params now.lines) where
    here : IsFirstRec v now r
    here = first_rec v now r walk first

    pub drop_key : IsKey now.params (visit_of r)
    drop_key = subst (λ (s : Rec). IsKey now.params (visit_of s)) here.is here.first.key

    module _ {after : Seen} {outs_after : List (Out Msg)} (left : after ≡ record now { lines = without (visit_of r) now.lines }) (outs : outs_after ≡ outs_now ++ out.Act (what.Dropped r) ∷ []) where
      lines_are : after.lines ≡ without (key_of here.line) now.lines
      lines_are = ap (λ (s : Seen). s.lines) left ∙ ap (λ (s : Rec). without (visit_of s) now.lines) (sym here.is)

      params_are : after.params ≡ now.params
      params_are = ap (λ (s : Seen). s.params) left

      pub dropped_one : Dropping v before outs_before after outs_after
      dropped_one =
          let rest : List (Out Msg) = map dropped (filter (is_of v) (without (key_of here.line) now.lines)) in
          let put : outs_after ≡ outs_now ++ dropped here.line ∷ [] = outs ∙ ap (λ (s : Rec). outs_now ++ out.Act (what.Dropped s) ∷ []) (sym here.is) in
          record {
            params = params_are ∙ h.params;
            outs = rw (put, lines_are) (append_assoc outs_now (dropped here.line ∷ []) rest ∙ ap (λ (ys : List Line). outs_now ++ map dropped ys) (sym here.first.first) ∙ h.outs);
            left = rw lines_are (here.first.others ∙ h.left);
          }

      pub fewer_left : length after.lines < length now.lines
      fewer_left = rw lines_are here.first.fewer

  -- none is left
  module _ (none : None ≡ option_map (λ x. x.rec) (first_of v now.lines)) where
    pub dropped_outs : outs_now ≡ outs_before ++ map dropped (filter (is_of v) before.lines)
    dropped_outs = sym (append-nil outs_now) ∙ ap (λ (ys : List Line). outs_now ++ map dropped ys) (sym (none_of v now.lines none).0) ∙ h.outs

    pub dropped_left : now ≡ record before { lines = without_instance v before.lines }
    unfolding without_instance
    dropped_left =
        ap (λ (p : Params). record_of p now.lines) h.params ∙ ap (λ (ys : List Line). record_of before.params ys) (sym (none_of v now.lines none).1 ∙ h.left)
