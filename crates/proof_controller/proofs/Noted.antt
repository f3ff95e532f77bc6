-- What the journal keeps of an event: all of it has the event's stamp.
use Rattle.std.proofs.Common.{◌≡◌, ℕ, suc, ◌+◌, List, [], ◌∷◌, ◌++◌, length, Bool, true, false, cond, ◌&&◌, ◌||◌, refl, ap, ◌∙◌}
use Rattle.std.specs.Prelude.{filter, map}
use Rattle.std.specs.List.{list_any, flat_map, AllByRecursion}
use Rattle.std.proofs.lemmas.List.{length-append}
use Rattle.std.proofs.lemmas.List.Elements.{filter-append}
use Rattle.tiger_base.specs.declared.number.Stamp.{Stamp}
use Rattle.tiger_base.specs.declared.message.Msg.{Msg}
use Rattle.tiger_base.specs.Notes.{noted}
use Rattle.node_kit.specs.declared.journal.What.{What}
use Rattle.node_kit.specs.declared.journal.Entry.{Entry}
use Rattle.node_kit.specs.declared.outbox.Out.{Out}
use Rattle.node_kit.specs.Steps.{what_of, entry_of}

-- whether an output says something that passes
abbrev pub any_out : (What → Bool) → List (Out Msg) → Bool
any_out test outs = list_any (λ o. test (what_of noted o)) outs

-- how many do
abbrev pub count_out : (What → Bool) → List (Out Msg) → ℕ
count_out test outs = length (filter (λ o. test (what_of noted o)) outs)

abbrev pub flat_out : {X : Type 0} → (What → List X) → List (Out Msg) → List X
flat_out f outs = flat_map (λ o. f (what_of noted o)) outs

-- what passes in entries of one stamp
pub any_stamped : (stamp : Stamp) (when : Stamp → Bool) (test : What → Bool) (outs : List (Out Msg))
    → list_any (λ (e : Entry). when e.stamp && test e.what) (map (entry_of noted stamp) outs) ≡ (when stamp && any_out test outs)
any_stamped stamp when test [] = and_false (when stamp)
  where
    and_false : (b : Bool) → false ≡ (b && false)
    and_false true = refl
    and_false false = refl
any_stamped stamp when test (o ∷ outs) = both (when stamp) (test (what_of noted o)) _ _ (any_stamped stamp when test outs)
  where
    both : (b c d e : Bool) → d ≡ (b && e) → ((b && c) || d) ≡ (b && (c || e))
    both true c d e h = ap (λ x. c || x) h
    both false c d e h = h

pub any_noted : (stamp : Stamp) (test : What → Bool) (outs : List (Out Msg))
    → list_any (λ (e : Entry). test e.what) (map (entry_of noted stamp) outs) ≡ any_out test outs
any_noted stamp test [] = refl
any_noted stamp test (o ∷ outs) = ap (λ x. test (what_of noted o) || x) (any_noted stamp test outs)

one_more : {A B : Type 0} (b : Bool) (x : A) (y : B) (xs : List A) (ys : List B) → length xs ≡ length ys → length (cond b (x ∷ xs) xs) ≡ length (cond b (y ∷ ys) ys)
one_more true x y xs ys e = ap (λ n. suc n) e
one_more false x y xs ys e = e

pub count_noted : (stamp : Stamp) (test : What → Bool) (outs : List (Out Msg))
    → length (filter (λ (e : Entry). test e.what) (map (entry_of noted stamp) outs)) ≡ count_out test outs
count_noted stamp test [] = refl
count_noted stamp test (o ∷ outs) =
    one_more (test (what_of noted o)) (entry_of noted stamp o) o (filter (λ (e : Entry). test e.what) (map (entry_of noted stamp) outs)) (filter (λ (p : Out Msg). test (what_of noted p)) outs) (count_noted stamp test outs)

pub flat_stamped : {X : Type 0} (stamp : Stamp) (f : Entry → List X) (g : What → List X) → ((w : What) → f (record { stamp = stamp; what = w }) ≡ g w)
    → (outs : List (Out Msg)) → flat_map f (map (entry_of noted stamp) outs) ≡ flat_out g outs
flat_stamped stamp f g same [] = refl
flat_stamped stamp f g same (o ∷ outs) =
    ap (λ xs. xs ++ flat_map f (map (entry_of noted stamp) outs)) (same (what_of noted o)) ∙ ap (λ xs. g (what_of noted o) ++ xs) (flat_stamped stamp f g same outs)

pub stamped : (P : Entry → Type 0) (stamp : Stamp) → ((w : What) → P (record { stamp = stamp; what = w })) → (outs : List (Out Msg))
    → AllByRecursion P (map (entry_of noted stamp) outs)
stamped P stamp h [] = tt
stamped P stamp h (o ∷ outs) = (h (what_of noted o), stamped P stamp h outs)

pub count-append : {X : Type 0} (test : X → Bool) (xs ys : List X) → length (filter test (xs ++ ys)) ≡ length (filter test xs) + length (filter test ys)
count-append test xs ys = ap (λ zs. length zs) (filter-append test xs ys) ∙ length-append (filter test xs) (filter test ys)
