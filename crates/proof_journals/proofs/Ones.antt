-- Lists of which at most one element passes a test, and lists of which a part alone has what passes.
use Rattle.std.proofs.Common.{◌≡◌, List, [], ◌∷◌, ◌++◌, map, Bool, true, false, refl, sym, ap, subst, ◌∙◌, ⊎_elim, inl, inr}
use Rattle.std.proofs.lemmas.Bool.{true≢false}
use Rattle.cub_changes.proofs.Order.{AreNone, IsOnlyIn}
use Rattle.lists.specs.Elements.{In}
use Rattle.lists.proofs.Elements.{in_left, in_right, in_cases, from_map}
use Rattle.lists.proofs.Each.{all_in}

-- none passes, and at most one does
abbrev pub IsNone : {X : Type 0} → (X → Bool) → List X → Type 0
IsNone {X} test xs = (x : X) → In x xs → test x ≡ true → ⊥

abbrev pub IsOne : {X : Type 0} → (X → Bool) → List X → Type 0
IsOne test [] = Unit {0}
IsOne test (x ∷ xs) = (test x ≡ true → IsNone test xs) × IsOne test xs

pub none_one : {X : Type 0} (test : X → Bool) (xs : List X) → IsNone test xs → IsOne test xs
none_one test [] n = tt
none_one test (x ∷ xs) n = ((λ t. λ y i s. n y (inr i) s), none_one test xs (λ y i s. n y (inr i) s))

pub one_append : {X : Type 0} (test : X → Bool) (xs ys : List X) → IsOne test xs → IsOne test ys
    → ((x y : X) → In x xs → In y ys → test x ≡ true → test y ≡ true → ⊥) → IsOne test (xs ++ ys)
one_append test [] ys one two apart = two
one_append test (x ∷ xs) ys one two apart = (
  (λ t. λ y i s. ⊎_elim (λ k. one.0 t y k s) (λ k. apart x y (inl refl) k t s) (in_cases y xs ys i)),
  one_append test xs ys one.1 two (λ a b i j t s. apart a b (inr i) j t s),
)

pub one_front : {X : Type 0} (test : X → Bool) (xs ys : List X) → IsOne test (xs ++ ys) → IsOne test xs
one_front test [] ys one = tt
one_front test (x ∷ xs) ys one = ((λ t. λ y i s. one.0 t y (in_left y xs ys i) s), one_front test xs ys one.1)

pub one_map : {X Y : Type 0} (f : X → Y) (test : Y → Bool) (xs : List X) → IsOne (λ x. test (f x)) xs → IsOne test (map f xs)
one_map f test [] one = tt
one_map f test (x ∷ xs) one = (
  (λ t. λ y i s. let r = from_map f y xs i in one.0 t r.0 r.1 (ap test (sym r.2) ∙ s)),
  one_map f test xs one.1,
)

-- ---- a part that alone has what passes

pub none_by : {X : Type 0} (test : X → Bool) (xs : List X) → AreNone test xs → IsNone test xs
none_by {X} test xs all x i t = true≢false (sym t ∙ all_in (λ (y : X). test y ≡ false) x xs all i)

pub in_part : {X : Type 0} (test : X → Bool) (part all : List X) → IsOnlyIn test part all → (x : X) → In x all
    → test x ≡ true → In x part
in_part {X} test part all o x i t = ⊎_elim
    (λ k. absurd (none_by test o.before o.none_before x k t))
    (λ k. ⊎_elim (λ j. j) (λ j. absurd (none_by test o.behind o.none_behind x j t)) (in_cases x part o.behind k))
    (in_cases x o.before (part ++ o.behind) (subst (λ (l : List X). In x l) (sym o.is) i))

pub of_part : {X : Type 0} (test : X → Bool) (part all : List X) → IsOnlyIn test part all → (x : X) → In x part
    → In x all
of_part {X} test part all o x i =
    subst (λ (l : List X). In x l) o.is (in_right x o.before (part ++ o.behind) (in_left x part o.behind i))

-- if what passes a narrower test stands once in the part, it does in the whole
pub one_of_part : {X : Type 0} (test narrow : X → Bool) → ((x : X) → narrow x ≡ true → test x ≡ true)
    → (part all : List X) → IsOnlyIn test part all → IsOne narrow part → IsOne narrow all
one_of_part {X} test narrow less part all o one =
    let before : IsNone narrow o.before = λ x i t. none_by test o.before o.none_before x i (less x t) in
    let behind : IsNone narrow o.behind = λ x i t. none_by test o.behind o.none_behind x i (less x t) in
    subst (λ (l : List X). IsOne narrow l) o.is
    (one_append narrow o.before (part ++ o.behind) (none_one narrow o.before before)
    (one_append narrow part o.behind one (none_one narrow o.behind behind) (λ x y i k t s. behind y k s))
    (λ x y i k t s. before x i t))
