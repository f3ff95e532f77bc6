-- Lists with one element more at their end, and what they are as items.
use Rattle.std.proofs.Common.{◌≡◌, ℕ, zero, suc, ◌+◌, ◌-◌, ◌<◌, ◌≤◌, Bool, true, false, cond, List, [], ◌∷◌, ◌++◌, Option, Some, None, refl, sym, ap, ◌∙◌}
use Rattle.std.proofs.Common.{arith, eqb, length, map, replicate, append_assoc, append-nil, length-append}
use lib.Dec.{eqb-suc-suc, eqb-suc-zero, eqb-zero-suc}
use Rattle.std.specs.List.{AllByRecursion}
use Rattle.std.specs.Prelude.{slice_index}
use Rattle.std.proofs.lemmas.Bool.Decides.{nat_tests}
use Rattle.std.proofs.lemmas.List.{map-append, length-replicate}
use Rattle.node_kit.specs.Courses.{CutsDeath, ReturnsLater}
use Rattle.node_kit.specs.declared.journal.Entry.{Entry}
use Rattle.audit_text.specs.declared.item.Item.{Item}
use Rattle.audit_text.specs.declared.item.Item.TheVariants as item
use Rattle.audit_text.specs.Texts.{row_at, death_items, entry_items, node_items}
use Rattle.audit_read.specs.Drafts.{padded, padded_with}
use Rattle.audit_read.specs.Writable.{IsDeath, ReturnsIn}

pub all_append : {X : Type 0} (P : X → Type 0) (xs ys : List X) → AllByRecursion P xs → AllByRecursion P ys → AllByRecursion P (xs ++ ys)
all_append P [] ys f g = g
all_append P (x ∷ xs) ys f g = (f.0, all_append P xs ys f.1 g)

pub all_push : {X : Type 0} (P : X → Type 0) (xs : List X) (x : X) → AllByRecursion P xs → P x → AllByRecursion P (xs ++ x ∷ [])
all_push P xs x f p = all_append P xs (x ∷ []) f (p, tt)

pub all_front : {X : Type 0} (P : X → Type 0) (xs ys : List X) → AllByRecursion P (xs ++ ys) → AllByRecursion P xs
all_front P [] ys f = tt
all_front P (x ∷ xs) ys f = (f.0, all_front P xs ys f.1)

pub none_from : {X : Type 0} (xs : List X) → length xs ≡ 0 → xs ≡ []
none_from [] e = refl
none_from (x ∷ xs) e = absurd (omega (arith, e))

pub length_push : {X : Type 0} (xs : List X) (x : X) → length (xs ++ x ∷ []) ≡ length xs + 1
length_push xs x = length-append xs (x ∷ [])

-- ---- lists behind one another

pub spread : {X : Type 0} (a b c d e f g : List X)
    → a ++ b ++ c ++ d ++ e ++ f ++ g ≡ a ++ (b ++ (c ++ (d ++ (e ++ (f ++ g)))))
spread a b c d e f g =
    append_assoc (a ++ b ++ c ++ d ++ e) f g ∙ append_assoc (a ++ b ++ c ++ d) e (f ++ g)
    ∙ append_assoc (a ++ b ++ c) d (e ++ (f ++ g)) ∙ append_assoc (a ++ b) c (d ++ (e ++ (f ++ g)))
    ∙ append_assoc a b (c ++ (d ++ (e ++ (f ++ g))))

-- one item more, that a map gives
pub mapped : {X : Type 0} (f : X → Item) (a : List Item) (xs : List X) (x : X) → a ++ map f (xs ++ x ∷ []) ≡ (a ++ map f xs) ++ f x ∷ []
mapped f a xs x = ap (λ (q : List Item). a ++ q) (map-append f xs (x ∷ [])) ∙ sym (append_assoc a (map f xs) (f x ∷ []))

-- and nothing behind it
pub before_nothing : (xs ys : List Item) (x : Item) → ys ≡ xs ++ x ∷ [] → ys ++ [] ≡ (xs ++ []) ++ x ∷ []
before_nothing xs ys x e = append-nil ys ∙ e ∙ ap (λ (q : List Item). q ++ x ∷ []) (sym (append-nil xs))

-- ---- rows

same_number : (c : ℕ) → c ≡ c + 0
same_number c = omega arith

shifted : (c n : ℕ) → c + 1 + n ≡ c + suc n
shifted c n = omega arith

pub padded_length : (row : List (Option ℕ)) (c : ℕ) → length row ≤ c → length (padded row c) ≡ c
padded_length row c le =
    let nothing : List (Option ℕ) = replicate (c - length row) None in
    let made : length nothing ≡ c - length row = length-replicate (c - length row) None in
    omega (arith, le, length-append row nothing, made)

pub padded_with_length : (row : List (Option ℕ)) (c : ℕ) (value : Option ℕ) → length row ≤ c
    → length (padded_with row c value) ≡ c + 1
padded_with_length row c value le =
    omega (arith, length_push (padded row c) value, padded_length row c le)

-- behind its end a row says what it says of nobody
says_nothing : (m n : ℕ) → row_at (replicate m None) n ≡ None
says_nothing zero n = refl
says_nothing (suc m) zero = refl
says_nothing (suc m) (suc n) = says_nothing m n

pub padded_at : (row : List (Option ℕ)) (c n : ℕ) → row_at (padded row c) n ≡ row_at row n
padded_at row c n = behind row (c - length row) n where
  behind : (row : List (Option ℕ)) (m n : ℕ) → row_at (row ++ replicate m None) n ≡ row_at row n
  behind [] m n = says_nothing m n
  behind (o ∷ row) m zero = refl
  behind (o ∷ row) m (suc n) = behind row m n

-- what a row says with one element more
push_at : (row : List (Option ℕ)) (value : Option ℕ) (n : ℕ)
    → row_at (row ++ value ∷ []) n ≡ cond (eqb n (length row)) value (row_at row n)
push_at [] value zero = refl
push_at [] value (suc n) = rw (eqb-suc-zero n) refl
push_at (o ∷ row) value zero = rw (eqb-zero-suc (length row)) refl
push_at (o ∷ row) value (suc n) =
    push_at row value n ∙ ap (λ (t : Bool). cond t value (row_at row n)) (sym (eqb-suc-suc n (length row)))

pub padded_with_at : (row : List (Option ℕ)) (c : ℕ) (value : Option ℕ) (n : ℕ) → length row ≤ c
    → row_at (padded_with row c value) n ≡ cond (eqb n c) value (row_at row n)
padded_with_at row c value n le =
    push_at (padded row c) value n
    ∙ ap (λ (k : ℕ). cond (eqb n k) value (row_at (padded row c) n)) (padded_length row c le)
    ∙ ap (λ (o : Option ℕ). cond (eqb n c) value o) (padded_at row c n)

-- ---- deaths

deaths-append : (cuts backs : List (Option ℕ)) (c : ℕ) (xs ys : List (Option ℕ))
    → death_items cuts backs c (xs ++ ys) ≡ death_items cuts backs c xs ++ death_items cuts backs (c + length xs) ys
deaths-append cuts backs c [] ys = ap (λ (n : ℕ). death_items cuts backs n ys) (same_number c)
deaths-append cuts backs c (None ∷ xs) ys =
    deaths-append cuts backs (c + 1) xs ys
    ∙ ap (λ (n : ℕ). death_items cuts backs (c + 1) xs ++ death_items cuts backs n ys) (shifted c (length xs))
deaths-append cuts backs c (Some b ∷ xs) ys =
    ap (λ (q : List Item). item.Death (record { 0 = c }) b (row_at cuts c) (row_at backs c) ∷ q)
    (deaths-append cuts backs (c + 1) xs ys
    ∙ ap (λ (n : ℕ). death_items cuts backs (c + 1) xs ++ death_items cuts backs n ys) (shifted c (length xs)))

living : (cuts backs : List (Option ℕ)) (c n : ℕ) → death_items cuts backs c (replicate n None) ≡ []
living cuts backs c zero = refl
living cuts backs c (suc n) = living cuts backs (c + 1) n

-- rows that say the same of the cubs that are told of
same_dying : (cuts backs more late : List (Option ℕ)) (c : ℕ) (ds : List (Option ℕ))
    → ((n : ℕ) → n < c + length ds → row_at more n ≡ row_at cuts n)
    → ((n : ℕ) → n < c + length ds → row_at late n ≡ row_at backs n)
    → death_items more late c ds ≡ death_items cuts backs c ds
same_dying cuts backs more late c [] f g = refl
same_dying cuts backs more late c (None ∷ ds) f g =
    same_dying cuts backs more late (c + 1) ds (λ n low. f n (omega (arith, low))) (λ n low. g n (omega (arith, low)))
same_dying cuts backs more late c (Some b ∷ ds) f g =
    ap (λ (o : Option ℕ). item.Death (record { 0 = c }) b o (row_at late c) ∷ death_items more late (c + 1) ds) (f c (omega arith))
    ∙ ap (λ (o : Option ℕ). item.Death (record { 0 = c }) b (row_at cuts c) o ∷ death_items more late (c + 1) ds) (g c (omega arith))
    ∙ ap (λ (q : List Item). item.Death (record { 0 = c }) b (row_at cuts c) (row_at backs c) ∷ q)
    (same_dying cuts backs more late (c + 1) ds (λ n low. f n (omega (arith, low))) (λ n low. g n (omega (arith, low))))

padded_deaths : (cuts backs ds : List (Option ℕ)) (c : ℕ) → death_items cuts backs 0 (padded ds c) ≡ death_items cuts backs 0 ds
padded_deaths cuts backs ds c =
    deaths-append cuts backs 0 ds (replicate (c - length ds) None)
    ∙ ap (λ (q : List Item). death_items cuts backs 0 ds ++ q) (living cuts backs (0 + length ds) (c - length ds))
    ∙ append-nil (death_items cuts backs 0 ds)

-- who is not told of has no line
pub padded_items : (cuts backs ds : List (Option ℕ)) (c : ℕ)
    → death_items (padded cuts c) (padded backs c) 0 (padded ds c) ≡ death_items cuts backs 0 ds
padded_items cuts backs ds c =
    padded_deaths (padded cuts c) (padded backs c) ds c
    ∙ same_dying cuts backs (padded cuts c) (padded backs c) 0 ds (λ n low. padded_at cuts c n) (λ n low. padded_at backs c n)

-- what a row says of cubs before the one that is told of
below_at : (row : List (Option ℕ)) (c : ℕ) (value : Option ℕ) (n : ℕ) → length row ≤ c → n < c
    → row_at (padded_with row c value) n ≡ row_at row n
below_at row c value n le low =
    let other : eqb n c ≡ false = grind (arith, nat_tests, low) in
    padded_with_at row c value n le ∙ ap (λ (t : Bool). cond t value (row_at row n)) other

last_at : (row : List (Option ℕ)) (c : ℕ) (value : Option ℕ) → length row ≤ c → row_at (padded_with row c value) c ≡ value
last_at row c value le =
    let same : eqb c c ≡ true = grind (arith, nat_tests) in
    padded_with_at row c value c le ∙ ap (λ (t : Bool). cond t value (row_at row c)) same

-- so a death more is a line more
pub death_push : (cuts backs ds : List (Option ℕ)) (c b : ℕ) (left back : Option ℕ)
    → length cuts ≤ c → length backs ≤ c → length ds ≤ c
    → death_items (padded_with cuts c left) (padded_with backs c back) 0 (padded_with ds c (Some b))
    ≡ death_items cuts backs 0 ds ++ item.Death (record { 0 = c }) b left back ∷ []
death_push cuts backs ds c b left back lc lb le =
    let more : List (Option ℕ) = padded_with cuts c left in
    let late : List (Option ℕ) = padded_with backs c back in
    let here : 0 + length (padded ds c) ≡ c = omega (arith, padded_length ds c le) in
    deaths-append more late 0 (padded ds c) (Some b ∷ [])
    ∙ ap (λ (n : ℕ). death_items more late 0 (padded ds c) ++ death_items more late n (Some b ∷ [])) here
    ∙ ap (λ (o : Option ℕ). death_items more late 0 (padded ds c) ++ item.Death (record { 0 = c }) b o (row_at late c) ∷ []) (last_at cuts c left lc)
    ∙ ap (λ (o : Option ℕ). death_items more late 0 (padded ds c) ++ item.Death (record { 0 = c }) b left o ∷ []) (last_at backs c back lb)
    ∙ ap (λ (q : List Item). q ++ item.Death (record { 0 = c }) b left back ∷ [])
    (padded_deaths more late ds c
    ∙ same_dying cuts backs more late 0 ds (λ n low. below_at cuts c left n lc (omega (arith, low, le))) (λ n low. below_at backs c back n lb (omega (arith, low, le))))

none_die : (beats n : ℕ) → AllByRecursion (IsDeath beats) (replicate n None)
none_die beats zero = tt
none_die beats (suc n) = (tt, none_die beats n)

pub padded_all : (beats : ℕ) (ds : List (Option ℕ)) (c : ℕ) → AllByRecursion (IsDeath beats) ds → AllByRecursion (IsDeath beats) (padded ds c)
padded_all beats ds c f = all_append (IsDeath beats) ds (replicate (c - length ds) None) f (none_die beats (c - length ds))

none_return : (beats n : ℕ) → AllByRecursion (ReturnsIn beats) (replicate n None)
none_return beats zero = tt
none_return beats (suc n) = (tt, none_return beats n)

pub padded_backs : (beats : ℕ) (backs : List (Option ℕ)) (c : ℕ) → AllByRecursion (ReturnsIn beats) backs
    → AllByRecursion (ReturnsIn beats) (padded backs c)
padded_backs beats backs c f =
    all_append (ReturnsIn beats) backs (replicate (c - length backs) None) f (none_return beats (c - length backs))

-- ---- who is cut off and who returns

cuts_who_dies : (b : ℕ) (left : Option ℕ) → CutsDeath (Some b) left
cuts_who_dies b None = tt
cuts_who_dies b (Some n) = tt

-- where rows say what they said, or this of a death
pub cut_with : (ds cuts : List (Option ℕ)) (c b : ℕ) (left : Option ℕ) → length ds ≤ c → length cuts ≤ c
    → ((n : ℕ) → CutsDeath (row_at ds n) (row_at cuts n))
    → (n : ℕ) → CutsDeath (row_at (padded_with ds c (Some b)) n) (row_at (padded_with cuts c left) n)
cut_with ds cuts c b left ld lc f n =
    rw (padded_with_at ds c (Some b) n ld, padded_with_at cuts c left n lc) (by_place (eqb n c)) where
      by_place : (t : Bool) → CutsDeath (cond t (Some b) (row_at ds n)) (cond t left (row_at cuts n))
      by_place true = cuts_who_dies b left
      by_place false = f n

pub back_with : (ds backs : List (Option ℕ)) (c b : ℕ) (back : Option ℕ) → length ds ≤ c → length backs ≤ c
    → ReturnsLater (Some b) back → ((n : ℕ) → ReturnsLater (row_at ds n) (row_at backs n))
    → (n : ℕ) → ReturnsLater (row_at (padded_with ds c (Some b)) n) (row_at (padded_with backs c back) n)
back_with ds backs c b back ld lb later f n =
    rw (padded_with_at ds c (Some b) n ld, padded_with_at backs c back n lb) (by_place (eqb n c)) where
      by_place : (t : Bool) → ReturnsLater (cond t (Some b) (row_at ds n)) (cond t back (row_at backs n))
      by_place true = later
      by_place false = f n

-- ---- nodes and entries

pub node_push : (n : ℕ) (js : List (List Entry)) → node_items n (js ++ [] ∷ []) ≡ node_items n js ++ item.Node (record { 0 = n + length js }) ∷ []
node_push n [] = ap (λ (k : ℕ). item.Node (record { 0 = k }) ∷ []) (same_number n)
node_push n (j ∷ js) =
    let last : List Item = item.Node (record { 0 = n + 1 + length js }) ∷ [] in
    ap (λ (q : List Item). item.Node (record { 0 = n }) ∷ q)
    (ap (λ (q : List Item). entry_items j ++ q) (node_push (n + 1) js)
    ∙ sym (append_assoc (entry_items j) (node_items (n + 1) js) last))
    ∙ ap (λ (k : ℕ). node_items n (j ∷ js) ++ item.Node (record { 0 = k }) ∷ []) (shifted n (length js))

pub entry_push : (n : ℕ) (js : List (List Entry)) (j : List Entry) (e : Entry) → node_items n (js ++ (j ++ e ∷ []) ∷ []) ≡ node_items n (js ++ j ∷ []) ++ item.Entry e ∷ []
entry_push n [] j e = ap (λ (q : List Item). item.Node (record { 0 = n }) ∷ q) (before_nothing (entry_items j) (entry_items (j ++ e ∷ [])) (item.Entry e) (map-append (λ (x : Entry). item.Entry x) j (e ∷ [])))
entry_push n (k ∷ js) j e =
    ap (λ (q : List Item). item.Node (record { 0 = n }) ∷ q)
    (ap (λ (q : List Item). entry_items k ++ q) (entry_push (n + 1) js j e)
    ∙ sym (append_assoc (entry_items k) (node_items (n + 1) (js ++ j ∷ [])) (item.Entry e ∷ [])))

-- ---- bytes

pub bytes_from : (bs : List ℕ) → AllByRecursion (λ (b : ℕ). b < 256) bs → (i : ℕ) → slice_index bs i < 256
bytes_from [] f i = omega arith
bytes_from (b ∷ bs) f zero = f.0
bytes_from (b ∷ bs) f (suc i) = bytes_from bs f.1 i
