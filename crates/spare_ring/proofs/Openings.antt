-- The nodes of a run as they open stand at their numbers, and each is what a node of a ring is made into.
use Rattle.std.proofs.Common.{◌≡◌, ℕ, zero, suc, ◌+◌, ◌<◌, List, [], ◌∷◌, ◌++◌, length, Some, None, refl, ap, sym, subst, ◌∙◌, arith, append_assoc}
use Rattle.std.specs.List.{slice_get}
use Rattle.slot_plan.specs.declared.params.Params.{Params}
use Rattle.node_kit.specs.declared.course.ReadFault.{ReadFault}
use Rattle.node_kit.specs.Rows as rows
use Rattle.cub_rules.specs.State.{CubState, IsCub}
use Rattle.ring_nodes.specs.declared.nodes.AnyNode.{AnyNode}
use Rattle.ring_nodes.specs.declared.nodes.AnyNode.TheVariants as node
use Rattle.ring_nodes.specs.AllNodes.{StandsAny, AllStand, each_numbered}
use Rattle.spare_ring.specs.declared.nodes.SpareNode.{SpareNode}
use Rattle.spare_ring.specs.Nodes.{StandsAsSpare, beside_deaths}

-- the next element is behind those that are done
next_here : {A : Type 0} (done : List A) (x : A) (rest : List A) → slice_get (done ++ x ∷ rest) (length done) ≡ Some x
next_here [] x rest = refl
next_here (y ∷ done) x rest = next_here done x rest

pub next_at : {A : Type 0} (all done : List A) (x : A) (rest behind : List A) (n : ℕ) → done ++ rest ≡ all → rest ≡ x ∷ behind → n ≡ length done → slice_get all n ≡ Some x
next_at {A} all done x rest behind n whole next number =
    subst (λ (l : List A). slice_get l n ≡ Some x) (ap (λ l. done ++ l) (sym next) ∙ whole)
    (subst (λ m. slice_get (done ++ x ∷ behind) m ≡ Some x) (sym number) (next_here done x behind))

pub goes_on : {A : Type 0} (all done : List A) (x : A) (rest behind : List A) → done ++ rest ≡ all → rest ≡ x ∷ behind → (done ++ x ∷ []) ++ behind ≡ all
goes_on all done x rest behind whole next = append_assoc done (x ∷ []) behind ∙ ap (λ l. done ++ l) (sym next) ∙ whole

-- one more that is made of its number
numbered_on : {A B : Type 0} (f : ℕ → A → B) (first : ℕ) (done : List A) (x : A)
    → each_numbered f first done ++ f (first + length done) x ∷ [] ≡ each_numbered f first (done ++ x ∷ [])
numbered_on f first [] x = let e : first + 0 ≡ first = omega arith in rw e refl
numbered_on f first (y ∷ ys) x =
    let e : first + suc (length ys) ≡ first + 1 + length ys = omega arith in
    rw e (ap (λ zs. f first y ∷ zs) (numbered_on f (first + 1) ys x))

pub made_on : {A B : Type 0} (f : ℕ → A → B) (done : List A) (x : A) (made after : List B) (n : ℕ) (y : B) → n ≡ length done → made ≡ each_numbered f 0 done → y ≡ f n x
    → after ≡ made ++ y ∷ [] → after ≡ each_numbered f 0 (done ++ x ∷ [])
made_on {A} {B} f done x made after n y number is one more =
    let at : n ≡ 0 + length done = omega (arith, number) in
    more ∙ (ap (λ (zs : List B). zs ++ y ∷ []) is
    ∙ (ap (λ (z : B). each_numbered f 0 done ++ z ∷ []) (one ∙ ap (λ (m : ℕ). f m x) at) ∙ numbered_on f 0 done x))

pub length_made : {A B : Type 0} (f : ℕ → A → B) (first : ℕ) (xs : List A) → length (each_numbered f first xs) ≡ length xs
length_made f first [] = refl
length_made f first (x ∷ xs) = ap suc (length_made f (first + 1) xs)

-- ---- where they stand

-- a cub of its number that has split nothing
one_stands : {G : Type 0} (p : Params) (faults : List ReadFault) (beats n : ℕ) (s : AnyNode G) → StandsAny s p n → StandsAsSpare (beside_deaths p faults beats n s) p n
one_stands p faults beats n (node.Cub s) at = record { cub = at; plan = refl; pieces = tt }
one_stands p faults beats n (node.Disk s) at = at
one_stands p faults beats n (node.Controller s) at = at
one_stands p faults beats n (node.Viewers s) at = at

each_stands : {G : Type 0} (p : Params) (faults : List ReadFault) (beats first : ℕ) (xs : List (AnyNode G))
    → ((k : ℕ) (s : AnyNode G) → slice_get xs k ≡ Some s → StandsAny s p (first + k))
    → (k : ℕ) (s : SpareNode G) → slice_get (each_numbered (beside_deaths p faults beats) first xs) k ≡ Some s → StandsAsSpare s p (first + k)
each_stands p faults beats first [] all k s e = absurd (cc)
each_stands {G} p faults beats first (x ∷ xs) all zero s e =
    let same : beside_deaths p faults beats first x ≡ s = cc in
    let at : first + 0 ≡ first = omega arith in
    subst (λ (y : SpareNode G). StandsAsSpare y p (first + 0)) same
    (subst (λ (m : ℕ). StandsAsSpare (beside_deaths p faults beats first x) p m) (sym at)
    (one_stands p faults beats first x (subst (λ (m : ℕ). StandsAny x p m) at (all 0 x refl))))
each_stands {G} p faults beats first (x ∷ xs) all (suc k) s e =
    let at : first + 1 + k ≡ first + suc k = omega arith in
    subst (λ (m : ℕ). StandsAsSpare s p m) at
    (each_stands p faults beats (first + 1) xs
    (λ j y there. let next : first + suc j ≡ first + 1 + j = omega arith in subst (λ (m : ℕ). StandsAny y p m) next (all (suc j) y there)) k s e)

pub all_stand : {G : Type 0} (p : Params) (faults : List ReadFault) (beats : ℕ) (xs : List (AnyNode G)) (made : List (SpareNode G)) → AllStand p xs
    → made ≡ each_numbered (beside_deaths p faults beats) 0 xs → rows.AllStand StandsAsSpare p made
all_stand {G} p faults beats xs made all is k s e =
    let at : 0 + k ≡ k = omega arith in
    subst (λ (m : ℕ). StandsAsSpare s p m) at
    (each_stands p faults beats 0 xs (λ j y there. let here : j ≡ 0 + j = omega arith in subst (λ (m : ℕ). StandsAny y p m) here (all j y there)) k s
    (subst (λ (l : List (SpareNode G)). slice_get l k ≡ Some s) is e))

-- a cub's number is one of the plan's
pub cub_inside : (s : CubState) (p : Params) (n : ℕ) → IsCub s p n → n < p.cubs
cub_inside s p n at =
    subst (λ (q : Params). n < q.cubs) at.params (subst (λ (c : ℕ). c < s.params.cubs) at.number at.inside)
