-- The nodes of a run as they open stand at their numbers.
use Rattle.std.proofs.Common.{◌≡◌, ℕ, zero, suc, ◌+◌, ◌<◌, List, [], ◌∷◌, ◌++◌, length, Some, None, arith, refl, ap, sym, ◌∙◌, subst, append_assoc, length-append, take}
use Rattle.std.specs.List.{slice_get}
use Rattle.std.specs.Prelude.{IsTrue}
use Rattle.std.proofs.lemmas.List.Elements.{All-nil}
use Rattle.node_kit.specs.Form.{is_tenancy}
use Rattle.slot_plan.specs.declared.params.Params.{Params}
use Rattle.slot_plan.specs.Conditions.{IsPlan}
use Rattle.slot_plan.specs.Times.{disk_count}
use Rattle.disk_image.specs.Image.{Image}
use Rattle.disk_core.specs.State.{DiskState}
use Rattle.node_kit.specs.declared.course.Order.{Order}
use Rattle.node_kit.specs.declared.course.ReadFault.{ReadFault}
use Rattle.cub_rules.specs.State.{CubState, IsStoreOf, opening_store}
use Rattle.ring_nodes.specs.declared.nodes.AnyNode.{AnyNode}
use Rattle.ring_nodes.specs.declared.nodes.AnyNode.TheVariants as node
use Rattle.ring_nodes.specs.AllNodes.{StandsAny, AllStand, node_count, numbered, each_numbered, opening_cub, opening_disk, opening_controller, opening_nodes, faults_of}

-- one more number
pub numbered-more : {A : Type 0} (f : ℕ → A) (n : ℕ) (before : List A) → (before ++ numbered f n) ++ f n ∷ [] ≡ before ++ numbered f (n + 1)
numbered-more f n before = let e : n + 1 ≡ suc n = omega arith in rw e (append_assoc before (numbered f n) (f n ∷ []))

pub length-numbered : {A : Type 0} (f : ℕ → A) (n : ℕ) → length (numbered f n) ≡ n
length-numbered f zero = refl
length-numbered f (suc n) = length-append (numbered f n) (f n ∷ []) ∙ (ap (λ m. m + 1) (length-numbered f n) ∙ omega arith)

pub length-each_numbered : {A B : Type 0} (f : ℕ → A → B) (first : ℕ) (xs : List A) → length (each_numbered f first xs) ≡ length xs
length-each_numbered f first [] = refl
length-each_numbered f first (x ∷ xs) = ap suc (length-each_numbered f (first + 1) xs)

-- one more element
pub each_numbered-more : {A B : Type 0} (f : ℕ → A → B) (first i : ℕ) (xs : List A) (x : A) → slice_get xs i ≡ Some x
    → each_numbered f first (take i xs) ++ f (first + i) x ∷ [] ≡ each_numbered f first (take (suc i) xs)
each_numbered-more f first i [] x e = absurd (cc)
each_numbered-more f first zero (y ∷ ys) x e =
    let same : y ≡ x = cc in
    let at : first + 0 ≡ first = omega arith in
    rw (at, same) refl
each_numbered-more f first (suc i) (y ∷ ys) x e =
    let at : first + suc i ≡ first + 1 + i = omega arith in
    rw at (ap (λ zs. f first y ∷ zs) (each_numbered-more f (first + 1) i ys x e))

-- one more cub
pub cubs-more : {G : Type 0} (before : List (AnyNode G)) (p : Params) (n : ℕ) (c : CubState) → c ≡ record { params = p; cub = n; store = opening_store p 0; last = None }
    → (before ++ numbered (opening_cub p) n) ++ node.Cub c ∷ [] ≡ before ++ numbered (opening_cub p) (n + 1)
cubs-more {G} before p n c is = rw is (numbered-more (opening_cub {G = G} p) n before)

-- one more disk
pub disks-more : {G : Type 0} (before : List (AnyNode G)) (p : Params) (faults : List ReadFault) (images : List Image) (i : ℕ) (m : Image) (d : DiskState)
    → slice_get images i ≡ Some m → d ≡ record { params = p; disk = i; image = m; faults = faults_of i faults }
    → (before ++ each_numbered (opening_disk p faults) 0 (take i images)) ++ node.Disk d ∷ []
    ≡ before ++ each_numbered (opening_disk p faults) 0 (take (i + 1) images)
disks-more {G} before p faults images i m d at is =
    let next : i + 1 ≡ suc i = omega arith in
    let number : 0 + i ≡ i = omega arith in
    let more = each_numbered-more (opening_disk {G = G} p faults) 0 i images m at in
    rw (next, is) (append_assoc before (each_numbered (opening_disk {G = G} p faults) 0 (take i images)) _ ∙ ap (λ ys. before ++ ys) (rw number at more))

-- the nodes stand at the numbers from one on
abbrev StandFrom : {G : Type 0} → Params → ℕ → List (AnyNode G) → Type 0
StandFrom p first [] = Unit {0}
StandFrom p first (x ∷ xs) = StandsAny x p first × StandFrom p (first + 1) xs

stand_both : {G : Type 0} (p : Params) (first : ℕ) (xs ys : List (AnyNode G)) → StandFrom p first xs → StandFrom p (first + length xs) ys
    → StandFrom p first (xs ++ ys)
stand_both p first [] ys h g = let e : first + 0 ≡ first = omega arith in subst (λ k. StandFrom p k ys) e g
stand_both p first (x ∷ xs) ys h g =
    let e : first + suc (length xs) ≡ first + 1 + length xs = omega arith in
    (h.0, stand_both p (first + 1) xs ys h.1 (subst (λ k. StandFrom p k ys) e g))

stand_numbered : {G : Type 0} (p : Params) (first : ℕ) (f : ℕ → AnyNode G) (n : ℕ) → ((k : ℕ) → k < n → StandsAny (f k) p (first + k))
    → StandFrom p first (numbered f n)
stand_numbered p first f zero h = tt
stand_numbered p first f (suc n) h =
    stand_both p first (numbered f n) (f n ∷ []) (stand_numbered p first f n (λ k low. h k (omega arith)))
    (subst (λ m. StandsAny (f n) p (first + m)) (sym (length-numbered f n)) (h n (omega arith)), tt)

-- the disks whose numbers begin at one stand behind the cubs
stand_disks : (G : Type 0) (p : Params) (faults : List ReadFault) (first : ℕ) (images : List Image) → IsPlan p
    → first + length images ≡ disk_count p → StandFrom {G = G} p (p.cubs + first) (each_numbered (opening_disk p faults) first images)
stand_disks G p faults first [] plan all = tt
stand_disks G p faults first (m ∷ ms) plan all =
    let next : p.cubs + first + 1 ≡ p.cubs + (first + 1) = omega arith in
    let rest : first + 1 + length ms ≡ disk_count p = omega (arith, all) in
    let low : first < disk_count p = omega (arith, all) in (
      record { params = refl; number = refl; plan = plan; inside = low },
      subst (λ k. StandFrom {G = G} p k (each_numbered (opening_disk p faults) (first + 1) ms)) (sym next) (stand_disks G p faults (first + 1) ms plan rest),
    )

stand_each : {G : Type 0} (p : Params) (first : ℕ) (xs : List (AnyNode G)) → StandFrom p first xs → (k : ℕ) (s : AnyNode G) → slice_get xs k ≡ Some s
    → StandsAny s p (first + k)
stand_each p first [] h k s e = absurd (cc)
stand_each p first (x ∷ xs) h zero s e =
    let same : x ≡ s = cc in
    let at : first ≡ first + 0 = omega arith in
    subst (λ y. StandsAny y p (first + 0)) same (subst (λ m. StandsAny x p m) at h.0)
stand_each p first (x ∷ xs) h (suc k) s e =
    let at : first + 1 + k ≡ first + suc k = omega arith in
    subst (λ m. StandsAny s p m) at (stand_each p (first + 1) xs h.1 k s e)

-- what a cub keeps as it opens
opening_is_store : (p : Params) (c : ℕ) → IsStoreOf p c (opening_store p 0)
opening_is_store p c = record {
  view_plan = refl;
  pieces_plan = refl;
  unasked_plan = refl;
  lines = tt;
  waiting = tt;
  redundant = tt;
  pieces = tt;
  unasked = tt;
  splits = tt;
  parts = tt;
}

-- how many cubs and disks there are
counted : (G : Type 0) (p : Params) (faults : List ReadFault) (images : List Image) → length images ≡ disk_count p
    → length (numbered (opening_cub {G = G} p) p.cubs ++ each_numbered (opening_disk {G = G} p faults) 0 images) ≡ p.cubs + disk_count p
counted G p faults images all =
    let cubs = length-numbered (opening_cub {G = G} p) p.cubs in
    let disks = length-each_numbered (opening_disk {G = G} p faults) 0 images in
    length-append (numbered (opening_cub {G = G} p) p.cubs) (each_numbered (opening_disk {G = G} p faults) 0 images) ∙ rw (cubs, disks, all) refl

pub opening_count : {G : Type 0} (p : Params) (faults : List ReadFault) (images : List Image) (orders : List Order) (nodes : List (AnyNode G))
    → length images ≡ disk_count p → nodes ≡ opening_nodes p faults images orders → length nodes ≡ node_count p
opening_count {G} p faults images orders nodes all is =
    ap length is
    ∙ (append-length-assoc
    ∙ ap (λ m. m + 2) (counted G p faults images all))
  where
    append-length-assoc : length (opening_nodes {G = G} p faults images orders) ≡ length (numbered (opening_cub {G = G} p) p.cubs ++ each_numbered (opening_disk {G = G} p faults) 0 images) + 2
    append-length-assoc =
        length-append (numbered (opening_cub {G = G} p) p.cubs ++ each_numbered (opening_disk {G = G} p faults) 0 images) (opening_controller p orders ∷ node.Viewers [] ∷ [])

pub opening_stand : {G : Type 0} (p : Params) (faults : List ReadFault) (images : List Image) (orders : List Order) (nodes : List (AnyNode G))
    → IsPlan p → length images ≡ disk_count p → nodes ≡ opening_nodes p faults images orders → AllStand p nodes
opening_stand {G} p faults images orders nodes plan count is k s here =
    let cubs : List (AnyNode G) = numbered (opening_cub p) p.cubs in
    let disks : List (AnyNode G) = each_numbered (opening_disk p faults) 0 images in
    let past_cubs : p.cubs + 0 ≡ 0 + length cubs = let e = length-numbered (opening_cub {G = G} p) p.cubs in omega arith in
    let past_disks : p.cubs + disk_count p ≡ 0 + length (cubs ++ disks) = let e = counted G p faults images count in omega arith in
    let cubs_stand : StandFrom p 0 cubs =
    stand_numbered p 0 (opening_cub {G = G} p) p.cubs (λ c low. record { params = refl; number = omega arith; plan = plan; inside = low; store = opening_is_store p c }) in
    let from_first : 0 + length images ≡ disk_count p = omega (arith, count) in
    let disks_stand : StandFrom p (p.cubs + 0) disks = stand_disks G p faults 0 images plan from_first in
    let both : StandFrom p 0 (cubs ++ disks) = stand_both p 0 cubs disks cubs_stand (subst (λ m. StandFrom p m disks) past_cubs disks_stand) in
    let all : StandFrom p 0 (opening_nodes p faults images orders) =
    stand_both p 0 (cubs ++ disks) (opening_controller p orders ∷ node.Viewers [] ∷ []) both
    (record { params = refl; number = past_disks; plan = plan; in_form = All-nil (λ t. IsTrue (is_tenancy p t)) }, (ap (λ m. m + 1) past_disks, tt)) in
    let at : 0 + k ≡ k = omega arith in
    subst (λ m. StandsAny s p m) at (stand_each p 0 (opening_nodes p faults images orders) all k s (subst (λ (xs : List (AnyNode G)). slice_get xs k ≡ Some s) is here))
