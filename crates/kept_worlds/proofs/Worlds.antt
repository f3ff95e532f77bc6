-- What is kept of a run of the ring is a run of nodes that have their place in a machine.
use Rattle.std.proofs.Common.{◌≡◌, ℕ, zero, suc, ◌+◌, ◌<◌, ◌≤◌, List, [], ◌∷◌, ◌++◌, length, Bool, true, false, Option, Some, None, refl, sym, ap, ◌∙◌, subst, arith, ⊎_elim, length-append}
use Rattle.std.specs.Prelude.{nat_le, slice_get}
use Rattle.std.proofs.lemmas.Bool.{cases_lt}
use Rattle.std.proofs.lemmas.Bool.Decides.{nat_tests}
use Rattle.tiger_base.specs.declared.message.Msg.{Msg}
use Rattle.tiger_base.specs.declared.number.Stamp.{Stamp}
use Rattle.tiger_base.specs.Notes.{noted}
use Rattle.slot_plan.specs.declared.params.Params.{Params}
use Rattle.slot_plan.specs.Times.{disk_count}
use Rattle.node_kit.specs.declared.course.Kept.{Kept}
use Rattle.node_kit.specs.Courses.{IsCourse}
use Rattle.node_kit.specs.Form.{IsInForm}
use Rattle.node_kit.specs.Links.{links_of, viewers_of}
use Rattle.node_kit.specs.declared.course.Order.{Order}
use Rattle.node_kit.specs.declared.course.ReadFault.{ReadFault}
use Rattle.node_kit.specs.Deeds.{wrapped}
use Rattle.node_kit.specs.Steps.{Deed, Input}
use Rattle.node_kit.specs.Steps.Input.{Take, Tick}
use Rattle.disk_image.specs.Image.{Image}
use Rattle.cub_rules.specs.Cubs.{cub_step, ticked_cub, was_away}
use Rattle.cub_rules.specs.State.{CubState, opening_store}
use Rattle.cub_rules.specs.declared.store.Store.{Store}
use Rattle.ring_nodes.specs.declared.nodes.AnyNode.{AnyNode}
use Rattle.ring_nodes.specs.declared.nodes.AnyNode.TheVariants as node
use Rattle.ring_nodes.specs.AllNodes.{any_step, image_at, images_of, numbered, each_numbered, opening_cub, opening_disk, opening_controller, opening_nodes}
use Rattle.ring_nodes.proofs.Numbered.{length-numbered, opening_count}
use Rattle.ring_facts.specs.Steps.{ring_of}
use Rattle.proof_turns.specs.Laws.{AreToldApart, AreOfTake, BeginsOtherwise}
use Rattle.proof_turns.proofs.Takes.{takes_own}
use Rattle.proof_turns.proofs.Ticks.{ticks_other, ending_back}
use Rattle.ring_world.specs.Laws.{IsPlace}
use Rattle.ring_world.proofs.Places.{plans-places}
use Rattle.kept_worlds.specs.Laws.{CubsStand, ForgetsTicks}
use Rattle.kept_worlds.proofs.Kept.{kept-accepted}
use Rattle.kept_worlds.specs.Worlds.{KeptRunsAreWorlds}

-- a ring has a node more than the number of its viewers
ring-count : (G : Type 0) (k : Kept) (library : List (List ℕ))
    → length (ring_of G k.course k.catalogue library k.orders) ≡ viewers_of (links_of k.course.plan.params) + 1
ring-count G k library =
    let p = k.course.plan.params in
    let images = length-numbered (image_at p k.catalogue library) (disk_count p) in
    let count = opening_count p k.course.faults (images_of p k.catalogue library) k.orders
    (ring_of G k.course k.catalogue library k.orders) images refl in
    omega (arith, count)

-- a node is a cub of the plan
abbrev IsCubOf : {G : Type 0} → AnyNode G → Params → ℕ → Type 0
IsCubOf {G} s p n = (q : CubState) × (s ≡ node.Cub q) × (q.params ≡ p)

-- the takes of cubs are told from their ticks
cubs-apart : (G : Type 0) (p : Params) → AreToldApart noted (any_step {G = G}) IsCubOf p
cubs-apart G p = record {
  stays = λ n s i at. stays-at s i at;
  takes = λ n s stamp link msg at.
      subst (λ (t : AnyNode G). AreOfTake noted (noted msg) (any_step t (Take stamp link msg)).outs) (sym at.1)
      (takes_own at.0 stamp link msg);
  ticks = λ n s stamp now link msg at form.
      subst (λ (t : AnyNode G).
      BeginsOtherwise noted (noted msg) (any_step (any_step t (Take stamp link msg)).state (Tick now)).outs) (sym at.1)
      (ticks_other at.0 stamp now link msg (subst (λ (r : Params). IsInForm r (noted msg)) (sym at.2) form));
}
  where
    stays-at : (s : AnyNode G) (i : Input Msg) → IsCubOf s p 0 → IsCubOf (any_step s i).state p 0
    stays-at s i at =
        subst (λ (t : AnyNode G). IsCubOf (any_step t i).state p 0) (sym at.1) (stays-cub at.0 i at.2)
      where
        stays-cub : (q : CubState) (i : Input Msg) → q.params ≡ p → IsCubOf (any_step {G = G} (node.Cub q) i).state p 0
        stays-cub q (Take stamp link msg) same = ((cub_step q (Take stamp link msg)).state, refl, same)
        stays-cub q (Tick stamp) same = ((cub_step q (Tick stamp)).state, refl, same)

-- the first nodes of a ring are its cubs
get-front : {X : Type 0} (xs ys : List X) (k : ℕ) → k < length xs → slice_get (xs ++ ys) k ≡ slice_get xs k
get-front [] ys k low = absurd (omega (arith, low))
get-front (x ∷ xs) ys zero low = refl
get-front (x ∷ xs) ys (suc k) low = get-front xs ys k (omega (arith, low))

get-last : {X : Type 0} (xs : List X) (x : X) (k : ℕ) → k ≡ length xs → slice_get (xs ++ x ∷ []) k ≡ Some x
get-last [] x zero e = refl
get-last [] x (suc k) e = absurd (omega (arith, e))
get-last (y ∷ ys) x zero e = absurd (omega (arith, e))
get-last (y ∷ ys) x (suc k) e = get-last ys x k (omega (arith, e))

numbered-at : {X : Type 0} (f : ℕ → X) (m k : ℕ) → k < m → slice_get (numbered f m) k ≡ Some (f k)
numbered-at f zero k low = absurd (omega (arith, low))
numbered-at f (suc m) k low = ⊎_elim
    (λ (before : k < m).
    let count = length-numbered f m in
    get-front (numbered f m) (f m ∷ []) k (omega (arith, before, count)) ∙ numbered-at f m k before)
    (λ (last_one : m ≤ k).
    let count = length-numbered f m in
    let same : k ≡ m = omega (arith, last_one, low) in
    get-last (numbered f m) (f m) k (omega (arith, same, count)) ∙ ap (λ j. Some (f j)) (sym same))
    (cases_lt k m)

cubs-in : {G : Type 0} (p : Params) (faults : List ReadFault) (images : List Image) (orders : List Order) (n : ℕ) → n < p.cubs
    → slice_get (opening_nodes {G = G} p faults images orders) n ≡ Some (opening_cub {G = G} p n)
cubs-in {G} p faults images orders n low =
    let cubs : List (AnyNode G) = numbered (opening_cub p) p.cubs in
    let disks : List (AnyNode G) = each_numbered (opening_disk p faults) 0 images in
    let count : length cubs ≡ p.cubs = length-numbered (opening_cub {G = G} p) p.cubs in
    let all = length-append cubs disks in
    get-front (cubs ++ disks) (opening_controller p orders ∷ node.Viewers [] ∷ []) n (omega (arith, low, count, all))
    ∙ get-front cubs disks n (omega (arith, low, count)) ∙ numbered-at (opening_cub {G = G} p) p.cubs n low

cubs-first : (G : Type 0) (k : Kept) (library : List (List ℕ))
    → CubsStand IsCubOf k.course.plan.params (ring_of G k.course k.catalogue library k.orders)
cubs-first G k library n s low here =
    let p = k.course.plan.params in
    let first = cubs-in {G = G} p k.course.faults (images_of p k.catalogue library) k.orders n low in
    (record { params = p; cub = n; store = opening_store p 0; last = None }, some-same s (opening_cub p n) (sym here ∙ first), refl)
  where
    some-same : (a b : AnyNode G) → Some a ≡ Some b → a ≡ b
    some-same a b e = cc

-- ---- a cub that comes back

-- a cub has ticked in a beat or later
abbrev ticked_since : Option ℕ → ℕ → Bool
ticked_since None beat = false
ticked_since (Some last) beat = nat_le beat last

abbrev since : {G : Type 0} → AnyNode G → ℕ → Bool
since (node.Cub q) beat = ticked_since q.last beat
since (node.Disk q) beat = false
since (node.Controller q) beat = false
since (node.Viewers q) beat = false

away-by : (last : Option ℕ) (now later : ℕ) → ticked_since last now ≡ false → now + 2 ≤ later → was_away last later ≡ true
away-by None now later fresh apart = grind (arith, nat_tests, apart)
away-by (Some last) now later fresh apart = grind (arith, nat_tests, fresh, apart)

-- what it does then hangs on nothing that it kept
cub-anew : (q : CubState) (now later : Stamp) → ticked_since q.last now.beat ≡ false → now.beat + 2 ≤ later.beat
    → cub_step (cub_step q (Tick now)).state (Tick later) ≡ cub_step q (Tick later)
cub-anew q now later fresh apart =
    let one = (cub_step q (Tick now)).state in
    let away : was_away one.last later.beat ≡ true = grind (arith, nat_tests, apart) in
    ap (λ (d : Deed Msg Store). ticked_cub q later.beat d)
    (ending_back q.params q.cub later one.last one.store away
    ∙ sym (ending_back q.params q.cub later q.last q.store (away-by q.last now.beat later.beat fresh apart)))

forgets-cub : (G : Type 0) (k : Kept) (library : List (List ℕ))
    → ForgetsTicks (any_step {G = G}) IsCubOf k.course.plan.params (ring_of G k.course k.catalogue library k.orders)
forgets-cub G k library = record {
  since = since;
  opens = λ n s low here.
      let p = k.course.plan.params in
      let first = cubs-in {G = G} p k.course.faults (images_of p k.catalogue library) k.orders n low in
      let is : s ≡ opening_cub p n = some-same s (opening_cub p n) (sym here ∙ first) in
      subst (λ (t : AnyNode G). since t 0 ≡ false) (sym is) refl;
  takes = λ n s stamp link msg beat at fresh.
      let mine : ticked_since at.0.last beat ≡ false = subst (λ (t : AnyNode G). since t beat ≡ false) at.1 fresh in
      subst (λ (t : AnyNode G). since (any_step t (Take stamp link msg)).state beat ≡ false) (sym at.1) mine;
  ticks = λ n s stamp beat at early.
      let none : nat_le beat stamp.beat ≡ false = grind (arith, nat_tests, early) in
      subst (λ (t : AnyNode G). since (any_step t (Tick stamp)).state beat ≡ false) (sym at.1) none;
  anew = λ n s now later at fresh apart.
      let mine : ticked_since at.0.last now.beat ≡ false = subst (λ (t : AnyNode G). since t now.beat ≡ false) at.1 fresh in
      subst (λ (t : AnyNode G). any_step (any_step t (Tick now)).state (Tick later) ≡ any_step t (Tick later)) (sym at.1)
      (ap (λ (d : Deed Msg CubState). wrapped node.Cub d) (cub-anew at.0 now later mine apart));
}
  where
    some-same : (a b : AnyNode G) → Some a ≡ Some b → a ≡ b
    some-same a b e = cc

pub kept-worlds : (G : Type 0) → KeptRunsAreWorlds G
kept-worlds G s library k sound ran =
    let p = k.course.plan.params in
    let course : IsCourse k.course = subst IsCourse (sym ran.course) sound.course in
    let count = ring-count G k library in
    let place = subst (λ n. IsPlace p n k.course.beats) (sym count)
    (plans-places p k.course.beats k.course.plan.sound course.beats) in
    let kept = ran.steps.kept in
    record {
      course = course;
      each_has_journal = kept.each_has_journal ∙ count;
      world = kept-accepted noted (any_step {G = G}) IsCubOf k.course
          (ring_of G k.course k.catalogue library k.orders) ran.steps.nodes k.journals place ran.apart course.returns_later
          (λ n back is. forgets-cub G k library) (cubs-apart G p) (cubs-first G k library) kept;
    }
