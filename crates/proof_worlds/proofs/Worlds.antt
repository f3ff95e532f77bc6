-- A world's events are a list that the machine of a ring's opening nodes accepts.
use Rattle.std.proofs.Common.{◌≡◌, ℕ, zero, suc, ◌+◌, List, [], ◌∷◌, ◌++◌, length, refl, ap, sym, ◌∙◌, subst, arith}
use Rattle.tiger_base.specs.Notes.{noted}
use Rattle.slot_plan.specs.Times.{disk_count, time_of}
use Rattle.node_kit.specs.declared.journal.Entry.{Entry}
use Rattle.run_facts.specs.Order.{order_of}
use Rattle.run_claims.specs.Accounts.{account_by}
use Rattle.run_claims.specs.Claims.{MeetsClaims}
use Rattle.run_claims.specs.Served.{AreServed}
use Rattle.disk_core.specs.State.{DiskState}
use Rattle.ring_nodes.specs.declared.nodes.AnyNode.{AnyNode}
use Rattle.ring_nodes.specs.declared.nodes.AnyNode.TheVariants as node
use Rattle.ring_nodes.specs.AllNodes.{any_step, node_count, numbered, each_numbered, opening_cub, opening_disk, opening_controller, image_at}
use Rattle.ring_nodes.proofs.Numbered.{length-numbered}
use Rattle.ring_world.specs.Machine.{journals_of, opening_machine}
use Rattle.ring_world.specs.Faults.{Accepts}
use Rattle.proof_controller.specs.Orders.{AreCounted}
use Rattle.proof_facts.specs.Rings.{AreOfCatalogue}
use Rattle.proof_ring.specs.Runs.{disk_of_run}
use Rattle.proof_ring.specs.Beliefs.{BeliefsAreInTime}
use Rattle.proof_ring.specs.ClaimsOfRings.{HasOneSchedule, IsNeverWronglyServed}
use Rattle.proof_ring.proofs.Faults.{have_faults}
use Rattle.world.specs.Worlds.{Opening, Worldly, opening_of, IsWorld}
use Rattle.proof_worlds.specs.Accepted.{opening_ring, IsAccepted, IsStored, IsTickIn, AcceptedListsBelieveInTime, AcceptedListsHaveOneSchedule, AcceptedListsAreNeverWronglyServed, AcceptedListsAreRightlyServed}
use Rattle.proof_worlds.specs.Accounts.{ticks_of, AcceptedListsMeetTheClaims}
use Rattle.proof_worlds.specs.Claims.{HasOneScheduleThroughout, BelievesInTimeThroughout, IsNeverWronglyServedThroughout, IsRightlyServedThroughout, MeetsTheClaims}

-- What a rule gives for the elements of a list and their numbers, with one element more.
one_more : {A B : Type 0} (g : ℕ → A → B) (first : ℕ) (xs : List A) (x : A)
    → each_numbered g first (xs ++ x ∷ []) ≡ each_numbered g first xs ++ g (first + length xs) x ∷ []
one_more g first [] x = let e : first ≡ first + 0 = omega arith in ap (λ k. g k x ∷ []) e
one_more g first (y ∷ ys) x =
    let e : first + 1 + length ys ≡ first + suc (length ys) = omega arith in
    ap (λ zs. g first y ∷ zs) (one_more g (first + 1) ys x ∙ ap (λ k. each_numbered g (first + 1) ys ++ g k x ∷ []) e)

-- Numbered twice is numbered once.
numbered_once : {A B : Type 0} (g : ℕ → A → B) (f : ℕ → A) (n : ℕ) → each_numbered g 0 (numbered f n) ≡ numbered (λ d. g d (f d)) n
numbered_once g f zero = refl
numbered_once g f (suc n) =
    let e : 0 + length (numbered f n) ≡ n = omega (arith, length-numbered f n) in
    one_more g 0 (numbered f n) (f n) ∙ ap (λ k. each_numbered g 0 (numbered f n) ++ g k (f n) ∷ []) e
    ∙ ap (λ ys. ys ++ g n (f n) ∷ []) (numbered_once g f n)

module _ (G : Type 0) (w : Worldly G) (is : IsWorld w) where
  abbrev o : Opening
  o = w.opening

  abbrev disk_at : ℕ → DiskState
  disk_at = disk_of_run o.params o.faults o.catalogue o.library

  opens_as_ring : opening_of {G = G} o ≡ opening_ring o.params o.orders disk_at
  opens_as_ring =
      ap (λ (ds : List (AnyNode G)). numbered (opening_cub o.params) o.params.cubs ++ ds ++ opening_controller o.params o.orders ∷ node.Viewers [] ∷ [])
      (numbered_once (opening_disk {G = G} o.params o.faults) (image_at o.params o.catalogue o.library) (disk_count o.params))

  accepted : AreCounted o.params o.orders
      → IsAccepted o.params o.orders disk_at o.beats w.running.machine.events is.machine
  accepted counted = record {
    plan = is.plan;
    counted = counted;
    disks = λ d low. record { params = refl; number = refl };
    few = is.few;
    accepts = subst (λ (ns : List (AnyNode G)). Accepts noted any_step o.params (node_count o.params) o.beats (opening_machine o.params ns) w.running.machine.events is.machine)
        opens_as_ring is.accepted;
  }

  stored : AreOfCatalogue o.params o.catalogue o.orders → IsStored o.params o.catalogue o.faults o.orders disk_at
  stored files = record {
    files = files;
    images = record { files = λ d low. refl; pieces = λ d low. refl; disk = λ d low. refl };
    faulty = have_faults o.params o.faults o.catalogue o.library;
  }

  pub one_schedule : AcceptedListsHaveOneSchedule G → AreCounted o.params o.orders → HasOneScheduleThroughout w
  one_schedule law counted top =
      subst (λ (js : List (List Entry)). HasOneSchedule o.params o.orders (IsTickIn w.running.machine.events top) (order_of top js)) (sym is.journals)
      (law o.params o.orders disk_at o.beats w.running.machine.events is.machine top (accepted counted))

  pub believes_in_time : AcceptedListsBelieveInTime G → AreCounted o.params o.orders → BelievesInTimeThroughout w
  believes_in_time law counted top =
      subst (λ (js : List (List Entry)). BeliefsAreInTime o.params (IsTickIn w.running.machine.events top) (order_of top js)) (sym is.journals)
      (law o.params o.orders disk_at o.beats w.running.machine.events is.machine top (accepted counted))

  pub never_wrongly : AcceptedListsAreNeverWronglyServed G → AreCounted o.params o.orders → AreOfCatalogue o.params o.catalogue o.orders
      → IsNeverWronglyServedThroughout w
  never_wrongly law counted files top =
      subst (λ (js : List (List Entry)). IsNeverWronglyServed o.params o.faults (order_of top js)) (sym is.journals)
      (law o.params o.catalogue o.faults o.orders disk_at o.beats w.running.machine.events is.machine top (accepted counted) (stored files))

  pub rightly : AcceptedListsAreRightlyServed G → AreCounted o.params o.orders → AreOfCatalogue o.params o.catalogue o.orders
      → IsRightlyServedThroughout w
  rightly law counted files top low =
      let same = is.beat in
      subst (λ (js : List (List Entry)). AreServed o.params o.catalogue js (time_of o.params top) (order_of top js)) (sym is.journals)
      (law o.params o.catalogue o.faults o.orders disk_at o.beats w.running.machine.events is.machine top (accepted counted) (stored files) (omega (arith, low, same)))

  pub meets : AcceptedListsMeetTheClaims G → AreCounted o.params o.orders → AreOfCatalogue o.params o.catalogue o.orders → MeetsTheClaims w
  meets law counted files =
      subst (λ (b : ℕ). MeetsClaims (account_by o.params o.catalogue o.faults o.orders (journals_of w.running.machine) b (ticks_of w.running.machine.events)))
      (sym is.beat)
      (subst (λ (js : List (List Entry)). MeetsClaims (account_by o.params o.catalogue o.faults o.orders js is.machine.beat (ticks_of w.running.machine.events)))
      (sym is.journals)
      (law o.params o.catalogue o.faults o.orders disk_at o.beats w.running.machine.events is.machine (accepted counted) (stored files)))
