-- Where links lead: from a cub to those ahead of it, to a disk, and back from it.
use Rattle.std.proofs.Common.{◌≡◌, ℕ, ◌+◌, ◌-◌, ◌*◌, ◌/◌, ◌%◌, ◌<◌, ◌≤◌, nat_lt, true, false, Some, None, refl, sym, ap, ◌∙◌, arith}
use Rattle.std.specs.Prelude.{Option, max}
use Rattle.std.proofs.lemmas.Bool.{lt-ltb, le-ltb, ltb-true, ltb-false}
use Rattle.std.proofs.lemmas.Nat.{mod_below, div-add-mod'}
use Rattle.tiger_base.specs.declared.number.LinkNo.{LinkNo}
use Rattle.slot_plan.specs.declared.params.Params.{Params}
use Rattle.slot_plan.specs.Conditions.{IsPlan}
use Rattle.slot_plan.specs.Times.{cub_of, disk_count}
use Rattle.node_kit.specs.Links.{Links, IsLinks, links_of, ends_of, controller_of, viewers_of, link_count}
use Rattle.node_kit.specs.Ways.{way_ahead, way_to_disk, way_from_disk}
use Rattle.node_kit.proofs.Ring.{ends_between}
use Rattle.node_kit.proofs.Ways.{links_sound}
use Rattle.lists.proofs.Elements.{chosen}
use Rattle.proof_lives.proofs.Carrying.{same_ends, steps_made}

-- A link that leads k steps ahead leads from its cub to the k-th cub after it.
pub way_leads : (p : Params) (c k : ℕ) → IsPlan p → c < p.cubs → 1 ≤ k → k ≤ max 2 p.pieces
    → ends_of (links_of p) (way_ahead p c k).0 ≡ Some (c, cub_of p (c + k))
unfolding way_ahead cub_of
way_leads p c k plan here low high =
    let links = links_sound p plan in
    let made : ((c + k) % p.cubs + p.cubs - c) % p.cubs ≡ k =
    steps_made c k p.cubs here (omega (arith, plan.c10, plan.ranges.cubs, plan.ranges.pieces)) in
    let to : (c + k) % p.cubs < p.cubs = mod_below (c + k) p.cubs (omega (arith, plan.ranges.cubs)) in
    let e = ends_between (links_of p) c ((c + k) % p.cubs) links here to (rw made low) (rw made (omega arith)) in
    rw made at e

-- A link leads some steps ahead, from cub a to cub c.
pub record IsAhead (p : Params) (a c : ℕ) (link : LinkNo) : Type 0 where
  pub steps : ℕ
  pub some : 1 ≤ steps
  pub few : steps ≤ max 2 p.pieces
  pub way : link ≡ way_ahead p a steps
  pub to : c ≡ cub_of p (a + steps)

-- The number of a link between two cubs lies in the row of the cub that it leads from.
is_row : (t : Links) (a c l : ℕ) → IsLinks t → ends_of t l ≡ Some (a, c) → a < t.cubs → c < t.cubs
    → (3 * t.cubs ≤ l) × ((l - 3 * t.cubs) / t.reach ≡ a) × ((a + (l - 3 * t.cubs) % t.reach + 1) % t.cubs ≡ c)
is_row t a c l links e from to =
    let to_viewers : ℕ = 2 * t.cubs in
    let ahead : ℕ = 3 * t.cubs in
    let to_disks : ℕ = 3 * t.cubs + t.cubs * t.reach in
    let from_disks : ℕ = 3 * t.cubs + t.cubs * t.reach + t.disks in
    let row : ℕ = (l - ahead) / t.reach in
    let column : ℕ = (l - ahead) % t.reach in
    let Goal : Option (ℕ × ℕ) → Type 0 =
    λ o. o ≡ Some (a, c) → (3 * t.cubs ≤ l) × (row ≡ a) × ((a + column + 1) % t.cubs ≡ c) in
    chosen Goal (nat_lt l t.cubs) (Some (controller_of t, l)) _
    (λ _ e. let s = same_ends _ _ _ _ e in let s0 = s.0 in absurd (omega arith))
    (λ _. chosen Goal (nat_lt l to_viewers) (Some (l - t.cubs, controller_of t)) _
    (λ _ e. let s = same_ends _ _ _ _ e in let s1 = s.1 in absurd (omega arith))
    (λ _. chosen Goal (nat_lt l ahead) (Some (l - to_viewers, viewers_of t)) _
    (λ _ e. let s = same_ends _ _ _ _ e in let s1 = s.1 in absurd (omega arith))
    (λ past. chosen Goal (nat_lt l to_disks) (Some (row, (row + column + 1) % t.cubs)) _
    (λ _ e. let s = same_ends _ _ _ _ e in
    (ltb-false _ _ past, s.0, ap (λ n. (n + column + 1) % t.cubs) (sym s.0) ∙ s.1))
    (λ _. chosen Goal (nat_lt l from_disks) (Some ((l - to_disks) % t.cubs, t.cubs + (l - to_disks))) _
    (λ _ e. let s = same_ends _ _ _ _ e in let s1 = s.1 in absurd (omega arith))
    (λ _. chosen Goal (nat_lt l (link_count t)) (Some (t.cubs + (l - from_disks), (l - from_disks) % t.cubs)) None
    (λ _ e. let s = same_ends _ _ _ _ e in let s0 = s.0 in absurd (omega arith))
    (λ _ e. absurd (cc)))))))
    e

-- Each link between two cubs leads ahead.
pub is_ahead : (p : Params) (a c : ℕ) (link : LinkNo) → IsPlan p → ends_of (links_of p) link.0 ≡ Some (a, c)
    → a < p.cubs → c < p.cubs → IsAhead p a c link
unfolding way_ahead cub_of
is_ahead p a c link plan e from to =
    let reach : ℕ = max 2 p.pieces in
    let r = is_row (links_of p) a c link.0 (links_sound p plan) e from to in
    let low = r.0 in
    let row = r.1 in
    let column : ℕ = (link.0 - 3 * p.cubs) % reach in
    let below : column < reach = mod_below (link.0 - 3 * p.cubs) reach (omega arith) in
    let parts = div-add-mod' (link.0 - 3 * p.cubs) reach in
    let place : (link.0 - 3 * p.cubs) / reach * reach ≡ a * reach = ap (λ n. n * reach) row in
    let number : link.0 ≡ 3 * p.cubs + a * reach + (column + 1 - 1) = omega arith in
    let steps : a + column + 1 ≡ a + (column + 1) = omega arith in
    record {
      steps = column + 1;
      some = omega arith;
      few = omega arith;
      way = ap (λ (n : ℕ). record { 0 = n }) number;
      to = sym r.2 ∙ ap (λ n. n % p.cubs) steps;
    }

-- ---- disks

-- The link to a disk leads from its cub, and the link from the disk leads back.
pub ends_to_disk : (p : Params) (d : ℕ) → d < disk_count p
    → ends_of (links_of p) (way_to_disk p d).0 ≡ Some (cub_of p d, p.cubs + d)
unfolding way_to_disk cub_of
ends_to_disk p d inside =
    let disks = 3 * p.cubs + p.cubs * max 2 p.pieces in
    let past : nat_lt (disks + d) p.cubs ≡ false = le-ltb _ _ (omega arith) in
    let past_controller : nat_lt (disks + d) (2 * p.cubs) ≡ false = le-ltb _ _ (omega arith) in
    let past_viewers : nat_lt (disks + d) (3 * p.cubs) ≡ false = le-ltb _ _ (omega arith) in
    let past_cubs : nat_lt (disks + d) disks ≡ false = le-ltb _ _ (omega arith) in
    let here : nat_lt (disks + d) (disks + p.cubs * p.disks) ≡ true = lt-ltb _ _ (omega arith) in
    let number : disks + d - disks ≡ d = omega arith in
    rw (past, past_controller, past_viewers, past_cubs, here, number) refl

pub ends_from_disk : (p : Params) (d : ℕ) → d < disk_count p
    → ends_of (links_of p) (way_from_disk p d).0 ≡ Some (p.cubs + d, cub_of p d)
unfolding way_from_disk cub_of
ends_from_disk p d inside =
    let disks = 3 * p.cubs + p.cubs * max 2 p.pieces in
    let back = 3 * p.cubs + p.cubs * max 2 p.pieces + p.cubs * p.disks in
    let past : nat_lt (back + d) p.cubs ≡ false = le-ltb _ _ (omega arith) in
    let past_controller : nat_lt (back + d) (2 * p.cubs) ≡ false = le-ltb _ _ (omega arith) in
    let past_viewers : nat_lt (back + d) (3 * p.cubs) ≡ false = le-ltb _ _ (omega arith) in
    let past_cubs : nat_lt (back + d) disks ≡ false = le-ltb _ _ (omega arith) in
    let past_disks : nat_lt (back + d) back ≡ false = le-ltb _ _ (omega arith) in
    let here : nat_lt (back + d) (disks + 2 * (p.cubs * p.disks)) ≡ true = lt-ltb _ _ (omega arith) in
    let number : back + d - back ≡ d = omega arith in
    rw (past, past_controller, past_viewers, past_cubs, past_disks, here, number) refl

-- The only link to a disk is that from its cub.
to_disk : (t : Links) (a d l : ℕ) → IsLinks t → d < t.disks → ends_of t l ≡ Some (a, t.cubs + d)
    → l ≡ 3 * t.cubs + t.cubs * t.reach + d
to_disk t a d l links low e =
    let to_viewers : ℕ = 2 * t.cubs in
    let ahead : ℕ = 3 * t.cubs in
    let to_disks : ℕ = 3 * t.cubs + t.cubs * t.reach in
    let from_disks : ℕ = 3 * t.cubs + t.cubs * t.reach + t.disks in
    let ring = links.ring in
    let Goal : Option (ℕ × ℕ) → Type 0 = λ o. o ≡ Some (a, t.cubs + d) → l ≡ to_disks + d in
    chosen Goal (nat_lt l t.cubs) (Some (controller_of t, l)) _
    (λ few e. let s = same_ends _ _ _ _ e in let q = ltb-true _ _ few in let s1 = s.1 in absurd (omega arith))
    (λ _. chosen Goal (nat_lt l to_viewers) (Some (l - t.cubs, controller_of t)) _
    (λ _ e. let s = same_ends _ _ _ _ e in let s1 = s.1 in absurd (omega arith))
    (λ _. chosen Goal (nat_lt l ahead) (Some (l - to_viewers, viewers_of t)) _
    (λ _ e. let s = same_ends _ _ _ _ e in let s1 = s.1 in absurd (omega arith))
    (λ _. chosen Goal (nat_lt l to_disks)
    (Some ((l - ahead) / t.reach, ((l - ahead) / t.reach + (l - ahead) % t.reach + 1) % t.cubs)) _
    (λ _ e. let s = same_ends _ _ _ _ e in let m = mod_below
    ((l - ahead) / t.reach + (l - ahead) % t.reach + 1) t.cubs (omega arith) in let s1 =
    s.1 in absurd (omega arith))
    (λ past. chosen Goal (nat_lt l from_disks) (Some ((l - to_disks) % t.cubs, t.cubs + (l - to_disks))) _
    (λ _ e. let s = same_ends _ _ _ _ e in let g = ltb-false _ _ past in let s1 = s.1 in omega arith)
    (λ _. chosen Goal (nat_lt l (link_count t)) (Some (t.cubs + (l - from_disks), (l - from_disks) % t.cubs)) None
    (λ _ e. let s = same_ends _ _ _ _ e in let m = mod_below (l - from_disks) t.cubs
    (omega arith) in let s1 = s.1 in absurd (omega arith))
    (λ _ e. absurd (cc)))))))
    e

pub is_to_disk : (p : Params) (a d : ℕ) (link : LinkNo) → IsPlan p → d < disk_count p
    → ends_of (links_of p) link.0 ≡ Some (a, p.cubs + d) → (link ≡ way_to_disk p d) × (a ≡ cub_of p d)
unfolding way_to_disk
is_to_disk p a d link plan low e =
    let n = to_disk (links_of p) a d link.0 (links_sound p plan) low e in
    let way : link ≡ way_to_disk p d = ap (λ (l : ℕ). record { 0 = l }) n in (
      way,
      (same_ends a (p.cubs + d) (cub_of p d) (p.cubs + d)
          (sym e ∙ ap (λ (l : LinkNo). ends_of (links_of p) l.0) way ∙ ends_to_disk p d low)).0,
    )
