-- In a house that is never full, in which nothing fails, who presses play is served.
use Rattle.std.proofs.Common.{◌≡◌, ◌≢◌, ℕ, ◌+◌, ◌%◌, ◌<◌, ◌≤◌, Bool, true, false, not, List, [], ◌∷◌, length, filter, Option, Some, None, refl, sym, ap, subst, ◌∙◌, arith, ⊎_elim, inl}
use Rattle.std.specs.Prelude.{◌==◌}
use Rattle.std.specs.List.{AllByRecursion}
use Rattle.std.proofs.lemmas.Bool.{cases_Bool, eq-eqb, ne_eqb, true≢false}
use Rattle.std.proofs.lemmas.Nat.{mod_below}
use Rattle.tiger_base.specs.declared.tenancy.Ask.{Ask}
use Rattle.tiger_base.specs.declared.tenancy.Tenancy.{Tenancy}
use Rattle.slot_plan.specs.Times.{cub_of, disk_of, disk_count}
use Rattle.slot_plan.proofs.Times.{product_le, cub_below}
use Rattle.node_kit.specs.declared.course.Kept.{Kept}
use Rattle.node_kit.specs.declared.course.Order.{Order}
use Rattle.node_kit.specs.declared.course.OrderKind.{OrderKind}
use Rattle.node_kit.specs.declared.course.OrderKind.TheVariants as kind
use Rattle.node_kit.specs.declared.course.ReadFault.{ReadFault}
use Rattle.run_facts.specs.Commanded.{stop_ordered}
use Rattle.run_facts.specs.Order.{beat_of}
use Rattle.run_model.specs.Orders.{IsOrdered, IsTenancyFor}
use Rattle.run_model.specs.Runs.{order_in}
use Rattle.run_model.specs.Served.{IsPut}
use Rattle.lists.specs.Elements.{In}
use Rattle.proof_moments.proofs.Lists.{any_by}
use Rattle.lists.proofs.Elements.{in_filter}
use Rattle.run_promises.specs.Kept.{IsKeptWell, after_tick, WasPut}
use Rattle.run_promises.specs.Waits.{Wait, IsWaiting, IsATurn}
use Rattle.run_promises.specs.Placing.{HasRoom}
use Rattle.run_promises.specs.Served.{IsSettledVisit, Came}
use Rattle.run_promises.specs.House.{begun_by, begun, NothingFails, PressesPlay, IsNeverFull, WhoPressesPlayIsServed}
use Rattle.run_promises.proofs.Fronts.{holder_by_tick, stopped_by_tick}
use Rattle.run_promises.proofs.Journals.{into_flat_map, put_in_order, rightly_put}
use Rattle.run_promises.proofs.Starts.{was_ordered}
use Rattle.run_promises.proofs.Stops.{stop_was_ordered}
use Rattle.run_promises.proofs.Tried.{not_earlier}
use Rattle.run_promises.proofs.Room.{who_finds_room_is_put, the_first_block_is_due_soon}
use Rattle.run_promises.proofs.Served.{what_nothing_hinders_comes}

-- ---- the others

abbrev is_other : ℕ → ℕ → Bool
is_other v u = not (u == v)

not_longer : (v : ℕ) (xs : List ℕ) → length (filter (is_other v) xs) ≤ length xs
not_longer v [] = omega arith
not_longer v (x ∷ xs) = let h = not_longer v xs in ⊎_elim
    (λ (t : is_other v x ≡ true). rw t (omega arith))
    (λ (f : is_other v x ≡ false). rw f (omega arith))
    (cases_Bool (is_other v x))

is_not_other : (v u : ℕ) → v ≡ u → is_other v u ≡ false
is_not_other v u e = rw (eq-eqb u v (sym e)) refl

-- without an element a list is shorter
shorter : (v : ℕ) (xs : List ℕ) → In v xs → length (filter (is_other v) xs) < length xs
shorter v [] i = absurd i
shorter v (x ∷ xs) i = ⊎_elim
    (λ e. let h = not_longer v xs in rw (is_not_other v x e) (omega arith))
    (λ j. let h = shorter v xs j in ⊎_elim
    (λ (t : is_other v x ≡ true). rw t (omega arith))
    (λ (f : is_other v x ≡ false). rw f (omega arith))
    (cases_Bool (is_other v x)))
    i

is_begun : (orders : List Order) (ask : Ask) → IsOrdered orders ask → In ask.instance.0 (begun orders)
is_begun orders ask h =
    let o = any_by (λ (o : Order). o.what ≡ kind.Begin ask) orders h in
    into_flat_map (λ (o : Order). begun_by o.what) ask.instance.0 orders o.0 o.1
    (subst (λ (w : OrderKind). In ask.instance.0 (begun_by w)) (sym o.2) (inl refl))

-- whoever has a slot was begun by an order
holder_is_begun : (k : Kept) (c beat slot : ℕ) (t : Tenancy) → IsKeptWell k → (after_tick k c beat).schedule.holder slot ≡ Some t
    → In t.instance.0 (begun k.orders)
holder_is_begun k c beat slot t w held =
    let put = (rightly_put k t w (holder_by_tick (order_in k) c beat slot t held).0).1 in
    let same : put.ask.instance.0 ≡ t.instance.0 = ap (λ i. i.0) put.asked.instance in
    subst (λ (v : ℕ). In v (begun k.orders)) same (is_begun k.orders put.ask put.ordered)

pub room : (k : Kept) (a : Wait) → IsKeptWell k → IsOrdered k.orders a.ask → IsNeverFull k a.from a.last → HasRoom k a
room k a w ordered full =
    let v : ℕ = a.ask.instance.0 in
    let less = shorter v (begun k.orders) (is_begun k.orders a.ask ordered) in
    let few = full.few in
    record {
      others = filter (is_other v) (begun k.orders);
      all = λ beat slot t low high held other.
          in_filter (is_other v) t.instance.0 (begun k.orders) (holder_is_begun k a.cub beat slot t w held) (rw (ne_eqb t.instance.0 v other) refl);
      few = omega arith;
      stops = full.stops;
    }

-- ---- the wait

turn_rises : (k : Kept) (from last : ℕ) → IsATurn k.course.plan.params from last → from ≤ last
turn_rises k from last turn =
    let p = k.course.plan.params in
    let r = k.course.plan.sound.ranges in
    let tight = k.course.plan.sound.c2 in
    let disks = product_le 3 1 p.cubs p.disks r.cubs.0 r.disks.0 in
    let long = product_le 1 p.play (disk_count p) p.play (omega arith) (omega arith) in
    let whole = turn.0 in
    not_earlier p from last k.course.plan.sound (omega arith)

-- who presses play, at the cub of the disk
abbrev waiting : Kept → Ask → ℕ → ℕ → Wait
waiting k ask ordered last = record {
  ask = ask;
  ordered = ordered;
  cub = ask.disk.0 % k.course.plan.params.cubs;
  from = ordered + k.course.plan.params.delay;
  last = last;
}

death_of_none : (death : Option ℕ) (d : ℕ) → death ≡ None → death ≡ Some d → ⊥
death_of_none death d a b = absurd (cc)

is_waiting : (k : Kept) (ask : Ask) (ordered last : ℕ) → PressesPlay k ask ordered → IsATurn k.course.plan.params (ordered + k.course.plan.params.delay) last
    → last < k.course.beats → NothingFails k → IsWaiting k (waiting k ask ordered last)
is_waiting k ask ordered last play turn ends nothing =
    let p = k.course.plan.params in
    let r = k.course.plan.sound.ranges in
    let small : ask.disk.0 % p.cubs < p.cubs = mod_below ask.disk.0 p.cubs (omega (arith, r.cubs)) in
    record {
      asked = play.ordered;
      disk = play.disk;
      small = small;
      its_cub = inl refl;
      came = omega arith;
      rises = turn_rises k (ordered + p.delay) last turn;
      ends = ends;
      lives = λ death d. absurd (death_of_none _ death (nothing.deaths (ask.disk.0 % p.cubs) small) d);
    }

-- ---- the blocks

block_comes : (k : Kept) (t : Tenancy) (visit : ℕ) → IsKeptWell k → IsPut k.journals t → NothingFails k
    → ((b : ℕ) → stop_ordered k.orders t.instance.0 b ≡ false) → IsSettledVisit k t visit → Came k t visit
block_comes k t visit w put nothing unstopped settled =
    let p = k.course.plan.params in
    what_nothing_hinders_comes k w t visit put settled
    (λ b o. absurd (true≢false (sym o ∙ unstopped b)))
    (λ death d. absurd (death_of_none _ death (nothing.deaths (cub_of p visit) (cub_below p visit k.course.plan.sound.ranges)) d))
    (subst (λ (fs : List ReadFault). AllByRecursion (λ (f : ReadFault). f.disk.0 ≢ disk_of p visit) fs) (sym nothing.faults) tt)

pub who_presses_play_is_served : (k : Kept) → IsKeptWell k → WhoPressesPlayIsServed k
who_presses_play_is_served k w ask ordered last wide play turn ends full nothing =
    let p = k.course.plan.params in
    let a = waiting k ask ordered last in
    let h = is_waiting k ask ordered last play turn ends nothing in
    let start = was_ordered k.orders ask ordered play.ordered in
    let put : WasPut (after_tick k a.cub last) ask.instance.0 = ⊎_elim
    (λ t. t)
    (λ gone.
    let g = stopped_by_tick (order_in k) a.cub last ask.instance.0 gone in
    absurd (true≢false (sym (stop_was_ordered k ask.instance.0 w g) ∙ play.unstopped (beat_of g.entry))))
    (who_finds_room_is_put k w a wide h turn (room k a w start full)) in
    let place = the_first_block_is_due_soon k w a.cub last ask.instance.0 put in
    let t : Tenancy = place.0 in
    let q = put_in_order k t w place.1.put in
    let rightly = (rightly_put k t w q).1 in
    let same : rightly.ask ≡ ask = play.alone rightly.ask rightly.ordered (is_its rightly.ask t ask rightly.asked.instance place.1.instance) in
    let asked : IsTenancyFor p ask t = subst (λ (x : Ask). IsTenancyFor p x t) same rightly.asked in
    record {
      tenancy = t;
      put = place.1.put;
      asked = asked;
      in_time = put;
      soon = place.1.soon;
      blocks = λ visit settled. block_comes k t visit w place.1.put nothing
          (subst (λ (v : ℕ). (b : ℕ) → stop_ordered k.orders v b ≡ false) (sym place.1.instance) play.unstopped) settled;
    }
  where
    is_its : (own : Ask) (t : Tenancy) (ask : Ask) → own.instance ≡ t.instance → t.instance.0 ≡ ask.instance.0 → own.instance ≡ ask.instance
    is_its own t ask e f = e ∙ ap (λ (n : ℕ). record { 0 = n }) f
