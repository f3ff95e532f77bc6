-- Insertion serves a start that waits for one of its disks: the start is put, or no visit of the disk is free when its turn comes.
use Rattle.std.proofs.Common.{◌≡◌, ℕ, List, [], ◌∷◌, ◌++◌, true, false, not, filter, Option, Some, None, refl, sym, ap, subst, ◌∙◌, ⊎_elim, inl, inr}
use Rattle.std.specs.Prelude.{◌⊎◌}
use Rattle.std.proofs.lemmas.Bool.{cases_Bool, cond_both, eqb-true}
use Rattle.tiger_base.specs.declared.number.Stamp.{Stamp}
use Rattle.tiger_base.specs.declared.tenancy.Ask.{Ask}
use Rattle.tiger_base.specs.declared.tenancy.Tenancy.{Tenancy}
use Rattle.tiger_base.specs.declared.message.Msg.{Msg}
use Rattle.slot_plan.specs.declared.params.Params.{Params}
use Rattle.slot_plan.specs.Keys.{Key}
use Rattle.node_kit.specs.declared.journal.What.TheVariants as what
use Rattle.node_kit.specs.declared.outbox.Out.TheVariants as out
use Rattle.node_kit.specs.Steps.{Deed}
use Rattle.node_kit.specs.Deeds.{nothing, each_in_turn}
use Rattle.node_kit.specs.Ways.{predecessor}
use Rattle.insert_queue.specs.Queues.{Queues, is_of}
use Rattle.cub_rules.specs.declared.comeback.Comeback.{Comeback}
use Rattle.cub_rules.specs.declared.store.Store.{Store}
use Rattle.cub_rules.specs.Ticks.{tenancy_from, put_or_wait, free_on, putting_each, is_for, putting_on, putting_own, putting_for_dead, disks_at, inserting_own, inserting_for_dead, inserting_all, inserting}
use Rattle.cub_changes.specs.Laws.{HasPutOf}
use Rattle.lists.specs.Elements.{In}
use Rattle.lists.proofs.Elements.{in_left, in_right, in_filter}
use Rattle.cub_changes.proofs.Closed.{IsClosed, then_by, each_by, if_by}
use Rattle.cub_changes.proofs.Puts.{Drops, own_drops, dead_drops}
use Rattle.std.proofs.Common.{cond, is_some}
use Rattle.cub_changes.proofs.Chains.{own_puts, dead_puts}
use Rattle.node_kit.specs.declared.outbox.Out.{Out}

module _ (P : Store → Deed Msg Store → Type 0) (closed : IsClosed P) (p : Params) (now disk : ℕ) (a : Ask) where
  -- the start was put, or no visit of the disk was free, and P holds of what was done from then on
  abbrev pub Served : Deed Msg Store → Type 0
  Served d =
      HasPutOf a.instance d.outs
      ⊎ ((q : Store) × (free_on p now disk q ≡ None) × (e : Deed Msg Store) × P q e × (e.state ≡ d.state))

  -- P holds of a deed, which changes no belief, and the start waits on or is put
  record Goes (h : Store) (d : Deed Msg Store) : Type 0 where
    is : P h d
    believes : d.state.believes ≡ h.believes
    forth : In a h.starts.waiting → In a d.state.starts.waiting ⊎ HasPutOf a.instance d.outs

  put_first : (d e : Deed Msg Store) → HasPutOf a.instance d.outs → HasPutOf a.instance (d.outs ++ e.outs)
  put_first d e w = (w.0, in_left (out.Act (what.Put w.0)) d.outs e.outs w.1, w.2)

  put_later : (d e : Deed Msg Store) → HasPutOf a.instance e.outs → HasPutOf a.instance (d.outs ++ e.outs)
  put_later d e w = (w.0, in_right (out.Act (what.Put w.0)) d.outs e.outs w.1, w.2)

  goes_closed : IsClosed Goes
  goes_closed = record {
    none = λ h. record { is = closed.none h; believes = refl; forth = λ i. inl i };
    both = λ h d e one two. record {
      is = closed.both h d e one.is two.is;
      believes = two.believes ∙ one.believes;
      forth = λ i. ⊎_elim
          (λ k. ⊎_elim (λ w. inl w) (λ w. inr (put_later d e w)) (two.forth k))
          (λ w. inr (put_first d e w))
          (one.forth i);
    };
  }

  -- what is served stays so, and what waits on is served by what follows
  served_first : (d e : Deed Msg Store) → P d.state e → Served d → Served (record { outs = d.outs ++ e.outs; state = e.state })
  served_first d e more s = ⊎_elim
      (λ w. inl (put_first d e w))
      (λ w. inr (
        w.0,
        w.1,
        record { outs = w.2.outs ++ e.outs; state = e.state },
        closed.both w.0 w.2 e w.3 (subst (λ (q : Store). P q e) (sym w.4) more),
        refl,
      ))
      s

  served_later : (h : Store) (d e : Deed Msg Store) → Goes h d → (In a d.state.starts.waiting → Served e) → In a h.starts.waiting
      → Served (record { outs = d.outs ++ e.outs; state = e.state })
  served_later h d e goes later i = ⊎_elim
      (λ k. ⊎_elim (λ w. inl (put_later d e w)) (λ w. inr w) (later k))
      (λ w. inl (put_first d e w))
      (goes.forth i)

  module _ (put : Tenancy → Store → Deed Msg Store) (drops : Drops put)
      (puts : (t : Tenancy) (h : Store) → In (out.Act (what.Put t)) (put t h).outs) (one : (t : Tenancy) (h : Store) → P h (put t h)) where
    put_goes : (t : Tenancy) (h : Store) → Goes h (put t h)
    put_goes t h = record {
      is = one t h;
      believes = (drops t h).0;
      forth = λ i. ⊎_elim
          (λ (e : is_of t.instance a ≡ true). inr (t, puts t h, eqb-true _ _ e))
          (λ (e : is_of t.instance a ≡ false).
          inl (subst (λ (q : Queues). In a q.waiting) (sym (drops t h).1) (in_filter (λ b. not (is_of t.instance b)) a h.starts.waiting i (ap not e))))
          (cases_Bool (is_of t.instance a));
    }

    wait_goes : (rest : Store → Deed Msg Store) (b : Ask) (o : Option Key) (h : Store) → ((g : Store) → Goes g (rest g))
        → Goes h (put_or_wait put rest b o h)
    wait_goes rest b None h after = goes_closed.none h
    wait_goes rest b (Some k) h after =
        let t : Tenancy = tenancy_from b k in
        then_by Goes goes_closed (put t) rest h (put_goes t h) (after (put t h).state)

    asks_go : (d : ℕ) (asks : List Ask) (h : Store) → Goes h (putting_each put p now d asks h)
    unfolding putting_each
    asks_go d [] h = goes_closed.none h
    asks_go d (b ∷ rest) h = wait_goes (putting_each put p now d rest) b (free_on p now d h) h (asks_go d rest)

    on_goes : (d : ℕ) (h : Store) → Goes h (putting_on put p now d h)
    unfolding putting_on
    on_goes d h = asks_go d (filter (is_for d) h.starts.waiting) h

    disks_go : (ds : List ℕ) (h : Store) → Goes h (each_in_turn (putting_on put p now) ds h)
    disks_go ds = each_by Goes goes_closed (putting_on put p now) ds (λ d i h. on_goes d h)

    wait_served : (rest : List Ask) (after : Store → Deed Msg Store) (b : Ask) (o : Option Key) (h : Store) → free_on p now disk h ≡ o
        → In a (b ∷ rest) → ((g : Store) → In a rest → Served (after g)) → Served (put_or_wait put after b o h)
    wait_served rest after b None h e i more = inr (h, e, nothing h, closed.none h, refl)
    wait_served rest after b (Some k) h e i more =
        let t : Tenancy = tenancy_from b k in
        let g : Store = (put t h).state in
        ⊎_elim
        (λ q. inl (put_first (put t h) (after g) (t, puts t h, ap (λ (x : Ask). x.instance.0) q)))
        (λ q. ⊎_elim (λ w. inl (put_later (put t h) (after g) w)) (λ w. inr w) (more g q))
        i

    asks_served : (asks : List Ask) (h : Store) → In a asks → Served (putting_each put p now disk asks h)
    unfolding putting_each
    asks_served [] h i = absurd i
    asks_served (b ∷ rest) h i =
        wait_served rest (putting_each put p now disk rest) b (free_on p now disk h) h refl i (asks_served rest)

    module _ (for : is_for disk a ≡ true) where
      on_served : (h : Store) → In a h.starts.waiting → Served (putting_on put p now disk h)
      unfolding putting_on
      on_served h i = asks_served (filter (is_for disk) h.starts.waiting) h (in_filter (is_for disk) a h.starts.waiting i for)

      disks_served : (ds : List ℕ) (h : Store) → In disk ds → In a h.starts.waiting
          → Served (each_in_turn (putting_on put p now) ds h)
      disks_served [] h there i = absurd there
      disks_served (d ∷ ds) h there i =
          let first : Deed Msg Store = putting_on put p now d h in
          let rest : Deed Msg Store = each_in_turn (putting_on put p now) ds first.state in
          ⊎_elim
          (λ (q : disk ≡ d).
          served_first first rest (disks_go ds first.state).is (subst (λ n. Served (putting_on put p now n h)) q (on_served h i)))
          (λ k. served_later h first rest (on_goes d h) (disks_served ds first.state k) i)
          there

module _ (P : Store → Deed Msg Store → Type 0) (closed : IsClosed P) (p : Params) (c : ℕ) (stamp : Stamp) (disk : ℕ) (a : Ask)
    (own : (t : Tenancy) (h : Store) → P h (putting_own p c t h)) (dead : (t : Tenancy) (h : Store) → P h (putting_for_dead p c t h))
    (for : is_for disk a ≡ true) where
  own_put : (t : Tenancy) (h : Store) → In (out.Act (what.Put t)) (putting_own p c t h).outs
  own_put t h = subst (λ (os : List (Out Msg)). In (out.Act (what.Put t)) os) (own_puts p c t h) (inl refl)

  dead_put : (t : Tenancy) (h : Store) → In (out.Act (what.Put t)) (putting_for_dead p c t h).outs
  dead_put t h = subst (λ (os : List (Out Msg)). In (out.Act (what.Put t)) os) (dead_puts p c t h) (inl refl)

  abbrev theirs : List ℕ
  theirs = disks_at p (predecessor p c)

  abbrev turn : Store → Deed Msg Store
  turn g = each_in_turn (putting_on (putting_for_dead p c) p stamp.reading) theirs g

  -- on a disk of the cub, or of its predecessor if it believes that one dead
  abbrev pub IsServed : Deed Msg Store → Type 0
  IsServed = Served P closed p stamp.reading disk a

  on_own : (h : Store) → In a h.starts.waiting → In disk (disks_at p c) → IsServed (inserting_all p c stamp h)
  unfolding inserting_all
  on_own h i there =
      let g : Store = (inserting_own p c stamp h).state in
      served_first P closed p stamp.reading disk a (inserting_own p c stamp h) (inserting_for_dead p c stamp g)
      (if_by P closed g.believes g (turn g) (nothing g)
      (λ _. (disks_go P closed p stamp.reading disk a (putting_for_dead p c) (dead_drops p c) dead_put dead theirs g).is)
      (λ _. closed.none g))
      (disks_served P closed p stamp.reading disk a (putting_own p c) (own_drops p c) own_put own for (disks_at p c) h there i)

  on_theirs : (h : Store) → In a h.starts.waiting → h.believes ≡ true → In disk theirs → IsServed (inserting_all p c stamp h)
  unfolding inserting_all
  on_theirs h i believes there =
      let g : Store = (inserting_own p c stamp h).state in
      let goes = disks_go P closed p stamp.reading disk a (putting_own p c) (own_drops p c) own_put own (disks_at p c) h in
      served_later P closed p stamp.reading disk a h (inserting_own p c stamp h) (inserting_for_dead p c stamp g) goes
      (λ k.
      cond_both g.believes (turn g) (nothing g) IsServed
      (λ _. disks_served P closed p stamp.reading disk a (putting_for_dead p c) (dead_drops p c) dead_put dead for theirs g there k)
      (λ f. let z : true ≡ false = sym (goes.believes ∙ believes) ∙ f in absurd (cc)))
      i

  pub insertion_serves : (h : Store) → h.comeback ≡ None → In a h.starts.waiting
      → In disk (disks_at p c) ⊎ ((h.believes ≡ true) × In disk theirs) → IsServed (inserting p c stamp h)
  unfolding inserting
  insertion_serves h first i there =
      subst (λ (o : Option Comeback). IsServed (cond (is_some o) (nothing h) (inserting_all p c stamp h))) (sym first)
      (⊎_elim (λ k. on_own h i k) (λ k. on_theirs h i k.0 k.1) there)
