-- A closed relation that holds of each Put, as a whole or change by change, holds of insertion.
use Rattle.std.proofs.Common.{◌≡◌, ℕ, ◌+◌, List, [], ◌∷◌, ◌++◌, filter, Bool, true, false, not, nat_lt, cond, is_some, Option, Some, None, refl, ◌∙◌, sym, ap, subst, ⊎_elim, inl, inr}
use Rattle.std.specs.Prelude.{◌⊎◌}
use Rattle.std.proofs.lemmas.Bool.{cond_both}
use Rattle.tiger_base.specs.declared.number.Instance.{Instance}
use Rattle.tiger_base.specs.declared.number.Stamp.{Stamp}
use Rattle.tiger_base.specs.declared.tenancy.Ask.{Ask}
use Rattle.tiger_base.specs.declared.tenancy.Rec.{Rec}
use Rattle.tiger_base.specs.declared.tenancy.Tenancy.{Tenancy}
use Rattle.tiger_base.specs.declared.message.Msg.{Msg}
use Rattle.tiger_base.specs.declared.message.Msg.TheVariants as msg
use Rattle.tiger_base.specs.Records.{own_of, backup_of}
use Rattle.slot_plan.specs.declared.params.Params.{Params}
use Rattle.slot_plan.specs.Keys.{Key}
use Rattle.node_kit.specs.declared.outbox.Out.TheVariants as out
use Rattle.node_kit.specs.Steps.{Deed}
use Rattle.insert_queue.specs.Queues.{Queues, is_of, has_start, without_start, IsOnce}
use Rattle.insert_queue.proofs.Once.{none_of, IsOnce-without, once_front}
use Rattle.node_kit.specs.Deeds.{nothing, then_do, each_in_turn}
use Rattle.node_kit.specs.Ways.{way_ahead, predecessor}
use Rattle.cub_rules.specs.declared.store.Store.{Store}
use Rattle.cub_rules.specs.Records.{took}
use Rattle.cub_rules.specs.Ticks.{disks_at, tenancy_from, sending, putting, told_placed, putting_own, putting_for_dead, put_or_wait, free_on, putting_each, is_for, putting_on, inserting_own, inserting_all, inserting_for_dead, inserting}
use Rattle.cub_changes.specs.Changes.{did}
use Rattle.cub_changes.specs.Changes.Change.{PutStart, SendFirst, SendPlaced}
use Rattle.cub_changes.specs.Causes.{IsRecordOfPut, Fills}
use Rattle.lists.specs.Elements.{In}
use Rattle.cub_changes.specs.Causes.Stage.{OnInsertion}
use Rattle.cub_changes.proofs.Closed.{IsClosed, OfEach, none_is, then_by, if_by}
use Rattle.lists.proofs.Elements.{from_filter, in_filter}
use Rattle.cub_changes.proofs.Messages.{took_by, took_of}

module _ (P : Store → Deed Msg Store → Type 0) (closed : IsClosed P) (p : Params) (c : ℕ) (stamp : Stamp) where
  -- ---- what a Put is made of
  pub own_from : (t : Tenancy) (h : Store) → P h (did p c stamp (PutStart t) h)
      → ((q : Store) → P q (took (own_of t t.first) q))
      → ((q : Store) → P q (did p c stamp (SendFirst t) q)) → P h (putting_own p c t h)
  unfolding putting_own
  own_from t h start take send =
      let last : Store → Deed Msg Store = sending (out.Send (way_ahead p c 1) (msg.ViewerState (record { tenancy = t; visit = t.first })) ∷ told_placed p c t ∷ []) in
      let g : Store = (putting t h).state in
      then_by P closed (putting t) (then_do (took (own_of t t.first)) last) h start
      (then_by P closed (took (own_of t t.first)) last g (take g) (send (took (own_of t t.first) g).state))

  pub dead_from : (t : Tenancy) (h : Store) → P h (did p c stamp (PutStart t) h)
      → ((q : Store) → P q (took (backup_of t t.first) q))
      → ((q : Store) → nat_lt t.first t.last ≡ true → P q (took (own_of t (t.first + 1)) q))
      → ((q : Store) → P q (did p c stamp (SendPlaced t) q)) → P h (putting_for_dead p c t h)
  unfolding putting_for_dead
  dead_from t h start take more send =
      let last : Store → Deed Msg Store = sending (told_placed p c t ∷ []) in
      let second : Store → Deed Msg Store = cond (nat_lt t.first t.last) (took (own_of t (t.first + 1))) nothing in
      let g : Store = (putting t h).state in
      let g1 : Store = (took (backup_of t t.first) g).state in
      then_by P closed (putting t) (then_do (took (backup_of t t.first)) (then_do second last)) h start
      (then_by P closed (took (backup_of t t.first)) (then_do second last) g (take g)
      (then_by P closed second last g1
      (cond_both (nat_lt t.first t.last) (took (own_of t (t.first + 1))) nothing (λ (f : Store → Deed Msg Store). P g1 (f g1))
      (λ e. more g1 e) (λ _. closed.none g1))
      (send (second g1).state)))

-- ---- a Put changes no belief, and drops the starts of its instance
abbrev pub Drops : (Tenancy → Store → Deed Msg Store) → Type 0
Drops put = (t : Tenancy) (h : Store)
    → ((put t h).state.believes ≡ h.believes) × ((put t h).state.starts ≡ without_start h.starts t.instance)

took_same : (r : Rec) (h : Store) → ((took r h).state.believes ≡ h.believes) × ((took r h).state.starts ≡ h.starts)
took_same r h =
    took_of (λ (d : Deed Msg Store). (d.state.believes ≡ h.believes) × (d.state.starts ≡ h.starts)) r h
    (λ _. (refl, refl)) (λ _. (refl, refl))

second_same : (t : Tenancy) (h : Store) → let d = cond (nat_lt t.first t.last) (took (own_of t (t.first + 1))) nothing h in
    (d.state.believes ≡ h.believes) × (d.state.starts ≡ h.starts)
second_same t h =
    cond_both (nat_lt t.first t.last) (took (own_of t (t.first + 1))) nothing
    (λ (f : Store → Deed Msg Store). ((f h).state.believes ≡ h.believes) × ((f h).state.starts ≡ h.starts))
    (λ _. took_same (own_of t (t.first + 1)) h) (λ _. (refl, refl))

pub own_drops : (p : Params) (c : ℕ) → Drops (putting_own p c)
unfolding putting_own
own_drops p c t h = took_same (own_of t t.first) (putting t h).state

pub dead_drops : (p : Params) (c : ℕ) → Drops (putting_for_dead p c)
unfolding putting_for_dead
dead_drops p c t h =
    let g : Store = (putting t h).state in
    let one = took_same (backup_of t t.first) g in
    let two = second_same t (took (backup_of t t.first) g).state in
    (two.0 ∙ one.0, two.1 ∙ one.1)

-- ---- starts of which each instance has one
none_filtered : (test : Ask → Bool) (asks : List Ask) (v : Instance) → has_start asks v ≡ false → has_start (filter test asks) v ≡ false
none_filtered test [] v e = refl
none_filtered test (a ∷ rest) v e =
    let both = none_of (is_of v a) (has_start rest v) e in
    cond_both (test a) (a ∷ filter test rest) (filter test rest) (λ bs. has_start bs v ≡ false)
    (λ _. rw both.0 (none_filtered test rest v both.1)) (λ _. none_filtered test rest v both.1)

once_filtered : (test : Ask → Bool) (asks : List Ask) → IsOnce asks → IsOnce (filter test asks)
once_filtered test [] o = tt
once_filtered test (a ∷ rest) o =
    cond_both (test a) (a ∷ filter test rest) (filter test rest) (λ bs. IsOnce bs)
    (λ _. (none_filtered test rest a.instance o.0, once_filtered test rest o.1)) (λ _. once_filtered test rest o.1)

-- where none is of an instance, each is of another
others : (v : Instance) (asks : List Ask) → has_start asks v ≡ false → (a : Ask) → In a asks → is_of v a ≡ false
others v [] e a i = absurd i
others v (b ∷ rest) e a i =
    let both = none_of (is_of v b) (has_start rest v) e in
    ⊎_elim (λ q. ap (is_of v) q ∙ both.0) (λ k. others v rest both.1 a k) i

abbrev pub AreOnce : Store → Type 0
AreOnce h = IsOnce (h.starts.waiting ++ h.starts.redundant)

-- ---- insertion: it changes no belief, no start joins those that wait, and each stands there once
pub record IsFewer (from h : Store) : Type 0 where
  pub believes : h.believes ≡ from.believes
  pub fewer : (a : Ask) → In a h.starts.waiting → In a from.starts.waiting
  pub once : AreOnce from → AreOnce h

pub fewer_same : (h : Store) → IsFewer h h
fewer_same h = record { believes = refl; fewer = λ a i. i; once = λ o. o }

fewer_then : (from h : Store) (put : Tenancy → Store → Deed Msg Store) → Drops put → (t : Tenancy) → IsFewer from h → IsFewer from (put t h).state
fewer_then from h put drops t f =
    let d = drops t h in
    record {
      believes = d.0 ∙ f.believes;
      fewer = λ a i. f.fewer a (from_filter (λ b. not (is_of t.instance b)) a h.starts.waiting (subst (λ (q : Queues). In a q.waiting) d.1 i)).0;
      once = λ o. subst (λ (q : Queues). IsOnce (q.waiting ++ q.redundant)) (sym d.1) (IsOnce-without h.starts.waiting h.starts.redundant t.instance (f.once o));
    }

-- the disks on which a cub may put when its insertion began with from
abbrev MayPutOn : Params → ℕ → Store → ℕ → Type 0
MayPutOn p c from disk = In disk (disks_at p c) ⊎ (In disk (disks_at p (predecessor p c)) × (from.believes ≡ true))

-- Starts that are put one after another: what holds of each Put holds of all, and what is known when each begins is known at the end.
module _ (P : Store → Deed Msg Store → Type 0) (closed : IsClosed P) (p : Params) (c : ℕ) (stamp : Stamp) (from : Store)
    (first : from.comeback ≡ None) (put : Tenancy → Store → Deed Msg Store) (drops : Drops put) (on : ℕ → Type 0) (may : (disk : ℕ) → on disk → MayPutOn p c from disk)
    (one : (t : Tenancy) (h : Store) (o : Fills p c stamp from t h) → on o.disk → P h (put t h)) where
  -- what all these Puts are, from a store that insertion comes by
  abbrev Goes : Store → Deed Msg Store → Type 0
  Goes h d = P h d × IsFewer from d.state

  -- these starts wait for a disk
  record Wait (disk : ℕ) (asks : List Ask) (h : Store) : Type 0 where
    for : (a : Ask) → In a asks → (is_for disk a ≡ true) × In a from.starts.waiting
    still : AreOnce from → (a : Ask) → In a asks → In a h.starts.waiting
    single : AreOnce from → IsOnce asks

  rest_waits : (disk : ℕ) (a : Ask) (rest : List Ask) (k : Key) (h : Store) → Wait disk (a ∷ rest) h
      → Wait disk rest (put (tenancy_from a k) h).state
  rest_waits disk a rest k h w = record {
    for = λ b i. w.for b (inr i);
    still = λ o b i.
        subst (λ (q : Queues). In b q.waiting) (sym (drops (tenancy_from a k) h).1)
        (in_filter (λ x. not (is_of a.instance x)) b h.starts.waiting (w.still o b (inr i)) (ap not (others a.instance rest (w.single o).0 b i)));
    single = λ o. (w.single o).1;
  }

  wait_by : (disk : ℕ) → on disk → (rest : List Ask) (a : Ask) (h : Store) → IsFewer from h → Wait disk (a ∷ rest) h
      → (after : Store → Deed Msg Store) → ((g : Store) → IsFewer from g → Wait disk rest g → Goes g (after g))
      → (o : Option Key) → free_on p stamp.reading disk h ≡ o → Goes h (put_or_wait put after a o h)
  wait_by disk here rest a h f w after more None e = (closed.none h, f)
  wait_by disk here rest a h f w after more (Some k) e =
      let t : Tenancy = tenancy_from a k in
      let mine = w.for a (inl refl) in
      let next = more (put t h).state (fewer_then from h put drops t f) (rest_waits disk a rest k h w) in
      let o : Fills p c stamp from t h = record {
        ask = a;
        key = k;
        disk = disk;
        is = refl;
        on = mine.0;
        waits = mine.1;
        still = λ once. w.still once a (inl refl);
        free = e;
        first_life = first;
        here = may disk here;
      } in
      (then_by P closed (put t) after h (one t h o here) next.0, next.1)

  asks_by : (disk : ℕ) → on disk → (asks : List Ask) (h : Store) → IsFewer from h → Wait disk asks h
      → Goes h (putting_each put p stamp.reading disk asks h)
  unfolding putting_each
  asks_by disk here [] h f w = (closed.none h, f)
  asks_by disk here (a ∷ rest) h f w =
      wait_by disk here rest a h f w (putting_each put p stamp.reading disk rest) (asks_by disk here rest) (free_on p stamp.reading disk h) refl

  disk_by : (disk : ℕ) → on disk → (h : Store) → IsFewer from h → Goes h (putting_on put p stamp.reading disk h)
  unfolding putting_on
  disk_by disk here h f =
      asks_by disk here (filter (is_for disk) h.starts.waiting) h f
      (record {
        for = λ a i. let k = from_filter (is_for disk) a h.starts.waiting i in (k.1, f.fewer a k.0);
        still = λ o a i. (from_filter (is_for disk) a h.starts.waiting i).0;
        single = λ o. once_filtered (is_for disk) h.starts.waiting (once_front h.starts.waiting h.starts.redundant (f.once o));
      })

  pub disks_by : (disks : List ℕ) → ((disk : ℕ) → In disk disks → on disk) → (h : Store) → IsFewer from h
      → Goes h (each_in_turn (putting_on put p stamp.reading) disks h)
  disks_by [] here h f = (closed.none h, f)
  disks_by (d ∷ ds) here h f =
      let first = disk_by d (here d (inl refl)) h f in
      let rest = disks_by ds (λ e i. here e (inr i)) (putting_on put p stamp.reading d h).state first.1 in
      (then_by P closed (putting_on put p stamp.reading d) (each_in_turn (putting_on put p stamp.reading) ds) h first.0 rest.0, rest.1)

-- the disks of the cub, and of its predecessor
abbrev IsHere : Params → ℕ → ℕ → Type 0
IsHere p c disk = In disk (disks_at p c)

abbrev IsThere : Params → ℕ → Store → ℕ → Type 0
IsThere p c from disk = In disk (disks_at p (predecessor p c)) × (from.believes ≡ true)

module _ (P : Store → Deed Msg Store → Type 0) (closed : IsClosed P) (p : Params) (c : ℕ) (stamp : Stamp) (from : Store)
    (own : (t : Tenancy) (h : Store) (o : Fills p c stamp from t h) → In o.disk (disks_at p c) → P h (putting_own p c t h)) where
  -- of insertion on the cub's own disks, and what it leaves
  own_by : from.comeback ≡ None → P from (inserting_own p c stamp from) × IsFewer from (inserting_own p c stamp from).state
  own_by first =
      disks_by P closed p c stamp from first (putting_own p c) (own_drops p c) (IsHere p c) (λ d i. inl i) own (disks_at p c)
      (λ d i. i) from (fewer_same from)

  -- of all insertion: what holds of each Put, of the cub's own and for its predecessor
  pub puts_by : ((t : Tenancy) (h : Store) (o : Fills p c stamp from t h) → from.believes ≡ true → In o.disk (disks_at p (predecessor p c)) → P h (putting_for_dead p c t h))
      → P from (inserting p c stamp from)
  unfolding inserting inserting_all
  puts_by dead =
      if_by P closed (is_some from.comeback) from (nothing from) (inserting_all p c stamp from) (λ _. closed.none from)
      (λ f. in_first_life (none_is from.comeback f))
    where
      in_first_life : from.comeback ≡ None → P from (inserting_all p c stamp from)
      in_first_life first =
          let g : Store = (inserting_own p c stamp from).state in
          let mine = own_by first in
          then_by P closed (inserting_own p c stamp) (inserting_for_dead p c stamp) from mine.0
          (if_by P closed g.believes g (each_in_turn (putting_on (putting_for_dead p c) p stamp.reading) (disks_at p (predecessor p c)) g) (nothing g)
          (λ e.
          let believed = sym mine.1.believes ∙ e in
          (disks_by P closed p c stamp from first (putting_for_dead p c) (dead_drops p c) (IsThere p c from) (λ d i. inr i)
          (λ t h o i. dead t h o believed i.0) (disks_at p (predecessor p c)) (λ d i. (i, believed)) g mine.1).0)
          (λ _. closed.none g))

module _ (P : Store → Deed Msg Store → Type 0) (closed : IsClosed P) (p : Params) (c : ℕ) (stamp : Stamp) where
  pub inserting_by : (from : Store) → OfEach P p c stamp OnInsertion from → P from (inserting p c stamp from)
  inserting_by from each =
      let take : (t : Tenancy) (h : Store) (o : Fills p c stamp from t h) (r : Rec) → IsRecordOfPut p c o.disk t r → (q : Store) → P q (took r q) =
      λ t h o r k q. took_by P closed p c stamp OnInsertion from each r (t, h, o, k) q in
      puts_by P closed p c stamp from
      (λ t h o i.
      own_from P closed p c stamp t h (each (PutStart t) h (tt, o)) (take t h o (own_of t t.first) (inl (i, refl)))
      (λ q. each (SendFirst t) q (tt, record { store = h; fills = o; own = i })))
      (λ t h o b i.
      dead_from P closed p c stamp t h (each (PutStart t) h (tt, o)) (take t h o (backup_of t t.first) (inr (i, inl refl)))
      (λ q e. take t h o (own_of t (t.first + 1)) (inr (i, inr (refl, e))) q)
      (λ q. each (SendPlaced t) q (h, o)))
