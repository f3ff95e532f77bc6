-- One Put: on a disk of the cub's own, and on one of its predecessor.
use Rattle.std.proofs.Common.{◌≡◌, ℕ, ◌+◌, ◌-◌, ◌<◌, ◌≤◌, ◌%◌, nat_lt, List, [], ◌∷◌, true, false, refl, sym, ap, subst, ◌∙◌, arith, ⊎_elim, inl, inr}
use Rattle.std.specs.Prelude.{◌⊎◌}
use Rattle.std.specs.List.{AllByRecursion}
use Rattle.std.proofs.lemmas.Bool.{eqb-true, ltb-true}
use Rattle.tiger_base.specs.declared.number.Stamp.{Stamp}
use Rattle.tiger_base.specs.declared.tenancy.Kind.{Kind}
use Rattle.tiger_base.specs.declared.tenancy.Kind.TheVariants.{Own, Backup}
use Rattle.tiger_base.specs.declared.tenancy.Rec.{Rec}
use Rattle.tiger_base.specs.declared.tenancy.State.{State}
use Rattle.tiger_base.specs.declared.tenancy.Tenancy.{Tenancy}
use Rattle.tiger_base.specs.declared.message.Msg.{Msg}
use Rattle.tiger_base.specs.declared.message.Msg.TheVariants as msg
use Rattle.tiger_base.specs.Records.{own_of, backup_of}
use Rattle.slot_plan.specs.declared.params.Params.{Params}
use Rattle.slot_plan.specs.Conditions.{IsPlan}
use Rattle.slot_plan.specs.Times.{due, cub_of, disk_of}
use Rattle.node_kit.specs.declared.journal.What.TheVariants as what
use Rattle.node_kit.specs.declared.outbox.Out.{Out}
use Rattle.node_kit.specs.declared.outbox.Out.TheVariants as out
use Rattle.node_kit.specs.Steps.{Deed}
use Rattle.partial_view.specs.Lines.{visit_of}
use Rattle.node_kit.specs.Ways.{way_ahead, predecessor}
use Rattle.cub_rules.specs.declared.store.Store.{Store}
use Rattle.cub_rules.specs.Records.{took}
use Rattle.cub_rules.specs.Ticks.{disks_at, putting, told_placed, putting_own, putting_for_dead}
use Rattle.cub_changes.proofs.Numbers.{visit_own, next_own, disks_own, predecessor_below}
use Rattle.cub_changes.specs.Changes.{did}
use Rattle.cub_changes.specs.Changes.Change.{TakeRecord, PutStart, SendFirst, SendPlaced}
use Rattle.cub_changes.specs.Causes.{Fills}
use Rattle.lists.proofs.Each.{all_wider, all_in}
use Rattle.cub_changes.proofs.Outputs as outputs
use Rattle.cub_changes.proofs.Puts.{own_from, dead_from}
use Rattle.proof_schedule.specs.Facts.{IsGiven}
use Rattle.lists.specs.Elements.{In}
use Rattle.cub_changes.proofs.Messages.{took_of}
use Rattle.lists.proofs.Elements.{in_left, in_right}
use Rattle.proof_lives.proofs.Moves.{Never, IsMeek, taken_out, is_taken, took_new, untaken, take_moves}
use Rattle.proof_lives.proofs.Inserting.{Nobody, put_out, state_out, none_at, PutWell, Fresh, fresh_closed, Puts, opening}
use Rattle.cub_changes.proofs.Chains as chains

-- ---- what a Put puts out

-- an output is of the Put of a tenancy, which takes these records
abbrev pub OfPut : Params → ℕ → Tenancy → (Rec → Type 0) → Out Msg → Type 0
OfPut p c t Takes (out.Act (what.Put u)) = u ≡ t
OfPut p c t Takes (out.Act (what.Took r)) = Takes r
OfPut p c t Takes (out.Send link (msg.ViewerState s)) = (s ≡ record { tenancy = t; visit = t.first }) × (link ≡ way_ahead p c 1)
OfPut p c t Takes (out.Send link (msg.Placed u)) = u ≡ t
OfPut p c t Takes (out.Send link (msg.Start redundant a)) = ⊥
OfPut p c t Takes (out.Send link (msg.Deschedule v tag)) = ⊥
OfPut p c t Takes other = Unit {0}

-- which records are taken: of the cub's own first visit; or the backup record of the first, and the own one of the second
abbrev pub TakesOwn : Tenancy → Rec → Type 0
TakesOwn t r = r ≡ own_of t t.first

abbrev pub TakesForDead : Tenancy → Rec → Type 0
TakesForDead t r = (r ≡ backup_of t t.first) ⊎ ((r ≡ own_of t (t.first + 1)) × (nat_lt t.first t.last ≡ true))

took_all : (Q : Out Msg → Type 0) (r : Rec) → Q (taken_out r) → (h : Store) → AllByRecursion Q (took r h).outs
took_all Q r one h = took_of (λ (d : Deed Msg Store). AllByRecursion Q d.outs) r h (λ _. tt) (λ _. (one, tt))

module _ (p : Params) (c : ℕ) (stamp : Stamp) where
  pub own_outs : (t : Tenancy) (h : Store) → AllByRecursion (OfPut p c t (TakesOwn t)) (putting_own p c t h).outs
  own_outs t h =
      let Q : Out Msg → Type 0 = OfPut p c t (TakesOwn t) in
      own_from (outputs.Puts p c stamp Q) (outputs.puts_closed p c stamp Q) p c stamp t h (refl, tt) (took_all Q (own_of t t.first) refl) (λ q. ((refl, refl), (refl, tt)))

  pub dead_outs : (t : Tenancy) (h : Store) → AllByRecursion (OfPut p c t (TakesForDead t)) (putting_for_dead p c t h).outs
  dead_outs t h =
      let Q : Out Msg → Type 0 = OfPut p c t (TakesForDead t) in
      dead_from (outputs.Puts p c stamp Q) (outputs.puts_closed p c stamp Q) p c stamp t h (refl, tt) (took_all Q (backup_of t t.first) (inl refl))
      (λ q e. took_all Q (own_of t (t.first + 1)) (inr (refl, e)) q) (λ q. (refl, tt))

  -- ---- what it does to lines
  pub fresh_new : (r : Rec) (h : Store) → is_taken r h ≡ false → Fresh p c h (did p c stamp (TakeRecord r) h)
  fresh_new r h e = record {
    moves = take_moves p c stamp Never r h e;
    fresh = λ s x i j at. ⊎_elim
        (λ (q : taken_out s ≡ taken_out r).
        let same : s ≡ r = cc in
        none_at (visit_of r) x h.view.lines e j (at.0 ∙ ap (λ (z : Rec). z.tenancy.slot.0) same, at.1 ∙ ap (λ (z : Rec). z.visit) same))
        (λ q. absurd q)
        i;
  }

  pub fresh_took : (r : Rec) (h : Store) → Fresh p c h (took r h)
  fresh_took r h = took_of (λ (d : Deed Msg Store). Fresh p c h d) r h (λ _. (fresh_closed p c).none h) (fresh_new r h)

  pub fresh_same : (h : Store) (d : Deed Msg Store) → d.state.view.lines ≡ h.view.lines → ((r : Rec) → In (taken_out r) d.outs → ⊥) → Fresh p c h d
  fresh_same h d e none = record { moves = untaken p c Never h.view.lines d e none; fresh = λ r x i. absurd (none r i) }

  first_none : (t : Tenancy) (h : Store) (r : Rec) → In (taken_out r) (did p c stamp (PutStart t) h).outs → ⊥
  first_none t h r i = let e : PutStart t ≡ TakeRecord r = outputs.tells_of p c stamp (PutStart t) h (taken_out r) i in absurd (cc)

  pub own_fresh : (t : Tenancy) (h : Store) → Fresh p c h (putting_own p c t h)
  own_fresh t h =
      own_from (Fresh p c) (fresh_closed p c) p c stamp t h (fresh_same h _ refl (first_none t h)) (fresh_took (own_of t t.first))
      (λ q. fresh_same q _ refl (λ r i. let e : SendFirst t ≡ TakeRecord r = outputs.tells_of p c stamp (SendFirst t) q (taken_out r) i in absurd (cc)))

  pub dead_fresh : (t : Tenancy) (h : Store) → Fresh p c h (putting_for_dead p c t h)
  dead_fresh t h =
      dead_from (Fresh p c) (fresh_closed p c) p c stamp t h (fresh_same h _ refl (first_none t h)) (fresh_took (backup_of t t.first))
      (λ q e. fresh_took (own_of t (t.first + 1)) q)
      (λ q. fresh_same q _ refl (λ r i. let e : SendPlaced t ≡ TakeRecord r = outputs.tells_of p c stamp (SendPlaced t) q (taken_out r) i in absurd (cc)))

-- ---- what is among its outputs
took_there : (r : Rec) (h : Store) → is_taken r h ≡ false → In (taken_out r) (took r h).outs
took_there r h e = subst (λ (os : List (Out Msg)). In (taken_out r) os) (sym (took_new r h e).0) (inl refl)

pub own_there : (p : Params) (c : ℕ) (t : Tenancy) (h : Store) → let outs : List (Out Msg) = (putting_own p c t h).outs in
    In (put_out t) outs × In (state_out p c t) outs × In (told_placed p c t) outs
    × (is_taken (own_of t t.first) h ≡ false → In (taken_out (own_of t t.first)) outs)
own_there p c t h =
    let taken : List (Out Msg) = (took (own_of t t.first) (putting t h).state).outs in
    let All : List (Out Msg) → Type 0 = λ outs. In (put_out t) outs × In (state_out p c t) outs × In (told_placed p c t) outs
    × (is_taken (own_of t t.first) h ≡ false → In (taken_out (own_of t t.first)) outs) in
    subst All (chains.own_puts p c t h) (
      inl refl,
      inr (in_right (state_out p c t) taken _ (inl refl)),
      inr (in_right (told_placed p c t) taken _ (inr (inl refl))),
      (λ e. inr (in_left (taken_out (own_of t t.first)) taken _ (took_there (own_of t t.first) (putting t h).state e))),
    )

pub dead_there : (p : Params) (c : ℕ) (t : Tenancy) (h : Store) → let outs : List (Out Msg) = (putting_for_dead p c t h).outs in
    In (put_out t) outs × In (told_placed p c t) outs
    × (is_taken (backup_of t t.first) h ≡ false → In (taken_out (backup_of t t.first)) outs)
dead_there p c t h =
    let taken : List (Out Msg) = (took (backup_of t t.first) (putting t h).state).outs in
    let All : List (Out Msg) → Type 0 = λ outs. In (put_out t) outs × In (told_placed p c t) outs
    × (is_taken (backup_of t t.first) h ≡ false → In (taken_out (backup_of t t.first)) outs) in
    subst All (chains.dead_puts p c t h) (
      inl refl,
      inr (in_right (told_placed p c t) taken _ (in_right (told_placed p c t) _ (told_placed p c t ∷ []) (inl refl))),
      (λ e. inr (in_left (taken_out (backup_of t t.first)) taken _ (took_there (backup_of t t.first) (putting t h).state e))),
    )

-- ---- one Put as insertion makes it
module _ (p : Params) (c : ℕ) (stamp : Stamp) (plan : IsPlan p) (here : c < p.cubs) (from : Store) (t : Tenancy) (h : Store) (o : Fills p c stamp from t h) where
  -- what is known of where and for whom it is
  abbrev Placing : Tenancy → Type 0
  Placing u =
      (u.slot.0 < p.slots)
      × (stamp.reading + p.window_b < due p u.slot.0 u.first)
      × (due p u.slot.0 u.first ≤ stamp.reading + p.window_a)
      × (u.first ≤ u.last)
      × (o.ask.instance ≡ u.instance)
      × (o.ask.file ≡ u.file)
      × (u.last ≡ u.first + (o.ask.count - 1))
      × (o.ask.disk.0 ≡ disk_of p u.first)
      × (disk_of p u.first ≡ o.disk)
      × ((r : Rec) → r.tenancy.slot ≡ u.slot → r.visit ≡ u.first → is_taken r h ≡ false)

  placing : Placing t
  placing =
      let k = opening p stamp.reading o.disk h o.key plan o.free in
      subst Placing (sym o.is) (
        k.slot,
        k.above,
        k.below,
        omega arith,
        refl,
        refl,
        refl,
        eqb-true _ _ o.on ∙ sym k.on_disk,
        k.on_disk,
        (λ r e f. rw (e, f) k.free),
      )

  -- its record, as the cub of the visit or as the next one
  abbrev Who : List (Out Msg) → Type 0
  Who outs = ((c ≡ cub_of p t.first) × In (state_out p c t) outs) ⊎ ((c ≡ cub_of p (t.first + 1)) × (from.believes ≡ true))

  well : (outs : List (Out Msg)) (kind : Kind) → In (taken_out (record { tenancy = t; visit = t.first; kind = kind })) outs → Who outs
      → PutWell p c stamp.reading from.starts.waiting from.believes t outs
  well outs kind taken who =
      let k = placing in
      record {
        slot = k.0;
        above = k.1;
        below = k.2;
        within = k.3;
        kind = kind;
        taken = taken;
        who = who;
        ask = o.ask;
        waits = o.waits;
        instance = k.4;
        file = k.5;
        last = k.6;
        disk = k.7;
      }

  meek : (Takes : Rec → Type 0) (q : Out Msg) → OfPut p c t Takes q → IsMeek Nobody q
  meek Takes (out.Send link (msg.Start redundant a)) k = k
  meek Takes (out.Send link (msg.Deschedule v tag)) k = k
  meek Takes (out.Send link other) k = tt
  meek Takes (out.Act other) k = tt

  -- a Put does what insertion does, if its outputs are of it and its record is taken
  puts_one : (Takes : Rec → Type 0) (d : Deed Msg Store) → AllByRecursion (OfPut p c t Takes) d.outs → Fresh p c h d → In (put_out t) d.outs
      → In (told_placed p c t) d.outs → PutWell p c stamp.reading from.starts.waiting from.believes t d.outs
      → ((r : Rec) → Takes r → (r.tenancy ≡ t) × IsGiven p c t t.first r.visit) → Puts p c stamp.reading from h d
  puts_one Takes d all lines puts tells put given =
      let of : (q : Out Msg) → In q d.outs → OfPut p c t Takes q = λ q i. all_in (OfPut p c t Takes) q d.outs all i in
      let placed : (u : Tenancy) → u ≡ t → In (put_out u) d.outs = λ u e. subst (λ (w : Tenancy). In (put_out w) d.outs) (sym e) puts in
      record {
        moves = lines.moves;
        fresh = lines.fresh;
        free = λ u x i j at.
            let e : u ≡ t = of (put_out u) i in
            none_at (t.slot, t.first) x h.view.lines (placing.9 (own_of t t.first) refl refl) j
            (at.0 ∙ ap (λ (q : Tenancy). q.slot.0) e, at.1 ∙ ap (λ (q : Tenancy). q.first) e);
        put = λ u i. subst (λ (w : Tenancy). PutWell p c stamp.reading from.starts.waiting from.believes w d.outs) (sym (of (put_out u) i)) put;
        told = λ r i.
            let g = given r (of (taken_out r) i) in
            (placed r.tenancy g.0, subst (λ (u : Tenancy). IsGiven p c u u.first r.visit) (sym g.0) g.1);
        sent = λ link s i.
            let e = of (out.Send link (msg.ViewerState s)) i in
            (placed s.tenancy (ap (λ (q : State). q.tenancy) e.0), ap (λ (q : State). q.visit) e.0 ∙ sym (ap (λ (q : State). q.tenancy.first) e.0), e.1);
        one = λ u r i j s n. (given r (of (taken_out r) j)).0 ∙ sym (of (put_out u) i);
        plain = all_wider (OfPut p c t Takes) (IsMeek Nobody) (meek Takes) d.outs all;
        tells = λ u i. subst (λ (w : Tenancy). In (told_placed p c w) d.outs) (sym (of (put_out u) i)) tells;
        placed = λ link u i. placed u (of (out.Send link (msg.Placed u)) i);
      }

  -- on a disk of the cub's own
  pub own_puts : In o.disk (disks_at p c) → Puts p c stamp.reading from h (putting_own p c t h)
  own_puts own =
      let there = own_there p c t h in
      let mine : c ≡ cub_of p t.first = sym (visit_own p c o.disk t.first placing.8 (all_in (λ d. d % p.cubs ≡ c) o.disk (disks_at p c) (disks_own p c here) own)) in
      let free = placing.9 (own_of t t.first) refl refl in
      puts_one (TakesOwn t) (putting_own p c t h) (own_outs p c stamp t h) (own_fresh p c stamp t h) there.0 there.2
      (well (putting_own p c t h).outs Own (there.3 free) (inl (mine, there.1)))
      (λ r e. (ap (λ (q : Rec). q.tenancy) e, inl (ap (λ (q : Rec). q.visit) e, inl mine)))

  -- on one of its predecessor's
  pub dead_puts : from.believes ≡ true → In o.disk (disks_at p (predecessor p c)) → Puts p c stamp.reading from h (putting_for_dead p c t h)
  dead_puts believes there_on =
      let there = dead_there p c t h in
      let before : ℕ = predecessor p c in
      let owner = all_in (λ d. d % p.cubs ≡ before) o.disk (disks_at p before) (disks_own p before (predecessor_below p c plan)) there_on in
      let next : c ≡ cub_of p (t.first + 1) = sym (next_own p c t.first plan here (visit_own p before o.disk t.first placing.8 owner)) in
      let free = placing.9 (backup_of t t.first) refl refl in
      puts_one (TakesForDead t) (putting_for_dead p c t h) (dead_outs p c stamp t h) (dead_fresh p c stamp t h) there.0 there.1
      (well (putting_for_dead p c t h).outs Backup (there.2 free) (inr (next, believes)))
      (λ r k. ⊎_elim
      (λ e. (ap (λ (q : Rec). q.tenancy) e, inl (ap (λ (q : Rec). q.visit) e, inr next)))
      (λ e.
      let more : t.first < t.last = ltb-true _ _ e.1 in
      let visit : r.visit ≡ t.first + 1 = ap (λ (q : Rec). q.visit) e.0 in
      (ap (λ (q : Rec). q.tenancy) e.0, inr (visit, omega arith, next ∙ ap (λ n. cub_of p n) (sym visit))))
      k)
