-- A start joins a cub's lists and stands there until the cub knows that its instance was put or stopped.
use Rattle.std.proofs.Common.{◌≡◌, ℕ, suc, ◌<◌, ◌≤◌, List, [], ◌∷◌, ◌++◌, Bool, true, false, None, not, refl, sym, subst, arith, ⊎_elim, inl, inr}
use Rattle.std.specs.Prelude.{◌⊎◌, ◌&&◌, ◌||◌}
use Rattle.std.proofs.lemmas.Bool.{cases_Bool, and_parts, eqb-true}
use Rattle.tiger_base.specs.declared.number.LinkNo.{LinkNo}
use Rattle.tiger_base.specs.declared.number.Stamp.{Stamp}
use Rattle.tiger_base.specs.declared.number.Instance.{Instance}
use Rattle.tiger_base.specs.declared.tenancy.Ask.{Ask}
use Rattle.tiger_base.specs.declared.tenancy.Tenancy.{Tenancy}
use Rattle.tiger_base.specs.declared.message.Msg.{Msg}
use Rattle.tiger_base.specs.declared.message.Msg.TheVariants as msg
use Rattle.slot_plan.specs.declared.params.Params.{Params}
use Rattle.node_kit.specs.declared.course.Order.{Order}
use Rattle.node_kit.specs.Steps.{Deed, Input}
use Rattle.node_kit.specs.Steps.Input.{Take, Tick}
use Rattle.partial_view.specs.declared.line.Line.{Line}
use Rattle.insert_queue.specs.Queues as queues
use Rattle.insert_queue.specs.Queues.{Queues, is_asked, has_start}
use Rattle.deschedule.specs.Holds.{is_held}
use Rattle.cub_rules.specs.declared.store.Store.{Store}
use Rattle.cub_rules.specs.Messages.{taking, shows, queueing, queueing_redundant, is_discarded}
use Rattle.cub_changes.specs.Laws.{IsListed, TellsOf, HasPutOf, KeepsStart}
use Rattle.cub_changes.proofs.Listing.{keep_starts}
use Rattle.proof_schedule.specs.Facts.{Facts, ReachedBy}
use Rattle.proof_schedule.specs.StartLaws.{IsPlacedBy}
use Rattle.proof_lives.specs.Lives.{Lives, cut_in, deed_of, store_at, outs_at, beat_at}
use Rattle.lists.specs.Elements.{In}
use Rattle.proof_lives.proofs.Cuts.{whole_before, goes_whole}
use Rattle.proof_lives.proofs.Inputs.{got_message}
use Rattle.lists.proofs.Elements.{chosen, in_right}
use Rattle.proof_lives.proofs.Keeping.{held_stopped}
use Rattle.proof_lives.proofs.Order.{beats_rise}
use Rattle.proof_lives.proofs.Seating.{PutOf}
use Rattle.proof_lives.proofs.Waiting.{IsQueued, queued_came, shown_line}
use Rattle.proof_lives.proofs.Trails.{held_until}
use Rattle.proof_lives.proofs.HoldLaws.{no_both}
use Rattle.proof_lives.proofs.Inserting.{put_out}
use Rattle.proof_lives.specs.InOrder.{AreInOrder}
use Rattle.proof_lives.proofs.Meeting.{taken}
use Rattle.proof_lives.specs.FactsBy.{Beyond, facts_by}
use Rattle.proof_cubs.proofs.Setting.{Setting}
use Rattle.proof_cubs.proofs.Inserting.{inserted}
use Rattle.proof_cubs.proofs.Standing.{come_before}
use Rattle.cub_changes.proofs.Chains.{lets_start}

-- What one event makes of a start that is listed is as cub_changes proves it for the whole cub.
keeps_start : (p : Params) (c : ℕ) (i : Input Msg) (a : Ask) (h : Store) → KeepsStart i a h (deed_of p c i h)
keeps_start p c (Take stamp link m) a h = keep_starts p c (Take stamp link m) a h
keeps_start p c (Tick stamp) a h = keep_starts p c (Tick stamp) a h

-- ---- both words for "it stands in one of the two lists" say the same
is_listed : (a : Ask) (h : Store) → IsQueued a h.starts → IsListed a h
is_listed a h k = ⊎_elim (λ w. inl w) (λ w. inr w) k

is_queued : (a : Ask) (h : Store) → IsListed a h → IsQueued a h.starts
is_queued a h k = ⊎_elim (λ w. inl w) (λ w. inr w) k

-- If the test says so, a start of the instance is among these.
asked_there : (asks : List Ask) (v : Instance) → has_start asks v ≡ true → (a : Ask) × In a asks × (a.instance.0 ≡ v.0)
asked_there [] v e = absurd (cc)
asked_there (a ∷ rest) v e = ⊎_elim
    (λ (t : queues.is_of v a ≡ true). (a, inl refl, eqb-true _ _ t))
    (λ (t : queues.is_of v a ≡ false).
    let r = asked_there rest v (subst (λ b. (b || has_start rest v) ≡ true) t e) in (r.0, inr r.1, r.2))
    (cases_Bool (queues.is_of v a))

-- ---- a start that is not discarded joins a list, if no start of its instance stands in one

-- a plain start waits, and so does a redundant one, or it stands apart
abbrev pub HasJoined : Ask → Bool → Queues → Type 0
HasJoined a redundant q = In a q.waiting ⊎ ((redundant ≡ true) × In a q.redundant)

start_queued : (p : Params) (c : ℕ) (stamp : Stamp) (link : LinkNo) (a : Ask) (redundant : Bool) (h : Store)
    → is_discarded a h ≡ false → is_asked h.starts a.instance ≡ false
    → HasJoined a redundant (taking p c stamp link (msg.Start redundant a) h).state.starts
start_queued p c stamp link a redundant h e none =
    let Q : Deed Msg Store → Type 0 = λ d. HasJoined a redundant d.state.starts in
    let q : Queues = h.starts in
    subst Q (sym (lets_start p c stamp link a redundant h e))
    (chosen Q (redundant && not h.believes) (queueing_redundant a h) (queueing a h)
    (λ apart. chosen (HasJoined a redundant) (is_asked q a.instance) q (record q { redundant = q.redundant ++ a ∷ [] })
    (λ t. absurd (no_both t none))
    (λ _. inr ((and_parts redundant (not h.believes) apart).0, in_right a q.redundant (a ∷ []) (inl refl))))
    (λ _. chosen (HasJoined a redundant) (is_asked q a.instance) q (record q { waiting = q.waiting ++ a ∷ [] })
    (λ t. absurd (no_both t none)) (λ _. inl (in_right a q.waiting (a ∷ []) (inl refl)))))

module _ (p : Params) (lives : Lives) (beyond : Beyond) (set : Setting p lives beyond) (orders : List Order)
    (order : AreInOrder p lives beyond orders) where
  abbrev R : Facts
  R = facts_by p lives beyond

  -- Instance v is out at cub c by beat b: it was put, as far as the cub can tell, or a deschedule of it came.
  abbrev pub IsOut : ℕ → ℕ → ℕ → Type 0
  IsOut c v b = IsPlacedBy R c v b ⊎ ReachedBy R c v b

  -- An instance is out once an input tells of it.
  told_out : (c i b : ℕ) (a : Ask) (k : Input Msg) → c < p.cubs → i < lives.count c → beat_at (lives.input c) i ≤ b
      → lives.input c i ≡ k → TellsOf k a.instance → IsOut c a.instance.0 b
  told_out c i b a (Take stamp link (msg.ViewerState s)) small low le is told = inl (record {
    beat = beat_at (lives.input c) i;
    tenancy = s.tenancy;
    same = sym told;
    visit = s.visit;
    how = inr (got_message p lives c i stamp link (msg.ViewerState s) small low is);
    by = le;
  })
  told_out c i b a (Take stamp link (msg.Deschedule w tag)) small low le is told =
      let took = got_message p lives c i stamp link (msg.Deschedule w tag) small low is in
      inr (record {
        beat = beat_at (lives.input c) i;
        reached = record { instance = w; tag = tag; same = sym told; took = took };
        by = le;
      })
  told_out c i b a other small low le is told = absurd told

  -- It is out once it is put in a whole event.
  pub put_out_by : (c i b : ℕ) (a : Ask) → c < p.cubs → i < lives.count c → cut_in lives c i ≡ None
      → beat_at (lives.input c) i ≤ b → PutOf a (outs_at p c (lives.input c) i) → IsOut c a.instance.0 b
  put_out_by c i b a small low whole le k = inl (record {
    beat = beat_at (lives.input c) i;
    tenancy = k.0;
    same = k.2;
    visit = 0;
    how = inl (record {
      small = small;
      at = i;
      done = low;
      in_beat = refl;
      did = goes_whole p lives c i (put_out k.0) whole k.1;
    });
    by = le;
  })

  -- It is out if a whole event tells of it or puts it.
  out_now : (c i b : ℕ) (a : Ask) → c < p.cubs → i < lives.count c → cut_in lives c i ≡ None
      → beat_at (lives.input c) i ≤ b
      → TellsOf (lives.input c i) a.instance ⊎ HasPutOf a.instance (outs_at p c (lives.input c) i) → IsOut c a.instance.0 b
  out_now c i b a small low whole le w = ⊎_elim
      (λ t. told_out c i b a (lives.input c i) small low le (refl {a = lives.input c i}) t)
      (λ t. put_out_by c i b a small low whole le (t.0, t.1, sym t.2))
      w

  -- What an event leaves as it is, unless it tells of the instance or puts it, stays until the instance is out.
  lasts : (P : Store → Type 0) (c b n : ℕ) (a : Ask) → c < p.cubs → n < lives.count c → beat_at (lives.input c) n ≤ b
      → ((i : ℕ) → P (store_at p c (lives.input c) i) → P (store_at p c (lives.input c) (suc i))
      ⊎ (TellsOf (lives.input c i) a.instance ⊎ HasPutOf a.instance (outs_at p c (lives.input c) i)))
      → (i j : ℕ) → j ≤ i → i ≤ n → P (store_at p c (lives.input c) j)
      → P (store_at p c (lives.input c) i) ⊎ IsOut c a.instance.0 b
  lasts P c b n a small low le step i j l m w = ⊎_elim
      (λ q. inl q)
      (λ u. inr u.may)
      (held_until (λ k. P (store_at p c (lives.input c) k)) (λ k. IsOut c a.instance.0 b) i j l
      (λ k _ to q.
      let rise = beats_rise p (lives.count c) (lives.input c) (set.lived c small) k n (omega arith) low in
      let whole = whole_before lives c k n (omega arith) low in
      ⊎_elim (λ v. inl v) (λ v. inr (out_now c k b a small (omega arith) whole (omega arith) v)) (step k q))
      w)

  -- A start that stands in the lists still stands there at a later input, or its instance is out.
  pub queued_on : (c b n : ℕ) (a : Ask) → c < p.cubs → n < lives.count c → beat_at (lives.input c) n ≤ b
      → (i j : ℕ) → j ≤ i → i ≤ n → IsQueued a (store_at p c (lives.input c) j).starts
      → IsQueued a (store_at p c (lives.input c) i).starts ⊎ IsOut c a.instance.0 b
  queued_on c b n a small low le = lasts (λ h. IsQueued a h.starts) c b n a small low le
      (λ i q. ⊎_elim
      (λ w. inl (is_queued a (store_at p c (lives.input c) (suc i)) w))
      (λ w. inr w)
      ((keeps_start p c (lives.input c i) a (store_at p c (lives.input c) i)).stays
      (is_listed a (store_at p c (lives.input c) i) q)))

  -- And one that waits still waits.
  pub waits_on : (c b n : ℕ) (a : Ask) → c < p.cubs → n < lives.count c → beat_at (lives.input c) n ≤ b
      → (i j : ℕ) → j ≤ i → i ≤ n → In a (store_at p c (lives.input c) j).starts.waiting
      → In a (store_at p c (lives.input c) i).starts.waiting ⊎ IsOut c a.instance.0 b
  waits_on c b n a small low le = lasts (λ h. In a h.starts.waiting) c b n a small low le
      (λ i q. ⊎_elim
      (λ w. inl w)
      (λ w. inr w)
      ((keeps_start p c (lives.input c i) a (store_at p c (lives.input c) i)).waits
      q))

  -- The tenancy of a line was put, as far as the cub can tell.
  line_out : (c i b v : ℕ) (x : Line) → c < p.cubs → i < lives.count c → beat_at (lives.input c) i ≤ b
      → In x (store_at p c (lives.input c) i).view.lines → x.rec.tenancy.instance.0 ≡ v → IsPlacedBy R c v b
  line_out c i b v x small low le there same =
      let h = come_before p lives beyond set c i x small low there in
      let by = h.by in
      let t : Tenancy = x.rec.tenancy in
      ⊎_elim
      (λ w.
      let k = taken p lives beyond w in
      record { beat = h.beat; tenancy = t; same = same; visit = k.visit; how = inr k.got; by = omega arith })
      (λ w.
      let k = inserted p lives beyond set w in
      record { beat = h.beat; tenancy = t; same = same; visit = 0; how = inl k.0; by = omega arith })
      h.entered

  -- When a start comes no other one of its instance stands in the lists.
  not_asked : (c i : ℕ) (a : Ask) (stamp : Stamp) (link : LinkNo) (redundant : Bool) → c < p.cubs
      → i < lives.count c → lives.input c i ≡ Take stamp link (msg.Start redundant a)
      → is_asked (store_at p c (lives.input c) i).starts a.instance ≡ false
  not_asked c i a stamp link redundant small low is =
      let q : Queues = (store_at p c (lives.input c) i).starts in
      let came : (b : Ask) → IsQueued b q → b.instance.0 ≡ a.instance.0 → ⊥ = λ b k same.
      (let s = queued_came p c (lives.input c) i b k in
      let before = s.before in
      let one = order.started.one_start c s.at i s.stamp stamp s.link link b a s.redundant redundant in
      let z = one small (omega arith) low s.is is same in
      let y : ⊥ = absurd (omega arith) in y) in
      ⊎_elim
      (λ (w : has_start q.waiting a.instance ≡ true).
      let b = asked_there q.waiting a.instance w in absurd (came b.0 (inl b.1) b.2))
      (λ (w : has_start q.waiting a.instance ≡ false). ⊎_elim
      (λ (v : has_start q.redundant a.instance ≡ true).
      let b = asked_there q.redundant a.instance v in absurd (came b.0 (inr b.1) b.2))
      (λ (v : has_start q.redundant a.instance ≡ false). rw (w, v) refl)
      (cases_Bool (has_start q.redundant a.instance)))
      (cases_Bool (has_start q.waiting a.instance))

  -- A start that comes in a first life joins the lists, or its instance is out.
  pub start_joins : (c i b : ℕ) (a : Ask) (stamp : Stamp) (link : LinkNo) (redundant : Bool) → c < p.cubs
      → i < lives.count c → beat_at (lives.input c) i ≤ b
      → lives.input c i ≡ Take stamp link (msg.Start redundant a) → (store_at p c (lives.input c) i).comeback ≡ None
      → HasJoined a redundant (store_at p c (lives.input c) (suc i)).starts ⊎ IsOut c a.instance.0 b
  start_joins c i b a stamp link redundant small low le is first =
      let inputs : ℕ → Input Msg = lives.input c in
      let h : Store = store_at p c inputs i in
      let counted = order.started.counted a (order.started.ordered c i stamp link a redundant small low is) in
      ⊎_elim
      (λ (held : is_held h.held a.instance ≡ true).
      let s = held_stopped p c inputs i a.instance held in
      let before = s.before in
      let rise = beats_rise p (lives.count c) inputs (set.lived c small) s.at i (omega arith) low in
      let m : Msg = msg.Deschedule s.instance s.tag in
      inr (inr (record {
        beat = beat_at inputs s.at;
        reached = record {
          instance = s.instance;
          tag = s.tag;
          same = s.same;
          took = got_message p lives c s.at s.stamp s.link m small (omega arith) s.is;
        };
        by = omega arith;
      })))
      (λ (held : is_held h.held a.instance ≡ false). ⊎_elim
      (λ (shown : shows h.view.lines a.instance ≡ true).
      let x = shown_line a.instance h.view.lines shown in
      inr (inl (line_out c i b a.instance.0 x.0 small low le x.1 x.2)))
      (λ (shown : shows h.view.lines a.instance ≡ false).
      let free : is_discarded a h ≡ false = rw (first, counted, held, shown) refl in
      inl (subst (λ (k : Input Msg). HasJoined a redundant (deed_of p c k h).state.starts) (sym is)
      (start_queued p c stamp link a redundant h free (not_asked c i a stamp link redundant small low is))))
      (cases_Bool (shows h.view.lines a.instance)))
      (cases_Bool (is_held h.held a.instance))
