-- The splits that a cub remembers: each stays until a deschedule comes, which kills it, or a tick at which it is over.
use Rattle.std.proofs.Common.{◌≡◌, ℕ, suc, ◌+◌, ◌-◌, ◌<◌, ◌≤◌, List, [], ◌∷◌, ◌++◌, filter, true, false, not, Option, refl, sym, ap, subst, ◌∙◌, arith, ⊎_elim, inl, inr}
use Rattle.std.specs.Prelude.{◌⊎◌, ◌==◌}
use Rattle.std.specs.List.{flat_map, range_with_len}
use Rattle.std.proofs.lemmas.Bool.{cases_Bool, and_parts, eq-eqb, eqb-true, leb-true}
use Rattle.tiger_base.specs.declared.number.Instance.{Instance}
use Rattle.tiger_base.specs.declared.number.LinkNo.{LinkNo}
use Rattle.tiger_base.specs.declared.number.Stamp.{Stamp}
use Rattle.tiger_base.specs.declared.tenancy.PieceState.{PieceState}
use Rattle.tiger_base.specs.declared.tenancy.Rec.{Rec}
use Rattle.tiger_base.specs.declared.tenancy.Tag.{Tag}
use Rattle.tiger_base.specs.declared.tenancy.Tenancy.{Tenancy}
use Rattle.tiger_base.specs.declared.message.Msg.{Msg}
use Rattle.tiger_base.specs.declared.message.Msg.TheVariants as msg
use Rattle.tiger_base.specs.Notes.{noted}
use Rattle.slot_plan.specs.declared.params.Params.{Params}
use Rattle.slot_plan.specs.Times.{due}
use Rattle.partial_view.specs.declared.line.Line.{Line}
use Rattle.mirror_schedule.specs.Splits as splits
use Rattle.mirror_schedule.specs.Splits.{Split}
use Rattle.mirror_schedule.proofs.Numbers.{is_less-neither}
use Rattle.node_kit.specs.declared.outbox.Out.{Out}
use Rattle.node_kit.specs.declared.outbox.Out.TheVariants as out
use Rattle.node_kit.specs.Deeds.{then_do}
use Rattle.node_kit.specs.Form.{is_in_form}
use Rattle.node_kit.specs.Steps.{Deed, Input}
use Rattle.node_kit.specs.Steps.Input.{Take, Tick}
use Rattle.node_kit.specs.Ways.{way_ahead}
use Rattle.cub_rules.specs.declared.store.Store.{Store}
use Rattle.cub_rules.specs.Records.{with_piece_record}
use Rattle.cub_rules.specs.Messages.{holding, passing, kills, taking}
use Rattle.cub_rules.specs.Ticks.{must_split, first_pieces, split_visits, with_each, with_split_lines, splitting, forwarding, ticking}
use Rattle.cub_changes.specs.Changes.{Change, did}
use Rattle.cub_changes.specs.Changes.Change.{KillSplits, Release, SplitVisits, AskBlocks, AskPieces, ServeBlocks, DropBackups, ServePieces, Beat}
use Rattle.cub_changes.specs.Causes.{Stage, Cause}
use Rattle.cub_changes.specs.Causes.Stage.{OnMessage, OnRelease, OnDeadman, OnInsertion, OnService}
use Rattle.cub_changes.proofs.Chains.{split_is, tick_late, stopped}
use Rattle.cub_changes.proofs.Closed.{IsClosed, then_by}
use Rattle.cub_changes.proofs.Messages.{taking_by, with_piece_of}
use Rattle.cub_changes.proofs.Ticks.{IsOfTick, IsOfEnd, end_steps, forwarding_from, end_from, ticking_by}
use Rattle.proof_lives.specs.Lives.{Lives, store_at, deed_of, outs_at}
use Rattle.lists.specs.Elements.{In}
use Rattle.lists.proofs.Elements.{in_left, in_right, in_map, in_filter, from_filter, in_flat_map}
use Rattle.proof_lives.proofs.Trails.{held_until}
use Rattle.proof_lives.specs.HoldsHere.{IsFormed}
use Rattle.proof_lives.proofs.Begun.{IsStop}
use Rattle.proof_facts.specs.Pieces.{before_splitting, stamp_of, kept_at, SplitAt}
use Rattle.proof_lives.proofs.HoldLaws.{no_both}
use Rattle.proof_splits.proofs.PieceSets.{one_more_stays, one_more_there}
use Rattle.proof_splits.proofs.MirrorStates.{in_range}
use Rattle.cub_rules.specs.Comebacks.{is_handed_back}
use Rattle.proof_splits.proofs.Handing.{in_split_off}

-- the kills of a split went out
abbrev pub AreKilled : Params → ℕ → Split → List (Out Msg) → Type 0
AreKilled p c s outs = (k : ℕ) → 1 ≤ k → k < p.pieces → In (out.Send (way_ahead p c k) (msg.Kill s.0 s.1 s.2)) outs

-- why a split is remembered no more after an input
abbrev pub Forgets : Params → ℕ → Input Msg → Split → List (Out Msg) → Type 0
Forgets p c (Take stamp link (msg.Deschedule v tag)) s outs = (v.0 ≡ s.0.0) × AreKilled p c s outs
Forgets p c (Take stamp link other) s outs = ⊥
Forgets p c (Tick stamp) s outs = due p s.1.0 s.2 + p.play ≤ stamp.reading

-- ---- lists of splits

same_split : (x z : Split) → splits.split_before x z ≡ false → splits.split_before z x ≡ false → x ≡ z
unfolding splits.split_before
same_split x z f g =
    let e = is_less-neither (x.1.0 ∷ x.2 ∷ x.0.0 ∷ []) (z.1.0 ∷ z.2 ∷ z.0.0 ∷ []) refl f g in
    let a = and_parts (x.1.0 == z.1.0) _ e in
    let b = and_parts (x.2 == z.2) _ a.1 in
    let d = and_parts (x.0.0 == z.0.0) _ b.1 in
    let one : Split → Split = λ y. y in
    ap (λ (n : ℕ). one (record { 0 = n }, x.1, x.2)) (eqb-true _ _ d.0)
    ∙ ap (λ (n : ℕ). one (z.0, record { 0 = n }, x.2)) (eqb-true _ _ a.0)
    ∙ ap (λ (n : ℕ). one (z.0, z.1, n)) (eqb-true _ _ b.0)

with_split_stays : (x y : Split) (ys : List Split) → In y ys → In y (splits.with_split x ys)
unfolding splits.with_split
with_split_stays x y ys i = one_more_stays splits.split_before x y ys i

with_split_there : (x : Split) (ys : List Split) → In x (splits.with_split x ys)
unfolding splits.with_split
with_split_there x ys = one_more_there splits.split_before same_split x ys

with_splits_stay : (y : Split) (xs ys : List Split) → In y ys → In y (with_each splits.with_split xs ys)
with_splits_stay y [] ys i = i
with_splits_stay y (x ∷ xs) ys i = with_splits_stay y xs (splits.with_split x ys) (with_split_stays x y ys i)

with_splits_there : (x : Split) (xs ys : List Split) → In x xs → In x (with_each splits.with_split xs ys)
with_splits_there x [] ys i = absurd i
with_splits_there x (z ∷ zs) ys i = ⊎_elim
    (λ (e : x ≡ z). with_splits_stay x zs (splits.with_split z ys)
    (subst (λ (y : Split). In x (splits.with_split y ys)) e (with_split_there x ys)))
    (λ e. with_splits_there x zs (splits.with_split z ys) e)
    i

-- ---- one input

module _ (p : Params) (c : ℕ) (s : Split) where
  killing_kills : (v : Instance) (h : Store) → In s h.splits → splits.is_of v s ≡ true
      → AreKilled p c s (flat_map (kills p c) (filter (splits.is_of v) h.splits))
  killing_kills v h i of k low high =
      in_flat_map (kills p c) (out.Send (way_ahead p c k) (msg.Kill s.0 s.1 s.2)) s (filter (splits.is_of v) h.splits)
      (in_filter (splits.is_of v) s h.splits i of)
      (in_map (λ steps. out.Send (way_ahead p c steps) (msg.Kill s.0 s.1 s.2)) k (range_with_len 1 (p.pieces - 1))
      (in_range k 1 (p.pieces - 1) low (omega arith)))

  killed_left : (xs ys : List (Out Msg)) → AreKilled p c s xs → AreKilled p c s (xs ++ ys)
  killed_left xs ys killed k low high = in_left (out.Send (way_ahead p c k) (msg.Kill s.0 s.1 s.2)) xs ys
      (killed k low high)

  killed_right : (xs ys : List (Out Msg)) → AreKilled p c s ys → AreKilled p c s (xs ++ ys)
  killed_right xs ys killed k low high = in_right (out.Send (way_ahead p c k) (msg.Kill s.0 s.1 s.2)) xs ys
      (killed k low high)

  module _ (i : Input Msg) where
    forgets_left : (k : Input Msg) (xs ys : List (Out Msg)) → Forgets p c k s xs → Forgets p c k s (xs ++ ys)
    forgets_left (Take stamp link (msg.Deschedule v tag)) xs ys f = (f.0, killed_left xs ys f.1)
    forgets_left (Take stamp link other) xs ys f = absurd f
    forgets_left (Tick stamp) xs ys f = f

    forgets_right : (k : Input Msg) (xs ys : List (Out Msg)) → Forgets p c k s ys → Forgets p c k s (xs ++ ys)
    forgets_right (Take stamp link (msg.Deschedule v tag)) xs ys f = (f.0, killed_right xs ys f.1)
    forgets_right (Take stamp link other) xs ys f = absurd f
    forgets_right (Tick stamp) xs ys f = f

    abbrev Remembers : Store → Deed Msg Store → Type 0
    Remembers h d = In s h.splits → In s d.state.splits ⊎ Forgets p c i s d.outs

    remembers_closed : IsClosed Remembers
    remembers_closed = record {
      none = λ h k. inl k;
      both = λ h d e one two k. ⊎_elim
          (λ q. ⊎_elim (λ w. inl w) (λ w. inr (forgets_right i d.outs e.outs w)) (two q))
          (λ q. inr (forgets_left i d.outs e.outs q))
          (one k);
    }

    each : (stamp : Stamp) (g : Stage) (from : Store)
        → ((v : Instance) (h : Store) → Cause p c stamp g from (KillSplits v) h → splits.is_of v s ≡ true
        → AreKilled p c s (did p c stamp (KillSplits v) h).outs → Forgets p c i s (did p c stamp (KillSplits v) h).outs)
        → ((h : Store) → Cause p c stamp g from Release h → splits.is_over p stamp.reading s ≡ true
        → Forgets p c i s [])
        → (x : Change) (h : Store) → Cause p c stamp g from x h → Remembers h (did p c stamp x h)
    each stamp g from killed over (KillSplits v) h cause k = ⊎_elim
        (λ (t : splits.is_of v s ≡ true). inr (killed v h cause t (killing_kills v h k t)))
        (λ (f : splits.is_of v s ≡ false). inl (in_filter (λ x. not (splits.is_of v x)) s h.splits k (ap not f)))
        (cases_Bool (splits.is_of v s))
    each stamp g from killed over Release h cause k = ⊎_elim
        (λ (t : splits.is_over p stamp.reading s ≡ true). inr (over h cause t))
        (λ (f : splits.is_over p stamp.reading s ≡ false). inl
        (in_filter (λ x. not (splits.is_over p stamp.reading x)) s h.splits k (ap not f)))
        (cases_Bool (splits.is_over p stamp.reading s))
    each stamp g from killed over SplitVisits h cause k = inl
        (with_splits_stay s (flat_map (split_visits p stamp h.handback) h.view.lines) h.splits k)
    each stamp g from killed over other h cause k = inl k

  at_message : (stamp : Stamp) (link : LinkNo) (m : Msg) (from : Store) (v : Instance) (h : Store)
      → Cause p c stamp (OnMessage link m) from (KillSplits v) h
      → splits.is_of v s ≡ true → AreKilled p c s (did p c stamp (KillSplits v) h).outs
      → Forgets p c (Take stamp link m) s (did p c stamp (KillSplits v) h).outs
  at_message stamp link (msg.Deschedule w tag) from v h cause of killed =
      (sym (ap (λ (x : Instance). x.0) cause) ∙ sym (eqb-true _ _ of), killed)
  at_message stamp link other from v h cause of killed = absurd cause

  no_kill : (stamp : Stamp) (g : Stage) (from : Store) (v : Instance) (h : Store) → IsOfTick g
      → Cause p c stamp g from (KillSplits v) h → ⊥
  no_kill stamp (OnMessage link m) from v h tick cause = tick
  no_kill stamp OnRelease from v h tick cause = cause
  no_kill stamp OnDeadman from v h tick cause = cause
  no_kill stamp OnInsertion from v h tick cause = cause
  no_kill stamp OnService from v h tick cause = cause

  is_past : (reading : ℕ) → splits.is_over p reading s ≡ true → due p s.1.0 s.2 + p.play ≤ reading
  unfolding splits.is_over
  is_past reading e = leb-true _ _ e

  deed_remembers : (i : Input Msg) (h : Store) → In s h.splits → In s (deed_of p c i h).state.splits
      ⊎ Forgets p c i s (deed_of p c i h).outs
  deed_remembers (Take stamp link m) h k =
      taking_by (Remembers (Take stamp link m)) (remembers_closed (Take stamp link m)) p c stamp link m h
      (each (Take stamp link m) stamp (OnMessage link m) h
      (λ v q cause of killed. at_message stamp link m h v q cause of killed) (λ q cause e. absurd cause))
      k
  deed_remembers (Tick stamp) h k =
      ticking_by (Remembers (Tick stamp)) (remembers_closed (Tick stamp)) p c stamp h
      (λ g from tick. each (Tick stamp) stamp g from
      (λ v q cause of killed. absurd (no_kill stamp g from v q tick cause)) (λ q cause e. is_past stamp.reading e))
      k

-- a deschedule leaves no split of its instance
taking_forgets : (p : Params) (c : ℕ) (stamp : Stamp) (link : LinkNo) (v : Instance) (tag : Option Tag) (h : Store)
    (s : Split)
    → is_in_form p (noted (msg.Deschedule v tag)) ≡ true → v.0 ≡ s.0.0
    → In s (taking p c stamp link (msg.Deschedule v tag) h).state.splits → ⊥
taking_forgets p c stamp link v tag h s form e i =
    let g : Store = (passing p c stamp v tag (holding p stamp v h).state).state in
    let there = subst (λ (k : Store). In s k.splits) (stopped p c stamp link v tag h form) i in
    no_both (from_filter (λ x. not (splits.is_of v x)) s g.splits there).1 (ap not (eq-eqb s.0.0 v.0 (sym e)))

-- ---- what is split is remembered

-- the split of a record's visit
abbrev pub split_of : Rec → Split
split_of r = (r.tenancy.instance, r.tenancy.slot, r.visit)

with_piece_splits : (x : PieceState) (h : Store) → (with_piece_record x h).splits ≡ h.splits
with_piece_splits x h = with_piece_of (λ (k : Store). k.splits ≡ h.splits) x h (λ _. refl) (λ _. refl)

with_pieces_splits : (xs : List PieceState) (h : Store) → (with_each with_piece_record xs h).splits ≡ h.splits
with_pieces_splits [] h = refl
with_pieces_splits (x ∷ xs) h = with_pieces_splits xs (with_piece_record x h) ∙ with_piece_splits x h

splitting_remembers : (p : Params) (c : ℕ) (stamp : Stamp) (h : Store) (y : Line) → h.believes ≡ true
    → In y h.view.lines → must_split p stamp y ≡ true → is_handed_back p h.handback y.rec ≡ false
    → In (split_of y.rec) (splitting p c stamp h).state.splits
splitting_remembers p c stamp h y believes i must left =
    let s : Split = split_of y.rec in
    let xs : List PieceState = flat_map (first_pieces p stamp h.handback) h.view.lines in
    let here : In s (split_visits p stamp h.handback y) = in_split_off p stamp h.handback y s (s ∷ []) must left (inl refl) in
    subst (λ (d : Deed Msg Store). In s d.state.splits) (sym (split_is p c stamp h believes))
    (subst (λ (ls : List Split). In s ls) (sym (with_pieces_splits xs (with_split_lines p stamp h)))
    (with_splits_there s (flat_map (split_visits p stamp h.handback) h.view.lines) h.splits
    (in_flat_map (split_visits p stamp h.handback) s y h.view.lines i here)))

-- the steps behind splitting neither add nor drop any
abbrev SameSplits : Store → Deed Msg Store → Type 0
SameSplits h d = d.state.splits ≡ h.splits

same_closed : IsClosed SameSplits
same_closed = record { none = λ h. refl; both = λ h d e one two. two ∙ one }

same_end : (p : Params) (c : ℕ) (stamp : Stamp) (x : Change) → IsOfEnd x → (h : Store) → SameSplits h (did p c stamp x h)
same_end p c stamp AskBlocks of h = refl
same_end p c stamp AskPieces of h = refl
same_end p c stamp ServeBlocks of h = refl
same_end p c stamp DropBackups of h = refl
same_end p c stamp ServePieces of h = refl
same_end p c stamp Beat of h = refl
same_end p c stamp other of h = absurd of

late_splits : (p : Params) (c : ℕ) (stamp : Stamp) (h : Store)
    → (then_do (forwarding p c stamp) (end_steps p c stamp) h).state.splits ≡ h.splits
late_splits p c stamp h =
    then_by SameSplits same_closed (forwarding p c stamp) (end_steps p c stamp) h
    (forwarding_from SameSplits same_closed p c stamp h refl)
    (end_from SameSplits same_closed p c stamp (forwarding p c stamp h).state (same_end p c stamp))

ticking_remembers : (p : Params) (c : ℕ) (stamp : Stamp) (h : Store) (y : Line)
    → (before_splitting p c stamp h).believes ≡ true
    → In y (before_splitting p c stamp h).view.lines → must_split p stamp y ≡ true
    → is_handed_back p (before_splitting p c stamp h).handback y.rec ≡ false
    → In (split_of y.rec) (ticking p c stamp h).state.splits
ticking_remembers p c stamp h y believes i must left =
    let h3 : Store = before_splitting p c stamp h in
    subst (λ (k : Store). In (split_of y.rec) k.splits) (sym (tick_late p c stamp h))
    (subst (λ (ls : List Split). In (split_of y.rec) ls) (sym (late_splits p c stamp (splitting p c stamp h3).state))
    (splitting_remembers p c stamp h3 y believes i must left))

-- at the end of the tick at which a cub splits a visit it remembers that
pub split_remembered : (p : Params) (lives : Lives) {c n x : ℕ} {t : Tenancy} → (w : SplitAt p lives c t n x)
    → In (split_of (record { tenancy = t; visit = n; kind = w.line.rec.kind }))
    (store_at p c (lives.input c) (suc w.tick.at)).splits
split_remembered p lives {c} {n} {x} {t} w =
    let stamp : Stamp = stamp_of x w.reading in
    let h : Store = kept_at w.tick in
    let there = ticking_remembers p c stamp h w.line w.believes w.there.0 w.must w.left in
    subst (λ (q : Input Msg). In (t.instance, t.slot, n) (deed_of p c q h).state.splits) (sym w.tick.is)
    (subst (λ (r : Rec). In (split_of r) (ticking p c stamp h).state.splits) w.there.1 there)

-- ---- along a life

module _ (p : Params) (c count : ℕ) (inputs : ℕ → Input Msg) (formed : IsFormed p count inputs) (s : Split) where
  -- a deschedule came behind an input and no later than another, and the split's kills went out
  pub record WasKilled (from until : ℕ) : Type 0 where
    pub at : ℕ
    pub after : from < at
    pub by : at ≤ until
    pub stop : IsStop p c inputs at s.0.0
    pub kills : AreKilled p c s (outs_at p c inputs at)

  -- its time was over at a tick before an input
  pub record WasForgotten (until : ℕ) : Type 0 where
    pub at : ℕ
    pub before : at < until
    pub stamp : Stamp
    pub is : inputs at ≡ Tick stamp
    pub past : due p s.1.0 s.2 + p.play ≤ stamp.reading

  lost_at : (i k j : ℕ) → i < k → k < j → (q : Input Msg) → inputs k ≡ q
      → Forgets p c q s (deed_of p c q (store_at p c inputs k)).outs → WasKilled i j ⊎ WasForgotten j
  lost_at i k j l low (Take stamp link (msg.Deschedule v tag)) e f = inl (record {
    at = k;
    after = l;
    by = omega arith;
    stop = record { stamp = stamp; link = link; instance = v; tag = tag; is = e; same = f.0 };
    kills = subst (λ (x : Input Msg). AreKilled p c s (deed_of p c x (store_at p c inputs k)).outs) (sym e) f.1;
  })
  lost_at i k j l low (Take stamp link other) e f = absurd f
  lost_at i k j l low (Tick stamp) e f = inr (record { at = k; before = low; stamp = stamp; is = e; past = f })

  -- from a split on it is remembered, until one of the two
  remembered : (i j : ℕ) → In s (store_at p c inputs (suc i)).splits → i < j → In s (store_at p c inputs j).splits
      ⊎ (WasKilled i j ⊎ WasForgotten j)
  remembered i j w l = ⊎_elim
      (λ k. inl k)
      (λ u. inr (lost_at i u.at j u.from u.before (inputs u.at) refl u.may))
      (held_until (λ k. In s (store_at p c inputs k).splits) (λ k. Forgets p c (inputs k) s (outs_at p c inputs k)) j (suc i) l
      (λ k _ _ h. deed_remembers p c s (inputs k) (store_at p c inputs k) h) w)

  -- so when a deschedule came its kills had gone out, or its time was over
  pub killed_by : (i j : ℕ) → j < count → In s (store_at p c inputs (suc i)).splits → i < j → IsStop p c inputs j s.0.0
      → WasKilled i j ⊎ WasForgotten j
  killed_by i j low w l stop = ⊎_elim
      (λ k. ⊎_elim
      (λ a. absurd (taking_forgets p c stop.stamp stop.link stop.instance stop.tag (store_at p c inputs j) s
      (formed j stop.stamp stop.link (msg.Deschedule stop.instance stop.tag) low stop.is) stop.same
      (subst (λ (q : Input Msg). In s (deed_of p c q (store_at p c inputs j)).state.splits) stop.is a)))
      (λ a. inl (record {
        at = j;
        after = l;
        by = omega arith;
        stop = stop;
        kills = subst (λ (q : Input Msg). AreKilled p c s (deed_of p c q (store_at p c inputs j)).outs) (sym stop.is)
            (subst (λ (q : Input Msg). Forgets p c q s (deed_of p c q (store_at p c inputs j)).outs) stop.is a).1;
      }))
      (deed_remembers p c s (inputs j) (store_at p c inputs j) k))
      (λ k. k)
      (remembered i j w l)
