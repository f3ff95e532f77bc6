-- What a cub whose disks may die remembers along its life: each visit that it split, until a deschedule of its instance comes,
-- which kills its pieces, or a tick at which its time is over.
use Rattle.std.proofs.Common.{◌≡◌, ℕ, suc, ◌<◌, ◌≤◌, Bool, true, false, cond, not, map, List, [], Option, Some, None, refl, sym, ap, subst, ◌∙◌, arith, ⊎_elim, inl, inr}
use Rattle.std.specs.Prelude.{◌⊎◌}
use Rattle.std.specs.List.{range_with_len}
use Rattle.std.proofs.lemmas.Bool.{cases_Bool, eqb-true, eq-eqb}
use Rattle.tiger_base.specs.declared.number.Instance.{Instance}
use Rattle.tiger_base.specs.declared.number.LinkNo.{LinkNo}
use Rattle.tiger_base.specs.declared.number.SlotNo.{SlotNo}
use Rattle.tiger_base.specs.declared.number.Stamp.{Stamp}
use Rattle.tiger_base.specs.declared.tenancy.PieceState.{PieceState}
use Rattle.tiger_base.specs.declared.tenancy.Rec.{Rec}
use Rattle.tiger_base.specs.declared.tenancy.Tag.{Tag}
use Rattle.tiger_base.specs.declared.message.Msg.{Msg}
use Rattle.tiger_base.specs.declared.message.Msg.TheVariants as msg
use Rattle.tiger_base.specs.Notes.{noted}
use Rattle.slot_plan.specs.declared.params.Params.{Params}
use Rattle.partial_view.specs.declared.line.Line.{Line}
use Rattle.mirror_schedule.specs.Pieces.{Pieces, is_of}
use Rattle.node_kit.specs.declared.outbox.Out.{Out}
use Rattle.node_kit.specs.declared.outbox.Out.TheVariants as out
use Rattle.node_kit.specs.Form.{is_in_form}
use Rattle.node_kit.specs.Steps.{Deed, Input}
use Rattle.node_kit.specs.Steps.Input.{Take, Tick}
use Rattle.node_kit.specs.Ways.{way_ahead}
use Rattle.disk_death.specs.Spares.{adding, first_of_visit, is_forgotten_at, killed_ahead, killing_own, killing_stopped, kills_if_of, must_split_own, piece_numbered, sent_to_mirror, stopped_by, stopped_in_form}
use Rattle.lists.specs.Elements.{In}
use Rattle.lists.proofs.Elements.{chosen, in_filter, from_filter, in_flat_map, from_flat_map, in_map, from_map}
use Rattle.proof_lives.specs.HoldsHere.{IsFormed}
use Rattle.proof_lives.specs.Lives.{store_at}
use Rattle.proof_lives.proofs.Begun.{IsStop}
use Rattle.proof_lives.proofs.HoldLaws.{no_both}
use Rattle.proof_lives.proofs.Trails.{Since, came_since, held_until}
use Rattle.proof_ring.proofs.Below as below
use Rattle.proof_spare.specs.Added.{adding_at, remembered_at}
use Rattle.proof_spare.proofs.Splits.{IsSplitHere, tick_back, tick_sent, tick_stays, tick_there}

-- ---- which instance a message stops

stop_of : (m : Msg) (v : Instance) → stopped_by m ≡ Some v → (tag : Option Tag) × (m ≡ msg.Deschedule v tag)
stop_of (msg.Deschedule w tag) v e = (tag, ap (λ (x : Instance). msg.Deschedule x tag) (let same : w ≡ v = cc in same))
stop_of other v e = absurd (cc)

-- One that stops an instance is a deschedule of it.
stop_form : (p : Params) (m : Msg) (v : Instance) → stopped_in_form p m ≡ Some v
    → (tag : Option Tag) × (m ≡ msg.Deschedule v tag)
unfolding stopped_in_form
stop_form p m v =
    chosen (λ (o : Option Instance). o ≡ Some v → (tag : Option Tag) × (m ≡ msg.Deschedule v tag)) (is_in_form p (noted m))
    (stopped_by m) None
    (λ _ e. stop_of m v e)
    (λ _ e. absurd (cc))

-- A deschedule in form stops its instance.
stops : (p : Params) (v : Instance) (tag : Option Tag) → is_in_form p (noted (msg.Deschedule v tag)) ≡ true
    → stopped_in_form p (msg.Deschedule v tag) ≡ Some v
unfolding stopped_in_form
stops p v tag form = subst (λ (b : Bool). cond b (Some v) None ≡ Some v) (sym form) refl

module _ (p : Params) (c : ℕ) where
  -- ---- what goes out at a message

  -- The kills of all pieces of a split visit go out.
  abbrev pub AllAreKilled : PieceState → List (Out Msg) → Type 0
  AllAreKilled x os = (k : ℕ) → 1 ≤ k → k ≤ p.pieces → In (killed_ahead p c x k) os

  -- A split visit is of an instance that is stopped, and its kills go out.
  pub record IsKilledBy (o : Option Instance) (x : PieceState) (os : List (Out Msg)) : Type 0 where
    pub instance : Instance
    pub stops : o ≡ Some instance
    pub of_it : is_of instance x ≡ true
    pub kills : AllAreKilled x os

  kills_there : (v : Instance) (x : PieceState) (k : ℕ) → is_of v x ≡ true → 1 ≤ k → k ≤ p.pieces
      → In (killed_ahead p c x k) (kills_if_of p c v x)
  unfolding kills_if_of
  kills_there v x k of_v low high =
      subst
      (λ (b : Bool). In (killed_ahead p c x k) (cond b (map (killed_ahead p c x) (range_with_len 1 p.pieces)) []))
      (sym of_v)
      (in_map (killed_ahead p c x) k (range_with_len 1 p.pieces) (below.in_range k 1 p.pieces low (omega arith)))

  stop_stays : (o : Option Instance) (ps : Pieces) (x : PieceState) → In x ps.items
      → In x (killing_stopped p c o ps).state.items ⊎ IsKilledBy o x (killing_stopped p c o ps).outs
  unfolding killing_own
  stop_stays None ps x i = inl i
  stop_stays (Some v) ps x i = ⊎_elim
      (λ (t : is_of v x ≡ true). inr (record {
        instance = v;
        stops = refl;
        of_it = t;
        kills = λ k low high. in_flat_map (kills_if_of p c v) (killed_ahead p c x k) x ps.items i (kills_there v x k t low high);
      }))
      (λ (f : is_of v x ≡ false). inl (in_filter (λ y. not (is_of v y)) x ps.items i (ap not f)))
      (cases_Bool (is_of v x))

  stop_back : (o : Option Instance) (ps : Pieces) (x : PieceState) → In x (killing_stopped p c o ps).state.items → In x ps.items
  unfolding killing_own
  stop_back None ps x i = i
  stop_back (Some v) ps x i = (from_filter (λ y. not (is_of v y)) x ps.items i).0

  -- Of an instance that is stopped nothing is remembered.
  stop_leaves : (v : Instance) (ps : Pieces) (x : PieceState) → In x (killing_stopped p c (Some v) ps).state.items
      → v.0 ≡ x.tenancy.instance.0 → ⊥
  unfolding killing_own
  stop_leaves v ps x i e =
      no_both (from_filter (λ y. not (is_of v y)) x ps.items i).1 (ap not (eq-eqb x.tenancy.instance.0 v.0 (sym e)))

  -- A kill that goes out is of a visit of an instance that is stopped.
  pub record IsKillOf (o : Option Instance) (out_is : Out Msg) : Type 0 where
    pub instance : Instance
    pub stops : o ≡ Some instance
    pub piece : PieceState
    pub of_it : is_of instance piece ≡ true
    pub steps : ℕ
    pub is : out_is ≡ killed_ahead p c piece steps

  kill_of : (v : Instance) (x : PieceState) (q : Out Msg) → In q (kills_if_of p c v x) → IsKillOf (Some v) q
  unfolding kills_if_of
  kill_of v x q =
      chosen (λ (os : List (Out Msg)). In q os → IsKillOf (Some v) q) (is_of v x)
      (map (killed_ahead p c x) (range_with_len 1 p.pieces)) []
      (λ t i.
      let f = from_map (killed_ahead p c x) q (range_with_len 1 p.pieces) i in
      record { instance = v; stops = refl; piece = x; of_it = t; steps = f.0; is = f.2 })
      (λ _ i. absurd i)

  stop_kills : (o : Option Instance) (ps : Pieces) (q : Out Msg) → In q (killing_stopped p c o ps).outs → IsKillOf o q
  unfolding killing_own
  stop_kills None ps q i = absurd i
  stop_kills (Some v) ps q i = let f = from_flat_map (kills_if_of p c v) q ps.items i in kill_of v f.0 q f.2

  -- ---- one input

  module _ (deaths : List (Option ℕ)) where
    -- A mirror state that goes out is of a visit that is split at a tick, and remembered then.
    pub record IsMirrorOf (k : Input Msg) (lines : List Line) (link : LinkNo) (x : PieceState) (d : Deed Msg Pieces) : Type 0 where
      pub stamp : Stamp
      pub is : k ≡ Tick stamp
      pub record_of : Rec
      pub split : IsSplitHere p c deaths stamp lines record_of d.outs
      pub there : In (first_of_visit record_of) d.state.items
      pub tenancy : record_of.tenancy ≡ x.tenancy
      pub visit : record_of.visit ≡ x.visit
      pub low : 1 ≤ x.piece
      pub high : x.piece ≤ p.pieces
      pub way : link ≡ way_ahead p c x.piece

    pub mirror_of : (k : Input Msg) (lines : List Line) (ps : Pieces) (link : LinkNo) (x : PieceState)
        → In (out.Send link (msg.MirrorState x)) (adding p c deaths k lines ps).outs
        → IsMirrorOf k lines link x (adding p c deaths k lines ps)
    mirror_of (Take stamp way m) lines ps link x i =
        let q = stop_kills (stopped_in_form p m) ps (out.Send link (msg.MirrorState x)) i in
        let e : out.Send link (msg.MirrorState x) ≡ killed_ahead p c q.piece q.steps = q.is in
        absurd (cc)
    mirror_of (Tick stamp) lines ps link x i =
        let s = tick_sent p c deaths stamp lines ps (out.Send link (msg.MirrorState x)) i in
        let r : Rec = s.record_of in
        let j : ℕ = s.sent.number in
        let e : out.Send link (msg.MirrorState x) ≡ sent_to_mirror p c r j = s.sent.is in
        let way : link ≡ way_ahead p c j = cc in
        let same : x ≡ piece_numbered r j = cc in
        let number : x.piece ≡ j = ap (λ (y : PieceState). y.piece) same in
        let low = s.sent.low in
        let high = s.sent.high in
        record {
          stamp = stamp;
          is = refl;
          record_of = r;
          split = s.split;
          there = s.there;
          tenancy = sym (ap (λ (y : PieceState). y.tenancy) same);
          visit = sym (ap (λ (y : PieceState). y.visit) same);
          low = omega arith;
          high = omega arith;
          way = way ∙ ap (λ (n : ℕ). way_ahead p c n) (sym number);
        }

    -- An input is a deschedule of an instance.
    pub record IsStopFor (k : Input Msg) (v : Instance) : Type 0 where
      pub stamp : Stamp
      pub link : LinkNo
      pub instance : Instance
      pub tag : Option Tag
      pub is : k ≡ Take stamp link (msg.Deschedule instance tag)
      pub same : instance.0 ≡ v.0

    pub kill_stops : (k : Input Msg) (lines : List Line) (ps : Pieces) (link : LinkNo) (v : Instance) (s : SlotNo) (n : ℕ)
        → In (out.Send link (msg.Kill v s n)) (adding p c deaths k lines ps).outs → IsStopFor k v
    kill_stops (Take stamp way m) lines ps link v s n i =
        let q = stop_kills (stopped_in_form p m) ps (out.Send link (msg.Kill v s n)) i in
        let f = stop_form p m q.instance q.stops in
        let e : out.Send link (msg.Kill v s n) ≡ killed_ahead p c q.piece q.steps = q.is in
        let same : v ≡ q.piece.tenancy.instance = cc in
        let number : q.piece.tenancy.instance.0 ≡ q.instance.0 = eqb-true _ _ q.of_it in
        record {
          stamp = stamp;
          link = way;
          instance = q.instance;
          tag = f.0;
          is = ap (λ (o : Msg). Take stamp way o) f.1;
          same = sym (ap (λ (w : Instance). w.0) same ∙ number);
        }
    kill_stops (Tick stamp) lines ps link v s n i =
        let t = tick_sent p c deaths stamp lines ps (out.Send link (msg.Kill v s n)) i in
        let e : out.Send link (msg.Kill v s n) ≡ sent_to_mirror p c t.record_of t.sent.number = t.sent.is in
        absurd (cc)

    -- Why a split visit is remembered no more after an input.
    abbrev pub Forgets : Input Msg → PieceState → List (Out Msg) → Type 0
    Forgets (Take stamp link m) x os = IsKilledBy (stopped_in_form p m) x os
    Forgets (Tick stamp) x os = is_forgotten_at p stamp.reading x ≡ true

    adding_stays : (k : Input Msg) (lines : List Line) (ps : Pieces) (x : PieceState) → In x ps.items
        → In x (adding p c deaths k lines ps).state.items ⊎ Forgets k x (adding p c deaths k lines ps).outs
    adding_stays (Take stamp link m) lines ps x i = stop_stays (stopped_in_form p m) ps x i
    adding_stays (Tick stamp) lines ps x i = tick_stays p c deaths stamp lines ps x i

    -- Why one is remembered that was not.
    abbrev pub Comes : Input Msg → List Line → PieceState → List (Out Msg) → Type 0
    Comes (Take stamp link m) lines x os = ⊥
    Comes (Tick stamp) lines x os = (r : Rec) × (x ≡ first_of_visit r) × IsSplitHere p c deaths stamp lines r os

    adding_back : (k : Input Msg) (lines : List Line) (ps : Pieces) (x : PieceState)
        → In x (adding p c deaths k lines ps).state.items
        → In x ps.items ⊎ Comes k lines x (adding p c deaths k lines ps).outs
    adding_back (Take stamp link m) lines ps x i = inl (stop_back (stopped_in_form p m) ps x i)
    adding_back (Tick stamp) lines ps x i = tick_back p c deaths stamp lines ps x i

    -- ---- along a life

    module _ (inputs : ℕ → Input Msg) where
      abbrev Kept : ℕ → Pieces
      Kept i = remembered_at p c deaths inputs i

      abbrev Outs : ℕ → List (Out Msg)
      Outs i = (adding_at p c deaths inputs i (Kept i)).outs

      abbrev Lines : ℕ → List Line
      Lines i = (store_at p c inputs (suc i)).view.lines

      -- What is remembered was split before, and all its mirror states went out then.
      pub remembered_since : (i : ℕ) (x : PieceState) → In x (Kept i).items
          → Since (λ k. In x (Kept k).items) (λ k. Comes (inputs k) (Lines k) x (Outs k)) i
      remembered_since i x there =
          came_since (λ k. In x (Kept k).items) (λ k. Comes (inputs k) (Lines k) x (Outs k)) (λ z. z) i
          (λ k _ h. adding_back (inputs k) (Lines k) (Kept k) x h) there

      -- What is split is remembered behind the tick.
      pub split_there : (i : ℕ) (stamp : Stamp) (x : Line) → inputs i ≡ Tick stamp → In x (Lines i)
          → must_split_own p deaths stamp x ≡ true → In (first_of_visit x.rec) (Kept (suc i)).items
      split_there i stamp x is there must =
          subst (λ (k : Input Msg). In (first_of_visit x.rec) (adding p c deaths k (Lines i) (Kept i)).state.items) (sym is)
          (tick_there p c deaths stamp (Lines i) (Kept i) x there must)

      module _ (count : ℕ) (formed : IsFormed p count inputs) (x : PieceState) where
        -- A deschedule of its instance came behind an input and no later than another, and its kills went out.
        pub record WasKilled (from until : ℕ) : Type 0 where
          pub at : ℕ
          pub after : from < at
          pub by : at ≤ until
          pub stop : IsStop p c inputs at x.tenancy.instance.0
          pub kills : AllAreKilled x (Outs at)

        -- Its time was over at a tick before an input.
        pub record WasForgotten (until : ℕ) : Type 0 where
          pub at : ℕ
          pub before : at < until
          pub stamp : Stamp
          pub is : inputs at ≡ Tick stamp
          pub past : is_forgotten_at p stamp.reading x ≡ true

        lost_at : (i k j : ℕ) → i < k → k < j → (q : Input Msg) → inputs k ≡ q
            → Forgets q x (adding p c deaths q (Lines k) (Kept k)).outs → WasKilled i j ⊎ WasForgotten j
        lost_at i k j l low (Take stamp link m) e f =
            let s = stop_form p m f.instance f.stops in
            let number : x.tenancy.instance.0 ≡ f.instance.0 = eqb-true _ _ f.of_it in
            inl (record {
              at = k;
              after = l;
              by = omega arith;
              stop = record {
                stamp = stamp;
                link = link;
                instance = f.instance;
                tag = s.0;
                is = e ∙ ap (λ (o : Msg). Take stamp link o) s.1;
                same = sym number;
              };
              kills = subst (λ (q : Input Msg). AllAreKilled x (adding p c deaths q (Lines k) (Kept k)).outs) (sym e) f.kills;
            })
        lost_at i k j l low (Tick stamp) e f = inr (record { at = k; before = low; stamp = stamp; is = e; past = f })

        -- From a split on it is remembered, until one of the two.
        remembered : (i j : ℕ) → In x (Kept (suc i)).items → i < j → In x (Kept j).items ⊎ (WasKilled i j ⊎ WasForgotten j)
        remembered i j there l = ⊎_elim
            (λ k. inl k)
            (λ u. inr (lost_at i u.at j u.from u.before (inputs u.at) refl u.may))
            (held_until (λ k. In x (Kept k).items) (λ k. Forgets (inputs k) x (Outs k)) j (suc i) l
            (λ k _ _ h. adding_stays (inputs k) (Lines k) (Kept k) x h) there)

        -- At a deschedule in form nothing of its instance is remembered behind it.
        stopped : (j : ℕ) → j < count → (s : IsStop p c inputs j x.tenancy.instance.0) → In x (Kept (suc j)).items → ⊥
        stopped j low s there =
            let form : is_in_form p (noted (msg.Deschedule s.instance s.tag)) ≡ true =
            formed j s.stamp s.link (msg.Deschedule s.instance s.tag) low s.is in
            let here = subst (λ (k : Input Msg). In x (adding p c deaths k (Lines j) (Kept j)).state.items) s.is there in
            stop_leaves s.instance (Kept j) x
            (subst (λ (o : Option Instance). In x (killing_stopped p c o (Kept j)).state.items) (stops p s.instance s.tag form) here)
            s.same

        -- So when a deschedule comes its kills have gone out by then, or its time was over.
        pub killed_by : (i j : ℕ) → j < count → In x (Kept (suc i)).items → i < j → IsStop p c inputs j x.tenancy.instance.0
            → WasKilled i j ⊎ WasForgotten j
        killed_by i j low there l s = ⊎_elim
            (λ k. ⊎_elim
            (λ a. absurd (stopped j low s a))
            (λ a. lost_now i j l s a)
            (adding_stays (inputs j) (Lines j) (Kept j) x k))
            (λ k. k)
            (remembered i j there l)
          where
            lost_now : (i j : ℕ) → i < j → IsStop p c inputs j x.tenancy.instance.0 → Forgets (inputs j) x (Outs j)
                → WasKilled i j ⊎ WasForgotten j
            lost_now i j l s a =
                let f = subst (λ (q : Input Msg). Forgets q x (adding p c deaths q (Lines j) (Kept j)).outs) s.is a in
                inl (record {
                  at = j;
                  after = l;
                  by = omega arith;
                  stop = s;
                  kills = subst (λ (q : Input Msg). AllAreKilled x (adding p c deaths q (Lines j) (Kept j)).outs) (sym s.is) f.kills;
                })
