-- A cub's piece records along its life: how each entered, how long it stands, and until when it is to be asked for.
use Rattle.std.proofs.Common.{◌≡◌, ℕ, zero, suc, ◌+◌, ◌<◌, ◌≤◌, true, false, not, refl, sym, ap, subst, arith, ⊎_elim, inl, inr}
use Rattle.std.specs.Prelude.{◌⊎◌}
use Rattle.std.proofs.lemmas.Bool.{cases_Bool, cases_lt, eq-eqb, and_from}
use Rattle.tiger_base.specs.declared.number.Instance.{Instance}
use Rattle.tiger_base.specs.declared.number.LinkNo.{LinkNo}
use Rattle.tiger_base.specs.declared.number.Stamp.{Stamp}
use Rattle.tiger_base.specs.declared.tenancy.PieceState.{PieceState}
use Rattle.tiger_base.specs.declared.message.Msg.{Msg}
use Rattle.tiger_base.specs.declared.message.Msg.TheVariants as msg
use Rattle.tiger_base.specs.Notes.{noted}
use Rattle.slot_plan.specs.declared.params.Params.{Params}
use Rattle.mirror_schedule.specs.Pieces as pieces
use Rattle.mirror_schedule.specs.Pieces.{is_in}
use Rattle.node_kit.specs.Form.{is_in_form}
use Rattle.node_kit.specs.Steps.{Deed, Input}
use Rattle.node_kit.specs.Steps.Input.{Take, Tick}
use Rattle.cub_rules.specs.declared.store.Store.{Store}
use Rattle.cub_rules.specs.Messages.{holding, passing, taking}
use Rattle.cub_rules.specs.Ticks.{leaves_by, ticking}
use Rattle.cub_changes.specs.Changes.{did}
use Rattle.cub_changes.specs.Changes.Change.{DropPieces, DropKilled}
use Rattle.cub_changes.proofs.Chains.{takes_piece, takes_kill, stopped}
use Rattle.proof_lives.specs.Lives.{deed_of, store_at}
use Rattle.lists.specs.Elements.{In}
use Rattle.lists.proofs.Elements.{from_filter}
use Rattle.proof_lives.proofs.Trails.{came_since, held_or_came, held_until}
use Rattle.proof_lives.specs.HoldsHere.{IsFormed}
use Rattle.proof_facts.specs.Pieces.{before_reading}
use Rattle.proof_splits.specs.PieceRecords.{IsMirrored, IsSplitOff, Enters, CutsOff, MayGo, StandsSince, MightGo, WasAskedFor, KeepsInTick, KeepsPieces}
use Rattle.proof_lives.proofs.HoldLaws.{no_both}
use Rattle.proof_splits.proofs.PieceSets.{Moves, there_is_in, with_there}
use Rattle.proof_splits.proofs.PieceMoves.{to_reading, to_serving, split_there, ticking_leaves, ticking_asks, rest_moves, deed_moves}

-- ---- what a deschedule, a kill and a mirror state leave

dropped : (p : Params) (c : ℕ) (stamp : Stamp) (v : Instance) (h : Store) (x : PieceState)
    → In x (did p c stamp (DropPieces v) h).state.pieces.items → v.0 ≡ x.tenancy.instance.0 → ⊥
dropped p c stamp v h x i e = no_both (from_filter (λ y. not (pieces.is_of v y)) x h.pieces.items i).1
    (ap not (eq-eqb x.tenancy.instance.0 v.0 (sym e)))

killed : (p : Params) (c : ℕ) (stamp : Stamp) (v : Instance) (n : ℕ) (h : Store) (x : PieceState)
    → In x (did p c stamp (DropKilled v n) h).state.pieces.items → v.0 ≡ x.tenancy.instance.0 → n ≡ x.visit → ⊥
killed p c stamp v n h x i e q =
    no_both (from_filter (λ y. not (pieces.is_of_visit v n y)) x h.pieces.items i).1
    (ap not (and_from _ _ (eq-eqb x.tenancy.instance.0 v.0 (sym e)) (eq-eqb x.visit n (sym q))))

taking_cut : (p : Params) (c : ℕ) (stamp : Stamp) (link : LinkNo) (m : Msg) (h : Store) (x : PieceState)
    → is_in_form p (noted m) ≡ true
    → CutsOff (Take stamp link m) x → In x (taking p c stamp link m h).state.pieces.items → ⊥
taking_cut p c stamp link (msg.Deschedule v tag) h x form cut i =
    dropped p c stamp v (passing p c stamp v tag (holding p stamp v h).state).state x
    (subst (λ (s : Store). In x s.pieces.items) (stopped p c stamp link v tag h form) i) cut
taking_cut p c stamp link (msg.Kill v slot n) h x form cut i =
    killed p c stamp v n h x (subst (λ (d : Deed Msg Store). In x d.state.pieces.items) (takes_kill p c stamp link v slot n h form) i)
    cut.0 cut.1
taking_cut p c stamp link other h x form cut i = absurd cut

taking_there : (p : Params) (c : ℕ) (stamp : Stamp) (link : LinkNo) (m : Msg) (h : Store) (x : PieceState)
    → is_in_form p (noted m) ≡ true → IsMirrored p c m h x
    → In x (taking p c stamp link m h).state.pieces.items
taking_there p c stamp link m h x form w =
    let f : is_in_form p (noted (msg.MirrorState x)) ≡ true = subst
    (λ (o : Msg). is_in_form p (noted o) ≡ true) w.is form in
    subst (λ (o : Msg). In x (taking p c stamp link o h).state.pieces.items) (sym w.is)
    (subst (λ (d : Deed Msg Store). In x d.state.pieces.items) (sym (takes_piece p c stamp link x h f w.free w.here w.lets))
    (with_there x h))

-- ---- a life

module _ (p : Params) (c : ℕ) (some : 1 ≤ p.pieces) (count : ℕ) (inputs : ℕ → Input Msg)
    (formed : IsFormed p count inputs) where
  abbrev kept : ℕ → Store
  kept i = store_at p c inputs i

  abbrev Asked : ℕ → PieceState → Type 0
  Asked i x = WasAskedFor p c inputs x i

  -- what an input makes of both sets
  moves : (i : ℕ) → Moves (Enters p c (inputs i) (kept i)) (MayGo p (inputs i)) (Asked (suc i)) (kept i) (kept (suc i))
  moves i = deed_moves (Asked (suc i)) p c (inputs i) (kept i)
      (λ stamp e x a. record { at = i; before = omega arith; stamp = stamp; is = e; asked = a })

  -- what is cut off stands no more
  cut_goes : (i : ℕ) (x : PieceState) (k : Input Msg) → i < count → inputs i ≡ k → CutsOff k x
      → In x (deed_of p c k (kept i)).state.pieces.items → ⊥
  cut_goes i x (Take stamp link m) low e cut there = taking_cut p c stamp link m (kept i) x
      (formed i stamp link m low e) cut there
  cut_goes i x (Tick stamp) low e cut there = absurd cut

  -- what stands after an input stood before it, or there was none of that piece, and it enters
  came : (i : ℕ) (x : PieceState) → In x (kept (suc i)).pieces.items
      → In x (kept i).pieces.items ⊎ (Enters p c (inputs i) (kept i) x × (is_in x (kept i).pieces.items ≡ false))
  came i x there = ⊎_elim
      (λ (t : is_in x (kept i).pieces.items ≡ true). inl (there_is_in x (kept i).pieces.items t))
      (λ (f : is_in x (kept i).pieces.items ≡ false). ⊎_elim (λ k. inl k) (λ w. inr (w, f)) ((moves i).back x there))
      (cases_Bool (is_in x (kept i).pieces.items))

  abbrev Stands : PieceState → ℕ → Type 0
  Stands x i = In x (kept i).pieces.items

  -- how what stands entered
  pub entered : (i : ℕ) (x : PieceState) → i ≤ count → Stands x i → StandsSince p c inputs x i
  entered i x low there =
      let s = came_since (Stands x)
      (λ k. Enters p c (inputs k) (kept k) x × (is_in x (kept k).pieces.items ≡ false)) (λ h. h) i (λ k _ h. came k x h) there in
      let before = s.before in
      record {
        at = s.at;
        before = before;
        enters = s.came.0;
        new = s.came.1;
        behind = λ j l cut. ⊎_elim
            (λ (q : j < s.at). q)
            (λ (q : s.at ≤ j). absurd
            (cut_goes j x (inputs j) (omega arith) refl cut (s.since (suc j) (omega arith) (omega arith))))
            (cases_lt j s.at);
        stands = s.since;
      }

  enters_at : (i : ℕ) (x : PieceState) (k : Input Msg) → i < count → inputs i ≡ k → Enters p c k (kept i) x
      → In x (deed_of p c k (kept i)).state.pieces.items ⊎ MayGo p k x
  enters_at i x (Take stamp link m) low e w = inl
      (taking_there p c stamp link m (kept i) x (formed i stamp link m low e) w)
  enters_at i x (Tick stamp) low e w = after_reading stamp (kept i) x (split_there p c stamp (kept i) x some w)
    where
      after_reading : (stamp : Stamp) (h : Store) (x : PieceState) → In x (before_reading p c stamp h).pieces.items
          → In x (ticking p c stamp h).state.pieces.items ⊎ (leaves_by p stamp.reading x ≡ true)
      after_reading stamp h x i = (rest_moves (λ y. ⊥) (λ y. leaves_by p stamp.reading y ≡ true)
          (λ y. Unit {0}) p c stamp h (λ y t. t) (λ y t. tt)).stays x i

  -- what enters stands afterwards, unless it leaves at that very tick
  enters : (i : ℕ) (x : PieceState) → i < count → Enters p c (inputs i) (kept i) x
      → In x (kept (suc i)).pieces.items ⊎ MayGo p (inputs i) x
  enters i x low w = enters_at i x (inputs i) low refl w

  -- a record stays until it may go
  stays : (j i : ℕ) (x : PieceState) → j ≤ i → In x (kept j).pieces.items → In x (kept i).pieces.items
      ⊎ MightGo p inputs x j i
  stays j i x le there = ⊎_elim
      (λ k. inl k)
      (λ u. inr (record { at = u.at; from = u.from; before = u.before; may = u.may }))
      (held_until (Stands x) (λ k. MayGo p (inputs k) x) i j le (λ k _ _ h. (moves k).stays x h) there)

  -- after a tick no record stands of a piece that leaves by then
  left : (i : ℕ) (stamp : Stamp) (x : PieceState) → inputs i ≡ Tick stamp → In x (kept (suc i)).pieces.items
      → leaves_by p stamp.reading x ≡ false
  left i stamp x e there = ticking_leaves p c stamp (kept i) x
      (subst (λ (k : Input Msg). In x (deed_of p c k (kept i)).state.pieces.items) e there)

  -- what is to be asked for stands
  within : (i : ℕ) (x : PieceState) → In x (kept i).unasked.items → In x (kept i).pieces.items
  within zero x there = absurd there
  within (suc i) x there = (moves i).within (within i) x there

  later : (i : ℕ) (x : PieceState) → Asked i x → Asked (suc i) x
  later i x a = let b = a.before in
      record { at = a.at; before = omega arith; stamp = a.stamp; is = a.is; asked = a.asked }

  -- what stands is to be asked for until it has been asked for
  unasked : (i : ℕ) (x : PieceState) → In x (kept i).pieces.items → In x (kept i).unasked.items ⊎ Asked i x
  unasked zero x there = absurd there
  unasked (suc i) x there = (moves i).unasked
      (λ y k. ⊎_elim (λ q. inl q) (λ q. inr (later i y q)) (unasked i y k)) x there

  -- what stands after an input did not go at it
  not_gone : (i : ℕ) (x : PieceState) (k : Input Msg) → i < count → inputs i ≡ k
      → In x (deed_of p c k (kept i)).state.pieces.items → MayGo p k x → ⊥
  not_gone i x (Take stamp link m) low e there may = cut_goes i x (Take stamp link m) low e may there
  not_gone i x (Tick stamp) low e there may = no_both may (ticking_leaves p c stamp (kept i) x there)

  -- what is to be asked for was so since it entered
  unasked_since : (i : ℕ) (x : PieceState) → i ≤ count → In x (kept i).unasked.items
      → (s : StandsSince p c inputs x i) → (k : ℕ) → s.at < k → k ≤ i
      → In x (kept k).unasked.items
  unasked_since i x low there s k after by = ⊎_elim
      (λ q. q)
      (λ w. absurd w.is)
      (held_or_came (λ n. In x (kept n).unasked.items) (λ n. ⊥) i k by
      (λ n from to h. inl (⊎_elim
      (λ q. q)
      (λ q. absurd (not_gone n x (inputs n) (omega arith) refl (s.stands (suc n) (omega arith) (omega arith))
      (q (s.stands n (omega arith) (omega arith)))))
      ((moves n).unasked_back x h)))
      there)

  -- after a tick nothing is to be asked for that leaves within the read lead
  asked : (i : ℕ) (stamp : Stamp) (x : PieceState) → inputs i ≡ Tick stamp → In x (kept (suc i)).unasked.items
      → leaves_by p (stamp.reading + p.read_lead) x ≡ false
  asked i stamp x e there = ticking_asks p c stamp (kept i) x
      (subst (λ (k : Input Msg). In x (deed_of p c k (kept i)).state.unasked.items) e there)

  in_tick : (stamp : Stamp) (h : Store) (x : PieceState) → KeepsInTick p c stamp h x
  in_tick stamp h x =
      let Split : PieceState → Type 0 = IsSplitOff p c stamp h in
      let reading = to_reading Split (λ y. ⊥) (λ y. Unit {0}) p c stamp h (λ y w. w) in
      let serving = to_serving Split (λ y. ⊥) (λ y. Unit {0}) p c stamp h (λ y w. w) (λ y w. tt) in
      record {
        to_reading = λ i. ⊎_elim (λ k. k) (λ k. absurd k) (reading.stays x i);
        to_serving = λ i. ⊎_elim (λ k. k) (λ k. absurd k) (serving.stays x i);
        at_reading = λ i. reading.back x i;
        at_serving = λ i. serving.back x i;
        split_off = λ w. split_there p c stamp h x some w;
        unasked = λ i. reading.unasked_why x i;
      }

  -- before the reading what stands is to be asked for, or was asked for at an earlier tick
  at_reading : (i : ℕ) (stamp : Stamp) (x : PieceState) → In x (before_reading p c stamp (kept i)).pieces.items
      → In x (before_reading p c stamp (kept i)).unasked.items ⊎ Asked i x
  at_reading i stamp x there = (to_reading (λ y. Unit {0}) (λ y. ⊥) (Asked i) p c stamp (kept i) (λ y w. tt)).unasked
      (unasked i) x there

  -- what holds of the cub's life
  pub keeps_pieces : KeepsPieces p c count inputs
  keeps_pieces = record {
    entered = entered;
    enters = enters;
    stays = stays;
    left = left;
    within = within;
    unasked = unasked;
    unasked_since = unasked_since;
    asked = asked;
    in_tick = λ i stamp x. in_tick stamp (kept i) x;
    at_reading = at_reading;
  }
