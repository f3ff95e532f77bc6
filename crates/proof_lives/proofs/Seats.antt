-- What a tick tells of a view: each record that is taken then is of a tenancy that was put before, and so is each first state.
use Rattle.std.proofs.Common.{◌≡◌, ℕ, ◌+◌, ◌<◌, ◌%◌, nat_lt, List, [], ◌∷◌, ◌++◌, false, cond, is_some, refl, sym, ap, subst, ◌∙◌, ⊎_elim, inl, inr}
use Rattle.std.specs.Prelude.{◌⊎◌}
use Rattle.std.specs.List.{AllByRecursion}
use Rattle.std.proofs.lemmas.Bool.{cond_both}
use Rattle.tiger_base.specs.declared.number.Stamp.{Stamp}
use Rattle.tiger_base.specs.declared.tenancy.Rec.{Rec}
use Rattle.tiger_base.specs.declared.tenancy.Tenancy.{Tenancy}
use Rattle.tiger_base.specs.declared.message.Msg.{Msg}
use Rattle.tiger_base.specs.Records.{own_of, backup_of}
use Rattle.slot_plan.specs.declared.params.Params.{Params}
use Rattle.slot_plan.specs.Conditions.{IsPlan}
use Rattle.slot_plan.specs.Times.{cub_of}
use Rattle.node_kit.specs.declared.journal.What.TheVariants as what
use Rattle.node_kit.specs.declared.outbox.Out.{Out}
use Rattle.node_kit.specs.declared.outbox.Out.TheVariants as out
use Rattle.node_kit.specs.Steps.{Deed}
use Rattle.node_kit.specs.Deeds.{nothing, then_do}
use Rattle.node_kit.specs.Ways.{predecessor}
use Rattle.partial_view.specs.declared.line.Line.{Line}
use Rattle.partial_view.specs.Lines.{unmarked, visit_of}
use Rattle.partial_view.specs.Views.{line_at}
use Rattle.cub_rules.specs.declared.store.Store.{Store}
use Rattle.cub_rules.specs.Records.{took}
use Rattle.cub_rules.specs.Ticks.{disks_at, putting, told_placed, putting_own, putting_for_dead, releasing, ticking}
use Rattle.cub_changes.specs.Changes.{did}
use Rattle.cub_changes.specs.Changes.Change.{PutStart, SendFirst, SendPlaced}
use Rattle.lists.specs.Elements.{In}
use Rattle.cub_changes.specs.Causes.{Stage, IsInsertion, MayTake, Fills, Cause}
use Rattle.cub_changes.specs.Causes.Stage.{OnRelease, OnDeadman, OnService}
use Rattle.cub_changes.proofs.Closed.{IsClosed, OfEach, then_by}
use Rattle.cub_changes.proofs.Messages.{took_of}
use Rattle.lists.proofs.Each.{all_in}
use Rattle.cub_changes.proofs.Puts.{dead_from, puts_by}
use Rattle.cub_changes.proofs.Ticks.{before_inserting, before_splitting, releasing_by, believing_by, service_by, tick_chain}
use Rattle.cub_changes.proofs.Numbers.{visit_own, next_own, disks_own, predecessor_below}
use Rattle.run_model.specs.Parts.{IsAtOrBefore, IsForCub, IsOwnRecordFor}
use Rattle.proof_lives.proofs.Moves.{in_with_line, took_new}
use Rattle.proof_lives.proofs.Told.{any_in}
use Rattle.proof_lives.proofs.Deeds.{Tells, tells_closed, tells_quiet, takes, each}
use Rattle.proof_lives.proofs.Takes.{OfTook, each_took}
use Rattle.cub_changes.proofs.Chains.{own_puts, dead_puts, own_is}
use Rattle.proof_lives.proofs.Inserting.{opening}

-- ---- lists of outputs

-- a record that is taken is for the cub, of a tenancy that was put before, at its first visit or the next one
abbrev pub IsSeated : Params → ℕ → List (Out Msg) → Out Msg → Type 0
IsSeated p c before (out.Act (what.Took r)) =
    In (out.Act (what.Put r.tenancy)) before × IsAtOrBefore r.tenancy.first r.visit × IsForCub p c r.kind r.visit
IsSeated p c before other = Unit {0}

module _ (p : Params) (c : ℕ) where
  -- and so each record in a list of outputs, behind those of another list
  abbrev pub AreSeated : List (Out Msg) → List (Out Msg) → Type 0
  AreSeated before [] = Unit {0}
  AreSeated before (o ∷ os) = IsSeated p c before o × AreSeated (o ∷ before) os

  wider : (before more outs : List (Out Msg)) → ((q : Out Msg) → In q before → In q more) → AreSeated before outs
      → AreSeated more outs
  wider before more [] wide s = tt
  wider before more (o ∷ os) wide s =
      (one o s.0, wider (o ∷ before) (o ∷ more) os (λ q i. ⊎_elim (λ e. inl e) (λ k. inr (wide q k)) i) s.1)
    where
      one : (o : Out Msg) → IsSeated p c before o → IsSeated p c more o
      one (out.Act (what.Took r)) k = (wide (out.Act (what.Put r.tenancy)) k.0, k.1, k.2)
      one (out.Act other) k = tt
      one (out.Send link m) k = tt

  seated_append : (before xs ys : List (Out Msg)) → AreSeated before xs → AreSeated before ys → AreSeated before (xs ++ ys)
  seated_append before [] ys one two = two
  seated_append before (o ∷ os) ys one two =
      (one.0, seated_append (o ∷ before) os ys one.1 (wider before (o ∷ before) ys (λ q i. inr i) two))

  untaken_seated : (before outs : List (Out Msg)) → AllByRecursion (OfTook (λ r. ⊥)) outs → AreSeated before outs
  untaken_seated before [] none = tt
  untaken_seated before (out.Act (what.Took r) ∷ os) none = absurd none.0
  untaken_seated before (out.Act other ∷ os) none = (tt, untaken_seated (out.Act other ∷ before) os none.1)
  untaken_seated before (out.Send link m ∷ os) none = (tt, untaken_seated (out.Send link m ∷ before) os none.1)

  -- what stands before a record that is taken, and that it is for the cub
  pub seated_at : (before xs ys : List (Out Msg)) (r : Rec) → AreSeated before (xs ++ out.Act (what.Took r) ∷ ys)
      → (In (out.Act (what.Put r.tenancy)) before ⊎ In (out.Act (what.Put r.tenancy)) xs) × IsAtOrBefore r.tenancy.first r.visit
  seated_at before [] ys r s = (inl s.0.0, s.0.1)
  seated_at before (o ∷ os) ys r s =
      let rest = seated_at (o ∷ before) os ys r s.1 in
      (⊎_elim (λ i. ⊎_elim (λ e. inr (inl e)) (λ k. inl k) i) (λ k. inr (inr k)) rest.0, rest.1)

  pub seated_for : (before outs : List (Out Msg)) (r : Rec) → AreSeated before outs → In (out.Act (what.Took r)) outs
      → IsForCub p c r.kind r.visit
  seated_for before [] r s i = absurd i
  seated_for before (o ∷ os) r s i =
      ⊎_elim
      (λ e. let one : IsSeated p c before (out.Act (what.Took r)) = subst (IsSeated p c before) (sym e) s.0 in one.2)
      (λ k. seated_for (o ∷ before) os r s.1 k)
      i

  -- ---- deeds

  pub record Seats (h : Store) (d : Deed Msg Store) : Type 0 where
    pub tells : Tells h d
    pub seated : AreSeated [] d.outs

  seats_closed : IsClosed Seats
  seats_closed = record {
    none = λ h. record { tells = tells_closed.none h; seated = tt };
    both = λ h d e one two. record {
      tells = tells_closed.both h d e one.tells two.tells;
      seated = seated_append [] d.outs e.outs one.seated two.seated;
    };
  }

  module _ (stamp : Stamp) where
    -- a stage in which none is taken and none is put
    of_stage : (g : Stage) (from : Store) → ((r : Rec) → MayTake p c stamp g from r → ⊥) → (IsInsertion g → ⊥)
        → OfEach Seats p c stamp g from
    of_stage g from none late x h cause = record {
      tells = each p c stamp x h (λ r e. (subst (λ y. Cause p c stamp g from y h) e cause).1)
          (λ t e. late (subst (λ y. Cause p c stamp g from y h) e cause).0);
      seated = untaken_seated [] (did p c stamp x h).outs (each_took p c stamp (λ r. ⊥) g from none x h cause);
    }

    -- ---- Puts

    -- a record is taken
    taking : (r : Rec) (h : Store) → Tells h (took r h)
    taking r h = took_of (Tells h) r h (λ _. tells_closed.none h) (λ e. takes p c stamp r h e)

    took_seated : (r : Rec) (h : Store) (before : List (Out Msg)) → In (out.Act (what.Put r.tenancy)) before
        → IsAtOrBefore r.tenancy.first r.visit → IsForCub p c r.kind r.visit → AreSeated before (took r h).outs
    took_seated r h before put at mine =
        took_of (λ (d : Deed Msg Store). AreSeated before d.outs) r h (λ _. tt) (λ _. ((put, at, mine), tt))

    took_there : (r : Rec) (h : Store) → is_some (line_at (visit_of r) h.view.lines) ≡ false
        → In (unmarked r) (took r h).state.view.lines
    took_there r h e =
        subst (λ (ls : List Line). In (unmarked r) ls) (sym (took_new r h e).1) (in_with_line h.view.params (unmarked r) h.view.lines)

    put_tells : (t : Tenancy) (h : Store) → Tells h (putting t h)
    put_tells t h = each p c stamp (PutStart t) h (λ r e. absurd (cc)) (λ u e. absurd (cc))

    -- on a disk of the cub's own the first state follows from the record that was just taken
    own_tells : (t : Tenancy) (h : Store) → is_some (line_at (visit_of (own_of t t.first)) h.view.lines) ≡ false
        → Tells h (putting_own p c t h)
    own_tells t h free =
        let r : Rec = own_of t t.first in
        let last : Store → Deed Msg Store = did p c stamp (SendFirst t) in
        let g : Store = (putting t h).state in
        let q : Store = (took r g).state in
        subst (Tells h) (sym (own_is p c stamp t h))
        (then_by Tells tells_closed (putting t) (then_do (took r) last) h (put_tells t h)
        (then_by Tells tells_closed (took r) last g (taking r g)
        (tells_quiet q (last q)
        (λ rs a. (
          a,
          (
            any_in (IsOwnRecordFor (record { tenancy = t; visit = t.first })) r rs (a.told (unmarked r) (took_there r g free))
                (refl, refl, inl refl),
            (tt, tt),
          ),
        )))))

    own_seats : IsPlan p → c < p.cubs → (from : Store) (t : Tenancy) (h : Store) (o : Fills p c stamp from t h)
        → In o.disk (disks_at p c) → Seats h (putting_own p c t h)
    own_seats plan here from t h o on =
        let found = opening p stamp.reading o.disk h o.key plan o.free in
        let mine : cub_of p o.key.1 ≡ c =
        visit_own p c o.disk o.key.1 found.on_disk (all_in (λ d. d % p.cubs ≡ c) o.disk (disks_at p c) (disks_own p c here) on) in
        let mine_t : cub_of p t.first ≡ c = ap (λ (z : Tenancy). cub_of p z.first) o.is ∙ mine in
        let free : is_some (line_at (visit_of (own_of t t.first)) h.view.lines) ≡ false =
        ap (λ (z : Tenancy). is_some (line_at (visit_of (own_of z z.first)) h.view.lines)) o.is ∙ found.free in
        let put : List (Out Msg) = out.Act (what.Put t) ∷ [] in
        let last : List (Out Msg) = (did p c stamp (SendFirst t) h).outs in
        let g : Store = (putting t h).state in
        record {
          tells = own_tells t h free;
          seated = subst (AreSeated []) (own_puts p c t h) (
            tt,
            seated_append put (took (own_of t t.first) g).outs last
                (took_seated (own_of t t.first) g put (inl refl) (inl refl) mine_t) (tt, (tt, tt)),
          );
        }

    -- for the predecessor both records are those of the cub
    dead_seats : IsPlan p → c < p.cubs → (from : Store) (t : Tenancy) (h : Store) (o : Fills p c stamp from t h)
        → In o.disk (disks_at p (predecessor p c)) → Seats h (putting_for_dead p c t h)
    dead_seats plan here from t h o on =
        let before : ℕ = predecessor p c in
        let theirs = visit_own p before o.disk o.key.1 (opening p stamp.reading o.disk h o.key plan o.free).on_disk
        (all_in (λ d. d % p.cubs ≡ before) o.disk (disks_at p before) (disks_own p before (predecessor_below p c plan)) on) in
        let next : cub_of p (t.first + 1) ≡ c =
        ap (λ (z : Tenancy). cub_of p (z.first + 1)) o.is ∙ next_own p c o.key.1 plan here theirs in
        let put : List (Out Msg) = out.Act (what.Put t) ∷ [] in
        let second : Store → Deed Msg Store = cond (nat_lt t.first t.last) (took (own_of t (t.first + 1))) nothing in
        let g : Store = (putting t h).state in
        let q : Store = (took (backup_of t t.first) g).state in
        record {
          tells =
              dead_from Tells tells_closed p c stamp t h (put_tells t h) (taking (backup_of t t.first))
              (λ k _. taking (own_of t (t.first + 1)) k)
              (λ k. each p c stamp (SendPlaced t) k (λ r e. absurd (cc)) (λ u e. absurd (cc)));
          seated = subst (AreSeated []) (dead_puts p c t h) (
            tt,
            seated_append put (took (backup_of t t.first) g).outs _
                (took_seated (backup_of t t.first) g put (inl refl) (inl refl) next)
                (seated_append put (second q).outs (told_placed p c t ∷ [])
                (cond_both (nat_lt t.first t.last) (took (own_of t (t.first + 1))) nothing
                (λ (f : Store → Deed Msg Store). AreSeated put (f q).outs)
                (λ _. took_seated (own_of t (t.first + 1)) q put (inl refl) (inr refl) next) (λ _. tt))
                (tt, tt)),
          );
        }

    -- ---- the tick

    pub ticking_seats : IsPlan p → c < p.cubs → (h : Store) → Seats h (ticking p c stamp h)
    ticking_seats plan here h =
        let h2 : Store = before_inserting p c stamp h in
        tick_chain Seats seats_closed p c stamp h
        (releasing_by Seats seats_closed p c stamp h (of_stage OnRelease h (λ r may. may) (λ i. i)))
        (believing_by Seats seats_closed p c stamp (releasing p stamp h).state
        (of_stage OnDeadman (releasing p stamp h).state (λ r may. may) (λ i. i)))
        (puts_by Seats seats_closed p c stamp h2 (own_seats plan here h2) (λ t q o b on. dead_seats plan here h2 t q o on))
        (service_by Seats seats_closed p c stamp (before_splitting p c stamp h)
        (λ from. of_stage OnService from (λ r may. may) (λ i. i)))
