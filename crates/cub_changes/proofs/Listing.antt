-- A start stands in a cub's lists until it is put or told of, and came there as a start.
use Rattle.std.proofs.Common.{◌≡◌, ℕ, List, [], ◌∷◌, ◌++◌, Bool, true, false, not, refl, ap, ◌∙◌, ⊎_elim, inl, inr}
use Rattle.std.specs.Prelude.{◌⊎◌}
use Rattle.std.proofs.lemmas.Bool.{cases_Bool, eqb-true}
use Rattle.tiger_base.specs.declared.number.Instance.{Instance}
use Rattle.tiger_base.specs.declared.number.LinkNo.{LinkNo}
use Rattle.tiger_base.specs.declared.number.Stamp.{Stamp}
use Rattle.tiger_base.specs.declared.tenancy.Ask.{Ask}
use Rattle.tiger_base.specs.declared.message.Msg.{Msg}
use Rattle.tiger_base.specs.declared.message.Msg.TheVariants as msg
use Rattle.slot_plan.specs.declared.params.Params.{Params}
use Rattle.node_kit.specs.declared.journal.What.TheVariants as what
use Rattle.node_kit.specs.declared.outbox.Out.{Out}
use Rattle.node_kit.specs.declared.outbox.Out.TheVariants as out
use Rattle.node_kit.specs.Steps.{Deed, Input}
use Rattle.node_kit.specs.Steps.Input.{Take, Tick}
use Rattle.insert_queue.specs.Queues.{Queues, is_of, without_start}
use Rattle.cub_rules.specs.declared.store.Store.{Store}
use Rattle.cub_changes.specs.Changes.Change.{DropStart, Queue, QueueApart, Believe, PutStart}
use Rattle.cub_changes.specs.Causes.{Stage, MayDrop, MayQueue}
use Rattle.lists.specs.Elements.{In}
use Rattle.cub_changes.specs.Causes.Stage.{OnMessage}
use Rattle.cub_changes.specs.Laws.{IsStartOf, TellsOf, HasPutOf, KeepsStart, CubsKeepStarts}
use Rattle.cub_changes.proofs.Closed.{IsClosed, OfEach}
use Rattle.lists.proofs.Elements.{in_left, in_right, in_cases, in_filter, from_filter}
use Rattle.cub_changes.proofs.Messages.{taking_by}
use Rattle.cub_changes.proofs.Ticks.{IsOfTick, ticking_by}

-- the starts of one instance are dropped from the lists: those of another stay, and none joins them
others_stay : (a : Ask) (v : Instance) (q : Queues) → is_of v a ≡ false → In a q.waiting ⊎ In a q.redundant
    → In a (without_start q v).waiting ⊎ In a (without_start q v).redundant
others_stay a v q e k = ⊎_elim
    (λ w. inl (in_filter (λ b. not (is_of v b)) a q.waiting w (ap not e)))
    (λ w. inr (in_filter (λ b. not (is_of v b)) a q.redundant w (ap not e)))
    k

none_joins : (a : Ask) (v : Instance) (q : Queues) → In a (without_start q v).waiting ⊎ In a (without_start q v).redundant
    → In a q.waiting ⊎ In a q.redundant
none_joins a v q k = ⊎_elim
    (λ w. inl (from_filter (λ b. not (is_of v b)) a q.waiting w).0)
    (λ w. inr (from_filter (λ b. not (is_of v b)) a q.redundant w).0)
    k

module _ (i : Input Msg) (a : Ask) where
  Keeps : Store → Deed Msg Store → Type 0
  Keeps h d = KeepsStart i a h d

  -- an event of these outputs tells of the instance, or puts it
  IsGone : List (Out Msg) → Type 0
  IsGone outs = TellsOf i a.instance ⊎ HasPutOf a.instance outs

  -- what one deed keeps until that, and then another one, both keep
  stays_both : {X Y : Type 0} (d e : Deed Msg Store) → X ⊎ IsGone d.outs → (X → Y ⊎ IsGone e.outs) → Y ⊎ IsGone (d.outs ++ e.outs)
  unfolding IsGone
  stays_both d e one two = ⊎_elim
      (λ q. ⊎_elim
      (λ w. inl w)
      (λ w. ⊎_elim (λ t. inr (inl t)) (λ t. inr (inr (t.0, in_right (out.Act (what.Put t.0)) d.outs e.outs t.1, t.2))) w)
      (two q))
      (λ q. ⊎_elim (λ t. inr (inl t)) (λ t. inr (inr (t.0, in_left (out.Act (what.Put t.0)) d.outs e.outs t.1, t.2))) q)
      one

  keeps_both : (h : Store) (d e : Deed Msg Store) → Keeps h d → Keeps d.state e → Keeps h (record { outs = d.outs ++ e.outs; state = e.state })
  unfolding Keeps IsGone
  keeps_both h d e one two = record {
    stays = λ k. stays_both d e (one.stays k) (λ q. two.stays q);
    waits = λ k. stays_both d e (one.waits k) (λ q. two.waits q);
    came = λ k. ⊎_elim (λ q. one.came q) (λ q. inr q) (two.came k);
  }

  keeps_closed : IsClosed Keeps
  unfolding Keeps
  keeps_closed = record { none = λ h. record { stays = λ k. inl k; waits = λ k. inl k; came = λ k. inl k }; both = keeps_both }

  module _ (p : Params) (c : ℕ) (stamp : Stamp) where
    each : (g : Stage) (from : Store) → ((v : Instance) (h : Store) → MayDrop p c g v h → a.instance.0 ≡ v.0 → TellsOf i a.instance)
        → ((b : Ask) (apart : Bool) (h : Store) → MayQueue g b apart h → a ≡ b → IsStartOf i a) → OfEach Keeps p c stamp g from
    unfolding Keeps
    each g from told comes Believe h cause = record {
      stays = λ k. inl (inl (⊎_elim
          (λ w. in_left a h.starts.waiting h.starts.redundant w)
          (λ w. in_right a h.starts.waiting h.starts.redundant w)
          k));
      waits = λ k. inl (in_left a h.starts.waiting h.starts.redundant k);
      came = λ k. ⊎_elim (λ w. inl (in_cases a h.starts.waiting h.starts.redundant w)) (λ w. absurd w) k;
    }
    each g from told comes (DropStart v) h cause = record {
      stays = λ k. ⊎_elim
          (λ (e : is_of v a ≡ true). inr (inl (told v h cause (eqb-true _ _ e))))
          (λ (e : is_of v a ≡ false). inl (others_stay a v h.starts e k))
          (cases_Bool (is_of v a));
      waits = λ k. ⊎_elim
          (λ (e : is_of v a ≡ true). inr (inl (told v h cause (eqb-true _ _ e))))
          (λ (e : is_of v a ≡ false). inl (in_filter (λ b. not (is_of v b)) a h.starts.waiting k (ap not e)))
          (cases_Bool (is_of v a));
      came = λ k. inl (none_joins a v h.starts k);
    }
    each g from told comes (PutStart t) h cause = record {
      stays = λ k. ⊎_elim
          (λ (e : is_of t.instance a ≡ true). inr (inr (t, inl refl, eqb-true _ _ e)))
          (λ (e : is_of t.instance a ≡ false). inl (others_stay a t.instance h.starts e k))
          (cases_Bool (is_of t.instance a));
      waits = λ k. ⊎_elim
          (λ (e : is_of t.instance a ≡ true). inr (inr (t, inl refl, eqb-true _ _ e)))
          (λ (e : is_of t.instance a ≡ false). inl (in_filter (λ b. not (is_of t.instance b)) a h.starts.waiting k (ap not e)))
          (cases_Bool (is_of t.instance a));
      came = λ k. inl (none_joins a t.instance h.starts k);
    }
    each g from told comes (Queue b) h cause = record {
      stays = λ k. inl (⊎_elim (λ w. inl (in_left a h.starts.waiting (b ∷ []) w)) (λ w. inr w) k);
      waits = λ k. inl (in_left a h.starts.waiting (b ∷ []) k);
      came = λ k. ⊎_elim
          (λ w. ⊎_elim (λ q. inl (inl q)) (λ q. ⊎_elim (λ e. inr (comes b false h cause.0 e)) (λ e. absurd e) q)
          (in_cases a h.starts.waiting (b ∷ []) w))
          (λ w. inl (inr w))
          k;
    }
    each g from told comes (QueueApart b) h cause = record {
      stays = λ k. inl (⊎_elim (λ w. inl w) (λ w. inr (in_left a h.starts.redundant (b ∷ []) w)) k);
      waits = λ k. inl k;
      came = λ k. ⊎_elim
          (λ w. inl (inl w))
          (λ w. ⊎_elim (λ q. inl (inr q)) (λ q. ⊎_elim (λ e. inr (comes b true h cause.0 e)) (λ e. absurd e) q)
          (in_cases a h.starts.redundant (b ∷ []) w))
          k;
    }
    each g from told comes other h cause = record { stays = λ k. inl k; waits = λ k. inl k; came = λ k. inl k }

tells : (p : Params) (c : ℕ) (stamp : Stamp) (link : LinkNo) (m : Msg) (a : Ask) (v : Instance) (h : Store) → MayDrop p c (OnMessage link m) v h
    → a.instance.0 ≡ v.0 → TellsOf (Take stamp link m) a.instance
tells p c stamp link (msg.Deschedule w tag) a v h may e = e ∙ ap (λ (x : Instance). x.0) may
tells p c stamp link (msg.ViewerState s) a v h may e = e ∙ ap (λ (x : Instance). x.0) may.0
tells p c stamp link other a v h may e = absurd may

starts : (stamp : Stamp) (link : LinkNo) (m : Msg) (a b : Ask) (apart : Bool) (h : Store) → MayQueue (OnMessage link m) b apart h → a ≡ b
    → IsStartOf (Take stamp link m) a
starts stamp link (msg.Start redundant w) a b apart h may e = e ∙ may.0
starts stamp link other a b apart h may e = absurd may

none_told : (p : Params) (c : ℕ) (g : Stage) (v : Instance) (h : Store) → IsOfTick g → MayDrop p c g v h → ⊥
none_told p c (OnMessage link m) v h t may = t
none_told p c other v h t may = may

none_comes : (g : Stage) (b : Ask) (apart : Bool) (h : Store) → IsOfTick g → MayQueue g b apart h → ⊥
none_comes (OnMessage link m) b apart h t may = t
none_comes other b apart h t may = may

pub keep_starts : CubsKeepStarts
unfolding Keeps
keep_starts p c (Take stamp link m) a h =
    taking_by (Keeps (Take stamp link m) a) (keeps_closed (Take stamp link m) a) p c stamp link m h
    (each (Take stamp link m) a p c stamp (OnMessage link m) h
    (λ v h may e. tells p c stamp link m a v h may e)
    (λ b apart h may e. starts stamp link m a b apart h may e))
keep_starts p c (Tick stamp) a h =
    ticking_by (Keeps (Tick stamp) a) (keeps_closed (Tick stamp) a) p c stamp h
    (λ g from t. each (Tick stamp) a p c stamp g from
    (λ v h may e. none_told p c g v h t may)
    (λ b apart h may e. none_comes g b apart h t may))
