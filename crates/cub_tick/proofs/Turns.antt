-- One turn of putting the starts that wait for a disk, and the turn of one disk.
use Rattle.std.proofs.Common.{◌≡◌, ℕ, ◌+◌, ◌*◌, ◌<◌, ◌==◌, List, [], ◌∷◌, ◌++◌, length, Bool, true, false, not, cond, Option, Some, None, refl, sym, ap, subst, ◌∙◌, append-nil, arith}
use Rattle.std.specs.List.{AllByRecursion, filter}
use Rattle.std.proofs.lemmas.Bool.{eqb-true}
use Rattle.tiger_base.specs.declared.message.Msg.{Msg}
use Rattle.tiger_base.specs.declared.number.DiskNo.{DiskNo}
use Rattle.tiger_base.specs.declared.number.Stamp.{Stamp}
use Rattle.tiger_base.specs.declared.tenancy.Ask.{Ask}
use Rattle.tiger_base.specs.declared.tenancy.Kind.{Kind}
use Rattle.tiger_base.specs.declared.tenancy.Kind.TheVariants.{Own, Backup}
use Rattle.slot_plan.specs.declared.params.Params.{Params}
use Rattle.slot_plan.specs.Conditions.{IsPlan}
use Rattle.slot_plan.specs.Keys.{Key}
use Rattle.partial_view.specs.Free.{IsFullAt}
use Rattle.partial_view.proofs.Order.{all_implies}
use Rattle.node_kit.specs.declared.outbox.Out.{Out}
use Rattle.node_kit.specs.Steps.{Deed}
use Rattle.node_kit.specs.Ways.{predecessor}
use Rattle.insert_queue.specs.Queues.{Queues, without_start, oldest_for, IsOnce}
use Rattle.node_kit.specs.Deeds.{Did, nothing, each_in_turn}
use Rattle.cub_rules.specs.declared.store.Store.{Store}
use Rattle.cub_rules.specs.State.{IsAsk}
use Rattle.cub_rules.specs.Ticks.{is_for, free_on, put_or_wait, putting_each, putting_on, putting_for_dead, tenancy_from, disks_at, inserting_all, inserting_own, inserting_for_dead}
use Rattle.cub_tick.specs.Placing.{putting_by, WaitForFull}
use Rattle.cub_tick.proofs.FullDisks.{none_where_full}
use Rattle.cub_tick.proofs.Waiting.{oldest_first, once_front}
use Rattle.cub_tick.proofs.Going.{ComesTo, comes_on, comes_done, disks_from, disks_next}
use Rattle.cub_tick.proofs.Putting.{IsPlaced, put_placed, asks_left, put_follows, none_waits, none_free}

module _ (kind : Kind) (p : Params) (cub reading : ℕ) (disk : DiskNo) where
  -- the starts that wait for the disk are put
  abbrev rule : Store → Deed Msg Store
  rule = putting_on (putting_by kind p cub) p reading disk.0

  -- what holds after one of them is put
  pub record IsTurned (first : Store) (before : List (Out Msg)) (h now : Store) (after : List (Out Msg)) : Type 0 where
    pub comes : ComesTo (rule first) before (rule now) after
    pub plan : now.view.params ≡ p
    pub asks : AllByRecursion IsAsk now.starts.waiting
    pub fewer : length (filter (is_for disk.0) now.starts.waiting) < length (filter (is_for disk.0) h.starts.waiting)

  fewer_wait : (h : Store) (a : Ask) (d : Deed Msg Store) → IsOnce h.starts.waiting → oldest_for h.starts.waiting disk ≡ Some a → IsPlaced (without_start h.starts a.instance) p d
      → length (filter (is_for disk.0) d.state.starts.waiting) < length (filter (is_for disk.0) h.starts.waiting)
  fewer_wait h a d once oldest placed =
      let now : length (filter (is_for disk.0) d.state.starts.waiting) ≡ length (filter (is_for disk.0) (without_start h.starts a.instance).waiting) = ap (λ (q : Queues). length (filter (is_for disk.0) q.waiting)) placed.starts in
      let was : length (filter (is_for disk.0) h.starts.waiting) ≡ length (a ∷ filter (is_for disk.0) (without_start h.starts a.instance).waiting) = ap (λ (xs : List Ask). length xs) (oldest_first h.starts.waiting disk a once oldest) in
      omega (arith, now, was)

  pub turned : (first : Store) (before : List (Out Msg)) (h : Store) (out : List (Out Msg)) (a : Ask) (k : Key) (now : Store) (after : List (Out Msg))
      → h.view.params ≡ p → AllByRecursion IsAsk h.starts.waiting → ComesTo (rule first) before (rule h) out
      → IsOnce (h.starts.waiting ++ h.starts.redundant) → oldest_for h.starts.waiting disk ≡ Some a → Some k ≡ free_on p reading disk.0 h
      → Did (putting_by kind p cub (tenancy_from a k) h) out after now → IsTurned first before h now after
  turned first before h out a k now after plan asks comes once oldest free did =
      let d = putting_by kind p cub (tenancy_from a k) h in
      let once_waiting = once_front h.starts.waiting h.starts.redundant once in
      let placed : IsPlaced (without_start h.starts a.instance) p d = put_placed kind p cub (tenancy_from a k) p h plan in
      let follows = put_follows (putting_by kind p cub) p reading disk h a k p once_waiting oldest (sym free) placed in
      record {
        comes = comes_on (rule first) before (rule h) out (putting_by kind p cub (tenancy_from a k)) rule h now after comes follows did;
        plan = ap (λ (s : Store). s.view.params) did.1 ∙ placed.plan;
        asks = subst (λ (s : Store). AllByRecursion IsAsk s.starts.waiting) (sym did.1) (asks_left a p h d asks placed);
        fewer = subst (λ (s : Store). length (filter (is_for disk.0) s.starts.waiting) < length (filter (is_for disk.0) h.starts.waiting)) (sym did.1) (fewer_wait h a d once_waiting oldest placed);
      }

  -- no start waits any more, or no visit is free
  pub all_put : (first : Store) (before : List (Out Msg)) (h : Store) (out : List (Out Msg)) → ComesTo (rule first) before (rule h) out
      → oldest_for h.starts.waiting disk ≡ None → Did (rule first) before out h
  all_put first before h out comes e = comes_done (rule first) before (rule h) out h comes (none_waits (putting_by kind p cub) p reading disk h e)

  pub all_taken : (first : Store) (before : List (Out Msg)) (h : Store) (out : List (Out Msg)) → ComesTo (rule first) before (rule h) out
      → None ≡ free_on p reading disk.0 h → Did (rule first) before out h
  all_taken first before h out comes e = comes_done (rule first) before (rule h) out h comes (none_free (putting_by kind p cub) p reading disk h (sym e))

not_so : (b : Bool) → not b ≡ false → b ≡ true
not_so true e = refl
not_so false e = sym e

-- no start waits at all
none_in : (asks : List Ask) → not (length asks == 0) ≡ false → asks ≡ []
none_in [] e = refl
none_in (a ∷ rest) e =
    let none : length (a ∷ rest) ≡ 0 = eqb-true _ _ (not_so (length (a ∷ rest) == 0) e) in
    absurd (omega (arith, none))

module _ (kind : Kind) (p : Params) (cub reading at : ℕ) where
  -- the starts that wait for the disks of a cub are put
  abbrev disk_rule : List ℕ → Store → Deed Msg Store
  disk_rule = each_in_turn (putting_on (putting_by kind p cub) p reading)

  none_on : (disks : List ℕ) (h : Store) → h.starts.waiting ≡ [] → disk_rule disks h ≡ nothing h
  unfolding putting_on putting_each
  none_on [] h e = refl
  none_on (d ∷ disks) h e =
      let here : putting_on (putting_by kind p cub) p reading d h ≡ nothing h = ap (λ (asks : List Ask). putting_each (putting_by kind p cub) p reading d (filter (is_for d) asks) h) e in
      ap (λ (x : Deed Msg Store). record { outs = x.outs ++ (disk_rule disks x.state).outs; state = (disk_rule disks x.state).state }) here ∙ none_on disks h e

  -- if none waits, nothing is done
  none_waits_at : (h : Store) → h.starts.waiting ≡ [] → disk_rule (disks_at p at) h ≡ nothing h
  none_waits_at h none = none_on (disks_at p at) h none

  -- a start that waits for a full disk is not put
  none_put_on : (d : ℕ) (h : Store) (asks : List Ask) → AllByRecursion (λ a. None ≡ free_on p reading a.disk.0 h) asks → putting_each (putting_by kind p cub) p reading d (filter (is_for d) asks) h ≡ nothing h
  unfolding putting_each
  none_put_on d h [] full = refl
  none_put_on d h (a ∷ rest) full = cases (is_for d a) refl (none_put_on d h rest full.1)
    where
      wait : List Ask → Option Key → Deed Msg Store
      wait others free = put_or_wait (putting_by kind p cub) (putting_each (putting_by kind p cub) p reading d others) a free h

      cases : (t : Bool) → is_for d a ≡ t → putting_each (putting_by kind p cub) p reading d (filter (is_for d) rest) h ≡ nothing h → putting_each (putting_by kind p cub) p reading d (filter (is_for d) (a ∷ rest)) h ≡ nothing h
      cases true t ih =
          let none : free_on p reading d h ≡ None = sym (subst (λ (n : ℕ). None ≡ free_on p reading n h) (eqb-true _ _ t) full.0) in
          rw t (ap (λ free. wait (filter (is_for d) rest) free) none)
      cases false t ih = rw t ih

  full_on : (disks : List ℕ) (h : Store) → AllByRecursion (λ a. None ≡ free_on p reading a.disk.0 h) h.starts.waiting → disk_rule disks h ≡ nothing h
  unfolding putting_on
  full_on [] h full = refl
  full_on (d ∷ disks) h full =
      ap (λ (x : Deed Msg Store). record { outs = x.outs ++ (disk_rule disks x.state).outs; state = (disk_rule disks x.state).state }) (none_put_on d h h.starts.waiting full) ∙ full_on disks h full

  -- if all that wait do so for full disks, nothing is done
  full_waits_at : (h : Store) → IsPlan p → h.view.params ≡ p → WaitForFull reading h → disk_rule (disks_at p at) h ≡ nothing h
  full_waits_at h ok plan full =
      let none : AllByRecursion (λ a. None ≡ free_on p reading a.disk.0 h) h.starts.waiting =
      all_implies (λ (a : Ask). IsFullAt h.view.params a.disk.0 reading h.view.lines) (λ a. None ≡ free_on p reading a.disk.0 h) (λ a f. none_where_full p reading a.disk.0 h ok plan f) h.starts.waiting full in
      full_on (disks_at p at) h none

  -- one disk more
  pub disk_done : (first : Store) (before : List (Out Msg)) (row : ℕ) (disk : DiskNo) (h : Store) (out : List (Out Msg)) (now : Store) (after : List (Out Msg))
      → ComesTo (disk_rule (disks_at p at) first) before (disk_rule (disks_from p at row) h) out → row < p.disks → disk.0 ≡ at + row * p.cubs
      → Did (putting_on (putting_by kind p cub) p reading disk.0 h) out after now
      → ComesTo (disk_rule (disks_at p at) first) before (disk_rule (disks_from p at (row + 1)) now) after
  disk_done first before row disk h out now after comes more number did =
      let d = at + row * p.cubs in
      comes_on (disk_rule (disks_at p at) first) before (disk_rule (disks_from p at row) h) out (putting_on (putting_by kind p cub) p reading d) (disk_rule (disks_from p at (row + 1))) h now after
      comes (ap (λ (ds : List ℕ). disk_rule ds h) (disks_next p at row more))
      (subst (λ (n : ℕ). Did (putting_on (putting_by kind p cub) p reading n h) out after now) number did)

module _ (p : Params) (cub : ℕ) (stamp : Stamp) where
  nothing_if : (b : Bool) (h : Store) (d : Deed Msg Store) → d ≡ nothing h → cond b d (nothing h) ≡ nothing h
  nothing_if true h d e = e
  nothing_if false h d e = refl

  -- nothing is done on the predecessor's disks if all that wait do so for full disks, or if it is not believed dead
  dead_none : (h : Store) → h.starts.waiting ≡ [] → inserting_for_dead p cub stamp h ≡ nothing h
  dead_none h none = nothing_if h.believes h _ (none_waits_at Backup p cub stamp.reading (predecessor p cub) h none)

  pub dead_full : (h : Store) → IsPlan p → h.view.params ≡ p → WaitForFull stamp.reading h → inserting_for_dead p cub stamp h ≡ nothing h
  dead_full h ok plan full = nothing_if h.believes h _ (full_waits_at Backup p cub stamp.reading (predecessor p cub) h ok plan full)

  pub not_dead : (h : Store) → h.believes ≡ false → inserting_for_dead p cub stamp h ≡ nothing h
  not_dead h e = ap (λ (b : Bool). cond b (each_in_turn (putting_on (putting_for_dead p cub) p stamp.reading) (disks_at p (predecessor p cub)) h) (nothing h)) e

  -- if nothing is done there behind what is done on the cub's own disks, that is all
  pub own_alone : (first : Store) (before out : List (Out Msg)) (h : Store) → Did (inserting_own p cub stamp first) before out h
      → inserting_for_dead p cub stamp h ≡ nothing h → Did (inserting_all p cub stamp first) before out h
  unfolding inserting_all
  own_alone first before out h did dead =
      let own : Deed Msg Store = inserting_own p cub stamp first in
      let none : inserting_for_dead p cub stamp own.state ≡ nothing own.state = subst (λ (s : Store). inserting_for_dead p cub stamp s ≡ nothing s) did.1 dead in (
        did.0 ∙ ap (λ (os : List (Out Msg)). before ++ os) (sym (ap (λ (d : Deed Msg Store). own.outs ++ d.outs) none ∙ append-nil own.outs)),
        did.1 ∙ sym (ap (λ (d : Deed Msg Store). d.state) none),
      )

  did_nothing : (out : List (Out Msg)) (h : Store) (d : Deed Msg Store) → d ≡ nothing h → Did d out out h
  did_nothing out h d all =
      (sym (ap (λ (d : Deed Msg Store). out ++ d.outs) all ∙ append-nil out), sym (ap (λ (d : Deed Msg Store). d.state) all))

  -- if none waits, insertion does nothing
  pub none_inserted : (h : Store) (out : List (Out Msg)) (waits : Bool) → waits ≡ not (length h.starts.waiting == 0) → waits ≡ false → Did (inserting_all p cub stamp h) out out h
  none_inserted h out waits is none =
      let no_start = none_in h.starts.waiting (sym is ∙ none) in
      own_alone h out out h (did_nothing out h _ (none_waits_at Own p cub stamp.reading cub h no_start)) (dead_none h no_start)

  -- if all that wait do so for full disks, neither
  pub full_inserted : (h : Store) (out : List (Out Msg)) → IsPlan p → h.view.params ≡ p → WaitForFull stamp.reading h → Did (inserting_all p cub stamp h) out out h
  full_inserted h out ok plan full = own_alone h out out h (did_nothing out h _ (full_waits_at Own p cub stamp.reading cub h ok plan full)) (dead_full h ok plan full)
