-- What putting a start leaves: which starts wait, and of which plan the view is; and how the next ones follow.
use Rattle.std.proofs.Common.{◌≡◌, ℕ, ◌+◌, List, [], ◌∷◌, Bool, true, false, cond, nat_lt, Option, Some, None, refl, sym, ap, subst, ◌∙◌}
use Rattle.std.specs.List.{AllByRecursion, filter}
use Rattle.std.specs.Option.{is_some}
use Rattle.tiger_base.specs.declared.message.Msg.{Msg}
use Rattle.tiger_base.specs.declared.number.DiskNo.{DiskNo}
use Rattle.tiger_base.specs.declared.tenancy.Ask.{Ask}
use Rattle.tiger_base.specs.declared.tenancy.Kind.{Kind}
use Rattle.tiger_base.specs.declared.tenancy.Kind.TheVariants.{Own, Backup}
use Rattle.tiger_base.specs.declared.tenancy.Rec.{Rec}
use Rattle.tiger_base.specs.declared.tenancy.Tenancy.{Tenancy}
use Rattle.tiger_base.specs.Records.{own_of, backup_of}
use Rattle.slot_plan.specs.declared.params.Params.{Params}
use Rattle.slot_plan.specs.Keys.{Key}
use Rattle.node_kit.specs.Steps.{Deed}
use Rattle.partial_view.specs.declared.line.Line.{Line}
use Rattle.partial_view.specs.declared.view.Added.{Added}
use Rattle.partial_view.specs.declared.view.Added.TheVariants.{New}
use Rattle.partial_view.specs.Lines.{visit_of}
use Rattle.partial_view.specs.Views.{Seen, line_at, with_record}
use Rattle.partial_view.specs.Adding.{answer_to, answer_at}
use Rattle.partial_view.proofs.Order.{all_filter}
use Rattle.partial_view.proofs.Pending.{known}
use Rattle.insert_queue.specs.Queues.{Queues, without, without_start, oldest_for, IsOnce}
use Rattle.node_kit.specs.Deeds.{nothing, then_do}
use Rattle.cub_rules.specs.declared.store.Store.{Store}
use Rattle.cub_rules.specs.Records.{took}
use Rattle.cub_rules.specs.State.{IsAsk}
use Rattle.cub_rules.specs.Ticks.{is_for, free_on, put_or_wait, putting_each, putting_on, putting, putting_own, putting_for_dead, tenancy_from}
use Rattle.cub_tick.specs.Placing.{putting_by}
use Rattle.cub_tick.proofs.Waiting.{oldest_first, none_left}

-- a record whose slot and visit the view has is not taken
pub took_known : (r : Rec) (h : Store) (added : Added) → added ≡ answer_to r h.view.lines → (added ≡ New → ⊥) → took r h ≡ nothing h
unfolding took
took_known r h added e old = cases (line_at (visit_of r) h.view.lines) refl
  where
    cases : (o : Option Line) → line_at (visit_of r) h.view.lines ≡ o → took r h ≡ nothing h
    cases None is = absurd (old (e ∙ ap (λ (q : Option Line). answer_at r.tenancy.instance q) is))
    cases (Some x) is = rw is refl

pub view_known : (r : Rec) (view now : Seen) (added : Added) → added ≡ answer_to r view.lines → (added ≡ New → ⊥) → now ≡ record view { lines = with_record view.params r view.lines } → now ≡ view
view_known r view now added e old is = is ∙ ap (λ (xs : List Line). record view { lines = xs }) (known view.params r view.lines added e old)

-- a deed after which these starts wait, and the view is of this plan
pub record IsPlaced (left : Queues) (p : Params) (d : Deed Msg Store) : Type 0 where
  pub starts : d.state.starts ≡ left
  pub plan : d.state.view.params ≡ p

either : {A : Type 0} (P : A → Type 0) (b : Bool) (x y : A) → P x → P y → P (cond b x y)
either P true x y first second = first
either P false x y first second = second

nothing_placed : (starts : Queues) (p : Params) (h : Store) → h.starts ≡ starts → h.view.params ≡ p → IsPlaced starts p (nothing h)
nothing_placed starts p h e same = record { starts = e; plan = same }

took_placed : (r : Rec) (starts : Queues) (p : Params) (h : Store) → h.starts ≡ starts → h.view.params ≡ p → IsPlaced starts p (took r h)
unfolding took
took_placed r starts p h e same =
    either (IsPlaced starts p) (is_some (line_at (visit_of r) h.view.lines)) (nothing h) _ (nothing_placed starts p h e same) (record { starts = e; plan = same })

own_placed : (q : Params) (cub : ℕ) (t : Tenancy) (p : Params) (h : Store) → h.view.params ≡ p → IsPlaced (without_start h.starts t.instance) p (putting_own q cub t h)
unfolding putting_own
own_placed q cub t p h same =
    let first = took_placed (own_of t t.first) (without_start h.starts t.instance) p (putting t h).state refl same in
    record { starts = first.starts; plan = first.plan }

dead_placed : (q : Params) (cub : ℕ) (t : Tenancy) (p : Params) (h : Store) → h.view.params ≡ p → IsPlaced (without_start h.starts t.instance) p (putting_for_dead q cub t h)
unfolding putting_for_dead
dead_placed q cub t p h same =
    let starts = without_start h.starts t.instance in
    let backup = took (backup_of t t.first) (putting t h).state in
    let first = took_placed (backup_of t t.first) starts p (putting t h).state refl same in
    let second = either (λ (f : Store → Deed Msg Store). IsPlaced starts p (f backup.state)) (nat_lt t.first t.last) (took (own_of t (t.first + 1))) nothing (took_placed (own_of t (t.first + 1)) starts p backup.state first.starts first.plan) (nothing_placed starts p backup.state first.starts first.plan) in
    record { starts = second.starts; plan = second.plan }

pub put_placed : (kind : Kind) (q : Params) (cub : ℕ) (t : Tenancy) (p : Params) (h : Store) → h.view.params ≡ p
    → IsPlaced (without_start h.starts t.instance) p (putting_by kind q cub t h)
put_placed Own q cub t p h same = own_placed q cub t p h same
put_placed Backup q cub t p h same = dead_placed q cub t p h same

-- the asks that are left are asks
pub asks_left : (a : Ask) (p : Params) (h : Store) (d : Deed Msg Store) → AllByRecursion IsAsk h.starts.waiting → IsPlaced (without_start h.starts a.instance) p d → AllByRecursion IsAsk d.state.starts.waiting
asks_left a p h d all placed =
    subst (λ (q : Queues). AllByRecursion IsAsk q.waiting) (sym placed.starts) (all_filter IsAsk _ h.starts.waiting all)

module _ (put : Tenancy → Store → Deed Msg Store) (p : Params) (reading : ℕ) (disk : DiskNo) where
  -- the oldest start is put into a visit that is free, and the others follow
  pub put_follows : (h : Store) (a : Ask) (k : Key) (q : Params) → IsOnce h.starts.waiting → oldest_for h.starts.waiting disk ≡ Some a → free_on p reading disk.0 h ≡ Some k
      → IsPlaced (without_start h.starts a.instance) q (put (tenancy_from a k) h)
      → putting_on put p reading disk.0 h ≡ then_do (put (tenancy_from a k)) (putting_on put p reading disk.0) h
  unfolding putting_on putting_each
  put_follows h a k q once oldest free placed =
      let rest = filter (is_for disk.0) (without h.starts.waiting a.instance) in
      let d = put (tenancy_from a k) h in
      let left : rest ≡ filter (is_for disk.0) d.state.starts.waiting = ap (λ (q : Queues). filter (is_for disk.0) q.waiting) (sym placed.starts) in
      ap (λ (xs : List Ask). putting_each put p reading disk.0 xs h) (oldest_first h.starts.waiting disk a once oldest)
      ∙ (ap (λ (o : Option Key). put_or_wait put (putting_each put p reading disk.0 rest) a o h) free
      ∙ ap (λ (xs : List Ask). then_do (put (tenancy_from a k)) (putting_each put p reading disk.0 xs) h) left)

  -- nothing is done where no start waits, or no visit is free
  pub none_waits : (h : Store) → oldest_for h.starts.waiting disk ≡ None → putting_on put p reading disk.0 h ≡ nothing h
  unfolding putting_on putting_each
  none_waits h e = ap (λ (xs : List Ask). putting_each put p reading disk.0 xs h) (none_left h.starts.waiting disk e)

  pub none_free : (h : Store) → free_on p reading disk.0 h ≡ None → putting_on put p reading disk.0 h ≡ nothing h
  unfolding putting_on putting_each
  none_free h e = cases (filter (is_for disk.0) h.starts.waiting)
    where
      cases : (xs : List Ask) → putting_each put p reading disk.0 xs h ≡ nothing h
      cases [] = refl
      cases (a ∷ rest) = ap (λ (o : Option Key). put_or_wait put (putting_each put p reading disk.0 rest) a o h) e
