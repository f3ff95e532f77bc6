-- The starts along insertion: a start leaves where it is put, each is put once, and one that is left found no free visit.
use Rattle.std.proofs.Common.{◌≡◌, ℕ, ◌+◌, ◌<◌, ◌≤◌, List, [], ◌∷◌, ◌++◌, true, false, not, is_some, None, IsTrue, refl, sym, ap, subst, ◌∙◌, ⊎_elim, inl, inr}
use Rattle.std.specs.Prelude.{◌⊎◌}
use Rattle.std.proofs.lemmas.Bool.{cases_Bool, eqb-true, eq-eqb, and_from, le-leb, lt-ltb}
use Rattle.tiger_base.specs.declared.number.Instance.{Instance}
use Rattle.tiger_base.specs.declared.number.Stamp.{Stamp}
use Rattle.tiger_base.specs.declared.tenancy.Ask.{Ask}
use Rattle.tiger_base.specs.declared.tenancy.Rec.{Rec}
use Rattle.tiger_base.specs.declared.tenancy.Tenancy.{Tenancy}
use Rattle.tiger_base.specs.declared.message.Msg.{Msg}
use Rattle.slot_plan.specs.declared.params.Params.{Params}
use Rattle.slot_plan.specs.Conditions.{IsPlan}
use Rattle.slot_plan.specs.Times.{due, disk_of, in_window}
use Rattle.slot_plan.proofs.Windows.{least_visit_none}
use Rattle.node_kit.specs.declared.outbox.Out.{Out}
use Rattle.node_kit.specs.Steps.{Deed}
use Rattle.partial_view.specs.declared.line.Line.{Line}
use Rattle.partial_view.specs.Views.{line_at}
use Rattle.partial_view.specs.Free.{is_free}
use Rattle.insert_queue.specs.Queues.{Queues, is_of, without}
use Rattle.node_kit.specs.Deeds.{nothing}
use Rattle.cub_rules.specs.declared.store.Store.{Store}
use Rattle.cub_rules.specs.Ticks.{free_on, inserting}
use Rattle.cub_changes.specs.Changes.{Change, did}
use Rattle.cub_changes.specs.Changes.Change.{DropStart, Queue, QueueApart, Believe, PutStart}
use Rattle.cub_changes.specs.Causes.Stage.{OnInsertion}
use Rattle.cub_changes.proofs.Closed.{IsClosed, OfEach}
use Rattle.cub_changes.proofs.Outputs.{tells_of}
use Rattle.cub_changes.proofs.Puts.{AreOnce, inserting_by}
use Rattle.lists.specs.Elements.{In}
use Rattle.lists.proofs.Elements.{in_left, in_right, in_cases, in_filter, from_filter}
use Rattle.proof_lives.proofs.Moves.{Moves}
use Rattle.proof_lives.proofs.Inserting.{Never, put_out, IsAt}
use Rattle.proof_lives.proofs.Telling.{found_in}

-- a start is put
abbrev pub PutOf : Ask → List (Out Msg) → Type 0
PutOf a outs = (t : Tenancy) × In (put_out t) outs × (t.instance.0 ≡ a.instance.0)

-- a start stands in one of the lists
abbrev Listed : Ask → Store → Type 0
Listed a h = In a h.starts.waiting ⊎ In a h.starts.redundant

-- what insertion makes of the starts
pub record Seats (h : Store) (d : Deed Msg Store) : Type 0 where
  pub from : (t : Tenancy) → In (put_out t) d.outs → (a : Ask) × In a h.starts.waiting × (a.instance.0 ≡ t.instance.0)
  pub forth : (a : Ask) → In a h.starts.waiting → In a d.state.starts.waiting ⊎ PutOf a d.outs
  pub back : (a : Ask) → In a d.state.starts.waiting → In a h.starts.waiting
  pub listed : (a : Ask) → Listed a d.state → Listed a h
  pub gone : (t : Tenancy) (a : Ask) → In (put_out t) d.outs → Listed a d.state → a.instance.0 ≡ t.instance.0 → ⊥
  pub single : (t u : Tenancy) → In (put_out t) d.outs → In (put_out u) d.outs → t.instance.0 ≡ u.instance.0 → t ≡ u

-- a deed that leaves the starts as they are, and puts none
seats_same : (h : Store) (d : Deed Msg Store) → d.state.starts ≡ h.starts → ((t : Tenancy) → In (put_out t) d.outs → ⊥) → Seats h d
seats_same h d same none = record {
  from = λ t k. absurd (none t k);
  forth = λ a k. inl (subst (λ (q : Queues). In a q.waiting) (sym same) k);
  back = λ a k. subst (λ (q : Queues). In a q.waiting) same k;
  listed = λ a k. subst (λ (q : Queues). In a q.waiting ⊎ In a q.redundant) same k;
  gone = λ t a k. absurd (none t k);
  single = λ t u k. absurd (none t k);
}

seats_then : (h : Store) (d e : Deed Msg Store) → Seats h d → Seats d.state e → Seats h (record { outs = d.outs ++ e.outs; state = e.state })
seats_then h d e one two =
    let apart : (t u : Tenancy) → In (put_out t) d.outs → In (put_out u) e.outs → t.instance.0 ≡ u.instance.0 → ⊥ =
    λ t u k i s. let w = two.from u i in one.gone t w.0 k (inl w.1) (w.2 ∙ sym s) in
    record {
      from = λ t k. ⊎_elim (λ q. one.from t q) (λ q. let w = two.from t q in (w.0, one.back w.0 w.1, w.2)) (in_cases (put_out t) d.outs e.outs k);
      forth = λ a k. ⊎_elim
          (λ q. ⊎_elim (λ w. inl w) (λ w. inr (w.0, in_right (put_out w.0) d.outs e.outs w.1, w.2)) (two.forth a q))
          (λ q. inr (q.0, in_left (put_out q.0) d.outs e.outs q.1, q.2))
          (one.forth a k);
      back = λ a k. one.back a (two.back a k);
      listed = λ a k. one.listed a (two.listed a k);
      gone = λ t a k i s. ⊎_elim (λ q. one.gone t a q (two.listed a i) s) (λ q. two.gone t a q i s) (in_cases (put_out t) d.outs e.outs k);
      single = λ t u k i s. ⊎_elim
          (λ kq. ⊎_elim (λ iq. one.single t u kq iq s) (λ iq. absurd (apart t u kq iq s)) (in_cases (put_out u) d.outs e.outs i))
          (λ kq. ⊎_elim (λ iq. absurd (apart u t iq kq (sym s))) (λ iq. two.single t u kq iq s) (in_cases (put_out u) d.outs e.outs i))
          (in_cases (put_out t) d.outs e.outs k);
    }

pub seats_closed : IsClosed Seats
seats_closed = record { none = λ h. seats_same h (nothing h) refl (λ t k. k); both = seats_then }

dropped_none : (v : Instance) (asks : List Ask) (a : Ask) → In a (without asks v) → a.instance.0 ≡ v.0 → ⊥
dropped_none v asks a k e =
    let kept : not (is_of v a) ≡ true = (from_filter (λ b. not (is_of v b)) a asks k).1 in
    let is : is_of v a ≡ true = eq-eqb _ _ e in
    let z : false ≡ true = sym (ap not is) ∙ kept in absurd (cc)

-- the starts of a tenancy's instance are dropped where it is put
seat_put : (p : Params) (c : ℕ) (stamp : Stamp) (t : Tenancy) (h : Store) (a : Ask) → In a h.starts.waiting → a.instance.0 ≡ t.instance.0 → Seats h (did p c stamp (PutStart t) h)
seat_put p c stamp t h a there same =
    let v : Instance = t.instance in
    let w : List Ask = h.starts.waiting in
    let r : List Ask = h.starts.redundant in
    let only : (u : Tenancy) → In (put_out u) (put_out t ∷ []) → u ≡ t = λ u k. ⊎_elim (λ (q : put_out u ≡ put_out t). let z : u ≡ t = cc in z) (λ q. absurd q) k in
    record {
      from = λ u k. (a, there, same ∙ ap (λ (z : Tenancy). z.instance.0) (sym (only u k)));
      forth = λ b k. ⊎_elim
          (λ (e : is_of v b ≡ true). inr (t, inl refl, sym (eqb-true _ _ e)))
          (λ (e : is_of v b ≡ false). inl (in_filter (λ x. not (is_of v x)) b w k (ap not e)))
          (cases_Bool (is_of v b));
      back = λ b k. (from_filter (λ x. not (is_of v x)) b w k).0;
      listed = λ b k. ⊎_elim (λ q. inl (from_filter (λ x. not (is_of v x)) b w q).0) (λ q. inr (from_filter (λ x. not (is_of v x)) b r q).0) k;
      gone = λ u b k i s.
          let e : b.instance.0 ≡ v.0 = s ∙ ap (λ (z : Tenancy). z.instance.0) (only u k) in
          ⊎_elim (λ q. dropped_none v w b q e) (λ q. dropped_none v r b q e) i;
      single = λ u x k i s. only u k ∙ sym (only x i);
    }

module _ (p : Params) (c : ℕ) (stamp : Stamp) where
  -- a change that puts nothing
  puts_none : (x : Change) (h : Store) → ((t : Tenancy) → x ≡ PutStart t → ⊥) → (t : Tenancy) → In (put_out t) (did p c stamp x h).outs → ⊥
  puts_none x h other t i = other t (tells_of p c stamp x h (put_out t) i)

  pub seats_each : (from : Store) → AreOnce from → OfEach Seats p c stamp OnInsertion from
  seats_each from once (PutStart t) h cause =
      let o = cause.1 in seat_put p c stamp t h o.ask (o.still once) (ap (λ (u : Tenancy). u.instance.0) (sym o.is))
  seats_each from once (DropStart v) h cause = absurd cause
  seats_each from once (Queue a) h cause = absurd cause.0
  seats_each from once (QueueApart a) h cause = absurd cause.0
  seats_each from once Believe h cause = absurd cause.0
  seats_each from once other h cause = seats_same h _ refl (puts_none other h (λ t (e : other ≡ PutStart t). absurd (cc)))

  pub inserting_seats : (h : Store) → AreOnce h → Seats h (inserting p c stamp h)
  inserting_seats h once = inserting_by Seats seats_closed p c stamp h (seats_each h once)

-- ---- all visits of a disk in the window have a line
abbrev pub IsFull : Params → ℕ → ℕ → List Line → Type 0
IsFull p now disk lines = (s n : ℕ) → s < p.slots → disk_of p n ≡ disk → due p s n ≤ now + p.window_a → now + p.window_b < due p s n → (x : Line) × In x lines × IsAt s n x

window_from : (p : Params) (now s n : ℕ) → due p s n ≤ now + p.window_a → now + p.window_b < due p s n → IsTrue (in_window p now s n)
unfolding in_window
window_from p now s n below above = and_from _ _ (le-leb _ _ below) (lt-ltb _ _ above)

pub full_where : (p : Params) (now disk : ℕ) (h : Store) → IsPlan p → free_on p now disk h ≡ None → IsFull p now disk h.view.lines
unfolding free_on is_free
full_where p now disk h plan none s n slot on below above = ⊎_elim
    (λ (e : is_some (line_at (record { 0 = s }, n) h.view.lines) ≡ true). found_in (record { 0 = s }, n) h.view.lines e)
    (λ (e : is_some (line_at (record { 0 = s }, n) h.view.lines) ≡ false).
    absurd (least_visit_none p now disk (is_free h.view.lines) (record { 0 = s }, n) plan none
    (record { in_plan = slot; on_disk = on; window = window_from p now s n below above; passes = ap not e })))
    (cases_Bool (is_some (line_at (record { 0 = s }, n) h.view.lines)))

pub full_on : (p : Params) (now disk : ℕ) (c : ℕ) (lines : List Line) (d : Deed Msg Store) → Moves p c Never lines d → IsFull p now disk lines → IsFull p now disk d.state.view.lines
full_on p now disk c lines d m full s n slot on below above =
    let f = full s n slot on below above in
    ⊎_elim
    (λ w. (w.line, w.there, (ap (λ (r : Rec). r.tenancy.slot.0) w.same ∙ f.2.0, ap (λ (r : Rec). r.visit) w.same ∙ f.2.1)))
    (λ w. absurd w)
    (m.forth f.0 f.1)
