-- What insertion puts, takes and sends, and that each Put is at a place that was free.
use Rattle.std.proofs.Common.{◌≡◌, ℕ, ◌+◌, ◌-◌, ◌<◌, ◌≤◌, List, [], ◌∷◌, ◌++◌, find, Bool, true, false, is_some, Option, Some, sym, ap, subst, ◌∙◌, ⊎_elim, inl, inr}
use Rattle.std.specs.Prelude.{◌⊎◌}
use Rattle.std.proofs.lemmas.Bool.{eq-eqb, and_from, not-true}
use Rattle.tiger_base.specs.declared.number.Instance.{Instance}
use Rattle.tiger_base.specs.declared.number.LinkNo.{LinkNo}
use Rattle.tiger_base.specs.declared.tenancy.Ask.{Ask}
use Rattle.tiger_base.specs.declared.tenancy.Kind.{Kind}
use Rattle.tiger_base.specs.declared.tenancy.Rec.{Rec}
use Rattle.tiger_base.specs.declared.tenancy.State.{State}
use Rattle.tiger_base.specs.declared.tenancy.Tenancy.{Tenancy}
use Rattle.tiger_base.specs.declared.message.Msg.{Msg}
use Rattle.tiger_base.specs.declared.message.Msg.TheVariants as msg
use Rattle.slot_plan.specs.declared.params.Params.{Params}
use Rattle.slot_plan.specs.Conditions.{IsPlan}
use Rattle.slot_plan.specs.Times.{due, cub_of, disk_of}
use Rattle.slot_plan.specs.Keys.{Key}
use Rattle.slot_plan.proofs.Times.{window_parts}
use Rattle.slot_plan.proofs.Windows.{least_visit_found}
use Rattle.node_kit.specs.declared.journal.What.TheVariants as what
use Rattle.node_kit.specs.declared.outbox.Out.{Out}
use Rattle.node_kit.specs.declared.outbox.Out.TheVariants as out
use Rattle.node_kit.specs.Steps.{Deed}
use Rattle.partial_view.specs.declared.line.Line.{Line}
use Rattle.partial_view.specs.Lines.{is_at}
use Rattle.partial_view.specs.Views.{line_at}
use Rattle.partial_view.specs.Free.{is_free}
use Rattle.node_kit.specs.Ways.{way_ahead}
use Rattle.node_kit.specs.Deeds.{nothing}
use Rattle.cub_rules.specs.declared.store.Store.{Store}
use Rattle.cub_rules.specs.Ticks.{told_placed, free_on}
use Rattle.proof_schedule.specs.Facts.{IsGiven}
use Rattle.lists.specs.Elements.{In}
use Rattle.cub_changes.proofs.Closed.{IsClosed}
use Rattle.lists.proofs.Each.{all_append}
use Rattle.lists.proofs.Elements.{chosen, in_left, in_right, in_cases}
use Rattle.proof_lives.proofs.Moves.{Moves, IsMeek, AreMeek, taken_out, moves_closed}
pub use Rattle.proof_lives.proofs.Moves.{Never, IsAt}

-- nobody is held
abbrev pub Nobody : Instance → Type 0
Nobody v = ⊥

abbrev pub put_out : Tenancy → Out Msg
put_out t = out.Act (what.Put t)

-- the state of a Put's first visit goes to the successor
abbrev pub state_out : Params → ℕ → Tenancy → Out Msg
state_out p c t = out.Send (way_ahead p c 1) (msg.ViewerState (record { tenancy = t; visit = t.first }))

-- where no line is found there is none
pub none_at : (k : Key) (x : Line) (lines : List Line) → is_some (line_at k lines) ≡ false → In x lines → IsAt k.0.0 k.1 x → ⊥
unfolding line_at
none_at k x [] e h at = h
none_at k x (z ∷ zs) e h at =
    let here : is_at k x ≡ true = and_from _ _ (eq-eqb _ _ (sym at.0)) (eq-eqb _ _ (sym at.1)) in
    chosen (λ (o : Option Line). is_some o ≡ false → ⊥) (is_at k z) (Some z) (find (is_at k) zs)
    (λ t f. let q : true ≡ false = f in absurd (cc))
    (λ t f. ⊎_elim (λ q. let w : true ≡ false = sym here ∙ (ap (is_at k) q ∙ t) in absurd (cc)) (λ q. none_at k x zs f q at) h)
    e

-- a tenancy is put as it may be: at a first visit in the window, for a start that waited, by the cub of the visit or the next one
pub record PutWell (p : Params) (c reading : ℕ) (waiting : List Ask) (believes : Bool) (t : Tenancy) (outs : List (Out Msg)) : Type 0 where
  pub slot : t.slot.0 < p.slots
  pub above : reading + p.window_b < due p t.slot.0 t.first
  pub below : due p t.slot.0 t.first ≤ reading + p.window_a
  pub within : t.first ≤ t.last
  pub kind : Kind
  pub taken : In (taken_out (record { tenancy = t; visit = t.first; kind = kind })) outs
  pub who : ((c ≡ cub_of p t.first) × In (state_out p c t) outs) ⊎ ((c ≡ cub_of p (t.first + 1)) × (believes ≡ true))
  pub ask : Ask
  pub waits : In ask waiting
  pub instance : ask.instance ≡ t.instance
  pub file : ask.file ≡ t.file
  pub last : t.last ≡ t.first + (ask.count - 1)
  pub disk : ask.disk.0 ≡ disk_of p t.first

-- what is taken finds no line at its place, and no line leaves
pub record Fresh (p : Params) (c : ℕ) (h : Store) (d : Deed Msg Store) : Type 0 where
  pub moves : Moves p c Never h.view.lines d
  pub fresh : (r : Rec) (x : Line) → In (taken_out r) d.outs → In x h.view.lines → IsAt r.tenancy.slot.0 r.visit x → ⊥

-- what insertion does, which began with from
pub record Puts (p : Params) (c reading : ℕ) (from h : Store) (d : Deed Msg Store) : Type 0 where
  pub moves : Moves p c Never h.view.lines d
  pub fresh : (r : Rec) (x : Line) → In (taken_out r) d.outs → In x h.view.lines → IsAt r.tenancy.slot.0 r.visit x → ⊥
  -- what is put finds no line there
  pub free : (t : Tenancy) (x : Line) → In (put_out t) d.outs → In x h.view.lines → IsAt t.slot.0 t.first x → ⊥
  pub put : (t : Tenancy) → In (put_out t) d.outs → PutWell p c reading from.starts.waiting from.believes t d.outs
  -- what is taken is of a Put, and so is each state that goes out
  pub told : (r : Rec) → In (taken_out r) d.outs → In (put_out r.tenancy) d.outs × IsGiven p c r.tenancy r.tenancy.first r.visit
  pub sent : (link : LinkNo) (s : State) → In (out.Send link (msg.ViewerState s)) d.outs
      → In (put_out s.tenancy) d.outs × (s.visit ≡ s.tenancy.first) × (link ≡ way_ahead p c 1)
  -- at a Put's place its own tenancy is taken, and no other
  pub one : (t : Tenancy) (r : Rec) → In (put_out t) d.outs → In (taken_out r) d.outs → r.tenancy.slot.0 ≡ t.slot.0 → r.visit ≡ t.first → r.tenancy ≡ t
  -- no start and no deschedule goes out
  pub plain : AreMeek Nobody d.outs
  -- the controller is told of each Put, and of nothing else
  pub tells : (t : Tenancy) → In (put_out t) d.outs → In (told_placed p c t) d.outs
  pub placed : (link : LinkNo) (t : Tenancy) → In (out.Send link (msg.Placed t)) d.outs → In (put_out t) d.outs

well_wider : (p : Params) (c reading : ℕ) (waiting : List Ask) (b : Bool) (t : Tenancy) (outs more : List (Out Msg)) → ((o : Out Msg) → In o outs → In o more)
    → PutWell p c reading waiting b t outs → PutWell p c reading waiting b t more
well_wider p c reading waiting b t outs more wide w = record {
  slot = w.slot;
  above = w.above;
  below = w.below;
  within = w.within;
  kind = w.kind;
  taken = wide (taken_out (record { tenancy = t; visit = t.first; kind = w.kind })) w.taken;
  who = ⊎_elim (λ q. inl (q.0, wide (state_out p c t) q.1)) (λ q. inr q) w.who;
  ask = w.ask;
  waits = w.waits;
  instance = w.instance;
  file = w.file;
  last = w.last;
  disk = w.disk;
}

-- ---- nothing, and one deed after another
module _ (p : Params) (c : ℕ) (h : Store) (d : Deed Msg Store) (first : Moves p c Never h.view.lines d) where
  -- who stood there before a deed, or was taken by it, stands there after it
  stood : (P : Rec → Type 0) (x : Line) → In x h.view.lines → P x.rec → ((y : Line) → In y d.state.view.lines → P y.rec → ⊥) → ⊥
  stood P x k at none = ⊎_elim (λ s. none s.line s.there (subst P (sym s.same) at)) (λ m. m) (first.forth x k)

  taken_first : (P : Rec → Type 0) (r : Rec) → In (taken_out r) d.outs → P r → ((y : Line) → In y d.state.view.lines → P y.rec → ⊥) → ⊥
  taken_first P r k at none = ⊎_elim (λ s. none s.line s.there (subst P (sym s.same) at)) (λ m. m) (first.took r k)

  fresh_then : (e : Deed Msg Store)
      → ((r : Rec) (x : Line) → In (taken_out r) d.outs → In x h.view.lines → IsAt r.tenancy.slot.0 r.visit x → ⊥)
      → ((r : Rec) (x : Line) → In (taken_out r) e.outs → In x d.state.view.lines → IsAt r.tenancy.slot.0 r.visit x → ⊥)
      → (r : Rec) (x : Line) → In (taken_out r) (d.outs ++ e.outs) → In x h.view.lines → IsAt r.tenancy.slot.0 r.visit x → ⊥
  fresh_then e one two r x k i at = ⊎_elim
      (λ q. one r x q i at)
      (λ q. stood (λ (s : Rec). (s.tenancy.slot.0 ≡ r.tenancy.slot.0) × (s.visit ≡ r.visit)) x i at (λ y j w. two r y q j w))
      (in_cases (taken_out r) d.outs e.outs k)

pub fresh_closed : (p : Params) (c : ℕ) → IsClosed (Fresh p c)
fresh_closed p c = record {
  none = λ h. record { moves = (moves_closed p c Never).none h; fresh = λ r x i. absurd i };
  both = λ h d e one two. record { moves = (moves_closed p c Never).both h d e one.moves two.moves; fresh = fresh_then p c h d one.moves e one.fresh two.fresh };
}

puts_nothing : (p : Params) (c reading : ℕ) (from h : Store) → Puts p c reading from h (nothing h)
puts_nothing p c reading from h = record {
  moves = (moves_closed p c Never).none h;
  fresh = λ r x k. absurd k;
  free = λ t x k. absurd k;
  put = λ t k. absurd k;
  told = λ r k. absurd k;
  sent = λ link s k. absurd k;
  one = λ t r k. absurd k;
  plain = tt;
  tells = λ t k. absurd k;
  placed = λ link t k. absurd k;
}

module _ (p : Params) (c reading : ℕ) (from h : Store) (d e : Deed Msg Store) (first : Puts p c reading from h d) (second : Puts p c reading from d.state e) where
  one_of_both : (t : Tenancy) (r : Rec) → In (put_out t) (d.outs ++ e.outs) → In (taken_out r) (d.outs ++ e.outs) → r.tenancy.slot.0 ≡ t.slot.0 → r.visit ≡ t.first → r.tenancy ≡ t
  one_of_both t r k i s n = ⊎_elim
      (λ kq. ⊎_elim
      (λ iq. first.one t r kq iq s n)
      (λ iq.
      let w = first.put t kq in
      let z : Rec = record { tenancy = t; visit = t.first; kind = w.kind } in
      absurd (taken_first p c h d first.moves (λ (q : Rec). (q.tenancy.slot.0 ≡ r.tenancy.slot.0) × (q.visit ≡ r.visit)) z w.taken (sym s, sym n) (λ y j at. second.fresh r y iq j at)))
      (in_cases (taken_out r) d.outs e.outs i))
      (λ kq. ⊎_elim
      (λ iq. absurd (taken_first p c h d first.moves (λ (q : Rec). (q.tenancy.slot.0 ≡ t.slot.0) × (q.visit ≡ t.first)) r iq (s, n) (λ y j at. second.free t y kq j at)))
      (λ iq. second.one t r kq iq s n)
      (in_cases (taken_out r) d.outs e.outs i))
      (in_cases (put_out t) d.outs e.outs k)

  -- what is put out by either is put out by both
  left : (o : Out Msg) → In o d.outs → In o (d.outs ++ e.outs)
  left o i = in_left o d.outs e.outs i

  right : (o : Out Msg) → In o e.outs → In o (d.outs ++ e.outs)
  right o i = in_right o d.outs e.outs i

  puts_then : Puts p c reading from h (record { outs = d.outs ++ e.outs; state = e.state })
  puts_then = record {
    moves = (moves_closed p c Never).both h d e first.moves second.moves;
    fresh = fresh_then p c h d first.moves e first.fresh second.fresh;
    free = λ t x k i at. ⊎_elim
        (λ q. first.free t x q i at)
        (λ q. stood p c h d first.moves (λ (s : Rec). (s.tenancy.slot.0 ≡ t.slot.0) × (s.visit ≡ t.first)) x i at (λ y j w. second.free t y q j w))
        (in_cases (put_out t) d.outs e.outs k);
    put = λ t k. ⊎_elim
        (λ q. well_wider p c reading from.starts.waiting from.believes t d.outs (d.outs ++ e.outs) left (first.put t q))
        (λ q. well_wider p c reading from.starts.waiting from.believes t e.outs (d.outs ++ e.outs) right (second.put t q))
        (in_cases (put_out t) d.outs e.outs k);
    told = λ r k. ⊎_elim
        (λ q. let w = first.told r q in (left (put_out r.tenancy) w.0, w.1))
        (λ q. let w = second.told r q in (right (put_out r.tenancy) w.0, w.1))
        (in_cases (taken_out r) d.outs e.outs k);
    sent = λ link s k. ⊎_elim
        (λ q. let w = first.sent link s q in (left (put_out s.tenancy) w.0, w.1, w.2))
        (λ q. let w = second.sent link s q in (right (put_out s.tenancy) w.0, w.1, w.2))
        (in_cases (out.Send link (msg.ViewerState s)) d.outs e.outs k);
    one = one_of_both;
    plain = all_append (IsMeek Nobody) d.outs e.outs first.plain second.plain;
    tells = λ t k. ⊎_elim
        (λ q. left (told_placed p c t) (first.tells t q))
        (λ q. right (told_placed p c t) (second.tells t q))
        (in_cases (put_out t) d.outs e.outs k);
    placed = λ link t k. ⊎_elim
        (λ q. left (put_out t) (first.placed link t q))
        (λ q. right (put_out t) (second.placed link t q))
        (in_cases (out.Send link (msg.Placed t)) d.outs e.outs k);
  }

pub puts_closed : (p : Params) (c reading : ℕ) (from : Store) → IsClosed (Puts p c reading from)
puts_closed p c reading from = record { none = puts_nothing p c reading from; both = puts_then p c reading from }

-- the visit that was free on a disk
pub record IsOpening (p : Params) (reading disk : ℕ) (h : Store) (k : Key) : Type 0 where
  pub slot : k.0.0 < p.slots
  pub on_disk : disk_of p k.1 ≡ disk
  pub above : reading + p.window_b < due p k.0.0 k.1
  pub below : due p k.0.0 k.1 ≤ reading + p.window_a
  pub free : is_some (line_at k h.view.lines) ≡ false

pub opening : (p : Params) (reading disk : ℕ) (h : Store) (k : Key) → IsPlan p → free_on p reading disk h ≡ Some k → IsOpening p reading disk h k
unfolding free_on is_free
opening p reading disk h k plan e =
    let free = (least_visit_found p reading disk (is_free h.view.lines) k plan e).here in
    let window = window_parts p reading k.0.0 k.1 free.window in
    record { slot = free.in_plan; on_disk = free.on_disk; above = window.1; below = window.0; free = not-true _ free.passes }
