-- The lines of a cub along its life: each was taken, and what was taken stays until it may leave.
use Rattle.std.proofs.Common.{◌≡◌, ℕ, zero, suc, ◌<◌, ◌≤◌, true, false, refl, sym, subst, ◌∙◌, arith, ⊎_elim, inl, inr}
use Rattle.std.specs.Prelude.{◌⊎◌}
use Rattle.tiger_base.specs.declared.number.Stamp.{Stamp}
use Rattle.tiger_base.specs.declared.tenancy.Rec.{Rec}
use Rattle.tiger_base.specs.declared.message.Msg.{Msg}
use Rattle.tiger_base.specs.Limits.{most_reading}
use Rattle.slot_plan.specs.declared.params.Params.{Params}
use Rattle.slot_plan.specs.Conditions.{IsPlan}
use Rattle.node_kit.specs.Steps.{Input, stamp_of}
use Rattle.node_kit.specs.Steps.Input.{Take, Tick}
use Rattle.partial_view.specs.declared.line.Line.{Line}
use Rattle.cub_rules.specs.declared.store.Store.{Store}
use Rattle.cub_rules.specs.State.{IsStoreOf}
use Rattle.cub_changes.proofs.Rules.{taking_right, ticking_right}
use Rattle.proof_lives.specs.Lives.{deed_of, beginning, store_at, outs_at}
use Rattle.lists.specs.Elements.{In}
use Rattle.proof_lives.proofs.Moves.{Moves, Stays, NextSent, taken_out}
use Rattle.proof_lives.proofs.Steps.{IsDueAt, IsSettled}
use Rattle.proof_lives.proofs.Taking.{MayLeave, taking_hears}
use Rattle.proof_lives.proofs.Ticking.{ticking_moves, ticking_settles}
use Rattle.proof_lives.proofs.Trails.{Until, held_until}

-- why a record may leave a view at an input
abbrev pub MayAt : Params → Input Msg → Rec → Type 0
MayAt p (Take stamp link m) r = MayLeave m r
MayAt p (Tick stamp) r = IsDueAt p stamp.reading r

pub deed_moves : (p : Params) (c : ℕ) → IsPlan p → c < p.cubs → (i : Input Msg) (h : Store) → Moves p c (MayAt p i) h.view.lines (deed_of p c i h)
deed_moves p c plan here (Take stamp link m) h = (taking_hears p c stamp link m h).moves
deed_moves p c plan here (Tick stamp) h = ticking_moves p c stamp h

-- a record was taken at an input before one
pub record TakenBefore (p : Params) (c : ℕ) (inputs : ℕ → Input Msg) (r : Rec) (i : ℕ) : Type 0 where
  pub at : ℕ
  pub before : at < i
  pub taken : In (taken_out r) (outs_at p c inputs at)

-- its next state went out before an input
pub record SentBefore (p : Params) (c : ℕ) (inputs : ℕ → Input Msg) (r : Rec) (i : ℕ) : Type 0 where
  pub at : ℕ
  pub before : at < i
  pub sent : NextSent p c r (outs_at p c inputs at)

-- it might leave at an input from one on and before another
pub record MightLeave (p : Params) (inputs : ℕ → Input Msg) (r : Rec) (j i : ℕ) : Type 0 where
  pub at : ℕ
  pub from : j ≤ at
  pub before : at < i
  pub may : MayAt p (inputs at) r

module _ (p : Params) (c : ℕ) (plan : IsPlan p) (here : c < p.cubs) (inputs : ℕ → Input Msg) where
  pub moves : (i : ℕ) → Moves p c (MayAt p (inputs i)) (store_at p c inputs i).view.lines (deed_of p c (inputs i) (store_at p c inputs i))
  moves i = deed_moves p c plan here (inputs i) (store_at p c inputs i)

  pub line_taken : (i : ℕ) (y : Line) → In y (store_at p c inputs i).view.lines → TakenBefore p c inputs y.rec i
  line_taken zero y h = absurd h
  line_taken (suc i) y h = ⊎_elim
      (λ w.
      let t = line_taken i w.line w.there in
      let b = t.before in
      record { at = t.at; before = omega arith; taken = subst (λ (r : Rec). In (taken_out r) (outs_at p c inputs t.at)) (sym w.same) t.taken })
      (λ w. record { at = i; before = omega arith; taken = w.taken })
      ((moves i).back y h)

  -- what was taken stays until an input at which it may leave, which may be the one at which it was taken
  abbrev pub Stands : Rec → ℕ → Type 0
  Stands r i = Stays r (store_at p c inputs i).view.lines

  abbrev pub Leaves : Rec → ℕ → Type 0
  Leaves r i = MayAt p (inputs i) r

  pub stands : (i j : ℕ) (r : Rec) → j < i → In (taken_out r) (outs_at p c inputs j)
      → Stands r i ⊎ (Leaves r j ⊎ Until (Stands r) (Leaves r) (suc j) i)
  stands i j r low t = ⊎_elim
      (λ s. ⊎_elim (λ k. inl k) (λ u. inr (inr u)) (held_until (Stands r) (Leaves r) i (suc j) low (λ k _ _ h. forth k h) s))
      (λ m. inr (inl m))
      ((moves j).took r t)
    where
      forth : (k : ℕ) → Stands r k → Stands r (suc k) ⊎ Leaves r k
      forth k s = ⊎_elim
          (λ v. inl (record { line = v.line; there = v.there; same = v.same ∙ s.same }))
          (λ m. inr (subst (λ (q : Rec). Leaves q k) s.same m))
          ((moves k).forth s.line s.there)

  pub stays : (i j : ℕ) (r : Rec) → j < i → In (taken_out r) (outs_at p c inputs j) → Stands r i ⊎ MightLeave p inputs r j i
  stays i j r low t = ⊎_elim
      (λ s. inl s)
      (λ w. inr (⊎_elim
      (λ m. record { at = j; from = omega arith; before = low; may = m })
      (λ u. let f = u.from in record { at = u.at; from = omega arith; before = u.before; may = u.may })
      w))
      (stands i j r low t)

  pub marked_sent : (i : ℕ) (y : Line) → In y (store_at p c inputs i).view.lines → y.forwarded ≡ true → SentBefore p c inputs y.rec i
  marked_sent zero y h mark = absurd h
  marked_sent (suc i) y h mark = ⊎_elim
      (λ w. ⊎_elim
      (λ f.
      let s = marked_sent i w.line w.there (sym f ∙ mark) in
      let b = s.before in
      record { at = s.at; before = omega arith; sent = subst (λ (r : Rec). NextSent p c r (outs_at p c inputs s.at)) (sym w.same) s.sent })
      (λ k. record { at = i; before = omega arith; sent = k.1 })
      w.mark)
      (λ w. ⊎_elim
      (λ f. let z : true ≡ false = sym mark ∙ f in absurd (cc))
      (λ k. record { at = i; before = omega arith; sent = k.1 })
      w.mark)
      ((moves i).back y h)

  -- after a tick a line without its mark was not to be forwarded
  pub settled : (i : ℕ) (stamp : Stamp) (y : Line) → inputs i ≡ Tick stamp → In y (store_at p c inputs (suc i)).view.lines → IsSettled p stamp y
  settled i stamp y e h =
      ticking_settles p c stamp (store_at p c inputs i) y (subst (λ (k : Input Msg). In y (deed_of p c k (store_at p c inputs i)).state.view.lines) e h)

  -- what a cub keeps is always what this cub may keep
  pub beginning_kept : (stamp : Stamp) → IsStoreOf p c (beginning p stamp)
  beginning_kept stamp = record {
    view_plan = refl;
    pieces_plan = refl;
    unasked_plan = refl;
    lines = tt;
    waiting = tt;
    redundant = tt;
    pieces = tt;
    unasked = tt;
    splits = tt;
    parts = tt;
  }

  pub deed_kept : (i : Input Msg) (h : Store) → (stamp_of i).reading ≤ most_reading → IsStoreOf p c h → IsStoreOf p c (deed_of p c i h).state
  deed_kept (Take stamp link m) h short kept = (taking_right p c stamp link m plan here short h kept).keeps
  deed_kept (Tick stamp) h short kept = (ticking_right p c stamp plan here short h kept).keeps

  pub kept_at : (i : ℕ) → ((k : ℕ) → k < i → (stamp_of (inputs k)).reading ≤ most_reading) → IsStoreOf p c (store_at p c inputs i)
  kept_at zero short = beginning_kept (stamp_of (inputs 0))
  kept_at (suc i) short = deed_kept (inputs i) (store_at p c inputs i) (short i (omega arith)) (kept_at i (λ k l. short k (omega arith)))
