-- The starts along a cub's life: each came in a message, stands in the lists once, and is gone once it is put.
use Rattle.std.proofs.Common.{◌≡◌, ℕ, zero, suc, ◌<◌, ◌≤◌, List, [], ◌∷◌, ◌++◌, find, Bool, true, is_some, Option, Some, refl, sym, ap, subst, ◌∙◌, arith, ⊎_elim, inl, inr, eq-or-lt_of_le, append-nil}
use Rattle.std.specs.Prelude.{◌⊎◌}
use Rattle.std.proofs.lemmas.Bool.{eqb-true}
use Rattle.tiger_base.specs.declared.number.Instance.{Instance}
use Rattle.tiger_base.specs.declared.number.LinkNo.{LinkNo}
use Rattle.tiger_base.specs.declared.number.Stamp.{Stamp}
use Rattle.tiger_base.specs.declared.tenancy.Ask.{Ask}
use Rattle.tiger_base.specs.declared.tenancy.Tenancy.{Tenancy}
use Rattle.tiger_base.specs.declared.message.Msg.{Msg}
use Rattle.tiger_base.specs.declared.message.Msg.TheVariants as msg
use Rattle.slot_plan.specs.declared.params.Params.{Params}
use Rattle.node_kit.specs.Steps.{Input, Deed}
use Rattle.node_kit.specs.Steps.Input.{Take, Tick}
use Rattle.partial_view.specs.declared.line.Line.{Line}
use Rattle.partial_view.specs.Lines as lines
use Rattle.partial_view.specs.Views.{first_of}
use Rattle.insert_queue.specs.Queues.{Queues, IsOnce}
use Rattle.cub_rules.specs.declared.store.Store.{Store}
use Rattle.cub_rules.specs.Ticks.{inserting, ticking}
use Rattle.proof_lives.specs.Lives.{deed_of, store_at}
use Rattle.lists.specs.Elements.{In}
use Rattle.lists.proofs.Elements.{chosen, in_left, in_cases}
use Rattle.proof_lives.proofs.Inserting.{put_out}
use Rattle.proof_lives.proofs.Ticking.{before_inserting}
use Rattle.cub_changes.specs.Causes.Stage.{OnMessage}
use Rattle.cub_changes.specs.Laws.{IsStartOf}
use Rattle.cub_changes.proofs.Listing.{keep_starts}
use Rattle.cub_changes.proofs.Messages.{taking_by}
use Rattle.cub_changes.proofs.Ticks.{ticking_by}
pub use Rattle.proof_lives.proofs.Queuing.{AreOnce}
use Rattle.proof_lives.proofs.Queuing.{StaysOnce, once_closed, once_each, ticking_starts}
use Rattle.proof_lives.proofs.Seating.{Seats, inserting_seats}
use Rattle.cub_changes.proofs.Chains.{deadman_of}

-- a start stands in one of the lists
abbrev pub IsQueued : Ask → Queues → Type 0
IsQueued a q = In a q.waiting ⊎ In a q.redundant

pub before_once : (p : Params) (c : ℕ) (stamp : Stamp) (h : Store) → AreOnce h.starts → AreOnce (before_inserting p c stamp h).starts
before_once p c stamp h o =
    deadman_of p c stamp (λ (d : Deed Msg Store). AreOnce d.state.starts) h
    (λ _. subst IsOnce (sym (append-nil (h.starts.waiting ++ h.starts.redundant))) o) (λ _. o)

pub before_back : (p : Params) (c : ℕ) (stamp : Stamp) (h : Store) (a : Ask) → IsQueued a (before_inserting p c stamp h).starts → IsQueued a h.starts
before_back p c stamp h a =
    deadman_of p c stamp (λ (d : Deed Msg Store). IsQueued a d.state.starts → IsQueued a h.starts) h
    (λ _ k. ⊎_elim (λ w. in_cases a h.starts.waiting h.starts.redundant w) (λ w. absurd w) k) (λ _ k. k)

pub before_forth : (p : Params) (c : ℕ) (stamp : Stamp) (h : Store) (a : Ask) → In a h.starts.waiting → In a (before_inserting p c stamp h).starts.waiting
before_forth p c stamp h a k =
    deadman_of p c stamp (λ (d : Deed Msg Store). In a d.state.starts.waiting) h
    (λ _. in_left a h.starts.waiting h.starts.redundant k) (λ _. k)

pub tick_seats : (p : Params) (c : ℕ) (stamp : Stamp) (h : Store) → AreOnce h.starts
    → Seats (before_inserting p c stamp h) (inserting p c stamp (before_inserting p c stamp h))
tick_seats p c stamp h o = inserting_seats p c stamp (before_inserting p c stamp h) (before_once p c stamp h o)

pub tick_gone : (p : Params) (c : ℕ) (stamp : Stamp) (h : Store) (t : Tenancy) (a : Ask) → AreOnce h.starts → In (put_out t) (inserting p c stamp (before_inserting p c stamp h)).outs
    → IsQueued a (ticking p c stamp h).state.starts → a.instance.0 ≡ t.instance.0 → ⊥
tick_gone p c stamp h t a o k q same =
    (tick_seats p c stamp h o).gone t a k (subst (λ (q : Queues). IsQueued a q) (ticking_starts p c stamp h) q) same

-- a start of an ask came from one input on and before another
pub record Started (inputs : ℕ → Input Msg) (a : Ask) (j i : ℕ) : Type 0 where
  pub at : ℕ
  pub from : j ≤ at
  pub before : at < i
  pub stamp : Stamp
  pub link : LinkNo
  pub redundant : Bool
  pub is : inputs at ≡ Take stamp link (msg.Start redundant a)

pub deed_once : (p : Params) (c : ℕ) (i : Input Msg) (h : Store) → AreOnce h.starts → AreOnce (deed_of p c i h).state.starts
deed_once p c (Take stamp link m) h = taking_by StaysOnce once_closed p c stamp link m h (once_each p c stamp (OnMessage link m) h)
deed_once p c (Tick stamp) h = ticking_by StaysOnce once_closed p c stamp h (λ g from t. once_each p c stamp g from)

-- each instance stands in the lists once
pub once_at : (p : Params) (c : ℕ) (inputs : ℕ → Input Msg) (i : ℕ) → AreOnce (store_at p c inputs i).starts
once_at p c inputs zero = tt
once_at p c inputs (suc i) = deed_once p c (inputs i) (store_at p c inputs i) (once_at p c inputs i)

started : (inputs : ℕ → Input Msg) (i : ℕ) (a : Ask) (k : Input Msg) → inputs i ≡ k → IsStartOf k a → Started inputs a i (suc i)
started inputs i a (Take stamp link (msg.Start redundant b)) e s = record {
  at = i;
  from = omega arith;
  before = omega arith;
  stamp = stamp;
  link = link;
  redundant = redundant;
  is = e ∙ ap (λ (x : Ask). Take stamp link (msg.Start redundant x)) (sym s);
}
started inputs i a other e s = absurd s

pub queue_step : (p : Params) (c : ℕ) (inputs : ℕ → Input Msg) (i : ℕ) (a : Ask) (k : Input Msg) → inputs i ≡ k → IsQueued a (deed_of p c k (store_at p c inputs i)).state.starts
    → IsQueued a (store_at p c inputs i).starts ⊎ Started inputs a i (suc i)
queue_step p c inputs i a (Take stamp link m) e q = ⊎_elim
    (λ w. inl w)
    (λ w. inr (started inputs i a (Take stamp link m) e w))
    ((keep_starts p c (Take stamp link m) a (store_at p c inputs i)).came q)
queue_step p c inputs i a (Tick stamp) e q = ⊎_elim (λ w. inl w) (λ w. absurd w) ((keep_starts p c (Tick stamp) a (store_at p c inputs i)).came q)

-- what stands in the lists stood there at an earlier input, or came since
pub queued_since : (p : Params) (c : ℕ) (inputs : ℕ → Input Msg) (i j : ℕ) (a : Ask) → j ≤ i → IsQueued a (store_at p c inputs i).starts → IsQueued a (store_at p c inputs j).starts ⊎ Started inputs a j i
queued_since p c inputs zero j a h q = let e : j ≡ 0 = omega arith in inl (subst (λ n. IsQueued a (store_at p c inputs n).starts) (sym e) q)
queued_since p c inputs (suc i) j a h q = ⊎_elim
    (λ (e : j ≡ suc i). inl (subst (λ n. IsQueued a (store_at p c inputs n).starts) (sym e) q))
    (λ (l : j < suc i).
    let le : j ≤ i = omega arith in
    ⊎_elim
    (λ w. ⊎_elim
    (λ v. inl v)
    (λ v. let b = v.before in inr (record { at = v.at; from = v.from; before = omega arith; stamp = v.stamp; link = v.link; redundant = v.redundant; is = v.is }))
    (queued_since p c inputs i j a le w))
    (λ w. let f = w.from in inr (record { at = w.at; from = omega arith; before = w.before; stamp = w.stamp; link = w.link; redundant = w.redundant; is = w.is }))
    (queue_step p c inputs i a (inputs i) refl q))
    (eq-or-lt_of_le h)

-- whatever stands in the lists came in a message
pub queued_came : (p : Params) (c : ℕ) (inputs : ℕ → Input Msg) (i : ℕ) (a : Ask) → IsQueued a (store_at p c inputs i).starts → Started inputs a 0 i
queued_came p c inputs i a q = ⊎_elim (λ w. ⊎_elim (λ v. absurd v) (λ v. absurd v) w) (λ w. w) (queued_since p c inputs i 0 a (omega arith) q)

-- an instance that the view shows has a line
pub shown_line : (v : Instance) (ls : List Line) → is_some (first_of v ls) ≡ true → (x : Line) × In x ls × (x.rec.tenancy.instance.0 ≡ v.0)
unfolding first_of
shown_line v [] e = absurd (cc)
shown_line v (z ∷ zs) e =
    chosen (λ (o : Option Line). is_some o ≡ true → (x : Line) × In x (z ∷ zs) × (x.rec.tenancy.instance.0 ≡ v.0)) (lines.is_of v z) (Some z) (find (lines.is_of v) zs)
    (λ t _. (z, inl refl, eqb-true _ _ t)) (λ t f. let r = shown_line v zs f in (r.0, inr r.1, r.2)) e
