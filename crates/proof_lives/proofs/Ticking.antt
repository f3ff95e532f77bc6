-- What a whole tick makes of a view's lines, and what it puts out of records, Puts and states.
use Rattle.std.proofs.Common.{◌≡◌, ℕ, ◌<◌, ◌≤◌, List, Bool, true, false, not, refl, sym, ap, subst, ◌∙◌, ⊎_elim, inl, inr}
use Rattle.std.specs.Prelude.{◌⊎◌, ◌+◌}
use Rattle.std.proofs.lemmas.Bool.{and_parts, not-true}
use Rattle.tiger_base.specs.declared.number.Instance.{Instance}
use Rattle.tiger_base.specs.declared.number.Stamp.{Stamp}
use Rattle.tiger_base.specs.declared.number.LinkNo.{LinkNo}
use Rattle.tiger_base.specs.declared.tenancy.Rec.{Rec}
use Rattle.tiger_base.specs.declared.tenancy.State.{State}
use Rattle.tiger_base.specs.declared.message.Msg.{Msg}
use Rattle.tiger_base.specs.declared.message.Msg.TheVariants as msg
use Rattle.tiger_base.specs.Limits.{most_reading}
use Rattle.slot_plan.specs.declared.params.Params.{Params}
use Rattle.slot_plan.specs.Conditions.{IsPlan}
use Rattle.node_kit.specs.declared.outbox.Out.{Out}
use Rattle.node_kit.specs.declared.outbox.Out.TheVariants as out
use Rattle.node_kit.specs.Steps.{Deed}
use Rattle.partial_view.specs.declared.line.Line.{Line}
use Rattle.state_forward.specs.Forwards.{must_forward}
use Rattle.node_kit.specs.Deeds.{then_do}
use Rattle.cub_rules.specs.declared.store.Store.{Store}
use Rattle.cub_rules.specs.State.{IsStoreOf, IsLineOf, IsRecordOf}
use Rattle.cub_changes.proofs.Rules.{releasing_right, believing_right, inserting_right, splitting_right}
use Rattle.cub_rules.specs.Ticks.{releasing, believing, inserting, splitting, is_to_forward, forwarding, ticking}
use Rattle.cub_changes.specs.Changes.{Change}
use Rattle.cub_changes.specs.Changes.Change.{DropLines, SendFirst, Forward, ServeBlocks, DropBackups}
use Rattle.cub_changes.specs.Causes.{Stage}
use Rattle.cub_changes.specs.Causes.Stage.{OnMessage, OnInsertion, OnService}
use Rattle.cub_changes.proofs.Closed.{IsClosed, then_by}
use Rattle.cub_changes.proofs.Fits.{Fits, IsOfInsertion}
use Rattle.cub_changes.proofs.Outputs.{IsNextWay}
use Rattle.cub_changes.proofs.Puts.{inserting_by}
use Rattle.cub_changes.proofs.Ticks.{IsOfTick, end_steps, before_splitting, service_by, end_by, ticking_by, tick_chain}
use Rattle.lists.specs.Elements.{In}
use Rattle.lists.proofs.Elements.{in_cases}
use Rattle.lists.proofs.Each.{all_in}
use Rattle.proof_lives.proofs.Moves.{Never, Moves, Stays, taken_out, IsQuiet, AreQuiet, quiet_took, untaken, IsDueAt, MayGo, MovesOn, moves_closed, moves_in}
use Rattle.proof_lives.proofs.Steps.{IsSettled, releasing_quiet, releasing_lines, believing_quiet, splitting_quiet, splitting_moves, forwarding_tells, forwarding_settles, end_quiet}
pub use Rattle.cub_changes.proofs.Ticks.{before_inserting, before_forwarding}
use Rattle.cub_changes.proofs.Chains.{tick_late, deadman_of}
pub use Rattle.cub_changes.proofs.Chains.{inserted_out}

-- the steps before forwarding
abbrev pub early : Params → ℕ → Stamp → Store → Deed Msg Store
early p c stamp = then_do (releasing p stamp) (then_do (believing p c stamp) (then_do (inserting p c stamp) (splitting p c stamp)))

module _ (P : Store → Deed Msg Store → Type 0) (closed : IsClosed P) (p : Params) (c : ℕ) (stamp : Stamp) where
  early_chain : (h : Store) → P h (releasing p stamp h)
      → P (releasing p stamp h).state (believing p c stamp (releasing p stamp h).state)
      → P (before_inserting p c stamp h) (inserting p c stamp (before_inserting p c stamp h))
      → P (before_splitting p c stamp h) (splitting p c stamp (before_splitting p c stamp h)) → P h (early p c stamp h)
  early_chain h one two three four =
      then_by P closed (releasing p stamp) (then_do (believing p c stamp) (then_do (inserting p c stamp) (splitting p c stamp))) h one
      (then_by P closed (believing p c stamp) (then_do (inserting p c stamp) (splitting p c stamp)) (releasing p stamp h).state two
      (then_by P closed (inserting p c stamp) (splitting p c stamp) (before_inserting p c stamp h) three four))

pub same_before : (p : Params) (c : ℕ) (stamp : Stamp) (h : Store) → (before_inserting p c stamp h).view.lines ≡ h.view.lines
same_before p c stamp h = deadman_of p c stamp (λ (d : Deed Msg Store). d.state.view.lines ≡ h.view.lines) h (λ _. refl) (λ _. refl)

-- ---- the lines

-- at insertion no record leaves, and in a tick one that is due
insertion_keeps : (p : Params) (stamp : Stamp) (x : Change) → IsOfInsertion x → (r : Rec) → MayGo p stamp x r → ⊥
insertion_keeps p stamp (DropLines v) f r m = f
insertion_keeps p stamp ServeBlocks f r m = f
insertion_keeps p stamp DropBackups f r m = f
insertion_keeps p stamp other f r m = m

no_drop : (g : Stage) (v : Instance) → IsOfTick g → Fits g (DropLines v) → ⊥
no_drop (OnMessage link m) v t f = t
no_drop other v t f = f

tick_goes : (p : Params) (stamp : Stamp) (g : Stage) → IsOfTick g → (x : Change) → Fits g x → (r : Rec) → MayGo p stamp x r → IsDueAt p stamp.reading r
tick_goes p stamp g t (DropLines v) f r m = absurd (no_drop g v t f)
tick_goes p stamp g t ServeBlocks f r m = m
tick_goes p stamp g t DropBackups f r m = m
tick_goes p stamp g t other f r m = absurd m

pub inserting_moves : (p : Params) (c : ℕ) (May : Rec → Type 0) (stamp : Stamp) (h : Store) → Moves p c May h.view.lines (inserting p c stamp h)
inserting_moves p c May stamp h =
    inserting_by (MovesOn p c May) (moves_closed p c May) p c stamp h
    (moves_in p c stamp May OnInsertion h (λ x f r m. absurd (insertion_keeps p stamp x f r m)))

pub early_moves : (p : Params) (c : ℕ) (stamp : Stamp) (h : Store) → Moves p c Never h.view.lines (early p c stamp h)
early_moves p c stamp h =
    let h1 : Store = (releasing p stamp h).state in
    early_chain (MovesOn p c Never) (moves_closed p c Never) p c stamp h
    (untaken p c Never h.view.lines (releasing p stamp h) (releasing_lines p stamp h) (λ r i. quiet_took r _ (releasing_quiet p stamp h) i))
    (untaken p c Never h1.view.lines (believing p c stamp h1) (same_before p c stamp h ∙ sym (releasing_lines p stamp h)) (λ r i. quiet_took r _ (believing_quiet p c stamp h1) i))
    (inserting_moves p c Never stamp (before_inserting p c stamp h)) (splitting_moves p c Never stamp (before_splitting p c stamp h))

pub ticking_moves : (p : Params) (c : ℕ) (stamp : Stamp) (h : Store) → Moves p c (IsDueAt p stamp.reading) h.view.lines (ticking p c stamp h)
ticking_moves p c stamp h =
    let May : Rec → Type 0 = IsDueAt p stamp.reading in
    ticking_by (MovesOn p c May) (moves_closed p c May) p c stamp h (λ g from t. moves_in p c stamp May g from (tick_goes p stamp g t))

-- what stands after insertion and is not due stands after the tick
pub after_insertion_stays : (p : Params) (c : ℕ) (stamp : Stamp) (h : Store) (x : Line) → In x (before_splitting p c stamp h).view.lines
    → Stays x.rec (ticking p c stamp h).state.view.lines ⊎ IsDueAt p stamp.reading x.rec
after_insertion_stays p c stamp h x i =
    let May : Rec → Type 0 = IsDueAt p stamp.reading in
    subst (λ (s : Store). Stays x.rec s.view.lines ⊎ May x.rec) (sym (tick_late p c stamp h))
    ((service_by (MovesOn p c May) (moves_closed p c May) p c stamp (before_splitting p c stamp h) (λ from. moves_in p c stamp May OnService from (tick_goes p stamp OnService tt))).forth x i)

-- ---- the outputs

-- where an output comes from
abbrev From : Out Msg → Type 0 → Store → Deed Msg Store → Type 0
From o X h d = In o d.outs → X

from_closed : (o : Out Msg) (X : Type 0) → IsClosed (From o X)
from_closed o X = record { none = λ h i. absurd i; both = λ h d e one two i. ⊎_elim one two (in_cases o d.outs e.outs i) }

no_quiet : (o : Out Msg) → (IsQuiet o → ⊥) → {X : Type 0} → (os : List (Out Msg)) → AreQuiet os → In o os → X
no_quiet o loud os q i = absurd (loud (all_in IsQuiet o os q i))

-- what stands in the outputs of a tick that tells of records, Puts or states was put out by insertion or by forwarding
pub loud : (p : Params) (c : ℕ) (stamp : Stamp) (h : Store) (o : Out Msg) → (IsQuiet o → ⊥) → In o (ticking p c stamp h).outs
    → In o (inserting p c stamp (before_inserting p c stamp h)).outs ⊎ In o (forwarding p c stamp (before_forwarding p c stamp h)).outs
loud p c stamp h o not_quiet =
    let X : Type 0 = In o (inserting p c stamp (before_inserting p c stamp h)).outs ⊎ In o (forwarding p c stamp (before_forwarding p c stamp h)).outs in
    let h3 : Store = before_splitting p c stamp h in
    let h4 : Store = before_forwarding p c stamp h in
    let P : Store → Deed Msg Store → Type 0 = From o X in
    let closed = from_closed o X in
    tick_chain P closed p c stamp h (no_quiet o not_quiet _ (releasing_quiet p stamp h)) (no_quiet o not_quiet _ (believing_quiet p c stamp (releasing p stamp h).state)) (λ i. inl i)
    (then_by P closed (splitting p c stamp) (then_do (forwarding p c stamp) (end_steps p c stamp)) h3 (no_quiet o not_quiet _ (splitting_quiet p c stamp h3))
    (then_by P closed (forwarding p c stamp) (end_steps p c stamp) h4 (λ i. inr i) (no_quiet o not_quiet _ (end_quiet p c stamp (forwarding p c stamp h4).state))))

-- after a tick whoever must be forwarded is marked
pub ticking_settles : (p : Params) (c : ℕ) (stamp : Stamp) (h : Store) (y : Line) → In y (ticking p c stamp h).state.view.lines → IsSettled p stamp y
ticking_settles p c stamp h y i =
    let May : Rec → Type 0 = IsDueAt p stamp.reading in
    let h4 : Store = before_forwarding p c stamp h in
    let h5 : Store = (forwarding p c stamp h4).state in
    let m = end_by (MovesOn p c May) (moves_closed p c May) p c stamp h5 (λ from. moves_in p c stamp May OnService from (tick_goes p stamp OnService tt)) in
    ⊎_elim
    (λ w. ⊎_elim
    (λ f. subst (λ (b : Bool). (b ≡ true) ⊎ (must_forward p stamp y.rec ≡ false)) (sym f)
    (subst (λ (r : Rec). (w.line.forwarded ≡ true) ⊎ (must_forward p stamp r ≡ false)) (sym w.same) (forwarding_settles p c stamp h4 w.line w.there)))
    (λ k. inl k.0)
    w.mark)
    (λ w. absurd (quiet_took y.rec _ (end_quiet p c stamp h5) w.taken))
    (m.back y (subst (λ (s : Store). In y s.view.lines) (tick_late p c stamp h) i))

-- what the early steps put out of these the tick puts out
early_out : (p : Params) (c : ℕ) (stamp : Stamp) (h : Store) (o : Out Msg) → (IsQuiet o → ⊥) → In o (early p c stamp h).outs → In o (ticking p c stamp h).outs
early_out p c stamp h o not_quiet =
    let X : Type 0 = In o (ticking p c stamp h).outs in
    early_chain (From o X) (from_closed o X) p c stamp h (no_quiet o not_quiet _ (releasing_quiet p stamp h))
    (no_quiet o not_quiet _ (believing_quiet p c stamp (releasing p stamp h).state)) (inserted_out p c stamp h o)
    (no_quiet o not_quiet _ (splitting_quiet p c stamp (before_splitting p c stamp h)))

ready_unmarked : (p : Params) (stamp : Stamp) (x : Line) → is_to_forward p stamp x ≡ true → (x.forwarded ≡ false) × (must_forward p stamp x.rec ≡ true)
unfolding is_to_forward
ready_unmarked p stamp x e = let both = and_parts (not x.forwarded) (must_forward p stamp x.rec) e in (not-true x.forwarded both.0, both.1)

-- what a tick forwards
pub record Forwarded (p : Params) (c : ℕ) (stamp : Stamp) (h : Store) (s : State) : Type 0 where
  pub rec : Rec
  pub tenancy : rec.tenancy ≡ s.tenancy
  pub next : s.visit ≡ rec.visit + 1
  pub must : must_forward p stamp rec ≡ true
  pub how : ((x : Line) × In x h.view.lines × (x.rec ≡ rec) × (x.forwarded ≡ false)) ⊎ In (taken_out rec) (ticking p c stamp h).outs
  -- it is a record of this cub
  pub own : IsStoreOf p c h → stamp.reading ≤ most_reading → IsRecordOf p c rec

-- what a cub keeps when forwarding begins is what this cub may keep
pub kept_before : (p : Params) (c : ℕ) (stamp : Stamp) → IsPlan p → c < p.cubs → (h : Store) → IsStoreOf p c h → stamp.reading ≤ most_reading → IsStoreOf p c (before_forwarding p c stamp h)
kept_before p c stamp plan here h kept short =
    let h1 : Store = (releasing p stamp h).state in
    let h2 : Store = before_inserting p c stamp h in
    let h3 : Store = before_splitting p c stamp h in
    let k1 : IsStoreOf p c h1 = (releasing_right p c stamp h kept).keeps in
    let k2 : IsStoreOf p c h2 = (believing_right p c stamp h1 k1).keeps in
    let k3 : IsStoreOf p c h3 = (inserting_right p c stamp plan here short h2 k2).keeps in
    (splitting_right p c stamp plan here h3 k3).keeps

forwarded_from : (p : Params) (c : ℕ) (stamp : Stamp) (h : Store) (z : Line) → In z (before_forwarding p c stamp h).view.lines → z.forwarded ≡ false
    → ((x : Line) × In x h.view.lines × (x.rec ≡ z.rec) × (x.forwarded ≡ false)) ⊎ In (taken_out z.rec) (ticking p c stamp h).outs
forwarded_from p c stamp h z i unmarked = ⊎_elim
    (λ w. ⊎_elim
    (λ f. inl (w.line, w.there, sym w.same, sym f ∙ unmarked))
    (λ k. let q : true ≡ false = sym k.0 ∙ unmarked in absurd (cc))
    w.mark)
    (λ w. inr (early_out p c stamp h (taken_out z.rec) (λ q. q) w.taken))
    ((early_moves p c stamp h).back z i)

pub forwarded : (p : Params) (c : ℕ) (stamp : Stamp) → IsPlan p → c < p.cubs → (h : Store) (link : LinkNo) (s : State)
    → In (out.Send link (msg.ViewerState s)) (forwarding p c stamp (before_forwarding p c stamp h)).outs
    → Forwarded p c stamp h s × IsNextWay p c link
forwarded p c stamp plan here h link s i = ⊎_elim
    (λ f.
    let z : Line = f.0 in
    let ready = ready_unmarked p stamp z f.2.1 in (
      record {
        rec = z.rec;
        tenancy = sym (ap (λ (t : State). t.tenancy) f.3);
        next = ap (λ (t : State). t.visit) f.3;
        must = ready.1;
        how = forwarded_from p c stamp h z f.2.0 ready.0;
        own = λ kept short. all_in (IsLineOf p c) z (before_forwarding p c stamp h).view.lines (kept_before p c stamp plan here h kept short).lines f.2.0;
      },
      f.4,
    ))
    (λ f. let e : Forward ≡ SendFirst f.0 = f.1 in absurd (cc))
    (forwarding_tells p c stamp (before_forwarding p c stamp h) (out.Send link (msg.ViewerState s)) i)
