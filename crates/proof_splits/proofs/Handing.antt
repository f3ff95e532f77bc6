-- Which visits of a cub are left to its predecessor, which came back: what is split off and what is not, and that the cub was
-- told of what it keeps of that.
use Rattle.std.proofs.Common.{◌≡◌, ℕ, zero, suc, ◌<◌, ◌≤◌, ◌==◌, ◌&&◌, nat_le, List, [], Bool, true, false, not, cond, Option, Some, None, refl, sym, ap, ◌∙◌, arith, ⊎_elim}
use Rattle.std.specs.Prelude.{◌⊎◌}
use Rattle.std.proofs.lemmas.Bool.{eq-eqb, lt-leb}
use Rattle.tiger_base.specs.declared.number.LinkNo.{LinkNo}
use Rattle.tiger_base.specs.declared.number.Stamp.{Stamp}
use Rattle.tiger_base.specs.declared.tenancy.Rec.{Rec}
use Rattle.tiger_base.specs.declared.message.Msg.{Msg}
use Rattle.tiger_base.specs.declared.message.Msg.TheVariants as msg
use Rattle.slot_plan.specs.declared.params.Params.{Params}
use Rattle.slot_plan.specs.Times.{due}
use Rattle.node_kit.specs.Steps.{Input}
use Rattle.node_kit.specs.Steps.Input.{Take, Tick}
use Rattle.partial_view.specs.declared.line.Line.{Line}
use Rattle.cub_rules.specs.declared.store.Store.{Store}
use Rattle.cub_rules.specs.Comebacks.{due_of_record, is_handed_back}
use Rattle.cub_rules.specs.Ticks.{must_split, split_off}
use Rattle.cub_changes.specs.Causes.{IsOfPredecessor}
use Rattle.cub_changes.proofs.Coming.{splitting_handback, taking_hears_back, ticking_handback}
use Rattle.proof_lives.specs.Lives.{Lives, AreLives, beat_at, deed_of, store_at}
use Rattle.lists.specs.Elements.{In}
use Rattle.lists.proofs.Elements.{chosen}
use Rattle.proof_lives.proofs.Holds.{no_both}
use Rattle.proof_lives.proofs.Inputs.{got_message}
use Rattle.proof_lives.proofs.Order.{beats_rise}
use Rattle.proof_facts.specs.Pieces.{before_splitting}
use Rattle.proof_facts.specs.Blocks.{TookBackAt}

-- ---- what is split off

pub from_split_off : {X : Type 0} (p : Params) (stamp : Stamp) (back : Option ℕ) (y : Line) (x : X) (these : List X)
    → In x (split_off p stamp back y these)
    → (must_split p stamp y ≡ true) × (is_handed_back p back y.rec ≡ false) × In x these
from_split_off {X} p stamp back y x these =
    let Is : List X → Type 0 = λ ls. In x ls → (must_split p stamp y ≡ true) × (is_handed_back p back y.rec ≡ false) × In x these in
    chosen Is (must_split p stamp y) (cond (is_handed_back p back y.rec) [] these) []
    (λ must. chosen Is (is_handed_back p back y.rec) [] these (λ _ i. absurd i) (λ left i. (must, left, i)))
    (λ _ i. absurd i)

pub in_split_off : {X : Type 0} (p : Params) (stamp : Stamp) (back : Option ℕ) (y : Line) (x : X) (these : List X)
    → must_split p stamp y ≡ true → is_handed_back p back y.rec ≡ false → In x these
    → In x (split_off p stamp back y these)
in_split_off {X} p stamp back y x these must left i =
    let There : List X → Type 0 = λ ls. In x ls in
    chosen There (must_split p stamp y) (cond (is_handed_back p back y.rec) [] these) []
    (λ _. chosen There (is_handed_back p back y.rec) [] these (λ t. absurd (no_both t left)) (λ _. i))
    (λ f. absurd (no_both must f))

-- ---- along a life

pub some_is : (a b : ℕ) → Some a ≡ Some b → a ≡ b
some_is a b e = let same : a ≡ b = cc in same

module _ (p : Params) (c : ℕ) (inputs : ℕ → Input Msg) where
  -- before input i a message of the predecessor told from when on it serves
  pub record WasToldBack (from i : ℕ) : Type 0 where
    pub at : ℕ
    pub before : at < i
    pub stamp : Stamp
    pub link : LinkNo
    pub is : inputs at ≡ Take stamp link (msg.Back from)
    pub of : IsOfPredecessor p c link

  -- it was told by the last input, if not before
  at_input : (i from : ℕ) → ((store_at p c inputs i).handback ≡ Some from → WasToldBack from (suc i)) → (k : Input Msg)
      → inputs i ≡ k → (deed_of p c k (store_at p c inputs i)).state.handback ≡ Some from → WasToldBack from (suc i)
  at_input i from earlier (Take stamp link m) is after =
      ⊎_elim
      (λ same. earlier (sym same ∙ after))
      (λ k.
      let same = some_is k.0 from (sym k.3 ∙ after) in
      record {
        at = i;
        before = omega arith;
        stamp = stamp;
        link = link;
        is = is ∙ ap (λ (o : Msg). Take stamp link o) (k.1 ∙ ap msg.Back same);
        of = k.2;
      })
      (taking_hears_back p c stamp link m (store_at p c inputs i))
  at_input i from earlier (Tick stamp) is after = earlier (sym (ticking_handback p c stamp (store_at p c inputs i)) ∙ after)

  pub told_back : (i from : ℕ) → (store_at p c inputs i).handback ≡ Some from → WasToldBack from i
  told_back zero from e = absurd (cc)
  told_back (suc i) from e = at_input i from (λ before. later (told_back i from before)) (inputs i) refl e
    where
      later : WasToldBack from i → WasToldBack from (suc i)
      later w =
          let low = w.before in
          record { at = w.at; before = omega arith; stamp = w.stamp; link = w.link; is = w.is; of = w.of }

-- Whatever cub c was told by beat b of when its predecessor serves, visit n is due before that, or is its tenancy's first.
abbrev pub IsLeftHere : Params → Lives → ℕ → Rec → ℕ → Type 0
IsLeftHere p lives c r b = (from y : ℕ) → TookBackAt p lives c from y → y ≤ b
    → (due p r.tenancy.slot.0 r.visit < from) ⊎ (r.visit ≡ r.tenancy.first)

apart_from : (p : Params) (from : ℕ) (r : Rec) → (due p r.tenancy.slot.0 r.visit < from) ⊎ (r.visit ≡ r.tenancy.first)
    → is_handed_back p (Some from) r ≡ false
apart_from p from r left = ⊎_elim
    (λ before. ap (λ (b : Bool). b && not (r.visit == r.tenancy.first)) (lt-leb from (due_of_record p r) before))
    (λ first. by_first (nat_le from (due_of_record p r)) (r.visit == r.tenancy.first) (eq-eqb r.visit r.tenancy.first first))
    left
  where
    by_first : (a b : Bool) → b ≡ true → (a && not b) ≡ false
    by_first a true e = all a
      where
        all : (b : Bool) → (b && false) ≡ false
        all true = refl
        all false = refl
    by_first a false e = absurd (cc)

-- Such a visit is not handed back when the cub splits in a tick by that beat.
pub left_here : (p : Params) (lives : Lives) → AreLives p lives → (c i b : ℕ) (stamp : Stamp) (r : Rec) → c < p.cubs
    → i < lives.count c → beat_at (lives.input c) i ≤ b → IsLeftHere p lives c r b
    → is_handed_back p (before_splitting p c stamp (store_at p c (lives.input c) i)).handback r ≡ false
left_here p lives are c i b stamp r small low by left =
    let h : Store = store_at p c (lives.input c) i in
    ap (λ (o : Option ℕ). is_handed_back p o r) (splitting_handback p c stamp h) ∙ of_kept h.handback refl
  where
    of_kept : (o : Option ℕ) → (store_at p c (lives.input c) i).handback ≡ o → is_handed_back p o r ≡ false
    of_kept None e = refl
    of_kept (Some from) e =
        let inputs : ℕ → Input Msg = lives.input c in
        let w = told_back p c inputs i from e in
        let before = w.before in
        let rise = beats_rise p (lives.count c) inputs (are c small) w.at i (omega arith) low in
        let took = got_message p lives c w.at w.stamp w.link (msg.Back from) small (omega arith) w.is in
        apart_from p from r (left from (beat_at inputs w.at) (record { took = took; link = w.of }) (omega arith))
