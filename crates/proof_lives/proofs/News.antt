-- The next cub tells the controller of each first visit of which it takes the backup record at a message.
use Rattle.std.proofs.Common.{◌≡◌, ℕ, ◌+◌, ◌==◌, nat_lt, List, [], ◌∷◌, ◌++◌, Bool, true, false, cond, is_some, refl, sym, ap, subst, ◌∙◌, ⊎_elim, inl}
use Rattle.std.proofs.lemmas.Bool.{cases_Bool, eq-eqb}
use Rattle.tiger_base.specs.declared.number.LinkNo.{LinkNo}
use Rattle.tiger_base.specs.declared.number.Stamp.{Stamp}
use Rattle.tiger_base.specs.declared.tenancy.Kind.TheVariants.{Own, Backup}
use Rattle.tiger_base.specs.declared.tenancy.Rec.{Rec}
use Rattle.tiger_base.specs.declared.tenancy.State.{State}
use Rattle.tiger_base.specs.declared.tenancy.Tenancy.{Tenancy}
use Rattle.tiger_base.specs.declared.message.Msg.{Msg}
use Rattle.tiger_base.specs.declared.message.Msg.TheVariants as msg
use Rattle.tiger_base.specs.Notes.{noted}
use Rattle.tiger_base.specs.Records.{backup_of}
use Rattle.slot_plan.specs.declared.params.Params.{Params}
use Rattle.slot_plan.specs.Keys.{Key}
use Rattle.node_kit.specs.declared.outbox.Out.{Out}
use Rattle.node_kit.specs.Deeds.{each_in_turn}
use Rattle.node_kit.specs.Form.{is_in_form}
use Rattle.node_kit.specs.Steps.{Deed}
use Rattle.partial_view.specs.Views.{line_at}
use Rattle.cub_rules.specs.declared.store.Store.{Store}
use Rattle.cub_rules.specs.Messages.{records_told, is_news, place_told, told, taking}
use Rattle.cub_rules.specs.Records.{took, dropping_start}
use Rattle.cub_rules.specs.Ticks.{told_placed}
use Rattle.cub_changes.specs.Changes.Change.{DropStart, TakeRecord, SendPlaced}
use Rattle.cub_changes.proofs.Messages.{told_by}
use Rattle.cub_changes.proofs.Outputs.{tells_of}
use Rattle.lists.specs.Elements.{In}
use Rattle.lists.proofs.Elements.{chosen, in_right}
use Rattle.proof_lives.proofs.Inserting.{Fresh, fresh_closed}
use Rattle.proof_lives.proofs.Moves.{taken_out}
use Rattle.proof_lives.proofs.Putting.{fresh_same, fresh_new}
use Rattle.proof_lives.proofs.Taking.{message_took, taking_hears}
use Rattle.proof_lives.proofs.Telling.{found_in, takes_told}
use Rattle.cub_rules.specs.Comebacks.{lets_in, records_let_in}
use Rattle.slot_plan.specs.Times.{due}
use Rattle.cub_changes.proofs.Chains.{ignores}

-- a state is of a tenancy's first visit, and the cub is the next one
record IsFirstNext (s : State) (k : Key) (t : Tenancy) : Type 0 where
  same : t ≡ s.tenancy
  first : t.first ≡ s.visit
  next : (k.1 == s.visit) ≡ false

-- records of two kinds are two
kinds : (a b : Rec) → a ≡ b → a.kind ≡ Backup → b.kind ≡ Own → ⊥
kinds a b e f g = let z : Backup ≡ Own = sym f ∙ (ap (λ (x : Rec). x.kind) e ∙ g) in absurd (cc)

-- of the records that a state tells, the one that backs up is of its own visit, and the next cub's
first_next : (s : State) (k : Key) (t : Tenancy) → In (backup_of t t.first) (records_told s k) → IsFirstNext s k t
first_next s k t =
    let r : Rec = backup_of t t.first in
    let own : ℕ → Rec = λ n. record { tenancy = s.tenancy; visit = n; kind = Own } in
    chosen (λ (rs : List Rec). In r rs → IsFirstNext s k t) (k.1 == s.visit) (own s.visit ∷ []) _
    (λ _ i. ⊎_elim (λ q. absurd (kinds r (own s.visit) q refl refl)) (λ q. absurd q) i)
    (λ f i. ⊎_elim
    (λ q. record { same = ap (λ (x : Rec). x.tenancy) q; first = ap (λ (x : Rec). x.visit) q; next = f })
    (λ j. chosen (λ (rs : List Rec). In r rs → IsFirstNext s k t) (nat_lt s.visit s.tenancy.last) (own (s.visit + 1) ∷ []) []
    (λ _ w. ⊎_elim (λ q. absurd (kinds r (own (s.visit + 1)) q refl refl)) (λ q. absurd q) w)
    (λ _ w. absurd w)
    j)
    i)

module _ (p : Params) (c : ℕ) (stamp : Stamp) (link : LinkNo) (h : Store) where
  -- what is taken at a state finds no line at its place, which no other of its records takes before
  told_fresh : (s : State) (k : Key) → Fresh p c h (told p c s k h)
  told_fresh s k =
      told_by (Fresh p c) (fresh_closed p c) p c stamp s k h
      (fresh_same p c stamp h _ refl (λ r i. let e : DropStart s.tenancy.instance ≡ TakeRecord r = tells_of p c stamp (DropStart s.tenancy.instance) h (taken_out r) i in absurd (cc)))
      (λ r i o q e. fresh_new p c stamp r q e)
      (λ q e o. fresh_same p c stamp q _ refl (λ r i. let e : SendPlaced s.tenancy ≡ TakeRecord r = tells_of p c stamp (SendPlaced s.tenancy) q (taken_out r) i in absurd (cc)))

  -- so a first backup record that is taken is news
  is_new : (s : State) (k : Key) (t : Tenancy) → IsFirstNext s k t → In (taken_out (backup_of t t.first)) (told p c s k h).outs
      → is_news s k h.view.lines ≡ true
  is_new s k t f i =
      let first : s.visit ≡ s.tenancy.first = sym f.first ∙ ap (λ (u : Tenancy). u.first) f.same in
      let none : is_some (line_at (s.tenancy.slot, s.visit) h.view.lines) ≡ false = ⊎_elim
      (λ (e : is_some (line_at (s.tenancy.slot, s.visit) h.view.lines) ≡ true).
      let x = found_in (s.tenancy.slot, s.visit) h.view.lines e in
      absurd ((told_fresh s k).fresh (backup_of t t.first) x.0 i x.1 (x.2.0 ∙ sym (ap (λ (u : Tenancy). u.slot.0) f.same), x.2.1 ∙ sym f.first)))
      (λ (e : is_some (line_at (s.tenancy.slot, s.visit) h.view.lines) ≡ false). e)
      (cases_Bool (is_some (line_at (s.tenancy.slot, s.visit) h.view.lines))) in
      rw (f.next, eq-eqb s.visit s.tenancy.first first, none) refl

  news_there : (s : State) (k : Key) → is_news s k h.view.lines ≡ true → lets_in h.comeback (due p s.tenancy.slot.0 s.visit) ≡ true
      → In (told_placed p c s.tenancy) (told p c s k h).outs
  news_there s k e may =
      let o : Out Msg = told_placed p c s.tenancy in
      let g : Store = (dropping_start s.tenancy.instance h).state in
      let before : List (Out Msg) = (dropping_start s.tenancy.instance h).outs in
      let after : List (Out Msg) = (each_in_turn took (records_let_in p h.comeback (records_told s k)) g).outs in
      let last : List (Out Msg) = place_told p c s k h in
      in_right o before (after ++ last) (in_right o after last
      (subst (λ (b : Bool). In o (cond b (cond (is_news s k h.view.lines) (o ∷ []) []) [])) (sym may)
      (subst (λ (b : Bool). In o (cond b (o ∷ []) [])) (sym e) (inl refl))))

  state_told : (s : State) (t : Tenancy) → In (taken_out (backup_of t t.first)) (taking p c stamp link (msg.ViewerState s) h).outs
      → In (told_placed p c t) (taking p c stamp link (msg.ViewerState s) h).outs
  state_told s t i =
      let r : Rec = backup_of t t.first in
      let m : Msg = msg.ViewerState s in
      let may = message_took p c stamp link m h r i in
      let k : Key = may.0 in
      let f = first_next s k t may.2 in
      ⊎_elim
      (λ (e : is_in_form p (noted m) ≡ true).
      let is = takes_told p c stamp link s k h e may.1.0 may.1.1 may.3 in
      let at : due p t.slot.0 t.first ≡ due p s.tenancy.slot.0 s.visit =
      ap (λ (u : Tenancy). due p u.slot.0 t.first) f.same ∙ ap (λ (n : ℕ). due p s.tenancy.slot.0 n) f.first in
      let lets : lets_in h.comeback (due p s.tenancy.slot.0 s.visit) ≡ true = ap (λ (n : ℕ). lets_in h.comeback n) (sym at) ∙ may.4 in
      let news = is_new s k t f (subst (λ (d : Deed Msg Store). In (taken_out r) d.outs) is i) in
      subst (λ (d : Deed Msg Store). In (told_placed p c t) d.outs) (sym is)
      (subst (λ (u : Tenancy). In (told_placed p c u) (told p c s k h).outs) (sym f.same) (news_there s k news lets)))
      (λ (e : is_in_form p (noted m) ≡ false). absurd (subst (λ (d : Deed Msg Store). In (taken_out r) d.outs) (ignores p c stamp link m h e) i))
      (cases_Bool (is_in_form p (noted m)))

  -- whoever takes the backup record of a first visit tells the controller of the place
  pub news_told : (m : Msg) (t : Tenancy) → In (taken_out (backup_of t t.first)) (taking p c stamp link m h).outs
      → In (told_placed p c t) (taking p c stamp link m h).outs
  news_told m t i =
      let r : Rec = backup_of t t.first in
      let s = (taking_hears p c stamp link m h).only_states r i in
      subst (λ (n : Msg). In (told_placed p c t) (taking p c stamp link n h).outs) (sym s.1)
      (state_told s.0 t (subst (λ (n : Msg). In (taken_out r) (taking p c stamp link n h).outs) s.1 i))
