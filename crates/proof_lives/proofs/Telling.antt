-- What a viewer state tells a cub: the records that it takes, and that each of them finds its place taken or takes it.
use Rattle.std.proofs.Common.{◌≡◌, ℕ, ◌+◌, ◌<◌, List, [], ◌∷◌, ◌++◌, find, true, false, is_some, Option, Some, refl, sym, ap, subst, ◌∙◌, arith, ⊎_elim, inl, inr}
use Rattle.std.specs.Prelude.{◌⊎◌}
use Rattle.std.proofs.lemmas.Bool.{cases_Bool, lt-ltb, eqb-true, eq-eqb, ne_eqb, and_parts}
use Rattle.tiger_base.specs.declared.number.LinkNo.{LinkNo}
use Rattle.tiger_base.specs.declared.number.Stamp.{Stamp}
use Rattle.tiger_base.specs.declared.tenancy.Kind.TheVariants.{Own, Backup}
use Rattle.tiger_base.specs.declared.tenancy.Rec.{Rec}
use Rattle.tiger_base.specs.declared.tenancy.State.{State}
use Rattle.tiger_base.specs.declared.tenancy.Tenancy.{Tenancy}
use Rattle.tiger_base.specs.declared.message.Msg.{Msg}
use Rattle.tiger_base.specs.declared.message.Msg.TheVariants as msg
use Rattle.tiger_base.specs.Notes.{noted}
use Rattle.slot_plan.specs.declared.params.Params.{Params}
use Rattle.slot_plan.specs.Conditions.{IsPlan}
use Rattle.slot_plan.specs.Times.{cub_of, due}
use Rattle.slot_plan.specs.Keys.{Key}
use Rattle.slot_plan.proofs.Times.{cub_apart, seven_cubs}
use Rattle.node_kit.specs.declared.outbox.Out.{Out}
use Rattle.node_kit.specs.Form.{is_in_form}
use Rattle.node_kit.specs.Steps.{Deed}
use Rattle.viewer_state.specs.States.{is_visit_of}
use Rattle.partial_view.specs.declared.line.Line.{Line}
use Rattle.partial_view.specs.Lines.{visit_of, is_at}
use Rattle.partial_view.specs.Views.{line_at}
use Rattle.deschedule.specs.Holds.{is_held}
use Rattle.node_kit.specs.Deeds.{each_in_turn}
use Rattle.cub_rules.specs.declared.store.Store.{Store}
use Rattle.cub_rules.specs.Records.{took, dropping_start}
use Rattle.cub_rules.specs.Messages.{position_at, records_told, place_told, told, taking}
use Rattle.proof_schedule.specs.Facts.{IsGiven}
use Rattle.lists.specs.Elements.{In}
use Rattle.lists.proofs.Elements.{chosen, in_left, in_right}
use Rattle.proof_lives.proofs.Moves.{taken_out, with_record_new, from_with_line, IsAt}
use Rattle.proof_lives.proofs.Taking.{message_took}
use Rattle.cub_rules.specs.Comebacks.{lets_in, records_let_in, due_of_record}
use Rattle.cub_changes.proofs.Messages.{of_let_in, in_let_in, took_of}
use Rattle.cub_changes.proofs.Chains.{start_dropped, ignores, takes_state}
use Rattle.proof_lives.proofs.Takes.{told_at}
use Rattle.tiger_base.specs.declared.number.SlotNo.{SlotNo}

-- a line is found only where it is
pub found_in : (k : Key) (lines : List Line) → is_some (line_at k lines) ≡ true → (x : Line) × In x lines × IsAt k.0.0 k.1 x
unfolding line_at
found_in k [] e = absurd (cc)
found_in k (z ∷ zs) e =
    chosen (λ (o : Option Line). is_some o ≡ true → (x : Line) × In x (z ∷ zs) × IsAt k.0.0 k.1 x) (is_at k z) (Some z) (find (is_at k) zs)
    (λ t _. let both = and_parts _ _ t in (z, inl refl, (sym (eqb-true _ _ both.0), sym (eqb-true _ _ both.1))))
    (λ t f. let r = found_in k zs f in (r.0, inr r.1, r.2))
    e

-- a record's place is taken, or the record takes it
abbrev pub FindsPlace : Rec → List Line → List (Out Msg) → Type 0
FindsPlace r lines outs = ((x : Line) × In x lines × IsAt r.tenancy.slot.0 r.visit x) ⊎ In (taken_out r) outs

pub one_place : (r : Rec) (h : Store) → FindsPlace r h.view.lines (took r h).outs
one_place r h =
    took_of (λ (d : Deed Msg Store). FindsPlace r h.view.lines d.outs) r h (λ e. inl (found_in (visit_of r) h.view.lines e))
    (λ _. inr (inl refl))

-- a line that was not there before a record was taken is the record's
new_line : (r : Rec) (h : Store) (x : Line) → In x (took r h).state.view.lines → In x h.view.lines ⊎ ((x.rec ≡ r) × In (taken_out r) (took r h).outs)
new_line r h x =
    took_of (λ (d : Deed Msg Store). In x d.state.view.lines → In x h.view.lines ⊎ ((x.rec ≡ r) × In (taken_out r) d.outs)) r h
    (λ _ i. inl i)
    (λ e i. ⊎_elim
    (λ q. inr (ap (λ (y : Line). y.rec) q, inl refl))
    (λ q. inl q)
    (from_with_line h.view.params _ x h.view.lines (subst (λ (ls : List Line). In x ls) (with_record_new h.view.params r h.view.lines e) i)))

-- of several records each finds its place taken before, or one of the several takes it
abbrev pub FindsPlaceAmong : List Rec → Rec → List Line → List (Out Msg) → Type 0
FindsPlaceAmong rs r lines outs =
    ((x : Line) × In x lines × IsAt r.tenancy.slot.0 r.visit x)
    ⊎ ((q : Rec) × In q rs × In (taken_out q) outs × (q.tenancy.slot.0 ≡ r.tenancy.slot.0) × (q.visit ≡ r.visit))

pub each_place : (rs : List Rec) (r : Rec) (h : Store) → In r rs → FindsPlaceAmong rs r h.view.lines (each_in_turn took rs h).outs
each_place [] r h i = absurd i
each_place (s ∷ rs) r h i =
    let rest : List (Out Msg) = (each_in_turn took rs (took s h).state).outs in
    ⊎_elim
    (λ (e : r ≡ s). ⊎_elim
    (λ w. inl w)
    (λ w. inr (r, inl e, in_left (taken_out r) (took s h).outs rest (subst (λ (q : Rec). In (taken_out r) (took q h).outs) e w), refl, refl))
    (one_place r h))
    (λ k. ⊎_elim
    (λ w. ⊎_elim
    (λ j. inl (w.0, j, w.2))
    (λ j. inr (s, inl refl, in_left (taken_out s) (took s h).outs rest j.1, sym (ap (λ (q : Rec). q.tenancy.slot.0) j.0) ∙ w.2.0, sym (ap (λ (q : Rec). q.visit) j.0) ∙ w.2.1))
    (new_line s h w.0 w.1))
    (λ w. inr (w.0, inr w.1, in_right (taken_out w.0) (took s h).outs rest w.2, w.3, w.4))
    (each_place rs r (took s h).state k))
    i

-- which records a state tells: those that it gives
pub record IsTold (p : Params) (c : ℕ) (s : State) (r : Rec) : Type 0 where
  pub tenancy : r.tenancy ≡ s.tenancy
  pub given : IsGiven p c s.tenancy s.visit r.visit

pub position_told : (p : Params) (c : ℕ) (s : State) (k : Key) (r : Rec) → position_at p c s.tenancy.slot s.visit ≡ Some k → In r (records_told s k) → IsTold p c s r
position_told p c s k r at i = let w = told_at p c s r k at i in record { tenancy = sym w.0.1; given = w.1 }

-- what is taken at a viewer state is what it tells
pub taking_told : (p : Params) (c : ℕ) (stamp : Stamp) (link : LinkNo) (s : State) (r : Rec) (h : Store) → In (taken_out r) (taking p c stamp link (msg.ViewerState s) h).outs → IsTold p c s r
taking_told p c stamp link s r h i =
    let may = message_took p c stamp link (msg.ViewerState s) h r i in
    position_told p c s may.0 r may.1.1 may.2

-- a state in form of an instance that is not held is told from the cub's position
pub takes_told : (p : Params) (c : ℕ) (stamp : Stamp) (link : LinkNo) (s : State) (k : Key) (h : Store) → is_in_form p (noted (msg.ViewerState s)) ≡ true
    → is_visit_of s.tenancy s.visit ≡ true → position_at p c s.tenancy.slot s.visit ≡ Some k → is_held h.held s.tenancy.instance ≡ false
    → taking p c stamp link (msg.ViewerState s) h ≡ told p c s k h
takes_told p c stamp link s k h form visit position free = takes_state p c stamp link s k h form visit position ∙ rw free refl

-- a state of which a record is taken is told from the cub's position
pub took_told : (p : Params) (c : ℕ) (stamp : Stamp) (link : LinkNo) (s : State) (r : Rec) (h : Store) → In (taken_out r) (taking p c stamp link (msg.ViewerState s) h).outs
    → (k : Key) × (taking p c stamp link (msg.ViewerState s) h ≡ told p c s k h)
took_told p c stamp link s r h i =
    let may = message_took p c stamp link (msg.ViewerState s) h r i in
    ⊎_elim
    (λ (e : is_in_form p (noted (msg.ViewerState s)) ≡ true). (may.0, takes_told p c stamp link s may.0 h e may.1.0 may.1.1 may.3))
    (λ (e : is_in_form p (noted (msg.ViewerState s)) ≡ false). absurd (subst (λ (d : Deed Msg Store). In (taken_out r) d.outs) (ignores p c stamp link (msg.ViewerState s) h e) i))
    (cases_Bool (is_in_form p (noted (msg.ViewerState s))))

-- where it stands, and the record of a visit that it is given
pub record Position (p : Params) (c : ℕ) (s : State) (n : ℕ) : Type 0 where
  key : Key
  at : position_at p c s.tenancy.slot s.visit ≡ Some key
  rec : Rec
  told : In rec (records_told s key)
  tenancy : rec.tenancy ≡ s.tenancy
  visit : rec.visit ≡ n

pub position_here : (p : Params) (c : ℕ) (s : SlotNo) (m : ℕ) → c ≡ cub_of p m → position_at p c s m ≡ Some (s, m)
unfolding position_at
position_here p c s m here = rw (eq-eqb _ _ (sym here)) refl

pub position_next : (p : Params) (c : ℕ) (s : SlotNo) (m : ℕ) → (cub_of p m ≡ c → ⊥) → c ≡ cub_of p (m + 1) → position_at p c s m ≡ Some (s, m + 1)
unfolding position_at
position_next p c s m other next = rw (ne_eqb _ _ other, eq-eqb _ _ (sym next)) refl

pub told_own : (s : State) → In (record { tenancy = s.tenancy; visit = s.visit; kind = Own }) (records_told s (s.tenancy.slot, s.visit))
told_own s = rw (eq-eqb s.visit s.visit refl) (inl refl)

pub told_backup : (s : State) → In (record { tenancy = s.tenancy; visit = s.visit; kind = Backup }) (records_told s (s.tenancy.slot, s.visit + 1))
told_backup s = rw (ne_eqb (s.visit + 1) s.visit (λ e. omega arith)) (inl refl)

pub told_second : (s : State) → s.visit < s.tenancy.last → In (record { tenancy = s.tenancy; visit = s.visit + 1; kind = Own }) (records_told s (s.tenancy.slot, s.visit + 1))
told_second s more = rw (ne_eqb (s.visit + 1) s.visit (λ e. omega arith), lt-ltb s.visit s.tenancy.last more) (inr (inl refl))

pub position_of : (p : Params) (c : ℕ) (s : State) (n : ℕ) → IsPlan p → IsGiven p c s.tenancy s.visit n → Position p c s n
position_of p c s n plan given =
    let seven = seven_cubs p plan in
    let apart : c ≡ cub_of p (s.visit + 1) → cub_of p s.visit ≡ c → ⊥ = λ e f. cub_apart p s.visit 1 (omega arith) (omega arith) (f ∙ e) in
    ⊎_elim
    (λ e. ⊎_elim
    (λ here. record { key = (s.tenancy.slot, s.visit); at = position_here p c s.tenancy.slot s.visit here; rec = record { tenancy = s.tenancy; visit = s.visit; kind = Own }; told = told_own s; tenancy = refl; visit = sym e.0 })
    (λ next. record { key = (s.tenancy.slot, s.visit + 1); at = position_next p c s.tenancy.slot s.visit (apart next) next; rec = record { tenancy = s.tenancy; visit = s.visit; kind = Backup }; told = told_backup s; tenancy = refl; visit = sym e.0 })
    e.1)
    (λ e.
    let e0 = e.0 in
    let e1 = e.1 in
    let next : c ≡ cub_of p (s.visit + 1) = e.2 ∙ ap (λ v. cub_of p v) e.0 in
    record { key = (s.tenancy.slot, s.visit + 1); at = position_next p c s.tenancy.slot s.visit (apart next) next; rec = record { tenancy = s.tenancy; visit = s.visit + 1; kind = Own }; told = told_second s (omega arith); tenancy = refl; visit = sym e.0 })
    given

-- each record that a state gives finds its place taken, or its tenancy takes it
pub record FindsIts (s : State) (n : ℕ) (lines : List Line) (outs : List (Out Msg)) : Type 0 where
  pub how : ((x : Line) × In x lines × IsAt s.tenancy.slot.0 n x) ⊎ ((q : Rec) × In (taken_out q) outs × (q.tenancy ≡ s.tenancy) × (q.visit ≡ n))

pub told_places : (p : Params) (c : ℕ) (s : State) (n : ℕ) (o : Position p c s n) (h : Store)
    → lets_in h.comeback (due p s.tenancy.slot.0 n) ≡ true → FindsIts s n h.view.lines (told p c s o.key h).outs
told_places p c s n o h lets =
    let g : Store = (dropping_start s.tenancy.instance h).state in
    let rs : List Rec = records_let_in p h.comeback (records_told s o.key) in
    let at : due_of_record p o.rec ≡ due p s.tenancy.slot.0 n =
    ap (λ (t : Tenancy). due p t.slot.0 o.rec.visit) o.tenancy ∙ ap (λ (m : ℕ). due p s.tenancy.slot.0 m) o.visit in
    let may : lets_in h.comeback (due_of_record p o.rec) ≡ true = ap (λ (m : ℕ). lets_in h.comeback m) at ∙ lets in
    let before : List (Out Msg) = (dropping_start s.tenancy.instance h).outs in
    let after : List (Out Msg) = (each_in_turn took rs g).outs in
    let last : List (Out Msg) = place_told p c s o.key h in
    record {
      how = ⊎_elim
          (λ w. inl (w.0, subst (λ (ls : List Line). In w.0 ls) (ap (λ (d : Deed Msg Store). d.state.view.lines) (start_dropped s.tenancy.instance h)) w.1, (w.2.0 ∙ ap (λ (t : Tenancy). t.slot.0) o.tenancy, w.2.1 ∙ o.visit)))
          (λ w. inr (w.0, in_right (taken_out w.0) before (after ++ last) (in_left (taken_out w.0) after last w.2), (position_told p c s o.key w.0 o.at (of_let_in p h.comeback w.0 (records_told s o.key) w.1).0).tenancy, w.4 ∙ o.visit))
          (each_place rs o.rec g (in_let_in p h.comeback o.rec (records_told s o.key) o.told may));
    }

pub taking_places : (p : Params) (c : ℕ) (stamp : Stamp) (link : LinkNo) (s : State) (n : ℕ) (h : Store) → IsPlan p → is_in_form p (noted (msg.ViewerState s)) ≡ true
    → is_visit_of s.tenancy s.visit ≡ true → is_held h.held s.tenancy.instance ≡ false → IsGiven p c s.tenancy s.visit n
    → lets_in h.comeback (due p s.tenancy.slot.0 n) ≡ true → FindsIts s n h.view.lines (taking p c stamp link (msg.ViewerState s) h).outs
taking_places p c stamp link s n h plan form visit free given lets =
    let o = position_of p c s n plan given in
    subst (λ (d : Deed Msg Store). FindsIts s n h.view.lines d.outs) (sym (takes_told p c stamp link s o.key h form visit o.at free)) (told_places p c s n o h lets)
