-- A read that a cub writes down as failed is one of which a disk told it so, for a record that it had; and each such
-- one is written down.
use Rattle.std.proofs.Common.{◌≡◌, ℕ, ◌≤◌, List, [], ◌∷◌, Bool, true, false, Option, Some, None, refl, sym, ap, subst, ◌∙◌, ⊎_elim, inl, inr}
use Rattle.std.specs.Prelude.{◌&&◌}
use Rattle.std.specs.List.{list_any}
use Rattle.std.proofs.lemmas.Bool.{cases_Bool, or_left}
use Rattle.tiger_base.specs.declared.number.LinkNo.{LinkNo}
use Rattle.tiger_base.specs.declared.number.Stamp.{Stamp}
use Rattle.tiger_base.specs.declared.tenancy.PieceState.{PieceState}
use Rattle.tiger_base.specs.declared.tenancy.Rec.{Rec}
use Rattle.tiger_base.specs.declared.tenancy.Tenancy.{Tenancy}
use Rattle.tiger_base.specs.declared.tenancy.Want.{Want}
use Rattle.tiger_base.specs.declared.message.Msg.{Msg}
use Rattle.tiger_base.specs.declared.message.Msg.TheVariants as msg
use Rattle.tiger_base.specs.Kinds.{is_own}
use Rattle.tiger_base.specs.Notes.{noted}
use Rattle.tiger_base.specs.Records.{want_of, want_of_piece, same_want}
use Rattle.slot_plan.specs.declared.params.Params.{Params}
use Rattle.slot_plan.specs.Keys.{Key}
use Rattle.node_kit.specs.declared.journal.What.TheVariants as what
use Rattle.node_kit.specs.declared.outbox.Out.{Out}
use Rattle.node_kit.specs.declared.outbox.Out.TheVariants as out
use Rattle.node_kit.specs.Deeds.{nothing}
use Rattle.node_kit.specs.Form.{is_in_form}
use Rattle.node_kit.specs.Steps.{Deed, Input}
use Rattle.node_kit.specs.Steps.Input.{Take, Tick}
use Rattle.partial_view.specs.declared.line.Line.{Line}
use Rattle.partial_view.specs.Lines.{is_at, key_of}
use Rattle.partial_view.specs.Views.{line_at}
use Rattle.partial_view.proofs.Order.{same_is, same_itself}
use Rattle.cub_rules.specs.declared.store.Store.{Store}
use Rattle.cub_rules.specs.Messages.{is_block_of, is_wanted, storing, taking}
use Rattle.cub_rules.specs.Ticks.{ticking}
use Rattle.cub_changes.specs.Causes.{Stage, IsAnswer, Cause}
use Rattle.cub_changes.specs.Causes.Stage.{OnMessage}
use Rattle.cub_changes.specs.Changes.{Change}
use Rattle.cub_changes.specs.Outputs.{Output, output, ComesOf}
use Rattle.cub_changes.specs.Outputs.Output.{ReadFailed}
use Rattle.cub_changes.proofs.Chains.{ignores, takes_answer}
use Rattle.cub_changes.proofs.Closed.{OfEach}
use Rattle.cub_changes.proofs.Messages.{taking_by}
use Rattle.cub_changes.proofs.Outputs.{forms_of, Puts, puts_closed}
use Rattle.cub_changes.proofs.Ticks.{IsOfTick, ticking_by}
use Rattle.run_model.proofs.Reflects.{or_either}
use Rattle.proof_lives.specs.Lives.{deed_of}
use Rattle.lists.specs.Elements.{In}
use Rattle.lists.proofs.Elements.{chosen}
use Rattle.lists.proofs.Each.{all_in}
use Rattle.proof_parts.proofs.Found.{one_want, same_self, wanted_piece}
use Rattle.proof_facts.specs.Pieces.{piece, want, HasOwn}
use Rattle.proof_facts.specs.Blocks.{HasRecord}
use Rattle.proof_parcels.proofs.Apart.{AreApart, OtherKey, IsOnce}
use Rattle.proof_parcels.proofs.ServeOuts.{own_rec}

-- ---- which event writes that a read failed

-- if an output writes down a failed read, this holds of its want
abbrev OfFailed : (Want → Type 0) → Out Msg → Type 0
OfFailed X (out.Act (what.ReadFailed w)) = X w
OfFailed X other = Unit {0}

each : (p : Params) (c : ℕ) (stamp : Stamp) (X : Want → Type 0) (g : Stage) (from : Store)
    → ((w : Want) (h : Store) → IsAnswer g w None h → X w) → OfEach (Puts p c stamp (OfFailed X)) p c stamp g from
each p c stamp X g from gives x h cause = forms_of p c stamp (OfFailed X) x h form
  where
    form : (o : Output) → ComesOf p c stamp x h o → OfFailed X (output p c stamp o)
    form (ReadFailed w) comes = gives w h (subst (λ (y : Change). Cause p c stamp g from y h) comes cause)
    form other comes = tt

-- the message is an answer without a part
abbrev IsNoPart : Msg → Want → Type 0
IsNoPart (msg.ReadDone v None) w = w ≡ v
IsNoPart other w = ⊥

no_part : (link : LinkNo) (m : Msg) (w : Want) (h : Store) → IsAnswer (OnMessage link m) w None h → IsNoPart m w
no_part link (msg.ReadDone v None) w h a = a.0
no_part link (msg.ReadDone v (Some part)) w h a = let q : None ≡ Some part = a.1 in absurd (cc)
no_part link other w h a = absurd a

no_part_is : (m : Msg) (w : Want) → IsNoPart m w → m ≡ msg.ReadDone w None
no_part_is (msg.ReadDone v None) w e = ap (λ (z : Want). msg.ReadDone z None) (sym e)
no_part_is (msg.ReadDone v (Some part)) w e = absurd e
no_part_is other w e = absurd e

none_in_tick : (g : Stage) → IsOfTick g → (w : Want) (h : Store) → IsAnswer g w None h → ⊥
none_in_tick (OnMessage link m) t w h a = t
none_in_tick other t w h a = a

-- it is one that takes an answer without a part, in form, to a want that is still there
pub record IsFailedRead (p : Params) (i : Input Msg) (h : Store) (w : Want) : Type 0 where
  pub stamp : Stamp
  pub link : LinkNo
  pub is : i ≡ Take stamp link (msg.ReadDone w None)
  pub formed : is_in_form p (noted (msg.ReadDone w None)) ≡ true
  pub wanted : is_wanted w h ≡ true

answered : (p : Params) (c : ℕ) (stamp : Stamp) (link : LinkNo) (w : Want) (h : Store)
    → In (out.Act (what.ReadFailed w)) (taking p c stamp link (msg.ReadDone w None) h).outs
    → (is_in_form p (noted (msg.ReadDone w None)) ≡ true) × (is_wanted w h ≡ true)
answered p c stamp link w h k =
    let o : Out Msg = out.Act (what.ReadFailed w) in
    let Goes : Deed Msg Store → Type 0 = λ d. In o d.outs in
    ⊎_elim (λ (f : is_in_form p (noted (msg.ReadDone w None)) ≡ true). (
      f,
      chosen (λ (d : Deed Msg Store). Goes d → is_wanted w h ≡ true) (is_wanted w h) (storing w None h) (nothing h)
          (λ s _. s) (λ _ i. absurd i) (subst Goes (takes_answer p c stamp link w None h f) k),
    ))
    (λ (f : is_in_form p (noted (msg.ReadDone w None)) ≡ false). absurd (subst Goes (ignores p c stamp link (msg.ReadDone w None) h f) k))
    (cases_Bool (is_in_form p (noted (msg.ReadDone w None))))

pub failed_read : (p : Params) (c : ℕ) (i : Input Msg) (h : Store) (w : Want)
    → In (out.Act (what.ReadFailed w)) (deed_of p c i h).outs → IsFailedRead p i h w
failed_read p c (Take stamp link m) h w k =
    let o : Out Msg = out.Act (what.ReadFailed w) in
    let Q : Out Msg → Type 0 = OfFailed (IsNoPart m) in
    let all = taking_by (Puts p c stamp Q) (puts_closed p c stamp Q) p c stamp link m h
    (each p c stamp (IsNoPart m) (OnMessage link m) h (no_part link m)) in
    let is : m ≡ msg.ReadDone w None = no_part_is m w (all_in Q o (taking p c stamp link m h).outs all k) in
    let both = answered p c stamp link w h (subst (λ (n : Msg). In o (taking p c stamp link n h).outs) is k) in
    record { stamp = stamp; link = link; is = ap (λ (n : Msg). Take stamp link n) is; formed = both.0; wanted = both.1 }
failed_read p c (Tick stamp) h w k =
    let Q : Out Msg → Type 0 = OfFailed (λ v. ⊥) in
    absurd (all_in Q (out.Act (what.ReadFailed w)) (ticking p c stamp h).outs
    (ticking_by (Puts p c stamp Q) (puts_closed p c stamp Q) p c stamp h
    (λ g from t. each p c stamp (λ v. ⊥) g from (none_in_tick g t))) k)

-- ---- records and wants

-- a line that is found is there, and has the key
found_line : (k : Key) (lines : List Line) (x : Line) → line_at k lines ≡ Some x → In x lines × (k ≡ key_of x)
unfolding line_at
found_line k [] x e = absurd (cc)
found_line k (z ∷ zs) x e = ⊎_elim
    (λ (t : is_at k z ≡ true). let first : line_at k (z ∷ zs) ≡ Some z = rw t refl in let q : Some z ≡ Some x = sym
    first ∙ e in let same : z ≡ x = cc in
    (inl (sym same), same_is k (key_of z) t ∙ ap key_of same))
    (λ (f : is_at k z ≡ false). let later : line_at k (z ∷ zs) ≡ line_at k zs = rw f refl in let r = found_line k zs
    x (sym later ∙ e) in (inr r.0, r.1))
    (cases_Bool (is_at k z))

-- of lines that are apart each is found
line_found : (lines : List Line) (x : Line) → AreApart OtherKey lines → In x lines → line_at (key_of x) lines ≡ Some x
unfolding line_at
line_found [] x apart i = absurd i
line_found (z ∷ zs) x apart i = ⊎_elim
    (λ (q : x ≡ z). let t : is_at (key_of x) z ≡ true = subst (λ (j : Key). is_at j z ≡ true) (ap key_of (sym q))
    (same_itself (key_of z)) in
    let first : line_at (key_of x) (z ∷ zs) ≡ Some z = rw t refl in first ∙ ap Some (sym q))
    (λ j. ⊎_elim
    (λ (t : is_at (key_of x) z ≡ true). absurd (apart.0 x j (sym (same_is (key_of x) (key_of z) t))))
    (λ (f : is_at (key_of x) z ≡ false). let later : line_at (key_of x) (z ∷ zs) ≡ line_at (key_of x) zs = rw f
    refl in later ∙ line_found zs x apart.1 j)
    (cases_Bool (is_at (key_of x) z)))
    i

-- what is wanted is of a record
pub record IsOfRecord (h : Store) (w : Want) : Type 0 where
  pub tenancy : Tenancy
  pub there : HasRecord h tenancy w.visit w.piece
  pub same : w ≡ want tenancy w.visit w.piece

of_block : (h : Store) (w : Want) (o : Option Line) → line_at (w.slot, w.visit) h.view.lines ≡ o
    → is_block_of w o ≡ true → IsOfRecord h w
of_block h w None e t = absurd (cc)
of_block h w (Some x) e t =
    let found = found_line (w.slot, w.visit) h.view.lines x e in
    let kinds = both_of (is_own x.rec.kind) (same_want w (want_of x.rec)) t in
    let is : w ≡ want_of x.rec = one_want w (want_of x.rec) kinds.1 in
    let own = own_rec x.rec kinds.0 in
    subst (λ (z : Want). IsOfRecord h z) (sym is)
    (record { tenancy = x.rec.tenancy; there = inl (refl, x, (found.0, own)); same = refl })
  where
    both_of : (a b : Bool) → (a && b) ≡ true → (a ≡ true) × (b ≡ true)
    both_of true true q = (refl, refl)
    both_of true false q = absurd (cc)
    both_of false b q = absurd (cc)

of_piece : (h : Store) (w : Want) (items : List PieceState) → list_any (λ x. same_want w (want_of_piece x)) items ≡
    true → (x : PieceState) × In x items × (w ≡ want_of_piece x)
of_piece h w [] t = absurd (cc)
of_piece h w (z ∷ zs) t = ⊎_elim
    (λ (q : same_want w (want_of_piece z) ≡ true). (z, inl refl, one_want w (want_of_piece z) q))
    (λ (f : same_want w (want_of_piece z) ≡ false).
    let rest : list_any (λ x. same_want w (want_of_piece x)) zs ≡ true =
    (let q : list_any (λ x. same_want w (want_of_piece x)) (z ∷ zs) ≡ list_any
    (λ x. same_want w (want_of_piece x)) zs = rw f refl in sym q ∙ t) in
    let r = of_piece h w zs rest in (r.0, inr r.1, r.2))
    (cases_Bool (same_want w (want_of_piece z)))

pub of_record : (h : Store) (w : Want) → ((x : PieceState) → In x h.pieces.items → 1 ≤ x.piece)
    → is_wanted w h ≡ true → IsOfRecord h w
unfolding is_wanted
of_record h w low t = ⊎_elim
    (λ (b : is_block_of w (line_at (w.slot, w.visit) h.view.lines) ≡ true). of_block h w
    (line_at (w.slot, w.visit) h.view.lines) refl b)
    (λ (rest : list_any (λ x. same_want w (want_of_piece x)) h.pieces.items ≡ true).
    let r = of_piece h w h.pieces.items rest in
    subst (λ (z : Want). IsOfRecord h z) (sym r.2) (record {
      tenancy = r.0.tenancy;
      there = inr (low r.0 r.1, r.1);
      same = refl;
    }))
    (or_either (is_block_of w (line_at (w.slot, w.visit) h.view.lines))
    (list_any (λ x. same_want w (want_of_piece x)) h.pieces.items) t)

-- and for each record its want is
block_wanted : (h : Store) → IsOnce h → (t : Tenancy) (n j : ℕ) → j ≡ 0 → (x : Line) → HasOwn h t n x
    → is_wanted (want t n j) h ≡ true
unfolding is_wanted
block_wanted h once t n j none x own =
    let key : key_of x ≡ (t.slot, n) = ap (λ (q : Rec). (q.tenancy.slot, q.visit)) own.1 in
    let found : line_at (t.slot, n) h.view.lines ≡ Some x = subst (λ (k : Key). line_at k h.view.lines ≡ Some x) key
    (line_found h.view.lines x once.lines_apart own.0) in
    let is : want_of x.rec ≡ want t n 0 = ap want_of own.1 in
    let kind : is_own x.rec.kind ≡ true = ap (λ (q : Rec). is_own q.kind) own.1 in
    let same : same_want (want t n 0) (want_of x.rec) ≡ true = subst (λ (z : Want). same_want (want t n 0) z ≡ true)
    (sym is) (same_self (want t n 0)) in
    let this : is_block_of (want t n 0) (Some x) ≡ true = rw (kind, same) refl in
    let there : is_wanted (want t n 0) h ≡ true = or_left _ _ (ap (is_block_of (want t n 0)) found ∙ this) in
    subst (λ (i : ℕ). is_wanted (want t n i) h ≡ true) (sym none) there

pub record_wanted : (h : Store) → IsOnce h → (t : Tenancy) (n j : ℕ) → HasRecord h t n j
    → is_wanted (want t n j) h ≡ true
record_wanted h once t n j r = ⊎_elim (λ o. block_wanted h once t n j o.0 o.1 o.2)
    (λ q. wanted_piece (piece t n j) h q.1) r
