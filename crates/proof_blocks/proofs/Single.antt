-- Two lines of one slot and visit are one line; so a view finds each of its own records by slot and visit.
use Rattle.std.proofs.Common.{◌≡◌, ℕ, zero, suc, List, [], ◌∷◌, map, filter, Bool, true, false, not, is_some, Some, refl, sym, ap, subst, ◌∙◌, ⊎_elim, inl, inr}
use Rattle.std.proofs.lemmas.Bool.{cases_Bool}
use Rattle.tiger_base.specs.declared.number.Instance.{Instance}
use Rattle.tiger_base.specs.declared.number.Stamp.{Stamp}
use Rattle.tiger_base.specs.declared.tenancy.Rec.{Rec}
use Rattle.tiger_base.specs.declared.message.Msg.{Msg}
use Rattle.slot_plan.specs.declared.params.Params.{Params}
use Rattle.slot_plan.specs.Keys.{Key}
use Rattle.node_kit.specs.Steps.{Deed, Input}
use Rattle.node_kit.specs.Steps.Input.{Take, Tick}
use Rattle.partial_view.specs.declared.line.Line.{Line}
use Rattle.partial_view.specs.Lines.{is_at, is_of, key_of, unmarked, visit_of}
use Rattle.partial_view.specs.Views.{line_at, with_line, with_record, without_instance}
use Rattle.partial_view.proofs.Order.{same_is, same_itself}
use Rattle.cub_rules.specs.declared.store.Store.{Store}
use Rattle.cub_rules.specs.Ticks.{split_line, forward_line, ask_line, is_served, is_past}
use Rattle.cub_changes.specs.Changes.{Change, did}
use Rattle.cub_changes.specs.Changes.Change.{DropLines, TakeRecord, SplitVisits, Forward, AskBlocks, ServeBlocks, DropBackups}
use Rattle.proof_lives.proofs.HoldLaws.{no_both}
use Rattle.cub_changes.proofs.Closed.{IsClosed}
use Rattle.cub_changes.proofs.Messages.{taking_by}
use Rattle.cub_changes.proofs.Ticks.{ticking_by}
use Rattle.proof_lives.specs.Lives.{deed_of, store_at}
use Rattle.lists.specs.Elements.{In}
use Rattle.lists.proofs.Elements.{chosen, from_map, from_filter}
use Rattle.proof_lives.proofs.Moves.{from_with_line}
use Rattle.proof_lives.proofs.Steps.{forward_same, split_same, ask_same}

-- Lines of one slot and visit are one line.
pub record AreSingle (lines : List Line) : Type 0 where
  pub one : (x y : Line) → In x lines → In y lines → key_of x ≡ key_of y → x ≡ y

single_mapped : (f : Line → Line) → ((x : Line) → (f x).rec ≡ x.rec) → (lines : List Line) → AreSingle lines
    → AreSingle (map f lines)
single_mapped f same lines s = record {
  one = λ x y i j e.
      let a = from_map f x lines i in
      let b = from_map f y lines j in
      let key : (z w : Line) → z ≡ f w → key_of z ≡ key_of w =
      λ z w q. ap (λ (r : Rec). visit_of r) (ap (λ (v : Line). v.rec) q ∙ same w) in
      let k : key_of a.0 ≡ key_of b.0 = sym (key x a.0 a.2) ∙ (e ∙ key y b.0 b.2) in
      a.2 ∙ (ap f (s.one a.0 b.0 a.1 b.1 k) ∙ sym b.2);
}

single_filtered : (keep : Line → Bool) (lines : List Line) → AreSingle lines → AreSingle (filter keep lines)
single_filtered keep lines s = record {
  one = λ x y i j e. s.one x y (from_filter keep x lines i).0 (from_filter keep y lines j).0 e;
}

-- a line that is found
pub record IsFoundLine (k : Key) (lines : List Line) : Type 0 where
  pub line : Line
  pub there : In line lines
  pub key : key_of line ≡ k
  pub found : line_at k lines ≡ Some line

find_line : (k : Key) (x : Line) (lines : List Line) → In x lines → key_of x ≡ k → IsFoundLine k lines
unfolding line_at
find_line k x [] i e = absurd i
find_line k x (z ∷ zs) i e = ⊎_elim
    (λ (t : is_at k z ≡ true). record
    { line = z; there = inl refl; key = sym (same_is k (key_of z) t); found = rw t refl })
    (λ (f : is_at k z ≡ false). ⊎_elim
    (λ (q : x ≡ z).
    let key : k ≡ key_of z = sym e ∙ ap key_of q in
    let t : is_at k z ≡ true = subst (λ (j : Key). is_at j z ≡ true) (sym key) (same_itself (key_of z)) in
    absurd (no_both t f))
    (λ j. let r = find_line k x zs j e in record
    { line = r.line; there = inr r.there; key = r.key; found = rw f r.found })
    i)
    (cases_Bool (is_at k z))

single_record : (p : Params) (r : Rec) (lines : List Line) → AreSingle lines → AreSingle (with_record p r lines)
unfolding with_record
single_record p r lines s =
    chosen (λ (ls : List Line). AreSingle ls) (is_some (line_at (visit_of r) lines)) lines
    (with_line p (unmarked r) lines) (λ _. s)
    (λ f.
    let none : (y : Line) → In y lines → key_of y ≡ visit_of r → ⊥ = λ y i e.
    let w = find_line (visit_of r) y lines i e in
    let t : is_some (line_at (visit_of r) lines) ≡ true = ap is_some w.found in
    absurd (no_both t f) in
    record {
      one = λ x y i j e. ⊎_elim
          (λ a. ⊎_elim
          (λ b. a ∙ sym b)
          (λ b. absurd (none y b (sym e ∙ ap key_of a)))
          (from_with_line p (unmarked r) y lines j))
          (λ a. ⊎_elim
          (λ b. absurd (none x a (e ∙ ap key_of b)))
          (λ b. s.one x y a b e)
          (from_with_line p (unmarked r) y lines j))
          (from_with_line p (unmarked r) x lines i);
    })

single_without : (v : Instance) (lines : List Line) → AreSingle lines → AreSingle (without_instance v lines)
unfolding without_instance
single_without v lines s = single_filtered (λ x. not (is_of v x)) lines s

-- what a deed leaves is so if it was so
record StaySingle (h : Store) (d : Deed Msg Store) : Type 0 where
  stay : AreSingle h.view.lines → AreSingle d.state.view.lines

stay_closed : IsClosed StaySingle
stay_closed = record {
  none = λ h. record { stay = λ s. s };
  both = λ h d e one two. record { stay = λ s. two.stay (one.stay s) };
}

change_single : (p : Params) (c : ℕ) (stamp : Stamp) (x : Change) (h : Store) → StaySingle h (did p c stamp x h)
change_single p c stamp (TakeRecord r) h = record { stay = λ s. single_record h.view.params r h.view.lines s }
change_single p c stamp (DropLines v) h = record { stay = λ s. single_without v h.view.lines s }
change_single p c stamp SplitVisits h =
    record { stay = λ s. single_mapped (split_line p stamp) (λ x. (split_same p stamp x).0) h.view.lines s }
change_single p c stamp Forward h = record
    { stay = λ s. single_mapped (forward_line p stamp) (forward_same p stamp) h.view.lines s }
change_single p c stamp AskBlocks h = record
    { stay = λ s. single_mapped (ask_line p stamp) (λ x. (ask_same p stamp x).0) h.view.lines s }
change_single p c stamp ServeBlocks h = record
    { stay = λ s. single_filtered (λ x. not (is_served p stamp x)) h.view.lines s }
change_single p c stamp DropBackups h = record
    { stay = λ s. single_filtered (λ x. not (is_past p stamp x)) h.view.lines s }
change_single p c stamp other h = record { stay = λ s. s }

deed_single : (p : Params) (c : ℕ) (i : Input Msg) (h : Store) → StaySingle h (deed_of p c i h)
deed_single p c (Take stamp link m) h =
    taking_by StaySingle stay_closed p c stamp link m h (λ x g cause. change_single p c stamp x g)
deed_single p c (Tick stamp) h =
    ticking_by StaySingle stay_closed p c stamp h (λ g from t x q cause. change_single p c stamp x q)

pub always_single : (p : Params) (c : ℕ) (inputs : ℕ → Input Msg) (i : ℕ) → AreSingle (store_at p c inputs i).view.lines
always_single p c inputs zero = record { one = λ x y i j e. absurd i }
always_single p c inputs (suc i) = (deed_single p c (inputs i) (store_at p c inputs i)).stay
    (always_single p c inputs i)

-- so a line is the one that is found
pub line_found : (x : Line) (lines : List Line) → AreSingle lines → In x lines → line_at (key_of x) lines ≡ Some x
line_found x lines s i =
    let f = find_line (key_of x) x lines i refl in
    f.found ∙ ap Some (s.one f.line x f.there i f.key)
