-- Which links lead from one share to another, by the table of homes; and the ports that are made of them.
use Rattle.std.proofs.Common.{◌≡◌, ◌≢◌, ℕ, ◌+◌, ◌<◌, List, [], Bool, true, false, Option, Some, None, refl, ap, sym, ◌∙◌, subst, arith, ⊎_elim}
use Rattle.std.specs.Prelude.{nat_lt, not, ◌==◌, ◌&&◌, MatchOption, if◌then◌else◌}
use Rattle.std.proofs.lemmas.Bool.{cases_Bool, false≢true, eqb-true}
use Rattle.std.proofs.lemmas.Bool.Decides.{nat_tests}
use Rattle.std.proofs.lemmas.Option.{none-some}
use Rattle.tiger_base.specs.declared.number.NodeNo.{NodeNo}
use Rattle.node_kit.specs.declared.course.Course.{Course}
use Rattle.node_kit.specs.Links.{links_of, ends_of, viewers_of}
use Rattle.node_kit.proofs.Ring.{from_counted, to_counted}
use Rattle.node_kit.proofs.Ways.{links_sound}
use Rattle.ring_links.specs.Ends.{End, LineId}
use Rattle.ring_cells.specs.Cells.{IsMembership}
use Rattle.ring_cells.specs.Shares.{Entrance, Exit, holds, IsEntering, IsLeaving}
use Rattle.ring_cells.proofs.Making.{HasInsBelow, ins-more, ins-skip, HasOutsBelow, outs-more, outs-skip}
use Rattle.ring_workers.specs.Ends.{AreNamed}
use Rattle.ring_workers.specs.Rows.{HasEntrance, HasExit, HasPushed}
use Rattle.ring_workers.specs.Sharing.{home_by, crosses, enters_by, leaves_by}

-- of two tests
first-not : (a b : Bool) → (not a && b) ≡ true → (a ≡ false) × (b ≡ true)
first-not true b h = absurd (false≢true h)
first-not false b h = (refl, h)

second-not : (a b : Bool) → (a && not b) ≡ true → (a ≡ true) × (b ≡ false)
second-not false b h = absurd (false≢true h)
second-not true true h = absurd (false≢true h)
second-not true false h = (refl, refl)

-- homes that differ make a link that crosses
pub differs-crosses : (homes : List ℕ) (o : Option (ℕ × ℕ)) (from to : ℕ) → o ≡ Some (from, to) → home_by homes from ≢ home_by homes to → crosses homes o ≡ true
differs-crosses homes o from to ends other =
    ap (crosses homes) ends ∙ ⊎_elim
    (λ (e : (home_by homes from == home_by homes to) ≡ true). absurd (other (eqb-true (home_by homes from) (home_by homes to) e)))
    (λ (e : (home_by homes from == home_by homes to) ≡ false). ap not e)
    (cases_Bool (home_by homes from == home_by homes to))

module _ (c : Course) (homes : List ℕ) (share : ℕ) (numbers : List NodeNo) (members : IsMembership (home_by homes) c.plan.params share numbers) where
  low-ends : (l from to : ℕ) → ends_of (links_of c.plan.params) l ≡ Some (from, to)
      → (from < viewers_of (links_of c.plan.params) + 1) × (to < viewers_of (links_of c.plan.params) + 1)
  low-ends l from to ends =
      let sound = links_sound c.plan.params c.plan.sound in
      let a = from_counted (links_of c.plan.params) from to l sound ends in
      let b = to_counted (links_of c.plan.params) from to l sound ends in
      (omega (arith, a), omega (arith, b))

  held-by : (k : ℕ) → k < viewers_of (links_of c.plan.params) + 1 → holds numbers k ≡ (home_by homes k == share)
  held-by k low =
      let counted : nat_lt k (viewers_of (links_of c.plan.params) + 1) ≡ true = grind (arith, nat_tests, low) in
      members.theirs k ∙ ap (λ b. b && (home_by homes k == share)) counted

  enters-ends : (l : ℕ) (o : Option (ℕ × ℕ)) → ends_of (links_of c.plan.params) l ≡ o → enters_by homes share o ≡ true → IsEntering c.plan.params numbers (record { 0 = l })
  enters-ends l None ends h = absurd (false≢true h)
  enters-ends l (Some e) ends h =
      let low = low-ends l e.0 e.1 ends in
      let both = first-not (home_by homes e.0 == share) (home_by homes e.1 == share) h in
      record { from = e.0; to = e.1; ends = ends; outside = held-by e.0 low.0 ∙ both.0; inside = held-by e.1 low.1 ∙ both.1 }

  not-entering : (l from to : ℕ) → enters_by homes share (ends_of (links_of c.plan.params) l) ≡ false → ends_of (links_of c.plan.params) l ≡ Some (from, to)
      → holds numbers from ≡ false → holds numbers to ≡ true → ⊥
  not-entering l from to not_so ends outside inside =
      let low = low-ends l from to ends in
      let a : (home_by homes from == share) ≡ false = sym (held-by from low.0) ∙ outside in
      let b : (home_by homes to == share) ≡ true = sym (held-by to low.1) ∙ inside in
      let is : enters_by homes share (Some (from, to)) ≡ true = rw (a, b) refl in
      false≢true (sym not_so ∙ ap (enters_by homes share) ends ∙ is)

  leaves-ends : (l n : ℕ) (o : Option (ℕ × ℕ)) → ends_of (links_of c.plan.params) l ≡ o → leaves_by homes share o ≡ Some n → IsLeaving c.plan.params numbers (record { 0 = n }) (record { 0 = l })
  leaves-ends l n None ends h = absurd (none-some n h)
  leaves-ends l n (Some e) ends h =
      let low = low-ends l e.0 e.1 ends in
      ⊎_elim
      (λ (t : ((home_by homes e.0 == share) && not (home_by homes e.1 == share)) ≡ true).
      let both = second-not (home_by homes e.0 == share) (home_by homes e.1 == share) t in
      let here : ◌≡◌ {A = Option ℕ} (Some e.0) (Some n) = sym (ap (λ (b : Bool). if b then Some e.0 else None) t) ∙ h in
      let same : e.0 ≡ n = cc in
      record { to = e.1; ends = ends ∙ ap (λ k. Some (k, e.1)) same; outside = held-by e.1 low.1 ∙ both.1 })
      (λ (f : ((home_by homes e.0 == share) && not (home_by homes e.1 == share)) ≡ false).
      absurd (none-some n (sym (ap (λ (b : Bool). if b then Some e.0 else None) f) ∙ h)))
      (cases_Bool ((home_by homes e.0 == share) && not (home_by homes e.1 == share)))

  not-leaving : (l from to : ℕ) → leaves_by homes share (ends_of (links_of c.plan.params) l) ≡ None → ends_of (links_of c.plan.params) l ≡ Some (from, to)
      → holds numbers from ≡ true → holds numbers to ≡ false → ⊥
  not-leaving l from to not_so ends inside outside =
      let low = low-ends l from to ends in
      let a : (home_by homes from == share) ≡ true = sym (held-by from low.0) ∙ inside in
      let b : (home_by homes to == share) ≡ false = sym (held-by to low.1) ∙ outside in
      let is : leaves_by homes share (Some (from, to)) ≡ Some from = rw (a, b) refl in
      none-some from (sym not_so ∙ ap (leaves_by homes share) ends ∙ is)

  module _ {M : Type 0} (line : ℕ → LineId) where
    -- a link more is looked at, and its in-port is made if it enters
    pub ins-step : (l : ℕ) (wanted : Bool) (was ends : List (Option (End M))) (old new : List (Entrance M)) → wanted ≡ enters_by homes share (ends_of (links_of c.plan.params) l)
        → AreNamed line ends → HasEntrance wanted (record { 0 = l }) ends old new → HasInsBelow line c numbers l old → HasInsBelow line c numbers (l + 1) new
    ins-step l wanted was ends old new test named made h = ⊎_elim
        (λ (t : wanted ≡ true).
        let w = made.one t in
        let is = named l w.0 w.1 in
        ins-more line c numbers l old new (record { link = record { 0 = l }; line = w.0.line; flights = w.0.flights; closed = w.0.closed }) w.2 refl
        (enters-ends l (ends_of (links_of c.plan.params) l) refl (sym test ∙ t)) (record { its_line = is.line; flights = is.flights }) h)
        (λ (f : wanted ≡ false).
        subst (HasInsBelow line c numbers (l + 1)) (sym (made.none f)) (ins-skip line c numbers l old (λ from to ends_l outside inside. not-entering l from to (sym test ∙ f) ends_l outside inside) h))
        (cases_Bool wanted)

    -- and its out-port, if it leaves
    pub outs-step : (l : ℕ) (from : Option NodeNo) (ends : List (Option (End M))) (old new : List (List (Exit M)))
        → MatchOption from (leaves_by homes share (ends_of (links_of c.plan.params) l) ≡ None) (λ n. leaves_by homes share (ends_of (links_of c.plan.params) l) ≡ Some n.0)
        → AreNamed line ends → HasExit from (record { 0 = l }) numbers ends old new → HasOutsBelow line c numbers l old → HasOutsBelow line c numbers (l + 1) new
    outs-step l None ends old new test named made h =
        subst (HasOutsBelow line c numbers (l + 1)) (sym made) (outs-skip line c numbers l old (λ from to ends_l inside outside. not-leaving l from to test ends_l inside outside) h)
    outs-step l (Some n) ends old new test named made h =
        let is = named l made.0 made.1 in
        let pushed : HasPushed made.2 (record { link = record { 0 = l }; line = made.0.line; flights = []; closed = 0 }) old new = made.4 in
        outs-more line c numbers l made.2 old new pushed.row (record { link = record { 0 = l }; line = made.0.line; flights = []; closed = 0 }) n made.3 pushed.stood pushed.changed refl
        (leaves-ends l n.0 (ends_of (links_of c.plan.params) l) refl test) (record { its_line = is.line; flights = refl; closed = refl }) h
