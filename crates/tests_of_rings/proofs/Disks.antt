-- Disk 0 of the small plan, which is node 8: a share of it alone before the first beat, with its in-port and its out-port.
use Rattle.std.proofs.Common.{◌≡◌, ◌≢◌, ℕ, zero, suc, ◌+◌, ◌<◌, ◌≤◌, List, [], ◌∷◌, ◌++◌, length, Bool, true, false, Some, refl, ap, sym, ◌∙◌, subst, arith, cond, ⊎_elim}
use Rattle.std.specs.Prelude.{slice_get, nat_lt, ◌==◌, ◌&&◌, if◌then◌else◌}
use Rattle.std.proofs.lemmas.Bool.{cases_Bool, cases_eq, eq-eqb, ne_eqb, eqb-true}
use Rattle.std.proofs.lemmas.Option.{none-some}
use Rattle.tiger_base.specs.declared.number.LinkNo.{LinkNo}
use Rattle.tiger_base.specs.declared.number.NodeNo.{NodeNo}
use Rattle.slot_plan.specs.Samples.{small}
use Rattle.slot_plan.specs.declared.params.Params.{Params}
use Rattle.node_kit.specs.declared.course.Course.{Course}
use Rattle.node_kit.specs.Links.{Links, links_of, ends_of, link_count, leads_to, leads_from, viewers_of, IsOutLink}
use Rattle.node_kit.proofs.Ring.{ends_counted}
use Rattle.node_kit.proofs.Rows.{get-below}
use Rattle.ring_links.specs.Ends.{LineId}
use Rattle.ring_cells.specs.Cells.{IsMembership}
use Rattle.ring_cells.specs.Opens.{AreGiven, IsFreshIn, IsFreshOut, AreFreshIns, AreFreshOuts}
use Rattle.ring_cells.specs.Shares.{Entrance, Exit, holds, links_out, IsEntering, IsLeaving}

-- a row of one
pub pushed : {A : Type 0} (xs before : List A) (x : A) → before ≡ [] → xs ≡ before ++ x ∷ [] → xs ≡ x ∷ []
pushed xs before x none is = is ∙ ap (λ ys. ys ++ x ∷ []) none

only : {A : Type 0} (x y : A) (q : ℕ) → slice_get (x ∷ []) q ≡ Some y → (q ≡ 0) × (x ≡ y)
only x y zero e = (refl, (let same : x ≡ y = cc in same))
only x y (suc q) e = absurd (none-some y e)

-- of the links below a number only link k passes a test
abbrev none_but : (ℕ → Bool) → ℕ → ℕ → Bool
none_but test k zero = true
none_but test k (suc l) = cond (test l) (l == k) true && none_but test k l

passes-one : (test : ℕ → Bool) (k n l : ℕ) → none_but test k n ≡ true → l < n → test l ≡ true → l ≡ k
passes-one test k zero l all low pass = absurd (omega (arith, low))
passes-one test k (suc n) l all low pass =
    let both = and-true (cond (test n) (n == k) true) (none_but test k n) all in
    ⊎_elim
    (λ (same : l ≡ n). same ∙ eqb-true n k (sym (ap (λ b. cond b (n == k) true) (ap test (sym same) ∙ pass)) ∙ both.0))
    (λ (other : l ≢ n). passes-one test k n l both.1 (omega (arith, low, other)) pass)
    (cases_eq l n)
  where
    and-true : (a b : Bool) → (a && b) ≡ true → (a ≡ true) × (b ≡ true)
    and-true true b h = (refl, h)
    and-true false b h = absurd (cc)

-- link 40 leads from cub 0 to the disk, and link 48 back
into-is : none_but (λ l. leads_to 8 (ends_of (links_of small) l)) 40 (link_count (links_of small)) ≡ true
into-is = refl

from-is : none_but (λ l. leads_from 8 (ends_of (links_of small) l)) 48 (link_count (links_of small)) ≡ true
from-is = refl

into-link : (p : Params) (l from : ℕ) → p ≡ small → ends_of (links_of p) l ≡ Some (from, 8) → l ≡ 40
into-link p l from is ends =
    let there : ends_of (links_of small) l ≡ Some (from, 8) = ap (λ q. ends_of (links_of q) l) (sym is) ∙ ends in
    passes-one (λ k. leads_to 8 (ends_of (links_of small) k)) 40 (link_count (links_of small)) l into-is (ends_counted (links_of small) l (from, 8) there) (ap (leads_to 8) there)

from-link : (p : Params) (l to : ℕ) → p ≡ small → ends_of (links_of p) l ≡ Some (8, to) → l ≡ 48
from-link p l to is ends =
    let there : ends_of (links_of small) l ≡ Some (8, to) = ap (λ q. ends_of (links_of q) l) (sym is) ∙ ends in
    passes-one (λ k. leads_from 8 (ends_of (links_of small) k)) 48 (link_count (links_of small)) l from-is (ends_counted (links_of small) l (8, to) there) (ap (leads_from 8) there)

abbrev disk : NodeNo
disk = record { 0 = 8 }

held-is : (k : ℕ) → holds (disk ∷ []) k ≡ true → k ≡ 8
held-is k h = ⊎_elim
    (λ (same : 8 ≡ k). sym same)
    (λ (other : 8 ≢ k). let q : false ≡ true = sym (ap (λ b. cond b true false) (ne_eqb 8 k other)) ∙ h in absurd (cc))
    (cases_eq 8 k)

pub leads_out : (p : Params) → p ≡ small → IsOutLink p 8 48
leads_out p e = (0, ap (λ q. ends_of (links_of q) 48) e)

-- the share has the disk alone
pub disk-members : (home : ℕ → ℕ) (p : Params) (numbers : List NodeNo) → p ≡ small → home ≡ (λ n. if n == 8 then 1 else 0) → numbers ≡ disk ∷ [] → IsMembership home p 1 numbers
disk-members home p numbers small_is home_is all = subst (λ (ns : List NodeNo). IsMembership home p 1 ns) (sym all) (record {
  once = λ q r n e f. (only disk n q e).0 ∙ sym (only disk n r f).0;
  theirs = λ k. ⊎_elim
      (λ (same : k ≡ 8).
      let many : viewers_of (links_of p) + 1 ≡ viewers_of (links_of small) + 1 = ap (λ (x : Params). viewers_of (links_of x) + 1) small_is in
      ap (holds (disk ∷ [])) same
      ∙ sym (ap (λ (x : ℕ). nat_lt x (viewers_of (links_of p) + 1) && (home x == 1)) same
      ∙ ap (λ (x : ℕ). nat_lt 8 x && (home 8 == 1)) many ∙ ap (λ (f : ℕ → ℕ). nat_lt 8 (viewers_of (links_of small) + 1) && (f 8 == 1)) home_is))
      (λ (other : k ≢ 8).
      let not : home k ≡ 0 = ap (λ (f : ℕ → ℕ). f k) home_is ∙ ap (λ b. cond b 1 0) (ne_eqb k 8 other) in
      ap (λ b. cond b true false) (ne_eqb 8 k (λ e. other (sym e))) ∙ sym (ap (λ (x : ℕ). nat_lt k (viewers_of (links_of p) + 1) && (x == 1)) not ∙ never (nat_lt k (viewers_of (links_of p) + 1))))
      (cases_eq k 8);
})
  where
    never : (b : Bool) → (b && false) ≡ false
    never true = refl
    never false = refl

pub disk-given : {S : Type 0} (stands : S → Params → ℕ → Type 0) (p : Params) (opened : List S) (numbers : List NodeNo) (nodes : List S) (s : S) → numbers ≡ disk ∷ [] → nodes ≡ s ∷ []
    → slice_get opened 8 ≡ Some s → stands s p 8 → AreGiven stands p opened numbers nodes
disk-given {S} stands p opened numbers nodes s all its_node opens here =
    let low = get-below opened 8 s opens in
    record {
      some = omega (arith, low);
      size = ap length its_node ∙ sym (ap length all);
      each = λ q n x e f.
          let seat = only disk n q (ap (λ (ns : List NodeNo). slice_get ns q) (sym all) ∙ e) in
          let is = only s x q (ap (λ (xs : List S). slice_get xs q) (sym its_node) ∙ f) in
          let number : 8 ≡ n.0 = ap (λ (m : NodeNo). m.0) seat.1 in
          (ap (slice_get opened) (sym number) ∙ opens ∙ ap Some is.1, subst (λ k. stands x p k) number (subst (λ y. stands y p 8) is.1 here));
    }

pub fresh-in : {M : Type 0} (line_of : ℕ → LineId) (c : Course) (numbers : List NodeNo) (ins : List (Entrance M)) (i : Entrance M) → c.plan.params ≡ small → numbers ≡ disk ∷ [] → ins ≡ i ∷ []
    → i.link ≡ record { 0 = 40 } → i.line ≡ line_of 40 → i.flights ≡ [] → AreFreshIns line_of c numbers ins
fresh-in {M} line_of c numbers ins i params all is link line flights =
    let ends : ends_of (links_of c.plan.params) i.link.0 ≡ Some (0, 8) = ap (λ (k : LinkNo). ends_of (links_of c.plan.params) k.0) link ∙ ap (λ p. ends_of (links_of p) 40) params in
    let entering : IsEntering c.plan.params (disk ∷ []) i.link = record { from = 0; to = 8; ends = ends; outside = refl; inside = refl } in
    subst (λ (ns : List NodeNo). AreFreshIns line_of c ns ins) (sym all) (subst (AreFreshIns line_of c (disk ∷ [])) (sym is) (record {
      lead = λ q j e. subst (λ (x : Entrance M). IsEntering c.plan.params (disk ∷ []) x.link) (only i j q e).1 entering;
      apart = λ q r l e f. (only i.link l q e).0 ∙ sym (only i.link l r f).0;
      all = λ l from to out inside there.
          let to_is = held-is to inside in
          let at : l ≡ 40 = into-link c.plan.params l from params (there ∙ ap (λ k. Some (from, k)) to_is) in
          record { place = 0; port = i; there = refl; number = link ∙ ap (λ (x : ℕ). record { 0 = x }) (sym at) };
      fresh = λ q j e. subst (IsFreshIn line_of) (only i j q e).1 (record { its_line = line ∙ ap (λ (k : LinkNo). line_of k.0) (sym link); flights = flights });
    }))

pub fresh-out : {M : Type 0} (line_of : ℕ → LineId) (c : Course) (numbers : List NodeNo) (outs : List (List (Exit M))) (o : Exit M) → c.plan.params ≡ small → numbers ≡ disk ∷ [] → outs ≡ (o ∷ []) ∷ []
    → o.link ≡ record { 0 = 48 } → o.line ≡ line_of 48 → o.flights ≡ [] → o.closed ≡ 0 → AreFreshOuts line_of c numbers outs
fresh-out {M} line_of c numbers outs o params all is link line flights closed =
    let row : List (Exit M) = o ∷ [] in
    let ends : ends_of (links_of c.plan.params) o.link.0 ≡ Some (8, 0) = ap (λ (k : LinkNo). ends_of (links_of c.plan.params) k.0) link ∙ ap (λ p. ends_of (links_of p) 48) params in
    let leaving : IsLeaving c.plan.params (disk ∷ []) disk o.link = record { to = 0; ends = ends; outside = refl } in
    let port : (q r : ℕ) (x : List (Exit M)) (y : Exit M) → slice_get (row ∷ []) q ≡ Some x → slice_get x r ≡ Some y → (q ≡ 0) × (o ≡ y) = λ q r x y e f.
    (let at = only row x q e in (at.0, (only o y r (ap (λ (xs : List (Exit M)). slice_get xs r) at.1 ∙ f)).1)) in
    subst (λ (ns : List NodeNo). AreFreshOuts line_of c ns outs) (sym all) (subst (AreFreshOuts line_of c (disk ∷ [])) (sym is) (record {
      senders = omega arith;
      lead = λ q r x y e f. (let w = port q r x y e f in (disk, ap (slice_get (disk ∷ [])) w.0, subst (λ (z : Exit M). IsLeaving c.plan.params (disk ∷ []) disk z.link) w.1 leaving));
      apart = λ q x e p r l f g. (let same = (only row x q e).1 in
          (only o.link l p (ap (λ (xs : List (Exit M)). slice_get (links_out xs) p) same ∙ f)).0 ∙ sym (only o.link l r (ap (λ (xs : List (Exit M)). slice_get (links_out xs) r) same ∙ g)).0);
      all = λ l from to inside out there.
          let from_is = held-is from inside in
          let at : l ≡ 48 = from-link c.plan.params l to params (there ∙ ap (λ k. Some (k, to)) from_is) in
          record { member = 0; is_from = ap (λ (x : ℕ). Some (record { 0 = x })) (sym from_is); row = row; its_row = refl; place = 0; port = o; there = refl; number = link ∙ ap (λ (x : ℕ). record { 0 = x }) (sym at) };
      fresh = λ q r x y e f. subst (IsFreshOut line_of) (port q r x y e f).1 (record { its_line = line ∙ ap (λ (k : LinkNo). line_of k.0) (sym link); flights = flights; closed = closed });
    }))
