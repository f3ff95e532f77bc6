-- The ports that a share begins with, made link for link.
use Rattle.std.proofs.Common.{◌≡◌, ◌≢◌, ℕ, zero, suc, ◌+◌, ◌<◌, ◌≤◌, List, [], ◌∷◌, ◌++◌, map, length, true, false, Some, None, refl, ap, sym, ◌∙◌, subst, arith, ⊎_elim, inl, inr}
use Rattle.std.specs.Prelude.{slice_get, slice_set, take, ◌⊎◌}
use Rattle.std.proofs.lemmas.Bool.{cases_eq, cases_lt}
use Rattle.std.proofs.lemmas.Option.{none-some}
use Rattle.std.proofs.lemmas.List.{map-append, length-map}
use Rattle.tiger_base.specs.declared.number.LinkNo.{LinkNo}
use Rattle.tiger_base.specs.declared.number.NodeNo.{NodeNo}
use Rattle.node_kit.specs.declared.course.Course.{Course}
use Rattle.node_kit.specs.Links.{links_of, ends_of, link_count}
use Rattle.node_kit.proofs.Ring.{ends_counted}
use Rattle.node_kit.proofs.Rows.{get-below, get-front, get-pushed}
use Rattle.run_facts.proofs.Rows.{same-element}
use Rattle.ring_engine.proofs.Running.{get-set_same, get-set_other, length-set_at}
use Rattle.ring_links.specs.Ends.{LineId}
use Rattle.ring_cells.specs.Opens.{AreFreshIns, AreFreshOuts, IsFreshIn, IsFreshOut, HasInPort, HasOutPort}
use Rattle.ring_cells.specs.Shares.{Entrance, Exit, holds, IsEntering, IsLeaving, AreApart, links_in, links_out}
use Rattle.ring_cells.proofs.Pouring.{get-map, get-unmap}
use Rattle.ring_cells.proofs.Turning.{same-ends}

-- the last of a row with one more
get-last : {A : Type 0} (xs : List A) (x : A) → slice_get (xs ++ x ∷ []) (length xs) ≡ Some x
get-last [] x = refl
get-last (y ∷ ys) x = get-last ys x

-- a row of links that are all below a number, with that number besides, are of one link each still
apart-more : {A : Type 0} (f : A → LinkNo) (n : ℕ) (xs : List A) (x : A) → (f x).0 ≡ n → ((q : ℕ) (y : A) → slice_get xs q ≡ Some y → (f y).0 < n)
    → AreApart (map f xs) → AreApart (map f (xs ++ x ∷ []))
apart-more {A} f n xs x is low apart p q l hp hq =
    let a = get-unmap f (xs ++ x ∷ []) p l hp in
    let b = get-unmap f (xs ++ x ∷ []) q l hq in
    let same : (f a.0).0 ≡ (f b.0).0 = ap (λ (k : LinkNo). k.0) (a.2 ∙ sym b.2) in
    ⊎_elim
    (λ (pa : slice_get xs p ≡ Some a.0). ⊎_elim
    (λ (qb : slice_get xs q ≡ Some b.0). apart p q l (get-map f xs p a.0 pa ∙ ap Some a.2) (get-map f xs q b.0 qb ∙ ap Some b.2))
    (λ (qb : (q ≡ length xs) × (x ≡ b.0)).
    let less = low p a.0 pa in
    let at = ap (λ z. (f z).0) qb.1 in absurd (omega (arith, less, at, is, same)))
    (get-pushed xs x b.0 q b.1))
    (λ (pa : (p ≡ length xs) × (x ≡ a.0)). ⊎_elim
    (λ (qb : slice_get xs q ≡ Some b.0).
    let less = low q b.0 qb in
    let at = ap (λ z. (f z).0) pa.1 in absurd (omega (arith, less, at, is, same)))
    (λ (qb : (q ≡ length xs) × (x ≡ b.0)). let e = pa.0 in let g = qb.0 in omega (arith, e, g))
    (get-pushed xs x b.0 q b.1))
    (get-pushed xs x a.0 p a.1)

-- the front of a row
front-short : {A : Type 0} (xs : List A) (k : ℕ) → length (take k xs) ≤ length xs
front-short xs zero = omega arith
front-short [] (suc k) = omega arith
front-short (x ∷ xs) (suc k) = let low = front-short xs k in omega (arith, low)

from-front : {A : Type 0} (xs : List A) (k q : ℕ) (x : A) → slice_get (take k xs) q ≡ Some x → slice_get xs q ≡ Some x
from-front xs zero q x e = absurd (none-some x e)
from-front [] (suc k) q x e = absurd (none-some x e)
from-front (y ∷ ys) (suc k) zero x e = e
from-front (y ∷ ys) (suc k) (suc q) x e = from-front ys k q x e

to-front : {A : Type 0} (xs : List A) (k q : ℕ) (x : A) → q < k → slice_get xs q ≡ Some x → slice_get (take k xs) q ≡ Some x
to-front xs zero q x low e = absurd (omega (arith, low))
to-front [] (suc k) q x low e = absurd (none-some x e)
to-front (y ∷ ys) (suc k) zero x low e = e
to-front (y ∷ ys) (suc k) (suc q) x low e = to-front ys k q x (omega (arith, low)) e

module _ {M : Type 0} (line_of : ℕ → LineId) (c : Course) (numbers : List NodeNo) where
  -- the ports of the links below n that enter
  pub record HasInsBelow (n : ℕ) (ins : List (Entrance M)) : Type 0 where
    pub low : (q : ℕ) (i : Entrance M) → slice_get ins q ≡ Some i → i.link.0 < n
    pub lead : (q : ℕ) (i : Entrance M) → slice_get ins q ≡ Some i → IsEntering c.plan.params numbers i.link
    pub apart : AreApart (links_in ins)
    pub all : (l from to : ℕ) → l < n → holds numbers from ≡ false → holds numbers to ≡ true
        → ends_of (links_of c.plan.params) l ≡ Some (from, to) → HasInPort ins l
    pub fresh : (q : ℕ) (i : Entrance M) → slice_get ins q ≡ Some i → IsFreshIn line_of i

  pub ins-open : (ins : List (Entrance M)) → ins ≡ [] → HasInsBelow 0 ins
  ins-open ins none = subst (HasInsBelow 0) (sym none) (record {
    low = λ q i e. absurd (none-some i e);
    lead = λ q i e. absurd (none-some i e);
    apart = λ p q l e f. absurd (none-some l e);
    all = λ l from to low out inside ends. absurd (omega (arith, low));
    fresh = λ q i e. absurd (none-some i e);
  })

  -- link n enters, and has a port
  pub ins-more : (n : ℕ) (ins ins' : List (Entrance M)) (p : Entrance M) → ins' ≡ ins ++ p ∷ [] → p.link.0 ≡ n → IsEntering c.plan.params numbers p.link → IsFreshIn line_of p
      → HasInsBelow n ins → HasInsBelow (n + 1) ins'
  ins-more n ins ins' p pushed number enters new h = subst (HasInsBelow (n + 1)) (sym pushed) (record {
    low = λ q i e. ⊎_elim
        (λ (old : slice_get ins q ≡ Some i). let less = h.low q i old in omega (arith, less))
        (λ (last : (q ≡ length ins) × (p ≡ i)). let at = ap (λ (x : Entrance M). x.link.0) last.1 in omega (arith, at, number))
        (get-pushed ins p i q e);
    lead = λ q i e. ⊎_elim
        (λ (old : slice_get ins q ≡ Some i). h.lead q i old)
        (λ (last : (q ≡ length ins) × (p ≡ i)). subst (λ (x : Entrance M). IsEntering c.plan.params numbers x.link) last.1 enters)
        (get-pushed ins p i q e);
    apart = apart-more (λ (x : Entrance M). x.link) n ins p number h.low h.apart;
    all = λ l from to low out inside ends. ⊎_elim
        (λ (same : l ≡ n). record { place = length ins; port = p; there = get-last ins p; number = ap (λ (x : ℕ). record { 0 = x }) (number ∙ sym same) })
        (λ (other : l ≢ n). let w = h.all l from to (omega (arith, low, other)) out inside ends in
        record { place = w.place; port = w.port; there = get-front ins (p ∷ []) w.place w.port w.there; number = w.number })
        (cases_eq l n);
    fresh = λ q i e. ⊎_elim
        (λ (old : slice_get ins q ≡ Some i). h.fresh q i old)
        (λ (last : (q ≡ length ins) × (p ≡ i)). subst (IsFreshIn line_of) last.1 new)
        (get-pushed ins p i q e);
  })

  -- link n does not enter
  pub ins-skip : (n : ℕ) (ins : List (Entrance M)) → ((from to : ℕ) → ends_of (links_of c.plan.params) n ≡ Some (from, to) → holds numbers from ≡ false → holds numbers to ≡ true → ⊥)
      → HasInsBelow n ins → HasInsBelow (n + 1) ins
  ins-skip n ins not h = record {
    low = λ q i e. (let less = h.low q i e in omega (arith, less));
    lead = h.lead;
    apart = h.apart;
    all = λ l from to low out inside ends. ⊎_elim
        (λ (same : l ≡ n). absurd (not from to (ap (ends_of (links_of c.plan.params)) (sym same) ∙ ends) out inside))
        (λ (other : l ≢ n). h.all l from to (omega (arith, low, other)) out inside ends)
        (cases_eq l n);
    fresh = h.fresh;
  }

  pub ins-all : (n : ℕ) (ins : List (Entrance M)) → link_count (links_of c.plan.params) ≤ n → HasInsBelow n ins → AreFreshIns line_of c numbers ins
  ins-all n ins long h = record {
    lead = h.lead;
    apart = h.apart;
    all = λ l from to out inside ends. (let low = ends_counted (links_of c.plan.params) l (from, to) ends in h.all l from to (omega (arith, low, long)) out inside ends);
    fresh = h.fresh;
  }

  -- the ports of the links below n that leave, in rows by place
  pub record HasOutsBelow (n : ℕ) (outs : List (List (Exit M))) : Type 0 where
    pub size : length outs ≡ length numbers
    pub low : (q r : ℕ) (row : List (Exit M)) (o : Exit M) → slice_get outs q ≡ Some row → slice_get row r ≡ Some o → o.link.0 < n
    pub lead : (q r : ℕ) (row : List (Exit M)) (o : Exit M) → slice_get outs q ≡ Some row → slice_get row r ≡ Some o
        → (m : NodeNo) × (slice_get numbers q ≡ Some m) × IsLeaving c.plan.params numbers m o.link
    pub apart : (q : ℕ) (row : List (Exit M)) → slice_get outs q ≡ Some row → AreApart (links_out row)
    pub all : (l from to : ℕ) → l < n → holds numbers from ≡ true → holds numbers to ≡ false
        → ends_of (links_of c.plan.params) l ≡ Some (from, to) → HasOutPort numbers outs l from
    pub fresh : (q r : ℕ) (row : List (Exit M)) (o : Exit M) → slice_get outs q ≡ Some row → slice_get row r ≡ Some o → IsFreshOut line_of o

  pub outs-open : (outs : List (List (Exit M))) → length outs ≡ length numbers → ((q : ℕ) (row : List (Exit M)) → slice_get outs q ≡ Some row → row ≡ []) → HasOutsBelow 0 outs
  outs-open outs size none =
      let nothing : (q r : ℕ) (row : List (Exit M)) (o : Exit M) → slice_get outs q ≡ Some row → slice_get row r ≡ Some o → ⊥ = λ q r row o e f.
      none-some o (ap (λ (xs : List (Exit M)). slice_get xs r) (sym (none q row e)) ∙ f) in
      record {
        size = size;
        low = λ q r row o e f. absurd (nothing q r row o e f);
        lead = λ q r row o e f. absurd (nothing q r row o e f);
        apart = λ q row e. subst (λ (xs : List (Exit M)). AreApart (links_out xs)) (sym (none q row e)) (λ p r l g k. absurd (none-some l g));
        all = λ l from to low out inside ends. absurd (omega (arith, low));
        fresh = λ q r row o e f. absurd (nothing q r row o e f);
      }

  -- link n leaves from the member at place q, and has a port
  pub outs-more : (n q : ℕ) (outs outs' : List (List (Exit M))) (row : List (Exit M)) (p : Exit M) (m : NodeNo) → slice_get numbers q ≡ Some m → slice_get outs q ≡ Some row
      → outs' ≡ slice_set outs q (row ++ p ∷ []) → p.link.0 ≡ n → IsLeaving c.plan.params numbers m p.link → IsFreshOut line_of p → HasOutsBelow n outs → HasOutsBelow (n + 1) outs'
  outs-more n q outs outs' row p m seat its_row pushed number leaves new h =
      let new_row = row ++ p ∷ [] in
      let here : slice_get (slice_set outs q new_row) q ≡ Some new_row = get-set_same outs q new_row row its_row in
      let found : (k r : ℕ) (x : List (Exit M)) (o : Exit M) → slice_get (slice_set outs q new_row) k ≡ Some x → slice_get x r ≡ Some o
      → ((y : List (Exit M)) × (slice_get outs k ≡ Some y) × (slice_get y r ≡ Some o)) ⊎ ((k ≡ q) × (p ≡ o)) = λ k r x o e f. ⊎_elim
      (λ (same : k ≡ q).
      let is : new_row ≡ x = same-element (slice_set outs q new_row) q new_row x here (ap (slice_get (slice_set outs q new_row)) (sym same) ∙ e) in
      ⊎_elim
      (λ (old : slice_get row r ≡ Some o). inl (row, ap (slice_get outs) same ∙ its_row, old))
      (λ (last : (r ≡ length row) × (p ≡ o)). inr (same, last.1))
      (get-pushed row p o r (ap (λ (ys : List (Exit M)). slice_get ys r) is ∙ f)))
      (λ (other : k ≢ q). inl (x, sym (get-set_other outs q k new_row other) ∙ e, f))
      (cases_eq k q) in
      subst (HasOutsBelow (n + 1)) (sym pushed) (record {
        size = length-set_at outs q new_row ∙ h.size;
        low = λ k r x o e f. ⊎_elim
            (λ (old : (y : List (Exit M)) × (slice_get outs k ≡ Some y) × (slice_get y r ≡ Some o)). let less = h.low k r old.0 o old.1 old.2 in omega (arith, less))
            (λ (last : (k ≡ q) × (p ≡ o)). let at = ap (λ (z : Exit M). z.link.0) last.1 in omega (arith, at, number))
            (found k r x o e f);
        lead = λ k r x o e f. ⊎_elim
            (λ (old : (y : List (Exit M)) × (slice_get outs k ≡ Some y) × (slice_get y r ≡ Some o)). h.lead k r old.0 o old.1 old.2)
            (λ (last : (k ≡ q) × (p ≡ o)). (m, ap (slice_get numbers) last.0 ∙ seat, subst (λ (z : Exit M). IsLeaving c.plan.params numbers m z.link) last.1 leaves))
            (found k r x o e f);
        apart = λ k x e. ⊎_elim
            (λ (same : k ≡ q).
            let is : new_row ≡ x = same-element (slice_set outs q new_row) q new_row x here (ap (slice_get (slice_set outs q new_row)) (sym same) ∙ e) in
            subst (λ (ys : List (Exit M)). AreApart (links_out ys)) is (apart-more (λ (z : Exit M). z.link) n row p number (λ r o f. h.low q r row o its_row f) (h.apart q row its_row)))
            (λ (other : k ≢ q). h.apart k x (sym (get-set_other outs q k new_row other) ∙ e))
            (cases_eq k q);
        all = λ l from to low inside out ends. ⊎_elim
            (λ (same : l ≡ n).
            let both = (same-ends (ends_of (links_of c.plan.params) l) m.0 leaves.to from to (ap (ends_of (links_of c.plan.params)) (same ∙ sym number) ∙ leaves.ends) ends).0 in
            record { member = q; is_from = seat ∙ ap (λ (x : ℕ). Some (record { 0 = x })) both; row = new_row; its_row = here; place = length row; port = p; there = get-last row p; number = ap (λ (x : ℕ). record { 0 = x }) (number ∙ sym same) })
            (λ (other : l ≢ n).
            let w = h.all l from to (omega (arith, low, other)) inside out ends in
            ⊎_elim
            (λ (same : w.member ≡ q).
            let is : w.row ≡ row = same-element outs q w.row row (ap (slice_get outs) (sym same) ∙ w.its_row) its_row in
            record {
              member = q;
              is_from = ap (slice_get numbers) (sym same) ∙ w.is_from;
              row = new_row;
              its_row = here;
              place = w.place;
              port = w.port;
              there = get-front row (p ∷ []) w.place w.port (ap (λ (ys : List (Exit M)). slice_get ys w.place) (sym is) ∙ w.there);
              number = w.number;
            })
            (λ (ne : w.member ≢ q).
            record { member = w.member; is_from = w.is_from; row = w.row; its_row = get-set_other outs q w.member new_row ne ∙ w.its_row; place = w.place; port = w.port; there = w.there; number = w.number })
            (cases_eq w.member q))
            (cases_eq l n);
        fresh = λ k r x o e f. ⊎_elim
            (λ (old : (y : List (Exit M)) × (slice_get outs k ≡ Some y) × (slice_get y r ≡ Some o)). h.fresh k r old.0 o old.1 old.2)
            (λ (last : (k ≡ q) × (p ≡ o)). subst (IsFreshOut line_of) last.1 new)
            (found k r x o e f);
      })

  -- link n does not leave
  pub outs-skip : (n : ℕ) (outs : List (List (Exit M))) → ((from to : ℕ) → ends_of (links_of c.plan.params) n ≡ Some (from, to) → holds numbers from ≡ true → holds numbers to ≡ false → ⊥)
      → HasOutsBelow n outs → HasOutsBelow (n + 1) outs
  outs-skip n outs not h = record {
    size = h.size;
    low = λ q r row o e f. (let less = h.low q r row o e f in omega (arith, less));
    lead = h.lead;
    apart = h.apart;
    all = λ l from to low inside out ends. ⊎_elim
        (λ (same : l ≡ n). absurd (not from to (ap (ends_of (links_of c.plan.params)) (sym same) ∙ ends) inside out))
        (λ (other : l ≢ n). h.all l from to (omega (arith, low, other)) inside out ends)
        (cases_eq l n);
    fresh = h.fresh;
  }

  -- all of them, of which the empty rows at the end may be left off
  pub outs-all : (n k : ℕ) (outs outs' : List (List (Exit M))) → link_count (links_of c.plan.params) ≤ n → outs' ≡ take k outs
      → ((q : ℕ) (row : List (Exit M)) → k ≤ q → slice_get outs q ≡ Some row → row ≡ []) → HasOutsBelow n outs → AreFreshOuts line_of c numbers outs'
  outs-all n k outs outs' long taken none h =
      let was : (q : ℕ) (row : List (Exit M)) → slice_get outs' q ≡ Some row → slice_get outs q ≡ Some row = λ q row e. from-front outs k q row (ap (λ (xs : List (List (Exit M))). slice_get xs q) (sym taken) ∙ e) in
      let short : length outs' ≤ length outs = (let e = ap length taken in let low = front-short outs k in omega (arith, e, low)) in
      let size = h.size in
      record {
        senders = omega (arith, short, size);
        lead = λ q r row o e f. h.lead q r row o (was q row e) f;
        apart = λ q row e. h.apart q row (was q row e);
        all = λ l from to inside out ends.
            let low = ends_counted (links_of c.plan.params) l (from, to) ends in
            let w = h.all l from to (omega (arith, low, long)) inside out ends in
            record {
              member = w.member;
              is_from = w.is_from;
              row = w.row;
              its_row = ap (λ (xs : List (List (Exit M))). slice_get xs w.member) taken ∙ to-front outs k w.member w.row (⊎_elim
                  (λ (less : w.member < k). less)
                  (λ (high : k ≤ w.member). absurd (none-some w.port (ap (λ (xs : List (Exit M)). slice_get xs w.place) (sym (none w.member w.row high w.its_row)) ∙ w.there)))
                  (cases_lt w.member k)) w.its_row;
              place = w.place;
              port = w.port;
              there = w.there;
              number = w.number;
            };
        fresh = λ q r row o e f. h.fresh q r row o (was q row e) f;
      }
