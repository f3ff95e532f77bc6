-- The members of a share are the nodes whose home it is, each once.
use Rattle.std.proofs.Common.{◌≡◌, ◌≢◌, ℕ, zero, suc, ◌+◌, ◌-◌, ◌<◌, ◌≤◌, List, [], ◌∷◌, ◌++◌, length, Bool, true, false, Some, refl, ap, sym, ◌∙◌, subst, arith, cond, ⊎_elim, inl, inr, append-nil, append_assoc}
use Rattle.std.specs.Prelude.{slice_get, nat_lt, ◌==◌, ◌&&◌, ◌⊎◌}
use Rattle.std.proofs.lemmas.Bool.{cases_Bool, cases_lt, eq-eqb, eqb-true}
use Rattle.std.proofs.lemmas.Bool.Decides.{nat_tests}
use Rattle.std.proofs.lemmas.Option.{none-some}
use Rattle.tiger_base.specs.declared.number.NodeNo.{NodeNo}
use Rattle.slot_plan.specs.declared.params.Params.{Params}
use Rattle.node_kit.specs.Links.{Links, links_of, controller_of, viewers_of}
use Rattle.node_kit.proofs.Rows.{get-below}
use Rattle.ring_cells.specs.Cells.{IsMembership}
use Rattle.ring_cells.specs.Shares.{holds}
use Rattle.ring_workers.specs.Sharing.{home_by, members_from, members_in, members_of}
use Rattle.ring_cells.proofs.Rows.{held-at, both-true}

-- tests that pass together are one
same-tests : (a b : Bool) → (a ≡ true → b ≡ true) → (b ≡ true → a ≡ true) → a ≡ b
same-tests true b h g = sym (h refl)
same-tests false true h g = g refl
same-tests false false h g = refl

-- who is in a row of two parts is in one of them
held-either : (xs ys : List NodeNo) (k : ℕ) → holds (xs ++ ys) k ≡ true → (holds xs k ≡ true) ⊎ (holds ys k ≡ true)
held-either [] ys k h = inr h
held-either (x ∷ xs) ys k h = ⊎_elim
    (λ (t : (x.0 == k) ≡ true). inl (ap (λ b. cond b true (holds xs k)) t))
    (λ (f : (x.0 == k) ≡ false).
    ⊎_elim
    (λ (l : holds xs k ≡ true). inl (ap (λ b. cond b true (holds xs k)) f ∙ l))
    (λ (r : holds ys k ≡ true). inr r)
    (held-either xs ys k (sym (ap (λ b. cond b true (holds (xs ++ ys) k)) f) ∙ h)))
    (cases_Bool (x.0 == k))

held-left : (xs ys : List NodeNo) (k : ℕ) → holds xs k ≡ true → holds (xs ++ ys) k ≡ true
held-left [] ys k h = let q : false ≡ true = h in absurd (cc)
held-left (x ∷ xs) ys k h = ⊎_elim
    (λ (t : (x.0 == k) ≡ true). ap (λ b. cond b true (holds (xs ++ ys) k)) t)
    (λ (f : (x.0 == k) ≡ false). ap (λ b. cond b true (holds (xs ++ ys) k)) f ∙ held-left xs ys k (sym (ap (λ b. cond b true (holds xs k)) f) ∙ h))
    (cases_Bool (x.0 == k))

held-right : (xs ys : List NodeNo) (k : ℕ) → holds ys k ≡ true → holds (xs ++ ys) k ≡ true
held-right [] ys k h = h
held-right (x ∷ xs) ys k h = ⊎_elim
    (λ (t : (x.0 == k) ≡ true). ap (λ b. cond b true (holds (xs ++ ys) k)) t)
    (λ (f : (x.0 == k) ≡ false). ap (λ b. cond b true (holds (xs ++ ys) k)) f ∙ held-right xs ys k h)
    (cases_Bool (x.0 == k))

-- a row has each number once
abbrev AreOnce : List NodeNo → Type 0
AreOnce ns = (q r : ℕ) (n : NodeNo) → slice_get ns q ≡ Some n → slice_get ns r ≡ Some n → q ≡ r

get-either : (xs ys : List NodeNo) (q : ℕ) (n : NodeNo) → slice_get (xs ++ ys) q ≡ Some n
    → (slice_get xs q ≡ Some n) ⊎ ((r : ℕ) × (q ≡ length xs + r) × (slice_get ys r ≡ Some n))
get-either [] ys q n e = inr (q, (let s : q ≡ 0 + q = omega arith in s), e)
get-either (x ∷ xs) ys zero n e = inl e
get-either (x ∷ xs) ys (suc q) n e = ⊎_elim
    (λ (old : slice_get xs q ≡ Some n). inl old)
    (λ (new : (r : ℕ) × (q ≡ length xs + r) × (slice_get ys r ≡ Some n)). let at = new.1 in inr (new.0, omega (arith, at), new.2))
    (get-either xs ys q n e)

-- and so have two rows that share no number
once-both : (xs ys : List NodeNo) → AreOnce xs → AreOnce ys → ((k : ℕ) → holds xs k ≡ true → holds ys k ≡ true → ⊥) → AreOnce (xs ++ ys)
once-both xs ys ox oy apart q r n e f = ⊎_elim
    (λ (a : slice_get xs q ≡ Some n). ⊎_elim
    (λ (b : slice_get xs r ≡ Some n). ox q r n a b)
    (λ (b : (s : ℕ) × (r ≡ length xs + s) × (slice_get ys s ≡ Some n)). absurd (apart n.0 (held-at xs q n a) (held-at ys b.0 n b.2)))
    (get-either xs ys r n f))
    (λ (a : (s : ℕ) × (q ≡ length xs + s) × (slice_get ys s ≡ Some n)). ⊎_elim
    (λ (b : slice_get xs r ≡ Some n). absurd (apart n.0 (held-at xs r n b) (held-at ys a.0 n a.2)))
    (λ (b : (s : ℕ) × (r ≡ length xs + s) × (slice_get ys s ≡ Some n)).
    let same = oy a.0 b.0 n a.2 b.2 in
    let qa = a.1 in
    let rb = b.1 in omega (arith, same, qa, rb))
    (get-either xs ys r n f))
    (get-either xs ys q n e)

module _ (homes : List ℕ) (share : ℕ) where
  abbrev one : ℕ → List NodeNo
  one k = cond (home_by homes k == share) ((record { 0 = k }) ∷ []) []

  held-one : (j k : ℕ) → holds (one j) k ≡ true → (j ≡ k) × (home_by homes j ≡ share)
  held-one j k h = ⊎_elim
      (λ (t : (home_by homes j == share) ≡ true). ⊎_elim
      (λ (s : (j == k) ≡ true). (eqb-true j k s, eqb-true (home_by homes j) share t))
      (λ (s : (j == k) ≡ false).
      let e : holds (one j) k ≡ false = ap (λ b. holds (cond b ((record { 0 = j }) ∷ []) []) k) t ∙ ap (λ b. cond b true false) s in
      let q : false ≡ true = sym e ∙ h in absurd (cc))
      (cases_Bool (j == k)))
      (λ (f : (home_by homes j == share) ≡ false).
      let e : holds (one j) k ≡ false = ap (λ b. holds (cond b ((record { 0 = j }) ∷ []) []) k) f in
      let q : false ≡ true = sym e ∙ h in absurd (cc))
      (cases_Bool (home_by homes j == share))

  one-held : (k : ℕ) → home_by homes k ≡ share → holds (one k) k ≡ true
  one-held k same =
      ap (λ b. holds (cond b ((record { 0 = k }) ∷ []) []) k) (eq-eqb (home_by homes k) share same) ∙ ap (λ b. cond b true false) (eq-eqb k k refl)

  one-once : (k : ℕ) → AreOnce (one k)
  one-once k q r n e f = ⊎_elim
      (λ (t : (home_by homes k == share) ≡ true).
      let low = get-below (one k) q n e in
      let low' = get-below (one k) r n f in
      let size : length (one k) ≡ 1 = ap (λ b. length {A = NodeNo} (cond b ((record { 0 = k }) ∷ []) [])) t in
      omega (arith, low, low', size))
      (λ (t : (home_by homes k == share) ≡ false).
      let low = get-below (one k) q n e in
      let size : length (one k) ≡ 0 = ap (λ b. length {A = NodeNo} (cond b ((record { 0 = k }) ∷ []) [])) t in
      absurd (omega (arith, low, size)))
      (cases_Bool (home_by homes k == share))

  -- those of the numbers from one on
  from-held : (first n k : ℕ) → holds (members_from homes share first n) k ≡ true → (first ≤ k) × (k < first + n) × (home_by homes k ≡ share)
  from-held first zero k h = let q : false ≡ true = h in absurd (cc)
  from-held first (suc n) k h = ⊎_elim
      (λ (old : holds (members_from homes share first n) k ≡ true). let w = from-held first n k old in let high = w.1 in (w.0, omega (arith, high), w.2))
      (λ (new : holds (one (first + n)) k ≡ true).
      let w = held-one (first + n) k new in
      let same = w.0 in (omega (arith, same), omega (arith, same), ap (home_by homes) (sym same) ∙ w.1))
      (held-either (members_from homes share first n) (one (first + n)) k h)

  held-from : (first n k : ℕ) → first ≤ k → k < first + n → home_by homes k ≡ share → holds (members_from homes share first n) k ≡ true
  held-from first zero k low high same = absurd (omega (arith, low, high))
  held-from first (suc n) k low high same = ⊎_elim
      (λ (less : k < first + n). held-left (members_from homes share first n) (one (first + n)) k (held-from first n k low less same))
      (λ (more : first + n ≤ k).
      let is : k ≡ first + n = omega (arith, high, more) in
      held-right (members_from homes share first n) (one (first + n)) k
      (subst (λ x. holds (one x) k ≡ true) is (one-held k same)))
      (cases_lt k (first + n))

  once-from : (first n : ℕ) → AreOnce (members_from homes share first n)
  once-from first zero = λ q r m e f. absurd (none-some m e)
  once-from first (suc n) =
      once-both (members_from homes share first n) (one (first + n)) (once-from first n) (one-once (first + n)) (λ k old new.
      let w = from-held first n k old in
      let v = held-one (first + n) k new in
      let high = w.1 in
      let same = v.0 in absurd (omega (arith, high, same)))

  -- and between two numbers
  in-held : (first last k : ℕ) → first ≤ last → holds (members_in homes share first last) k ≡ true → (first ≤ k) × (k < last) × (home_by homes k ≡ share)
  in-held first last k rise h = let w = from-held first (last - first) k h in let high = w.1 in (w.0, omega (arith, high, rise), w.2)

  held-in : (first last k : ℕ) → first ≤ k → k < last → home_by homes k ≡ share → holds (members_in homes share first last) k ≡ true
  held-in first last k low high same = held-from first (last - first) k low (omega (arith, low, high)) same

-- the members of a share
pub members-are : (p : Params) (homes : List ℕ) (share : ℕ) → IsMembership (home_by homes) p share (members_of (links_of p) p.cubs homes share)
members-are p homes share =
    let t = links_of p in
    let cubs = p.cubs in
    let middle = controller_of t in
    let low : cubs ≤ middle = omega arith in
    let a = members_in homes share 0 cubs in
    let b = members_in homes share middle (middle + 1) in
    let c = members_in homes share cubs middle in
    let d = members_in homes share (middle + 1) (middle + 2) in
    let of_a : (k : ℕ) → holds a k ≡ true → (0 ≤ k) × (k < cubs) × (home_by homes k ≡ share) = λ k. in-held homes share 0 cubs k (omega arith) in
    let of_b : (k : ℕ) → holds b k ≡ true → (middle ≤ k) × (k < (middle + 1)) × (home_by homes k ≡ share) = λ k. in-held homes share middle (middle + 1) k (omega arith) in
    let of_c : (k : ℕ) → holds c k ≡ true → (cubs ≤ k) × (k < middle) × (home_by homes k ≡ share) = λ k. in-held homes share cubs middle k low in
    let of_d : (k : ℕ) → holds d k ≡ true → ((middle + 1) ≤ k) × (k < (middle + 2)) × (home_by homes k ≡ share) = λ k. in-held homes share (middle + 1) (middle + 2) k (omega arith) in
    record {
      once = once-both (a ++ b ++ c) d
          (once-both (a ++ b) c
          (once-both a b (once-from homes share 0 (cubs - 0)) (once-from homes share middle (middle + 1 - middle)) (λ k x y. let w = (of_a k x).1 in let v = (of_b k y).0 in absurd (omega (arith, w, v, low))))
          (once-from homes share cubs (middle - cubs))
          (λ k x y. let v = of_c k y in let v0 = v.0 in let v1 = v.1 in ⊎_elim
          (λ (e : holds a k ≡ true). let w = (of_a k e).1 in absurd (omega (arith, w, v0)))
          (λ (e : holds b k ≡ true). let w = (of_b k e).0 in absurd (omega (arith, w, v1)))
          (held-either a b k x)))
          (once-from homes share (middle + 1) (middle + 2 - (middle + 1)))
          (λ k x y. let v = (of_d k y).0 in ⊎_elim
          (λ (ab : holds (a ++ b) k ≡ true). ⊎_elim
          (λ (e : holds a k ≡ true). let w = (of_a k e).1 in absurd (omega (arith, w, v, low)))
          (λ (e : holds b k ≡ true). let w = (of_b k e).1 in absurd (omega (arith, w, v)))
          (held-either a b k ab))
          (λ (e : holds c k ≡ true). let w = (of_c k e).1 in absurd (omega (arith, w, v)))
          (held-either (a ++ b) c k x));
      theirs = λ k. same-tests (holds (a ++ b ++ c ++ d) k) (nat_lt k (viewers_of t + 1) && (home_by homes k == share))
          (λ h.
          let found : (k < viewers_of t + 1) × (home_by homes k ≡ share) = ⊎_elim
          (λ (abc : holds (a ++ b ++ c) k ≡ true). ⊎_elim
          (λ (ab : holds (a ++ b) k ≡ true). ⊎_elim
          (λ (e : holds a k ≡ true). let w = of_a k e in let high = w.1 in (omega (arith, high), w.2))
          (λ (e : holds b k ≡ true). let w = of_b k e in let high = w.1 in (omega (arith, high), w.2))
          (held-either a b k ab))
          (λ (e : holds c k ≡ true). let w = of_c k e in let high = w.1 in (omega (arith, high), w.2))
          (held-either (a ++ b) c k abc))
          (λ (e : holds d k ≡ true). let w = of_d k e in let high = w.1 in (omega (arith, high), w.2))
          (held-either (a ++ b ++ c) d k h) in
          let inside = found.0 in
          let less : nat_lt k (viewers_of t + 1) ≡ true = grind (arith, nat_tests, inside) in
          ap (λ x. x && (home_by homes k == share)) less ∙ eq-eqb (home_by homes k) share found.1)
          (λ h.
          let both = both-true (nat_lt k (viewers_of t + 1)) (home_by homes k == share) h in
          let less : k < viewers_of t + 1 = (let x = both.0 in grind (arith, nat_tests, x)) in
          let same = eqb-true (home_by homes k) share both.1 in
          ⊎_elim
          (λ (x : k < cubs). held-left (a ++ b ++ c) d k (held-left (a ++ b) c k (held-left a b k (held-in homes share 0 cubs k (omega arith) x same))))
          (λ (x : cubs ≤ k). ⊎_elim
          (λ (y : k < middle). held-left (a ++ b ++ c) d k (held-right (a ++ b) c k (held-in homes share cubs middle k x y same)))
          (λ (y : middle ≤ k). ⊎_elim
          (λ (z : k < middle + 1). held-left (a ++ b ++ c) d k (held-left (a ++ b) c k (held-right a b k (held-in homes share middle (middle + 1) k y z same))))
          (λ (z : middle + 1 ≤ k). held-right (a ++ b ++ c) d k (held-in homes share (middle + 1) (middle + 2) k z (omega (arith, less)) same))
          (cases_lt k (middle + 1)))
          (cases_lt k middle))
          (cases_lt k cubs));
    }

pub members-as : (p : Params) (homes : List ℕ) (share : ℕ) (t : Links) (numbers : List NodeNo) → t ≡ links_of p → numbers ≡ members_of t p.cubs homes share → IsMembership (home_by homes) p share numbers
members-as p homes share t numbers same e =
    subst (IsMembership (home_by homes) p share) (sym (e ∙ ap (λ (u : Links). members_of u p.cubs homes share) same)) (members-are p homes share)

-- those between two numbers, one more number at a time
pub in-none : (homes : List ℕ) (share first : ℕ) (old : List NodeNo) → old ≡ old ++ members_in homes share first first
in-none homes share first old =
    let none : first - first ≡ 0 = omega arith in
    sym (append-nil old) ∙ ap (λ k. old ++ members_from homes share first k) (sym none)

in-more : (homes : List ℕ) (share first node : ℕ) → first ≤ node
    → members_in homes share first (node + 1) ≡ members_in homes share first node ++ cond (home_by homes node == share) ((record { 0 = node }) ∷ []) []
in-more homes share first node low =
    let more : node + 1 - first ≡ suc (node - first) = omega (arith, low) in
    let same : first + (node - first) ≡ node = omega (arith, low) in
    ap (members_from homes share first) more ∙ ap (λ k. members_in homes share first node ++ cond (home_by homes k == share) ((record { 0 = k }) ∷ []) []) same

pub in-pushed : (homes : List ℕ) (share first node : ℕ) (old was new : List NodeNo) → first ≤ node → home_by homes node ≡ share → was ≡ old ++ members_in homes share first node
    → new ≡ was ++ (record { 0 = node }) ∷ [] → new ≡ old ++ members_in homes share first (node + 1)
in-pushed homes share first node old was new low home h pushed =
    pushed ∙ ap (λ l. l ++ (record { 0 = node }) ∷ []) h ∙ append_assoc old (members_in homes share first node) ((record { 0 = node }) ∷ [])
    ∙ ap (λ b. old ++ (members_in homes share first node ++ cond b ((record { 0 = node }) ∷ []) [])) (sym (eq-eqb (home_by homes node) share home))
    ∙ ap (λ l. old ++ l) (sym (in-more homes share first node low))

pub in-skipped : (homes : List ℕ) (share first node : ℕ) (old was : List NodeNo) → first ≤ node → home_by homes node ≢ share → was ≡ old ++ members_in homes share first node
    → was ≡ old ++ members_in homes share first (node + 1)
in-skipped homes share first node old was low home h = ⊎_elim
    (λ (t : (home_by homes node == share) ≡ true). absurd (home (eqb-true (home_by homes node) share t)))
    (λ (f : (home_by homes node == share) ≡ false).
    h ∙ ap (λ l. old ++ l) (sym (append-nil (members_in homes share first node)))
    ∙ ap (λ b. old ++ (members_in homes share first node ++ cond b ((record { 0 = node }) ∷ []) [])) (sym f)
    ∙ ap (λ l. old ++ l) (sym (in-more homes share first node low)))
    (cases_Bool (home_by homes node == share))
