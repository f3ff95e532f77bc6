-- The events of nodes by beat and node, each with its name: in one list, and node by node.
use Rattle.std.proofs.Common.{◌≡◌, ℕ, zero, suc, ◌+◌, ◌<◌, ◌≤◌, List, [], ◌∷◌, ◌++◌, map, filter, true, false, refl, ap, sym, ◌∙◌, subst, arith, ⊎_elim, append_assoc, append-nil}
use Rattle.std.specs.Prelude.{◌==◌, nat_lt}
use Rattle.std.specs.List.{AllByRecursion}
use Rattle.std.proofs.lemmas.Bool.{cases_Bool, cases_eq, eqb-true, eq-eqb, ne_eqb}
use Rattle.std.proofs.lemmas.Bool.Decides.{nat_tests}
use Rattle.std.proofs.lemmas.List.{map-append}
use Rattle.std.proofs.lemmas.List.Elements.{filter-append}
use Rattle.run_facts.specs.Accounts.{Rising}
use Rattle.run_facts.specs.Events.{NodeEvent, stamp_at}
use Rattle.run_facts.proofs.Orders.{groups, by_key}
use Rattle.run_facts.proofs.Rows.{all-append, all-weaker, filter-none}
use Rattle.run_facts.proofs.Journals.{rising-append}
use Rattle.proof_answer.proofs.Dated.{events_below}
use Rattle.ring_world.specs.declared.event.Event.{Event}
use Rattle.ring_world.specs.Merging.{Happening, added, beat_at, own, told_as, told_from}

-- a node's events as happenings, and those of a beat
abbrev pub of_node : {M : Type 0} → ℕ → List (NodeEvent M) → List (Happening M)
of_node n es = map (λ e. record { node = n; event = e }) es

abbrev pub in_beat : {M : Type 0} → ℕ → List (NodeEvent M) → List (NodeEvent M)
in_beat b es = filter (λ e. (stamp_at e).beat == b) es

-- the happenings of a beat, for so many nodes from node n on, and of so many beats from beat b on
abbrev pub row_from : {M : Type 0} → ℕ → ℕ → ℕ → (ℕ → List (NodeEvent M)) → List (Happening M)
row_from b n zero all = []
row_from b n (suc j) all = of_node n (in_beat b (all n)) ++ row_from b (suc n) j all

abbrev pub rows_from : {M : Type 0} → ℕ → ℕ → ℕ → (ℕ → List (NodeEvent M)) → List (Happening M)
rows_from b zero nodes all = []
rows_from b (suc k) nodes all = row_from b 0 nodes all ++ rows_from (b + 1) k nodes all

-- a node's events as the machine is told them, if these happened to it before
abbrev pub named : {M : Type 0} → (ℕ → ℕ) → ℕ → List (NodeEvent M) → List (NodeEvent M) → List Event
named lost n before [] = []
named lost n before (e ∷ es) =
    told_as lost before (record { node = n; event = e }) ∷ named lost n (before ++ e ∷ []) es

abbrev pub named_in : {M : Type 0} → (ℕ → ℕ) → ℕ → ℕ → List (NodeEvent M) → List Event
named_in lost b n es = filter (λ e. e.stamp.beat == b) (named lost n [] es)

abbrev pub named_row : {M : Type 0} → (ℕ → ℕ) → ℕ → ℕ → ℕ → (ℕ → List (NodeEvent M)) → List Event
named_row lost b n zero all = []
named_row lost b n (suc j) all = named_in lost b n (all n) ++ named_row lost b (suc n) j all

abbrev pub named_rows : {M : Type 0} → (ℕ → ℕ) → ℕ → ℕ → ℕ → (ℕ → List (NodeEvent M)) → List Event
named_rows lost b zero nodes all = []
named_rows lost b (suc k) nodes all = named_row lost b 0 nodes all ++ named_rows lost (b + 1) k nodes all

-- what is named of a beat is named behind the events below it
none-later : {M : Type 0} (b : ℕ) (es : List (NodeEvent M)) → AllByRecursion (λ (e : NodeEvent M). b < (stamp_at e).beat) es
    → in_beat b es ≡ []
none-later {M} b es later = filter-none (λ (e : NodeEvent M). (stamp_at e).beat == b) es
    (all-weaker (λ (e : NodeEvent M). b < (stamp_at e).beat) (λ e. ((stamp_at e).beat == b) ≡ false) es
    (λ e h. grind (arith, nat_tests, h)) later)

none-below : {M : Type 0} (b : ℕ) (es : List (NodeEvent M)) → AllByRecursion (λ (e : NodeEvent M). b ≤ (stamp_at e).beat) es
    → events_below b es ≡ []
none-below {M} b es later = filter-none (λ (e : NodeEvent M). nat_lt (stamp_at e).beat b) es
    (all-weaker (λ (e : NodeEvent M). b ≤ (stamp_at e).beat) (λ e. nat_lt (stamp_at e).beat b ≡ false) es
    (λ e h. grind (arith, nat_tests, h)) later)

pub named-beat : {M : Type 0} (lost : ℕ → ℕ) (b n : ℕ) (before es : List (NodeEvent M)) → Rising (λ (e : NodeEvent M). (stamp_at e).beat) es
    → filter (λ e. e.stamp.beat == b) (named lost n before es) ≡ named lost n (before ++ events_below b es) (in_beat b es)
named-beat lost b n before [] rising = refl
named-beat {M} lost b n before (e ∷ es) rising =
    let now = (stamp_at e).beat in
    let rest = named-beat lost b n (before ++ e ∷ []) es rising.1 in
    ⊎_elim
    (λ (same : (now == b) ≡ true).
    let is : now ≡ b = eqb-true _ _ same in
    let not_below : nat_lt now b ≡ false = grind (arith, nat_tests, is) in
    let none : events_below b es ≡ [] = none-below b es
    (all-weaker (λ (f : NodeEvent M). now ≤ (stamp_at f).beat) (λ f. b ≤ (stamp_at f).beat) es (λ f h. omega (arith, h, is)) rising.0) in
    let behind : named lost n ((before ++ e ∷ []) ++ events_below b es) (in_beat b es) ≡ named lost n (before ++ e ∷ []) (in_beat b es) =
    ap (λ q. named lost n q (in_beat b es)) (ap (λ q. (before ++ e ∷ []) ++ q) none ∙ append-nil (before ++ e ∷ [])) in
    let front : before ++ events_below b es ≡ before = ap (λ q. before ++ q) none ∙ append-nil before in
    rw (same, not_below) (ap (λ q. told_as lost before (record { node = n; event = e }) ∷ q) (rest ∙ behind)
    ∙ sym (ap (λ q. told_as lost q (record { node = n; event = e }) ∷ named lost n (q ++ e ∷ []) (in_beat b es)) front)))
    (λ (other : (now == b) ≡ false). ⊎_elim
    (λ (low : nat_lt now b ≡ true).
    rw (other, low) (rest ∙ ap (λ q. named lost n q (in_beat b es)) (append_assoc before (e ∷ []) (events_below b es))))
    (λ (high : nat_lt now b ≡ false).
    let none : in_beat b es ≡ [] = none-later b es
    (all-weaker (λ (f : NodeEvent M). now ≤ (stamp_at f).beat) (λ f. b < (stamp_at f).beat) es
    (λ f h. grind (arith, nat_tests, h, other, high)) rising.0) in
    rw (other, high) (rest ∙ ap (named lost n ((before ++ e ∷ []) ++ events_below b es)) none
    ∙ sym (ap (named lost n (before ++ events_below b es)) none)))
    (cases_Bool (nat_lt now b)))
    (cases_Bool (now == b))

-- below the next beat are those below the beat, and its own
pub below-next : {M : Type 0} (b : ℕ) (es : List (NodeEvent M)) → Rising (λ (e : NodeEvent M). (stamp_at e).beat) es
    → events_below (b + 1) es ≡ events_below b es ++ in_beat b es
below-next b [] rising = refl
below-next {M} b (e ∷ es) rising =
    let now = (stamp_at e).beat in
    let rest = below-next b es rising.1 in
    ⊎_elim
    (λ (same : (now == b) ≡ true).
    let is : now ≡ b = eqb-true _ _ same in
    let not_below : nat_lt now b ≡ false = grind (arith, nat_tests, is) in
    let soon : nat_lt now (b + 1) ≡ true = grind (arith, nat_tests, is) in
    let none : events_below b es ≡ [] = none-below b es
    (all-weaker (λ (f : NodeEvent M). now ≤ (stamp_at f).beat) (λ f. b ≤ (stamp_at f).beat) es (λ f h. omega (arith, h, is)) rising.0) in
    rw (same, not_below, soon) (ap (λ q. e ∷ q) (rest ∙ ap (λ q. q ++ in_beat b es) none) ∙ sym (ap (λ q. q ++ e ∷ in_beat b es) none)))
    (λ (other : (now == b) ≡ false). ⊎_elim
    (λ (low : nat_lt now b ≡ true).
    let soon : nat_lt now (b + 1) ≡ true = grind (arith, nat_tests, low) in
    rw (other, low, soon) (ap (λ q. e ∷ q) rest))
    (λ (high : nat_lt now b ≡ false).
    let late : nat_lt now (b + 1) ≡ false = grind (arith, nat_tests, high, other) in
    rw (other, high, late) rest)
    (cases_Bool (nat_lt now b)))
    (cases_Bool (now == b))

-- the events of one node in front of a list
told-node : {M : Type 0} (lost : ℕ → ℕ) (n : ℕ) (before es : List (NodeEvent M)) (ys : List (Happening M)) (zs : List Event)
    (f : ℕ → List (NodeEvent M)) → f n ≡ before
    → ((g : ℕ → List (NodeEvent M)) → g n ≡ before ++ es → ((k : ℕ) → (k ≡ n → ⊥) → g k ≡ f k) → told_from lost g ys ≡ zs)
    → told_from lost f (of_node n es ++ ys) ≡ named lost n before es ++ zs
told-node lost n before [] ys zs f is rest = rest f (is ∙ sym (append-nil before)) (λ k ne. refl)
told-node {M} lost n before (e ∷ es) ys zs f is rest =
    let hit : (n == n) ≡ true = eq-eqb n n refl in
    let here : added n e f n ≡ before ++ e ∷ [] = rw hit (ap (λ q. q ++ e ∷ []) is) in
    let more = told-node lost n (before ++ e ∷ []) es ys zs (added n e f) here
    (λ g at others. rest g (at ∙ append_assoc before (e ∷ []) es)
    (λ k ne. others k ne ∙ (let miss : (k == n) ≡ false = ne_eqb k n ne in rw miss refl))) in
    let head : told_as lost (f n) (record { node = n; event = e }) ≡ told_as lost before (record { node = n; event = e }) =
    ap (λ q. told_as lost q (record { node = n; event = e })) is in
    ap (λ q. q ∷ told_from lost (added n e f) (of_node n es ++ ys)) head
    ∙ ap (λ q. told_as lost before (record { node = n; event = e }) ∷ q) more

module _ {M : Type 0} (lost : ℕ → ℕ) (nodes : ℕ) (all : ℕ → List (NodeEvent M))
    (rising : (n : ℕ) → n < nodes → Rising (λ (e : NodeEvent M). (stamp_at e).beat) (all n)) where
  -- a beat in front of a list
  told-row : (b n j : ℕ) (ys : List (Happening M)) (zs : List Event) (f : ℕ → List (NodeEvent M)) → n + j ≡ nodes
      → ((k : ℕ) → n ≤ k → k < nodes → f k ≡ events_below b (all k))
      → ((k : ℕ) → k < n → f k ≡ events_below (b + 1) (all k))
      → ((g : ℕ → List (NodeEvent M)) → ((k : ℕ) → k < nodes → g k ≡ events_below (b + 1) (all k)) → told_from lost g ys ≡ zs)
      → told_from lost f (row_from b n j all ++ ys) ≡ named_row lost b n j all ++ zs
  told-row b n zero ys zs f sum now done rest = rest f (λ k low. done k (omega (arith, low, sum)))
  told-row b n (suc j) ys zs f sum now done rest =
      let low : n < nodes = omega (arith, sum) in
      let row = row_from b (suc n) j all in
      let more = told-node lost n (events_below b (all n)) (in_beat b (all n)) (row ++ ys)
      (named_row lost b (suc n) j all ++ zs) f (now n (omega arith) low)
      (λ g at others. told-row b (suc n) j ys zs g (omega (arith, sum))
      (λ k up high. others k (λ same. omega (arith, same, up)) ∙ now k (omega (arith, up)) high)
      (λ k below. ⊎_elim
      (λ (same : k ≡ n). subst (λ q. g q ≡ events_below (b + 1) (all q)) (sym same) (at ∙ sym (below-next b (all n) (rising n low))))
      (λ (other : k ≡ n → ⊥). others k other ∙ done k (omega (arith, below, other)))
      (cases_eq k n))
      rest) in
      ap (told_from lost f) (append_assoc (of_node n (in_beat b (all n))) row ys) ∙ more
      ∙ ap (λ q. q ++ (named_row lost b (suc n) j all ++ zs)) (sym (named-beat lost b n [] (all n) (rising n low)))
      ∙ sym (append_assoc (named_in lost b n (all n)) (named_row lost b (suc n) j all) zs)

  pub told-rows : (b k : ℕ) (f : ℕ → List (NodeEvent M)) → ((n : ℕ) → n < nodes → f n ≡ events_below b (all n))
      → told_from lost f (rows_from b k nodes all) ≡ named_rows lost b k nodes all
  told-rows b zero f now = refl
  told-rows b (suc k) f now =
      told-row b 0 nodes (rows_from (b + 1) k nodes all) (named_rows lost (b + 1) k nodes all) f (omega arith)
      (λ n _ high. now n high) (λ n low. absurd (omega (arith, low))) (λ g then_on. told-rows (b + 1) k g then_on)

-- each node's own in the list by beat and node
own-append : {M : Type 0} (k : ℕ) (xs ys : List (Happening M)) → own k (xs ++ ys) ≡ own k xs ++ own k ys
own-append {M} k xs ys =
    ap (map (λ (x : Happening M). x.event)) (filter-append (λ (x : Happening M). x.node == k) xs ys)
    ∙ map-append (λ (x : Happening M). x.event) (filter (λ x. x.node == k) xs) (filter (λ x. x.node == k) ys)

own-same : {M : Type 0} (n : ℕ) (es : List (NodeEvent M)) → own n (of_node n es) ≡ es
own-same n [] = refl
own-same n (e ∷ es) = let hit : (n == n) ≡ true = eq-eqb n n refl in rw hit (ap (λ q. e ∷ q) (own-same n es))

own-none : {M : Type 0} (k n : ℕ) (es : List (NodeEvent M)) → (n ≡ k → ⊥) → own k (of_node n es) ≡ []
own-none k n [] ne = refl
own-none k n (e ∷ es) ne = let miss : (n == k) ≡ false = ne_eqb n k ne in rw miss (own-none k n es ne)

own-below : {M : Type 0} (b n j k : ℕ) (all : ℕ → List (NodeEvent M)) → k < n → own k (row_from b n j all) ≡ []
own-below b n zero k all low = refl
own-below b n (suc j) k all low =
    own-append k (of_node n (in_beat b (all n))) (row_from b (suc n) j all)
    ∙ ap (λ q. q ++ own k (row_from b (suc n) j all)) (own-none k n (in_beat b (all n)) (λ e. omega (arith, e, low)))
    ∙ own-below b (suc n) j k all (omega (arith, low))

own-row : {M : Type 0} (b n j k : ℕ) (all : ℕ → List (NodeEvent M)) → n ≤ k → k < n + j
    → own k (row_from b n j all) ≡ in_beat b (all k)
own-row b n zero k all low high = absurd (omega (arith, low, high))
own-row {M} b n (suc j) k all low high =
    own-append k (of_node n (in_beat b (all n))) (row_from b (suc n) j all) ∙ ⊎_elim
    (λ (same : n ≡ k).
    subst (λ q. own q (of_node n (in_beat b (all n))) ++ own q (row_from b (suc n) j all) ≡ in_beat b (all q)) same
    (ap (λ q. q ++ own n (row_from b (suc n) j all)) (own-same n (in_beat b (all n)))
    ∙ ap (λ q. in_beat b (all n) ++ q) (own-below b (suc n) j n all (omega arith))
    ∙ append-nil (in_beat b (all n))))
    (λ (other : n ≡ k → ⊥).
    ap (λ q. q ++ own k (row_from b (suc n) j all)) (own-none k n (in_beat b (all n)) other)
    ∙ own-row b (suc n) j k all (omega (arith, low, other)) (omega (arith, high)))
    (cases_eq n k)

own-rows : {M : Type 0} (b j nodes k : ℕ) (all : ℕ → List (NodeEvent M)) → k < nodes
    → own k (rows_from b j nodes all) ≡ groups (λ (e : NodeEvent M). (stamp_at e).beat) b j (all k)
own-rows b zero nodes k all low = refl
own-rows b (suc j) nodes k all low =
    own-append k (row_from b 0 nodes all) (rows_from (b + 1) j nodes all)
    ∙ ap (λ q. q ++ own k (rows_from (b + 1) j nodes all)) (own-row b 0 nodes k all (omega arith) (omega (arith, low)))
    ∙ ap (λ q. in_beat b (all k) ++ q) (own-rows (b + 1) j nodes k all low)

pub own-each : {M : Type 0} (beats nodes k : ℕ) (all : ℕ → List (NodeEvent M)) → k < nodes
    → AllByRecursion (λ (e : NodeEvent M). (stamp_at e).beat < beats) (all k)
    → Rising (λ (e : NodeEvent M). (stamp_at e).beat) (all k) → own k (rows_from 0 beats nodes all) ≡ all k
own-each {M} beats nodes k all low early rising =
    own-rows 0 beats nodes k all low ∙ by_key (λ (e : NodeEvent M). (stamp_at e).beat) beats (all k) early rising

-- and what holds of each of them
node-all : {M : Type 0} (P : Happening M → Type 0) (b n : ℕ) (es : List (NodeEvent M))
    → ((e : NodeEvent M) → (stamp_at e).beat ≡ b → P (record { node = n; event = e })) → AllByRecursion P (of_node n (in_beat b es))
node-all P b n [] f = tt
node-all P b n (e ∷ es) f = ⊎_elim
    (λ (t : ((stamp_at e).beat == b) ≡ true). rw t (f e (eqb-true _ _ t), node-all P b n es f))
    (λ (t : ((stamp_at e).beat == b) ≡ false). rw t (node-all P b n es f))
    (cases_Bool ((stamp_at e).beat == b))

row-all : {M : Type 0} (P : Happening M → Type 0) (b n j m : ℕ) (all : ℕ → List (NodeEvent M)) → n + j ≡ m
    → ((k : ℕ) (e : NodeEvent M) → k < m → (stamp_at e).beat ≡ b → P (record { node = k; event = e }))
    → AllByRecursion P (row_from b n j all)
row-all P b n zero m all sum f = tt
row-all P b n (suc j) m all sum f =
    all-append P (of_node n (in_beat b (all n))) (row_from b (suc n) j all)
    (node-all P b n (all n) (λ e at. f n e (omega (arith, sum)) at)) (row-all P b (suc n) j m all (omega (arith, sum)) f)

pub rows-all : {M : Type 0} (P : Happening M → Type 0) (b j nodes : ℕ) (all : ℕ → List (NodeEvent M))
    → ((k : ℕ) (e : NodeEvent M) → k < nodes → b ≤ (stamp_at e).beat → P (record { node = k; event = e }))
    → AllByRecursion P (rows_from b j nodes all)
rows-all P b zero nodes all f = tt
rows-all P b (suc j) nodes all f =
    all-append P (row_from b 0 nodes all) (rows_from (b + 1) j nodes all)
    (row-all P b 0 nodes nodes all (omega arith) (λ k e low at. f k e low (omega (arith, at))))
    (rows-all P (b + 1) j nodes all (λ k e low at. f k e low (omega (arith, at))))

pub rows-rising : {M : Type 0} (b j nodes : ℕ) (all : ℕ → List (NodeEvent M)) → Rising beat_at (rows_from b j nodes all)
rows-rising b zero nodes all = tt
rows-rising {M} b (suc j) nodes all =
    rising-append (beat_at {M = M}) b (row_from b 0 nodes all) (rows_from (b + 1) j nodes all)
    (row-all (λ (x : Happening M). beat_at x ≡ b) b 0 nodes nodes all (omega arith) (λ k e low at. at))
    (rows-all (λ (x : Happening M). b ≤ beat_at x) (b + 1) j nodes all (λ k e low at. omega (arith, at)))
    (rows-rising (b + 1) j nodes all)
