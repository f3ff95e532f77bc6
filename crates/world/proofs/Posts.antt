-- Outputs that are sent one after another.
use Rattle.std.proofs.Common.{◌≡◌, ℕ, List, [], ◌∷◌, ◌++◌, map, length, Bool, true, false, Option, Some, None, refl, ap, sym, ◌∙◌, subst, arith, cond, append_assoc, append-nil}
use Rattle.std.specs.Prelude.{slice_get, slice_set, ◌==◌}
use Rattle.std.specs.List.{AllByRecursion}
use Rattle.std.proofs.lemmas.Bool.{eq-eqb, ne_eqb}
use Rattle.tiger_base.specs.declared.number.LinkNo.{LinkNo}
use Rattle.tiger_base.specs.declared.message.Note.{Note}
use Rattle.slot_plan.specs.declared.params.Params.{Params}
use Rattle.node_kit.specs.declared.journal.Entry.{Entry}
use Rattle.node_kit.specs.declared.journal.What.{What}
use Rattle.node_kit.specs.declared.journal.What.TheVariants.{Died}
use Rattle.node_kit.specs.Outputs.{cut_at, with_death, ends_in_death}
use Rattle.node_kit.proofs.Cutting.{cut-all}
use Rattle.node_kit.specs.declared.outbox.Out.{Out}
use Rattle.node_kit.specs.declared.outbox.Out.TheVariants as out
use Rattle.node_kit.specs.Links.{links_of, link_count}
use Rattle.node_kit.specs.Steps.{IsAllowed}
use Rattle.node_kit.proofs.Ring.{ends_counted}
use Rattle.run_facts.specs.Events.{Dated, sends_of}
use Rattle.ring_world.specs.Machine.{Way}
use Rattle.ring_world.proofs.Lists.{each-length}
use Rattle.run_facts.proofs.Rows.{all-append}
use Rattle.world.specs.Living.{left_by}
use Rattle.world.specs.Posting.{with_sent, posted, IsPostable}
use Rattle.world.proofs.Lists.{each_twice, each_alike, each_kept, each_one}

way_same : {M : Type 0} (w : Way M) (ds : List (Dated M)) → ds ≡ w.under_way
    → ◌≡◌ {A = Way M} (record { gone = w.gone; under_way = ds }) w
way_same w ds e = rw e refl

sends_first : {M : Type 0} (l beat : ℕ) (o : Out M) (os : List (Out M)) → sends_of l beat (o ∷ []) ++ sends_of l beat os ≡ sends_of l beat (o ∷ os)
sends_first {M} l beat (out.Send link msg) os =
    elim (link.0 == l) as (λ b. cond b ((record { beat = beat; item = msg }) ∷ []) [] ++ sends_of l beat os
    ≡ cond b ((record { beat = beat; item = msg }) ∷ sends_of l beat os) (sends_of l beat os))
    [ true ↦ refl | false ↦ refl ]
sends_first l beat (out.Act what) os = refl

pub posted_none : {M : Type 0} (beat : ℕ) (ways : List (Way M)) → posted beat [] ways ≡ ways
posted_none beat ways = each_kept (with_sent beat []) 0 ways (λ l w. way_same w (w.under_way ++ []) (append-nil w.under_way))

pub posted_first : {M : Type 0} (beat : ℕ) (o : Out M) (os : List (Out M)) (ways : List (Way M))
    → posted beat os (posted beat (o ∷ []) ways) ≡ posted beat (o ∷ os) ways
posted_first beat o os ways =
    each_twice (with_sent beat (o ∷ [])) (with_sent beat os) (with_sent beat (o ∷ os)) 0 ways
    (λ l w. ap (λ ds. record { gone = w.gone; under_way = ds })
    (append_assoc w.under_way (sends_of l beat (o ∷ [])) (sends_of l beat os) ∙ ap (λ ds. w.under_way ++ ds) (sends_first l beat o os)))

pub posted_act : {M : Type 0} (beat : ℕ) (o : Out M) (what : What) (ways : List (Way M)) → o ≡ out.Act what → posted beat (o ∷ []) ways ≡ ways
posted_act beat o what ways is =
    ap (λ x. posted beat (x ∷ []) ways) is
    ∙ each_kept (with_sent beat (out.Act what ∷ [])) 0 ways (λ l w. way_same w (w.under_way ++ []) (append-nil w.under_way))

-- A message that is sent stands behind those under way on its link.
pub posted_send : {M : Type 0} (beat : ℕ) (link : LinkNo) (msg : M) (ways : List (Way M)) (w v : Way M) → slice_get ways link.0 ≡ Some w
    → v ≡ record { gone = w.gone; under_way = w.under_way ++ (record { beat = beat; item = msg }) ∷ [] }
    → slice_set ways link.0 v ≡ posted beat (out.Send link msg ∷ []) ways
posted_send {M} beat link msg ways w v at is =
    let f = with_sent beat (out.Send link msg ∷ []) in
    let here : f link.0 w ≡ v =
    ap (λ b. record { gone = w.gone; under_way = w.under_way ++ cond b ((record { beat = beat; item = msg }) ∷ []) [] }) (eq-eqb link.0 link.0 refl) ∙ sym is in
    let there : (j : ℕ) (y : Way M) → (j ≡ link.0 → ⊥) → f j y ≡ y =
    λ j y ne. way_same y (y.under_way ++ cond (link.0 == j) ((record { beat = beat; item = msg }) ∷ []) [])
    (ap (λ b. y.under_way ++ cond b ((record { beat = beat; item = msg }) ∷ []) []) (ne_eqb link.0 j (λ e. ne (sym e))) ∙ append-nil y.under_way) in
    ap (slice_set ways link.0) (sym here) ∙ each_one f link.0 0 ways link.0 w (omega arith) at there

-- A death that is written down sends nothing.
sends_behind : {M : Type 0} (l beat : ℕ) (os : List (Out M)) → sends_of l beat (os ++ out.Act Died ∷ []) ≡ sends_of l beat os
sends_behind l beat [] = refl
sends_behind {M} l beat (out.Send link msg ∷ os) =
    ap (λ ds. cond (link.0 == l) ((record { beat = beat; item = msg }) ∷ ds) ds) (sends_behind l beat os)
sends_behind l beat (out.Act what ∷ os) = sends_behind l beat os

sends_dying : {M : Type 0} (l beat : ℕ) (os : List (Out M)) → sends_of l beat (with_death os) ≡ sends_of l beat os
sends_dying {M} l beat os = by (ends_in_death os)
  where
    by : (b : Bool) → sends_of l beat (cond b os (os ++ out.Act Died ∷ [])) ≡ sends_of l beat os
    by true = refl
    by false = sends_behind l beat os

pub posted_dying : {M : Type 0} (beat : ℕ) (os : List (Out M)) (ways : List (Way M)) → posted beat (with_death os) ways ≡ posted beat os ways
posted_dying beat os ways = each_alike (with_sent beat (with_death os)) (with_sent beat os) 0 ways
    (λ l w. ap (λ ds. record { gone = w.gone; under_way = w.under_way ++ ds }) (sends_dying l beat os))

pub length_posted : {M : Type 0} (beat : ℕ) (os : List (Out M)) (ways : List (Way M)) → length (posted beat os ways) ≡ length ways
length_posted beat os ways = each-length (with_sent beat os) 0 ways

-- One output further: what is written and sent, and what is left.
pub written_on : {M : Type 0} (e : Out M → Entry) (j j' whole : List Entry) (o : Out M) (rest todo : List (Out M)) → j' ≡ j ++ e o ∷ []
    → todo ≡ o ∷ rest → j ++ map e todo ≡ whole → j' ++ map e rest ≡ whole
written_on e j j' whole o rest todo wrote next inv =
    ap (λ x. x ++ map e rest) wrote ∙ append_assoc j (e o ∷ []) (map e rest) ∙ sym (ap (λ x. j ++ map e x) next) ∙ inv

pub sent_on : {M : Type 0} (beat : ℕ) (ways ways' whole : List (Way M)) (o : Out M) (rest todo : List (Out M))
    → ways' ≡ posted beat (o ∷ []) ways → todo ≡ o ∷ rest → posted beat todo ways ≡ whole → posted beat rest ways' ≡ whole
sent_on beat ways ways' whole o rest todo sent next inv =
    ap (posted beat rest) sent ∙ posted_first beat o rest ways ∙ sym (ap (λ x. posted beat x ways) next) ∙ inv

pub postable_on : {M : Type 0} (beat n n' : ℕ) (ways ways' : List (Way M)) (o : Out M) (rest todo : List (Out M)) → n ≡ length ways → n' ≡ length ways'
    → ways' ≡ posted beat (o ∷ []) ways → todo ≡ o ∷ rest → AllByRecursion (IsPostable n) todo → AllByRecursion (IsPostable n') rest
postable_on beat n n' ways ways' o rest todo len len' sent next h =
    let same : n ≡ n' = len ∙ sym (len' ∙ ap length sent ∙ length_posted beat (o ∷ []) ways) in
    subst (λ k. AllByRecursion (IsPostable k) rest) same (subst (λ l. AllByRecursion (IsPostable n) l) next h).1

-- What a node may put out can be sent.
postable_one : {M : Type 0} (note : M → Note) (p : Params) (n k : ℕ) (o : Out M) → link_count (links_of p) ≡ k → IsAllowed note p n o → IsPostable k o
postable_one note p n k (out.Send link msg) count h =
    let below = ends_counted (links_of p) link.0 (n, h.0.0) h.0.1 in
    omega (arith, below, count)
postable_one note p n k (out.Act what) count h = tt

pub postable_all : {M : Type 0} (note : M → Note) (p : Params) (n k : ℕ) (os : List (Out M)) → link_count (links_of p) ≡ k
    → AllByRecursion (IsAllowed note p n) os → AllByRecursion (IsPostable k) os
postable_all note p n k [] count h = tt
postable_all note p n k (o ∷ os) count h = (postable_one note p n k o count h.0, postable_all note p n k os count h.1)

-- Nor is what a death leaves of it anything else.
pub postable_left : {M : Type 0} (k : ℕ) (sends : Option ℕ) (os : List (Out M)) → AllByRecursion (IsPostable k) os
    → AllByRecursion (IsPostable k) (left_by sends os)
postable_left k None os h = h
postable_left {M} k (Some sends) os h = by (ends_in_death (cut_at sends os)) (cut-all (IsPostable k) sends os h)
  where
    by : (b : Bool) → AllByRecursion (IsPostable k) (cut_at sends os)
        → AllByRecursion (IsPostable k) (cond b (cut_at sends os) (cut_at sends os ++ out.Act Died ∷ []))
    by true all = all
    by false all = all-append (IsPostable k) (cut_at sends os) (out.Act Died ∷ []) all (tt, tt)
