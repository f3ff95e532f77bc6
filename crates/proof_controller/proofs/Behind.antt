-- In what a controller sends in a beat, on one link, a deschedule without a tag stands behind the starts that are ordered before its stop.
use Rattle.std.proofs.Common.{◌≡◌, ℕ, zero, suc, ◌+◌, ◌<◌, nat_lt, List, [], ◌∷◌, ◌++◌, length, filter, Bool, true, false, Option, Some, None, refl, sym, ap, subst, ◌∙◌, arith, ⊎_elim, inl, inr}
use Rattle.std.specs.Prelude.{◌⊎◌, slice_get}
use Rattle.std.proofs.lemmas.Bool.{cases_Bool}
use Rattle.std.proofs.lemmas.Option.{none-some}
use Rattle.tiger_base.specs.declared.number.Instance.{Instance}
use Rattle.tiger_base.specs.declared.number.LinkNo.{LinkNo}
use Rattle.tiger_base.specs.declared.tenancy.Ask.{Ask}
use Rattle.tiger_base.specs.declared.tenancy.Tag.{Tag}
use Rattle.tiger_base.specs.declared.tenancy.Tenancy.{Tenancy}
use Rattle.tiger_base.specs.declared.message.Msg.{Msg}
use Rattle.tiger_base.specs.declared.message.Msg.TheVariants as msg
use Rattle.slot_plan.specs.declared.params.Params.{Params}
use Rattle.node_kit.specs.declared.course.Order.{Order}
use Rattle.node_kit.specs.declared.course.OrderKind.{OrderKind}
use Rattle.node_kit.specs.declared.course.OrderKind.TheVariants.{Begin, Finish}
use Rattle.node_kit.specs.declared.outbox.Out.{Out}
use Rattle.node_kit.specs.declared.outbox.Out.TheVariants as out
use Rattle.node_kit.specs.Steps.{Deed}
use Rattle.node_kit.specs.Deeds.{nothing, each_in_turn}
use Rattle.run_facts.specs.Events.{Dated, sends_of}
use Rattle.controller_core.specs.declared.known.Known.{Known}
use Rattle.controller_core.specs.Orders.{start_of}
use Rattle.controller_core.specs.State.{tenancy_of, is_gone}
use Rattle.controller_core.specs.Rules.{starts, gone_from, visit_due, stops_start, stops, stopping, carries, carrying}
use Rattle.lists.specs.Elements.{In}
use Rattle.proof_lives.proofs.Carrying.{sends_in, sends_place, get_behind}
use Rattle.lists.proofs.Elements.{chosen, in_left, in_right}
use Rattle.proof_controller.proofs.Places.{get_below}
use Rattle.proof_controller.proofs.Commands.{sends_both}
use Rattle.proof_controller.proofs.Stopping.{spoken, starts_speak}
use Rattle.proof_controller.specs.Stops.{tag_at, stop_outs}
use Rattle.node_kit.proofs.Rows.{get-front}

-- an element of two lists behind one another
get_cases : {X : Type 0} (xs ys : List X) (k : ℕ) (x : X) → slice_get (xs ++ ys) k ≡ Some x → ((k < length xs) × (slice_get xs k ≡ Some x)) ⊎ ((m : ℕ) × (k ≡ length xs + m) × (slice_get ys m ≡ Some x))
get_cases [] ys k x h = inr (k, omega arith, h)
get_cases (z ∷ zs) ys zero x h = inl (omega arith, h)
get_cases (z ∷ zs) ys (suc k) x h = ⊎_elim
    (λ old. let q = old.0 in inl (omega arith, old.1))
    (λ new. let q = new.1 in inr (new.0, omega arith, new.2))
    (get_cases zs ys k x h)

-- an element of a filtered list, and what stands before it
pub record Kept {X : Type 0} (test : X → Bool) (xs : List X) (i : ℕ) (x : X) : Type 0 where
  pub at : ℕ
  pub is : slice_get xs at ≡ Some x
  pub passes : test x ≡ true
  pub before : (j : ℕ) (y : X) → j < at → slice_get xs j ≡ Some y → test y ≡ true → (k : ℕ) × (k < i) × (slice_get (filter test xs) k ≡ Some y)

kept_first : {X : Type 0} (test : X → Bool) (z : X) (zs : List X) (i : ℕ) (x : X) → test z ≡ true → ((k : ℕ) → slice_get (filter test zs) k ≡ Some x → Kept test zs k x)
    → filter test (z ∷ zs) ≡ z ∷ filter test zs → slice_get (z ∷ filter test zs) i ≡ Some x → Kept test (z ∷ zs) i x
kept_first test z zs zero x t more same e =
    let q : z ≡ x = cc in
    record { at = 0; is = e; passes = ap test (sym q) ∙ t; before = λ j y less f u. absurd (omega (arith, less)) }
kept_first {X} test z zs (suc i) x t more same e =
    let r = more i e in
    record {
      at = suc r.at;
      is = r.is;
      passes = r.passes;
      before = λ j y less f u. earlier j y r less f u;
    }
  where
    earlier : (j : ℕ) (y : X) → (r : Kept test zs i x) → j < suc r.at → slice_get (z ∷ zs) j ≡ Some y → test y ≡ true → (k : ℕ) × (k < suc i) × (slice_get (filter test (z ∷ zs)) k ≡ Some y)
    earlier zero y r less f u = (0, omega arith, subst (λ (ws : List X). slice_get ws 0 ≡ Some y) (sym same) f)
    earlier (suc j) y r less f u =
        let w = r.before j y (omega (arith, less)) f u in
        let low = w.1 in
        (suc w.0, omega arith, subst (λ (ws : List X). slice_get ws (suc w.0) ≡ Some y) (sym same) w.2)

kept_later : {X : Type 0} (test : X → Bool) (z : X) (zs : List X) (i : ℕ) (x : X) → test z ≡ false → Kept test zs i x → filter test (z ∷ zs) ≡ filter test zs → Kept test (z ∷ zs) i x
kept_later {X} test z zs i x t r same = record {
  at = suc r.at;
  is = r.is;
  passes = r.passes;
  before = λ j y less f u. earlier j y less f u;
}
  where
    earlier : (j : ℕ) (y : X) → j < suc r.at → slice_get (z ∷ zs) j ≡ Some y → test y ≡ true → (k : ℕ) × (k < i) × (slice_get (filter test (z ∷ zs)) k ≡ Some y)
    earlier zero y less f u = let q : z ≡ y = cc in let w : true ≡ false = sym u ∙ (ap test (sym q) ∙ t) in absurd (cc)
    earlier (suc j) y less f u =
        let w = r.before j y (omega (arith, less)) f u in
        (w.0, w.1, subst (λ (ws : List X). slice_get ws w.0 ≡ Some y) (sym same) w.2)

pub kept : {X : Type 0} (test : X → Bool) (xs : List X) (i : ℕ) (x : X) → slice_get (filter test xs) i ≡ Some x → Kept test xs i x
kept test [] i x e = absurd (none-some x e)
kept {X} test (z ∷ zs) i x e = ⊎_elim
    (λ (t : test z ≡ true).
    let same : filter test (z ∷ zs) ≡ z ∷ filter test zs = rw t refl in
    kept_first test z zs i x t (λ k q. kept test zs k x q) same (subst (λ (ws : List X). slice_get ws i ≡ Some x) same e))
    (λ (t : test z ≡ false).
    let same : filter test (z ∷ zs) ≡ filter test zs = rw t refl in
    kept_later test z zs i x t (kept test zs i x (subst (λ (ws : List X). slice_get ws i ≡ Some x) same e)) same)
    (cases_Bool (test z))

module _ (p : Params) (orders : List Order) (r : ℕ) where
  -- what a stop puts out
  abbrev IsOutOf : Instance → Out Msg → Deed Msg Known → Type 0
  IsOutOf u o d = In o d.outs → (tag : Option Tag) × (n : ℕ) × In o (stop_outs p u tag n)

  gone_out : (u : Instance) (tag : Option Tag) (n : ℕ) (known : Known) (o : Out Msg) → IsOutOf u o (gone_from p u tag n known)
  unfolding gone_from
  gone_out u tag n known o i = (tag, n, i)

  stops_out : (u : Instance) (t : Option Tenancy) (known : Known) (o : Out Msg) → IsOutOf u o (stops p orders r u t known)
  stops_out u (Some t) known o =
      chosen (IsOutOf u o) (nat_lt t.last (visit_due p t r)) (nothing known) (gone_from p u (Some (tag_at t.slot (visit_due p t r))) (visit_due p t r) known)
      (λ _ i. absurd i)
      (λ _. gone_out u (Some (tag_at t.slot (visit_due p t r))) (visit_due p t r) known o)
  stops_out u None known o = by_start (start_of orders u)
    where
      by_start : (a : Option Ask) → IsOutOf u o (stops_start p u a known)
      by_start None = λ i. absurd i
      by_start (Some ask) = gone_out u None ask.disk.0 known o

  stopping_out : (u : Instance) (known : Known) (o : Out Msg) → IsOutOf u o (stopping p orders r u known)
  unfolding stopping
  stopping_out u known o =
      chosen (IsOutOf u o) (is_gone known.gone u) (nothing known) (stops p orders r u (tenancy_of known.placed u) known)
      (λ _ i. absurd i)
      (λ _. stops_out u (tenancy_of known.placed u) known o)

  -- a deschedule comes of a stop
  carries_finish : (kind : OrderKind) (known : Known) (way : LinkNo) (v : Instance) (tag : Option Tag) → In (out.Send way (msg.Deschedule v tag)) (carries p orders r kind known).outs → kind ≡ Finish v
  carries_finish (Begin ask) known way v tag i = absurd (starts_speak p orders r ask v (out.Send way (msg.Deschedule v tag)) refl i)
  carries_finish (Finish u) known way v tag i =
      let s = stopping_out u known (out.Send way (msg.Deschedule v tag)) i in
      ap (λ (w : Instance). Finish w) (spoken p v u s.0 s.1 (out.Send way (msg.Deschedule v tag)) refl s.2)

  carrying_finish : (o : Order) (known : Known) (way : LinkNo) (v : Instance) (tag : Option Tag) → In (out.Send way (msg.Deschedule v tag)) (carrying p orders r o known).outs → o.what ≡ Finish v
  unfolding carrying
  carrying_finish o known way v tag i = carries_finish o.what known way v tag i

  -- a start is carried out
  carrying_begin : (o : Order) (known : Known) (ask : Ask) → o.what ≡ Begin ask → (carrying p orders r o known).outs ≡ starts p ask
  unfolding carrying
  carrying_begin o known ask e = rw e refl

  -- the start of an order is among what all orders put out
  pub each_starts : (os : List Order) (known : Known) (q : Order) (ask : Ask) (x : Out Msg) → In q os → q.what ≡ Begin ask → In x (starts p ask) → In x (each_in_turn (carrying p orders r) os known).outs
  each_starts [] known q ask x i e k = absurd i
  each_starts (o ∷ os) known q ask x i e k =
      let d : Deed Msg Known = carrying p orders r o known in
      let f : Deed Msg Known = each_in_turn (carrying p orders r) os d.state in
      ⊎_elim
      (λ (s : q ≡ o). in_left x d.outs f.outs (subst (λ (ys : List (Out Msg)). In x ys) (sym (carrying_begin o known ask (ap (λ (w : Order). w.what) (sym s) ∙ e))) k))
      (λ j. in_right x d.outs f.outs (each_starts os d.state q ask x j e k))
      i

  -- a deschedule of these orders is that of a stop, and the starts of the orders before that stand before it
  pub record Behind (os : List Order) (l b : ℕ) (sends : List (Dated Msg)) (v : Instance) (place : ℕ) : Type 0 where
    pub at : ℕ
    pub order : Order
    pub is : slice_get os at ≡ Some order
    pub what : order.what ≡ Finish v
    pub ahead : (i : ℕ) (q : Order) (ask : Ask) (way : LinkNo) (x : Bool) → i < at → slice_get os i ≡ Some q → q.what ≡ Begin ask → In (out.Send way (msg.Start x ask)) (starts p ask) → way.0 ≡ l
        → (k : ℕ) × (k < place) × (slice_get sends k ≡ Some (record { beat = b; item = msg.Start x ask }))

  pub each_behind : (os : List Order) (known : Known) (l b place : ℕ) (v : Instance) (tag : Option Tag)
      → slice_get (sends_of l b (each_in_turn (carrying p orders r) os known).outs) place ≡ Some (record { beat = b; item = msg.Deschedule v tag })
      → Behind os l b (sends_of l b (each_in_turn (carrying p orders r) os known).outs) v place
  each_behind [] known l b place v tag e = absurd (none-some (record { beat = b; item = msg.Deschedule v tag }) e)
  each_behind (o ∷ os) known l b place v tag e =
      let d : Deed Msg Known = carrying p orders r o known in
      let f : Deed Msg Known = each_in_turn (carrying p orders r) os d.state in
      let note : Dated Msg = record { beat = b; item = msg.Deschedule v tag } in
      let same : sends_of l b (d.outs ++ f.outs) ≡ sends_of l b d.outs ++ sends_of l b f.outs = sends_both l b d.outs f.outs in
      ⊎_elim
      (λ w.
      let s = sends_in l b d.outs note place w.1 in
      record { at = 0; order = o; is = refl; what = carrying_finish o known s.0 v tag s.2; ahead = λ i q ask way x less f1 f2 f3 f4. absurd (omega (arith, less)) })
      (λ w.
      let n = each_behind os d.state l b w.0 v tag w.2 in
      record {
        at = suc n.at;
        order = n.order;
        is = n.is;
        what = n.what;
        ahead = λ i q ask way x less is begins k link. subst
            (λ (ds : List (Dated Msg)). (j : ℕ) × (j < place) × (slice_get ds j ≡ Some (record { beat = b; item = msg.Start x ask }))) (sym same)
            (earlier o os known l b place v w.0 n w.1 i q ask way x less is begins k link);
      })
      (get_cases (sends_of l b d.outs) (sends_of l b f.outs) place note (subst (λ (ds : List (Dated Msg)). slice_get ds place ≡ Some note) same e))
    where
      earlier : (o : Order) (os : List Order) (known : Known) (l b place : ℕ) (v : Instance) (m : ℕ)
          → (n : Behind os l b (sends_of l b (each_in_turn (carrying p orders r) os (carrying p orders r o known).state).outs) v m)
          → place ≡ length (sends_of l b (carrying p orders r o known).outs) + m → (i : ℕ) (q : Order) (ask : Ask) (way : LinkNo) (x : Bool) → i < suc n.at → slice_get (o ∷ os) i ≡ Some q → q.what ≡ Begin ask
          → In (out.Send way (msg.Start x ask)) (starts p ask) → way.0 ≡ l
          → (j : ℕ) × (j < place) × (slice_get (sends_of l b (carrying p orders r o known).outs ++ sends_of l b (each_in_turn (carrying p orders r) os (carrying p orders r o known).state).outs) j
          ≡ Some (record { beat = b; item = msg.Start x ask }))
      earlier o os known l b place v m n w zero q ask way x less is begins k link =
          let d : Deed Msg Known = carrying p orders r o known in
          let f : Deed Msg Known = each_in_turn (carrying p orders r) os d.state in
          let s : o ≡ q = cc in
          let there = subst (λ (ys : List (Out Msg)). In (out.Send way (msg.Start x ask)) ys) (sym (carrying_begin o known ask (ap (λ (y : Order). y.what) s ∙ begins))) k in
          let g = sends_place l b d.outs way (msg.Start x ask) link there in
          let low = get_below (sends_of l b d.outs) g.0 (record { beat = b; item = msg.Start x ask }) g.1 in
          (g.0, omega arith, get-front (sends_of l b d.outs) (sends_of l b f.outs) g.0 (record { beat = b; item = msg.Start x ask }) g.1)
      earlier o os known l b place v m n w (suc i) q ask way x less is begins k link =
          let d : Deed Msg Known = carrying p orders r o known in
          let f : Deed Msg Known = each_in_turn (carrying p orders r) os d.state in
          let g = n.ahead i q ask way x (omega (arith, less)) is begins k link in
          let low = g.1 in
          (length (sends_of l b d.outs) + g.0, omega arith, get_behind (sends_of l b d.outs) (sends_of l b f.outs) g.0 (record { beat = b; item = msg.Start x ask }) g.2)
