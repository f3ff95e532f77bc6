-- How the controller stops an instance as it carries out the orders of a beat: where, once, and by which outputs.
use Rattle.std.proofs.Common.{◌≡◌, ℕ, ◌==◌, nat_lt, List, [], ◌∷◌, ◌++◌, Bool, true, false, Option, Some, None, refl, sym, subst, ◌∙◌, ⊎_elim, inl, inr}
use Rattle.std.proofs.lemmas.Bool.{eq-eqb, ltb-false, or_left, or_right}
use Rattle.std.proofs.lemmas.List.Folds.{list_any-append}
use Rattle.tiger_base.specs.declared.number.Instance.{Instance}
use Rattle.tiger_base.specs.declared.tenancy.Ask.{Ask}
use Rattle.tiger_base.specs.declared.tenancy.Tag.{Tag}
use Rattle.tiger_base.specs.declared.tenancy.Tenancy.{Tenancy}
use Rattle.tiger_base.specs.declared.message.Msg.{Msg}
use Rattle.slot_plan.specs.declared.params.Params.{Params}
use Rattle.node_kit.specs.declared.course.Order.{Order}
use Rattle.node_kit.specs.declared.course.OrderKind.{OrderKind}
use Rattle.node_kit.specs.declared.course.OrderKind.TheVariants.{Begin, Finish}
use Rattle.node_kit.specs.declared.journal.What.TheVariants as what
use Rattle.node_kit.specs.declared.outbox.Out.{Out}
use Rattle.node_kit.specs.declared.outbox.Out.TheVariants as out
use Rattle.node_kit.specs.Steps.{Deed}
use Rattle.node_kit.specs.Deeds.{nothing, each_in_turn}
use Rattle.controller_core.specs.declared.known.Known.{Known}
use Rattle.controller_core.specs.Orders.{start_of}
use Rattle.controller_core.specs.State.{tenancy_of, is_gone}
use Rattle.controller_core.specs.Rules.{starts, gone_from, visit_due, stops_start, stops, stopping, carries, carrying}
use Rattle.lists.specs.Elements.{In}
use Rattle.lists.proofs.Elements.{chosen, in_left, in_right, in_cases}
use Rattle.proof_controller.specs.Stops.{tag_at, IsStopOf, Speaks, stop_outs, Stopped, AreStops}

pub wider : (p : Params) (orders : List Order) (r : ℕ) (before known : Known) (outs more : List (Out Msg)) (v : Instance) (o : Out Msg) → known.placed ≡ before.placed
    → (is_gone before.gone v ≡ true → is_gone known.gone v ≡ true) → ((x : Out Msg) → In x outs → In x more) → Stopped p orders r known outs v o → Stopped p orders r before more v o
wider p orders r before known outs more v o same grows wide s = record {
  tag = s.tag;
  number = s.number;
  is = subst (λ (placed : List Tenancy). IsStopOf p orders r placed v s.tag s.number) same s.is;
  fresh = still_not (is_gone before.gone v) (is_gone known.gone v) grows s.fresh;
  all = λ x i. wide x (s.all x i);
  which = s.which;
}
  where
    still_not : (a b : Bool) → (a ≡ true → b ≡ true) → b ≡ false → a ≡ false
    still_not true b f e = let z : true ≡ false = sym (f refl) ∙ e in absurd (cc)
    still_not false b f e = refl

pub gone_more : (v w : Instance) (gone : List Instance) → is_gone gone v ≡ true → is_gone (gone ++ w ∷ []) v ≡ true
gone_more v w gone e = list_any-append (λ (x : Instance). x.0 == v.0) gone (w ∷ []) ∙ or_left (is_gone gone v) (is_gone (w ∷ []) v) e

pub gone_last : (v : Instance) (gone : List Instance) → is_gone (gone ++ v ∷ []) v ≡ true
gone_last v gone =
    list_any-append (λ (x : Instance). x.0 == v.0) gone (v ∷ [])
    ∙ or_right (is_gone gone v) (is_gone (v ∷ []) v) (or_left (v.0 == v.0) false (eq-eqb v.0 v.0 refl))

-- who is spoken of in the outputs of a stop
pub spoken : (p : Params) (v w : Instance) (tag : Option Tag) (n : ℕ) (o : Out Msg) → Speaks v o → In o (stop_outs p w tag n) → w ≡ v
spoken p v w tag n o s i = ⊎_elim
    (λ e. subst (Speaks v) e s)
    (λ i. ⊎_elim (λ e. subst (Speaks v) e s) (λ i. ⊎_elim (λ e. subst (Speaks v) e s) (λ i. absurd i) i) i)
    i

module _ (p : Params) (orders : List Order) (r : ℕ) where
  pub nothing_stops : (known : Known) → AreStops p orders r known (nothing known)
  nothing_stops known = record { grows = record { placed = refl; gone = λ v e. e }; stopped = λ v o s i. absurd i; after = λ v i. absurd i }

  -- one stop
  pub gone_stops : (w : Instance) (tag : Option Tag) (n : ℕ) (known : Known) → IsStopOf p orders r known.placed w tag n → is_gone known.gone w ≡ false
      → AreStops p orders r known (gone_from p w tag n known)
  unfolding gone_from
  gone_stops w tag n known is fresh = record {
    grows = record { placed = refl; gone = λ v e. gone_more v w known.gone e };
    stopped = λ v o s i.
        subst (λ (u : Instance). Stopped p orders r known (stop_outs p w tag n) u o) (spoken p v w tag n o s i)
        (record { tag = tag; number = n; is = is; fresh = fresh; all = λ x k. k; which = i });
    after = λ v i. subst (λ (u : Instance). is_gone (known.gone ++ w ∷ []) u ≡ true) (spoken p v w tag n (out.Act (what.Gone v)) refl i) (gone_last w known.gone);
  }

  pub stops_stops : (w : Instance) (o : Option Tenancy) (known : Known) → tenancy_of known.placed w ≡ o → is_gone known.gone w ≡ false → AreStops p orders r known (stops p orders r w o known)
  stops_stops w (Some t) known e fresh =
      let n : ℕ = visit_due p t r in
      let tag : Option Tag = Some (tag_at t.slot n) in
      chosen (AreStops p orders r known) (nat_lt t.last n) (nothing known) (gone_from p w tag n known)
      (λ _. nothing_stops known)
      (λ low. gone_stops w tag n known (inl (t, e, refl, ltb-false _ _ low, refl)) fresh)
  stops_stops w None known e fresh = by_start (start_of orders w) refl
    where
      by_start : (a : Option Ask) → start_of orders w ≡ a → AreStops p orders r known (stops_start p w a known)
      by_start None f = nothing_stops known
      by_start (Some ask) f = gone_stops w None ask.disk.0 known (inr (ask, e, f, refl, refl)) fresh

  pub stopping_stops : (w : Instance) (known : Known) → AreStops p orders r known (stopping p orders r w known)
  unfolding stopping
  stopping_stops w known =
      chosen (AreStops p orders r known) (is_gone known.gone w) (nothing known) (stops p orders r w (tenancy_of known.placed w) known)
      (λ _. nothing_stops known)
      (λ fresh. stops_stops w (tenancy_of known.placed w) known refl fresh)

  -- a start speaks of no stop
  pub starts_speak : (ask : Ask) (v : Instance) (o : Out Msg) → Speaks v o → In o (starts p ask) → ⊥
  unfolding starts
  starts_speak ask v o s i = ⊎_elim (λ e. subst (Speaks v) e s) (λ i. ⊎_elim (λ e. subst (Speaks v) e s) (λ i. i) i) i

  pub carries_stops : (kind : OrderKind) (known : Known) → AreStops p orders r known (carries p orders r kind known)
  carries_stops (Begin ask) known = record {
    grows = record { placed = refl; gone = λ v e. e };
    stopped = λ v o s i. absurd (starts_speak ask v o s i);
    after = λ v i. absurd (starts_speak ask v (out.Act (what.Gone v)) refl i);
  }
  carries_stops (Finish w) known = stopping_stops w known

  pub carrying_stops : (o : Order) (known : Known) → AreStops p orders r known (carrying p orders r o known)
  unfolding carrying
  carrying_stops o known = carries_stops o.what known

  -- one order after another
  pub each_stops : (os : List Order) (known : Known) → AreStops p orders r known (each_in_turn (carrying p orders r) os known)
  each_stops [] known = nothing_stops known
  each_stops (o ∷ os) known =
      let d : Deed Msg Known = carrying p orders r o known in
      let e : Deed Msg Known = each_in_turn (carrying p orders r) os d.state in
      let one = carrying_stops o known in
      let two = each_stops os d.state in
      record {
        grows = record { placed = two.grows.placed ∙ one.grows.placed; gone = λ v g. two.grows.gone v (one.grows.gone v g) };
        stopped = λ v x s i. ⊎_elim
            (λ k. wider p orders r known known d.outs (d.outs ++ e.outs) v x refl (λ g. g) (λ y j. in_left y d.outs e.outs j) (one.stopped v x s k))
            (λ k. wider p orders r known d.state e.outs (d.outs ++ e.outs) v x one.grows.placed (one.grows.gone v) (λ y j. in_right y d.outs e.outs j) (two.stopped v x s k))
            (in_cases x d.outs e.outs i);
        after = λ v i. ⊎_elim
            (λ k. two.grows.gone v (one.after v k))
            (λ k. two.after v k)
            (in_cases (out.Act (what.Gone v)) d.outs e.outs i);
      }
