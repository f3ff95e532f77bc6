-- In what a cub puts out a Put stands in front of its state and of the place that is told, so that it goes out if one of these does.
use Rattle.std.proofs.Common.{◌≡◌, ℕ, List, [], ◌∷◌, ◌++◌, Option, sym, ap, subst, ◌∙◌, ⊎_elim, inl}
use Rattle.std.specs.List.{AllByRecursion}
use Rattle.tiger_base.specs.declared.number.Stamp.{Stamp}
use Rattle.tiger_base.specs.declared.tenancy.Rec.{Rec}
use Rattle.tiger_base.specs.declared.tenancy.State.{State}
use Rattle.tiger_base.specs.declared.tenancy.Tenancy.{Tenancy}
use Rattle.tiger_base.specs.declared.message.Msg.{Msg}
use Rattle.tiger_base.specs.declared.message.Msg.TheVariants as msg
use Rattle.slot_plan.specs.declared.params.Params.{Params}
use Rattle.node_kit.specs.declared.outbox.Out.{Out}
use Rattle.node_kit.specs.declared.outbox.Out.TheVariants as out
use Rattle.node_kit.specs.Steps.{Deed}
use Rattle.cub_rules.specs.declared.store.Store.{Store}
use Rattle.cub_rules.specs.Ticks.{putting_own, putting_for_dead, inserting, ticking}
use Rattle.cub_changes.proofs.Closed.{IsClosed}
use Rattle.cub_changes.proofs.Puts.{puts_by}
use Rattle.lists.specs.Elements.{In}
use Rattle.lists.proofs.Each.{all_in}
use Rattle.lists.proofs.Elements.{in_right}
use Rattle.proof_lives.specs.Lives.{cut_outs}
use Rattle.proof_lives.proofs.Beside.{goes_at, in_place, in_tick, no_place, outs_of_forwarding, place_in}
use Rattle.proof_lives.proofs.Inserting.{put_out}
use Rattle.proof_lives.proofs.Moves.{IsQuiet}
use Rattle.proof_lives.proofs.Putting.{OfPut, TakesOwn, TakesForDead, own_outs, dead_outs}
use Rattle.cub_changes.proofs.Chains.{own_puts, dead_puts}

-- the state of a tenancy's first visit
abbrev pub first_state : Tenancy → State
first_state t = record { tenancy = t; visit = t.first }

-- an output tells of a Put: it is the state of the first visit, or it tells the controller of the place
abbrev pub IsOf : Tenancy → Out Msg → Type 0
IsOf t (out.Send link (msg.ViewerState s)) = s ≡ first_state t
IsOf t (out.Send link (msg.Placed u)) = u ≡ t
IsOf t other = ⊥

-- in front of each such output stands its Put
abbrev pub AreLed : List (Out Msg) → Type 0
AreLed outs = (xs ys : List (Out Msg)) (o : Out Msg) (t : Tenancy) → IsOf t o → outs ≡ xs ++ o ∷ ys → In (put_out t) xs

abbrev Led : Store → Deed Msg Store → Type 0
Led h d = AreLed d.outs

led_closed : IsClosed Led
led_closed = record {
  none = λ h xs ys o t of is. absurd (no_place o xs ys is);
  both = λ h d e one two xs ys o t of is. ⊎_elim
      (λ k. one xs k.0 o t of k.1)
      (λ k. subst (λ (l : List (Out Msg)). In (put_out t) l) (sym k.1) (in_right (put_out t) d.outs k.0 (two k.0 ys o t of k.2)))
      (place_in d.outs e.outs xs ys o is);
}

module _ (p : Params) (c : ℕ) where
  -- an output of one Put that tells of a Put tells of that one
  of_one : (t u : Tenancy) (Takes : Rec → Type 0) (o : Out Msg) → OfPut p c t Takes o → IsOf u o → u ≡ t
  of_one t u Takes (out.Send link (msg.ViewerState s)) k of = ap (λ (q : State). q.tenancy) (sym of ∙ k.0)
  of_one t u Takes (out.Send link (msg.Placed w)) k of = sym of ∙ k
  of_one t u Takes (out.Send link other) k of = absurd of
  of_one t u Takes (out.Act other) k of = absurd of

  -- one Put, which is the first output
  led_one : (t : Tenancy) (Takes : Rec → Type 0) (outs rest : List (Out Msg)) → outs ≡ put_out t ∷ rest
      → AllByRecursion (OfPut p c t Takes) outs → AreLed outs
  led_one t Takes outs rest first all [] ys o u of is =
      let here : put_out t ∷ rest ≡ o ∷ ys = sym first ∙ is in
      let same : o ≡ put_out t = cc in
      absurd (subst (IsOf u) same of)
  led_one t Takes outs rest first all (x ∷ xs) ys o u of is =
      let here : put_out t ∷ rest ≡ x ∷ xs ++ o ∷ ys = sym first ∙ is in
      let same : put_out t ≡ x = cc in
      let mine = of_one t u Takes o (all_in (OfPut p c t Takes) o outs all (in_place o outs (x ∷ xs) ys is)) of in
      inl (ap put_out mine ∙ same)

  module _ (stamp : Stamp) where
    own_led : (t : Tenancy) (h : Store) → Led h (putting_own p c t h)
    own_led t h = led_one t (TakesOwn t) (putting_own p c t h).outs _ (sym (own_puts p c t h)) (own_outs p c stamp t h)

    dead_led : (t : Tenancy) (h : Store) → Led h (putting_for_dead p c t h)
    dead_led t h = led_one t (TakesForDead t) (putting_for_dead p c t h).outs _ (sym (dead_puts p c t h)) (dead_outs p c stamp t h)

    -- all Puts of a tick
    inserting_led : (h : Store) → AreLed (inserting p c stamp h).outs
    inserting_led h =
        puts_by Led led_closed p c stamp h (λ t q o i. own_led t q) (λ t q o believes i. dead_led t q)

    -- So if such an output of a tick goes out, and forwarding did not put it out, its Put goes out.
    pub put_went : (cut : Option ℕ) (h : Store) (t : Tenancy) (o : Out Msg) → IsOf t o → (IsQuiet o → ⊥)
        → (In o (outs_of_forwarding p c stamp h) → ⊥) → In o (cut_outs cut (ticking p c stamp h).outs)
        → In (put_out t) (cut_outs cut (ticking p c stamp h).outs)
    put_went cut h t o of loud other i =
        let g = goes_at cut (ticking p c stamp h).outs o i in
        ⊎_elim
        (λ k. g.before (put_out t) (k.before (put_out t) (inserting_led _ k.front k.back o t of k.is)))
        (λ k. absurd (other k.0))
        (in_tick p c stamp h g.front g.back o loud g.is)
