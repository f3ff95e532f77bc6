-- A cub tells the controller of each Put, in the same tick, and else only of a tenancy whose first state has just come, which
-- is sent at a Put alone.
use Rattle.std.proofs.Common.{◌≡◌, ℕ, ◌+◌, ◌<◌, ◌≤◌, ◌==◌, ◌&&◌, List, Bool, true, not, is_some, Option, refl, sym, ap, ◌∙◌, arith, ⊎_elim, inl, inr}
use Rattle.std.specs.Prelude.{◌⊎◌}
use Rattle.std.proofs.lemmas.Bool.{and_parts, eqb-true}
use Rattle.tiger_base.specs.declared.number.LinkNo.{LinkNo}
use Rattle.tiger_base.specs.declared.number.Stamp.{Stamp}
use Rattle.tiger_base.specs.declared.tenancy.State.{State}
use Rattle.tiger_base.specs.declared.tenancy.Tenancy.{Tenancy}
use Rattle.tiger_base.specs.declared.message.Msg.{Msg}
use Rattle.tiger_base.specs.declared.message.Msg.TheVariants as msg
use Rattle.tiger_base.specs.Limits.{most_reading}
use Rattle.slot_plan.specs.declared.params.Params.{Params}
use Rattle.slot_plan.specs.Conditions.{IsPlan}
use Rattle.slot_plan.specs.Keys.{Key}
use Rattle.node_kit.specs.declared.outbox.Out.{Out}
use Rattle.node_kit.specs.declared.outbox.Out.TheVariants as out
use Rattle.node_kit.specs.Steps.{Input, stamp_of}
use Rattle.node_kit.specs.Steps.Input.{Take, Tick}
use Rattle.partial_view.specs.declared.line.Line.{Line}
use Rattle.partial_view.specs.Views.{line_at}
use Rattle.cub_rules.specs.declared.store.Store.{Store}
use Rattle.cub_rules.specs.State.{IsStoreOf}
use Rattle.cub_rules.specs.Messages.{is_news, taking}
use Rattle.cub_rules.specs.Ticks.{told_placed}
use Rattle.cub_changes.specs.Changes.Change.{SendFirst, SendPlaced, Forward}
use Rattle.cub_changes.specs.Causes.{MayTellPlace}
use Rattle.cub_changes.specs.Causes.Stage.{OnMessage}
use Rattle.proof_lives.specs.Lives.{cut_outs, deed_of}
use Rattle.lists.specs.Elements.{In}
use Rattle.lists.proofs.Each.{all_in}
use Rattle.proof_lives.proofs.Cuts.{from_cut_outs}
use Rattle.proof_lives.proofs.Inserting.{put_out}
use Rattle.proof_lives.proofs.Steps.{forwarding_tells}
use Rattle.proof_lives.proofs.Taking.{IsNoPut, message_placed, taking_hears}
use Rattle.proof_lives.proofs.TakingOver.{inserting_puts}
use Rattle.proof_lives.proofs.Ticking.{before_inserting, before_forwarding, inserted_out, forwarded}
use Rattle.proof_lives.proofs.States.{put_inserted}
use Rattle.proof_controller.proofs.PutFirst.{first_state, put_went}

-- an input brings the state of a tenancy's first visit
pub record BringsFirst (i : Input Msg) (t : Tenancy) : Type 0 where
  pub stamp : Stamp
  pub link : LinkNo
  pub is : i ≡ Take stamp link (msg.ViewerState (first_state t))

-- news is of a first visit
first_news : (s : State) (k : Key) (ls : List Line) → is_news s k ls ≡ true → s.visit ≡ s.tenancy.first
first_news s k ls e =
    let new : Bool = not (is_some (line_at (s.tenancy.slot, s.visit) ls)) in
    let both = and_parts (not (k.1 == s.visit)) (s.visit == s.tenancy.first && new) e in
    eqb-true _ _ (and_parts (s.visit == s.tenancy.first) new both.1).0

brings_first : (p : Params) (c : ℕ) (stamp : Stamp) (way : LinkNo) (m : Msg) (t : Tenancy) (h : Store)
    → MayTellPlace p c stamp (OnMessage way m) h t → BringsFirst (Take stamp way m) t
brings_first p c stamp way (msg.ViewerState s) t h may = record {
  stamp = stamp;
  link = way;
  is = ap (λ (n : ℕ). Take stamp way (msg.ViewerState (record { tenancy = s.tenancy; visit = n }))) (first_news s may.0 h.view.lines may.3)
      ∙ ap (λ (u : Tenancy). Take stamp way (msg.ViewerState (first_state u))) (sym may.2);
}
brings_first p c stamp way other t h may = absurd may

module _ (p : Params) (c : ℕ) (plan : IsPlan p) (here : c < p.cubs) where
  -- who is put is told
  pub put_tells : (i : Input Msg) (h : Store) (t : Tenancy) → In (put_out t) (deed_of p c i h).outs → In (told_placed p c t) (deed_of p c i h).outs
  put_tells (Take stamp link m) h t k = absurd (all_in IsNoPut (put_out t) (taking p c stamp link m h).outs (taking_hears p c stamp link m h).no_puts k)
  put_tells (Tick stamp) h t k =
      inserted_out p c stamp h (told_placed p c t) ((inserting_puts p c stamp plan here (before_inserting p c stamp h)).tells t (put_inserted p c plan here stamp h t k))

  -- The place that is told is of a Put, or of the first state of a tenancy, which has just come. If what tells it goes out
  -- though the cub dies, so does the Put.
  pub told_of : (cut : Option ℕ) (i : Input Msg) (h : Store) (link : LinkNo) (t : Tenancy)
      → In (out.Send link (msg.Placed t)) (cut_outs cut (deed_of p c i h).outs)
      → In (put_out t) (cut_outs cut (deed_of p c i h).outs) ⊎ BringsFirst i t
  told_of cut (Take stamp way m) h link t k =
      let sent = from_cut_outs cut (out.Send link (msg.Placed t)) (taking p c stamp way m h).outs k in
      inr (brings_first p c stamp way m t h (message_placed p c stamp way m h link t sent))
  told_of cut (Tick stamp) h link t k =
      inl (put_went p c stamp cut h t (out.Send link (msg.Placed t)) refl (λ q. q)
      (λ i. ⊎_elim
      (λ (e : Forward ≡ SendFirst t). absurd (cc))
      (λ (e : Forward ≡ SendPlaced t). absurd (cc))
      (forwarding_tells p c stamp (before_forwarding p c stamp h) (out.Send link (msg.Placed t)) i))
      k)

  -- The state of a first visit is sent at the Put: what is forwarded is the state of a visit behind a record's.
  pub first_put : (cut : Option ℕ) (i : Input Msg) (h : Store) (link : LinkNo) (t : Tenancy) → IsStoreOf p c h
      → (stamp_of i).reading ≤ most_reading
      → In (out.Send link (msg.ViewerState (first_state t))) (cut_outs cut (deed_of p c i h).outs)
      → In (put_out t) (cut_outs cut (deed_of p c i h).outs)
  first_put cut (Take stamp way m) h link t kept short k =
      let o : Out Msg = out.Send link (msg.ViewerState (first_state t)) in
      let sent = from_cut_outs cut o (taking p c stamp way m h).outs k in
      absurd (all_in IsNoPut o (taking p c stamp way m h).outs (taking_hears p c stamp way m h).no_puts sent)
  first_put cut (Tick stamp) h link t kept short k =
      put_went p c stamp cut h t (out.Send link (msg.ViewerState (first_state t))) refl (λ q. q)
      (λ i.
      let f = (forwarded p c stamp plan here h link (first_state t) i).0 in
      let begun : f.rec.tenancy.first ≤ f.rec.visit = (f.own kept short).begun in
      let first : f.rec.tenancy.first ≡ t.first = ap (λ (u : Tenancy). u.first) f.tenancy in
      let next : t.first ≡ f.rec.visit + 1 = f.next in
      absurd (omega arith))
      k
