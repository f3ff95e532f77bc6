-- The laws of viewer states, insertion and forwarding, of one cub's life.
use Rattle.std.proofs.Common.{◌≡◌, ℕ, ◌+◌, ◌<◌, ◌≤◌, nat_lt, true, false, refl, sym, ap, subst, ◌∙◌, arith, ⊎_elim, inl}
use Rattle.std.specs.Prelude.{◌⊎◌, ◌&&◌, ◌||◌}
use Rattle.std.proofs.lemmas.Bool.{cases_Bool, cases_lt, and_parts, and_from, ltb-true, leb-true, lt-ltb, le-leb, or_left}
use Rattle.tiger_base.specs.declared.number.LinkNo.{LinkNo}
use Rattle.tiger_base.specs.declared.number.Stamp.{Stamp}
use Rattle.tiger_base.specs.declared.tenancy.Kind.{Kind}
use Rattle.tiger_base.specs.declared.tenancy.Kind.TheVariants.{Own, Backup}
use Rattle.tiger_base.specs.declared.tenancy.Rec.{Rec}
use Rattle.tiger_base.specs.declared.tenancy.State.{State}
use Rattle.tiger_base.specs.declared.tenancy.Tenancy.{Tenancy}
use Rattle.tiger_base.specs.declared.message.Msg.{Msg}
use Rattle.tiger_base.specs.declared.message.Msg.TheVariants as msg
use Rattle.slot_plan.specs.declared.params.Params.{Params}
use Rattle.slot_plan.specs.Conditions.{IsPlan}
use Rattle.slot_plan.specs.Times.{due, cub_of}
use Rattle.slot_plan.proofs.Times.{cub_apart, seven_cubs}
use Rattle.node_kit.specs.declared.outbox.Out.{Out}
use Rattle.node_kit.specs.declared.outbox.Out.TheVariants as out
use Rattle.node_kit.specs.Steps.{Input}
use Rattle.node_kit.specs.Steps.Input.{Take, Tick}
use Rattle.state_forward.specs.Forwards.{is_batch_beat, is_next_due, must_forward}
use Rattle.node_kit.specs.Ways.{way_ahead}
use Rattle.cub_rules.specs.declared.store.Store.{Store}
use Rattle.cub_rules.specs.State.{IsRecordOf, visit_here}
use Rattle.cub_rules.specs.Ticks.{inserting, ticking}
use Rattle.cub_rules.specs.Messages.{taking}
use Rattle.proof_lives.specs.Lives.{deed_of, store_at, outs_at}
use Rattle.run_facts.specs.Events.{is_tick_input}
use Rattle.lists.specs.Elements.{In}
use Rattle.lists.proofs.Each.{all_in}
use Rattle.proof_lives.proofs.Moves.{taken_out, IsQuiet, IsMeek}
use Rattle.proof_lives.proofs.Inserting.{put_out, Nobody}
use Rattle.cub_changes.specs.Changes.Change.{PassOn, PutStart, SendFirst, SendPlaced, Forward}
use Rattle.cub_changes.proofs.Outputs.{Tells}
use Rattle.proof_lives.proofs.Steps.{forwarding_tells, forwarding_untaken}
use Rattle.proof_lives.proofs.Taking.{IsNoPut, taking_hears}
use Rattle.proof_lives.proofs.TakingOver.{inserting_puts}
use Rattle.tiger_base.specs.Kinds.{is_own}
use Rattle.proof_lives.proofs.Ticking.{forwarded, before_inserting, before_forwarding, loud}
use Rattle.proof_lives.proofs.Order.{tick_of}

-- an input's stamp
pub stamp_made : (s : Stamp) (b : ℕ) → s.beat ≡ b → s ≡ record { beat = b; reading = s.reading }
stamp_made s b e = ap (λ (n : ℕ). record { beat = n; reading = s.reading }) e

-- what kind of input puts out what
module _ (p : Params) (c : ℕ) (plan : IsPlan p) (here : c < p.cubs) where
  -- a Put and a state come from a tick only
  pub put_at_tick : (i : Input Msg) (h : Store) (t : Tenancy) → In (put_out t) (deed_of p c i h).outs → is_tick_input i ≡ true
  put_at_tick (Take stamp link m) h t k = absurd (all_in IsNoPut (put_out t) (taking p c stamp link m h).outs (taking_hears p c stamp link m h).no_puts k)
  put_at_tick (Tick stamp) h t k = refl

  pub state_at_tick : (i : Input Msg) (h : Store) (link : LinkNo) (s : State) → In (out.Send link (msg.ViewerState s)) (deed_of p c i h).outs → is_tick_input i ≡ true
  state_at_tick (Take stamp way m) h link s k =
      absurd (all_in IsNoPut (out.Send link (msg.ViewerState s)) (taking p c stamp way m h).outs (taking_hears p c stamp way m h).no_puts k)
  state_at_tick (Tick stamp) h link s k = refl

  -- of a tick: a Put, and a record, is insertion's
  pub put_inserted : (stamp : Stamp) (h : Store) (t : Tenancy) → In (put_out t) (ticking p c stamp h).outs → In (put_out t) (inserting p c stamp (before_inserting p c stamp h)).outs
  put_inserted stamp h t k = ⊎_elim
      (λ i. i)
      (λ i. let e : Forward ≡ PutStart t = forwarding_tells p c stamp (before_forwarding p c stamp h) (put_out t) i in absurd (cc))
      (loud p c stamp h (put_out t) (λ q. q) k)

  pub took_inserted : (stamp : Stamp) (h : Store) (r : Rec) → In (taken_out r) (ticking p c stamp h).outs → In (taken_out r) (inserting p c stamp (before_inserting p c stamp h)).outs
  took_inserted stamp h r k = ⊎_elim
      (λ i. i)
      (λ i. absurd (forwarding_untaken p c stamp (before_forwarding p c stamp h) r i))
      (loud p c stamp h (taken_out r) (λ q. q) k)

-- a state goes out on the link to the next cub or to the one after it
pub state_way : (p : Params) (c : ℕ) → IsPlan p → c < p.cubs → (i : Input Msg) (h : Store) (link : LinkNo) (s : State) → In (out.Send link (msg.ViewerState s)) (deed_of p c i h).outs
    → (link ≡ way_ahead p c 1) ⊎ (link ≡ way_ahead p c 2)
state_way p c plan here (Take stamp way m) h link s k =
    absurd (all_in IsNoPut (out.Send link (msg.ViewerState s)) (taking p c stamp way m h).outs (taking_hears p c stamp way m h).no_puts k)
state_way p c plan here (Tick stamp) h link s k = ⊎_elim
    (λ i. inl ((inserting_puts p c stamp plan here (before_inserting p c stamp h)).sent link s i).2)
    (λ i. (forwarded p c stamp plan here h link s i).1)
    (loud p c stamp h (out.Send link (msg.ViewerState s)) (λ q. q) k)

-- a tick sends no start and no deschedule
not_forwarded : (p : Params) (c : ℕ) (stamp : Stamp) (h : Store) (link : LinkNo) (m : Msg) → (IsQuiet (out.Send link m) → ⊥) → ((s : State) → msg.ViewerState s ≡ m → ⊥)
    → Tells p c stamp Forward h (out.Send link m) → ⊥
not_forwarded p c stamp h link (msg.ViewerState s) loud_one other tells = other s refl
not_forwarded p c stamp h link (msg.Start redundant a) loud_one other tells = tells
not_forwarded p c stamp h link (msg.Deschedule v tag) loud_one other tells = let e : Forward ≡ PassOn v tells.0 = tells.1 in absurd (cc)
not_forwarded p c stamp h link (msg.Placed t) loud_one other tells =
    ⊎_elim (λ (e : Forward ≡ SendFirst t). let z : ⊥ = absurd (cc) in z) (λ (e : Forward ≡ SendPlaced t). let z : ⊥ = absurd (cc) in z) tells
not_forwarded p c stamp h link m loud_one other tells = loud_one tt

pub tick_meek : (p : Params) (c : ℕ) → IsPlan p → c < p.cubs → (stamp : Stamp) (h : Store) (link : LinkNo) (m : Msg) → (IsQuiet (out.Send link m) → ⊥) → (IsMeek Nobody (out.Send link m) → ⊥)
    → ((s : State) → msg.ViewerState s ≡ m → ⊥) → In (out.Send link m) (ticking p c stamp h).outs → ⊥
tick_meek p c plan here stamp h link m loud_one meek_one other k = ⊎_elim
    (λ i. meek_one (all_in (IsMeek Nobody) (out.Send link m) _ (inserting_puts p c stamp plan here (before_inserting p c stamp h)).plain i))
    (λ i. not_forwarded p c stamp (before_forwarding p c stamp h) link m loud_one other (forwarding_tells p c stamp (before_forwarding p c stamp h) (out.Send link m) i))
    (loud p c stamp h (out.Send link m) loud_one k)

-- a tick in a life
pub record AtTick (p : Params) (c : ℕ) (inputs : ℕ → Input Msg) (i : ℕ) (o : Out Msg) : Type 0 where
  pub stamp : Stamp
  pub is : inputs i ≡ Tick stamp
  pub did : In o (ticking p c stamp (store_at p c inputs i)).outs

pub at_tick : (p : Params) (c : ℕ) (inputs : ℕ → Input Msg) (i : ℕ) (o : Out Msg) → is_tick_input (inputs i) ≡ true → In o (outs_at p c inputs i) → AtTick p c inputs i o
at_tick p c inputs i o tick k =
    let s = tick_of (inputs i) tick in
    record { stamp = s.0; is = s.1; did = subst (λ (q : Input Msg). In o (deed_of p c q (store_at p c inputs i)).outs) s.1 k }

pub from_tick : (p : Params) (c : ℕ) (inputs : ℕ → Input Msg) (i : ℕ) (stamp : Stamp) (o : Out Msg) → inputs i ≡ Tick stamp → In o (ticking p c stamp (store_at p c inputs i)).outs → In o (outs_at p c inputs i)
from_tick p c inputs i stamp o e k = subst (λ (q : Input Msg). In o (deed_of p c q (store_at p c inputs i)).outs) (sym e) k

pub tick_true : (inputs : ℕ → Input Msg) (i : ℕ) (stamp : Stamp) → inputs i ≡ Tick stamp → is_tick_input (inputs i) ≡ true
tick_true inputs i stamp e = ap is_tick_input e

-- the forwarding test
pub forward_parts : (p : Params) (stamp : Stamp) (q : Rec) → IsPlan p → must_forward p stamp q ≡ true
    → (is_own q.kind ≡ true) × (q.visit < q.tenancy.last) × (due p q.tenancy.slot.0 (q.visit + 1) ≤ stamp.reading + p.max_lead)
unfolding must_forward
forward_parts p stamp q plan e =
    let soon = is_next_due p q (stamp.reading + p.min_lead) in
    let late = is_batch_beat p stamp.beat && is_next_due p q (stamp.reading + p.max_lead) in
    let both = and_parts (is_own q.kind && nat_lt q.visit q.tenancy.last) (soon || late) e in
    let first = and_parts (is_own q.kind) (nat_lt q.visit q.tenancy.last) both.0 in
    let c6 = plan.c6 in (
      first.0,
      ltb-true _ _ first.1,
      ⊎_elim
          (λ (t : soon ≡ true). let l = leb-true _ _ t in omega arith)
          (λ (t : soon ≡ false). let w : late ≡ true = subst (λ b. (b || late) ≡ true) t both.1 in leb-true _ _ (and_parts (is_batch_beat p stamp.beat) (is_next_due p q (stamp.reading + p.max_lead)) w).1)
          (cases_Bool soon),
    )

pub forward_must : (p : Params) (stamp : Stamp) (q : Rec) → is_own q.kind ≡ true → q.visit < q.tenancy.last → due p q.tenancy.slot.0 (q.visit + 1) ≤ stamp.reading + p.min_lead
    → must_forward p stamp q ≡ true
unfolding must_forward
forward_must p stamp q own more soon =
    and_from _ _ (and_from _ _ own (lt-ltb q.visit q.tenancy.last more))
    (or_left (is_next_due p q (stamp.reading + p.min_lead)) (is_batch_beat p stamp.beat && is_next_due p q (stamp.reading + p.max_lead)) (le-leb _ _ soon))

pub forward_early : (p : Params) (stamp : Stamp) (q : Rec) → is_own q.kind ≡ true → q.visit < q.tenancy.last → must_forward p stamp q ≡ false
    → stamp.reading + p.min_lead < due p q.tenancy.slot.0 (q.visit + 1)
forward_early p stamp q own more e = ⊎_elim
    (λ l. l)
    (λ g. let z : true ≡ false = sym (forward_must p stamp q own more g) ∙ e in absurd (cc))
    (cases_lt (stamp.reading + p.min_lead) (due p q.tenancy.slot.0 (q.visit + 1)))

-- a record of a visit of the cub's own is an own record, and an own record is of such a visit
pub own_kind : (p : Params) (c : ℕ) (q : Rec) → IsPlan p → IsRecordOf p c q → c ≡ cub_of p q.visit → is_own q.kind ≡ true
own_kind p c q plan of here = go q.kind refl
  where
    seven : 7 ≤ p.cubs
    seven = seven_cubs p plan

    go : (k : Kind) → q.kind ≡ k → is_own k ≡ true
    go Own e = refl
    go Backup e =
        let next : cub_of p (visit_here Backup q.visit) ≡ c = ap (λ (k : Kind). cub_of p (visit_here k q.visit)) (sym e) ∙ of.here in
        absurd (cub_apart p q.visit 1 (omega arith) (omega arith) (sym (next ∙ here)))

pub own_visit : (p : Params) (c : ℕ) (q : Rec) → IsRecordOf p c q → is_own q.kind ≡ true → c ≡ cub_of p q.visit
own_visit p c q of own = go q.kind refl own
  where
    go : (k : Kind) → q.kind ≡ k → is_own k ≡ true → c ≡ cub_of p q.visit
    go Own e t = sym of.here ∙ ap (λ (k : Kind). cub_of p (visit_here k q.visit)) e
    go Backup e t = absurd (cc)

pub at_tick_same : (p : Params) (c : ℕ) (inputs : ℕ → Input Msg) (i : ℕ) (stamp : Stamp) (o : Out Msg) → inputs i ≡ Tick stamp → In o (outs_at p c inputs i)
    → In o (ticking p c stamp (store_at p c inputs i)).outs
at_tick_same p c inputs i stamp o e k = subst (λ (q : Input Msg). In o (deed_of p c q (store_at p c inputs i)).outs) e k
