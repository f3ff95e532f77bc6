-- Which states go out in a beat, beside the time up to which they are forwarded.
use Rattle.std.proofs.Common.{◌≡◌, ℕ, ◌+◌, ◌-◌, ◌^◌, ◌<◌, ◌≤◌, Bool, true, false, cond, not, ◌&&◌, ◌||◌, nat_lt, nat_le, Option, find, List, [], ◌∷◌, ◌++◌, map, refl, sym, ap, subst, ◌∙◌, ⊎_elim, arith}
use Rattle.std.specs.List.{flat_map}
use Rattle.std.proofs.lemmas.Bool.{and_parts, or_cases, or_parts, both_ways, leb-true, leb-false}
use Rattle.tiger_base.specs.declared.number.Stamp.{Stamp}
use Rattle.tiger_base.specs.declared.message.Msg.{Msg}
use Rattle.tiger_base.specs.Kinds.{is_own}
use Rattle.tiger_base.specs.Limits.{most_reading}
use Rattle.node_kit.specs.declared.outbox.Out.{Out}
use Rattle.partial_view.specs.Views.{Seen}
use Rattle.partial_view.proofs.Calls.{record_of}
use Rattle.node_kit.specs.Deeds.{Did}
use Rattle.cub_rules.specs.declared.store.Store.{Store}
use Rattle.std.proofs.lemmas.List.{append-nil}
use Rattle.slot_plan.specs.declared.params.Params.{Params}
use Rattle.slot_plan.specs.Conditions.{IsPlan}
use Rattle.slot_plan.proofs.Times.{due_next}
use Rattle.slot_plan.specs.Keys.{due_of}
use Rattle.partial_view.specs.declared.line.Line.{Line}
use Rattle.partial_view.specs.declared.line.Flag.TheVariants.{Forwarded}
use Rattle.partial_view.specs.Lines.{key_of, marked}
use Rattle.partial_view.specs.Work.{is_between, first_between}
use Rattle.state_forward.specs.Forwards.{is_batch_beat, is_next_due, must_forward, next_due}
use Rattle.partial_view.specs.Pending.{is_pending, IsForwardedTo}
use Rattle.cub_rules.specs.Ticks.{is_to_forward, forward_line, forward_outs, forwarding}
use Rattle.cub_tick.specs.Limits.{forward_limit}
use Rattle.cub_tick.proofs.Working.{from_start, find_same}

-- whether the next visit is due within the lead of the beat
abbrev pub is_soon : Params → Stamp → Line → Bool
is_soon p stamp x =
    is_next_due p x.rec (stamp.reading + p.min_lead) || (is_batch_beat p stamp.beat && is_next_due p x.rec (stamp.reading + p.max_lead))

to_forward_soon : (p : Params) (stamp : Stamp) (x : Line) → is_to_forward p stamp x ≡ true → (is_pending x ≡ true) × (is_soon p stamp x ≡ true)
unfolding is_to_forward must_forward
to_forward_soon p stamp x h = bits x.forwarded (is_own x.rec.kind) (nat_lt x.rec.visit x.rec.tenancy.last) (is_soon p stamp x) h
  where
    bits : (f o l s : Bool) → (not f && (o && l && s)) ≡ true → ((o && l && not f) ≡ true) × (s ≡ true)
    bits false true true s e = (refl, e)
    bits true o l s e = absurd (cc)
    bits false false l s e = absurd (cc)
    bits false true false s e = absurd (cc)

pending_late : (p : Params) (stamp : Stamp) (x : Line) → is_to_forward p stamp x ≡ false → is_pending x ≡ true → is_soon p stamp x ≡ false
unfolding is_to_forward must_forward
pending_late p stamp x h pending = bits x.forwarded (is_own x.rec.kind) (nat_lt x.rec.visit x.rec.tenancy.last) (is_soon p stamp x) h pending
  where
    bits : (f o l s : Bool) → (not f && (o && l && s)) ≡ false → (o && l && not f) ≡ true → s ≡ false
    bits false true true s e g = e
    bits true true true s e g = absurd (cc)
    bits f false l s e g = absurd (cc)
    bits f true false s e g = absurd (cc)

-- the lead of the beat reaches up to the limit
soon_by : (p : Params) → IsPlan p → (stamp : Stamp) (x : Line) → is_soon p stamp x ≡ true → next_due p x.rec ≤ forward_limit p stamp
unfolding forward_limit
soon_by p plan stamp x h = by_beat (is_batch_beat p stamp.beat) refl
  where
    by_beat : (b : Bool) → is_batch_beat p stamp.beat ≡ b → next_due p x.rec ≤ stamp.reading + cond b p.max_lead p.min_lead
    by_beat b e =
        ⊎_elim
        (λ low. let by_low : next_due p x.rec ≤ stamp.reading + p.min_lead = leb-true _ _ low in least b by_low)
        (λ high. let both = and_parts _ _ high in most b (sym e ∙ both.0) (leb-true _ _ both.1))
        (or_cases _ _ h)
      where
        least : (b : Bool) → next_due p x.rec ≤ stamp.reading + p.min_lead → next_due p x.rec ≤ stamp.reading + cond b p.max_lead p.min_lead
        least true low = omega (arith, low, plan.c6)
        least false low = low

        most : (b : Bool) → b ≡ true → next_due p x.rec ≤ stamp.reading + p.max_lead → next_due p x.rec ≤ stamp.reading + cond b p.max_lead p.min_lead
        most true is high = high
        most false is high = absurd (cc)

late_after : (p : Params) (stamp : Stamp) (x : Line) → is_soon p stamp x ≡ false → forward_limit p stamp < next_due p x.rec
unfolding forward_limit
late_after p stamp x h =
    let parts = or_parts _ _ h in
    by_beat (is_batch_beat p stamp.beat) parts.0 parts.1
  where
    by_beat : (b : Bool) → is_next_due p x.rec (stamp.reading + p.min_lead) ≡ false → (b && is_next_due p x.rec (stamp.reading + p.max_lead)) ≡ false
        → stamp.reading + cond b p.max_lead p.min_lead < next_due p x.rec
    by_beat true low high = leb-false _ _ high
    by_beat false low high = leb-false _ _ low

-- a state that is not pending by the limit does not go out
stays_here : (p : Params) → IsPlan p → (stamp : Stamp) (x : Line) → (is_pending x ≡ true → forward_limit p stamp < next_due p x.rec) → is_to_forward p stamp x ≡ false
stays_here p plan stamp x h = by_test (is_to_forward p stamp x) refl
  where
    by_test : (t : Bool) → is_to_forward p stamp x ≡ t → is_to_forward p stamp x ≡ false
    by_test false e = e
    by_test true e =
        let both = to_forward_soon p stamp x e in
        absurd (omega (arith, soon_by p plan stamp x both.1, h both.0))

-- a state whose visit is due by the limit goes out if it is pending
forwarded_if_pending : (p : Params) (stamp : Stamp) (x : Line) → next_due p x.rec ≤ forward_limit p stamp → is_to_forward p stamp x ≡ is_pending x
unfolding is_to_forward must_forward
forwarded_if_pending p stamp x h = by_test (is_soon p stamp x) refl
  where
    bits : (f o l : Bool) → (not f && (o && l && true)) ≡ (o && l && not f)
    bits false true true = refl
    bits false true false = refl
    bits false false l = refl
    bits true true true = refl
    bits true true false = refl
    bits true false l = refl

    by_test : (t : Bool) → is_soon p stamp x ≡ t → is_to_forward p stamp x ≡ is_pending x
    by_test true e = rw e (bits x.forwarded (is_own x.rec.kind) (nat_lt x.rec.visit x.rec.tenancy.last))
    by_test false e = absurd (omega (arith, late_after p stamp x e, h))

-- the next visit of a line that is due by a time is due by the limit, if that is a block play time behind the time
next_by : (p : Params) → IsPlan p → (stamp : Stamp) (limit time : ℕ) (x : Line) → limit ≡ forward_limit p stamp → time ≡ limit - p.play → due_of p (key_of x) ≤ time → next_due p x.rec ≤ forward_limit p stamp
unfolding forward_limit
next_by p plan stamp limit time x is_limit is_time h = by_beat (is_batch_beat p stamp.beat) is_limit
  where
    by_beat : (b : Bool) → limit ≡ stamp.reading + cond b p.max_lead p.min_lead → next_due p x.rec ≤ stamp.reading + cond b p.max_lead p.min_lead
    by_beat true e = omega (arith, e, is_time, h, due_next p x.rec.tenancy.slot.0 x.rec.visit, plan.c5, plan.c6)
    by_beat false e = omega (arith, e, is_time, h, due_next p x.rec.tenancy.slot.0 x.rec.visit, plan.c5)

-- nor does it of one that is due later
next_late : (p : Params) → IsPlan p → (stamp : Stamp) (time : ℕ) → forward_limit p stamp ≤ time + p.play → (x : Line) → time < due_of p (key_of x) → is_to_forward p stamp x ≡ false
next_late p plan stamp time end x h = stays_here p plan stamp x (λ pending. omega (arith, end, h, due_next p x.rec.tenancy.slot.0 x.rec.visit))

-- so the states go out of those lines that are pending and due by then
to_forward : (p : Params) → IsPlan p → (stamp : Stamp) (limit time : ℕ) → limit ≡ forward_limit p stamp → time ≡ limit - p.play → (x : Line) → is_between p is_pending 0 time x ≡ is_to_forward p stamp x
to_forward p plan stamp limit time is_limit is_time x = from_start p is_pending time x ∙ by_due (nat_le (due_of p (key_of x)) time) refl
  where
    end : forward_limit p stamp ≤ time + p.play
    end = omega (arith, is_limit, is_time)

    bits_on : (b : Bool) → (b && true) ≡ b
    bits_on true = refl
    bits_on false = refl

    bits_off : (b : Bool) → (b && false) ≡ false
    bits_off true = refl
    bits_off false = refl

    by_due : (t : Bool) → nat_le (due_of p (key_of x)) time ≡ t → (is_pending x && nat_le (due_of p (key_of x)) time) ≡ is_to_forward p stamp x
    by_due true e = rw e (bits_on (is_pending x) ∙ sym (forwarded_if_pending p stamp x (next_by p plan stamp limit time x is_limit is_time (leb-true _ _ e))))
    by_due false e = rw e (bits_off (is_pending x) ∙ sym (next_late p plan stamp time end x (leb-false _ _ e)))

pub forward_first : (p : Params) → IsPlan p → (stamp : Stamp) (limit time : ℕ) → limit ≡ forward_limit p stamp → time ≡ limit - p.play → (now : Seen) → now.params ≡ p → {o : Option Line} → o ≡ first_between now.params is_pending 0 time now.lines
    → o ≡ find (is_to_forward p stamp) now.lines
unfolding first_between
forward_first p plan stamp limit time is_limit is_time now params e =
    e ∙ (ap (λ (q : Params). find (is_between q is_pending 0 time) now.lines) params ∙ find_same (is_between p is_pending 0 time) (is_to_forward p stamp) (to_forward p plan stamp limit time is_limit is_time) now.lines)

-- no time at which a beat forwards is too late
pub time_small : (p : Params) → IsPlan p → (stamp : Stamp) (limit time : ℕ) → stamp.reading ≤ most_reading → limit ≡ forward_limit p stamp → time ≡ limit - p.play → time < 2 ^ 63
unfolding forward_limit
time_small p plan stamp limit time early is_limit is_time = by_beat (is_batch_beat p stamp.beat) is_limit
  where
    by_beat : (b : Bool) → limit ≡ stamp.reading + cond b p.max_lead p.min_lead → time < 2 ^ 63
    by_beat true e = omega (arith, early, e, is_time, plan.ranges.max_lead.1)
    by_beat false e = omega (arith, early, e, is_time, plan.ranges.min_lead.1)

-- a line goes out once
pub forward_once : (p : Params) (stamp : Stamp) (x : Line) → is_to_forward p stamp (marked Forwarded x) ≡ false
unfolding is_to_forward
forward_once p stamp x = refl

-- where all is forwarded up to the limit nothing goes out
pub nothing_out : (p : Params) (cub : ℕ) → IsPlan p → (stamp : Stamp) (lines : List Line) → IsForwardedTo p (forward_limit p stamp) lines → flat_map (forward_outs p cub stamp) lines ≡ []
nothing_out p cub plan stamp [] h = refl
nothing_out p cub plan stamp (x ∷ xs) h = rw (stays_here p plan stamp x h.0) (nothing_out p cub plan stamp xs h.1)

pub nothing_marked : (p : Params) → IsPlan p → (stamp : Stamp) (lines : List Line) → IsForwardedTo p (forward_limit p stamp) lines → map (forward_line p stamp) lines ≡ lines
nothing_marked p plan stamp [] h = refl
nothing_marked p plan stamp (x ∷ xs) h = rw (stays_here p plan stamp x h.0) (ap (λ zs. x ∷ zs) (nothing_marked p plan stamp xs h.1))

-- after the walk all is forwarded up to the limit
forwarded_here : (p : Params) (stamp : Stamp) (x : Line) (t : Bool) → is_to_forward p stamp x ≡ t → is_pending (cond t (marked Forwarded x) x) ≡ true → forward_limit p stamp < next_due p (cond t (marked Forwarded x) x).rec
forwarded_here p stamp x true e pending = absurd (both_ways (is_pending (marked Forwarded x)) (never (is_own x.rec.kind) (nat_lt x.rec.visit x.rec.tenancy.last)) pending)
  where
    never : (o l : Bool) → (o && l && false) ≡ false
    never true true = refl
    never true false = refl
    never false l = refl
forwarded_here p stamp x false e pending = late_after p stamp x (pending_late p stamp x e pending)

pub all_forwarded : (p : Params) (stamp : Stamp) (lines : List Line) → IsForwardedTo p (forward_limit p stamp) (map (forward_line p stamp) lines)
all_forwarded p stamp [] = tt
all_forwarded p stamp (x ∷ xs) = (forwarded_here p stamp x (is_to_forward p stamp x) refl, all_forwarded p stamp xs)

-- a cub did its forwarding: by a walk, or without one where all is forwarded up to the limit
pub forwarded_by_walk : (p : Params) (cub : ℕ) (stamp : Stamp) (old now : Store) (outs outs_now : List (Out Msg)) (view : Seen) → view ≡ record old.view { lines = map (forward_line p stamp) old.view.lines }
    → outs_now ≡ outs ++ flat_map (forward_outs p cub stamp) old.view.lines → now ≡ record old { view = view } → Did (forwarding p cub stamp old) outs outs_now now
unfolding forwarding
forwarded_by_walk p cub stamp old now outs outs_now view e f g = (f, g ∙ ap (λ (v : Seen). record old { view = v }) e)

pub forwarded_before : (p : Params) (cub : ℕ) → IsPlan p → (stamp : Stamp) (old : Store) (outs : List (Out Msg)) → IsForwardedTo p (forward_limit p stamp) old.view.lines → Did (forwarding p cub stamp old) outs outs old
forwarded_before p cub plan stamp old outs h =
    forwarded_by_walk p cub stamp old old outs outs old.view
    (ap (λ (ys : List Line). record_of old.view.params ys) (sym (nothing_marked p plan stamp old.view.lines h)))
    (sym (ap (λ (zs : List (Out Msg)). outs ++ zs) (nothing_out p cub plan stamp old.view.lines h) ∙ append-nil outs))
    refl

-- and what it may keep in mind then
pub forwarded_then : (p : Params) (stamp : Stamp) (limit : ℕ) (old view : Seen) → old.params ≡ p → limit ≡ forward_limit p stamp → view ≡ record old { lines = map (forward_line p stamp) old.lines } → IsForwardedTo view.params limit view.lines
forwarded_then p stamp limit old view plan is e =
    subst (λ (v : Seen). IsForwardedTo v.params limit v.lines) (sym e)
    (subst (λ (q : Params). IsForwardedTo q limit (map (forward_line p stamp) old.lines)) (sym plan)
    (subst (λ (n : ℕ). IsForwardedTo p n (map (forward_line p stamp) old.lines)) (sym is) (all_forwarded p stamp old.lines)))

pub forwarded_known : (p : Params) (stamp : Stamp) (limit : ℕ) (view : Seen) → view.params ≡ p → limit ≡ forward_limit p stamp → IsForwardedTo view.params limit view.lines → IsForwardedTo p (forward_limit p stamp) view.lines
forwarded_known p stamp limit view plan is h =
    subst (λ (n : ℕ). IsForwardedTo p n view.lines) is (subst (λ (q : Params). IsForwardedTo q limit view.lines) plan h)
