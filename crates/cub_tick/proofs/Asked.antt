-- Which lines' blocks are asked for, beside the time before which they are.
use Rattle.std.proofs.Common.{◌≡◌, ℕ, ◌+◌, ◌*◌, ◌<◌, ◌≤◌, arith, Bool, true, false, cond, not, ◌&&◌, Option, find, List, [], ◌∷◌, ◌++◌, map, append_assoc, refl, sym, ap, subst, ◌∙◌}
use Rattle.std.specs.List.{AllByRecursion, flat_map, filter}
use Rattle.std.proofs.lemmas.Bool.{both_ways, leb-true, leb-false}
use Rattle.std.proofs.lemmas.List.{append-nil}
use Rattle.tiger_base.specs.declared.number.Stamp.{Stamp}
use Rattle.tiger_base.specs.declared.message.Msg.{Msg}
use Rattle.tiger_base.specs.Kinds.{is_own}
use Rattle.slot_plan.specs.declared.params.Params.{Params}
use Rattle.slot_plan.specs.Conditions.{IsPlan}
use Rattle.slot_plan.proofs.Times.{product_le}
use Rattle.mirror_pieces.specs.Pieces.{piece_disk}
use Rattle.std.proofs.lemmas.Nat.{mod_below}
use Rattle.slot_plan.specs.Keys.{due_of}
use Rattle.node_kit.specs.declared.outbox.Out.{Out}
use Rattle.partial_view.specs.declared.line.Line.{Line}
use Rattle.partial_view.specs.declared.line.Flag.TheVariants.{Asked}
use Rattle.partial_view.specs.Lines.{key_of, marked}
use Rattle.partial_view.specs.Views.{Seen}
use Rattle.partial_view.specs.Work.{is_between, first_between}
use Rattle.partial_view.specs.Pending.{is_unasked, IsAskedBefore}
use Rattle.partial_view.proofs.Calls.{record_of}
use Rattle.partial_view.proofs.Order.{all_implies}
use Rattle.mirror_schedule.specs.Pieces.{Pieces}
use Rattle.node_kit.specs.Deeds.{Did}
use Rattle.cub_rules.specs.declared.comeback.Comeback.{Comeback}
use Rattle.cub_rules.specs.declared.store.Store.{Store}
use Rattle.cub_rules.specs.Records.{pieces_but}
use Rattle.cub_rules.specs.Ticks.{must_read, ask_line, ask_outs, reading, reading_blocks, reading_pieces, asked_of_disk, leaves_by}
use Rattle.cub_tick.proofs.Steps.{none_given, none_changed}
use Rattle.cub_tick.proofs.Working.{from_start, find_same}

-- a block is asked for if that is still to be done and the line is due by the end of the read lead
to_read : (p : Params) (stamp : Stamp) (x : Line) → is_between p is_unasked 0 (stamp.reading + p.read_lead) x ≡ must_read p stamp x
unfolding must_read
to_read p stamp x = from_start p is_unasked (stamp.reading + p.read_lead) x

pub ask_first : (p : Params) (stamp : Stamp) (time : ℕ) → time ≡ stamp.reading + p.read_lead → (now : Seen) → now.params ≡ p → {o : Option Line} → o ≡ first_between now.params is_unasked 0 time now.lines → o ≡ find (must_read p stamp) now.lines
unfolding first_between
ask_first p stamp time is_time now params e =
    e ∙ (ap (λ (q : Params). find (is_between q is_unasked 0 time) now.lines) params ∙ (ap (λ (n : ℕ). find (is_between p is_unasked 0 n) now.lines) is_time
    ∙ find_same (is_between p is_unasked 0 (stamp.reading + p.read_lead)) (must_read p stamp) (to_read p stamp) now.lines))

-- a block is asked for once
pub ask_once : (p : Params) (stamp : Stamp) (x : Line) → must_read p stamp (marked Asked x) ≡ false
unfolding must_read
ask_once p stamp x = never (is_own x.rec.kind) _
  where
    never : (o t : Bool) → ((o && false) && t) ≡ false
    never true t = refl
    never false t = refl

-- a block that is asked for was still to be asked for, and is due by the end of the read lead
read_soon : (p : Params) (stamp : Stamp) (x : Line) → must_read p stamp x ≡ true → (is_unasked x ≡ true) × (due_of p (key_of x) ≤ stamp.reading + p.read_lead)
unfolding must_read
read_soon p stamp x h =
    let parts = bits (is_own x.rec.kind) (not x.asked) _ h in
    (parts.0, leb-true _ _ parts.1)
  where
    bits : (a b c : Bool) → (a && b && c) ≡ true → ((a && b) ≡ true) × (c ≡ true)
    bits true true c e = (refl, e)
    bits true false c e = absurd (cc)
    bits false b c e = absurd (cc)

-- one that is still to be asked for and is not asked for now is due later
left_late : (p : Params) (stamp : Stamp) (x : Line) → must_read p stamp x ≡ false → is_unasked x ≡ true → stamp.reading + p.read_lead + 1 ≤ due_of p (key_of x)
unfolding must_read
left_late p stamp x h unasked =
    let late : stamp.reading + p.read_lead < due_of p (key_of x) = leb-false _ _ (bits (is_own x.rec.kind) (not x.asked) _ h unasked) in
    omega (arith, late)
  where
    bits : (a b c : Bool) → (a && b && c) ≡ false → (a && b) ≡ true → c ≡ false
    bits true true c e g = e
    bits true false c e g = absurd (cc)
    bits false b c e g = absurd (cc)

-- where none is still to be asked for that is due so early, none is asked for
stays_here : (p : Params) (stamp : Stamp) (x : Line) → (is_unasked x ≡ true → stamp.reading + p.read_lead + 1 ≤ due_of p (key_of x)) → must_read p stamp x ≡ false
stays_here p stamp x h = by_test (must_read p stamp x) refl
  where
    by_test : (t : Bool) → must_read p stamp x ≡ t → must_read p stamp x ≡ false
    by_test false e = e
    by_test true e =
        let soon = read_soon p stamp x e in
        absurd (omega (arith, soon.1, h soon.0))

all_stay : (p : Params) (stamp : Stamp) (view : Seen) → view.params ≡ p → IsAskedBefore view.params (stamp.reading + p.read_lead + 1) view.lines → AllByRecursion (λ x. must_read p stamp x ≡ false) view.lines
all_stay p stamp view plan h =
    all_implies (λ x. is_unasked x ≡ true → stamp.reading + p.read_lead + 1 ≤ due_of p (key_of x)) (λ x. must_read p stamp x ≡ false) (λ x f. stays_here p stamp x f) view.lines
    (subst (λ (q : Params). IsAskedBefore q (stamp.reading + p.read_lead + 1) view.lines) plan h)

pub asked_view : (p : Params) (stamp : Stamp) (view : Seen) → view.params ≡ p → IsAskedBefore view.params (stamp.reading + p.read_lead + 1) view.lines → view ≡ record view { lines = map (ask_line p stamp) view.lines }
asked_view p stamp view plan h =
    let lines : map (ask_line p stamp) view.lines ≡ view.lines = none_changed (must_read p stamp) (marked Asked) view.lines (all_stay p stamp view plan h) in
    ap (λ (ys : List Line). record_of view.params ys) (sym lines)

pub asked_outs : (p : Params) (stamp : Stamp) (back : Option Comeback) (view : Seen) (outs : List (Out Msg)) → view.params ≡ p → IsAskedBefore view.params (stamp.reading + p.read_lead + 1) view.lines → outs ≡ outs ++ flat_map (ask_outs p stamp back) view.lines
asked_outs p stamp back view outs plan h =
    let none : flat_map (ask_outs p stamp back) view.lines ≡ [] = none_given (must_read p stamp) _ view.lines (all_stay p stamp view plan h) in
    sym (ap (λ (zs : List (Out Msg)). outs ++ zs) none ∙ append-nil outs)

-- after the walk all are asked for that are due so early
asked_here : (p : Params) (stamp : Stamp) (x : Line) (t : Bool) → must_read p stamp x ≡ t → is_unasked (cond t (marked Asked x) x) ≡ true → stamp.reading + p.read_lead + 1 ≤ due_of p (key_of (cond t (marked Asked x) x))
asked_here p stamp x true e unasked = absurd (both_ways (is_unasked (marked Asked x)) (never (is_own x.rec.kind)) unasked)
  where
    never : (a : Bool) → (a && not true) ≡ false
    never true = refl
    never false = refl
asked_here p stamp x false e unasked = left_late p stamp x e unasked

all_asked : (p : Params) (stamp : Stamp) (lines : List Line) → IsAskedBefore p (stamp.reading + p.read_lead + 1) (map (ask_line p stamp) lines)
all_asked p stamp [] = tt
all_asked p stamp (x ∷ xs) = (asked_here p stamp x (must_read p stamp x) refl, all_asked p stamp xs)

pub asked_then : (p : Params) (stamp : Stamp) (old view : Seen) → old.params ≡ p → view ≡ record old { lines = map (ask_line p stamp) old.lines } → IsAskedBefore view.params (stamp.reading + p.read_lead + 1) view.lines
asked_then p stamp old view plan e =
    subst (λ (v : Seen). IsAskedBefore v.params (stamp.reading + p.read_lead + 1) v.lines) (sym e)
    (subst (λ (q : Params). IsAskedBefore q (stamp.reading + p.read_lead + 1) (map (ask_line p stamp) old.lines)) (sym plan) (all_asked p stamp old.lines))

-- the reading of blocks, and then of pieces
pub read_all : (p : Params) (stamp : Stamp) (old now : Store) (outs outs_then outs_now : List (Out Msg)) (view : Seen) (unasked : Pieces)
    → view ≡ record old.view { lines = map (ask_line p stamp) old.view.lines } → outs_then ≡ outs ++ flat_map (ask_outs p stamp old.comeback) old.view.lines
    → unasked ≡ pieces_but (leaves_by p (stamp.reading + p.read_lead)) old.unasked
    → outs_now ≡ outs_then ++ map (asked_of_disk p) (filter (leaves_by p (stamp.reading + p.read_lead)) old.unasked.items)
    → now ≡ record old { view = view; unasked = unasked } → Did (reading p stamp old) outs outs_now now
unfolding reading reading_blocks reading_pieces
read_all p stamp old now outs outs_then outs_now view unasked v o q r n = (
  r ∙ (ap (λ (zs : List (Out Msg)). zs ++ map (asked_of_disk p) (filter (leaves_by p (stamp.reading + p.read_lead)) old.unasked.items)) o ∙ append_assoc outs (flat_map (ask_outs p stamp old.comeback) old.view.lines) _),
  n ∙ (ap (λ (w : Seen). record old { view = w; unasked = unasked }) v ∙ ap (λ (w : Pieces). record old { view = record old.view { lines = map (ask_line p stamp) old.view.lines }; unasked = w }) q),
)

-- a disk that is asked is the plan's
pub piece_disk_below : (p : Params) → IsPlan p → (d k : ℕ) → piece_disk d k (p.cubs * p.disks) < p.cubs * p.disks
unfolding piece_disk
piece_disk_below p plan d k = mod_below (d + k) (p.cubs * p.disks) (omega (arith, plan.ranges.cubs, product_le 3 1 p.cubs p.disks plan.ranges.cubs.0 plan.ranges.disks.0))
