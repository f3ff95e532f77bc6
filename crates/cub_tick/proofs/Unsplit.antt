-- Which visits are split in a beat, beside the time from which on they are.
use Rattle.std.proofs.Common.{◌≡◌, ℕ, ◌<◌, ◌≤◌, Option, find, Bool, true, false, cond, not, ◌&&◌, List, [], ◌∷◌, ◌++◌, map, refl, sym, ap, subst, ◌∙◌, arith}
use Rattle.std.specs.List.{AllByRecursion, flat_map}
use Rattle.std.proofs.lemmas.Bool.{both_ways, leb-true, leb-false}
use Rattle.std.proofs.lemmas.List.{append-nil}
use Rattle.tiger_base.specs.declared.number.Stamp.{Stamp}
use Rattle.tiger_base.specs.declared.message.Msg.{Msg}
use Rattle.tiger_base.specs.declared.tenancy.PieceState.{PieceState}
use Rattle.tiger_base.specs.Kinds.{is_own}
use Rattle.node_kit.specs.declared.outbox.Out.{Out}
use Rattle.slot_plan.specs.declared.params.Params.{Params}
use Rattle.slot_plan.specs.Keys.{due_of}
use Rattle.partial_view.specs.declared.line.Line.{Line}
use Rattle.partial_view.specs.declared.line.Flag.TheVariants as flag
use Rattle.partial_view.specs.Lines.{key_of, marked}
use Rattle.partial_view.specs.Views.{Seen}
use Rattle.partial_view.proofs.Calls.{record_of}
use Rattle.partial_view.proofs.Order.{all_implies}
use Rattle.mirror_schedule.specs.Splits.{Split, with_split}
use Rattle.node_kit.specs.Deeds.{Did}
use Rattle.partial_view.specs.Pending.{is_unsplit, IsSplitFrom, is_unsplit_from}
use Rattle.cub_rules.specs.declared.store.Store.{Store}
use Rattle.cub_rules.specs.Records.{with_piece_record}
use Rattle.cub_rules.specs.Ticks.{must_split, split_line, split_outs, split_visits, first_pieces, with_each, splitting}
use Rattle.cub_tick.specs.Limits.{split_limit}
use Rattle.cub_tick.specs.Splitting.{with_split_of}
use Rattle.cub_tick.proofs.Steps.{none_given, none_changed}
use Rattle.cub_tick.proofs.Splits.{split_all, view_then}
use Rattle.cub_tick.proofs.Working.{find_same}

-- a visit that is split was still to be split, and is due at the limit or later
split_late : (p : Params) (stamp : Stamp) (x : Line) → must_split p stamp x ≡ true → (is_unsplit x ≡ true) × (split_limit p stamp ≤ due_of p (key_of x))
unfolding must_split split_limit
split_late p stamp x h =
    let parts = bits (not (is_own x.rec.kind)) (not x.split) _ h in
    (parts.0, leb-true _ _ parts.1)
  where
    bits : (a b c : Bool) → (a && b && c) ≡ true → ((a && b) ≡ true) × (c ≡ true)
    bits true true c e = (refl, e)
    bits true false c e = absurd (cc)
    bits false b c e = absurd (cc)

-- one that is still to be split and is not split now is due earlier
left_early : (p : Params) (stamp : Stamp) (x : Line) → must_split p stamp x ≡ false → is_unsplit x ≡ true → due_of p (key_of x) < split_limit p stamp
unfolding must_split split_limit
left_early p stamp x h unsplit = leb-false _ _ (bits (not (is_own x.rec.kind)) (not x.split) _ h unsplit)
  where
    bits : (a b c : Bool) → (a && b && c) ≡ false → (a && b) ≡ true → c ≡ false
    bits true true c e g = e
    bits true false c e g = absurd (cc)
    bits false b c e g = absurd (cc)

-- so those visits are split that are still to be and are due at the limit or later
to_split : (p : Params) (stamp : Stamp) (x : Line) → is_unsplit_from p (split_limit p stamp) x ≡ must_split p stamp x
unfolding must_split split_limit
to_split p stamp x = refl

pub split_first : (p : Params) (stamp : Stamp) (limit : ℕ) → limit ≡ split_limit p stamp → (now : Seen) → now.params ≡ p → {o : Option Line} → o ≡ find (is_unsplit_from now.params limit) now.lines → o ≡ find (must_split p stamp) now.lines
split_first p stamp limit is_limit now params e =
    e ∙ (ap (λ (q : Params). find (is_unsplit_from q limit) now.lines) params ∙ (ap (λ (n : ℕ). find (is_unsplit_from p n) now.lines) is_limit
    ∙ find_same (is_unsplit_from p (split_limit p stamp)) (must_split p stamp) (to_split p stamp) now.lines))

-- where all is split from the limit on no visit is split
stays_here : (p : Params) (stamp : Stamp) (x : Line) → (is_unsplit x ≡ true → due_of p (key_of x) < split_limit p stamp) → must_split p stamp x ≡ false
stays_here p stamp x h = by_test (must_split p stamp x) refl
  where
    by_test : (t : Bool) → must_split p stamp x ≡ t → must_split p stamp x ≡ false
    by_test false e = e
    by_test true e =
        let late = split_late p stamp x e in
        absurd (omega (arith, late.1, h late.0))

all_stay : (p : Params) (stamp : Stamp) (lines : List Line) → IsSplitFrom p (split_limit p stamp) lines → AllByRecursion (λ x. must_split p stamp x ≡ false) lines
all_stay p stamp lines h =
    all_implies (λ x. is_unsplit x ≡ true → due_of p (key_of x) < split_limit p stamp) (λ x. must_split p stamp x ≡ false) (λ x f. stays_here p stamp x f) lines h

-- a cub did its splitting: by a walk, or without one where all is split from the limit on
pub split_by_walk : (p : Params) (cub : ℕ) (stamp : Stamp) (old now : Store) (outs outs_now : List (Out Msg)) (view : Seen) → old.believes ≡ true
    → now ≡ with_split_of p stamp old.handback old.view.lines (record old.view { lines = map (split_line p stamp) old.view.lines }) old
    → outs_now ≡ outs ++ flat_map (split_outs p cub stamp old.handback) old.view.lines → view ≡ now.view → Did (splitting p cub stamp old) outs outs_now (record now { view = view })
split_by_walk p cub stamp old now outs outs_now view believes e f g =
    split_all p cub stamp old _ outs outs_now believes (ap (λ (v : Seen). record now { view = v }) g ∙ e) f

pub split_before : (p : Params) (cub : ℕ) (stamp : Stamp) (h : Store) (outs : List (Out Msg)) → h.believes ≡ true → IsSplitFrom p (split_limit p stamp) h.view.lines → Did (splitting p cub stamp h) outs outs h
split_before p cub stamp h outs believes known =
    let stay = all_stay p stamp h.view.lines known in
    let lines : map (split_line p stamp) h.view.lines ≡ h.view.lines = none_changed (must_split p stamp) (marked flag.Split) h.view.lines stay in
    let sent : flat_map (split_outs p cub stamp h.handback) h.view.lines ≡ [] = none_given (must_split p stamp) _ h.view.lines stay in
    let firsts : flat_map (first_pieces p stamp h.handback) h.view.lines ≡ [] = none_given (must_split p stamp) _ h.view.lines stay in
    let visits : flat_map (split_visits p stamp h.handback) h.view.lines ≡ [] = none_given (must_split p stamp) _ h.view.lines stay in
    split_all p cub stamp h h outs outs believes
    (sym (ap (λ (ps : List PieceState). with_each with_piece_record ps (record h { view = record_of h.view.params (map (split_line p stamp) h.view.lines); splits = with_each with_split (flat_map (split_visits p stamp h.handback) h.view.lines) h.splits })) firsts
    ∙ ap (λ (ss : List Split). record h { view = record_of h.view.params (map (split_line p stamp) h.view.lines); splits = with_each with_split ss h.splits }) visits
    ∙ ap (λ (ys : List Line). record h { view = record_of h.view.params ys }) lines))
    (sym (ap (λ (zs : List (Out Msg)). outs ++ zs) sent ∙ append-nil outs))

-- after the walk all is split from the limit on
split_here : (p : Params) (stamp : Stamp) (x : Line) (t : Bool) → must_split p stamp x ≡ t → is_unsplit (cond t (marked flag.Split x) x) ≡ true → due_of p (key_of (cond t (marked flag.Split x) x)) < split_limit p stamp
split_here p stamp x true e unsplit = absurd (both_ways (is_unsplit (marked flag.Split x)) (never (is_own x.rec.kind)) unsplit)
  where
    never : (a : Bool) → (not a && not true) ≡ false
    never true = refl
    never false = refl
split_here p stamp x false e unsplit = left_early p stamp x e unsplit

all_split : (p : Params) (stamp : Stamp) (lines : List Line) → IsSplitFrom p (split_limit p stamp) (map (split_line p stamp) lines)
all_split p stamp [] = tt
all_split p stamp (x ∷ xs) = (split_here p stamp x (must_split p stamp x) refl, all_split p stamp xs)

-- and what it may keep in mind then
pub split_then : (p : Params) (stamp : Stamp) (limit : ℕ) (old now : Store) → old.view.params ≡ p → limit ≡ split_limit p stamp
    → now ≡ with_split_of p stamp old.handback old.view.lines (record old.view { lines = map (split_line p stamp) old.view.lines }) old → IsSplitFrom now.view.params limit now.view.lines
split_then p stamp limit old now plan is e =
    let view : now.view ≡ record_of old.view.params (map (split_line p stamp) old.view.lines) =
    ap (λ (g : Store). g.view) e ∙ view_then p stamp old.handback old.view.lines (record_of old.view.params (map (split_line p stamp) old.view.lines)) old in
    subst (λ (v : Seen). IsSplitFrom v.params limit v.lines) (sym view)
    (subst (λ (q : Params). IsSplitFrom q limit (map (split_line p stamp) old.view.lines)) (sym plan)
    (subst (λ (n : ℕ). IsSplitFrom p n (map (split_line p stamp) old.view.lines)) (sym is) (all_split p stamp old.view.lines)))

pub split_known : (p : Params) (stamp : Stamp) (limit : ℕ) (view : Seen) → view.params ≡ p → limit ≡ split_limit p stamp → IsSplitFrom view.params limit view.lines → IsSplitFrom p (split_limit p stamp) view.lines
split_known p stamp limit view plan is h =
    subst (λ (n : ℕ). IsSplitFrom p n view.lines) is (subst (λ (q : Params). IsSplitFrom q limit view.lines) plan h)
