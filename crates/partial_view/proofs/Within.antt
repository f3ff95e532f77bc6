-- In which buckets the lines of an instance stand where a view changes, and where they are looked for.
use Rattle.std.proofs.Common.{◌≡◌, ◌==◌, ℕ, ◌<◌, Bool, true, false, cond, nat_lt, List, [], ◌∷◌, length, get_or, Option, Some, None, refl, sym, ap, subst, ◌∙◌}
use Rattle.std.specs.List.{AllByRecursion}
use Rattle.std.proofs.lemmas.Bool.{both_ways, eq-eqb, eqb-true}
use Rattle.tiger_base.specs.declared.number.Instance.{Instance}
use Rattle.tiger_base.specs.declared.tenancy.Rec.{Rec}
use Rattle.slot_plan.specs.declared.params.Params.{Params}
use Rattle.slot_plan.specs.Keys.{Key}
use Rattle.partial_view.specs.declared.line.Line.{Line}
use Rattle.partial_view.specs.declared.line.Flag.{Flag}
use Rattle.partial_view.specs.declared.spread.Span.{Span}
use Rattle.partial_view.specs.Lines.{key_of, visit_of, instance_of, is_of}
use Rattle.partial_view.specs.Views.{Seen, first_of, with_mark, with_record}
use Rattle.partial_view.specs.Wheel.{bucket_of, all_lines, IsWheel}
use Rattle.partial_view.specs.Work.{with_mark_of, without_of}
use Rattle.partial_view.specs.Spread.{most_spans, no_bucket, span_of, IsInSpan, AreInSpan, AreSpread}
use Rattle.partial_view.proofs.Calls.{record_of}
use Rattle.partial_view.proofs.Dues.{stands_at}
use Rattle.partial_view.proofs.Order.{all_implies, all_filter, all_marked, all_without}
use Rattle.partial_view.proofs.Pending.{rec_marked, all_with_record}
use Rattle.partial_view.proofs.Rounds.{bucket-at, bucket-found, seen-of}

-- the span of an instance, by what the row has in its place
abbrev span_at : ℕ → Span → Option Span
span_at n s = cond (nat_lt n most_spans) (Some s) None

-- lines of an instance are looked for in the buckets of its span
pub of-span : (p : Params) (spans : List Span) (v : Instance) (span : Option Span) (lines : List Line) → span ≡ span_of spans v.0 → AreSpread p spans lines → AreInSpan p v span lines
of-span p spans v span lines is h =
    all_implies (λ x. IsInSpan (span_of spans (instance_of x).0) (bucket_of p (key_of x))) (λ x. is_of v x ≡ true → IsInSpan span (bucket_of p (key_of x)))
    (λ x here own. subst (λ (s : Option Span). IsInSpan s (bucket_of p (key_of x))) (ap (λ n. span_of spans n) (eqb-true _ _ own) ∙ sym is) here) lines h

pub span-lent : (p : Params) (bs cs : List Seen) (v : Instance) (span : Option Span) {s : Seen} → record_of p (all_lines p bs) ≡ s → cs ≡ bs → AreInSpan s.params v span s.lines → AreInSpan p v span (all_lines p cs)
span-lent p bs cs v span view e h = subst (λ (r : Seen). AreInSpan r.params v span r.lines) (sym (seen-of p bs cs view e)) h

-- those of a bucket stand in it
pub in-bucket : (p : Params) (v : Instance) (span : Option Span) (bs : List Seen) (i : ℕ) (b : Seen) → IsWheel p bs → i < length bs → b ≡ get_or bs i b → AreInSpan p v span (all_lines p bs)
    → AllByRecursion (λ x. is_of v x ≡ true → IsInSpan span i) b.lines
in-bucket p v span bs i b h l e within =
    let at = bucket-at p bs i b h (stands_at bs i b e l) in
    let found = bucket-found p bs i b h l e in
    each b.lines at.own (subst (λ (ls : List Line). AreInSpan p v span ls) (sym found.1) (all_filter (λ x. is_of v x ≡ true → IsInSpan span (bucket_of p (key_of x))) (λ x. bucket_of p (key_of x) == i) (all_lines p bs) within))
  where
    each : (ls : List Line) → AllByRecursion (λ x. bucket_of p (key_of x) ≡ i) ls → AreInSpan p v span ls → AllByRecursion (λ x. is_of v x ≡ true → IsInSpan span i) ls
    each [] f g = tt
    each (x ∷ xs) f g = (λ own. subst (λ n. IsInSpan span n) f.0 (g.0 own), each xs f.1 g.1)

-- so a bucket beside the span has none
pub none-in : (v : Instance) (span : Option Span) (i : ℕ) (lines : List Line) → (IsInSpan span i → ⊥) → AllByRecursion (λ x. is_of v x ≡ true → IsInSpan span i) lines → None ≡ first_of v lines
unfolding first_of
none-in v span i [] out h = refl
none-in v span i (x ∷ xs) out h = at_test (is_of v x) refl (none-in v span i xs out h.1)
  where
    at_test : (t : Bool) → is_of v x ≡ t → None ≡ first_of v xs → None ≡ cond t (Some x) (first_of v xs)
    at_test true is rest = absurd (out (h.0 is))
    at_test false is rest = rest

-- a flag is set, or a line taken out
pub spread_mark : (p : Params) (spans : List Span) (k : Key) (flag : Flag) (lines : List Line) → AreSpread p spans lines → AreSpread p spans (with_mark k flag lines)
spread_mark p spans k flag lines h =
    all_marked (λ x. IsInSpan (span_of spans (instance_of x).0) (bucket_of p (key_of x))) k flag
    (λ x g. subst (λ (r : Rec). IsInSpan (span_of spans r.tenancy.instance.0) (bucket_of p (visit_of r))) (sym (rec_marked flag x)) g) lines h

pub spread_mark_of : (p : Params) (spans : List Span) (flag : Flag) (o : Option Line) (lines : List Line) → AreSpread p spans lines → AreSpread p spans (with_mark_of flag o lines)
spread_mark_of p spans flag None lines h = h
spread_mark_of p spans flag (Some x) lines h = spread_mark p spans (key_of x) flag lines h

pub spread_without_of : (p : Params) (spans : List Span) (o : Option Line) (lines : List Line) → AreSpread p spans lines → AreSpread p spans (without_of o lines)
spread_without_of p spans None lines h = h
spread_without_of p spans (Some x) lines h = all_without (λ y. IsInSpan (span_of spans (instance_of y).0) (bucket_of p (key_of y))) (key_of x) lines h

-- there is a place more for spans, and then a line more
pub spread_grown : (p : Params) (old new : List Span) (lines : List Line) → ((n : ℕ) → get_or new n no_bucket ≡ get_or old n no_bucket) → AreSpread p old lines → AreSpread p new lines
spread_grown p old new lines same h =
    all_implies (λ x. IsInSpan (span_of old (instance_of x).0) (bucket_of p (key_of x))) (λ x. IsInSpan (span_of new (instance_of x).0) (bucket_of p (key_of x)))
    (λ x g. subst (λ (s : Option Span). IsInSpan s (bucket_of p (key_of x))) (ap (λ (s : Span). span_at (instance_of x).0 s) (sym (same (instance_of x).0))) g) lines h

pub spread_record : (p : Params) (grown new : List Span) (r : Rec) (bucket : ℕ) (lines : List Line) → bucket_of p (visit_of r) ≡ bucket → IsInSpan (span_of new r.tenancy.instance.0) bucket
    → ((n i : ℕ) → IsInSpan (span_of grown n) i → IsInSpan (span_of new n) i) → AreSpread p grown lines → AreSpread p new (with_record p r lines)
spread_record p grown new r bucket lines is here wider h =
    all_with_record (λ x. IsInSpan (span_of new (instance_of x).0) (bucket_of p (key_of x))) p r lines
    (all_implies (λ x. IsInSpan (span_of grown (instance_of x).0) (bucket_of p (key_of x))) (λ x. IsInSpan (span_of new (instance_of x).0) (bucket_of p (key_of x)))
    (λ x g. wider (instance_of x).0 (bucket_of p (key_of x)) g) lines h)
    (subst (λ n. IsInSpan (span_of new r.tenancy.instance.0) n) (sym is) here)

-- the span of an instance without a line is emptied
pub spread_emptied : (p : Params) (old new : List Span) (v : Instance) (lines : List Line) → ((n : ℕ) → (n ≡ v.0 → ⊥) → span_of new n ≡ span_of old n) → first_of v lines ≡ None → AreSpread p old lines → AreSpread p new lines
unfolding first_of
spread_emptied p old new v [] same none h = tt
spread_emptied p old new v (x ∷ xs) same none h = at_test (is_of v x) refl (spread_emptied p old new v xs same) none
  where
    at_test : (t : Bool) → is_of v x ≡ t → (first_of v xs ≡ None → AreSpread p old xs → AreSpread p new xs) → cond t (Some x) (first_of v xs) ≡ None → AreSpread p new (x ∷ xs)
    at_test true is rest e = absurd (cc)
    at_test false is rest e = (
      subst (λ (s : Option Span). IsInSpan s (bucket_of p (key_of x))) (sym (same (instance_of x).0 (λ one. both_ways (is_of v x) is (eq-eqb (instance_of x).0 v.0 one)))) h.0,
      rest e h.1,
    )
